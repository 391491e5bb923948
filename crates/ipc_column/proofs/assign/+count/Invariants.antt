use Rattle.std.proofs.Common.{◌≡◌, ◌+◌, drop}
use Rattle.ipc_column.specs.Shapes.{shape_of, node_count, buffer_count}
use Rattle.ipc_column.proofs.assign.+count.Given as goal

abbrev pub invariant-count-loop-field : goal.invariant-count-loop-field
invariant-count-loop-field l = record {
  nodes : l.place.node + node_count (shape_of (drop l.field-index l.fields)) ≡ l.fn.before.node + node_count (shape_of l.fields);
  buffers : l.place.buffer + buffer_count (shape_of (drop l.field-index l.fields)) ≡ l.fn.before.buffer + buffer_count (shape_of l.fields);
}
