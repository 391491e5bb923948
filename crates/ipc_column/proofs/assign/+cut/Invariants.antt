use Rattle.std.proofs.Common.{◌≡◌, ◌+◌, ℕ, List, length, drop}
use Rattle.ipc_column.specs.DictionaryBatches.{dictionaries_in}
use Rattle.ipc_column.specs.Views.{part_columns}
use Rattle.ipc_column.specs.Shapes.{shape_of, node_count, buffer_count, assigned_columns}
use Rattle.ipc_column.proofs.assign.+cut.Given as goal
use Rattle.ipc_column.proofs.Fields.{beside}

abbrev pub invariant-assign_buffers-loop-field : goal.invariant-assign_buffers-loop-field
invariant-assign_buffers-loop-field l = record {
  parts : (body : List ℕ) → beside (part_columns body l.parts.items)
      (assigned_columns (dictionaries_in l.dictionaries) (shape_of (drop l.field-index l.fields)) l.head body l.place.node l.place.buffer)
      ≡ assigned_columns (dictionaries_in l.dictionaries) (shape_of l.fields) l.head body l.fn.at.node l.fn.at.buffer;
  number : length l.parts.items ≡ l.field-index;
  nodes : l.place.node + node_count (shape_of (drop l.field-index l.fields)) ≡ l.fn.at.node + node_count (shape_of l.fields);
  buffers : l.place.buffer + buffer_count (shape_of (drop l.field-index l.fields)) ≡ l.fn.at.buffer + buffer_count (shape_of l.fields);
}
