-- What is a record batch under some limits is one under all that cover them.
use Rattle.std.proofs.Common.{ℕ, ℤ, List, arith}
use Rattle.std.proofs.lemmas.Int.{ints}
use Rattle.std.proofs.lemmas.List.Elements.{All-weaker}
use Rattle.ipc_model.specs.Limits.{Covers}
use Rattle.ipc_model.specs.declared.limits.Limits.{Limits}
use Rattle.ipc_model.specs.declared.schema.Field.{Field}
use Rattle.ipc_model.specs.declared.value.Value.{Value}
use Rattle.ipc_meta.specs.declared.head.BatchHead.{BatchHead}
use Rattle.ipc_column.specs.checks.Rules.{IsSlotCount, IsFieldNode}
use Rattle.ipc_column.specs.Dictionaries.{Dictionaries}
use Rattle.ipc_column.specs.Rows.{Rows}

count_wider : (limits others : Limits) (count : ℤ) → Covers others limits → IsSlotCount limits count → IsSlotCount others count
count_wider limits others count c h = record { from = h.from; to = omega (arith, ints, h.to, c.slots) }

node_wider : (limits others : Limits) (node : ℤ × ℤ) → Covers others limits → IsFieldNode limits node → IsFieldNode others node
node_wider limits others node c h = record {
  slots = count_wider limits others node.0 c h.slots;
  nulls_from = h.nulls_from;
  nulls_to = h.nulls_to;
}

-- the parts that give rows under some limits give them under all that cover them
pub rows_wider : (limits others : Limits) (m : Dictionaries) (fields : List Field) (head : BatchHead) (body : List ℕ) (rows : List
    (List Value))
    → Covers others limits → Rows limits m fields head body rows → Rows others m fields head body rows
rows_wider limits others m fields head body rows c r = record {
  nodes = r.nodes;
  buffers = r.buffers;
  lengths = record {
    batch = count_wider limits others head.length c r.lengths.batch;
    nodes = All-weaker (IsFieldNode limits) (IsFieldNode others) (λ node. node_wider limits others node c) head.nodes r.lengths.nodes;
    columns = r.lengths.columns;
    children = r.lengths.children;
  };
  ranges = r.ranges;
  bytes = r.bytes;
  null_counts = r.null_counts;
  order = r.order;
  texts = r.texts;
  indices = r.indices;
  count = r.count;
  values = r.values;
}
