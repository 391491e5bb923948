-- A builder holds the same rows under any indices that agree on their values.
use Rattle.ipc_column.specs.Shapes.{shape_of}
use Rattle.ipc_encode.specs.Buffers.{row_columns}
use Rattle.ipc_encode.specs.Built.{HoldsAgreeing}
use Rattle.ipc_encode.proofs.Indexed.{columns_agree}
use Rattle.ipc_encode.specs.Numbers.{Numbering}

-- the numbering with index 0 for every value
abbrev pub no_indices : Numbering
no_indices id value = 0

pub holds_agreeing : HoldsAgreeing
holds_agreeing known others limits fields rows builder same h = record {
  limits_are = h.limits_are;
  works = h.works;
  count = h.count;
  bounded = h.bounded;
  columns_are = columns_agree known others builder.bounds (shape_of fields) builder.nodes.items (row_columns rows) same h.columns_are;
  within = h.within;
}
