use Rattle.std.proofs.Common.{◌∙◌, sym, arith}
use Rattle.ipc_column.proofs.visited.Marking.{own_slots}
use Rattle.ipc_column.proofs.visited.Visited.{indices_bytes, layout_is, texts_of}
use Rattle.ipc_column.specs.declared.ranges.ColumnRanges.TheViews.{out-ColumnRanges}
use Rattle.ipc_column.proofs.slot_facts.are_slots_valid.Goals as goal

pub are_texts-requires-clause-bytes : goal.are_texts-requires-clause-bytes
are_texts-requires-clause-bytes c =
    rw c.bytes_at.ensures (texts_of c.args.body.now c.args.part.now 0 (out-ColumnRanges c.args.part.now).slots
    (own_slots c.args.body.now c.args.part.now c.requires) (omega arith) (sym c.is_texts.ensures ∙ c.if-is_texts.true)).bytes

pub are_texts-requires-clause-order : goal.are_texts-requires-clause-order
are_texts-requires-clause-order c =
    rw (c.bytes_at.ensures, c.bytes_at-values.ensures) (texts_of c.args.body.now c.args.part.now 0 (out-ColumnRanges c.args.part.now).slots
    (own_slots c.args.body.now c.args.part.now c.requires) (omega arith) (sym c.is_texts.ensures ∙ c.if-is_texts.true)).order

pub are_indices-requires : goal.are_indices-requires
are_indices-requires c =
    rw c.bytes_at-values.ensures (indices_bytes c.args.body.now c.args.part.now c.in-Indices.bits c.in-Indices.signed 0
    (out-ColumnRanges c.args.part.now).slots (own_slots c.args.body.now c.args.part.now c.requires) (omega arith)
    (c.in-Indices.id, layout_is c.args.body.now c.args.part.now ∙ c.in-Indices.is))
