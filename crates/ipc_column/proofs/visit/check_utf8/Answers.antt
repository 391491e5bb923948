use Rattle.std.proofs.Common.{◌∙◌, sym, ap, arith}
use Rattle.ipc_model.specs.Layouts.{is_texts}
use Rattle.ipc_column.specs.Views.{column_of, children_of}
use Rattle.ipc_column.proofs.lending.Slots.{part_long, part_most}
use Rattle.ipc_column.proofs.visited.Visited.{layout_is, texts_judged, texts_of, texts_part, texts_pass_part, visited_judged}
use Rattle.ipc_column.proofs.visited.Weights.{texts_weight}
use Rattle.ipc_column.proofs.visit.check_utf8.Goals as goal

pub are_null_or_texts-requires-clause-bitmap : goal.are_null_or_texts-requires-clause-bitmap
are_null_or_texts-requires-clause-bitmap c =
    rw c.bytes_at-validity.ensures (part_long c.args.body.now c.args.part.now c.args.from c.args.to c.requires.slots).bitmap

pub are_null_or_texts-requires-clause-bytes : goal.are_null_or_texts-requires-clause-bytes
are_null_or_texts-requires-clause-bytes c =
    rw c.bytes_at-offsets.ensures (texts_of c.args.body.now c.args.part.now c.args.from c.args.to c.requires.slots c.requires.some
    (ap is_texts (sym (layout_is c.args.body.now c.args.part.now)) ∙ c.requires.texts)).bytes

pub are_null_or_texts-requires-clause-order : goal.are_null_or_texts-requires-clause-order
are_null_or_texts-requires-clause-order c =
    rw (c.bytes_at-offsets.ensures, c.bytes_at-values.ensures)
    (texts_of c.args.body.now c.args.part.now c.args.from c.args.to c.requires.slots c.requires.some
    (ap is_texts (sym (layout_is c.args.body.now c.args.part.now)) ∙ c.requires.texts)).order

pub are_null_or_texts-requires-clause-fits : goal.are_null_or_texts-requires-clause-fits
are_null_or_texts-requires-clause-fits c =
    let w = texts_weight (column_of c.args.body.now c.args.part.now) (children_of c.args.body.now c.args.part.now) c.args.from c.args.to
    (visited_judged c.args.body.now c.args.part.now (texts_judged (column_of c.args.body.now c.args.part.now).layout c.requires.texts)) in
    omega (arith, w, c.requires.room)

pub are_null_or_texts-requires-clause-inside : goal.are_null_or_texts-requires-clause-inside
are_null_or_texts-requires-clause-inside c =
    let most = part_most c.args.body.now c.args.part.now c.args.from c.args.to c.requires.slots in
    omega (arith, most)

pub returns-then-are_null_or_texts-clause-judged : goal.returns-then-are_null_or_texts-clause-judged
returns-then-are_null_or_texts-clause-judged c =
    texts_pass_part c.args.body.now c.args.part.now c.args.from c.args.to c.requires.texts
    (rw (c.bytes_at-validity.ensures, c.bytes_at-offsets.ensures, c.bytes_at-values.ensures) at
    (sym c.are_null_or_texts.ensures.good ∙ c.if-are_null_or_texts.true))

pub returns-else-are_null_or_texts-clause-judged : goal.returns-else-are_null_or_texts-clause-judged
returns-else-are_null_or_texts-clause-judged c =
    sym (texts_part c.args.body.now c.args.part.now c.args.from c.args.to c.requires.texts)
    ∙ (rw (c.bytes_at-validity.ensures, c.bytes_at-offsets.ensures, c.bytes_at-values.ensures) at
    (sym c.are_null_or_texts.ensures.good ∙ c.if-are_null_or_texts.false))

pub returns-then-are_null_or_texts-clause-cost : goal.returns-then-are_null_or_texts-clause-cost
returns-then-are_null_or_texts-clause-cost c =
    let w = texts_weight (column_of c.args.body.now c.args.part.now) (children_of c.args.body.now c.args.part.now) c.args.from c.args.to
    (visited_judged c.args.body.now c.args.part.now (texts_judged (column_of c.args.body.now c.args.part.now).layout c.requires.texts)) in
    omega (arith, w, c.are_null_or_texts.ensures.counted)

pub returns-else-are_null_or_texts-clause-cost : goal.returns-else-are_null_or_texts-clause-cost
returns-else-are_null_or_texts-clause-cost c =
    let w = texts_weight (column_of c.args.body.now c.args.part.now) (children_of c.args.body.now c.args.part.now) c.args.from c.args.to
    (visited_judged c.args.body.now c.args.part.now (texts_judged (column_of c.args.body.now c.args.part.now).layout c.requires.texts)) in
    omega (arith, w, c.are_null_or_texts.ensures.counted)
