use Rattle.std.proofs.Common.{◌∙◌, sym, arith}
use Rattle.ipc_column.specs.checks.Checks.{text_good}
use Rattle.ipc_column.proofs.visited.Goods.{slots_more, slots_fail}
use Rattle.ipc_column.proofs.texts.are_null_or_texts.Goals as goal

pub returns-then-not-is_null_or_text-clause-good : goal.returns-then-not-is_null_or_text-clause-good
returns-then-not-is_null_or_text-clause-good c =
    sym (slots_fail (text_good c.args.validity.now c.args.offsets.now c.args.values.now) c.args.from c.args.to c.loop-slot.slot
    (omega arith)
    (omega arith) (sym c.is_null_or_text.ensures.good ∙ c.if-not-is_null_or_text.true))

pub loop-slot-preserved : goal.loop-slot-preserved
loop-slot-preserved c = record {
  visited = omega (arith, c.is_null_or_text.ensures.counted, c.loop-slot.invariant.visited);
  good = slots_more (text_good c.args.validity.now c.args.offsets.now c.args.values.now) c.args.from c.loop-slot.slot (omega arith)
      c.loop-slot.invariant.good (sym c.is_null_or_text.ensures.good ∙ c.if-not-is_null_or_text.false);
}
