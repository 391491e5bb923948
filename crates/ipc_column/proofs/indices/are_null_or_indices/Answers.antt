use Rattle.std.proofs.Common.{◌∙◌, sym, ◌+◌, ◌*◌, ◌≤◌, arith}
use Rattle.std.proofs.Math.Nat.{mul-le-mul_left}
use Rattle.ipc_model.specs.Layouts.{number_bytes}
use Rattle.ipc_column.specs.checks.Checks.{index_good}
use Rattle.ipc_column.proofs.visited.Goods.{slots_fail, slots_more}
use Rattle.ipc_column.proofs.lending.Slots.{bitmap_upto}
use Rattle.ipc_column.proofs.indices.are_null_or_indices.Goals as goal

pub is_null_or_index-requires-clause-inside : goal.is_null_or_index-requires-clause-inside
is_null_or_index-requires-clause-inside c =
    let more : number_bytes c.args.bits * (c.loop-slot.slot + 1) ≤ number_bytes c.args.bits * c.args.to =
    mul-le-mul_left (number_bytes c.args.bits) (let n : c.loop-slot.slot + 1 ≤ c.args.to = omega arith in n) in
    omega (arith, more, c.requires.inside)

pub is_null_or_index-requires-clause-bitmap : goal.is_null_or_index-requires-clause-bitmap
is_null_or_index-requires-clause-bitmap c = bitmap_upto c.args.to (c.loop-slot.slot + 1) _ c.requires.bitmap (omega arith)

pub returns-then-not-is_null_or_index-clause-good : goal.returns-then-not-is_null_or_index-clause-good
returns-then-not-is_null_or_index-clause-good c =
    sym (slots_fail (index_good c.args.validity.now c.args.bits c.args.signed c.args.count c.args.indices.now) c.args.from c.args.to
    c.loop-slot.slot (omega arith) (omega arith) (sym c.is_null_or_index.ensures.good ∙ c.if-not-is_null_or_index.true))

pub loop-slot-preserved : goal.loop-slot-preserved
loop-slot-preserved c = record {
  visited = omega (arith, c.is_null_or_index.ensures.counted, c.loop-slot.invariant.visited);
  good = slots_more (index_good c.args.validity.now c.args.bits c.args.signed c.args.count c.args.indices.now) c.args.from c.loop-slot.slot
      (omega arith) c.loop-slot.invariant.good (sym c.is_null_or_index.ensures.good ∙ c.if-not-is_null_or_index.false);
}
