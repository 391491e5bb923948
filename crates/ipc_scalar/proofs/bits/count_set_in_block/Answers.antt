use Rattle.std.proofs.Common.{ℕ, ◌<◌, ◌≤◌, ◌∙◌, ◌^◌, List, get_or, take, count_ones, ap, arith}
use Rattle.std.specs.List.{sum_by}
use Rattle.std.specs.Simd.Lanes.{number_l, digits_l}
use Rattle.std.proofs.lemmas.Nat.{ones-le}
use Rattle.std.proofs.lemmas.List.{take_all}
use Rattle.std.proofs.lemmas.List.Sums.{sum_by_more}
use Rattle.ipc_scalar.proofs.Counts.{block_ones}
use Rattle.ipc_scalar.proofs.bits.count_set_in_block.Goals as goal

-- the words of a block
abbrev words : List ℕ → List ℕ
words block = digits_l (2 ^ 64) 4 (number_l 256 (take 32 block))

pub overflow_add-set : goal.overflow_add-set
overflow_add-set c =
    let most : count_ones (get_or (words c.args.block.now) c.loop-word.word-index 0) ≤ 64 =
    ones-le 64 _ c.loop-word-test.element_fits.fits in
    omega (arith, most, c.from-set.ensures)

pub loop-word-preserved : goal.loop-word-preserved
loop-word-preserved c =
    let most : count_ones (get_or (words c.args.block.now) c.loop-word.word-index 0) ≤ 64 =
    ones-le 64 _ c.loop-word-test.element_fits.fits in
    let more = sum_by_more count_ones (words c.args.block.now) c.loop-word.word-index 0 c.loop-word-test.true in
    record {
      counted = omega (arith, more, c.from-set.ensures, c.loop-word.invariant.counted);
      few = omega (arith, most, c.from-set.ensures);
    }

pub returns-clause-set : goal.returns-clause-set
returns-clause-set c =
    let small : (k : ℕ) → get_or c.args.block.now k 0 < 256 = λ k. omega (arith, c.type_inv.block k) in
    let whole = ap (sum_by count_ones) (take_all c.loop-word.word-index (words c.args.block.now) c.loop-word-test.false) in
    c.loop-word.invariant.counted ∙ (whole ∙ block_ones c.args.block.now small c.requires)
