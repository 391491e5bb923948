use Rattle.std.proofs.Common.{◌≡◌, ◌++◌, arith, get_or, pos, refl, rules}
use Rattle.job_explain.specs.ColumnLines.{pair_words, pairs_words}
use Rattle.job_explain.proofs.Joined.{joined_done, joined_more}
use Rattle.job_explain.proofs.column_lines.push_pairs.Goals as goal

pub loop-pair-preserved : goal.loop-pair-preserved
loop-pair-preserved c =
    let first = c.args.first.now in
    let second = c.args.second.now in
    let pairs = c.args.pairs.now in
    let i = c.loop-pair.pair-index in
    let more : c.push_pair.new.out.items ≡ c.loop-pair.out.items ++ pair_words first second (get_or pairs i (pos 0, pos 0)) =
    search rules in
    joined_more (pair_words first second) (pairs_words first second) (λ x xs. refl) pairs i (pos 0, pos 0) c.loop-pair-test.true
    c.loop-pair.out.items c.push_pair.new.out.items _ more c.loop-pair.invariant

pub returns : goal.returns
returns c = record {
  ok =
      joined_done (pair_words c.args.first.now c.args.second.now) (pairs_words c.args.first.now c.args.second.now) refl
      c.args.pairs.now c.loop-pair.pair-index (omega arith) c.loop-pair.out.items _ c.loop-pair.invariant;
}
