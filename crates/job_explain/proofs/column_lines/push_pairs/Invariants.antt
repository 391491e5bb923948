use Rattle.std.proofs.Common.{◌≡◌, ◌++◌, drop}
use Rattle.job_explain.specs.ColumnLines.{pairs_words}
use Rattle.job_explain.proofs.column_lines.push_pairs.Given as goal

abbrev pub invariant-loop-pair : goal.invariant-loop-pair
invariant-loop-pair l =
    l.out.items ++ pairs_words l.first l.second (drop l.pair-index l.pairs) ≡ l.fn.out.items ++ pairs_words l.first l.second l.pairs
