-- A column has more columns below it than each of its children has.
use Rattle.std.specs.Prelude.{◌≡◌, ℕ, suc, ◌+◌, ◌≤◌, List, [], ◌∷◌, map, max, sum}
use Rattle.std.proofs.Common.{arith}
use Rattle.std.proofs.lemmas.List.Sums.{sum_by-cons}
use denote.Param.Weighed.{most}
use Rattle.ipc_column.specs.declared.ranges.ColumnRanges.{ColumnRanges}
use Rattle.ipc_column.specs.declared.ranges.ColumnRanges.TheFolds.{fold_out-ColumnRanges}
use Rattle.ipc_column.specs.declared.ranges.ColumnRanges.TheViews.{out-ColumnRanges}
use Rattle.ipc_column.specs.Nested.{Nested}
use Rattle.ipc_column.specs.Slots.{nested, nested_in}
use Rattle.job_print.specs.Trees.{count, count_below, count_step}

-- the number of columns of a part: itself, and those of its children with all below them
pub count_is : (p : ColumnRanges)
    → count p ≡ suc (sum (map count (out-ColumnRanges p).children.items))
count_is p = fold_out-ColumnRanges ℕ count_step p

most_below : (body : List ℕ) (ps : List ColumnRanges)
    → most (λ n. count_below n + 1) (map (nested body) ps) ≤ sum (map count ps)
most_below body [] = omega arith
most_below body (p ∷ ps) =
    omega (arith, count_is p, most_below body ps, sum_by-cons (λ n. n) (count p) (map count ps))

-- each child has fewer columns below it than the column has
pub fewer_below : (n : Nested) (children : List Nested) → children ≡ nested_in n
    → max (most (λ m. count_below m + 1) children) 0 ≤ count_below n
fewer_below n children same = rw same (omega (arith, most_below n.body n.children))
