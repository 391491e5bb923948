-- Parts as columns, and calls that judge one after another.
use Rattle.std.proofs.Common.{◌≡◌, refl, ap, ℕ, zero, suc, ◌+◌, ◌<◌, Bool, true, false, List, [], ◌∷◌, length, drop, get_or, add-one}
use Rattle.std.proofs.Common.{drop-cons, arith, Result, Ok}
use Rattle.std.proofs.Common.{Err}
use Rattle.std.specs.Prelude.{◌&&◌}
use Rattle.std.proofs.lemmas.Bool.{and_parts, and_from, and_right}
use Rattle.ipc_column.specs.declared.ranges.ColumnRanges.{ColumnRanges}
use Rattle.ipc_column.specs.declared.ranges.ColumnRanges.TheViews.{out-ColumnRanges}
use Rattle.ipc_column.specs.declared.ranges.ColumnRanges.TheFolds.{fold_out-ColumnRanges}
use Rattle.ipc_model.specs.declared.fault.Fault.{Fault}
use Rattle.ipc_column.specs.Columns.{Column, Columns, column, every, every_top}
use Rattle.ipc_column.specs.checks.Checks.{Judges}
use Rattle.ipc_column.specs.Views.{part_columns, part_step, column_of, children_of}
use Rattle.ipc_column.specs.Spans.{span_bytes}

-- the column of a part, member by member
abbrev pub own_column : List ℕ → ColumnRanges → Column
own_column body p = record {
  layout = (out-ColumnRanges p).layout;
  slots = (out-ColumnRanges p).slots;
  nulls = (out-ColumnRanges p).nulls;
  validity =
      span_bytes body (out-ColumnRanges p).validity;
  offsets =
      span_bytes body (out-ColumnRanges p).offsets;
  values =
      span_bytes body (out-ColumnRanges p).values;
  dictionary = (out-ColumnRanges p).dictionary;
}

-- the columns below a part are those of its children
pub children_out : (body : List ℕ) (p : ColumnRanges) → children_of body p ≡ part_columns body (out-ColumnRanges p).children.items
children_out body p = ap (λ (v : Column × Columns). v.1) (fold_out-ColumnRanges (Column × Columns) (part_step body) p)

-- a part's column is made of the part's own ranges of the body
pub column_is : (body : List ℕ) (p : ColumnRanges) → column_of body p ≡ own_column body p
column_is body p = ap (λ (v : Column × Columns). v.0) (fold_out-ColumnRanges (Column × Columns) (part_step body) p)

-- the columns from one part on
pub columns_from : (body : List ℕ) (ps : List ColumnRanges) (i : ℕ) (p : ColumnRanges) → i < length ps → p ≡ get_or ps i p
    → part_columns body (drop i ps) ≡ column (column_of body p) (children_of body p) (part_columns body (drop (i + 1) ps))
columns_from body ps i p h e = rw (drop-cons ps i p) (rw (← e, add-one) refl)

regroup : (a b c : Bool) → (a && (b && c)) ≡ ((a && b) && c)
regroup true b c = refl
regroup false b c = refl

-- all columns from a part on pass a test where its own does, those below it do and those behind it do
pub every_from : (test : Column → Columns → Bool) (body : List ℕ) (ps : List ColumnRanges) (i : ℕ) (p : ColumnRanges) → i < length ps
    → p ≡ get_or ps i p
    → every test (part_columns body (drop i ps))
    ≡ ((test (column_of body p) (children_of body p) && every test (children_of body p))
    && every test (part_columns body (drop (i + 1) ps)))
every_from test body ps i p h e = rw (columns_from body ps i p h e)
    (regroup (test (column_of body p) (children_of body p)) (every test (children_of body p))
    (every test (part_columns body (drop (i + 1) ps))))

-- a test of every part of a list is one of the parts
pub every_at : (test : Column → Columns → Bool) (body : List ℕ) (ps : List ColumnRanges) (j : ℕ) (p : ColumnRanges) → j < length ps
    → p ≡ get_or ps j p → every test (part_columns body ps) ≡ true
    → (test (column_of body p) (children_of body p) ≡ true) × (every test (children_of body p) ≡ true)
every_at test body [] j p l e h = absurd (omega arith)
every_at test body (q ∷ ps) zero p l e h = rw e (let a = and_parts _ _ h in (a.0, (and_parts _ _ a.1).0))
every_at test body (q ∷ ps) (suc j) p l e h = every_at test body ps j p (omega arith) e (and_parts _ _ (and_parts _ _ h).1).1

-- and so is one of the top columns alone
pub every_top_at : (test : Column → Bool) (body : List ℕ) (ps : List ColumnRanges) (j : ℕ) (p : ColumnRanges) → j < length ps
    → p ≡ get_or ps j p → every_top test (part_columns body ps) ≡ true → test (column_of body p) ≡ true
every_top_at test body [] j p l e h = absurd (omega arith)
every_top_at test body (q ∷ ps) zero p l e h = rw e (and_parts _ _ h).0
every_top_at test body (q ∷ ps) (suc j) p l e h = every_top_at test body ps j p (omega arith) e (and_parts _ _ h).1

-- a family whose first part holds is judged by its second
pub then_judges : {X : Type 0} (s t : Fault → Bool) (r : Result X Fault) → ((c : Fault) → s c ≡ true) → Judges r t
    → Judges r (λ c. s c && t c)
then_judges s t (Ok x) h j = λ c. and_from (s c) (t c) (h c) (j c)
then_judges s t (Err d) h j = and_right (s d) (t d) j
