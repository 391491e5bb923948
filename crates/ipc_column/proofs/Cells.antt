-- What stands in a row and a column.
use Rattle.std.proofs.Common.{◌≡◌, ◌∙◌, refl, sym, ap, subst, ℕ, zero, suc, ◌+◌, ◌<◌, List, [], ◌∷◌, ◌++◌, length}
use Rattle.std.proofs.Common.{get_or, take, arith, add-one, Some, length-append, inl, inr}
use Rattle.std.specs.Prelude.{slice_get, slice_index_or}
use Rattle.std.proofs.lemmas.Bool.{cases_order}
use Rattle.std.proofs.lemmas.List.{take_more}
use Rattle.std.proofs.lemmas.Option.{get_or_from_slice_get}
use Rattle.ipc_model.specs.declared.value.Value.{Value}
use Rattle.ipc_column.specs.declared.ranges.ColumnRanges.{ColumnRanges}
use Rattle.ipc_column.specs.Columns.{Columns}
use Rattle.ipc_column.specs.Values.{row, rows_of, value_of, values_from}
use Rattle.ipc_column.specs.Views.{part_columns, column_of, children_of}
use Rattle.std.proofs.Math.ListN.{get_or-append}
use Rattle.std.proofs.Math.Seq.{get_or-append_seam}

-- a row has as many values as there are columns
pub row_length : (body : List ℕ) (ps : List ColumnRanges) (i : ℕ) → length (row (part_columns body ps) i) ≡ length ps
row_length body [] i = refl
row_length body (p ∷ ps) i = ap (λ (n : ℕ). suc n) (row_length body ps i)

-- the value of row i in a column is the one in the column's slot i
pub row_cell : (body : List ℕ) (ps : List ColumnRanges) (i j : ℕ) (p : ColumnRanges) → j < length ps → p ≡ get_or ps j p
    → slice_get (row (part_columns body ps) i) j ≡ Some (value_of (row (children_of body p)) (column_of body p) i)
row_cell body [] i j p l e = absurd (omega arith)
row_cell body (q ∷ ps) i zero p l e = rw e refl
row_cell body (q ∷ ps) i (suc j) p l e = row_cell body ps i j p (omega arith) e

-- one cell more of a row
pub row_more : (values done more : List Value) (j : ℕ) (v : Value) → j < length values → slice_get values j ≡ Some v → done ≡ take j values
    → more ≡ done ++ v ∷ [] → more ≡ take (j + 1) values
row_more values done more j v l e d m =
    m ∙ (ap (λ (vs : List Value). vs ++ v ∷ []) d
    ∙ (ap (λ (w : Value). take j values ++ w ∷ []) (sym (get_or_from_slice_get values j v v e)) ∙ sym (take_more values j v l)))

-- one row more of columns stands behind the rows before it
pub rows_more : (cs : Columns) (n : ℕ) → rows_of cs (n + 1) ≡ rows_of cs n ++ row cs n ∷ []
rows_more cs n = rw add-one refl

-- the first n rows of columns are n
pub rows_length : (cs : Columns) (n : ℕ) → length (rows_of cs n) ≡ n
rows_length cs zero = refl
rows_length cs (suc n) = let h = rows_length cs n in omega (arith, h, length-append (rows_of cs n) (row cs n ∷ []))

-- row i of the rows of columns is made of slot i of each
pub rows_at : (cs : Columns) (n i : ℕ) (d : List Value) → i < n → slice_index_or (rows_of cs n) i d ≡ row cs i
rows_at cs zero i d l = absurd (omega arith)
rows_at cs (suc n) i d l =
    let size = rows_length cs n in
    elim (cases_order i n) as (λ _. get_or (rows_of cs n ++ (row cs n ∷ [])) i d ≡ row cs i) [
      | inl e ↦ ap (λ (k : ℕ). get_or (rows_of cs n ++ (row cs n ∷ [])) k d) (e ∙ sym size)
          ∙ (get_or-append_seam (rows_of cs n) (row cs n) [] d ∙ ap (row cs) (sym e))
      | inr r ↦ elim r as (λ _. get_or (rows_of cs n ++ (row cs n ∷ [])) i d ≡ row cs i) [
        | inl m ↦ get_or-append (rows_of cs n) (row cs n ∷ []) d i (omega (arith, size)) ∙ rows_at cs n i d m
        | inr m ↦ absurd (omega arith)
      ]
    ]

-- a place among the rows is one below their count
pub row_in : (cs : Columns) (n i : ℕ) (rs : List (List Value)) → rows_of cs n ≡ rs → i < length rs → i < n
row_in cs n i rs e h = let l = subst (λ (x : List (List Value)). i < length x) (sym e) h in rw (rows_length cs n) at l

-- the row that a batch has at a place
pub row_is : (cs : Columns) (n i : ℕ) (rs : List (List Value)) → rows_of cs n ≡ rs → i < length rs → slice_index_or rs i [] ≡ row cs i
row_is cs n i rs e h = subst (λ (x : List (List Value)). slice_index_or x i [] ≡ row cs i) e (rows_at cs n i [] (row_in cs n i rs e h))

-- one value more of those of a range of slots
pub items_more : (f : ℕ → Value) (i n : ℕ) → values_from f i (n + 1) ≡ values_from f i n ++ f (i + n) ∷ []
items_more f i zero = let e : i + 0 ≡ i = omega arith in rw e refl
items_more f i (suc n) =
    let e : i + 1 + n ≡ i + suc n = omega arith in
    let m : suc n + 1 ≡ suc (n + 1) = omega arith in
    rw m (ap (λ (vs : List Value). f i ∷ vs) (items_more f (i + 1) n ∙ ap (λ (k : ℕ). values_from f (i + 1) n ++ f k ∷ []) e))
