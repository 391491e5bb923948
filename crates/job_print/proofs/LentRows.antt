-- Rows of columns that a batch lends.
use Rattle.std.proofs.Common.{◌≡◌, ◌∙◌, sym, ap, refl, ℕ, zero, suc, ◌<◌, List, [], ◌∷◌, length, get_or, arith, Some}
use Rattle.std.specs.Prelude.{slice_get, slice_index_or}
use Rattle.std.specs.List.{AllByRecursion}
use Rattle.std.proofs.lemmas.Option.{get_or_from_slice_get}
use Rattle.ipc_model.specs.declared.value.Value.{Value}
use Rattle.ipc_model.specs.declared.value.Value.TheVariants as v
use Rattle.ipc_column.specs.Lent.{AreOfColumn}
use Rattle.job_print.specs.LentRows.{row_at, HaveRow, AreColumnsOfRows}

-- a column has a value in a row that each has one in
pub has_value : (columns : List (List Value)) (i j : ℕ) (values : List Value) → j < length columns → values ≡ get_or columns j values
    → HaveRow columns i → i < length values
has_value [] i j values l e h = absurd (omega arith)
has_value (c ∷ columns) i zero values l e h = rw e h.0
has_value (c ∷ columns) i (suc j) values l e h = has_value columns i j values (omega arith) e h.1

-- the value of a row in a column is the column's in the row
pub row_value : (columns : List (List Value)) (i j : ℕ) (values : List Value) (x : Value) → j < length columns
    → values ≡ get_or columns j values → slice_get values i ≡ Some x → slice_get (row_at columns i) j ≡ Some x
row_value [] i j values x l e h = absurd (omega arith)
row_value (c ∷ columns) i zero values x l e h =
    ap (λ (y : Value). Some y) (ap (λ (u : List Value). slice_index_or u i v.Null) (sym e) ∙ get_or_from_slice_get values i x v.Null h)
row_value (c ∷ columns) i (suc j) values x l e h = row_value columns i j values x (omega arith) e h

-- a row has a value for each column
pub row_length : (columns : List (List Value)) (i : ℕ) → length (row_at columns i) ≡ length columns
row_length [] i = refl
row_length (c ∷ columns) i = ap (λ (n : ℕ). suc n) (row_length columns i)

-- columns that have the values of a row, each in its place, have that row
same_row : (columns : List (List Value)) (row : List Value) (i : ℕ) → length row ≡ length columns
    → ((j : ℕ) → j < length columns → slice_get row j ≡ slice_get (slice_index_or columns j []) i) → row_at columns i ≡ row
same_row [] [] i e h = refl
same_row [] (x ∷ row) i e h = absurd (omega (arith, e))
same_row (c ∷ columns) [] i e h = absurd (omega (arith, e))
same_row (c ∷ columns) (x ∷ row) i e h =
    let first : slice_index_or c i v.Null ≡ x = get_or_from_slice_get c i x v.Null (sym (h 0 (omega arith))) in
    let rest = same_row columns row i (omega (arith, e)) (λ j l. h (suc j) (omega (arith, l))) in
    λ k. first k ∷ rest k

have_row : (columns : List (List Value)) (i : ℕ) → ((j : ℕ) → j < length columns → i < length (slice_index_or columns j []))
    → HaveRow columns i
have_row [] i h = tt
have_row (c ∷ columns) i h = (h 0 (omega arith), have_row columns i (λ j l. h (suc j) (omega (arith, l))))

row_width : (rows : List (List Value)) (n i : ℕ) → AllByRecursion (λ row. length row ≡ n) rows → i < length rows
    → length (slice_index_or rows i []) ≡ n
row_width [] n i h l = absurd (omega arith)
row_width (row ∷ rows) n zero h l = h.0
row_width (row ∷ rows) n (suc i) h l = row_width rows n i h.1 (omega arith)

-- columns that were found one after another are those of the rows
pub columns_found : (rows columns : List (List Value)) → AllByRecursion (λ row. length row ≡ length columns) rows
    → ((j : ℕ) → j < length columns → AreOfColumn rows j (slice_index_or columns j [])) → AreColumnsOfRows rows columns
columns_found rows columns width each = record {
  have = λ i l. have_row columns i (λ j m. let size = (each j m).size in omega (arith, l, size));
  same = λ i l. same_row columns (slice_index_or rows i []) i (row_width rows (length columns) i width l) (λ j m. (each j m).each i l);
}
