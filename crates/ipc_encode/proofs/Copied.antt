-- The columns of a batch's rows, taken as they lie.
use Rattle.std.proofs.Common.{◌≡◌, ◌∙◌, refl, sym, ap, ℕ, zero, suc, ◌+◌, ◌<◌, ◌≤◌, List, [], ◌∷◌, ◌++◌, length, take}
use Rattle.std.proofs.Common.{get_or, arith}
use Rattle.std.specs.List.{AllByRecursion}
use Rattle.std.proofs.lemmas.List.{take_more}
use Rattle.std.proofs.lemmas.Option.{get_or_from_slice_get}
use Rattle.ipc_model.specs.declared.value.Value.{Value}
use Rattle.ipc_model.specs.declared.value.Value.TheVariants.{Null}
use Rattle.ipc_column.specs.Lent.{AreOfColumn}
use Rattle.ipc_encode.specs.Cells.{cell, cells}
use Rattle.ipc_encode.proofs.Steps.{cells_length}

-- the cells of a column are the values of its slots
pub column_cells : (rows : List (List Value)) (j : ℕ) (values : List Value) → AreOfColumn rows j values → cells j rows ≡ values
column_cells [] j [] h = refl
column_cells [] j (v ∷ vs) h = let size = h.size in absurd (omega (arith, size))
column_cells (r ∷ rs) j [] h = let size = h.size in absurd (omega (arith, size))
column_cells (r ∷ rs) j (v ∷ vs) h =
    let size = h.size in
    let rest : AreOfColumn rs j vs = record { size = omega (arith, size); each = λ i m. h.each (suc i) (omega (arith, m)) } in
    let first : cell j r ≡ v = get_or_from_slice_get r j v Null (h.each 0 (omega arith)) in
    rw (first, column_cells rs j vs rest) refl

-- ---- row by row

past : (row : List Value) (j : ℕ) → length row ≤ j → Null ≡ get_or row j Null
past [] j h = refl
past (v ∷ row) zero h = absurd (omega (arith, h))
past (v ∷ row) (suc j) h = past row j (omega (arith, h))

-- a column that no row has is null
pub no_cell : (n j i : ℕ) (rows : List (List Value)) → AllByRecursion (λ row. length row ≡ n) rows → n ≤ j
    → Null ≡ cell j (get_or rows i [])
no_cell n j i [] wide few = refl
no_cell n j zero (row ∷ rows) wide few = past row j (let size = wide.0 in omega (arith, size, few))
no_cell n j (suc i) (row ∷ rows) wide few = no_cell n j i rows wide.1 few

-- the cell of row i
cell_at : (j : ℕ) (rows : List (List Value)) (i : ℕ) → i < length rows → get_or (cells j rows) i Null ≡ cell j (get_or rows i [])
cell_at j [] i h = absurd (omega arith)
cell_at j (row ∷ rows) zero h = refl
cell_at j (row ∷ rows) (suc i) h = cell_at j rows i (omega arith)

-- the cells of the rows so far and of the next
pub cells_next : (j : ℕ) (rows : List (List Value)) (i : ℕ) → i < length rows
    → take i (cells j rows) ++ cell j (get_or rows i []) ∷ [] ≡ take (i + 1) (cells j rows)
cells_next j rows i h =
    let size = cells_length j rows in
    let more = take_more (cells j rows) i Null (omega (arith, size, h)) in
    ap (λ (v : Value). take i (cells j rows) ++ v ∷ []) (sym (cell_at j rows i h)) ∙ sym more
