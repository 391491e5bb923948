-- The first rows of batches, up to a limit of rows.
use Rattle.std.specs.Prelude.{◌≡◌, ◌-◌, ◌<◌, ◌≤◌, ℕ, zero, suc, List, [], ◌∷◌, ◌++◌, length, min}
use Rattle.std.specs.Prelude.{take, Option, Some, None, ⊤}
use Rattle.ipc_model.specs.declared.table.BatchRows.{BatchRows}
use Rattle.job_print.specs.Forms.{row_count}

-- the batch with at most its first n rows
abbrev pub batch_prefix : ℕ → BatchRows → BatchRows
batch_prefix n b = record b { rows = take n b.rows }

-- the batches that have the first n rows; the last of them ends with row n. There is none if n is 0
abbrev pub first_rows : ℕ → List BatchRows → List BatchRows
first_rows n [] = []
first_rows zero (b ∷ batches) = []
first_rows (suc n) (b ∷ batches) =
    batch_prefix (suc n) b ∷ first_rows (suc n - length b.rows) batches

-- the batches whose rows are printed under this limit: all of them if there is none
abbrev pub within : Option ℕ → List BatchRows → List BatchRows
within None batches = batches
within (Some n) batches = first_rows n batches

-- more rows are printed after this many
abbrev pub WantsMoreRows : Option ℕ → ℕ → Type 0
WantsMoreRows None rows = ⊤
WantsMoreRows (Some n) rows = rows < n

-- no row is printed after this many
abbrev pub HasReached : Option ℕ → ℕ → Type 0
HasReached None rows = ⊥
HasReached (Some n) rows = n ≤ rows

-- none of these batches begins after the limit: the rows before the last of them are below it
abbrev pub AreWanted : Option ℕ → List BatchRows → Type 0
AreWanted limit batches = (earlier : List BatchRows) (last : BatchRows)
    → batches ≡ earlier ++ last ∷ [] → WantsMoreRows limit (row_count earlier)

-- these batches are wanted; if their rows reach the limit, no byte was taken after them, and no
-- text follows that of their rows
pub record IsWithinRowLimit (limit : Option ℕ) (batches : List BatchRows) (rest tail : List ℕ)
    : Type 0 where
  pub wanted : AreWanted limit batches
  pub ended : HasReached limit (row_count batches) → (rest ≡ []) × (tail ≡ [])

-- how many of a batch's rows are printed, after this many rows of other batches
abbrev pub wanted_rows : Option ℕ → ℕ → ℕ → ℕ
wanted_rows None before rows = rows
wanted_rows (Some n) before rows = min (n - before) rows
