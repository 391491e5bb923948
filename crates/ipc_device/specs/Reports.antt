-- The reports that a job makes of its batches.
use Rattle.std.specs.Prelude.{◌≡◌, ℕ, List, ◌++◌, Option, Some, None, ⊤}

-- what is reported after a batch: how many bytes were taken so far, and how many batches and rows
-- are done
pub record Report : Type 0 where
  pub bytes : ℕ
  pub batches : ℕ
  pub rows : ℕ

-- these reports were added to those before; nothing is stated if they are not kept
abbrev pub AreAppended : Option (List Report) → Option (List Report) → List Report → Type 0
AreAppended None new reports = ⊤
AreAppended (Some old) None reports = ⊥
AreAppended (Some old) (Some new) reports = new ≡ old ++ reports
