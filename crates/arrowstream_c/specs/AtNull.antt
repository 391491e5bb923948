-- What the exports that write through a pointer answer at a null handle.
use Rattle.std.specs.Prelude.{◌≡◌, ℕ, ℤ, List}
use Rattle.arrowstream_c.specs.Handles.{RefusesMisuse, misuse}
use Rattle.arrowstream_c.specs.Numbers.{BySize, progress_size}
use Rattle.arrowstream_c.specs.declared.answers.Canonical.{Canonical}
use Rattle.arrowstream_c.specs.declared.answers.Progress.{Progress}

-- no byte is copied, and none is wanted
abbrev pub RefusesText : List ℕ → List ℕ → ℕ → ℕ → Type 0
RefusesText old new wanted status = (status ≡ misuse) × (new ≡ old) × (wanted ≡ 0)

-- nothing was taken, and nothing came
pub record AreZeros (old new : Progress) : Type 0 where
  pub size : new.size ≡ old.size
  pub taken : new.taken ≡ 0
  pub wanted : new.wanted ≡ 0
  pub messages : new.messages ≡ 0
  pub event : new.event ≡ 0

-- the progress is zeros if the struct has room for it
abbrev pub IsNowhere : Progress → Progress → ℕ → Type 0
IsNowhere old new status =
    (status ≡ misuse) × BySize old.size progress_size (AreZeros old new) (new ≡ old)

-- no byte is moved
abbrev pub TakesNothing : List ℕ → List ℕ → ℕ → Type 0
TakesNothing old new count = (count ≡ 0) × (new ≡ old)

-- nothing is copied
abbrev pub CopiesNothing : List ℕ → List ℕ → List ℤ → List ℤ → Canonical → Canonical → ℕ → Type 0
CopiesNothing bytes_old bytes_new numbers_old numbers_new old new status =
    RefusesMisuse bytes_old bytes_new status × (numbers_new ≡ numbers_old) × (new ≡ old)
