-- How a device counts its failures.
use Rattle.std.specs.Prelude.{◌≡◌, ℕ, Bool, true, false, List, [], Option, Some, None, Result}
use Rattle.std.specs.Prelude.{MatchResult}

-- a call succeeds only if none failed before; a failed call sets the count to 1
abbrev pub CountsFailures : {T E : Type 0} → ℕ → ℕ → Result T E → Type 0
CountsFailures old new r = MatchResult r (λ _. (old ≡ 0) × (new ≡ 0)) (λ _. new ≡ 1)

-- a call that may need no call of the device: it succeeds if none failed in it, and a failed call
-- sets the count to 1
abbrev pub CountsAny : {T E : Type 0} → ℕ → ℕ → Result T E → Type 0
CountsAny old new r = MatchResult r (λ _. new ≡ old) (λ _. new ≡ 1)

-- 1 if the flag is set, else the count of the device below
abbrev pub count_or : Bool → ℕ → ℕ
count_or true below = 1
count_or false below = below

-- no bytes if the flag is set; else the bytes are unknown
abbrev pub none_if : Bool → Option (List ℕ)
none_if true = Some []
none_if false = None
