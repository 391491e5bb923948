-- How a call reports that its source failed.
use Rattle.std.specs.Prelude.{◌≡◌, ℕ, Result, MatchResult}
use Rattle.ipc_model.specs.declared.fault.Fault.{Fault}
pub use Rattle.ipc_frame.specs.Failures.{CountsFault, FailsAs}

-- a call that may read its source or not: it succeeds if the count of failures stayed; if it fails,
-- the count changes as `CountsFault` states
abbrev pub StaysOrFails : {T : Type 0} → ℕ → ℕ → Result T Fault → Type 0
StaysOrFails old new r = MatchResult r (λ _. new ≡ old) (λ fault. CountsFault old new fault)
