-- What a refusal states of the failures of a device.
use Rattle.std.specs.Prelude.{◌≡◌, ◌≢◌, ℕ, ◌⊎◌, Result, MatchResult}
use Rattle.ipc_model.specs.declared.fault.Fault.{Fault}
use Rattle.ipc_model.specs.declared.fault.Fault.TheVariants.{OutOfMemory, Read}
use Rattle.ipc_model.specs.declared.fault.WriteFault.{WriteFault}
use Rattle.ipc_model.specs.declared.fault.WriteFault.TheVariants.{Write}

-- how a refusal of reading changes the count of failures of a source: after F36 (`Read`) it is 1;
-- any other fault leaves it as it was
pub record CountsFault (old new : ℕ) (fault : Fault) : Type 0 where
  pub failed : fault ≡ Read → new ≡ 1
  pub stayed : fault ≢ Read → new ≡ old

-- how a refusal of writing changes the count of failures of a sink: after W9 (`Write`) it is 1; any
-- other fault leaves it as it was
pub record CountsSinkFault (old new : ℕ) (fault : WriteFault) : Type 0 where
  pub failed : fault ≡ Write → new ≡ 1
  pub stayed : fault ≢ Write → new ≡ old

-- a call that reads from a source: it succeeds only if no call of the source has failed; if it
-- fails, the count changes as `CountsFault` states
abbrev pub FailsAs : {T : Type 0} → ℕ → ℕ → Result T Fault → Type 0
FailsAs old new r = MatchResult r (λ _. (old ≡ 0) × (new ≡ 0)) (λ fault. CountsFault old new fault)

-- the fault is that the source failed, or that memory ran out
abbrev pub IsOutside : Fault → Type 0
IsOutside fault = (fault ≡ Read) ⊎ (fault ≡ OutOfMemory)

-- P holds, unless the source failed or memory ran out
abbrev pub UnlessOutside : Fault → Type 0 → Type 0
UnlessOutside fault P = fault ≢ Read → fault ≢ OutOfMemory → P
