-- Messages whose bytes are read from a source (Arrow Columnar Format, "Encapsulated message
-- format").
use Rattle.std.specs.Prelude.{◌≡◌, ℕ, ◌+◌, ◌≤◌, List, [], ◌++◌, length, take, drop, Option, None}
use Rattle.std.specs.Prelude.{Result, Ok, Err}
use Rattle.std.specs.Io.KnownBytes.{Consumes, IsAtEnd}
use Rattle.ipc_model.specs.declared.fault.Fault.{Fault}
use Rattle.ipc_model.specs.declared.limits.Limits.{Limits}
use Rattle.ipc_frame.specs.Frames.{Pending}
use Rattle.ipc_frame.specs.Decisions.{RefusesNow}
use Rattle.ipc_frame.specs.Failures.{FailsAs, UnlessOutside}
use Rattle.ipc_frame.specs.Pieces.{Progress, taking, ended, refused, FeedsFrames}
use Rattle.ipc_frame.specs.declared.frame.Frame.{Frame}

-- k bytes were read into a buffer after its first `start` bytes; k is 0 only at the source's end
pub record ReadsAfter (old new : Option (List ℕ)) (buffer_old buffer_new : List ℕ)
    (start k : ℕ) : Type 0 where
  pub fits : start + k ≤ length buffer_new
  pub before : take start buffer_new ≡ take start buffer_old
  pub bytes : Consumes old new (take k (drop start buffer_new))
  pub at_end : k ≡ 0 → IsAtEnd new

-- k bytes were read and appended to a buffer, at most the wanted number; k is 0 only at the
-- source's end
pub record Comes (old new : Option (List ℕ)) (buffer_old buffer_new : List ℕ)
    (wanted k : ℕ) : Type 0 where
  pub came : List ℕ
  pub buffer : buffer_new ≡ buffer_old ++ came
  pub count : length came ≡ k
  pub few : k ≤ wanted
  pub bytes : Consumes old new came
  pub at_end : k ≡ 0 → IsAtEnd new

-- the result is what `feed` returns for the bytes that came; a refusal comes at the last of them
abbrev pub GivesFrame : Limits → Progress → List ℕ → Progress → Result (Option Frame) Fault → Type 0
GivesFrame limits before came after (Ok found) =
    FeedsFrames limits before came after (Ok (length came, found))
GivesFrame limits (taking z) came after (Err fault) =
    (after ≡ refused) × UnlessOutside fault (RefusesNow limits (z ++ came) fault)
GivesFrame limits before came after (Err fault) = FeedsFrames limits before came after (Err fault)

-- a call that finds nothing while messages are awaited takes no byte only if the source is at its
-- end
abbrev pub EndsAt : {T : Type 0} → Progress → List ℕ → Option (List ℕ) → Result (Option T) Fault
    → Type 0
EndsAt (taking z) came left (Ok None) = came ≡ [] → IsAtEnd left
EndsAt progress came left r = Unit {0}

-- at most the bytes up to the next decision came, and none if no message is awaited
abbrev pub IsFew : Limits → Progress → List ℕ → Type 0
IsFew limits (taking z) came = (k : ℕ) × Pending limits z k × (length came ≤ k)
IsFew limits ended came = came ≡ []
IsFew limits refused came = came ≡ []

-- `count` bytes were taken from a source, at most the number up to the next decision, and the
-- result is theirs
pub record TakesFromSource (limits : Limits) (old new : Option (List ℕ)) (before after : Progress)
    (count : ℕ) (r : Result (Option Frame) Fault) : Type 0 where
  pub came : List ℕ
  pub counted : length came ≡ count
  pub bytes : Consumes old new came
  pub few : IsFew limits before came
  pub at_end : EndsAt before came new r
  pub gives : GivesFrame limits before came after r

-- the count of failures changes as `FailsAs` states while messages are awaited; after the end or a
-- refusal it stays
abbrev pub FailsWhile : {T : Type 0} → Progress → ℕ → ℕ → Result T Fault → Type 0
FailsWhile (taking z) old new r = FailsAs old new r
FailsWhile ended old new r = new ≡ old
FailsWhile refused old new r = new ≡ old
