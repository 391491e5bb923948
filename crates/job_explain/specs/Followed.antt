-- What a recorder keeps after bytes were read.
use Rattle.std.specs.Prelude.{◌≡◌, ℕ, ◌+◌, Bool, true, false, List, [], length, Option, None}
use Rattle.std.specs.Prelude.{Some}
use Rattle.ipc_model.specs.declared.limits.Limits.{Limits}
use Rattle.ipc_frame.specs.Pieces.{taking}
use Rattle.job_explain.specs.declared.message_record.MessageRecord.{MessageRecord}
use Rattle.job_explain.specs.Kept.{Keeps}
use Rattle.job_explain.specs.ScopeUpdates.{UpdatesScope}

-- a recorder that is on keeps messages from the beginning of a stream on; one that is off keeps
-- nothing
abbrev pub StartsRecorder : Limits → Bool → Option MessageRecord → Type 0
StartsRecorder limits true (Some message_record) = (message_record.limits ≡ limits)
    × (message_record.count ≡ 0) × (message_record.frames.progress ≡ taking [])
    × (message_record.last ≡ None) × (message_record.scope ≡ None)
StartsRecorder limits true None = ⊥
StartsRecorder limits false message_record = message_record ≡ None

-- what was kept, and is kept after a piece of the stream; nothing is kept any more after memory ran
-- out
abbrev pub Follows : Option MessageRecord → List ℕ → Option MessageRecord → Type 0
Follows (Some old) piece (Some new) = (new.limits ≡ old.limits)
    × (new.count ≡ old.count + length piece)
    × Keeps old.limits old.frames.progress old.front.items piece new.frames.progress
    new.front.items new.last
    × UpdatesScope old.limits old.scope old.last new.scope
Follows (Some old) piece None = Unit {0}
Follows None piece new = new ≡ None
