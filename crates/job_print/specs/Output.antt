-- How printing changes the sink and the text that is kept for it.
use Rattle.std.specs.Prelude.{◌≡◌, ◌≢◌, ◌≤◌, ℕ, List, ◌++◌, length, Option, Some, None}
use Rattle.std.specs.Prelude.{Result, Ok, Err, ⊤}
use Rattle.job_print.specs.declared.line_buffer.PrintFault.{PrintFault}
use Rattle.job_print.specs.declared.line_buffer.PrintFault.TheVariants.{Write}

-- the content of a sink, the count of its failures, and the text that is kept and not yet written
-- to it
pub record Output : Type 0 where
  pub written : Option (List ℕ)
  pub failures : ℕ
  pub kept : List ℕ

-- this text was appended to the sink's content and the kept text; whatever of all this the sink
-- does not contain yet is still kept. Nothing is stated if the sink's content is unknown
abbrev pub AppendsText : Option (List ℕ) → List ℕ → Option (List ℕ) → List ℕ → List ℕ → Type 0
AppendsText None kept new still text = ⊤
AppendsText (Some held) kept None still text = ⊥
AppendsText (Some held) kept (Some holds) still text = holds ++ still ≡ held ++ kept ++ text

-- the text was appended to what was written or kept, and the sink's count of failures stayed; no
-- more is kept than the old kept text and this one
pub record Puts (old new : Output) (text : List ℕ) : Type 0 where
  pub bytes : AppendsText old.written old.kept new.written new.kept text
  pub few : length new.kept ≤ length (old.kept ++ text)
  pub stayed : new.failures ≡ old.failures

-- the text was not put: a beginning of the kept text and this text was written; the sink failed in
-- this call, or memory ran out and the sink's count of failures stayed
pub record PutFails (old : Output) (written : Option (List ℕ)) (failures : ℕ) (text : List ℕ)
    (fault : PrintFault) : Type 0 where
  pub behind : List ℕ
  pub bytes : AppendsText old.written old.kept written behind text
  pub few : length behind ≤ length (old.kept ++ text)
  pub failed : fault ≡ Write → failures ≡ 1
  pub stayed : fault ≢ Write → failures ≡ old.failures

-- the output with this content of the sink, count of failures and kept text
abbrev pub output : Option (List ℕ) → ℕ → List ℕ → Output
output written failures kept = record { written = written; failures = failures; kept = kept }

-- the result of a call that puts this text: on success, `kept` is the text that is still kept
abbrev pub PrintsAs : {T : Type 0} → Output → Option (List ℕ) → ℕ → List ℕ → List ℕ
    → Result T PrintFault → Type 0
PrintsAs old written failures kept text (Ok x) = Puts old (output written failures kept) text
PrintsAs old written failures kept text (Err fault) = PutFails old written failures text fault
