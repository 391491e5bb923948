-- What a table sent, by what its stream sent.
use Rattle.std.proofs.Common.{◌≡◌, subst, ℕ, false, List, Option, Some, Result, Ok, Err}
use Rattle.std.specs.Prelude.{⊤, MatchResult}
use Rattle.ipc_model.specs.declared.fault.WriteFault.{WriteFault}
use Rattle.ipc_model.specs.declared.fault.WriteFault.TheVariants as w
use Rattle.ipc_model.specs.declared.table.BatchRows.{BatchRows}
use Rattle.ipc_stream.specs.Writer.{Writer, FinishFails, LeavesBatch}
use Rattle.ipc_stream.specs.Writing.{AcceptsBatch, RefusesBatch}
use Rattle.ipc_stream_session.specs.Stages.{IsAccepted, IsAfter, SendsBatch}
use Rattle.ipc_stream_session.specs.Tables.{TableState}
use Rattle.ipc_stream_session.specs.declared.stage.Stage.{Stage}

-- a batch is accepted, or refused for a cause other than W10
pub accepted : (t : TableState) (b : BatchRows) (after : Writer) (sent : Result ⊤ WriteFault) → t.stream.failed ≡ false
    → LeavesBatch t.stream b after sent
    → MatchResult sent (λ _. AcceptsBatch t.stream.limits t.stream.schema b)
    (λ fault. (fault ≡ w.Failed → ⊥) → RefusesBatch t.stream.limits t.stream.schema b fault)
    → IsAccepted t b sent
accepted t b after (Ok x) works h judged = judged
accepted t b after (Err w.Failed) works h judged = let failed = h.0 in absurd cc
accepted t b after (Err fault) works h judged = judged (λ e. cc)

-- what a call of the stream sent is what the table sent
pub sends : (t u : TableState) (b : BatchRows) (after : Writer) (sent : Result ⊤ WriteFault) (new : Stage) → u ≡ t
    → u.stream.failed ≡ false → LeavesBatch u.stream b after sent
    → MatchResult sent (λ _. AcceptsBatch u.stream.limits u.stream.schema b)
    (λ fault. (fault ≡ w.Failed → ⊥) → RefusesBatch u.stream.limits u.stream.schema b fault)
    → IsAfter u after sent new → SendsBatch t b new sent
sends t u b after sent new is works leaves judged stays = subst (λ (x : TableState). SendsBatch x b new sent) is (record {
  after = after;
  leaves = leaves;
  accepted = accepted u b after sent works leaves judged;
  stage_is = stays;
})

-- the end mark of the stream was not sent, and these bytes were
pub fails : (t u : TableState) (written : Option (List ℕ)) (ready : List ℕ) (failures : ℕ) (fault : WriteFault) → u ≡ t
    → written ≡ Some ready → FinishFails u.stream written failures fault
    → (x : ℕ) × FinishFails t.stream (Some ready) x fault
fails t u written ready failures fault is bytes h = (
  failures,
  subst (λ (x : TableState). FinishFails x.stream (Some ready) failures fault) is
      (subst (λ (x : Option (List ℕ)). FinishFails u.stream x failures fault) bytes h),
)
