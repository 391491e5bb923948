-- Buffers that a reader refuses.
use Rattle.std.proofs.Common.{◌≡◌, sym, ap, subst, ℕ, List, Err, inl, inr}
use Rattle.std.specs.Prelude.{ℤ}
use Rattle.ipc_meta.specs.declared.head.BatchHead.{BatchHead}
use Rattle.ipc_model.specs.Answers.{UnlessOutOfMemory}
use Rattle.ipc_model.specs.declared.fault.Fault.{Fault}
use Rattle.ipc_model.specs.declared.fault.Fault.TheVariants.{OutOfMemory as NoMemory}
use Rattle.ipc_column.specs.Rows.{RefusesParts}
use Rattle.ipc_stream_read.specs.Stream.{values_in_force}
use Rattle.ipc_stream_read.specs.StreamStates.{RefusesValues}
use Rattle.ipc_stream_session.specs.Parts.{IsHead}
use Rattle.ipc_stream_session.specs.Tables.{TableState, in_force}
use Rattle.ipc_stream_session.specs.Writes.{GivesDictionary, GivesParts, OfHead, OnStage, RefusesInvalid, SendsBuffers, SendsParts}
use Rattle.ipc_stream_session.specs.declared.stage.Stage.{Stage}
use Rattle.ipc_stream_session.specs.declared.stage.Stage.TheVariants as stage
use Rattle.ipc_stream_session.specs.declared.write_error.WriteError.{WriteError}
use Rattle.ipc_stream_session.specs.declared.write_session.WriteSession.{WriteSession}

-- a table that was taken out is put back
pub put_back : (s : WriteSession) (t : TableState) → s.stage ≡ stage.Open t
    → record (record s { stage = stage.New }) { stage = stage.Open t } ≡ s
put_back s t opened = ap (λ (x : Stage). record s { stage = x }) (sym opened)

-- a batch is refused by a reader's rules
pub sends_refused : (old new : WriteSession) (t : TableState) (rows : ℤ) (nodes buffers : List ℤ) (body : List ℕ) (h : BatchHead)
    (fault : Fault) (e : WriteError) → old.stage ≡ stage.Open t → IsHead rows nodes buffers h
    → RefusesParts t.limits fault (values_in_force t.given) t.schema.fields h body → RefusesInvalid fault old new e
    → SendsBuffers rows nodes buffers body old new (Err e)
sends_refused old new t rows nodes buffers body h NoMemory e opened head cause refused = subst
    (λ (at : Stage). OnStage at (λ t. OfHead rows nodes buffers (SendsParts body t old new (Err e)) old new (Err e)) old new (Err e))
    (sym opened) (inr (inr (ap Err refused.0, refused.1)))
sends_refused old new t rows nodes buffers body h fault e opened head cause refused = subst
    (λ (at : Stage). OnStage at (λ t. OfHead rows nodes buffers (SendsParts body t old new (Err e)) old new (Err e)) old new (Err e))
    (sym opened) (inl (h, head, inr (fault, (λ same. cc), cause, (ap Err refused.0, refused.1))))

-- the values of a dictionary are refused by a reader's rules
pub gives_refused : (old new : WriteSession) (t : TableState) (id rows : ℤ) (nodes buffers : List ℤ) (body : List ℕ) (h : BatchHead)
    (fault : Fault) (e : WriteError) → old.stage ≡ stage.Open t → IsHead rows nodes buffers h
    → UnlessOutOfMemory fault (RefusesValues t.limits (in_force t) id h body fault) → RefusesInvalid fault old new e
    → GivesDictionary id rows nodes buffers body old new (Err e)
gives_refused old new t id rows nodes buffers body h NoMemory e opened head cause refused = subst
    (λ (at : Stage). OnStage at (λ t. OfHead rows nodes buffers (GivesParts id body t old new (Err e)) old new (Err e)) old new (Err e))
    (sym opened) (inr (inr (ap Err refused.0, refused.1)))
gives_refused old new t id rows nodes buffers body h fault e opened head cause refused = subst
    (λ (at : Stage). OnStage at (λ t. OfHead rows nodes buffers (GivesParts id body t old new (Err e)) old new (Err e)) old new (Err e))
    (sym opened) (inl (h, head, inr (fault, (λ same. cc), cause (λ same. cc), (ap Err refused.0, refused.1))))
