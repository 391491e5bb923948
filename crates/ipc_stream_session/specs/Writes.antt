-- What the calls of a writer's session do to its stream, its row and its pending rows.
use Rattle.std.specs.Prelude.{◌≡◌, ◌≢◌, ◌⊎◌, ◌++◌, ◌≤◌, ◌<◌, ⊤, ℕ, ℤ, List, [], ◌∷◌, length}
use Rattle.std.specs.Prelude.{Option, Some, None, Result, Ok, Err, IsUtf8, string_bytes}
use Rattle.std.specs.declared.alloc.AllocError.{AllocError}
use Rattle.std.specs.declared.alloc.Global.{Global}
use Rattle.std.specs.declared.string.String.{String}
use Rattle.ipc_model.specs.FirstRowFault.{IsFirstRowFault}
use Rattle.ipc_model.specs.Fits.{RowFits}
use Rattle.ipc_model.specs.declared.fault.Fault.{Fault}
use Rattle.ipc_model.specs.declared.fault.Fault.TheVariants.{OutOfMemory as NoMemory}
use Rattle.ipc_model.specs.declared.fault.WriteFault.{WriteFault}
use Rattle.ipc_model.specs.declared.fault.WriteFault.TheVariants as w
use Rattle.ipc_model.specs.declared.limits.Limits.{Limits}
use Rattle.ipc_model.specs.declared.schema.Schema.{Schema}
use Rattle.ipc_model.specs.declared.table.BatchRows.{BatchRows}
use Rattle.ipc_model.specs.declared.value.Value.{Value}
use Rattle.ipc_model.specs.declared.value.Value.TheVariants as value
use Rattle.ipc_dict.specs.Planning.{times_sent_for}
use Rattle.ipc_text_json.specs.SchemaTexts.{StatesSchema, StatesNoSchema}
use Rattle.ipc_meta.specs.declared.head.BatchHead.{BatchHead}
use Rattle.ipc_column.specs.Rows.{RefusesParts, Rows}
use Rattle.ipc_stream_read.specs.Stream.{InForce, values_in_force}
use Rattle.ipc_stream_read.specs.StreamStates.{RefusesValues, SetsValues}
use Rattle.ipc_stream.specs.Canonical.{CopiesBatch, CopiesSent}
use Rattle.ipc_stream.specs.PendingBatches.{with_rows}
use Rattle.ipc_stream.specs.declared.canonical.CanonicalSize.{CanonicalSize}
use Rattle.ipc_stream_session.specs.Cells.{nested_cell}
use Rattle.ipc_stream_session.specs.Parts.{IsHead}
use Rattle.ipc_stream_session.specs.Stages.{HasWritten, IsNotOpen, SendsBatch, emptied_stage}
use Rattle.ipc_stream_session.specs.Tables.{FinishesTable, IsBegun, MovesBytes, StopsAtStart}
use Rattle.ipc_stream_session.specs.Tables.{TableState, in_force}
use Rattle.ipc_stream_session.specs.WriteErrors.{error_line, error_number}
use Rattle.ipc_stream_session.specs.declared.batch.ReadBatch.{ReadBatch}
use Rattle.ipc_stream_session.specs.declared.cells.OpenNesting.{OpenNesting}
use Rattle.ipc_stream_session.specs.declared.cells.Nesting.{Nesting}
use Rattle.ipc_stream_session.specs.declared.stage.Stage.{Stage}
use Rattle.ipc_stream_session.specs.declared.stage.Stage.TheVariants as stage
use Rattle.ipc_stream_session.specs.declared.write_error.WriteError.{WriteError}
use Rattle.ipc_stream_session.specs.declared.write_error.WriteError.TheVariants as error
use Rattle.ipc_stream_session.specs.declared.write_session.WriteSession.{WriteSession}

-- a writer without a schema, within these limits
pub record IsNew (limits : Limits) (s : WriteSession) : Type 0 where
  pub within : s.limits ≡ limits
  pub stage_is : s.stage ≡ stage.New
  pub front_is : s.front ≡ []
  pub cells_are : s.cells ≡ []
  pub nestings_are : s.nestings ≡ []
  pub rows_are : s.rows ≡ []
  pub pairs_are : s.pairs ≡ []
  pub error_is : s.error ≡ None

-- ---- what each call needs

-- nothing more is written: the bytes that were written wait
abbrev pub HasEnded : Stage → Stage → Type 0
HasEnded old new = (ready : List ℕ) × HasWritten old ready × (new ≡ stage.Ended ready)

-- nothing more is written, and the rest of the session is as it was
abbrev pub EndsSession : WriteSession → WriteSession → Type 0
EndsSession old new = (ready : List ℕ) × HasWritten old.stage ready
    × (new ≡ record old { stage = stage.Ended ready })

-- a call with this error leaves the session as it was
abbrev pub IsRefused : WriteError → WriteSession → WriteSession → Result ⊤ WriteError → Type 0
IsRefused e old new r = (r ≡ Err e) × (new ≡ old)

-- memory ran out, and nothing more is written: what can be taken is as it was
abbrev pub StopsForMemory : WriteSession → WriteSession → WriteError → Type 0
StopsForMemory old new e = (e ≡ error.Refused w.OutOfMemory) × (new.front ≡ old.front)
    × HasEnded old.stage new.stage

-- a call that needs an open table: before its schema it is a misuse, after the end it is W10
abbrev pub OnStage : Stage → (TableState → Type 0) → WriteSession → WriteSession
    → Result ⊤ WriteError → Type 0
OnStage stage.New Call old new r = IsRefused error.Misuse old new r
OnStage (stage.Open table) Call old new r = Call table
OnStage (stage.Ended ready) Call old new r = IsRefused (error.Refused w.Failed) old new r

-- the table leaves the session, for a call that needs one
abbrev pub TakesTableOut : WriteSession → WriteSession → Result TableState WriteError → Type 0
TakesTableOut old new (Ok t) =
    (old.stage ≡ stage.Open t) × (new ≡ record old { stage = stage.New })
TakesTableOut old new (Err e) = IsNotOpen old.stage e × (new ≡ old)

-- ---- the schema

-- the state after a schema was refused: W9 and W11 end the stream
abbrev pub stage_at : WriteFault → List ℕ → Stage
stage_at w.Write ready = stage.Ended ready
stage_at w.OutOfMemory ready = stage.Ended ready
stage_at fault ready = stage.New

-- the schema of the text was begun, or refused for its cause
abbrev pub BeginsNew : List ℕ → WriteSession → WriteSession → Result ⊤ WriteError → Type 0
BeginsNew text old new (Ok x) = (s : Schema) × StatesSchema text s × ((t : TableState)
    × IsBegun old.limits s t × (new ≡ record old { stage = stage.Open t }))
BeginsNew text old new (Err error.BadSchemaJson) = StatesNoSchema text × (new ≡ old)
BeginsNew text old new (Err (error.Refused w.OutOfMemory)) =
    new ≡ record old { stage = stage.Ended [] }
BeginsNew text old new (Err (error.Refused fault)) = (s : Schema) × StatesSchema text s
    × ((ready : List ℕ) × StopsAtStart old.limits s ready fault
    × (new ≡ record old { stage = stage_at fault ready }))
BeginsNew text old new (Err e) = ⊥

-- a schema is for a new writer: on an open one it is a misuse, after the end it is W10
abbrev pub BeginsAt : Stage → List ℕ → WriteSession → WriteSession → Result ⊤ WriteError → Type 0
BeginsAt stage.New text old new r = BeginsNew text old new r
BeginsAt (stage.Open table) text old new r = IsRefused error.Misuse old new r
BeginsAt (stage.Ended ready) text old new r = IsRefused (error.Refused w.Failed) old new r

-- the call that begins the stream of the schema that a text states
abbrev pub BeginsSession : List ℕ → WriteSession → WriteSession → Result ⊤ WriteError → Type 0
BeginsSession text old new r = BeginsAt old.stage text old new r

-- ---- cells

-- the cell is the next one of the row, or of the list or struct that was begun last
abbrev pub AddsTo : Value → WriteSession → WriteSession → Result ⊤ WriteError → Type 0
AddsTo cell old new (Ok x) = new ≡ record old { cells = old.cells ++ cell ∷ [] }
AddsTo cell old new (Err e) = StopsForMemory old new e

-- the call that adds a cell
abbrev pub Adds : Value → WriteSession → WriteSession → Result ⊤ WriteError → Type 0
Adds cell old new r = OnStage old.stage (λ _. AddsTo cell old new r) old new r

-- a text is a cell if it is UTF-8
pub record AddsUtf8 (text : List ℕ) (old new : WriteSession) (r : Result ⊤ WriteError) :
    Type 0 where
  pub is_utf8 : IsUtf8 text → AddsTo (value.Text text) old new r
  pub not_utf8 : ¬ IsUtf8 text → IsRefused error.NotUtf8 old new r

-- the call that adds a text as a cell
abbrev pub AddsText : List ℕ → WriteSession → WriteSession → Result ⊤ WriteError → Type 0
AddsText text old new r = OnStage old.stage (λ _. AddsUtf8 text old new r) old new r

-- a list or struct is begun after the cells so far; more than 64 of them are a misuse
abbrev pub BeginsIn : Nesting → WriteSession → WriteSession → Result ⊤ WriteError → Type 0
BeginsIn kind old new (Ok x) = (length old.nestings < 64) × (new ≡ record old {
  nestings = old.nestings ++ record { kind = kind; cells = old.cells } ∷ [];
  cells = [];
})
BeginsIn kind old new (Err error.Misuse) = (64 ≤ length old.nestings) × (new ≡ old)
BeginsIn kind old new (Err e) = StopsForMemory old new e

-- the call that begins a list or a struct
abbrev pub BeginsCell : Nesting → WriteSession → WriteSession → Result ⊤ WriteError → Type 0
BeginsCell kind old new r = OnStage old.stage (λ _. BeginsIn kind old new r) old new r

-- the list or struct that was begun last is the next cell of what is around it; if there is none,
-- the call is a misuse
abbrev pub EndsIn : WriteSession → WriteSession → Result ⊤ WriteError → Type 0
EndsIn old new (Ok x) = (outer : List OpenNesting) × ((last : OpenNesting)
    × (old.nestings ≡ outer ++ last ∷ []) × (new ≡ record old {
      nestings = outer;
      cells = last.cells ++ nested_cell last.kind old.cells ∷ [];
    }))
EndsIn old new (Err error.Misuse) = (old.nestings ≡ []) × (new ≡ old)
EndsIn old new (Err e) = StopsForMemory old new e

-- the call that ends the list or struct that was begun last
abbrev pub EndsCell : WriteSession → WriteSession → Result ⊤ WriteError → Type 0
EndsCell old new r = OnStage old.stage (λ _. EndsIn old new r) old new r

-- ---- rows

-- the cells are a row that fits, and is the last pending one; or they do not fit, and are dropped;
-- inside a list or struct the call is a misuse
abbrev pub TakesRow : TableState → WriteSession → WriteSession → Result ⊤ WriteError → Type 0
TakesRow t old new (Ok x) = (old.nestings ≡ []) × RowFits t.schema.fields old.cells
    × (new ≡ record old { cells = []; rows = old.rows ++ old.cells ∷ [] })
TakesRow t old new (Err (error.Refused (w.Row row fault))) = (old.nestings ≡ [])
    × (row ≡ length old.rows) × IsFirstRowFault t.schema.fields old.cells fault
    × (new ≡ record old { cells = [] })
TakesRow t old new (Err error.Misuse) = (old.nestings ≢ []) × (new ≡ old)
TakesRow t old new (Err e) = StopsForMemory old new e

-- the call that ends the row
abbrev pub EndsRow : WriteSession → WriteSession → Result ⊤ WriteError → Type 0
EndsRow old new r = OnStage old.stage (λ t. TakesRow t old new r) old new r

-- no cell and no list or struct of the row remains
abbrev pub DropsCells : WriteSession → WriteSession → Result ⊤ WriteError → Type 0
DropsCells old new (Ok x) = new ≡ record old { cells = []; nestings = [] }
DropsCells old new (Err e) = ⊥

-- the call that drops the row that has not ended
abbrev pub DropsRow : WriteSession → WriteSession → Result ⊤ WriteError → Type 0
DropsRow old new r = OnStage old.stage (λ _. DropsCells old new r) old new r

-- ---- batches

-- two texts are a pair if both are UTF-8, unless memory ran out
abbrev pub MakesPair : List ℕ → List ℕ → Result (Option (List ℕ × List ℕ)) AllocError → Type 0
MakesPair key value (Ok (Some pair)) = IsUtf8 key × IsUtf8 value × (pair ≡ (key, value))
MakesPair key value (Ok None) = (¬ IsUtf8 key) ⊎ (¬ IsUtf8 value)
MakesPair key value (Err e) = IsUtf8 key × IsUtf8 value

-- the pair is the last one of those that are sent with the rows
abbrev pub AddsPairTo : List ℕ → List ℕ → WriteSession → WriteSession → Result ⊤ WriteError → Type 0
AddsPairTo key value old new (Ok x) = new ≡ record old { pairs = old.pairs ++ (key, value) ∷ [] }
AddsPairTo key value old new (Err e) = StopsForMemory old new e

-- two texts are a pair if both are UTF-8
pub record AddsUtf8Pair (key value : List ℕ) (old new : WriteSession) (r : Result ⊤ WriteError) :
    Type 0 where
  pub are_utf8 : IsUtf8 key → IsUtf8 value → AddsPairTo key value old new r
  pub key_not_utf8 : ¬ IsUtf8 key → IsRefused error.NotUtf8 old new r
  pub value_not_utf8 : ¬ IsUtf8 value → IsRefused error.NotUtf8 old new r

-- the call that adds a pair of key and value
abbrev pub AddsPair : List ℕ → List ℕ → WriteSession → WriteSession → Result ⊤ WriteError → Type 0
AddsPair key value old new r =
    OnStage old.stage (λ _. AddsUtf8Pair key value old new r) old new r

-- no row, no pair and no cell remains pending
abbrev pub DropsPending : WriteSession → WriteSession → Result ⊤ WriteError → Type 0
DropsPending old new (Ok x) =
    new ≡ record old { cells = []; nestings = []; rows = []; pairs = [] }
DropsPending old new (Err e) = ⊥

-- the call that drops what was not sent
abbrev pub DropsBatch : WriteSession → WriteSession → Result ⊤ WriteError → Type 0
DropsBatch old new r = OnStage old.stage (λ _. DropsPending old new r) old new r

-- the error of a call whose writer refuses it
abbrev pub refused_as : {T : Type 0} → Result T WriteFault → Result T WriteError
refused_as (Ok x) = Ok x
refused_as (Err fault) = Err (error.Refused fault)

-- the batch was sent, or refused for its cause, and the rows and pairs of another remain pending
pub record Sends (b left : BatchRows) (t : TableState) (old new : WriteSession)
    (r : Result ⊤ WriteError) : Type 0 where
  pub sent : Result ⊤ WriteFault
  pub result_is : r ≡ refused_as sent
  pub after : Stage
  pub sends : SendsBatch t b after sent
  pub new_is : new ≡ record old { stage = after; rows = left.rows; pairs = left.pairs }

-- the rows and pairs that were not sent
abbrev pub pending : WriteSession → BatchRows
pending s = with_rows s.pairs s.rows

-- the pending rows are sent as a batch with the pending pairs, and none remains
abbrev pub SendsRows : WriteSession → WriteSession → Result ⊤ WriteError → Type 0
SendsRows old new r = OnStage old.stage
    (λ t. Sends (pending old) (with_rows [] []) t old new r) old new r

-- the columns are sent with their pairs, or memory for the pairs ran out
abbrev pub SendsRead : ReadBatch → TableState → WriteSession → WriteSession → Result ⊤ WriteError
    → Type 0
SendsRead b t old new r = Sends (with_rows b.pairs b.batch.rows) (pending old) t old new r
    ⊎ ((r ≡ Err (error.Refused w.OutOfMemory)) × EndsSession old new)

-- the call that sends a batch that was read
abbrev pub SendsColumns : ReadBatch → WriteSession → WriteSession → Result ⊤ WriteError → Type 0
SendsColumns b old new r = OnStage old.stage (λ t. SendsRead b t old new r) old new r

-- these numbers are those of no head: there is an odd number of them, and the call is a misuse. Or
-- memory ran out, and nothing more is written
abbrev pub LacksHead : ℤ → List ℤ → List ℤ → WriteSession → WriteSession → Result ⊤ WriteError
    → Type 0
LacksHead rows nodes buffers old new r =
    (((h : BatchHead) → ¬ IsHead rows nodes buffers h) × IsRefused error.Misuse old new r)
    ⊎ ((r ≡ Err (error.Refused w.OutOfMemory)) × EndsSession old new)

-- what the head of these numbers does to an open table, if they are those of one
abbrev pub OfHead : ℤ → List ℤ → List ℤ → (BatchHead → Type 0) → WriteSession → WriteSession
    → Result ⊤ WriteError → Type 0
OfHead rows nodes buffers Call old new r = ((h : BatchHead) × IsHead rows nodes buffers h × Call h)
    ⊎ LacksHead rows nodes buffers old new r

-- a reader refuses the head and the body for this cause, and the session stays as it was
abbrev pub IsInvalid : (Fault → Type 0) → WriteSession → WriteSession → Result ⊤ WriteError → Type 0
IsInvalid Cause old new r = (fault : Fault) × (¬ (fault ≡ NoMemory)) × Cause fault
    × IsRefused (error.Invalid fault) old new r

-- the error of buffers that a reader refuses for this cause; if memory ran out, nothing more is
-- written
abbrev pub RefusesInvalid : Fault → WriteSession → WriteSession → WriteError → Type 0
RefusesInvalid NoMemory old new e = (e ≡ error.Refused w.OutOfMemory) × EndsSession old new
RefusesInvalid fault old new e = (e ≡ error.Invalid fault) × (new ≡ old)

-- the rows that a reader has of the head and the body are sent without pairs, or it refuses them
abbrev pub SendsParts : List ℕ → TableState → WriteSession → WriteSession → Result ⊤ WriteError
    → BatchHead → Type 0
SendsParts body t old new r h = ((rows : List (List Value))
    × Rows t.limits (values_in_force t.given) t.schema.fields h body rows
    × Sends (with_rows [] rows) (pending old) t old new r)
    ⊎ IsInvalid (λ fault. RefusesParts t.limits fault (values_in_force t.given) t.schema.fields h
    body) old new r

-- the call that sends buffers as a batch
abbrev pub SendsBuffers : ℤ → List ℤ → List ℤ → List ℕ → WriteSession → WriteSession
    → Result ⊤ WriteError → Type 0
SendsBuffers rows nodes buffers body old new r = OnStage old.stage
    (λ t. OfHead rows nodes buffers (SendsParts body t old new r) old new r) old new r

-- the values that a reader has of the head and the body are given for the dictionary with the id,
-- or it refuses them
abbrev pub GivesParts : ℤ → List ℕ → TableState → WriteSession → WriteSession → Result ⊤ WriteError
    → BatchHead → Type 0
GivesParts id body t old new r h = ((o : InForce)
    × SetsValues t.limits (in_force t) o id h body (Ok tt) × (r ≡ Ok tt)
    × (new ≡ record old { stage = stage.Open (record t { given = o.dictionaries }) }))
    ⊎ IsInvalid (λ fault. RefusesValues t.limits (in_force t) id h body fault) old new r

-- the call that gives the values of a dictionary
abbrev pub GivesDictionary : ℤ → ℤ → List ℤ → List ℤ → List ℕ → WriteSession → WriteSession
    → Result ⊤ WriteError → Type 0
GivesDictionary id rows nodes buffers body old new r = OnStage old.stage
    (λ t. OfHead rows nodes buffers (GivesParts id body t old new r) old new r) old new r

-- the body of a batch that was read is copied by the writer of an open table, or refused for its
-- cause; in another state nothing is copied
abbrev pub CopiesRead : Stage → ReadBatch → List ℕ → List ℕ → List ℤ → List ℤ
    → Result CanonicalSize WriteError → Type 0
CopiesRead stage.New b bytes_old bytes_new numbers_old numbers_new r =
    (r ≡ Err error.Misuse) × (bytes_new ≡ bytes_old) × (numbers_new ≡ numbers_old)
CopiesRead (stage.Open t) b bytes_old bytes_new numbers_old numbers_new r =
    (copied : Result CanonicalSize WriteFault)
    × CopiesBatch t.stream b.batch.rows bytes_old bytes_new numbers_old numbers_new copied
    × (r ≡ refused_as copied)
CopiesRead (stage.Ended ready) b bytes_old bytes_new numbers_old numbers_new r =
    (r ≡ Err (error.Refused w.Failed)) × (bytes_new ≡ bytes_old) × (numbers_new ≡ numbers_old)

-- how often a dictionary with the id was sent by the writer of an open table; 0 in another state
abbrev pub times_sent_by : Stage → ℤ → ℕ
times_sent_by stage.New id = 0
times_sent_by (stage.Open t) id = times_sent_for t.stream.kept id
times_sent_by (stage.Ended ready) id = 0

-- the values of the last dictionary with the id are copied by the writer of an open table, or
-- refused for its cause; in another state nothing is copied
abbrev pub CopiesLast : Stage → ℤ → List ℕ → List ℕ → List ℤ → List ℤ
    → Result (Option CanonicalSize) WriteError → Type 0
CopiesLast stage.New id bytes_old bytes_new numbers_old numbers_new r =
    (r ≡ Err error.Misuse) × (bytes_new ≡ bytes_old) × (numbers_new ≡ numbers_old)
CopiesLast (stage.Open t) id bytes_old bytes_new numbers_old numbers_new r =
    (copied : Result (Option CanonicalSize) WriteFault)
    × CopiesSent t.stream id bytes_old bytes_new numbers_old numbers_new copied
    × (r ≡ refused_as copied)
CopiesLast (stage.Ended ready) id bytes_old bytes_new numbers_old numbers_new r =
    (r ≡ Err (error.Refused w.Failed)) × (bytes_new ≡ bytes_old) × (numbers_new ≡ numbers_old)

-- ---- the end

-- no row, no pair and no cell is pending
abbrev pub HasNonePending : WriteSession → Type 0
HasNonePending s = (s.rows ≡ []) × (s.pairs ≡ []) × (s.cells ≡ []) × (s.nestings ≡ [])

-- the end mark was sent, or not for this cause, and all bytes that were sent wait
pub record FinishesWith (t : TableState) (old new : WriteSession) (r : Result ⊤ WriteError) :
    Type 0 where
  pub none : HasNonePending old
  pub ended : Result ⊤ WriteFault
  pub result_is : r ≡ refused_as ended
  pub ready : List ℕ
  pub finishes : FinishesTable t ready ended
  pub new_is : new ≡ record old { stage = stage.Ended ready }

-- a table with pending rows, pairs or cells is not finished: that is a misuse
abbrev pub FinishesOpen : TableState → WriteSession → WriteSession → Result ⊤ WriteError → Type 0
FinishesOpen t old new (Err error.Misuse) = (¬ HasNonePending old) × (new ≡ old)
FinishesOpen t old new r = FinishesWith t old new r

-- the call that ends the stream
abbrev pub Finishes : WriteSession → WriteSession → Result ⊤ WriteError → Type 0
Finishes old new r = OnStage old.stage (λ t. FinishesOpen t old new r) old new r

-- ---- what the caller sees

-- the last error; W10 does not replace it
abbrev pub error_after : Option WriteError → WriteError → Option WriteError
error_after last (error.Refused w.Failed) = last
error_after last e = Some e

-- the status is 0, or the number of the error, which is kept
abbrev pub IsStatusOf : WriteSession → Result ⊤ WriteError → WriteSession → ℕ → Type 0
IsStatusOf s (Ok x) new status = (status ≡ 0) × (new ≡ s)
IsStatusOf s (Err e) new status = (status ≡ error_number e)
    × (new ≡ record s { error = error_after s.error e })

-- the call is made, and the status is that of its answer
pub record ReportsStatus (Call : WriteSession → WriteSession → Result ⊤ WriteError → Type 0)
    (old new : WriteSession) (status : ℕ) : Type 0 where
  pub after : WriteSession
  pub answer : Result ⊤ WriteError
  pub called : Call old after answer
  pub report : IsStatusOf after answer new status

-- the result is what was copied, or the number of the error, which is kept
abbrev pub IsCopyOf : {T : Type 0} → WriteSession → Result T WriteError → WriteSession → Result T ℕ
    → Type 0
IsCopyOf s (Ok copy) new r = (r ≡ Ok copy) × (new ≡ s)
IsCopyOf s (Err e) new r = (r ≡ Err (error_number e))
    × (new ≡ record s { error = error_after s.error e })

-- a batch that was read is copied (`CopiesRead`), and the result is that of the answer
pub record ReportsCopy (b : ReadBatch) (bytes_old bytes_new : List ℕ)
    (numbers_old numbers_new : List ℤ) (old new : WriteSession) (r : Result CanonicalSize ℕ) :
    Type 0 where
  pub answer : Result CanonicalSize WriteError
  pub copied : CopiesRead old.stage b bytes_old bytes_new numbers_old numbers_new answer
  pub report : IsCopyOf old answer new r

-- the values of a dictionary are copied (`CopiesLast`), and the result is that of the answer
pub record ReportsDictionary (id : ℤ) (bytes_old bytes_new : List ℕ)
    (numbers_old numbers_new : List ℤ) (old new : WriteSession)
    (r : Result (Option CanonicalSize) ℕ) : Type 0 where
  pub answer : Result (Option CanonicalSize) WriteError
  pub copied : CopiesLast old.stage id bytes_old bytes_new numbers_old numbers_new answer
  pub report : IsCopyOf old answer new r

-- the bytes that were written and not taken are `front`, and then those of `stage`: if `front` is
-- empty, those of `stage` become `front`
pub record Gathers (old new : WriteSession) : Type 0 where
  pub some : old.front ≢ [] → new ≡ old
  pub none : old.front ≡ [] → (last : List ℕ) × HasWritten old.stage last
      × (new ≡ record old { front = last; stage = emptied_stage old.stage })

-- the number of bytes that one call can move: it is 0 only if no bytes wait
abbrev pub CountsReady : WriteSession → WriteSession → ℕ → Type 0
CountsReady old new count = Gathers old new × (count ≡ length new.front)

-- the first of these bytes are moved to the target
pub record TakesBytes (old new : WriteSession) (target_old target_new : List ℕ) (count : ℕ) :
    Type 0 where
  pub gathered : WriteSession
  pub gathers : Gathers old gathered
  pub left : List ℕ
  pub moves : MovesBytes gathered.front left target_old target_new count
  pub new_is : new ≡ record gathered { front = left }

-- the line of the last error, if there is one
abbrev pub GivesErrorLine : Option WriteError → Result (Option (String Global)) Fault → Type 0
GivesErrorLine last (Ok None) = last ≡ None
GivesErrorLine last (Ok (Some text)) = (e : WriteError) × (last ≡ Some e)
    × (string_bytes text ≡ error_line e)
GivesErrorLine last (Err fault) = (last ≢ None) × (fault ≡ NoMemory)
