-- How a conversion ends.
use Rattle.std.proofs.Common.{◌≡◌, ◌∙◌, refl, sym, ap, subst, ℕ, ◌+◌, ◌-◌, ◌*◌, ◌^◌, ◌<◌, ◌≤◌, List, [], ◌∷◌, ◌++◌, length}
use Rattle.std.proofs.Common.{Option, Some, None, Ok, Err, inl, inr, true, false, arith}
use Rattle.std.specs.Prelude.{Bool, IfErr, IfOk, OnOk, Result}
use Rattle.std.proofs.KnownBytes.{Appends-trans}
use Rattle.std.proofs.lemmas.Bool.{false≢true}
use Rattle.std.proofs.lemmas.List.{append-nil}
use Rattle.ipc_text_csv.specs.declared.record_reader.RecordReader.{RecordReader}
use Rattle.ipc_model.specs.declared.fault.WriteFault.{WriteFault}
use Rattle.ipc_model.specs.declared.fault.WriteFault.TheVariants as w
use Rattle.ipc_model.specs.declared.limits.Limits.{Limits}
use Rattle.ipc_model.specs.declared.schema.Schema.{Schema}
use Rattle.ipc_model.specs.declared.table.BatchRows.{BatchRows}
use Rattle.ipc_model.specs.declared.value.Value.{Value}
use Rattle.ipc_stream.specs.declared.pending_batch.PendingBatch.{PendingBatch}
use Rattle.ipc_stream.specs.PendingBatches.{HoldsBatch}
use Rattle.ipc_stream_read.specs.Stream.{EndsStream}
use Rattle.ipc_stream.specs.Writer.{Finishes, FinishFails, LeavesBatch, StartFails, Writer}
use Rattle.ipc_stream.specs.Writing.{AcceptsBatch, BreaksOff, CutShort, RefusesBatch}
use Rattle.ipc_stream.proofs.Chains.{table_tells}
use Rattle.ipc_stream.proofs.TablesWritten as tables
use Rattle.ipc_text_csv.specs.RowCsv.{flat_fault, names}
use Rattle.ipc_text_csv.specs.RowReaders.{FindsHeader, FindsRow, HasRead}
use Rattle.ipc_text_csv.specs.declared.record_fault.RecordFault.{RecordFault}
use Rattle.ipc_text_csv.specs.declared.record_fault.RecordFault.TheVariants as none
use Rattle.ipc_text_temporal.specs.declared.fault.TextFault.TheVariants as x
use Rattle.job_from_csv.specs.Stops.{stop_of}
use Rattle.job_from_csv.specs.Batches.{AreBatched, AreLimitsFor, batch_of, in_rows, last_batch}
use Rattle.job_from_csv.specs.Conversion.{AnswersConversion, Converts, StopsFor, StopsWriting, as_header, before, exhausted, in_header}
use Rattle.job_from_csv.specs.Conversion.{table_of_batches}
use Rattle.ipc_text_csv.specs.Records.{AreRecordsOf, HasReadRecords}
use Rattle.job_from_csv.specs.Steps.{Came, HoldsLast, IsOut, SendsAll, SendsCsvBatch}
use Rattle.job_from_csv.specs.declared.batch_size.BatchSize.{BatchSize}
use Rattle.job_from_csv.specs.declared.convert.BatchEnd.{BatchEnd}
use Rattle.job_from_csv.specs.declared.convert.BatchEnd.TheVariants as end
use Rattle.ipc_text_csv.specs.declared.row_reader.RowReader.{RowReader}
use Rattle.job_from_csv.specs.declared.stop.FromCsvStop.{FromCsvStop}
use Rattle.job_from_csv.proofs.Breaking.{first_out, send_full_stops, send_last_stops}
use Rattle.job_from_csv.proofs.Pushing.{holds_accepted}
use Rattle.ipc_text_csv.proofs.Reading.{are_first}
use Rattle.job_from_csv.proofs.Sending.{batch_out, came_fill, came_more, came_sent, last_is}
use Rattle.ipc_text_csv.specs.declared.dialect.Dialect.{Dialect}

module _ (d : Dialect) {R : Type 0} (remaining : R → Option (List ℕ)) (input : Option (List ℕ)) (s : Schema) (size : BatchSize) (old :
    Option (List ℕ))
    (failures : ℕ) (now : RowReader R) (writer : Writer) (left : List (List Value))
    (came : Came d remaining input s size old failures now writer left) (few : length left < size.rows)
    (all : AreRecordsOf d input (names s.fields ∷ came.records)) where
  -- where the rows that are left are out too, all is out
  all_sent : (new : Writer) → new.limits ≡ writer.limits → IsOut size s (came.batches ++ last_batch left) old failures new
      → SendsAll d input s size old failures new
  all_sent new same out = record {
    records = came.records;
    all = all;
    there = are_first d remaining input (names s.fields ∷ came.records) now.reader came.read.stands;
    batches = came.batches;
    left = left;
    batched = subst (λ l. AreBatched d l s size came.records came.batches left) (sym same)
        (came_fill d remaining input s size old failures now writer left came few);
    out = out;
  }

  -- where no row is left over, all is out
  pub ends_full : left ≡ [] → SendsAll d input s size old failures writer
  ends_full none = all_sent writer refl (subst (λ bs. IsOut size s bs old failures writer)
      (sym (ap (λ l. came.batches ++ last_batch l) none ∙ append-nil came.batches)) came.out)

  -- where the last batch was sent, all is out
  pub ends_last : (new : Writer) → 0 < length left → LeavesBatch writer (batch_of left) new (Ok tt)
      → AcceptsBatch writer.limits writer.schema (batch_of left) → SendsAll d input s size old failures new
  ends_last new some leaves accepts = all_sent new (limits_stay leaves) (subst (λ bs. IsOut size s (came.batches ++ bs) old failures new)
      (sym (last_is left some)) (batch_out size s came.batches old failures writer new came.out (batch_of left) leaves accepts))
    where
      limits_stay : LeavesBatch writer (batch_of left) new (Ok tt) → new.limits ≡ writer.limits
      limits_stay (worked, sent, same_schema, same, works, kept, same_seed) = same

module _ (d : Dialect) {R : Type 0} (remaining : R → Option (List ℕ)) (input : Option (List ℕ)) (s : Schema) (size : BatchSize) (old :
    Option (List ℕ))
    (failures : ℕ) (now : RowReader R) (writer new : Writer) (held : PendingBatch) (some : 0 < size.rows) where
  -- how far a conversion came where the rows that are held went out: as many as a batch may have
  pub rows_sent : HoldsLast d remaining input s size old failures now writer held end.Rows
      → ((b : BatchRows) → HoldsBatch writer.limits writer.schema b held → LeavesBatch writer b new (Ok tt))
      → ((b : BatchRows) → HoldsBatch writer.limits writer.schema b held → AcceptsBatch writer.limits writer.schema b)
      → Came d remaining input s size old failures now new []
  rows_sent (left, holds, full) leaves accepts =
      came_sent d remaining input s size old failures now writer left holds.came left [] (sym (append-nil left)) (in_rows full) new
      (leaves _ holds.held_rows) (accepts _ holds.held_rows)

  -- or so many that with the next row they would be too long
  pub long_sent : HoldsLast d remaining input s size old failures now writer held end.TooLong
      → ((b : BatchRows) → HoldsBatch writer.limits writer.schema b held → LeavesBatch writer b new (Ok tt))
      → ((b : BatchRows) → HoldsBatch writer.limits writer.schema b held → AcceptsBatch writer.limits writer.schema b)
      → Came d remaining input s size old failures now new (now.row ∷ [])
  long_sent (left, came, holds, has, few, full) leaves accepts =
      came_sent d remaining input s size old failures now writer (left ++ now.row ∷ []) came left (now.row ∷ []) refl full new
      (leaves _ holds) (accepts _ holds)

  -- or the last ones
  pub last_sent : HoldsLast d remaining input s size old failures now writer held end.Last
      → ((b : BatchRows) → HoldsBatch writer.limits writer.schema b held → LeavesBatch writer b new (Ok tt))
      → ((b : BatchRows) → HoldsBatch writer.limits writer.schema b held → AcceptsBatch writer.limits writer.schema b)
      → SendsAll d input s size old failures new
  last_sent (last, left, holds, has, few, all) leaves accepts =
      ends_last d remaining input s size old failures last writer left holds.came few all new has (leaves _ holds.held_rows)
      (accepts _ holds.held_rows)

  -- and why it stops where they did not go out
  pub held_unsent : (end : BatchEnd) → HoldsLast d remaining input s size old failures now writer held end → (fault : WriteFault)
      → ((b : BatchRows) → HoldsBatch writer.limits writer.schema b held
      → LeavesBatch writer b new (Err fault))
      → ((b : BatchRows) → HoldsBatch writer.limits writer.schema b held → ¬ (fault ≡ w.Failed)
      → RefusesBatch writer.limits writer.schema b fault) → StopsWriting d input s size old new.written failures new.failures fault
  held_unsent end.Rows (left, holds, full) fault leaves judged =
      send_full_stops d remaining input s size old failures now writer left holds.came left [] (sym (append-nil left))
      (holds_accepted d remaining input s size old failures now writer held left holds) new fault (leaves _ holds.held_rows)
      (judged _ holds.held_rows) (in_rows full) some
  held_unsent end.TooLong (left, came, holds, has, few, full) fault leaves judged =
      send_full_stops d remaining input s size old failures now writer (left ++ now.row ∷ []) came left (now.row ∷ []) refl
      (subst (λ z. AcceptsBatch writer.limits z (batch_of left)) came.out.same_schema holds.accepted) new fault (leaves _ holds)
      (judged _ holds) full (omega (arith, has, few))
  held_unsent end.Last (last, left, holds, has, few, all) fault leaves judged =
      send_last_stops d remaining input s size old failures last writer left holds.came
      (holds_accepted d remaining input s size old failures last writer held left holds) new fault (leaves _ holds.held_rows)
      (judged _ holds.held_rows) has few all

module _ (d : Dialect) {R : Type 0} (remaining : R → Option (List ℕ)) (input : Option (List ℕ)) (s : Schema) (size : BatchSize) (old :
    Option (List ℕ))
    (failures : ℕ) (before now : RowReader R) (writer : Writer)
    (came : Came d remaining input s size old failures before writer []) (some : 0 < size.rows) where
  -- what follows where no row is kept: the next row is, or all rows were sent; or why none is read
  pub goes_on : (r : Result Bool FromCsvStop)
      → IfOk r (λ has_row. (from : Option (List ℕ)) (records : List (List (List ℕ))) (rows : List (List Value))
      → HasRead d remaining from s records rows before → FindsRow d remaining from s records rows now has_row)
      → IfErr r (λ why. (from to : Option (List ℕ)) (most : BatchSize) (failed : ℕ) (at : Writer) (left : List (List Value))
      → Came d remaining from s most to failed before at left → (0 < length left → AcceptsBatch at.limits s (batch_of left))
      → length left < most.rows → StopsFor d from s most to at.written failed at.failures why)
      → SendsCsvBatch d remaining input s size old failures now writer r
  goes_on (Ok true) finds stops =
      came_more d remaining input s size old failures before writer [] came now (finds input came.records came.rows came.read)
  goes_on (Ok false) finds stops =
      ends_full d remaining input s size old failures before writer [] came some (finds input came.records came.rows came.read) refl
  goes_on (Err why) finds stops = stops input old size failures writer [] came (λ none. absurd (omega (arith, none))) some

-- ---- the records that are counted

-- what is counted where there was a row, and where there was none
pub counts_up : (has_row : Bool) (old new : ℕ) → (has_row ≡ true → (new ≡ old + 1) × (new < 2 ^ 64)) → (has_row ≡ false → new ≡ old)
    → (old ≤ new) × (has_row ≡ true → (old < new) × (new < 2 ^ 64))
counts_up true old new more same = let (next, below) = more refl in (omega (arith, next), λ _. (omega (arith, next), below))
counts_up false old new more same = let stays = same refl in (omega (arith, stays), λ is. absurd (false≢true is))

-- how many more batches there can be, where a row is kept for the next one and where none is
abbrev pub batches_left : ℕ → Bool → ℕ
batches_left count false = 2 * (2 ^ 64 - count)
batches_left count true = 2 * (2 ^ 64 - count) + 1

pub fewer_left : (old new : ℕ) (has_row : Bool) → old < 2 ^ 64 → (old ≤ new) × (has_row ≡ true → (old < new) × (new < 2 ^ 64))
    → batches_left new has_row < batches_left old true
fewer_left old new false below counted = let most = counted.0 in omega (arith, most)
fewer_left old new true below counted = let more = (counted.1 refl).0 in omega (arith, more, below)

-- ---- the start and the end of the stream

none_last : {X : Type 0} (front : List X) (x : X) → ¬ ([] ≡ front ++ x ∷ [])
none_last [] x is = cc
none_last (y ∷ front) x is = cc

-- a conversion stops where the schema is refused
pub start_stops : (d : Dialect) {R : Type 0} (remaining : R → Option (List ℕ)) (input : Option (List ℕ)) (s : Schema) (size : BatchSize)
    (old new : Option (List ℕ)) (f0 f1 : ℕ) (reader : RecordReader R) (limits : Limits) (fault : WriteFault) → AreLimitsFor size limits
    → 0 < size.rows → flat_fault s.fields ≡ None → HasReadRecords d remaining input (names s.fields ∷ []) reader
    → StartFails limits s old new f0 f1 fault
    → StopsWriting d input s size old new f0 f1 fault
start_stops d remaining input s size old new f0 f1 reader limits fault within some flat stands fails = record {
  limits = limits;
  within = within;
  records = [];
  there = are_first d remaining input (names s.fields ∷ []) reader stands;
  batches = [];
  left = [];
  batched = record { flat = flat; rows = []; read = tt; fill = record { full = tt; few = some; joined = refl } };
  breaks = tables.start_breaks (table_of_batches s []) old new f0 f1 fault fails.cause fails.unsent;
  all = λ _. inr (tables.start_breaks (table_of_batches s []) old new f0 f1 fault fails.cause fails.unsent);
  first = λ _ front texts is. absurd (none_last front texts is);
  alone = λ _ _ front row is. absurd (none_last front row is);
}

module _ (d : Dialect) (input : Option (List ℕ)) (s : Schema) (size : BatchSize) (old : Option (List ℕ)) (failures : ℕ) (writer : Writer)
    (sends : SendsAll d input s size old failures writer) where
  -- where the end mark is out behind all rows, all is converted
  pub all_converts : (new held_back : Option (List ℕ)) (failures_new : ℕ) → Finishes writer new held_back failures_new
      → Converts d input s size old new failures failures_new
  all_converts new held_back failures_new finishes = record {
    limits = writer.limits;
    within = sends.out.within;
    records = sends.records;
    all = sends.all;
    batches = sends.batches;
    left = sends.left;
    batched = sends.batched;
    sent = record {
      x = sends.out.sent.x ++ finishes.sent.x;
      whole = (
        sends.out.sent.x,
        ap (λ y. sends.out.sent.x ++ y) finishes.sent.whole,
        (let report = table_tells writer.limits (table_of_batches s (sends.batches ++ last_batch sends.left)) sends.out.sent.x
            sends.out.sent.whole in
            (Some report.0, report.1.1)),
      );
      bytes = Appends-trans old writer.written new sends.out.sent.x finishes.sent.x sends.out.sent.bytes finishes.sent.bytes;
      worked = sends.out.sent.worked;
      works = finishes.sent.works;
    };
  }

  cut_breaks : (new : Option (List ℕ)) (failures_new : ℕ) → CutShort EndsStream writer.written new failures_new
      → BreaksOff writer.limits (table_of_batches s (sends.batches ++ last_batch sends.left)) old new failures failures_new w.Write
  cut_breaks new failures_new cut =
      let batches = sends.batches ++ last_batch sends.left in
      let out = subst (λ bs. tables.IsOut writer.limits (table_of_batches s bs) old writer.written failures writer.failures
      (length batches))
      (append-nil batches) (first_out size s batches [] old failures writer sends.out) in
      tables.end_broken (table_of_batches s batches) old writer.written new failures writer.failures failures_new (length batches) out
      (omega arith) (Err w.Write) cut refl

  cut_stops : (new : Option (List ℕ)) (failures_new : ℕ) → CutShort EndsStream writer.written new failures_new
      → StopsWriting d input s size old new failures failures_new w.Write
  cut_stops new failures_new cut = record {
    limits = writer.limits;
    within = sends.out.within;
    records = sends.records;
    there = sends.there;
    batches = sends.batches;
    left = sends.left;
    batched = sends.batched;
    breaks = cut_breaks new failures_new cut;
    all = λ _. inl sends.all;
    first = λ is. absurd is;
    alone = λ _ is. absurd cc;
  }

  -- a conversion stops where the end mark isn't out whole
  pub end_stops : (new : Option (List ℕ)) (failures_new : ℕ) (fault : WriteFault) → FinishFails writer new failures_new fault
      → StopsWriting d input s size old new failures failures_new fault
  end_stops new failures_new w.Write fails = cut_stops new failures_new fails.1
  end_stops new failures_new w.Failed fails = absurd (false≢true (sym sends.out.works ∙ fails.0))
  end_stops new failures_new w.BadSchema fails = absurd fails
  end_stops new failures_new (w.Row row cause) fails = absurd fails
  end_stops new failures_new w.TooLong fails = absurd fails
  end_stops new failures_new w.DictionaryFull fails = absurd fails
  end_stops new failures_new w.TooManyRows fails = absurd fails
  end_stops new failures_new w.OutOfMemory fails = absurd fails

-- ---- the header

-- a conversion stops where the header is refused, and nothing is out
pub header_stops : (d : Dialect) {R : Type 0} (remaining : R → Option (List ℕ)) (input : Option (List ℕ)) (s : Schema) (size : BatchSize)
    (old : Option (List ℕ)) (failures : ℕ) (now : RowReader R) (why : RecordFault) → flat_fault s.fields ≡ None
    → FindsHeader d remaining input s now (Err why) → StopsFor d input s size old old failures failures (stop_of why now.fields)
header_stops d remaining input s size old failures now none.Input flat finds = before flat (refl, refl)
header_stops d remaining input s size old failures now (none.Text x.OutOfMemory) flat finds = in_header (exhausted flat refl) (refl, refl)
header_stops d remaining input s size old failures now (none.Text x.NotFlat) flat finds = as_header finds (refl, refl)
header_stops d remaining input s size old failures now (none.Text x.NoColumns) flat finds = as_header finds (refl, refl)
header_stops d remaining input s size old failures now (none.Text (x.NoTextForm column)) flat finds =
    as_header finds (refl, refl)
header_stops d remaining input s size old failures now (none.Text (x.BadField number column)) flat finds =
    as_header finds (refl, refl)
header_stops d remaining input s size old failures now (none.Text (x.WrongFieldCount number)) flat finds =
    as_header finds (refl, refl)
header_stops d remaining input s size old failures now (none.Text x.BadSchemaJson) flat finds = as_header finds (refl, refl)

-- what is answered of the whole conversion, at Ok and at a refusal
pub answers_ok : (d : Dialect) (input : Option (List ℕ)) (s : Schema) (size : BatchSize) (old new : Option (List ℕ)) (f0 f1 : ℕ)
    (r : Result Unit FromCsvStop)
    → AnswersConversion d input s size old new f0 f1 r → OnOk r (Converts d input s size old new f0 f1)
answers_ok d input s size old new f0 f1 (Ok x) h = h
answers_ok d input s size old new f0 f1 (Err why) h = tt

pub answers_err : (d : Dialect) (input : Option (List ℕ)) (s : Schema) (size : BatchSize) (old new : Option (List ℕ)) (f0 f1 : ℕ)
    (r : Result Unit FromCsvStop)
    → AnswersConversion d input s size old new f0 f1 r → IfErr r (StopsFor d input s size old new f0 f1)
answers_err d input s size old new f0 f1 (Ok x) h = tt
answers_err d input s size old new f0 f1 (Err why) h = h
