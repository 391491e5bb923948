-- Where a conversion breaks off.
use Rattle.std.proofs.Common.{◌≡◌, ◌⊎◌, ◌∙◌, refl, sym, ap, subst, ℕ, suc, ◌+◌, ◌<◌, ◌≤◌, inl, inr, List, [], ◌∷◌, ◌++◌, length}
use Rattle.std.proofs.Common.{Option, Some, Err, false, append_assoc, arith, get_or, length-append, take}
use Rattle.std.specs.Prelude.{IsSome, flat_map}
use Rattle.std.specs.List.{AllByRecursion}
use Rattle.std.proofs.Math.Nat.{eq-or-lt_of_le}
use Rattle.std.proofs.Math.Seq.{get_or-append_seam, take-append_seam}
use Rattle.std.proofs.lemmas.Bool.{false≢true}
use Rattle.std.proofs.lemmas.List.{append-nil, length_push}
use Rattle.csv.specs.Records.{Row, fields_of}
use Rattle.ipc_model.specs.declared.fault.WriteFault.{WriteFault}
use Rattle.ipc_model.specs.declared.fault.WriteFault.TheVariants as w
use Rattle.ipc_model.specs.declared.limits.Limits.{Limits}
use Rattle.ipc_model.specs.declared.schema.Schema.{Schema}
use Rattle.ipc_model.specs.declared.table.BatchRows.{BatchRows}
use Rattle.ipc_model.specs.declared.value.Value.{Value}
use Rattle.ipc_text_temporal.specs.declared.fault.TextFault.TheVariants as x
use Rattle.ipc_stream.specs.PendingBatches.{RefusesPending, StaysAt, no_rows}
use Rattle.ipc_stream.specs.Dictionaries.{SendsBatch, SendsTable, kept_after, kept_at_start}
use Rattle.ipc_stream.specs.Writer.{LeavesWriter, LeavesBatch, Writer}
use Rattle.ipc_stream.specs.Writing.{AcceptsBatch, BreaksOff, NotSentWhole, RefusesBatch}
use Rattle.ipc_stream.proofs.Chains.{table_tells}
use Rattle.ipc_stream.proofs.FirstRows.{refused_at_first}
use Rattle.ipc_stream.proofs.TablesWritten as tables
use Rattle.ipc_text_csv.specs.RowCsv.{names}
use Rattle.job_from_csv.specs.Batches.{IsFull, batch_of, in_rows, last_batch}
use Rattle.job_from_csv.specs.Conversion.{AreAccepted, IsOfLengths, SendsFull, StopsBehind, StopsFor, StopsWriting, table_of_batches}
use Rattle.job_from_csv.specs.Conversion.{as_row, exhausted_behind, behind}
use Rattle.ipc_text_csv.specs.Records.{AreRecordsOf}
use Rattle.ipc_text_csv.specs.RowReaders.{FindsNoRow}
use Rattle.job_from_csv.specs.Steps.{Came, IsOut}
use Rattle.ipc_text_csv.specs.declared.row_reader.RowReader.{RowReader}
use Rattle.job_from_csv.specs.Stops.{stop_of}
use Rattle.ipc_text_csv.specs.declared.record_fault.RecordFault.{RecordFault}
use Rattle.ipc_text_csv.specs.declared.record_fault.RecordFault.TheVariants as none
use Rattle.ipc_text_csv.proofs.Reading.{are_first}
use Rattle.job_from_csv.proofs.Sending.{all_accepted, as_out, came_before, came_fill, came_filled, last_is}
use Rattle.job_from_csv.specs.declared.batch_size.BatchSize.{BatchSize}
use Rattle.ipc_text_csv.specs.declared.dialect.Dialect.{Dialect}

-- ---- what isn't sent of a batch that is refused

-- a writer that works doesn't answer that it failed before
pub not_failed : (d : Dialect) (IsWhole : List ℕ → Type 0) (kept : _) (old new : Writer) (fault : WriteFault) → old.failed ≡ false
    → LeavesWriter IsWhole kept old new (Err fault) → ¬ (fault ≡ w.Failed)
not_failed d IsWhole kept old new fault works leaves = λ is.
    let before = subst (λ f. LeavesWriter IsWhole kept old new (Err f)) is leaves in
    false≢true (sym works ∙ before.0)

-- what isn't out where a call of a writer that works is refused
pub leaves_unsent : (d : Dialect) (IsWhole : List ℕ → Type 0) (kept : _) (old new : Writer) (fault : WriteFault) → old.failed ≡ false
    → LeavesWriter IsWhole kept old new (Err fault) → NotSentWhole IsWhole old.written new.written old.failures new.failures fault
leaves_unsent d IsWhole kept old new w.BadSchema works leaves = (ap (λ v. v.written) leaves.1, ap (λ v. v.failures) leaves.1)
leaves_unsent d IsWhole kept old new (w.Row row cause) works leaves = (ap (λ v. v.written) leaves.1, ap (λ v. v.failures) leaves.1)
leaves_unsent d IsWhole kept old new w.TooLong works leaves = (ap (λ v. v.written) leaves.1, ap (λ v. v.failures) leaves.1)
leaves_unsent d IsWhole kept old new w.DictionaryFull works leaves = (ap (λ v. v.written) leaves.1, ap (λ v. v.failures) leaves.1)
leaves_unsent d IsWhole kept old new w.TooManyRows works leaves = (ap (λ v. v.written) leaves.1, ap (λ v. v.failures) leaves.1)
leaves_unsent d IsWhole kept old new w.Write works leaves = leaves.1
leaves_unsent d IsWhole kept old new w.Failed works leaves = absurd (false≢true (sym works ∙ leaves.0))
leaves_unsent d IsWhole kept old new w.OutOfMemory works leaves = (ap (λ v. v.written) leaves.1, ap (λ v. v.failures) leaves.1)

module _ (IsWhole : List ℕ → Type 0) (limits : Limits) (s : Schema) (b : BatchRows) (old new : Writer) where
  -- nothing is out where a row isn't taken
  pub held_unsent : (fault : WriteFault) → RefusesPending limits s b old.failed fault → StaysAt old new fault
      → NotSentWhole IsWhole old.written new.written old.failures new.failures fault
  held_unsent w.BadSchema refuses stays = (ap (λ v. v.written) stays, ap (λ v. v.failures) stays)
  held_unsent (w.Row row cause) refuses stays = (ap (λ v. v.written) stays, ap (λ v. v.failures) stays)
  held_unsent w.TooLong refuses stays = (ap (λ v. v.written) stays, ap (λ v. v.failures) stays)
  held_unsent w.DictionaryFull refuses stays = (ap (λ v. v.written) stays, ap (λ v. v.failures) stays)
  held_unsent w.TooManyRows refuses stays = (ap (λ v. v.written) stays, ap (λ v. v.failures) stays)
  held_unsent w.Write refuses stays = absurd refuses
  held_unsent w.Failed refuses stays = (ap (λ v. v.written) stays, ap (λ v. v.failures) stays)
  held_unsent w.OutOfMemory refuses stays = (ap (λ v. v.written) stays.1, ap (λ v. v.failures) stays.1)

-- the batch of a row that isn't taken is refused
pub held_refused : (limits : Limits) (s : Schema) (rows : List (List Value)) (fault : WriteFault)
    → RefusesPending limits s (batch_of rows) false fault → RefusesBatch limits s (batch_of rows) fault
held_refused limits s rows w.BadSchema refuses = refuses
held_refused limits s rows (w.Row row cause) refuses = refuses
held_refused limits s rows w.TooLong refuses = refuses
held_refused limits s rows w.DictionaryFull refuses = refuses
held_refused limits s rows w.TooManyRows refuses = refuses
held_refused limits s rows w.Write refuses = absurd refuses
held_refused limits s rows w.Failed refuses = absurd (false≢true refuses)
held_refused limits s rows w.OutOfMemory refuses = refuses

-- it isn't refused for a sink that failed
pub held_unwritten : (limits : Limits) (s : Schema) (b : BatchRows) (failed : _) (fault : WriteFault)
    → RefusesPending limits s b failed fault → ¬ (fault ≡ w.Write)
held_unwritten limits s b failed fault refuses = λ is. subst (λ f. RefusesPending limits s b failed f) is refuses

-- a failed sink and want of memory are none of these faults
outside_other : (fault : WriteFault) → tables.IsOutside fault → ¬ IsOfLengths fault
outside_other fault (inl is) = λ other. subst IsOfLengths is other
outside_other fault (inr is) = λ other. subst IsOfLengths is other

-- a batch that is accepted but refused all the same is refused for a failed sink or for want of memory
pub accepted_other : (limits : Limits) (s : Schema) (b : BatchRows) (fault : WriteFault) → AcceptsBatch limits s b
    → RefusesBatch limits s b fault → ¬ IsOfLengths fault
accepted_other limits s b w.TooLong accepts refuses = λ is. outside_other w.TooLong (tables.rows_outside s b accepts w.TooLong refuses) is
accepted_other limits s b w.DictionaryFull accepts refuses = λ is.
    outside_other w.DictionaryFull (tables.rows_outside s b accepts w.DictionaryFull refuses) is
accepted_other limits s b w.TooManyRows accepts refuses = λ is.
    outside_other w.TooManyRows (tables.rows_outside s b accepts w.TooManyRows refuses) is
accepted_other limits s b w.BadSchema accepts refuses = λ is. is
accepted_other limits s b (w.Row row cause) accepts refuses = λ is. is
accepted_other limits s b w.Write accepts refuses = λ is. is
accepted_other limits s b w.Failed accepts refuses = λ is. is
accepted_other limits s b w.OutOfMemory accepts refuses = λ is. is

-- ---- the table with the batch that is refused

-- the messages that are out are the first ones of a table with more batches
pub first_out : (size : BatchSize) (s : Schema) (batches more : List BatchRows) (old : Option (List ℕ)) (failures : ℕ) (writer : Writer)
    → IsOut size s batches old failures writer
    → tables.IsOut writer.limits (table_of_batches s (batches ++ more)) old writer.written failures writer.failures (length batches)
first_out size s batches more old failures writer out = record {
  bytes = out.sent.x;
  sent = subst (λ bs. SendsTable writer.limits (table_of_batches s bs) out.sent.x) (sym (take-append_seam batches more)) out.sent.whole;
  appended = out.sent.bytes;
  worked = out.sent.worked;
  works = out.sent.works;
  accepts_schema = out.accepts_schema;
  accepts = subst (AllByRecursion (AcceptsBatch writer.limits s)) (sym (take-append_seam batches more)) out.accepts;
}

-- where the batch behind those that are out is refused, writing a table with it broke off before it
batch_breaks : (size : BatchSize) (s : Schema) (batches : List BatchRows) (old : Option (List ℕ)) (failures : ℕ) (writer new : Writer)
    (b : BatchRows) (after all : List BatchRows) (fault : WriteFault) → all ≡ batches ++ b ∷ after
    → IsOut size s batches old failures writer
    → RefusesBatch writer.limits s b fault
    → NotSentWhole (SendsBatch writer.limits s (kept_after s.fields (kept_at_start s) batches) b) writer.written new.written writer.failures
    new.failures fault → BreaksOff writer.limits (table_of_batches s all) old new.written failures new.failures fault
batch_breaks size s batches old failures writer new b after all fault is out refuses unsent =
    let long = length-append batches (b ∷ after) in
    let whole = ap length is in
    let first : take (length batches) all ≡ batches = ap (take (length batches)) is ∙ take-append_seam batches (b ∷ after) in
    tables.batch_breaks (table_of_batches s all) old writer.written new.written failures writer.failures new.failures (length batches)
    (subst (λ bs. tables.IsOut writer.limits (table_of_batches s bs) old writer.written failures writer.failures (length batches)) (sym is)
    (first_out size s batches (b ∷ after) old failures writer out)) b (omega (arith, long, whole))
    (sym (ap (λ bs. get_or bs (length batches) b) is ∙ get_or-append_seam batches b after b)) fault refuses
    (subst (λ bs. NotSentWhole (SendsBatch writer.limits s (kept_after s.fields (kept_at_start s) bs) b) writer.written new.written
    writer.failures new.failures fault) (sym first) unsent)

-- two lists with one last element each have the same one
last_same : {X : Type 0} (xs ys : List X) (x y : X) → xs ++ x ∷ [] ≡ ys ++ y ∷ [] → x ≡ y
last_same xs ys x y is =
    let many : length xs ≡ length ys =
    let all = ap length is in
    let left = length_push xs x in
    let right = length_push ys y in
    omega (arith, all, left, right) in
    sym (get_or-append_seam xs x [] x) ∙ (ap (λ zs. get_or zs (length xs) x) is
    ∙ (ap (λ n. get_or (ys ++ y ∷ []) n x) many ∙ get_or-append_seam ys y [] x))

module _ (d : Dialect) {R : Type 0} (remaining : R → Option (List ℕ)) (input : Option (List ℕ)) (s : Schema) (size : BatchSize) (old :
    Option (List ℕ))
    (failures : ℕ) (now : RowReader R) (writer : Writer) where
  module _ (left : List (List Value)) (came : Came d remaining input s size old failures now writer left)
      (accepts : 0 < length left → AcceptsBatch writer.limits s (batch_of left)) (few : length left < size.rows) where
    -- ---- the next record isn't read as a row

    -- the full batches are out
    full_sent : SendsFull d s size came.records old writer.written failures writer.failures
    full_sent = record {
      limits = writer.limits;
      within = came.out.within;
      batches = came.batches;
      left = left;
      batched = came_fill d remaining input s size old failures now writer left came few;
      accepts = record {
        schema = came.out.accepts_schema;
        batches = all_accepted (AcceptsBatch writer.limits s) came.batches left came.out.accepts accepts;
      };
      sent = record {
        x = came.out.sent.x;
        whole =
            let report = table_tells writer.limits (table_of_batches s came.batches) came.out.sent.x came.out.sent.whole in
            (Some report.0, report.1.1);
        bytes = came.out.sent.bytes;
        worked = came.out.sent.worked;
        works = came.out.sent.works;
      };
    }

    stops_here : StopsBehind d input s size old writer.written failures writer.failures
    stops_here = record {
      records = came.records;
      there = are_first d remaining input (names s.fields ∷ came.records) now.reader came.read.stands;
      sent = full_sent;
    }

    -- a conversion stops where no next row is read
    pub next_stops : (why : RecordFault) (refused : Row) → FindsNoRow d input s came.records (fields_of refused) why
        → StopsFor d input s size old writer.written failures writer.failures (stop_of why refused)
    next_stops none.Input refused refuses = behind stops_here
    next_stops (none.Text x.OutOfMemory) refused refuses = exhausted_behind refl stops_here
    next_stops (none.Text x.NotFlat) refused refuses = as_row came.records refuses full_sent
    next_stops (none.Text x.NoColumns) refused refuses = as_row came.records refuses full_sent
    next_stops (none.Text (x.NoTextForm column)) refused refuses = as_row came.records refuses full_sent
    next_stops (none.Text (x.BadField number column)) refused refuses = as_row came.records refuses full_sent
    next_stops (none.Text (x.WrongFieldCount number)) refused refuses = as_row came.records refuses full_sent
    next_stops (none.Text x.BadSchemaJson) refused refuses = as_row came.records refuses full_sent

  -- ---- the batch is refused

  module _ (left : List (List Value)) (came : Came d remaining input s size old failures now writer left) (new : Writer) (fault :
      WriteFault)
      (first : IsOfLengths fault → (before : List (List (List ℕ))) (texts : List (List ℕ)) → came.records ≡ before ++ texts ∷ []
      → AreAccepted d writer.limits s size before)
      (alone : IsSome size.bytes → fault ≡ w.TooLong → (before : List (List Value)) (row : List Value) → came.rows ≡ before ++ row ∷ []
      → RefusesBatch writer.limits s (batch_of (row ∷ [])) w.TooLong)
      (rows next : List (List Value)) (is : left ≡ rows ++ next) (refuses : RefusesBatch writer.limits s (batch_of rows) fault)
      (unsent : NotSentWhole (SendsBatch writer.limits s (kept_after s.fields (kept_at_start s) came.batches) (batch_of rows))
      writer.written
      new.written writer.failures new.failures fault) where
    -- a conversion stops where a full batch is refused
    pub full_stops : IsFull writer.limits s size rows next → length next < size.rows
        → StopsWriting d input s size old new.written failures new.failures fault
    unfolding came_filled
    full_stops full few = record {
      limits = writer.limits;
      within = came.out.within;
      records = came.records;
      there = are_first d remaining input (names s.fields ∷ came.records) now.reader came.read.stands;
      batches = came.batches ++ batch_of rows ∷ [];
      left = next;
      batched = came_filled d remaining input s size old failures now writer left came rows next is full few;
      breaks = batch_breaks size s came.batches old failures writer new (batch_of rows) (last_batch next)
          ((came.batches ++ batch_of rows ∷ []) ++ last_batch next) fault
          (append_assoc came.batches (batch_of rows ∷ []) (last_batch next)) came.out refuses unsent;
      all = λ _. inr (batch_breaks size s came.batches old failures writer new (batch_of rows) [] (came.batches ++ batch_of rows ∷ [])
          fault refl came.out refuses unsent);
      first = first;
      alone = alone;
    }

  module _ (left : List (List Value)) (came : Came d remaining input s size old failures now writer left) (new : Writer) (fault :
      WriteFault)
      (refuses : RefusesBatch writer.limits s (batch_of left) fault)
      (unsent : NotSentWhole (SendsBatch writer.limits s (kept_after s.fields (kept_at_start s) came.batches) (batch_of left))
      writer.written
      new.written writer.failures new.failures fault)
      (first : IsOfLengths fault → (before : List (List (List ℕ))) (texts : List (List ℕ)) → came.records ≡ before ++ texts ∷ []
      → AreAccepted d writer.limits s size before)
      (alone : IsSome size.bytes → fault ≡ w.TooLong → (before : List (List Value)) (row : List Value) → came.rows ≡ before ++ row ∷ []
      → RefusesBatch writer.limits s (batch_of (row ∷ [])) w.TooLong) where
    -- and where the last one with fewer rows is
    pub few_stops : 0 < length left → length left < size.rows
        → (fault ≡ w.Write → AreRecordsOf d input (names s.fields ∷ came.records))
        → StopsWriting d input s size old new.written failures new.failures fault
    unfolding came_fill
    few_stops some few all = record {
      limits = writer.limits;
      within = came.out.within;
      records = came.records;
      there = are_first d remaining input (names s.fields ∷ came.records) now.reader came.read.stands;
      batches = came.batches;
      left = left;
      batched = came_fill d remaining input s size old failures now writer left came few;
      breaks = batch_breaks size s came.batches old failures writer new (batch_of left) [] (came.batches ++ last_batch left) fault
          (ap (λ bs. came.batches ++ bs) (last_is left some)) came.out refuses unsent;
      all = λ written. inl (all written);
      first = first;
      alone = alone;
    }

  module _ (left : List (List Value)) (row : List Value) (came : Came d remaining input s size old failures now writer (left ++ row ∷ []))
      (accepts : 0 < length left → AcceptsBatch writer.limits s (batch_of left)) (room : length left < size.rows) where
    -- without the last record the table is accepted
    accepts_before : (before : List (List (List ℕ))) (texts : List (List ℕ)) → came.records ≡ before ++ texts ∷ []
        → AreAccepted d writer.limits s size before
    accepts_before before texts is =
        let (fewer, rest, batched, same) = came_before d remaining input s size old failures now writer (omega (arith, room)) left row came
        room before texts is in
        record {
          batches = fewer;
          left = rest;
          batched = batched;
          accepts = record {
            schema = came.out.accepts_schema;
            batches = subst (AllByRecursion (AcceptsBatch writer.limits s)) (sym same)
                (all_accepted (AcceptsBatch writer.limits s) came.batches left came.out.accepts accepts);
          };
        }

    -- the last row is this one
    last_row : (before : List (List Value)) (other : List Value) → came.rows ≡ before ++ other ∷ [] → row ≡ other
    last_row before other is = last_same (flat_map (λ b. b.rows) came.batches ++ left) before row other
        (append_assoc (flat_map (λ b. b.rows) came.batches) left (row ∷ []) ∙ (came.joined ∙ is))

    module _ (new : Writer) (fault : WriteFault)
        (single : IsSome size.bytes → fault ≡ w.TooLong → RefusesBatch writer.limits s (batch_of (row ∷ [])) w.TooLong) where
      only_row : IsSome size.bytes → fault ≡ w.TooLong → (before : List (List Value)) (other : List Value)
          → came.rows ≡ before ++ other ∷ [] → RefusesBatch writer.limits s (batch_of (other ∷ [])) w.TooLong
      only_row bytes is before other rows =
          subst (λ z. RefusesBatch writer.limits s (batch_of (z ∷ [])) w.TooLong) (last_row before other rows) (single bytes is)

      row_refused : RefusesBatch writer.limits s (batch_of (left ++ row ∷ [])) fault
          → NotSentWhole (SendsBatch writer.limits s (kept_after s.fields (kept_at_start s) came.batches) (batch_of (left ++ row ∷ [])))
          writer.written new.written writer.failures new.failures fault → ¬ (fault ≡ w.Write)
          → (length left + 1 ≡ size.rows) ⊎ (length left + 1 < size.rows)
          → StopsWriting d input s size old new.written failures new.failures fault
      row_refused refuses unsent other (inl full) =
          let longer = length_push left row in
          full_stops (left ++ row ∷ []) came new fault (λ _. accepts_before) only_row (left ++ row ∷ []) []
          (sym (append-nil (left ++ row ∷ []))) refuses unsent (in_rows (omega (arith, full, longer))) (omega (arith, full))
      row_refused refuses unsent other (inr few) =
          let longer = length_push left row in
          few_stops (left ++ row ∷ []) came new fault refuses unsent (λ _. accepts_before) only_row (omega (arith, longer))
          (omega (arith, few, longer)) (λ is. absurd (other is))

      at_size : (length left + 1 ≡ size.rows) ⊎ (length left + 1 < size.rows)
      at_size =
          let more : length left + 1 ≤ size.rows = omega (arith, room) in
          eq-or-lt_of_le more

      -- a conversion stops where the last row isn't taken
      pub row_stops : RefusesPending writer.limits writer.schema (batch_of (left ++ row ∷ [])) writer.failed fault
          → StaysAt writer new fault → StopsWriting d input s size old new.written failures new.failures fault
      row_stops refuses stays =
          let same = subst (λ z. RefusesPending writer.limits z (batch_of (left ++ row ∷ [])) writer.failed fault) came.out.same_schema
          refuses in
          row_refused (held_refused writer.limits s (left ++ row ∷ []) fault
          (subst (λ f. RefusesPending writer.limits s (batch_of (left ++ row ∷ [])) f fault) came.out.works same))
          (held_unsent _ writer.limits s (batch_of (left ++ row ∷ [])) writer new fault same stays)
          (held_unwritten writer.limits s (batch_of (left ++ row ∷ [])) writer.failed fault same) at_size

  -- a conversion stops where no batch is begun for the first row
  pub begin_stops : (row : List Value) → Came d remaining input s size old failures now writer (row ∷ []) → 0 < size.rows → (new : Writer)
      (fault : WriteFault) → RefusesPending writer.limits writer.schema (no_rows []) writer.failed fault → StaysAt writer new fault
      → StopsWriting d input s size old new.written failures new.failures fault
  begin_stops row came some new fault refuses stays =
      let same = subst (λ z. RefusesPending writer.limits z (no_rows []) writer.failed fault) came.out.same_schema refuses in
      let at_row = refused_at_first writer.limits s [] (row ∷ []) 0 fault
      (subst (λ f. RefusesPending writer.limits s (no_rows []) f fault) came.out.works same) in
      row_refused [] row came (λ none. absurd (omega (arith, none))) some new fault
      (λ _ is. subst (RefusesBatch writer.limits s (batch_of (row ∷ []))) is at_row) at_row
      (held_unsent _ writer.limits s (no_rows []) writer new fault same stays)
      (held_unwritten writer.limits s (no_rows []) writer.failed fault same) (eq-or-lt_of_le (omega (arith, some)))

  -- a conversion stops where an accepted batch isn't sent: a full one, or the last one behind all records
  module _ (left : List (List Value)) (came : Came d remaining input s size old failures now writer left) (rows next : List (List Value))
      (is : left ≡ rows ++ next) (accepts : AcceptsBatch writer.limits s (batch_of rows)) (new : Writer) (fault : WriteFault)
      (leaves : LeavesBatch writer (batch_of rows) new (Err fault))
      (judged : ¬ (fault ≡ w.Failed) → RefusesBatch writer.limits writer.schema (batch_of rows) fault) where
    send_refuses : RefusesBatch writer.limits s (batch_of rows) fault
    send_refuses = subst (λ z. RefusesBatch writer.limits z (batch_of rows) fault) came.out.same_schema
        (judged (not_failed d _ (kept_after writer.schema.fields writer.kept (batch_of rows ∷ [])) writer new fault came.out.works leaves))

    send_unsent : NotSentWhole (SendsBatch writer.limits s (kept_after s.fields (kept_at_start s) came.batches) (batch_of rows))
        writer.written new.written writer.failures new.failures fault
    send_unsent = as_out size s came.batches old failures writer new came.out (batch_of rows)
        (λ z. NotSentWhole (SendsBatch z.limits z.schema z.kept (batch_of rows)) writer.written new.written writer.failures new.failures
        fault)
        (leaves_unsent d _ (kept_after writer.schema.fields writer.kept (batch_of rows ∷ [])) writer new fault came.out.works leaves)

    send_other : ¬ IsOfLengths fault
    send_other = accepted_other writer.limits s (batch_of rows) fault accepts send_refuses

    pub send_full_stops : IsFull writer.limits s size rows next → length next < size.rows
        → StopsWriting d input s size old new.written failures new.failures fault
    send_full_stops = full_stops left came new fault (λ lengths. absurd (send_other lengths))
        (λ _ long. absurd (send_other (subst IsOfLengths (sym long) tt))) rows next is send_refuses send_unsent

  pub send_last_stops : (left : List (List Value)) (came : Came d remaining input s size old failures now writer left)
      → AcceptsBatch writer.limits s (batch_of left) → (new : Writer) (fault : WriteFault)
      → LeavesBatch writer (batch_of left) new (Err fault)
      → (¬ (fault ≡ w.Failed) → RefusesBatch writer.limits writer.schema (batch_of left) fault) → 0 < length left → length left < size.rows
      → AreRecordsOf d input (names s.fields ∷ came.records) → StopsWriting d input s size old new.written failures new.failures fault
  send_last_stops left came accepts new fault leaves judged some few all =
      let same = sym (append-nil left) in
      few_stops left came new fault (send_refuses left came left [] same accepts new fault leaves judged)
      (send_unsent left came left [] same accepts new fault leaves judged)
      (λ lengths. absurd (send_other left came left [] same accepts new fault leaves judged lengths))
      (λ _ long. absurd (send_other left came left [] same accepts new fault leaves judged (subst IsOfLengths (sym long) tt)))
      some few (λ _. all)
