-- Rows pushed into a batch.
use Rattle.std.proofs.Common.{◌≡◌, ◌∙◌, refl, sym, subst, ℕ, ◌<◌, List, [], ◌∷◌, ◌++◌, length, Option, arith}
use Rattle.std.specs.Prelude.{Bool, IsSome, true}
use Rattle.ipc_model.specs.declared.fault.WriteFault.{WriteFault}
use Rattle.ipc_model.specs.declared.fault.WriteFault.TheVariants as w
use Rattle.ipc_model.specs.declared.schema.Schema.{Schema}
use Rattle.ipc_model.specs.declared.value.Value.{Value}
use Rattle.ipc_stream.specs.declared.pending_batch.PendingBatch.{PendingBatch}
use Rattle.ipc_stream.specs.PendingBatches.{HoldsBatch, RefusesPending, StaysAt, with_row}
use Rattle.ipc_stream.specs.Writer.{Writer}
use Rattle.ipc_stream.specs.Writing.{AcceptsBatch, RefusesBatch}
use Rattle.job_from_csv.specs.Batches.{batch_of, in_bytes}
use Rattle.job_from_csv.specs.declared.batch_size.BatchSize.{BatchSize}
use Rattle.job_from_csv.specs.Conversion.{StopsWriting}
use Rattle.ipc_text_csv.specs.RowReaders.{FindsRow}
use Rattle.job_from_csv.specs.Steps.{Came, HoldsLast, HoldsLeftover}
use Rattle.job_from_csv.specs.declared.convert.BatchEnd.TheVariants.{TooLong}
use Rattle.ipc_text_csv.specs.declared.row_reader.RowReader.{RowReader}
use Rattle.job_from_csv.proofs.Breaking.{row_stops}
use Rattle.job_from_csv.proofs.Sending.{came_more}
use Rattle.ipc_text_csv.specs.declared.dialect.Dialect.{Dialect}

module _ (d : Dialect) {R : Type 0} (remaining : R → Option (List ℕ)) (input : Option (List ℕ)) (s : Schema) (size : BatchSize)
    (old : Option (List ℕ)) (failures : ℕ) where
  module _ (now : RowReader R) (writer : Writer) (left : List (List Value)) (row given : List Value) (same : given ≡ row)
      (came : Came d remaining input s size old failures now writer (left ++ row ∷ [])) (new : Writer) where
    -- a row that was taken is held with those before it
    pub holds_pushed : (held : PendingBatch) → new ≡ writer → HoldsBatch writer.limits writer.schema (with_row (batch_of left) given) held
        → HoldsLeftover d remaining input s size old failures now new held (left ++ row ∷ [])
    holds_pushed held is holds = subst (λ z. HoldsLeftover d remaining input s size old failures now z held (left ++ row ∷ [])) (sym is)
        (record {
          came = came;
          held_rows = subst (λ z. HoldsBatch writer.limits writer.schema (with_row (batch_of left) z) held) same holds;
        })

    -- a conversion stops where it wasn't taken
    pub pushed_stops : (0 < length left → AcceptsBatch writer.limits s (batch_of left)) → length left < size.rows → (fault : WriteFault)
        → (IsSome size.bytes → fault ≡ w.TooLong → RefusesBatch writer.limits s (batch_of (row ∷ [])) w.TooLong)
        → RefusesPending writer.limits writer.schema (with_row (batch_of left) given) writer.failed fault → StaysAt writer new fault
        → StopsWriting d input s size old new.written failures new.failures fault
    pushed_stops accepts room fault single refuses stays =
        row_stops d remaining input s size old failures now writer left row came accepts room new fault single
        (subst (λ z. RefusesPending writer.limits writer.schema (with_row (batch_of left) z) writer.failed fault) same refuses) stays

  module _ (now : RowReader R) (writer : Writer) (row given : List Value) (same : given ≡ row)
      (came : Came d remaining input s size old failures now writer (row ∷ [])) (new : Writer) (fault : WriteFault) where
    -- a first row is refused as a batch of its own
    first_single : RefusesPending writer.limits writer.schema (with_row (batch_of []) given) writer.failed fault → IsSome size.bytes
        → fault ≡ w.TooLong → RefusesBatch writer.limits s (batch_of (row ∷ [])) w.TooLong
    first_single refuses bytes is =
        let here = subst (λ z. RefusesPending writer.limits writer.schema (with_row (batch_of []) z) writer.failed fault) same refuses in
        let there = subst (λ z. RefusesPending writer.limits z (batch_of (row ∷ [])) writer.failed fault) came.out.same_schema here in
        subst (λ f. RefusesPending writer.limits s (batch_of (row ∷ [])) writer.failed f) is there

    -- a conversion stops where the first row of a batch wasn't taken
    pub first_stops : 0 < size.rows → RefusesPending writer.limits writer.schema (with_row (batch_of []) given) writer.failed fault
        → StaysAt writer new fault → StopsWriting d input s size old new.written failures new.failures fault
    first_stops some refuses stays =
        pushed_stops now writer [] row given same came new (λ none. absurd (omega (arith, none))) some fault (first_single refuses) refuses
        stays

  -- the rows that are held end where the next one would be too long
  pub holds_long : (before now : RowReader R) (writer : Writer) (held : PendingBatch) (left : List (List Value)) (given : List Value)
      → given ≡ now.row → HoldsLeftover d remaining input s size old failures before writer held left
      → Came d remaining input s size old failures now writer (left ++ now.row ∷ []) → IsSome size.bytes → 0 < length left
      → length left < size.rows → (new : Writer) (kept : PendingBatch) (fault : WriteFault) → fault ≡ w.TooLong
      → RefusesPending writer.limits writer.schema (with_row (batch_of left) given) writer.failed fault → StaysAt writer new fault
      → (¬ (fault ≡ w.OutOfMemory) → HoldsBatch writer.limits writer.schema (batch_of left) kept)
      → HoldsLast d remaining input s size old failures now new kept TooLong
  holds_long before now writer held left given same holds came bytes has few new kept fault is refuses stays stored =
      let here = subst (λ z. RefusesPending writer.limits writer.schema (with_row (batch_of left) z) writer.failed fault) same refuses in
      let there = subst (λ z. RefusesPending writer.limits z (batch_of (left ++ now.row ∷ [])) writer.failed fault)
      came.out.same_schema here in
      let long = subst (λ f. RefusesPending writer.limits s (batch_of (left ++ now.row ∷ [])) writer.failed f) is there in
      let unchanged : new ≡ writer = subst (StaysAt writer new) is stays in
      subst (λ z. HoldsLast d remaining input s size old failures now z kept TooLong) (sym unchanged) (
        left,
        came,
        stored (λ other. not_memory (sym is ∙ other)),
        has,
        few,
        in_bytes bytes has few now.row [] refl long,
      )
    where
      not_memory : ¬ (w.TooLong ≡ w.OutOfMemory)
      not_memory other = cc

  module _ (now : RowReader R) (writer : Writer) (held : PendingBatch) (left : List (List Value))
      (holds : HoldsLeftover d remaining input s size old failures now writer held left) where
    -- rows that are held are accepted
    pub holds_accepted : AcceptsBatch writer.limits s (batch_of left)
    holds_accepted = subst (λ z. AcceptsBatch writer.limits z (batch_of left)) holds.came.out.same_schema holds.held_rows.accepted

    -- one record more was read
    pub held_more : (new : RowReader R) (found : Bool) → found ≡ true
        → FindsRow d remaining input s holds.came.records holds.came.rows new found
        → Came d remaining input s size old failures new writer (left ++ new.row ∷ [])
    held_more new found is finds = came_more d remaining input s size old failures now writer left holds.came new
        (subst (FindsRow d remaining input s holds.came.records holds.came.rows new) is finds)
