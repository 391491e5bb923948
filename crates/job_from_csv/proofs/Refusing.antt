-- What the writer refuses of rows that were read.
use Rattle.std.proofs.Common.{◌≡◌, refl, sym, ap, subst, ℕ, zero, suc, ◌<◌, ◌≤◌, ◌-◌, ◌^◌, List, [], ◌∷◌, ◌++◌, length}
use Rattle.std.proofs.Common.{drop, Option, append_assoc, arith}
use Rattle.std.specs.Prelude.{IfErr, Result, Ok, Err, flat_map, slice_index_or}
use Rattle.std.specs.List.{AllByRecursion}
use Rattle.ipc_model.specs.Fits.{EachFits, Fits, RowFits}
use Rattle.ipc_model.specs.declared.fault.WriteFault.{WriteFault}
use Rattle.ipc_model.specs.declared.fault.WriteFault.TheVariants as w
use Rattle.ipc_model.specs.declared.limits.Limits.{Limits}
use Rattle.ipc_model.specs.declared.schema.Field.{Field}
use Rattle.ipc_model.specs.declared.schema.Schema.{Schema}
use Rattle.ipc_model.specs.declared.table.BatchRows.{BatchRows}
use Rattle.ipc_model.specs.declared.value.Value.{Value}
use Rattle.ipc_stream.specs.Writing.{AreMismatches, RefusesBatch, RefusesFirst, RefusesNext, RefusesSchema, many_slots, many_values}
use Rattle.ipc_stream.proofs.OverLimit.{none_full, none_over}
use Rattle.ipc_text_csv.specs.CsvRows.{EachReadsAs}
use Rattle.job_from_csv.specs.Batches.{AreFull, IsFull, in_bytes, in_rows, last_batch}
use Rattle.job_from_csv.specs.Conversion.{AnswersConversion, IsLeftToRefuse, StopsFor, StopsWriting, table_of_batches}
use Rattle.ipc_text_csv.specs.Records.{EachRecordReadsAs}
use Rattle.job_from_csv.specs.declared.batch_size.BatchSize.{BatchSize}
use Rattle.job_from_csv.specs.declared.stop.FromCsvStop.{FromCsvStop}
use Rattle.job_from_csv.specs.declared.stop.FromCsvStop.TheVariants as stop
use Rattle.job_from_csv.proofs.FlatNodes.{AreFlat, are_flat, flat_rows}
use Rattle.ipc_text_csv.specs.declared.dialect.Dialect.{Dialect}

-- ---- rows that were read fit

each_fits : (d : Dialect) (fields : List Field) (texts : List (List ℕ)) (row : List Value) → EachReadsAs d fields texts row
    → EachFits Fits fields row
each_fits d [] [] [] read = tt
each_fits d [] [] (v ∷ row) read = absurd read
each_fits d [] (t ∷ texts) row read = absurd read
each_fits d (f ∷ fields) [] row read = absurd read
each_fits d (f ∷ fields) (t ∷ texts) [] read = absurd read
each_fits d (f ∷ fields) (t ∷ texts) (v ∷ row) read = (read.0.0, each_fits d fields texts row read.1)

as_many : (d : Dialect) (fields : List Field) (texts : List (List ℕ)) (row : List Value) → EachReadsAs d fields texts row
    → length row ≡ length fields
as_many d [] [] [] read = refl
as_many d [] [] (v ∷ row) read = absurd read
as_many d [] (t ∷ texts) row read = absurd read
as_many d (f ∷ fields) [] row read = absurd read
as_many d (f ∷ fields) (t ∷ texts) [] read = absurd read
as_many d (f ∷ fields) (t ∷ texts) (v ∷ row) read = ap suc (as_many d fields texts row read.1)

rows_fit : (d : Dialect) (fields : List Field) (records : List (List (List ℕ))) (rows : List (List Value))
    → EachRecordReadsAs d fields records rows
    → AllByRecursion (RowFits fields) rows
rows_fit d fields [] [] read = tt
rows_fit d fields [] (row ∷ rows) read = absurd read
rows_fit d fields (texts ∷ records) [] read = absurd read
rows_fit d fields (texts ∷ records) (row ∷ rows) read =
    ((as_many d fields texts row read.0.1, each_fits d fields texts row read.0.1), rows_fit d fields records rows read.1)

-- ---- lists

all_front : {X : Type 0} (P : X → Type 0) (xs ys : List X) → AllByRecursion P (xs ++ ys) → AllByRecursion P xs
all_front P [] ys all = tt
all_front P (x ∷ xs) ys all = (all.0, all_front P xs ys all.1)

all_back : {X : Type 0} (P : X → Type 0) (xs ys : List X) → AllByRecursion P (xs ++ ys) → AllByRecursion P ys
all_back P [] ys all = all
all_back P (x ∷ xs) ys all = all_back P xs ys all.1

all_drop : {X : Type 0} (P : X → Type 0) (xs : List X) (n : ℕ) → AllByRecursion P xs → AllByRecursion P (drop n xs)
all_drop P xs zero all = all
all_drop P [] (suc n) all = all
all_drop P (x ∷ xs) (suc n) all = all_drop P xs n all.1

all_at : {X : Type 0} (P : X → Type 0) (xs : List X) (d : X) (i : ℕ) → i < length xs → AllByRecursion P xs → P (slice_index_or xs i d)
all_at P [] d i inside all = absurd (omega (arith, inside))
all_at P (x ∷ xs) d zero inside all = all.0
all_at P (x ∷ xs) d (suc i) inside all = all_at P xs d i (omega (arith, inside)) all.1

-- ---- batches of such rows

-- a batch has rows that fit, and at most so many
record IsGood (fields : List Field) (size : ℕ) (b : BatchRows) : Type 0 where
  fit : AllByRecursion (RowFits fields) b.rows
  few : length b.rows ≤ size

few_full : (limits : Limits) (s : Schema) (size : BatchSize) (rows next : List (List Value)) → IsFull limits s size rows next
    → length rows ≤ size.rows
few_full limits s size rows next (in_rows full) = omega (arith, full)
few_full limits s size rows next (in_bytes bytes some few row rest is long) = omega (arith, few)

good_batches : (limits : Limits) (s : Schema) (size : BatchSize) (batches : List BatchRows) (left : List (List Value))
    → length left ≤ size.rows → AreFull limits s size batches left
    → AllByRecursion (RowFits s.fields) (flat_map (λ b. b.rows) batches ++ left)
    → AllByRecursion (IsGood s.fields size.rows) (batches ++ last_batch left)
good_batches limits s size [] [] few full fit = tt
good_batches limits s size [] (row ∷ left) few full fit = (record { fit = fit; few = few }, tt)
good_batches limits s size (b ∷ batches) left few full fit =
    let here = subst (AllByRecursion (RowFits s.fields)) (append_assoc b.rows (flat_map (λ b. b.rows) batches) left) fit in (
      record { fit = all_front (RowFits s.fields) b.rows _ here; few = few_full limits s size b.rows _ full.1 },
      good_batches limits s size batches left few full.2 (all_back (RowFits s.fields) b.rows _ here),
    )

-- ---- what is left

schema_left : (limits : Limits) (s : Schema) (fault : WriteFault) → RefusesSchema limits s fault → IsLeftToRefuse s fault
schema_left limits s w.BadSchema r = tt
schema_left limits s w.TooLong r = tt
schema_left limits s w.Write r = tt
schema_left limits s w.OutOfMemory r = tt
schema_left limits s (w.Row row cause) r = absurd r
schema_left limits s w.DictionaryFull r = absurd r
schema_left limits s w.TooManyRows r = absurd r
schema_left limits s w.Failed r = absurd r

module _ (limits : Limits) (s : Schema) (size : ℕ) (flat : AreFlat s.fields) (within : size ≤ limits.slots) (b : BatchRows)
    (good : IsGood s.fields size b) where
  none_misfits : (fault : WriteFault) → AreMismatches s.fields b.rows fault → ⊥
  none_misfits fault m = m.misfit (all_at (RowFits s.fields) b.rows [] m.number m.inside good.fit)

  batch_left : (fault : WriteFault) → RefusesBatch limits s b fault → IsLeftToRefuse s fault
  batch_left w.BadSchema r = tt
  batch_left w.TooLong r = tt
  batch_left w.Write r = tt
  batch_left w.OutOfMemory r = tt
  batch_left (w.Row row cause) r = absurd (none_misfits (w.Row row cause) r)
  batch_left w.DictionaryFull r = λ none. none_full s b.rows none r
  batch_left w.TooManyRows (many_slots r) = absurd (flat_rows limits s.fields b.rows flat (omega (arith, within, good.few)) r)
  batch_left w.TooManyRows (many_values r) = λ none. none_over limits s b.rows w.TooManyRows none r
  batch_left w.Failed r = absurd (none_misfits w.Failed r)

first_left : (limits : Limits) (s : Schema) (size : ℕ) → AreFlat s.fields → size ≤ limits.slots → (batches : List BatchRows)
    → AllByRecursion (IsGood s.fields size) batches → (fault : WriteFault) → RefusesFirst limits s batches fault → IsLeftToRefuse s fault
first_left limits s size flat within [] good fault r = subst (IsLeftToRefuse s) (sym r) tt
first_left limits s size flat within (b ∷ batches) good fault r = batch_left limits s size flat within b good.0 fault r

next_left : (d : Dialect) (limits : Limits) (s : Schema) (size : ℕ) → AreFlat s.fields → size ≤ limits.slots → (batches : List BatchRows)
    → AllByRecursion (IsGood s.fields size) batches → (count : ℕ) (fault : WriteFault)
    → RefusesNext limits (table_of_batches s batches) count fault
    → IsLeftToRefuse s fault
next_left d limits s size flat within batches good zero fault r = schema_left limits s fault r
next_left d limits s size flat within batches good (suc count) fault r =
    first_left limits s size flat within (drop count batches) (all_drop (IsGood s.fields size) batches count good) fault r

-- of the rows of records the writer refuses only what is left
pub left_to_refuse : (d : Dialect) (input : Option (List ℕ)) (s : Schema) (size : BatchSize) (old new : Option (List ℕ)) (f0 f1 : ℕ) (fault
    : WriteFault)
    → size.rows ≤ 2 ^ 31 - 1 → StopsWriting d input s size old new f0 f1 fault → IsLeftToRefuse s fault
left_to_refuse d input s size old new f0 f1 fault within stops =
    let fill = stops.batched.fill in
    let fit = rows_fit d s.fields stops.records stops.batched.rows stops.batched.read in
    let good = good_batches stops.limits s size stops.batches stops.left (omega (arith, fill.few)) fill.full
    (subst (AllByRecursion (RowFits s.fields)) (sym fill.joined) fit) in
    next_left d stops.limits s size.rows (are_flat s.fields stops.batched.flat)
    (omega (arith, within, stops.within.standard.slots, stops.within.values.slots_is))
    (stops.batches ++ last_batch stops.left) good stops.breaks.count fault stops.breaks.refuses

-- the same of an answer
pub answers_left : (d : Dialect) (input : Option (List ℕ)) (s : Schema) (size : BatchSize) (old new : Option (List ℕ)) (f0 f1 : ℕ)
    (r : Result Unit FromCsvStop)
    → size.rows ≤ 2 ^ 31 - 1 → AnswersConversion d input s size old new f0 f1 r
    → IfErr r (λ why. (fault : WriteFault) → why ≡ stop.Write fault → IsLeftToRefuse s fault)
answers_left d input s size old new f0 f1 (Ok x) within answers = tt
answers_left d input s size old new f0 f1 (Err why) within answers = λ fault is.
    left_to_refuse d input s size old new f0 f1 fault within (subst (λ z. StopsFor d input s size old new f0 f1 z) is answers)
