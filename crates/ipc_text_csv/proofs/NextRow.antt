-- One record more, read as one row more.
use Rattle.std.proofs.Common.{◌≡◌, subst, ℕ, ◌+◌, List, [], ◌∷◌, ◌++◌, length, Option, Some, None, Err, inl, inr, arith}
use Rattle.std.specs.Prelude.{true}
use Rattle.std.specs.Io.KnownBytes.{Keeps}
use Rattle.std.proofs.lemmas.List.{length_push}
use Rattle.ipc_text_csv.specs.declared.record_fault.RecordFault.{RecordFault}
use Rattle.ipc_text_csv.specs.declared.record_reader.RecordReader.{RecordReader}
use Rattle.ipc_model.specs.declared.schema.Field.{Field}
use Rattle.ipc_model.specs.declared.schema.Schema.{Schema}
use Rattle.ipc_model.specs.declared.value.Value.{Value}
use Rattle.csv.specs.Records.{fields_of}
use Rattle.ipc_text_csv.specs.CsvRows.{IsHeaderFault, RecordReadsAs}
use Rattle.ipc_text_csv.specs.RowCsv.{flat_fault, names}
use Rattle.ipc_text_csv.specs.Records.{EachRecordReadsAs, HasReadRecords, StopsRecords}
use Rattle.ipc_text_csv.specs.RowReaders.{FindsHeader, FindsNoRow, FindsRow, HasRead}
use Rattle.ipc_text_csv.specs.declared.row_reader.RowReader.{RowReader}
use Rattle.ipc_text_csv.specs.declared.dialect.Dialect.{Dialect}
use Rattle.ipc_text_csv.specs.declared.record_fault.RecordFault.TheVariants as none
use Rattle.ipc_text_temporal.specs.declared.fault.TextFault.{TextFault}
use Rattle.ipc_text_temporal.specs.declared.fault.TextFault.TheVariants as x
use Rattle.ipc_text_csv.proofs.Reading.{are_first}

-- one more record reads as one more row
each_push : (d : Dialect) (fields : List Field) (records : List (List (List ℕ))) (rows : List (List Value)) (texts : List (List ℕ))
    (row : List Value)
    → EachRecordReadsAs d fields records rows → RecordReadsAs d fields texts row
    → EachRecordReadsAs d fields (records ++ texts ∷ []) (rows ++ row ∷ [])
each_push d fields [] [] texts row each one = (one, tt)
each_push d fields [] (r ∷ rows) texts row each one = absurd each
each_push d fields (t ∷ records) [] texts row each one = absurd each
each_push d fields (t ∷ records) (r ∷ rows) texts row each one = (each.0, each_push d fields records rows texts row each.1 one)

-- behind the header no record was read
pub header_read : (d : Dialect) {R : Type 0} (remaining : R → Option (List ℕ)) (input : Option (List ℕ)) (s : Schema) (now : RowReader R)
    (texts : List (List ℕ)) → flat_fault s.fields ≡ None → texts ≡ names s.fields → HasReadRecords d remaining input (texts ∷ []) now.reader
    → now.count ≡ 0 → HasRead d remaining input s [] [] now
header_read d remaining input s now texts flat is stands none = record {
  flat = flat;
  stands = subst (λ header. HasReadRecords d remaining input (header ∷ []) now.reader) is stands;
  counted = none;
  read = tt;
}

-- a first record that is another than the header
pub no_header : (d : Dialect) {R : Type 0} (remaining : R → Option (List ℕ)) (input : Option (List ℕ)) (s : Schema) (now : RowReader R)
    (fault : TextFault) → HasReadRecords d remaining input (fields_of now.fields ∷ []) now.reader
    → IsHeaderFault s.fields (fields_of now.fields) fault → FindsHeader d remaining input s now (Err (none.Text fault))
no_header d remaining input s now x.OutOfMemory one refused = tt
no_header d remaining input s now x.NotFlat one refused = inl (are_first d remaining input _ now.reader one, refused)
no_header d remaining input s now x.NoColumns one refused = inl (are_first d remaining input _ now.reader one, refused)
no_header d remaining input s now (x.NoTextForm column) one refused = inl (are_first d remaining input _ now.reader one, refused)
no_header d remaining input s now (x.BadField number column) one refused = inl (are_first d remaining input _ now.reader one, refused)
no_header d remaining input s now (x.WrongFieldCount number) one refused = inl (are_first d remaining input _ now.reader one, refused)
no_header d remaining input s now x.BadSchemaJson one refused = inl (are_first d remaining input _ now.reader one, refused)

-- a record that was found and counted, and reads as the kept row
pub finds_row : (d : Dialect) {R : Type 0} (remaining : R → Option (List ℕ)) (input : Option (List ℕ)) (s : Schema) (records : List (List
    (List ℕ)))
    (rows : List (List Value)) (old new : RowReader R) (texts : List (List ℕ)) → HasRead d remaining input s records rows old
    → HasReadRecords d remaining input (names s.fields ∷ records ++ texts ∷ []) new.reader → new.count ≡ old.count + 1
    → RecordReadsAs d s.fields texts new.row → FindsRow d remaining input s records rows new true
finds_row d remaining input s records rows old new texts has stands counted reads = (
  texts,
  record {
    flat = has.flat;
    stands = stands;
    counted = omega (arith, counted, has.counted, length_push records texts);
    read = each_push d s.fields records rows texts new.row has.read reads;
  },
)

-- a reader that stands at the start of bytes that are kept stands at the start of those that were known
pub stands_kept : (d : Dialect) {R : Type 0} (remaining : R → Option (List ℕ)) (known input : Option (List ℕ)) (reader : RecordReader R)
    → Keeps known input
    → HasReadRecords d remaining input [] reader → HasReadRecords d remaining known [] reader
stands_kept d remaining None input reader same stands = tt
stands_kept d remaining (Some xs) None reader same stands = absurd same
stands_kept d remaining (Some xs) (Some ys) reader same stands = subst (λ bytes. HasReadRecords d remaining (Some bytes) [] reader) same
    stands

-- why no first record is read
pub header_stops : (d : Dialect) {R : Type 0} (remaining : R → Option (List ℕ)) (input : Option (List ℕ)) (s : Schema) (now : RowReader R)
    (why : RecordFault) → StopsRecords d input [] 0 why → FindsHeader d remaining input s now (Err why)
header_stops d remaining input s now none.Input stops = tt
header_stops d remaining input s now (none.Text x.OutOfMemory) stops = tt
header_stops d remaining input s now (none.Text x.NotFlat) stops = inr stops
header_stops d remaining input s now (none.Text x.NoColumns) stops = inr stops
header_stops d remaining input s now (none.Text (x.NoTextForm column)) stops = inr stops
header_stops d remaining input s now (none.Text (x.BadField line column)) stops = inr stops
header_stops d remaining input s now (none.Text (x.WrongFieldCount line)) stops = inr stops
header_stops d remaining input s now (none.Text x.BadSchemaJson) stops = inr stops

-- why no record is read after these
pub row_stops : (d : Dialect) (input : Option (List ℕ)) (s : Schema) (records : List (List (List ℕ))) (texts : List (List ℕ)) (number : ℕ)
    (why : RecordFault) → number ≡ length records + 1 → StopsRecords d input (names s.fields ∷ records) number why
    → FindsNoRow d input s records texts why
row_stops d input s records texts number none.Input is stops = tt
row_stops d input s records texts number (none.Text x.OutOfMemory) is stops = tt
row_stops d input s records texts number (none.Text x.NotFlat) is stops = inr (rw is at stops)
row_stops d input s records texts number (none.Text x.NoColumns) is stops = inr (rw is at stops)
row_stops d input s records texts number (none.Text (x.NoTextForm column)) is stops = inr (rw is at stops)
row_stops d input s records texts number (none.Text (x.BadField line column)) is stops = inr (rw is at stops)
row_stops d input s records texts number (none.Text (x.WrongFieldCount line)) is stops = inr (rw is at stops)
row_stops d input s records texts number (none.Text x.BadSchemaJson) is stops = inr (rw is at stops)
