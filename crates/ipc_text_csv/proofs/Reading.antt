-- Reading one record after another.
use Rattle.std.proofs.Common.{◌≡◌, refl, sym, subst, ℕ, Bool, true, false, List, [], ◌∷◌, ◌++◌, Option, Some, None, Ok, Err}
use Rattle.std.specs.Prelude.{option_map, IsTrue, IfOk, IfErr, Result}
use Rattle.ipc_text_csv.specs.StrictReaders.{setting}
use Rattle.csv.specs.Reading.{Reached, ReadRecord, reader_config, reader_state, source_of, strip_bom}
use Rattle.csv.specs.declared.parser.State.{State}
use Rattle.csv.specs.declared.parser.State.TheVariants as state
use Rattle.csv.specs.declared.reader.Reader.{Reader}
use Rattle.csv.proofs.ReadFacts.{reached-more, rows-more, rows-end}
use Rattle.ipc_text_csv.specs.Records.{reading, text_of, AreFirstRecordsOf, AreRecordsOf, FindsNext, FindsRecord, LeavesReader}
use Rattle.ipc_text_csv.specs.Records.{HasReadRecords, StopsRecords, left_in, state_in}
use Rattle.ipc_text_csv.specs.StrictForm.{ReadsStrictly}
use Rattle.ipc_text_csv.specs.declared.dialect.Dialect.{Dialect}
use Rattle.ipc_text_csv.specs.declared.record_fault.RecordFault.TheVariants as none
use Rattle.ipc_text_csv.specs.declared.record_reader.RecordReader.{RecordReader}
use Rattle.ipc_text_temporal.specs.declared.fault.TextFault.{TextFault}
use Rattle.ipc_text_temporal.specs.declared.fault.TextFault.TheVariants as x

lenient_only : {P : Type 0} (b : Bool) → b ≡ false → IsTrue b → P
lenient_only b e is = absurd cc

-- what is read of an input that is not strict, and of a strict one
pub lenient_source : (d : Dialect) (input : Option (List ℕ)) → d.strict ≡ false → option_map strip_bom input ≡ option_map (text_of d) input
lenient_source d None e = refl
lenient_source d (Some bytes) e = rw e refl

pub strict_source : (d : Dialect) (input : Option (List ℕ)) → d.strict ≡ true → input ≡ option_map (text_of d) input
strict_source d None e = refl
strict_source d (Some bytes) e = rw e refl

-- at its start an input begins with no records
pub leaves_all : (d : Dialect) (input : Option (List ℕ)) (at : State) (left : Option (List ℕ)) → at ≡ state.StartRecord
    → left ≡ option_map (text_of d) input → LeavesReader d input [] at left
unfolding Reached
leaves_all d None at left start is = tt
leaves_all d (Some bytes) at left start is =
    subst (λ z. LeavesReader d (Some bytes) [] at z) (sym is) ((sym start, refl), λ strict h. rw (start, strict) at h)

-- what a reader stands behind are the first records
pub are_first : (d : Dialect) {R : Type 0} (remaining : R → Option (List ℕ)) (input : Option (List ℕ)) (records : List (List (List ℕ)))
    (reader : RecordReader R) → HasReadRecords d remaining input records reader → AreFirstRecordsOf d input records
are_first d remaining input records reader stands = (state_in reader, left_in remaining reader, stands)

module _ (d : Dialect) {R : Type 0} (remaining : R → Option (List ℕ)) (bytes : List ℕ) (records : List (List (List ℕ))) (old new : Reader R)
    (fields : List (List ℕ)) (config : reader_config old ≡ reading d) (lenient : d.strict ≡ false) where
  stands_more : (left : Option (List ℕ)) → source_of remaining old ≡ left → LeavesReader d (Some bytes) records (reader_state old) left
      → ReadRecord remaining old new true fields
      → LeavesReader d (Some bytes) (records ++ fields ∷ []) (reader_state new) (source_of remaining new)
  stands_more None is leaves read = absurd leaves
  stands_more (Some y) is leaves read =
      let m = rows-more remaining old new fields (reading d) state.StartRecord (text_of d bytes) y records config is leaves.0 read in
      subst (λ z. LeavesReader d (Some bytes) (records ++ fields ∷ []) (reader_state new) z) (sym m.1) (m.2, lenient_only d.strict lenient)

  are_all : (left : Option (List ℕ)) → source_of remaining old ≡ left → LeavesReader d (Some bytes) records (reader_state old) left
      → ReadRecord remaining old new false fields → AreRecordsOf d (Some bytes) records
  are_all None is leaves read = absurd leaves
  are_all (Some y) is leaves read = (
    (reader_state old, y, leaves.0, rows-end remaining old new fields (reading d) y config is read),
    lenient_only d.strict lenient,
  )

-- what a read of a record by the crate `csv` says of the input
pub finds_next : (d : Dialect) {R : Type 0} (remaining : R → Option (List ℕ)) (input : Option (List ℕ)) (records : List (List (List ℕ)))
    (old new : Reader R) (found : Bool) (fields : List (List ℕ)) → reader_config old ≡ reading d → d.strict ≡ false
    → ReadRecord remaining old new found fields → LeavesReader d input records (reader_state old) (source_of remaining old)
    → FindsNext d input records (reader_state new) (source_of remaining new) found fields
finds_next d remaining None records old new true fields config lenient read stands = tt
finds_next d remaining None records old new false fields config lenient read stands = tt
finds_next d remaining (Some bytes) records old new true fields config lenient read stands =
    stands_more d remaining bytes records old new fields config lenient (source_of remaining old) refl stands read
finds_next d remaining (Some bytes) records old new false fields config lenient read stands =
    are_all d remaining bytes records old new fields config lenient (source_of remaining old) refl stands read

-- what a strict read says of the input
pub strict_finds : (d : Dialect) (input : Option (List ℕ)) (records : List (List (List ℕ))) (number : ℕ) (s s2 : State)
    (k k2 : Option (List ℕ)) (found : Bool) (fields : List (List ℕ)) → LeavesReader d input records s k
    → ReadsStrictly (reading d) number s k s2 fields k2 (Ok found) → FindsNext d input records s2 k2 found fields
strict_finds d None records number s s2 k k2 true fields stands read = tt
strict_finds d None records number s s2 k k2 false fields stands read = tt
strict_finds d (Some bytes) records number s s2 None k2 found fields stands read = absurd stands
strict_finds d (Some bytes) records number s s2 (Some ys) None true fields stands read = absurd read
strict_finds d (Some bytes) records number s s2 (Some ys) (Some zs) true fields stands read = (
  reached-more (reading d) state.StartRecord s (text_of d bytes) ys records (fields, s2, zs) stands.0 read.0,
  λ strict h. stands.1 strict (read.1 h),
)
strict_finds d (Some bytes) records number s s2 (Some ys) k2 false fields stands read =
    ((s, ys, stands.0, read.0), λ strict. stands.1 strict read.1)

-- why a strict read finds no record
pub strict_stops : (d : Dialect) (input : Option (List ℕ)) (records : List (List (List ℕ))) (number : ℕ) (s s2 : State)
    (k k2 : Option (List ℕ)) (fields : List (List ℕ)) (fault : TextFault) → d.strict ≡ true → LeavesReader d input records s k
    → ReadsStrictly (reading d) number s k s2 fields k2 (Err fault) → StopsRecords d input records number (none.Text fault)
strict_stops d input records number s s2 k k2 fields x.OutOfMemory strict stands read = tt
strict_stops d None records number s s2 k k2 fields x.NotFlat strict stands read = (strict, tt)
strict_stops d None records number s s2 k k2 fields x.NoColumns strict stands read = (strict, tt)
strict_stops d None records number s s2 k k2 fields (x.NoTextForm column) strict stands read = (strict, tt)
strict_stops d None records number s s2 k k2 fields (x.BadField line column) strict stands read = (strict, tt)
strict_stops d None records number s s2 k k2 fields (x.WrongFieldCount line) strict stands read = (strict, tt)
strict_stops d None records number s s2 k k2 fields x.BadSchemaJson strict stands read = (strict, tt)
strict_stops d (Some bytes) records number s s2 None k2 fields fault strict stands read = absurd stands
strict_stops d (Some bytes) records number s s2 (Some ys) k2 fields x.NotFlat strict stands read =
    (strict, (s, ys, rw strict at stands.0, read))
strict_stops d (Some bytes) records number s s2 (Some ys) k2 fields x.NoColumns strict stands read =
    (strict, (s, ys, rw strict at stands.0, read))
strict_stops d (Some bytes) records number s s2 (Some ys) k2 fields (x.NoTextForm column) strict stands read =
    (strict, (s, ys, rw strict at stands.0, read))
strict_stops d (Some bytes) records number s s2 (Some ys) k2 fields (x.BadField line column) strict stands read =
    (strict, (s, ys, rw strict at stands.0, read))
strict_stops d (Some bytes) records number s s2 (Some ys) k2 fields (x.WrongFieldCount line) strict stands read =
    (strict, (s, ys, rw strict at stands.0, read))
strict_stops d (Some bytes) records number s s2 (Some ys) k2 fields x.BadSchemaJson strict stands read =
    (strict, (s, ys, rw strict at stands.0, read))

-- what the answer of a strict read says of the input
pub strict_answers : (number : ℕ) (d : Dialect) (s s2 : State) (k k2 : Option (List ℕ)) (fields : List (List ℕ))
    (r : Result Bool TextFault) → d.strict ≡ true → ReadsStrictly (reading d) number s k s2 fields k2 r
    → IfOk r (λ found. (input : Option (List ℕ)) (records : List (List (List ℕ))) → LeavesReader d input records s k
    → FindsNext d input records s2 k2 found fields)
strict_answers number d s s2 k k2 fields (Ok found) strict read =
    λ input records stands. strict_finds d input records number s s2 k k2 found fields stands read
strict_answers number d s s2 k k2 fields (Err fault) strict read = tt

pub strict_refuses : (number delimiter : ℕ) (s s2 : State) (k k2 : Option (List ℕ)) (fields : List (List ℕ)) (r : Result Bool TextFault)
    → ReadsStrictly (setting delimiter) number s k s2 fields k2 r
    → IfErr r (λ fault. (d : Dialect) (input : Option (List ℕ)) (records : List (List (List ℕ)))
    → (delimiter ≡ d.delimiter) × (d.strict ≡ true) → LeavesReader d input records s k
    → StopsRecords d input records number (none.Text fault))
strict_refuses number delimiter s s2 k k2 fields (Ok found) read = tt
strict_refuses number delimiter s s2 k k2 fields (Err fault) read = λ d input records set stands.
    strict_stops d input records number s s2 k k2 fields fault set.1 stands (rw set.0 at read)

-- a record that was found is one more of the first
pub found_one : (d : Dialect) {R : Type 0} (remaining : R → Option (List ℕ)) (input : Option (List ℕ)) (records : List (List (List ℕ)))
    (reader : RecordReader R) (found : Bool) (fields : List (List ℕ)) → found ≡ true
    → FindsRecord d remaining input records reader found fields → HasReadRecords d remaining input (records ++ fields ∷ []) reader
found_one d remaining input records reader found fields is finds = rw is at finds
