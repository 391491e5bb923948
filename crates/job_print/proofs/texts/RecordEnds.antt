-- What ends a record.
use Rattle.std.proofs.Common.{◌≡◌, ◌≢◌, ◌==◌, ℕ, true, false, List, [], ◌∷◌, ◌++◌, length, refl, arith, None, Result, Ok, Err}
use Rattle.std.proofs.lemmas.Bool.Decides.{nat_tests}
use Rattle.csv.specs.Writing.{row_body, row_text}
use Rattle.ipc_text_csv.specs.Dialects.{writer}
use Rattle.ipc_text_csv.specs.declared.dialect.Dialect.{Dialect}
use Rattle.ipc_model.specs.declared.schema.Field.{Field}
use Rattle.ipc_model.specs.declared.value.Value.{Value}
use Rattle.ipc_text_temporal.specs.declared.fault.TextFault.{TextFault}
use Rattle.ipc_text_csv.proofs.Records.{end_behind}
use Rattle.job_print.specs.Fields.{AddsRecord}
use Rattle.job_print.specs.Forms.{text_or_none}
use Rattle.std.specs.Prelude.{OnOk}
use Rattle.ipc_text_csv.specs.RowCsv.{Ended, flat_fault, put_texts, record_of, row_csv, row_texts, with_fields}

-- two quotes and a line feed end a record without bytes
pub end_blank : (start : ℕ) (text : List ℕ) → length text ≡ start → end_behind start text ≡ 34 ∷ 34 ∷ 10 ∷ []
end_blank start text is = let blank : (length text == start) ≡ true = grind (arith, nat_tests, is) in rw blank refl

-- a line feed ends another one
pub end_other : (start : ℕ) (text : List ℕ) → length text ≢ start → end_behind start text ≡ 10 ∷ []
end_other start text other = let some : (length text == start) ≡ false = grind (arith, nat_tests, other) in rw some refl

whole_record : (d : Dialect) (r : Result (List (List ℕ)) TextFault) (before text new : List ℕ)
    → with_fields d.delimiter 0 before r ≡ Ok text → Ended d.delimiter (length before) text new → AddsRecord (record_of d r) before new
whole_record d (Ok texts) before text new put end =
    let body : text ≡ before ++ row_body (writer d.delimiter) texts = cc in
    (row_text (writer d.delimiter) texts, refl, end before texts refl body)
whole_record d (Err fault) before text new put end = absurd (cc)

-- a row's fields that are ended are its record
pub row_record : (d : Dialect) (fs : List Field) (row : List Value) (before text new : List ℕ) → flat_fault fs ≡ None
    → put_texts d before fs row ≡ Ok text → Ended d.delimiter (length before) text new → AddsRecord (row_csv d fs row) before new
row_record d fs row before text new flat put end = rw flat (whole_record d (row_texts d fs row) before text new put end)

-- a record that was appended is the line of its row
pub record_line : {T : Type 0} (r : Result T TextFault) (wanted : Result (List ℕ) TextFault) (before after : List ℕ)
    → OnOk r (AddsRecord wanted before after) → OnOk r (after ≡ before ++ text_or_none wanted)
record_line (Ok _) wanted before after (text, is, put) = rw is put
record_line (Err _) wanted before after h = tt

-- and the row has one
pub record_there : {T : Type 0} (r : Result T TextFault) (wanted : Result (List ℕ) TextFault) (before after : List ℕ)
    → OnOk r (AddsRecord wanted before after) → OnOk r (wanted ≡ Ok (text_or_none wanted))
record_there (Ok _) wanted before after (text, is, put) = rw is refl
record_there (Err _) wanted before after h = tt
