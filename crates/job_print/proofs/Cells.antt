-- Cells of a row, and rows that are not printed.
use Rattle.std.proofs.Common.{◌≡◌, ◌∙◌, refl, ap, ℕ, ◌+◌, ◌<◌, List, [], ◌∷◌, ◌++◌, length, drop, take, ◌-◌, get_or}
use Rattle.std.proofs.Common.{Result, Ok, Option, Some, None, append_assoc, take_at, arith}
use Rattle.ipc_model.specs.declared.schema.Field.{Field}
use Rattle.ipc_model.specs.declared.value.Value.{Value}
use Rattle.ipc_model.specs.declared.value.Value.TheVariants as v
use Rattle.csv.specs.Writing.{field_text, next_sep}
use Rattle.ipc_text_csv.specs.Dialects.{writer}
use Rattle.ipc_text_csv.specs.declared.dialect.Dialect.{Dialect}
use Rattle.ipc_text_temporal.specs.declared.fault.TextFault.{TextFault}
use Rattle.ipc_text_csv.specs.RowCsv.{Appended, csv_text, with_field, with_fields, all_texts, each_text}
use Rattle.ipc_text_csv.proofs.Records.{field_more, no_more}
use Rattle.job_print.specs.declared.form.Form.TheVariants.{Counts}
use Rattle.job_print.specs.Forms.{line_of, HaveLines}
use Rattle.job_print.specs.LentRows.{HaveRow, row_at}
use Rattle.std.specs.Prelude.{slice_index_or}
use Rattle.std.proofs.lemmas.List.{take_rest}
use Rattle.job_print.specs.Rows.{lines}

-- the columns after the first, and their fields: where its cell was appended, the cells of these lead to the same text or fault
pub record IsMore (d : Dialect) (fs : List Field) (cs : List (List Value)) (r i : ℕ) (o2 : List ℕ) (wanted : Result (List ℕ) TextFault) :
    Type 0 where
  pub columns : length (take (length cs - 1) (drop 1 cs)) ≡ length (take (length fs - 1) (drop 1 fs))
  pub row : HaveRow (take (length cs - 1) (drop 1 cs)) r
  pub left : length (take (length fs - 1) (drop 1 fs)) + 1 ≡ length fs
  pub text : with_fields d.delimiter (i + 1) o2 (all_texts (i + 1)
      (each_text d (take (length fs - 1) (drop 1 fs)) (row_at (take (length cs - 1) (drop 1 cs)) r))) ≡ wanted

pub first_appended : (d : Dialect) (fs : List Field) (cs : List (List Value)) (r : ℕ) (f : Field) (values : List Value) (value : Value) (i
    : ℕ) (out o1 o2 : List ℕ) (wanted : Result (List ℕ) TextFault) → 0 < length fs → 0 < length cs → length cs ≡ length fs
    → HaveRow cs r → f ≡ get_or fs 0 f → values ≡ get_or cs 0 values → value ≡ slice_index_or values r v.Null
    → with_fields d.delimiter i out (all_texts i (each_text d fs (row_at cs r))) ≡ wanted
    → o1 ≡ out ++ next_sep (writer d.delimiter) i → Appended d.delimiter o1 (csv_text d f value) o2
    → IsMore d fs cs r i o2 wanted
first_appended d [] cs r f values value i out o1 o2 wanted some many same have is at held before comma put =
    absurd (omega (arith, some))
first_appended d (g ∷ gs) [] r f values value i out o1 o2 wanted some many same have is at held before comma put =
    absurd (omega (arith, many))
first_appended d (g ∷ gs) (w ∷ ws) r f values value i out o1 o2 wanted some many same have is at held before comma put =
    let report : Appended d.delimiter o1 (csv_text d g (slice_index_or w r v.Null)) o2 = rw (is, held, at) at put in
    let more =
    field_more d.delimiter i out o1 o2 (csv_text d g (slice_index_or w r v.Null)) (each_text d gs (row_at ws r)) comma
    report ∙ before in
    record {
      columns = rw (take_rest (w ∷ ws) 1, take_rest (g ∷ gs) 1) (omega (arith, same));
      row = rw (take_rest (w ∷ ws) 1) have.1;
      left = rw (take_rest (g ∷ gs) 1) (omega arith);
      text = rw (take_rest (w ∷ ws) 1, take_rest (g ∷ gs) 1) more;
    }

-- what was before a cell is still there after it
pub still_before : (d : Dialect) (old before o1 o2 sep : List ℕ) (cell : Option (List ℕ)) → (more : List ℕ) × (before ≡ old ++ more)
    → o1 ≡ before ++ sep → Appended d.delimiter o1 cell o2 → (more : List ℕ) × (o2 ≡ old ++ more)
still_before d old before o1 o2 sep None (more, is) comma put = absurd cc
still_before d old before o1 o2 sep (Some t) (more, is) comma put =
    let text : o2 ≡ with_field d.delimiter o1 t = cc in
    (more ++ sep ++ field_text (writer d.delimiter) t, rw (text, comma, is) (simp append_assoc refl))

-- the front of a text that was continued
pub front_kept : (old new : List ℕ) → (more : List ℕ) × (new ≡ old ++ more) → take (length old) new ≡ old
front_kept old new (more, is) = rw is (take_at old more (length old) refl)

-- where a cell was refused, what was before the row is unchanged
pub refused_front : (old before o1 o2 sep : List ℕ) → (more : List ℕ) × (before ≡ old ++ more) → o1 ≡ before ++ sep → o2 ≡ o1
    → take (length old) o2 ≡ old
refused_front old before o1 o2 sep (more, is) comma same =
    front_kept old o2 (more ++ sep, rw (same, comma, is) (simp append_assoc refl))

-- where no field is left, nothing is appended
pub no_fields : (d : Dialect) (n : ℕ) (out : List ℕ) (fs : List Field) (vs : List Value) → length fs < 1
    → with_fields d.delimiter n out (all_texts n (each_text d fs vs)) ≡ Ok out
no_fields d n out [] vs none = ap Ok (no_more d.delimiter n out)
no_fields d n out (f ∷ fs) vs none = absurd (omega (arith, none))

-- where only counts are printed, each row has its text, which is none
pub nothing_has : (fs : List Field) (rows : List (List Value)) → HaveLines Counts fs rows
nothing_has fs [] = tt
nothing_has fs (row ∷ rows) = (tt, nothing_has fs rows)

-- rows of which nothing is printed have no text
pub no_lines : (fs : List Field) (rows : List (List Value)) → lines (line_of Counts fs) rows ≡ []
no_lines fs [] = refl
no_lines fs (row ∷ rows) = no_lines fs rows
