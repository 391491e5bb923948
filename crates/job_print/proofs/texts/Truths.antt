-- Words of truth values.
use Rattle.std.proofs.Common.{◌≡◌, ◌∙◌, refl, sym, ap, ℕ, ◌+◌, ◌-◌, ◌≤◌, Bool, true, false, List, ◌++◌, length, take, arith, slice_index}
use Rattle.std.proofs.Common.{take-take, length-take-le}
use Rattle.std.specs.Int.{from_bool, to_le_bytes, w64}
use Rattle.std.proofs.Math.Seq.{take-append-add}
use Rattle.serde_json.specs.Data.{boolean}
use Rattle.serde_json.specs.Written.{compact_text}
use Rattle.ipc_text_csv.specs.declared.dialect.Dialect.{Dialect}
use Rattle.ipc_text_csv.proofs.PlainDigits.{all_plain}
use Rattle.ipc_text_csv.specs.RowCsv.{bool_text, with_field}
use Rattle.job_print.specs.declared.bool_words.TheConstants.{WORDS}

-- the front of what was written
pub front_written : (old new long : List ℕ) (at n : ℕ) → at ≤ length old → n ≤ length long
    → take (at + length long) new ≡ take at old ++ long → take (at + n) new ≡ take at old ++ take n long
front_written old new long at n inside less is =
    let front = take at old in
    let size : length front ≡ at = length-take-le at old inside in
    sym (take-take (at + n) (at + length long) new (omega (arith, less))) ∙ (ap (take (at + n)) is
    ∙ (ap (λ (k : ℕ). take (k + n) (front ++ long)) (sym size) ∙ take-append-add front long n))

-- a word of JSON
pub truth_json : (truth : Bool) → compact_text (boolean truth) ≡ bool_text truth
truth_json true = refl
truth_json false = refl

-- a field of CSV
pub truth_field : (d : Dialect) (text : List ℕ) (truth : Bool) → with_field d.delimiter text (bool_text truth) ≡ text ++ bool_text truth
truth_field d text true = rw (all_plain d.delimiter (bool_text true) d.allowed.apart refl) refl
truth_field d text false = rw (all_plain d.delimiter (bool_text false) d.allowed.apart refl) refl

-- a word that was written with what is left of five bytes after it
pub truth_written : (truth : Bool) (old new five : List ℕ) (at less end : ℕ) → at ≤ length old → length five ≡ 5
    → end ≡ at + length five → take end new ≡ take at old ++ five → take (length (bool_text truth)) five ≡ bool_text truth
    → less ≡ from_bool truth → take (at + 5 - less) new ≡ take at old ++ bool_text truth
truth_written true old new five at less end inside size stop put word is =
    let one : less ≡ 1 = is in
    let n : at + 5 - less ≡ at + 4 = omega (arith, one) in
    rw n (front_written old new five at 4 inside (omega (arith, size)) (rw stop at put) ∙ ap (λ (t : List ℕ). take at old ++ t) word)
truth_written false old new five at less end inside size stop put word is =
    let none : less ≡ 0 = is in
    let n : at + 5 - less ≡ at + 5 = omega (arith, none) in
    rw n (front_written old new five at 5 inside (omega (arith, size)) (rw stop at put) ∙ ap (λ (t : List ℕ). take at old ++ t) word)

-- a word of the table
pub table_word : (truth : Bool)
    → take (length (bool_text truth)) (take 5 (to_le_bytes w64 (slice_index WORDS (from_bool truth)))) ≡ bool_text truth
table_word true = refl
table_word false = refl
