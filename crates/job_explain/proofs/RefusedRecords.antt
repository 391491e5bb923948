-- The line for a field of a record that is refused.
use Rattle.std.proofs.Common.{◌≡◌, ◌∙◌, sym, subst, ℕ, List, Some, false}
use Rattle.std.proofs.lemmas.Bool.{false_from_ne_true}
use Rattle.std.proofs.lemmas.Str.{IsUtf8-from_is_utf8}
use Rattle.std.specs.Str.{IsUtf8, is_utf8}
use Rattle.std.specs.Prelude.{slice_get}
use Rattle.std.proofs.lemmas.Option.{same_Some}
use Rattle.csv.specs.Records.{field_at}
use Rattle.ipc_model.specs.declared.schema.Field.{Field}
use Rattle.ipc_text_temporal.specs.declared.fault.TextFault.TheVariants.{BadField}
use Rattle.job_explain.specs.Records.{ExplainsRecord, IsExcerpt, bad_field, middle_words}

-- the words for a field of the record and its column explain the fault
pub record_explained : (number place line : ℕ) (columns : List Field) (texts : List (List ℕ)) (f : Field) (text out : List ℕ)
    → slice_get columns place ≡ Some f → field_at texts place ≡ Some text
    → (shown : List ℕ) × IsExcerpt text shown × (out ≡ bad_field line shown text (middle_words number) f)
    → ExplainsRecord (BadField number place) columns texts out
record_explained number place line columns texts f text out column field report g t e1 e2 =
    let same_column : f ≡ g = same_Some _ _ (sym column ∙ e1) in
    let same_text : text ≡ t = same_Some _ _ (sym field ∙ e2) in (
      line,
      report.0,
      subst (λ x. IsExcerpt x report.0) same_text report.1,
      subst (λ x. out ≡ bad_field line report.0 x (middle_words number) g) same_text
          (subst (λ x. out ≡ bad_field line report.0 text (middle_words number) x) same_column report.2),
    )

-- the test of bytes that are not UTF-8 fails
pub not_utf8 : (text : List ℕ) → (IsUtf8 text → ⊥) → is_utf8 text ≡ false
not_utf8 text bad = false_from_ne_true (is_utf8 text) (λ good. bad (IsUtf8-from_is_utf8 text good))
