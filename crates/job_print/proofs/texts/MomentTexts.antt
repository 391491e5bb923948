-- Dates, times and points in time as what stands in a row.
use Rattle.std.proofs.Common.{◌≡◌, ◌∙◌, refl, ap, ℕ, ℤ, List, [], ◌∷◌, ◌++◌, append_assoc, Option, Some, None}
use Rattle.std.specs.Prelude.{IfSome, option_map, pos, negsuc}
use Rattle.std.specs.Fmt.{signed_decimal}
use Rattle.std.proofs.lemmas.Option.{same_Some}
use Rattle.serde_json.specs.Written.{compact_text}
use Rattle.ipc_text_temporal.specs.ShortTexts.{IsPlain}
use Rattle.ipc_text_json.specs.RowJson.{text_or_number}
use Rattle.ipc_text_csv.specs.declared.dialect.Dialect.{Dialect}
use Rattle.ipc_text_csv.specs.RowCsv.{Appended}
use Rattle.job_print.proofs.texts.OwnBytes.{own_moment}
use Rattle.job_print.proofs.texts.NumberFields.{moment_as_it_stands}

-- a text after a quotation mark, with another after it, is a text of JSON
pub shown_moment : (before after : List ℕ) (moment : Option (List ℕ)) (z : ℤ) → IfSome moment IsPlain
    → Some after ≡ option_map (λ m. (before ++ 34 ∷ []) ++ m) moment → after ++ 34 ∷ [] ≡ before ++ compact_text (text_or_number moment z)
shown_moment before after None z plain is = absurd cc
shown_moment before after (Some m) z plain is = rw (same_Some _ _ is, own_moment m plain) (simp append_assoc refl)

number_digits : (z : ℤ) → signed_decimal z ≡ compact_text (text_or_number None z)
number_digits (pos n) = refl
number_digits (negsuc n) = refl

-- where there is none, the number stands
pub shown_number : (before after digits : List ℕ) (moment : Option (List ℕ)) (z : ℤ)
    → None ≡ option_map (λ m. before ++ m) moment → after ≡ digits ++ signed_decimal z
    → after ≡ digits ++ compact_text (text_or_number moment z)
shown_number before after digits None z is text = text ∙ ap (λ t. digits ++ t) (number_digits z)
shown_number before after digits (Some m) z is text = absurd cc

-- a text is a field of CSV
pub field_moment : (d : Dialect) (before after : List ℕ) (moment : Option (List ℕ)) → IfSome moment IsPlain
    → Some after ≡ option_map (λ m. before ++ m) moment → Appended d.delimiter before moment after
field_moment d before after None plain is = absurd cc
field_moment d before after (Some m) plain is = rw (moment_as_it_stands d.delimiter d.allowed.apart m plain) is
