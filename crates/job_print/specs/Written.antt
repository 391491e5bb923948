-- What contracts see of a text that grows.
use Rattle.std.specs.Prelude.{◌≡◌, ◌++◌, ℕ, Bool, true, false, List, Option, Some, None, IfSome}
use Rattle.std.specs.Prelude.{option_map, refl}
use Rattle.std.specs.Coded.{Coded, code_by, coded×, coded_list, coded_ℕ}
use Rattle.ipc_text_temporal.specs.ShortTexts.{IsPlain}

-- the bytes of a text, and how many more can be written at once
pub record Written : Type 0 where
  pub text : List ℕ
  pub room : ℕ

-- it is stored as the pair of its fields
abbrev pub written_code : Coded Written
written_code =
    code_by (List ℕ × ℕ) (coded× (coded_list coded_ℕ) coded_ℕ) (λ w. (w.text, w.room))
    (λ p. record { text = p.0; room = p.1 }) (λ _. refl)

-- the text of a date, a time or a timestamp was appended; or there is none, and nothing was
abbrev pub AddsMoment : List ℕ → List ℕ → Option (List ℕ) → Bool → Type 0
AddsMoment before after moment true =
    (Some after ≡ option_map (λ m. before ++ m) moment) × IfSome moment IsPlain
AddsMoment before after moment false = (moment ≡ None) × (after ≡ before)
