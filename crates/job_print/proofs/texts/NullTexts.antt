-- Texts beside the text of null.
use Rattle.std.proofs.Common.{◌≡◌, ◌≢◌, ◌==◌, ℕ, false, List, [], ◌∷◌, Some, refl, ap, subst, inl, inr, arith}
use Rattle.std.proofs.lemmas.Bool.{cases_Bool}
use Rattle.std.proofs.lemmas.Bool.Decides.{nat_tests}
use Rattle.std.proofs.lemmas.Slice.Eq.{bytes_eq-Decides}
use Rattle.std.specs.Str.{bytes_eq}
use Rattle.ipc_text_csv.specs.Dialects.{standard_null}
use Rattle.ipc_text_csv.specs.declared.dialect.Dialect.{Dialect}
use Rattle.ipc_text_csv.specs.RowCsv.{with_backslash, chars_text, null_text}
use Rattle.ipc_text_csv.proofs.NullText.{kept_text}
use Rattle.job_print.specs.NullTexts.{BeginsApart}

apart_other : (null text : List ℕ) → BeginsApart null text → text ≢ null
apart_other [] [] h e = h
apart_other [] (b ∷ bs) h e = cc
apart_other (n ∷ ns) [] h e = cc
apart_other (n ∷ ns) (b ∷ bs) h e = let f : n ≡ b = cc in h f

unescaped : (text : List ℕ) → BeginsApart standard_null text → with_backslash text ≡ text
unescaped [] h = refl
unescaped (b ∷ bs) h = let other : (b == 92) ≡ false = grind (arith, nat_tests) in rw other refl

-- then it is its field unchanged
pub plain_chars : (d : Dialect) (text : List ℕ) → BeginsApart (null_text d) text → chars_text d text ≡ Some text
plain_chars d text h = elim (cases_Bool (bytes_eq (null_text d) standard_null)) [
  | inl is ↦
      let e = (bytes_eq-Decides (null_text d) standard_null).0 is in
      rw is (ap Some (unescaped text (subst (λ (n : List ℕ). BeginsApart n text) e h)))
  | inr other ↦ rw other (kept_text d text (apart_other (null_text d) text h))
]
