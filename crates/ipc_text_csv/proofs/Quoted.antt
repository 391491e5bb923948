-- Two texts as one field.
use Rattle.std.proofs.Common.{◌≡◌, ◌==◌, ◌||◌, ◌<◌, ◌+◌, ◌∙◌, ℕ, false, true, List, [], ◌∷◌, ◌++◌, length, drop}
use Rattle.std.proofs.Common.{get_or, refl, sym, ap, inl, inr, arith}
use Rattle.std.proofs.Common.{add-one, append_assoc, drop-cons}
use Rattle.std.proofs.lemmas.Bool.Decides.{nat_tests}
use Rattle.std.proofs.lemmas.Bool.{cases_Bool}
use Rattle.std.proofs.lemmas.List.Folds.{list_any-append}
use Rattle.csv.specs.Writing.{escaped, quoted, needs_quotes, needs_byte, default_writer, quote_mark}
use Rattle.ipc_text_csv.specs.Dialects.{writer}
use Rattle.ipc_text_csv.specs.RowCsv.{with_field}

-- two texts are escaped one after the other
pub escaped_both : (xs ys : List ℕ) → escaped default_writer (xs ++ ys) ≡ escaped default_writer xs ++ escaped default_writer ys
unfolding escaped
escaped_both [] ys = refl
escaped_both (b ∷ xs) ys = elim (cases_Bool (b == quote_mark)) [
  | inl quote ↦ rw quote (ap (λ zs. quote_mark ∷ b ∷ zs) (escaped_both xs ys))
  | inr other ↦ rw other (ap (λ zs. b ∷ zs) (escaped_both xs ys))
]

-- between quotes the delimiter has no other form
pub escaped_alike : (c : ℕ) (xs : List ℕ) → escaped (writer c) xs ≡ escaped default_writer xs
unfolding escaped
escaped_alike c [] = refl
escaped_alike c (b ∷ xs) = elim (cases_Bool (b == quote_mark)) [
  | inl quote ↦ rw quote (ap (λ zs. quote_mark ∷ b ∷ zs) (escaped_alike c xs))
  | inr other ↦ rw other (ap (λ zs. b ∷ zs) (escaped_alike c xs))
]

-- two texts call for quotes where one of them does
quotes_both : (c : ℕ) (xs ys : List ℕ)
    → needs_quotes (writer c) (xs ++ ys) ≡ (needs_quotes (writer c) xs || needs_quotes (writer c) ys)
quotes_both c xs ys = list_any-append (needs_byte (writer c)) xs ys

-- then both are one field in quotes
pub field_quoted : (c : ℕ) (text xs ys : List ℕ) → (needs_quotes (writer c) xs || needs_quotes (writer c) ys) ≡ true
    → text ++ quoted default_writer (xs ++ ys) ≡ with_field c text (xs ++ ys)
field_quoted c text xs ys needs = rw (quotes_both c xs ys, needs, escaped_alike c (xs ++ ys)) refl

-- and otherwise they are one as they stand
pub field_plain : (c : ℕ) (text xs ys : List ℕ) → (needs_quotes (writer c) xs || needs_quotes (writer c) ys) ≡ false
    → text ++ xs ++ ys ≡ with_field c text (xs ++ ys)
field_plain c text xs ys needs = rw (quotes_both c xs ys, needs) (append_assoc text xs ys)

from_place : (xs : List ℕ) (i : ℕ) → i < length xs → drop i xs ≡ get_or xs i 0 ∷ drop (i + 1) xs
from_place xs i h = rw (add-one, drop-cons xs i 0) refl

-- a byte that is no quotation mark is put as it is
pub byte_more : (o n xs whole : List ℕ) (i : ℕ) → i < length xs → (get_or xs i 0 ≡ 34 → ⊥) → n ≡ o ++ get_or xs i 0 ∷ []
    → o ++ escaped default_writer (drop i xs) ≡ whole → n ++ escaped default_writer (drop (i + 1) xs) ≡ whole
unfolding escaped
byte_more o n xs whole i h other e k =
    let no : (get_or xs i 0 == quote_mark) ≡ false = grind (arith, nat_tests) in
    let whole_from = ap (escaped default_writer) (from_place xs i h) in
    rw e (append_assoc o (get_or xs i 0 ∷ []) _ ∙ ap (λ zs. o ++ zs) (sym (rw no at whole_from)) ∙ k)

-- a quotation mark is put behind another one
pub mark_more : (o m n xs whole : List ℕ) (i : ℕ) → i < length xs → get_or xs i 0 ≡ 34 → m ≡ o ++ 34 ∷ [] → n ≡ m ++ get_or xs i 0 ∷ []
    → o ++ escaped default_writer (drop i xs) ≡ whole → n ++ escaped default_writer (drop (i + 1) xs) ≡ whole
unfolding escaped
mark_more o m n xs whole i h quote d e k =
    let yes : (get_or xs i 0 == quote_mark) ≡ true = grind (arith, nat_tests) in
    let whole_from = ap (escaped default_writer) (from_place xs i h) in
    rw (e, d) (append_assoc (o ++ 34 ∷ []) _ _ ∙ append_assoc o (34 ∷ []) _ ∙ ap (λ zs. o ++ zs) (sym (rw yes at whole_from)) ∙ k)
