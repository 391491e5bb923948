-- Fields of CSV between quotes.
use Rattle.std.proofs.Common.{◌≡◌, ◌∙◌, refl, sym, ap, ℕ, suc, ◌+◌, ◌<◌, ◌≤◌, ◌==◌, ◌||◌, Bool, true, false, List, [], ◌∷◌, ◌++◌, length}
use Rattle.std.proofs.Common.{drop, drop-cons, get_or, add-one, append-nil, append_assoc}
use Rattle.std.specs.Prelude.{if◌then◌else◌}
use Rattle.std.proofs.lemmas.List.{drop_all}
use Rattle.csv.specs.Writing.{default_writer, escaped, needs_byte, needs_quotes}
use Rattle.std.proofs.lemmas.List.Folds.{list_any-append}
use Rattle.ipc_text_csv.specs.Dialects.{writer}
use Rattle.ipc_text_csv.specs.RowCsv.{with_field}
use Rattle.ipc_text_csv.proofs.Quoted.{escaped_alike}

-- a byte, doubled where it is a quote, in front of others
doubled : (quote : Bool) (b : ℕ) (bs : List ℕ)
    → (if quote then 34 ∷ b ∷ bs else b ∷ bs) ≡ (if quote then 34 ∷ b ∷ [] else b ∷ []) ++ bs
doubled true b bs = refl
doubled false b bs = refl

-- what stands for bytes from a place on: for its byte, and for the rest
pub between_from : (bs : List ℕ) (i b : ℕ) → i < length bs → b ≡ get_or bs i 0
    → escaped default_writer (drop i bs) ≡ escaped default_writer (b ∷ []) ++ escaped default_writer (drop (i + 1) bs)
unfolding escaped
between_from bs i b inside is = rw (drop-cons bs i 0)
    (rw (← is, add-one) (doubled (b == 34) b (escaped default_writer (drop (suc i) bs))))

no_bytes : escaped default_writer [] ≡ []
unfolding escaped
no_bytes = refl

-- where no byte is left, all were written
pub all_between : (bs front whole : List ℕ) (i : ℕ) → length bs ≤ i → front ++ escaped default_writer (drop i bs) ≡ whole
    → front ≡ whole
all_between bs front whole i over is =
    sym (append-nil front) ∙ (ap (λ (t : List ℕ). front ++ t) (sym (ap (escaped default_writer) (drop_all i bs over) ∙ no_bytes)) ∙ is)

-- a backslash stands for itself between quotes
pub backslash_between : (bs : List ℕ) → escaped default_writer (92 ∷ bs) ≡ 92 ∷ escaped default_writer bs
unfolding escaped
backslash_between bs = refl

-- a text after a backslash that needs quotes, between them
either_needs : (c : ℕ) (field : List ℕ)
    → needs_quotes (writer c) (92 ∷ field) ≡ (needs_quotes (writer c) (92 ∷ []) || needs_quotes (writer c) field)
either_needs c field = list_any-append (needs_byte (writer c)) (92 ∷ []) field

pub backslash_quoted : (c : ℕ) (text field : List ℕ) → (needs_quotes (writer c) (92 ∷ []) || needs_quotes (writer c) field) ≡ true
    → text ++ (34 ∷ 92 ∷ []) ++ escaped default_writer field ++ 34 ∷ [] ≡ with_field c text (92 ∷ field)
backslash_quoted c text field needs =
    rw (either_needs c field, needs, escaped_alike c (92 ∷ field), backslash_between field) (simp append_assoc refl)

-- a field that needs quotes, between them
pub field_quoted : (c : ℕ) (text field : List ℕ) → needs_quotes (writer c) field ≡ true
    → text ++ (34 ∷ []) ++ escaped default_writer field ++ 34 ∷ [] ≡ with_field c text field
field_quoted c text field needs = rw (needs, escaped_alike c field) (simp append_assoc refl)
