-- Records of CSV, field by field.
use Rattle.std.proofs.Common.{◌≡◌, ◌∙◌, ◌==◌, ◌<◌, ◌≤◌, ◌+◌, ℕ, zero, suc, Bool, true, false, List, [], ◌∷◌, ◌++◌, length, drop}
use Rattle.std.proofs.Common.{drop-cons, get_or, add-one, Option, Some, None}
use Rattle.std.proofs.Common.{Result, Ok, Err, option_map, refl, sym, ap, arith, append_assoc, append-nil, if◌then◌else◌}
use Rattle.std.proofs.lemmas.Bool.Decides.{nat_tests}
use Rattle.std.proofs.lemmas.List.{drop_all}
use Rattle.std.proofs.Common.{length-append}
use Rattle.csv.specs.Writing.{is_blank, field_text, fields_text, row_body, next_sep}
use Rattle.ipc_model.specs.declared.schema.Field.{Field, out-Field}
use Rattle.ipc_model.specs.declared.value.Value.{Value}
use Rattle.ipc_text_csv.specs.Dialects.{writer}
use Rattle.ipc_text_csv.specs.declared.dialect.Dialect.{Dialect}
use Rattle.ipc_text_csv.specs.RowCsv.{with_field, with_fields, body_from, all_texts, in_front, each_text, csv_text, names, Ended}
use Rattle.ipc_text_temporal.specs.declared.fault.TextFault.{TextFault}

pub some_byte : (n : ℕ) → (suc n == 0) ≡ false
some_byte n = grind (arith, nat_tests)

pub longer : (xs ys : List ℕ) (b : ℕ) → (length (xs ++ b ∷ ys) == 0) ≡ false
longer [] ys b = some_byte (length ys)
longer (x ∷ xs) ys b = some_byte (length (xs ++ b ∷ ys))

pub no_field : (c : ℕ) → fields_text (writer c) [] ≡ []
unfolding fields_text
no_field c = refl

pub next_field : (c : ℕ) (u : List ℕ) (ts : List (List ℕ))
    → fields_text (writer c) (u ∷ ts) ≡ c ∷ (field_text (writer c) u ++ fields_text (writer c) ts)
unfolding fields_text
next_field c u ts = refl

-- a record shows no byte where its fields have none
pub blank_is : (c : ℕ) (ts : List (List ℕ)) → is_blank (writer c) ts ≡ (length (row_body (writer c) ts) == 0)
unfolding is_blank
blank_is c [] = refl
blank_is c (t ∷ []) =
    ap (λ xs. length xs == 0) (sym (ap (λ ys. field_text (writer c) t ++ ys) (no_field c) ∙ append-nil (field_text (writer c) t)))
blank_is c (t ∷ u ∷ ts) =
    rw (next_field c u ts) (sym (longer (field_text (writer c) t) (field_text (writer c) u ++ fields_text (writer c) ts) c))

separated : (c n : ℕ) → next_sep (writer c) (suc n) ≡ c ∷ []
separated c n = rw (some_byte n) refl

one_more : (c i : ℕ) (out text : List ℕ) (rest : Result (List (List ℕ)) TextFault)
    → with_fields c (suc i) (with_field c (out ++ next_sep (writer c) i) text) rest ≡ with_fields c i out (in_front text rest)
unfolding fields_text
one_more c zero out text (Ok ts) = ap Ok (simp append_assoc refl)
one_more c zero out text (Err e) = refl
one_more c (suc n) out text (Ok ts) = rw (separated c n) (ap Ok (simp append_assoc refl))
one_more c (suc n) out text (Err e) = refl

-- where a cell's field was appended behind what separates it, the cells behind it lead to the same text or fault
pub field_more : (c i : ℕ) (out o1 o2 : List ℕ) (cell : Option (List ℕ)) (cells : List (Option (List ℕ)))
    → o1 ≡ out ++ next_sep (writer c) i → Some o2 ≡ option_map (with_field c o1) cell
    → with_fields c (i + 1) o2 (all_texts (i + 1) cells) ≡ with_fields c i out (all_texts i (cell ∷ cells))
field_more c i out o1 o2 None cells e f = cc
field_more c i out o1 o2 (Some t) cells e f =
    let g : o2 ≡ with_field c o1 t = cc in
    rw (g, e, add-one) (one_more c i out t (all_texts (suc i) cells))

-- the cells from a column on: its own, and those behind it
pub cells_from : (d : Dialect) (fs : List Field) (vs : List Value) (i : ℕ) (f : Field) (v : Value) → i < length fs → i < length vs
    → f ≡ get_or fs i f → v ≡ get_or vs i v
    → each_text d (drop i fs) (drop i vs) ≡ csv_text d f v ∷ each_text d (drop (i + 1) fs) (drop (i + 1) vs)
cells_from d fs vs i f v lt less e g = rw (drop-cons fs i f, drop-cons vs i v) (rw (← e, ← g, add-one) refl)

-- no texts leave a text as it is
pub no_more : (c n : ℕ) (out : List ℕ) → out ++ body_from c n [] ≡ out
unfolding fields_text
no_more c zero out = append-nil out
no_more c (suc n) out = append-nil out

-- where a name was appended behind a delimiter, the names behind it lead to the same text
pub name_more : (c : ℕ) (out o1 o2 : List ℕ) (fs : List Field) (i : ℕ) (f : Field) → i < length fs → f ≡ get_or fs i f → o1 ≡ out ++ c ∷ []
    → o2 ≡ with_field c o1 (out-Field f).name
    → o2 ++ fields_text (writer c) (names (drop (i + 1) fs)) ≡ out ++ fields_text (writer c) (names (drop i fs))
unfolding fields_text
name_more c out o1 o2 fs i f lt e first second =
    rw (second, first, drop-cons fs i f) (rw (← e, add-one) (simp append_assoc refl))

-- behind the last name nothing is appended
pub no_names : (c : ℕ) (out : List ℕ) (fs : List Field) (n : ℕ) → length fs ≤ n → out ++ fields_text (writer c) (names (drop n fs)) ≡ out
unfolding fields_text
no_names c out fs n le = rw (drop_all n fs le) (append-nil out)

-- behind the last column nothing is appended
pub no_columns : (d : Dialect) (c n : ℕ) (out : List ℕ) (fs : List Field) (vs : List Value) → length fs ≤ n
    → with_fields c n out (all_texts n (each_text d (drop n fs) vs)) ≡ Ok out
no_columns d c n out fs vs le = rw (drop_all n fs le) (ap Ok (no_more c n out))

without_values : (d : Dialect) (c n : ℕ) (out : List ℕ) (fs : List Field) → with_fields c n out (all_texts n (each_text d fs [])) ≡ Ok out
without_values d c n out [] = ap Ok (no_more c n out)
without_values d c n out (f ∷ fs) = ap Ok (no_more c n out)

-- behind the last value of a row nothing is appended
pub no_values : (d : Dialect) (c n : ℕ) (out : List ℕ) (fs : List Field) (vs : List Value) → length vs ≤ n
    → with_fields c n out (all_texts n (each_text d fs (drop n vs))) ≡ Ok out
no_values d c n out fs vs le = rw (drop_all n vs le) (without_values d c n out fs)

added : (m n k : ℕ) → m ≡ k → (m + n == k) ≡ (n == 0)
added m zero k e = grind (arith, nat_tests, e)
added m (suc n) k e = grind (arith, nat_tests, e)

-- nothing stands behind a text where both are as long together as it is alone
nothing_behind : (before xs : List ℕ) (n : ℕ) → length before ≡ n → (length (before ++ xs) == n) ≡ (length xs == 0)
nothing_behind before xs n e = rw (length-append before xs) (added (length before) (length xs) n e)

-- the end of a record whose fields begin at `start`: a line feed, behind two quotes where the fields are empty
abbrev pub end_behind : ℕ → List ℕ → List ℕ
end_behind start text = if length text == start then 34 ∷ 34 ∷ 10 ∷ [] else 10 ∷ []

pub end_of : (blank : Bool) (before body : List ℕ) → before ++ body ++ (if blank then 34 ∷ 34 ∷ 10 ∷ [] else 10 ∷ [])
    ≡ before ++ (body ++ ((if blank then 34 ∷ 34 ∷ [] else []) ++ 10 ∷ []))
end_of true before body = simp append_assoc refl
end_of false before body = simp append_assoc refl

-- what ends a record where its fields stand makes of them the record
pub ended : (c start : ℕ) (old new : List ℕ) → new ≡ old ++ end_behind start old → Ended c start old new
ended c start old new e = λ before texts l f.
    let body = row_body (writer c) texts in
    let blank : (length old == start) ≡ (length body == 0) =
    ap (λ xs. length xs == start) f ∙ nothing_behind before body start l in
    rw (e, blank, f, blank_is c texts) (end_of (length body == 0) before body)
