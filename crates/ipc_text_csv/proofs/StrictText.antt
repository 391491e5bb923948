-- What is written is in strict form.
use Rattle.std.proofs.Common.{◌≡◌, ◌==◌, ◌++◌, ◌∷◌, ◌∙◌, [], ℕ, List, refl, sym, ap, subst, false, append_assoc, inl, inr, length}
use Rattle.std.specs.List.{list_any}
use Rattle.std.proofs.lemmas.Bool.{cases_Bool, eqb-true}
use Rattle.csv.specs.Machine.{step}
use Rattle.csv.specs.Writing.{escaped, field_text, fields_text, needs_byte, quoted, row_text}
use Rattle.csv.specs.declared.parser.State.{State}
use Rattle.csv.specs.declared.parser.State.TheVariants as st
use Rattle.ipc_text_csv.specs.Dialects.{writer}
use Rattle.ipc_text_csv.specs.RowCsv.{with_end}
use Rattle.ipc_text_csv.specs.StrictForm.{IsStrictFrom, is_outside}
use Rattle.ipc_text_csv.proofs.Records.{blank_is, end_of, next_field, no_field, some_byte}
use Rattle.ipc_text_csv.proofs.RoundTrip.{IsApart, config, escaped_plain, or_left, or_right, plain_byte}

one : (c : ℕ) (s : State) (b : ℕ) (zs : List ℕ) (s2 : State) → is_outside (config c) s b ≡ false → (step (config c) s b).0 ≡ s2
    → IsStrictFrom (config c) s2 zs → IsStrictFrom (config c) s (b ∷ zs)
unfolding IsStrictFrom
one c s b zs s2 inside goes h = (inside, rw goes h)

-- the bytes of a field with no mark in them
plain_strict : (c : ℕ) (x tail : List ℕ) → list_any (needs_byte (writer c)) x ≡ false → IsStrictFrom (config c) st.InField tail
    → IsStrictFrom (config c) st.InField (x ++ tail)
plain_strict c [] tail e h = h
plain_strict c (b ∷ rest) tail e h =
    let q = plain_byte c b (or_left _ _ e) in
    one c st.InField b (rest ++ tail) st.InField q.1 (rw (q.0, q.2, q.3) refl) (plain_strict c rest tail (or_right _ _ e) h)

-- the bytes of a field between quotes, and the quote that ends them
quoted_strict : (c : ℕ) (x tail : List ℕ) → IsStrictFrom (config c) st.AfterQuote tail
    → IsStrictFrom (config c) st.InQuoted (escaped (writer c) x ++ (34 ∷ tail))
unfolding escaped
quoted_strict c [] tail h = one c st.InQuoted 34 tail st.AfterQuote refl refl h
quoted_strict c (b ∷ rest) tail h = elim (cases_Bool (b == 34)) [
  | inl same ↦
      subst (λ (z : ℕ). IsStrictFrom (config c) st.InQuoted (escaped (writer c) (z ∷ rest) ++ (34 ∷ tail))) (sym (eqb-true b 34 same))
      (one c st.InQuoted 34 _ st.AfterQuote refl refl (one c st.AfterQuote 34 _ st.InQuoted refl refl (quoted_strict c rest tail h)))
  | inr other ↦
      rw (escaped_plain c b rest other) (one c st.InQuoted b _ st.InQuoted refl (rw other refl) (quoted_strict c rest tail h))
]

-- what follows a field is in strict form after it
pub record AfterField (c : ℕ) (rest : List ℕ) : Type 0 where
  pub field : IsStrictFrom (config c) st.InField rest
  pub start : IsStrictFrom (config c) st.StartField rest
  pub quoted : IsStrictFrom (config c) st.AfterQuote rest

after_delimiter : (c : ℕ) (rest : List ℕ) → IsApart c → IsStrictFrom (config c) st.StartField rest → AfterField c (c ∷ rest)
after_delimiter c rest a h = record {
  field = one c st.InField c rest st.StartField a.quote (rw a.itself refl) h;
  start = one c st.StartField c rest st.StartField refl (rw (a.quote, a.itself) refl) h;
  quoted = one c st.AfterQuote c rest st.StartField (rw (a.quote, a.itself) refl) (rw (a.quote, a.itself) refl) h;
}

after_line : (c : ℕ) (rest : List ℕ) → IsApart c → IsStrictFrom (config c) st.StartRecord rest → AfterField c (10 ∷ rest)
after_line c rest a h = record {
  field = one c st.InField 10 rest st.StartRecord refl (rw a.from_line_feed refl) h;
  start = one c st.StartField 10 rest st.StartRecord refl (rw a.from_line_feed refl) h;
  quoted = one c st.AfterQuote 10 rest st.StartRecord (rw a.from_line_feed refl) (rw a.from_line_feed refl) h;
}

-- a field in quotes, from its start
quoted_field : (c : ℕ) (s : State) (x rest : List ℕ) → is_outside (config c) s 34 ≡ false → (step (config c) s 34).0 ≡ st.InQuoted
    → AfterField c rest → IsStrictFrom (config c) s (quoted (writer c) x ++ rest)
quoted_field c s x rest inside goes h =
    let text : quoted (writer c) x ++ rest ≡ 34 ∷ (escaped (writer c) x ++ (34 ∷ rest)) =
    ap (λ (t : List ℕ). 34 ∷ t) (append_assoc (escaped (writer c) x) (34 ∷ []) rest) in
    subst (IsStrictFrom (config c) s) (sym text)
    (one c s 34 (escaped (writer c) x ++ (34 ∷ rest)) st.InQuoted inside goes (quoted_strict c x rest h.quoted))

-- a field in no quotes, from its start
plain_field : (c : ℕ) (x rest : List ℕ) → list_any (needs_byte (writer c)) x ≡ false → AfterField c rest
    → IsStrictFrom (config c) st.StartField (x ++ rest)
plain_field c [] rest e h = h.start
plain_field c (b ∷ x) rest e h =
    let q = plain_byte c b (or_left _ _ e) in
    one c st.StartField b (x ++ rest) st.InField refl (rw (q.1, q.0, q.2, q.3) refl) (plain_strict c x rest (or_right _ _ e) h.field)

field_strict : (c : ℕ) (x rest : List ℕ) → AfterField c rest → IsStrictFrom (config c) st.StartField (field_text (writer c) x ++ rest)
field_strict c x rest h = elim (cases_Bool (list_any (needs_byte (writer c)) x)) [
  | inl needs ↦ rw needs (quoted_field c st.StartField x rest refl refl h)
  | inr plain ↦ rw plain (plain_field c x rest plain h)
]

-- the fields after one, and the end of the line
rest_strict : (c : ℕ) (ys : List (List ℕ)) (tail : List ℕ) → IsApart c → IsStrictFrom (config c) st.StartRecord tail
    → AfterField c (fields_text (writer c) ys ++ (10 ∷ tail))
rest_strict c [] tail a h = rw (no_field c) (after_line c tail a h)
rest_strict c (y ∷ ys) tail a h =
    rw (next_field c y ys) (after_delimiter c ((field_text (writer c) y ++ fields_text (writer c) ys) ++ (10 ∷ tail)) a
    (subst (IsStrictFrom (config c) st.StartField) (sym (append_assoc (field_text (writer c) y) (fields_text (writer c) ys) (10 ∷ tail)))
    (field_strict c y (fields_text (writer c) ys ++ (10 ∷ tail)) (rest_strict c ys tail a h))))

-- a byte that ends no line starts a record as it starts a field
start_record : (c b : ℕ) (zs : List ℕ) → (b == 13) ≡ false → (b == 10) ≡ false → IsStrictFrom (config c) st.StartField (b ∷ zs)
    → IsStrictFrom (config c) st.StartRecord (b ∷ zs)
unfolding IsStrictFrom
start_record c b zs r n h = let next = rw (r, n) at h.1 in (rw (r, n) refl, rw (r, n) next)

-- fields that show a byte, with the end of their line
ended_strict : (c : ℕ) (first : List ℕ) (ts : List (List ℕ)) (tail : List ℕ) (b : ℕ) (zs : List ℕ)
    → first ++ fields_text (writer c) ts ≡ b ∷ zs
    → IsStrictFrom (config c) st.StartRecord (first ++ (fields_text (writer c) ts ++ (10 ∷ tail)))
    → IsStrictFrom (config c) st.StartRecord (with_end (first ++ fields_text (writer c) ts) ++ tail)
ended_strict c first ts tail b zs e h =
    let body = first ++ fields_text (writer c) ts in
    let some : (length body == 0) ≡ false = ap (λ (z : List ℕ). length z == 0) e ∙ some_byte (length zs) in
    let whole : with_end body ++ tail ≡ first ++ (fields_text (writer c) ts ++ (10 ∷ tail)) =
    rw some (append_assoc body (10 ∷ []) tail) ∙ append_assoc first (fields_text (writer c) ts) (10 ∷ tail) in
    subst (IsStrictFrom (config c) st.StartRecord) (sym whole) h

-- a record whose first field is in quotes
pub marked_strict : (c : ℕ) (x : List ℕ) (ts : List (List ℕ)) (tail : List ℕ) → IsApart c → IsStrictFrom (config c) st.StartRecord tail
    → IsStrictFrom (config c) st.StartRecord (with_end (quoted (writer c) x ++ fields_text (writer c) ts) ++ tail)
marked_strict c x ts tail a h =
    ended_strict c (quoted (writer c) x) ts tail 34 _ refl
    (quoted_field c st.StartRecord x (fields_text (writer c) ts ++ (10 ∷ tail)) refl refl (rest_strict c ts tail a h))

-- and one whose first field is in no quotes
plain_record : (c : ℕ) (t : List ℕ) (ts : List (List ℕ)) (tail : List ℕ) → list_any (needs_byte (writer c)) t ≡ false → IsApart c
    → IsStrictFrom (config c) st.StartRecord tail
    → IsStrictFrom (config c) st.StartRecord (with_end (t ++ fields_text (writer c) ts) ++ tail)
plain_record c [] [] tail e a h =
    rw (no_field c) (one c st.StartRecord 34 (34 ∷ 10 ∷ tail) st.InQuoted refl refl
    (one c st.InQuoted 34 (10 ∷ tail) st.AfterQuote refl refl (after_line c tail a h).quoted))
plain_record c [] (u ∷ us) tail e a h =
    let more = field_text (writer c) u ++ fields_text (writer c) us in
    ended_strict c [] (u ∷ us) tail c more (next_field c u us)
    (rw (next_field c u us) (start_record c c (more ++ (10 ∷ tail)) a.carriage_return a.line_feed
    (rw (next_field c u us) at (rest_strict c (u ∷ us) tail a h).start)))
plain_record c (b ∷ t) ts tail e a h =
    let q = plain_byte c b (or_left _ _ e) in
    ended_strict c (b ∷ t) ts tail b (t ++ fields_text (writer c) ts) refl
    (start_record c b (t ++ (fields_text (writer c) ts ++ (10 ∷ tail))) q.2 q.3
    (plain_field c (b ∷ t) (fields_text (writer c) ts ++ (10 ∷ tail)) e (rest_strict c ts tail a h)))

-- the fields of a record with its end
pub fields_strict : (c : ℕ) (t : List ℕ) (ts : List (List ℕ)) (tail : List ℕ) → IsApart c → IsStrictFrom (config c) st.StartRecord tail
    → IsStrictFrom (config c) st.StartRecord (with_end (field_text (writer c) t ++ fields_text (writer c) ts) ++ tail)
fields_strict c t ts tail a h = elim (cases_Bool (list_any (needs_byte (writer c)) t)) [
  | inl needs ↦ rw needs (marked_strict c t ts tail a h)
  | inr plain ↦ rw plain (plain_record c t ts tail plain a h)
]

-- a record of texts, of which there is one at least
pub record_strict : (c : ℕ) (t : List ℕ) (ts : List (List ℕ)) (tail : List ℕ) → IsApart c → IsStrictFrom (config c) st.StartRecord tail
    → IsStrictFrom (config c) st.StartRecord (row_text (writer c) (t ∷ ts) ++ tail)
record_strict c t ts tail a h =
    let body = field_text (writer c) t ++ fields_text (writer c) ts in
    let e : row_text (writer c) (t ∷ ts) ≡ with_end body = rw (blank_is c (t ∷ ts)) (sym (end_of (length body == 0) [] body)) in
    subst (λ (z : List ℕ). IsStrictFrom (config c) st.StartRecord (z ++ tail)) (sym e) (fields_strict c t ts tail a h)
