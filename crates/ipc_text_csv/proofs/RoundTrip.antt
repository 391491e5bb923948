-- What is written with a delimiter is read back with it, as `read-write` of the crate `csv` states it of the comma.
use Rattle.std.proofs.Common.{◌≡◌, ◌==◌, ◌++◌, ◌∷◌, ◌∙◌, [], ℕ, List, Bool, Some}
use Rattle.std.proofs.Common.{refl, sym, ap, subst, true, false, append_assoc, inl, inr, length}
use Rattle.std.specs.Prelude.{◌||◌, ◌⊎◌}
use Rattle.std.specs.List.{list_any}
use Rattle.std.proofs.lemmas.List.{append-nil}
use Rattle.std.proofs.lemmas.Bool.{cases_Bool, eqb-true}
use Rattle.csv.specs.Machine.{next_record}
use Rattle.csv.specs.Reading.{default_config}
use Rattle.csv.specs.Writing.{default_writer, escaped, field_text, fields_text, needs_byte, quoted, with_delimiter}
use Rattle.csv.specs.declared.parser.Config.{Config}
use Rattle.csv.specs.declared.parser.State.TheVariants as st
use Rattle.csv.specs.declared.writer.WriterBuilder.{WriterBuilder}

abbrev pub config : ℕ → Config
config c = record default_config { delimiter = c }

abbrev writes : ℕ → WriterBuilder
writes c = with_delimiter default_writer c

pub or_left : (a b : Bool) → (a || b) ≡ false → a ≡ false
or_left false b e = refl
or_left true b e = cc e

pub or_right : (a b : Bool) → (a || b) ≡ false → b ≡ false
or_right false b e = e
or_right true b e = cc e

not_true : (x : Bool) → (x ≡ true → ⊥) → x ≡ false
not_true true n = absurd (n refl)
not_true false n = refl

-- a byte that calls for no quotes is no mark of the format
pub plain_byte : (c b : ℕ) → needs_byte (writes c) b ≡ false
    → ((b == c) ≡ false) × ((b == 34) ≡ false) × ((b == 13) ≡ false) × ((b == 10) ≡ false)
plain_byte c b e =
    let a = not_true (b == c) (λ t. cc (rw t at e)) in
    let q = not_true (b == 34) (λ t. cc (rw (a, t) at e)) in
    let r = not_true (b == 13) (λ t. cc (rw (a, q, t) at e)) in
    let n = not_true (b == 10) (λ t. cc (rw (a, q, r, t) at e)) in
    (a, q, r, n)

-- the bytes of a field with no mark in them
plain_run : (c : ℕ) (fields : List (List ℕ)) (field x tail : List ℕ) → list_any (needs_byte (writes c)) x ≡ false
    → next_record (config c) st.InField fields field (x ++ tail) ≡ next_record (config c) st.InField fields (field ++ x) tail
unfolding next_record
plain_run c fields field [] tail e = rw (append-nil field) refl
plain_run c fields field (b ∷ rest) tail e =
    let q = plain_byte c b (or_left _ _ e) in
    rw (q.0, q.2, q.3) (plain_run c fields (field ++ (b ∷ [])) rest tail (or_right _ _ e)
    ∙ ap (λ (f : List ℕ). next_record (config c) st.InField fields f tail) (append_assoc field (b ∷ []) rest))

-- a byte that is no quote, between quotes
quoted_plain : (c : ℕ) (fields : List (List ℕ)) (field : List ℕ) (b : ℕ) (tail : List ℕ) → (b == 34) ≡ false
    → next_record (config c) st.InQuoted fields field (b ∷ tail) ≡ next_record (config c) st.InQuoted fields (field ++ (b ∷ [])) tail
unfolding next_record
quoted_plain c fields field b tail n = rw n refl

pub escaped_plain : (c b : ℕ) (rest : List ℕ) → (b == 34) ≡ false → escaped (writes c) (b ∷ rest) ≡ b ∷ escaped (writes c) rest
unfolding escaped
escaped_plain c b rest n = rw n refl

-- the bytes of a field between quotes, and the quote that ends them
quoted_run : (c : ℕ) (fields : List (List ℕ)) (field x tail : List ℕ)
    → next_record (config c) st.InQuoted fields field (escaped (writes c) x ++ (34 ∷ tail))
    ≡ next_record (config c) st.AfterQuote fields (field ++ x) tail
unfolding next_record escaped
quoted_run c fields field [] tail = rw (append-nil field) refl
quoted_run c fields field (b ∷ rest) tail = elim (cases_Bool (b == 34)) [
  | inl same ↦
      subst (λ (z : ℕ). next_record (config c) st.InQuoted fields field (escaped (writes c) (z ∷ rest) ++ (34 ∷ tail))
      ≡ next_record (config c) st.AfterQuote fields (field ++ (z ∷ rest)) tail) (sym (eqb-true b 34 same))
      (quoted_run c fields (field ++ (34 ∷ [])) rest tail
      ∙ ap (λ (f : List ℕ). next_record (config c) st.AfterQuote fields f tail) (append_assoc field (34 ∷ []) rest))
  | inr other ↦
      rw (escaped_plain c b rest other) (quoted_plain c fields field b _ other
      ∙ quoted_run c fields (field ++ (b ∷ [])) rest tail
      ∙ ap (λ (f : List ℕ). next_record (config c) st.AfterQuote fields f tail) (append_assoc field (b ∷ []) rest))
]

-- a byte that is no quote does the same after a quote, at the start of a field and in one
after_quote_same : (c : ℕ) (fields : List (List ℕ)) (field : List ℕ) (e : ℕ) (tail : List ℕ) → (e == 34) ≡ false
    → next_record (config c) st.AfterQuote fields field (e ∷ tail) ≡ next_record (config c) st.InField fields field (e ∷ tail)
unfolding next_record
after_quote_same c fields field e tail n = rw n refl

start_same : (c : ℕ) (fields : List (List ℕ)) (field : List ℕ) (e : ℕ) (tail : List ℕ) → (e == 34) ≡ false
    → next_record (config c) st.StartField fields field (e ∷ tail) ≡ next_record (config c) st.InField fields field (e ∷ tail)
unfolding next_record
start_same c fields field e tail n = rw n refl

-- a byte that ends no record starts one as it starts a field
record_same : (c : ℕ) (fields : List (List ℕ)) (field : List ℕ) (e : ℕ) (tail : List ℕ) → (e == 13) ≡ false → (e == 10) ≡ false
    → next_record (config c) st.StartRecord fields field (e ∷ tail) ≡ next_record (config c) st.StartField fields field (e ∷ tail)
unfolding next_record
record_same c fields field e tail r n = rw (r, n) refl

-- a field with no mark in it, from its start
plain_start : (c : ℕ) (fields : List (List ℕ)) (x : List ℕ) (e : ℕ) (tail : List ℕ) → (e == 34) ≡ false
    → list_any (needs_byte (writes c)) x ≡ false
    → next_record (config c) st.StartField fields [] (x ++ (e ∷ tail)) ≡ next_record (config c) st.InField fields x (e ∷ tail)
plain_start c fields [] e tail n p = start_same c fields [] e tail n
plain_start c fields (b ∷ rest) e tail n p =
    let q = plain_byte c b (or_left _ _ p) in
    start_same c fields [] b (rest ++ (e ∷ tail)) q.1 ∙ plain_run c fields [] (b ∷ rest) (e ∷ tail) p

start_quote : (c : ℕ) (fields : List (List ℕ)) (tail : List ℕ)
    → next_record (config c) st.StartField fields [] (34 ∷ tail) ≡ next_record (config c) st.InQuoted fields [] tail
unfolding next_record
start_quote c fields tail = refl

-- a field in quotes, with what comes after it
pub quoted_field : (c : ℕ) (fields : List (List ℕ)) (x : List ℕ) (e : ℕ) (tail : List ℕ) → (e == 34) ≡ false
    → next_record (config c) st.StartField fields [] (quoted (writes c) x ++ (e ∷ tail))
    ≡ next_record (config c) st.InField fields x (e ∷ tail)
quoted_field c fields x e tail n =
    let text : quoted (writes c) x ++ (e ∷ tail) ≡ 34 ∷ (escaped (writes c) x ++ (34 ∷ e ∷ tail)) =
    ap (λ (t : List ℕ). 34 ∷ t) (append_assoc (escaped (writes c) x) (34 ∷ []) (e ∷ tail)) in
    ap (next_record (config c) st.StartField fields []) text ∙ start_quote c fields (escaped (writes c) x ++ (34 ∷ e ∷ tail))
    ∙ quoted_run c fields [] x (e ∷ tail) ∙ after_quote_same c fields x e tail n

-- a field with what comes after it, which starts with no quote
pub field_run : (c : ℕ) (fields : List (List ℕ)) (x : List ℕ) (e : ℕ) (tail : List ℕ) → (e == 34) ≡ false
    → next_record (config c) st.StartField fields [] (field_text (writes c) x ++ (e ∷ tail))
    ≡ next_record (config c) st.InField fields x (e ∷ tail)
field_run c fields x e tail n = elim (cases_Bool (list_any (needs_byte (writes c)) x)) [
  | inl needs ↦ rw needs (quoted_field c fields x e tail n)
  | inr plain ↦ rw plain (plain_start c fields x e tail n plain)
]

-- a delimiter is no mark of a record or of quotes
pub record IsApart (c : ℕ) : Type 0 where
  pub itself : (c == c) ≡ true
  pub quote : (c == 34) ≡ false
  pub carriage_return : (c == 13) ≡ false
  pub line_feed : (c == 10) ≡ false
  pub from_line_feed : (10 == c) ≡ false

-- the delimiter ends the field, and a line feed the record
end_field : (c : ℕ) (fields : List (List ℕ)) (x u : List ℕ) → IsApart c
    → next_record (config c) st.InField fields x (c ∷ u) ≡ next_record (config c) st.StartField (fields ++ (x ∷ [])) [] u
unfolding next_record
end_field c fields x u a = rw a.itself refl

end_record : (c : ℕ) (fields : List (List ℕ)) (x u : List ℕ) → IsApart c
    → next_record (config c) st.InField fields x (10 ∷ u) ≡ Some (fields ++ (x ∷ []), st.StartRecord, u)
unfolding next_record
end_record c fields x u a = rw a.from_line_feed refl

-- what comes after a field starts with no quote
abbrev pub head_of : ℕ → List (List ℕ) → ℕ
head_of c [] = 10
head_of c (z ∷ zs) = c

abbrev pub tail_of : ℕ → List (List ℕ) → List ℕ → List ℕ
tail_of c [] tail = tail
tail_of c (z ∷ zs) tail = (field_text (writes c) z ++ fields_text (writes c) zs) ++ (10 ∷ tail)

pub text_head : (c : ℕ) (ys : List (List ℕ)) (tail : List ℕ) → fields_text (writes c) ys ++ (10 ∷ tail) ≡ head_of c ys ∷ tail_of c ys tail
unfolding fields_text
text_head c [] tail = refl
text_head c (z ∷ zs) tail = refl

pub head_plain : (c : ℕ) (ys : List (List ℕ)) → IsApart c → (head_of c ys == 34) ≡ false
head_plain c [] a = refl
head_plain c (z ∷ zs) a = a.quote

-- the rest of a record, after a field
pub rest_run : (c : ℕ) (fields : List (List ℕ)) (x : List ℕ) (rest : List (List ℕ)) (tail : List ℕ) → IsApart c
    → next_record (config c) st.InField fields x (fields_text (writes c) rest ++ (10 ∷ tail))
    ≡ Some (fields ++ (x ∷ rest), st.StartRecord, tail)
unfolding fields_text
rest_run c fields x [] tail a = end_record c fields x tail a
rest_run c fields x (y ∷ ys) tail a =
    let e = text_head c ys tail in
    let u : (field_text (writes c) y ++ fields_text (writes c) ys) ++ (10 ∷ tail)
    ≡ field_text (writes c) y ++ (head_of c ys ∷ tail_of c ys tail) =
    append_assoc (field_text (writes c) y) (fields_text (writes c) ys) (10 ∷ tail) ∙ ap (λ (t : List ℕ). field_text (writes c) y ++ t) e in
    let run = field_run c (fields ++ (x ∷ [])) y (head_of c ys) (tail_of c ys tail) (head_plain c ys a) in
    let more = rest_run c (fields ++ (x ∷ [])) y ys tail a in
    let back = subst (λ (t : List ℕ). next_record (config c) st.InField (fields ++ (x ∷ [])) y t
    ≡ Some ((fields ++ (x ∷ [])) ++ (y ∷ ys), st.StartRecord, tail)) e more in
    end_field c fields x _ a ∙ ap (next_record (config c) st.StartField (fields ++ (x ∷ [])) []) u ∙ run ∙ back
    ∙ ap (λ fs. Some (fs, st.StartRecord, tail)) (append_assoc fields (x ∷ []) (y ∷ ys))

-- a record's text starts as a field's does, unless it is blank
pub starts_field : (c : ℕ) (x : List ℕ) (e : ℕ) (tail : List ℕ) → list_any (needs_byte (writes c)) x ≡ false
    → ((length x == 0) ≡ false) ⊎ (((e == 13) ≡ false) × ((e == 10) ≡ false))
    → next_record (config c) st.StartRecord [] [] (x ++ (e ∷ tail)) ≡ next_record (config c) st.StartField [] [] (x ++ (e ∷ tail))
starts_field c [] e tail p (inl n) = cc n
starts_field c [] e tail p (inr n) = record_same c [] [] e tail n.0 n.1
starts_field c (b ∷ rest) e tail p h =
    let q = plain_byte c b (or_left _ _ p) in record_same c [] [] b (rest ++ (e ∷ tail)) q.2 q.3

pub starts_quoted : (c : ℕ) (x : List ℕ) (tail : List ℕ)
    → next_record (config c) st.StartRecord [] [] (quoted (writes c) x ++ tail)
    ≡ next_record (config c) st.StartField [] [] (quoted (writes c) x ++ tail)
starts_quoted c x tail = record_same c [] [] 34 _ refl refl
