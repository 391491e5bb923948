-- A header and records read back as what was written.
use Rattle.std.proofs.Common.{◌≡◌, ◌∙◌, ◌==◌, ℕ, true, false, List, [], ◌∷◌, ◌++◌, length}
use Rattle.std.proofs.Common.{append-nil, Option, Some, None, Result, Ok, Err, refl, sym, ap, subst, inl, inr, arith, append_assoc}
use Rattle.std.specs.Prelude.{◌⊎◌}
use Rattle.std.specs.List.{AllByRecursion, list_any}
use Rattle.std.proofs.lemmas.Bool.{cases_Bool, eqb-true}
use Rattle.std.proofs.lemmas.Bool.Decides.{nat_tests}
use Rattle.csv.specs.Machine.{next_record}
use Rattle.csv.specs.Reading.{Reached, strip_bom}
use Rattle.csv.specs.Writing.{escaped, field_text, fields_text, needs_byte, quoted, row_text}
use Rattle.csv.specs.declared.parser.State.TheVariants as st
use Rattle.ipc_model.specs.declared.schema.Field.{Field, out-Field}
use Rattle.ipc_model.specs.declared.value.Value.{Value}
use Rattle.ipc_text_csv.specs.CsvRows.{EachTyped, EachReadsAs, RecordReadsAs}
use Rattle.ipc_text_csv.specs.Dialects.{writer, is_delimiter}
use Rattle.ipc_text_csv.specs.ReadBack.{AreWritten, TextComesBack}
use Rattle.ipc_text_csv.specs.Records.{EachRecordReadsAs}
use Rattle.ipc_text_csv.specs.RowCsv.{begins_with_mark, flat_fault, names, names_text}
use Rattle.ipc_text_csv.specs.RowCsv.{record_of, row_csv, row_texts, unless_fault, with_end}
use Rattle.ipc_text_csv.specs.declared.dialect.Dialect.{Dialect}
use Rattle.ipc_text_temporal.specs.declared.fault.TextFault.{TextFault}
use Rattle.ipc_text_csv.specs.Records.{text_of}
use Rattle.ipc_text_csv.specs.StrictForm.{IsStrictFrom}
use Rattle.ipc_text_csv.proofs.CsvBack.{each_back}
use Rattle.ipc_text_csv.proofs.StrictText.{fields_strict, marked_strict, record_strict}
use Rattle.ipc_text_csv.proofs.Records.{blank_is, end_of, longer, next_field, no_field, some_byte}
use Rattle.ipc_text_csv.proofs.RoundTrip.{IsApart, config, field_run, head_of, head_plain}
use Rattle.ipc_text_csv.proofs.RoundTrip.{quoted_field, rest_run, starts_field, starts_quoted, tail_of, text_head}

apart_bytes : (c : ℕ) → is_delimiter c ≡ true → IsApart c
apart_bytes c e = record {
  itself = grind (arith, nat_tests);
  quote = grind (arith, nat_tests);
  carriage_return = grind (arith, nat_tests);
  line_feed = grind (arith, nat_tests);
  from_line_feed = grind (arith, nat_tests);
}

-- a delimiter is no mark of a record or of quotes
apart : (d : Dialect) → IsApart d.delimiter
apart d = apart_bytes d.delimiter d.allowed.apart

-- a record of one field that is written as no byte
blank_back : (c : ℕ) (tail : List ℕ) → IsApart c
    → next_record (config c) st.StartRecord [] [] (34 ∷ 34 ∷ 10 ∷ tail) ≡ Some ([] ∷ [], st.StartRecord, tail)
unfolding next_record
blank_back c tail a = rw a.from_line_feed refl

-- where a first field was read, the fields after it complete the record
finish : (c : ℕ) (text t : List ℕ) (ts : List (List ℕ)) (tail : List ℕ) → IsApart c
    → next_record (config c) st.StartRecord [] [] (text ++ (head_of c ts ∷ tail_of c ts tail))
    ≡ next_record (config c) st.InField [] t (head_of c ts ∷ tail_of c ts tail)
    → next_record (config c) st.StartRecord [] [] (text ++ (fields_text (writer c) ts ++ 10 ∷ tail)) ≡ Some (t ∷ ts, st.StartRecord, tail)
finish c text t ts tail a first =
    let e = text_head c ts tail in
    ap (λ (z : List ℕ). next_record (config c) st.StartRecord [] [] (text ++ z)) e ∙ first
    ∙ sym (ap (λ (z : List ℕ). next_record (config c) st.InField [] t z) e) ∙ rest_run c [] t ts tail a

-- a record's text starts as its first field's, unless it is blank
starts : (c : ℕ) (t : List ℕ) (e : ℕ) (tail : List ℕ)
    → ((length (field_text (writer c) t) == 0) ≡ false) ⊎ (((e == 13) ≡ false) × ((e == 10) ≡ false))
    → next_record (config c) st.StartRecord [] [] (field_text (writer c) t ++ (e ∷ tail))
    ≡ next_record (config c) st.StartField [] [] (field_text (writer c) t ++ (e ∷ tail))
starts c t e tail h = elim (cases_Bool (list_any (needs_byte (writer c)) t)) [
  | inl needs ↦ rw needs (starts_quoted c t (e ∷ tail))
  | inr plain ↦ rw plain (starts_field c t e tail plain (rw plain at h))
]

-- the end of fields that show a byte
ending : (body tail : List ℕ) → (length body == 0) ≡ false → with_end body ++ tail ≡ body ++ 10 ∷ tail
ending body tail some = rw some (append_assoc body (10 ∷ []) tail)

empty_text : (xs : List ℕ) → (length xs == 0) ≡ true → xs ≡ []
empty_text [] e = refl
empty_text (x ∷ xs) e = absurd (let no = some_byte (length xs) in cc)

-- a field that is written as nothing is empty
empty_field : (c : ℕ) (t : List ℕ) → (length (field_text (writer c) t) == 0) ≡ true → t ≡ []
empty_field c t e = elim (cases_Bool (list_any (needs_byte (writer c)) t)) [
  | inl needs ↦
      let q : (length (quoted (writer c) t) == 0) ≡ true = rw needs at e in
      absurd (let no = some_byte (length (escaped (writer c) t ++ 34 ∷ [])) in cc)
  | inr plain ↦ empty_text t (rw plain at e)
]

-- the fields of a record with its end read as the texts
fields_back : (c : ℕ) (t : List ℕ) (ts : List (List ℕ)) (tail : List ℕ) → IsApart c
    → next_record (config c) st.StartRecord [] [] (with_end (field_text (writer c) t ++ fields_text (writer c) ts) ++ tail)
    ≡ Some (t ∷ ts, st.StartRecord, tail)
fields_back c t [] tail a = elim (cases_Bool (length (field_text (writer c) t) == 0)) [
  | inl none ↦
      let e : field_text (writer c) t ++ fields_text (writer c) [] ≡ [] =
      ap (λ (z : List ℕ). z ++ fields_text (writer c) []) (empty_text (field_text (writer c) t) none) ∙ no_field c in
      ap (λ (z : List ℕ). next_record (config c) st.StartRecord [] [] (with_end z ++ tail)) e ∙ blank_back c tail a
      ∙ ap (λ (z : List ℕ). Some (z ∷ [], st.StartRecord, tail)) (sym (empty_field c t none))
  | inr some ↦
      let e : field_text (writer c) t ++ fields_text (writer c) [] ≡ field_text (writer c) t =
      ap (λ (z : List ℕ). field_text (writer c) t ++ z) (no_field c) ∙ append-nil (field_text (writer c) t) in
      let body : (length (field_text (writer c) t ++ fields_text (writer c) []) == 0) ≡ false =
      ap (λ (z : List ℕ). length z == 0) e ∙ some in
      ap (next_record (config c) st.StartRecord [] [])
      (ending _ tail body ∙ append_assoc (field_text (writer c) t) (fields_text (writer c) []) (10 ∷ tail))
      ∙ finish c (field_text (writer c) t) t [] tail a (starts c t 10 tail (inl some) ∙ field_run c [] t 10 tail refl)
]
fields_back c t (u ∷ us) tail a =
    let e : field_text (writer c) t ++ fields_text (writer c) (u ∷ us)
    ≡ field_text (writer c) t ++ c ∷ (field_text (writer c) u ++ fields_text (writer c) us) =
    ap (λ (z : List ℕ). field_text (writer c) t ++ z) (next_field c u us) in
    let body : (length (field_text (writer c) t ++ fields_text (writer c) (u ∷ us)) == 0) ≡ false =
    ap (λ (z : List ℕ). length z == 0) e ∙ longer (field_text (writer c) t) (field_text (writer c) u ++ fields_text (writer c) us) c in
    ap (next_record (config c) st.StartRecord [] [])
    (ending _ tail body ∙ append_assoc (field_text (writer c) t) (fields_text (writer c) (u ∷ us)) (10 ∷ tail))
    ∙ finish c (field_text (writer c) t) t (u ∷ us) tail a
    (starts c t c (tail_of c (u ∷ us) tail) (inr (a.carriage_return, a.line_feed)) ∙ field_run c [] t c (tail_of c (u ∷ us) tail) a.quote)

-- a record reads as its texts, of which there is one at least
record_back : (c : ℕ) (t : List ℕ) (ts : List (List ℕ)) (tail : List ℕ) → IsApart c
    → next_record (config c) st.StartRecord [] [] (row_text (writer c) (t ∷ ts) ++ tail) ≡ Some (t ∷ ts, st.StartRecord, tail)
record_back c t ts tail a =
    let body = field_text (writer c) t ++ fields_text (writer c) ts in
    let e : row_text (writer c) (t ∷ ts) ≡ with_end body = rw (blank_is c (t ∷ ts)) (sym (end_of (length body == 0) [] body)) in
    ap (λ (z : List ℕ). next_record (config c) st.StartRecord [] [] (z ++ tail)) e ∙ fields_back c t ts tail a

-- a header whose first name is in quotes for its byte order mark
marked_back : (c : ℕ) (name : List ℕ) (more : List (List ℕ)) (tail : List ℕ) → IsApart c
    → next_record (config c) st.StartRecord [] [] (with_end (quoted (writer c) name ++ fields_text (writer c) more) ++ tail)
    ≡ Some (name ∷ more, st.StartRecord, tail)
marked_back c name more tail a =
    ap (next_record (config c) st.StartRecord [] []) (ending (quoted (writer c) name ++ fields_text (writer c) more) tail (some_byte _)
    ∙ append_assoc (quoted (writer c) name) (fields_text (writer c) more) (10 ∷ tail))
    ∙ finish c (quoted (writer c) name) name more tail a
    (starts_quoted c name (head_of c more ∷ tail_of c more tail)
    ∙ quoted_field c [] name (head_of c more) (tail_of c more tail) (head_plain c more a))

-- an input keeps its first bytes unless they are the byte order mark
keep_first : (a : ℕ) (xs : List ℕ) → (a == 0xEF) ≡ false → strip_bom (a ∷ xs) ≡ a ∷ xs
unfolding strip_bom
keep_first a [] e = refl
keep_first a (b ∷ []) e = refl
keep_first a (b ∷ c ∷ xs) e = rw e refl

keep_second : (a b : ℕ) (xs : List ℕ) → (b == 0xBB) ≡ false → strip_bom (a ∷ b ∷ xs) ≡ a ∷ b ∷ xs
unfolding strip_bom
keep_second a b [] e = refl
keep_second a b (c ∷ xs) e = elim (cases_Bool (a == 0xEF)) [ inl same ↦ rw (same, e) refl | inr other ↦ rw other refl ]

keep_third : (a b c : ℕ) (xs : List ℕ) → (c == 0xBF) ≡ false → strip_bom (a ∷ b ∷ c ∷ xs) ≡ a ∷ b ∷ c ∷ xs
unfolding strip_bom
keep_third a b c xs e = elim (cases_Bool (a == 0xEF)) [
  | inl same ↦ elim (cases_Bool (b == 0xBB)) [ inl also ↦ rw (same, also, e) refl | inr other ↦ rw (same, other) refl ]
  | inr other ↦ rw other refl
]

mark_is : (a b c : ℕ) (xs : List ℕ) → (a == 0xEF) ≡ true → (b == 0xBB) ≡ true → (c == 0xBF) ≡ true → begins_with_mark (a ∷ b ∷ c ∷ xs)
    ≡ true
mark_is a b c xs p q r = rw (eqb-true a 0xEF p, eqb-true b 0xBB q, eqb-true c 0xBF r) refl

keep_all : (a b c : ℕ) (xs : List ℕ) → begins_with_mark (a ∷ b ∷ c ∷ xs) ≡ false → strip_bom (a ∷ b ∷ c ∷ xs) ≡ a ∷ b ∷ c ∷ xs
keep_all a b c xs e = elim (cases_Bool (a == 0xEF)) [
  | inl p ↦ elim (cases_Bool (b == 0xBB)) [
    | inl q ↦ elim (cases_Bool (c == 0xBF)) [
      | inl r ↦ absurd (let t = mark_is a b c xs p q r in cc)
      | inr other ↦ keep_third a b c xs other
    ]
    | inr other ↦ keep_second a b (c ∷ xs) other
  ]
  | inr other ↦ keep_first a (b ∷ c ∷ xs) other
]

-- a text of a byte and more keeps its first bytes where they do before its end
kept : (a : ℕ) (xs tail : List ℕ) → strip_bom ((a ∷ xs) ++ 10 ∷ tail) ≡ (a ∷ xs) ++ 10 ∷ tail
    → strip_bom (with_end (a ∷ xs) ++ tail) ≡ with_end (a ∷ xs) ++ tail
kept a xs tail h = let e = ending (a ∷ xs) tail (some_byte (length xs)) in ap strip_bom e ∙ h ∙ sym e

low_bytes : (c : ℕ) → is_delimiter c ≡ true → ((c == 0xEF) ≡ false) × ((c == 0xBB) ≡ false) × ((c == 0xBF) ≡ false)
low_bytes c e = (grind (arith, nat_tests), grind (arith, nat_tests), grind (arith, nat_tests))

-- no mark is dropped of names in no quotes
unquoted_whole : (c : ℕ) (name : List ℕ) (more : List (List ℕ)) (tail : List ℕ) → is_delimiter c ≡ true → begins_with_mark name ≡ false
    → strip_bom (with_end (name ++ fields_text (writer c) more) ++ tail) ≡ with_end (name ++ fields_text (writer c) more) ++ tail
unquoted_whole c [] [] tail is plain = rw (no_field c) (keep_first 34 (34 ∷ 10 ∷ tail) refl)
unquoted_whole c [] (u ∷ us) tail is plain =
    let more = field_text (writer c) u ++ fields_text (writer c) us in
    rw (next_field c u us) (kept c more tail (keep_first c (more ++ 10 ∷ tail) (low_bytes c is).0))
unquoted_whole c (a ∷ []) [] tail is plain = rw (no_field c) (kept a [] tail (keep_second a 10 tail refl))
unquoted_whole c (a ∷ []) (u ∷ us) tail is plain =
    let more = field_text (writer c) u ++ fields_text (writer c) us in
    rw (next_field c u us) (kept a (c ∷ more) tail (keep_second a c (more ++ 10 ∷ tail) (low_bytes c is).1))
unquoted_whole c (a ∷ b ∷ []) [] tail is plain = rw (no_field c) (kept a (b ∷ []) tail (keep_third a b 10 tail refl))
unquoted_whole c (a ∷ b ∷ []) (u ∷ us) tail is plain =
    let more = field_text (writer c) u ++ fields_text (writer c) us in
    rw (next_field c u us) (kept a (b ∷ c ∷ more) tail (keep_third a b c (more ++ 10 ∷ tail) (low_bytes c is).2))
unquoted_whole c (a ∷ b ∷ e ∷ rest) more tail is plain =
    let rest_all = rest ++ fields_text (writer c) more in
    kept a (b ∷ e ∷ rest_all) tail (keep_all a b e (rest_all ++ 10 ∷ tail) plain)

plain_whole : (d : Dialect) (name : List ℕ) (more : List (List ℕ)) (tail : List ℕ) → begins_with_mark name ≡ false
    → strip_bom (with_end (field_text (writer d.delimiter) name ++ fields_text (writer d.delimiter) more) ++ tail)
    ≡ with_end (field_text (writer d.delimiter) name ++ fields_text (writer d.delimiter) more) ++ tail
plain_whole d name more tail plain = elim (cases_Bool (list_any (needs_byte (writer d.delimiter)) name)) [
  | inl needs ↦ rw needs (keep_first 34 _ refl)
  | inr other ↦ rw other (unquoted_whole d.delimiter name more tail d.allowed.apart plain)
]

-- a header reads as the names
header_back : (d : Dialect) (name : List ℕ) (more : List (List ℕ)) (tail : List ℕ)
    → next_record (config d.delimiter) st.StartRecord [] [] (with_end (names_text d (name ∷ more)) ++ tail)
    ≡ Some (name ∷ more, st.StartRecord, tail)
header_back d name more tail = elim (cases_Bool (begins_with_mark name)) [
  | inl mark ↦ rw mark (marked_back d.delimiter name more tail (apart d))
  | inr plain ↦ rw plain (fields_back d.delimiter name more tail (apart d))
]

-- a header is in strict form
header_strict : (d : Dialect) (name : List ℕ) (more : List (List ℕ)) (tail : List ℕ) → IsStrictFrom (config d.delimiter) st.StartRecord tail
    → IsStrictFrom (config d.delimiter) st.StartRecord (with_end (names_text d (name ∷ more)) ++ tail)
header_strict d name more tail h = elim (cases_Bool (begins_with_mark name)) [
  | inl mark ↦ rw mark (marked_strict d.delimiter name more tail (apart d) h)
  | inr plain ↦ rw plain (fields_strict d.delimiter name more tail (apart d) h)
]

-- no byte order mark is dropped of a header
header_whole : (d : Dialect) (name : List ℕ) (more : List (List ℕ)) (tail : List ℕ)
    → strip_bom (with_end (names_text d (name ∷ more)) ++ tail) ≡ with_end (names_text d (name ∷ more)) ++ tail
header_whole d name more tail = elim (cases_Bool (begins_with_mark name)) [
  | inl mark ↦ rw mark (keep_first 34 _ refl)
  | inr plain ↦ rw plain (plain_whole d name more tail plain)
]

right : {A : Type 0} {a b : A} → ◌≡◌ {A = Result A TextFault} (Ok a) (Ok b) → a ≡ b
right e = cc

without_fault : {A : Type 0} → (o : Option TextFault) (r : Result A TextFault) (x : A) → unless_fault o r ≡ Ok x → (o ≡ None) × (r ≡ Ok x)
without_fault None r x e = (refl, e)
without_fault (Some fault) r x e = absurd cc

of_texts : (d : Dialect) (r : Result (List (List ℕ)) TextFault) (line : List ℕ) → record_of d r ≡ Ok line
    → (texts : List (List ℕ)) × (r ≡ Ok texts) × (row_text (writer d.delimiter) texts ≡ line)
of_texts d (Ok texts) line e = (texts, refl, right e)
of_texts d (Err fault) line e = absurd cc

-- a line is in strict form where the text after it is
abbrev IsStrictAfter : ℕ → List ℕ → List ℕ → Type 0
IsStrictAfter c line tail = IsStrictFrom (config c) st.StartRecord tail → IsStrictFrom (config c) st.StartRecord (line ++ tail)

some_texts : (d : Dialect) (f : Field) (fs : List Field) (row : List Value) (line tail : List ℕ) (texts : List (List ℕ))
    → flat_fault (f ∷ fs) ≡ None → EachReadsAs d (f ∷ fs) texts row → row_text (writer d.delimiter) texts ≡ line
    → (texts : List (List ℕ)) × (next_record (config d.delimiter) st.StartRecord [] [] (line ++ tail) ≡ Some (texts, st.StartRecord, tail))
    × RecordReadsAs d (f ∷ fs) texts row × IsStrictAfter d.delimiter line tail
some_texts d f fs row line tail [] flat reads e = absurd reads
some_texts d f fs row line tail (t ∷ ts) flat reads e = (
  t ∷ ts,
  ap (λ (z : List ℕ). next_record (config d.delimiter) st.StartRecord [] [] (z ++ tail)) (sym e)
      ∙ record_back d.delimiter t ts tail (apart d),
  (flat, reads),
  λ h. subst (λ (z : List ℕ). IsStrictFrom (config d.delimiter) st.StartRecord (z ++ tail)) e
      (record_strict d.delimiter t ts tail (apart d) h),
)

-- a row's record reads as the row
row_back : (d : Dialect) (f : Field) (fs : List Field) (row : List Value) (line tail : List ℕ) → EachTyped (f ∷ fs) row
    → row_csv d (f ∷ fs) row ≡ Ok line
    → (texts : List (List ℕ)) × (next_record (config d.delimiter) st.StartRecord [] [] (line ++ tail) ≡ Some (texts, st.StartRecord, tail))
    × RecordReadsAs d (f ∷ fs) texts row × IsStrictAfter d.delimiter line tail
row_back d f fs row line tail typed e =
    let flat = without_fault (flat_fault (f ∷ fs)) (record_of d (row_texts d (f ∷ fs) row)) line e in
    let has = of_texts d (row_texts d (f ∷ fs) row) line flat.1 in
    some_texts d f fs row line tail has.0 flat.0 (each_back d 0 (f ∷ fs) has.0 row typed has.1) has.2

rows_back : (d : Dialect) (f : Field) (fs : List Field) (rows : List (List Value)) (text : List ℕ)
    → AllByRecursion (EachTyped (f ∷ fs)) rows
    → AreWritten d (f ∷ fs) rows text
    → (records : List (List (List ℕ))) × Reached (config d.delimiter) st.StartRecord text records st.StartRecord []
    × EachRecordReadsAs d (f ∷ fs) records rows × IsStrictFrom (config d.delimiter) st.StartRecord text
unfolding Reached IsStrictFrom
rows_back d f fs [] text typed none = ([], (refl, none), tt, rw none refl)
rows_back d f fs (row ∷ rows) text typed (line, more, has, is, written) =
    let one = row_back d f fs row line more typed.0 has in
    let all = rows_back d f fs rows more typed.1 written in
    let first = ap (next_record (config d.delimiter) st.StartRecord [] []) is ∙ one.1 in
    (one.0 ∷ all.0, ((one.0, st.StartRecord, more), first, refl, all.1), (one.2, all.2), rw is (one.3 all.3))

nothing_left : (c : ℕ) → next_record (config c) st.StartRecord [] [] [] ≡ None
unfolding next_record
nothing_left c = refl

reached_one : (c : ℕ) (xs mid : List ℕ) (r : List (List ℕ)) (rs : List (List (List ℕ)))
    → next_record (config c) st.StartRecord [] [] xs ≡ Some (r, st.StartRecord, mid)
    → Reached (config c) st.StartRecord mid rs st.StartRecord [] → Reached (config c) st.StartRecord xs (r ∷ rs) st.StartRecord []
unfolding Reached
reached_one c xs mid r rs one more = ((r, st.StartRecord, mid), one, refl, more)

pub comes_back : TextComesBack
comes_back d [] rows header text head typed written = absurd cc
comes_back d (f ∷ fs) rows header text head typed written =
    let e = right (without_fault (flat_fault (f ∷ fs)) _ header head).1 in
    let all = rows_back d f fs rows text typed written in
    let name = (out-Field f).name in
    let all_text = with_end (names_text d (name ∷ names fs)) ++ text in
    let same : header ++ text ≡ all_text = ap (λ (z : List ℕ). z ++ text) (sym e) in
    let whole : text_of d (header ++ text) ≡ all_text = elim (cases_Bool d.strict) [
      | inl strict ↦ rw strict same
      | inr lenient ↦ rw lenient (ap strip_bom same ∙ header_whole d name (names fs) text)
    ] in (
      all.0,
      (
        (
          st.StartRecord,
          [],
          reached_one d.delimiter _ text (name ∷ names fs) all.0
              (ap (next_record (config d.delimiter) st.StartRecord [] []) whole ∙ header_back d name (names fs) text) all.1,
          nothing_left d.delimiter,
        ),
        λ strict. subst (IsStrictFrom (config d.delimiter) st.StartRecord) (sym same) (header_strict d name (names fs) text all.3),
      ),
      all.2,
    )
