-- Values noted column by column.
use Rattle.std.proofs.Common.{◌≡◌, ◌∙◌, refl, sym, ap, subst, ℕ, zero, suc, ◌+◌, ◌<◌, ◌≤◌, Bool, true, false, cond, ℤ, List, [], ◌∷◌, ◌++◌}
use Rattle.std.proofs.Common.{length, map, drop, get_or, int_eq, true≢false, arith}
use Rattle.std.proofs.Math.ListN.{drop_of_length-le}
use Rattle.std.proofs.Common.{Some, inl, inr, set}
use Rattle.std.proofs.lemmas.Bool.{cases_eq}
use Rattle.std.specs.Prelude.{◌||◌, slice_get}
use Rattle.std.specs.List.{AllByRecursion, list_any}
use Rattle.std.proofs.lemmas.Bool.Decides.{Decides-int_eq}
use Rattle.ipc_model.specs.contracts.value.ValueEq.TheImpl.Laws.{laws-law}
use Rattle.ipc_model.specs.declared.schema.Field.{Field}
use Rattle.ipc_model.specs.declared.value.Value.{Value}
use Rattle.ipc_model.specs.declared.value.Value.TheVariants.{Null}
use Rattle.ipc_encode.specs.Cells.{cell, cells}
use Rattle.ipc_dict.specs.declared.entry.TallyEntry.{TallyEntry}
use Rattle.ipc_dict.specs.ColumnNotes.{AllKnown, AreNoted, AreOthers, HasOtherDictionaries, is_known}
use Rattle.ipc_dict.specs.Distinct.{is_among, same, with_distinct}
use Rattle.ipc_dict.specs.Noting.{note_all, note_entry, note_one}
use Rattle.ipc_dict.specs.Pairs.{Pairs, Walk, each_pairs, items_pairs, pairs, rows_pairs}
use Rattle.ipc_dict.proofs.Notes.{note_all-append}
use Rattle.ipc_dict.proofs.Walks.{each-step}

-- ---- values that are known

-- among more values one is still seen
seen_more : (v : Value) (xs ys : List Value) → list_any (same v) xs ≡ true → list_any (same v) (xs ++ ys) ≡ true
seen_more v [] ys h = absurd (cc)
seen_more v (x ∷ xs) ys h = by (seen_more v xs ys) (same v x) h
  where
    by : (list_any (same v) xs ≡ true → list_any (same v) (xs ++ ys) ≡ true) → (b : Bool) → (b || list_any (same v) xs) ≡ true
        → (b || list_any (same v) (xs ++ ys)) ≡ true
    by more true h = refl
    by more false h = more h

-- the last is seen
seen_last : (v : Value) (xs : List Value) → list_any (same v) (xs ++ v ∷ []) ≡ true
seen_last v [] = ap (λ (b : Bool). b || false) (laws-law.refl v)
seen_last v (x ∷ xs) = by (seen_last v xs) (same v x)
  where
    by : list_any (same v) (xs ++ v ∷ []) ≡ true → (b : Bool) → (b || list_any (same v) (xs ++ v ∷ [])) ≡ true
    by last true = refl
    by last false = last

seen_kept : (v w : Value) (xs : List Value) → is_among xs v ≡ true → is_among (with_distinct xs w) v ≡ true
seen_kept v w xs h = by (is_among xs w)
  where
    by : (b : Bool) → is_among (cond b xs (xs ++ w ∷ [])) v ≡ true
    by true = h
    by false = seen_more v xs (w ∷ []) h

seen_now : (v : Value) (xs : List Value) → is_among (with_distinct xs v) v ≡ true
seen_now v xs = by (is_among xs v) refl
  where
    by : (b : Bool) → is_among xs v ≡ b → is_among (cond b xs (xs ++ v ∷ [])) v ≡ true
    by true h = h
    by false h = seen_last v xs

-- one that is known changes nothing
known_same : (t : List TallyEntry) (id : ℤ) (v : Value) → is_known t id v ≡ true → note_one t id v ≡ t
known_same [] id v h = refl
known_same (e ∷ es) id v h = by (known_same es id v) (int_eq e.id id) h
  where
    by : (is_known es id v ≡ true → note_one es id v ≡ es) → (b : Bool) → cond b (is_among e.values v) (is_known es id v) ≡ true
        → cond b (note_entry v e ∷ es) (e ∷ note_one es id v) ≡ e ∷ es
    by rest true h = ap (λ (b : Bool). record e { values = cond b e.values (e.values ++ v ∷ []) } ∷ es) h
    by rest false h = ap (λ (l : List TallyEntry). e ∷ l) (rest h)

-- it stays known
known_kept : (t : List TallyEntry) (id j : ℤ) (v w : Value) → is_known t id v ≡ true → is_known (note_one t j w) id v ≡ true
known_kept [] id j v w h = refl
known_kept (e ∷ es) id j v w h = out (int_eq e.id j) ∙ by (known_kept es id j v w) (int_eq e.id j) (int_eq e.id id) h
  where
    -- the test of an entry, whichever of the two it is
    out : (b : Bool) → is_known (cond b (note_entry w e ∷ es) (e ∷ note_one es j w)) id v
        ≡ cond b (cond (int_eq e.id id) (is_among (with_distinct e.values w) v) (is_known es id v))
        (cond (int_eq e.id id) (is_among e.values v) (is_known (note_one es j w) id v))
    out true = refl
    out false = refl

    by : (is_known es id v ≡ true → is_known (note_one es j w) id v ≡ true) → (b c : Bool)
        → cond c (is_among e.values v) (is_known es id v) ≡ true
        → cond b (cond c (is_among (with_distinct e.values w) v) (is_known es id v))
        (cond c (is_among e.values v) (is_known (note_one es j w) id v))
        ≡ true
    by rest true true h = seen_kept v w e.values h
    by rest true false h = h
    by rest false true h = h
    by rest false false h = rest h

-- once it is noted it is known
known_now : (t : List TallyEntry) (id : ℤ) (v : Value) → is_known (note_one t id v) id v ≡ true
known_now [] id v = refl
known_now (e ∷ es) id v = by (known_now es id v) (int_eq e.id id) refl
  where
    by : is_known (note_one es id v) id v ≡ true → (b : Bool) → int_eq e.id id ≡ b
        → is_known (cond b (note_entry v e ∷ es) (e ∷ note_one es id v)) id v ≡ true
    by rest true is = ap (λ (c : Bool). cond c (is_among (with_distinct e.values v) v) (is_known es id v)) is ∙ seen_now v e.values
    by rest false is = ap (λ (c : Bool). cond c (is_among e.values v) (is_known (note_one es id v) id v)) is ∙ rest

-- ---- several values

-- those that are known change nothing
pub all_known_same : (t : List TallyEntry) (ps : Pairs) → AllKnown t ps → note_all t ps ≡ t
all_known_same t [] h = refl
all_known_same t (p ∷ ps) h = ap (λ (u : List TallyEntry). note_all u ps) (known_same t p.0 p.1 h.0) ∙ all_known_same t ps h.1

known_after : (t : List TallyEntry) (id : ℤ) (v : Value) (qs : Pairs) → is_known t id v ≡ true → is_known (note_all t qs) id v ≡ true
known_after t id v [] h = h
known_after t id v (q ∷ qs) h = known_after (note_one t q.0 q.1) id v qs (known_kept t id q.0 v q.1 h)

-- they stay known
pub all_known_kept : (t : List TallyEntry) (ps qs : Pairs) → AllKnown t ps → AllKnown (note_all t qs) ps
all_known_kept t [] qs h = tt
all_known_kept t (p ∷ ps) qs h = (known_after t p.0 p.1 qs h.0, all_known_kept t ps qs h.1)

-- and are once they were noted
pub all_known_now : (t : List TallyEntry) (ps : Pairs) → AllKnown (note_all t ps) ps
all_known_now t [] = tt
all_known_now t (p ∷ ps) = (
  known_after (note_one t p.0 p.1) p.0 p.1 ps (known_now t p.0 p.1),
  all_known_now (note_one t p.0 p.1) ps,
)

-- ---- values of different dictionaries

-- no entry has both ids
both_ids : (x a b : ℤ) → int_eq a b ≡ false → int_eq x a ≡ true → int_eq x b ≡ true → ⊥
both_ids x a b other one two =
    true≢false (sym ((Decides-int_eq a b).1 (sym ((Decides-int_eq x a).0 one) ∙ (Decides-int_eq x b).0 two)) ∙ other)

swap_one : (t : List TallyEntry) (a b : ℤ) (v w : Value) → int_eq a b ≡ false
    → note_one (note_one t a v) b w ≡ note_one (note_one t b w) a v
swap_one [] a b v w other = refl
swap_one (e ∷ es) a b v w other = by (swap_one es a b v w other) (int_eq e.id a) (int_eq e.id b) refl refl
  where
    by : note_one (note_one es a v) b w ≡ note_one (note_one es b w) a v → (c d : Bool) → int_eq e.id a ≡ c → int_eq e.id b ≡ d
        → note_one (cond c (note_entry v e ∷ es) (e ∷ note_one es a v)) b w
        ≡ note_one (cond d (note_entry w e ∷ es) (e ∷ note_one es b w)) a v
    by rest true true one two = absurd (both_ids e.id a b other one two)
    by rest true false one two =
        ap (λ (d : Bool). cond d (note_entry w (note_entry v e) ∷ es) (note_entry v e ∷ note_one es b w)) two
        ∙ sym (ap (λ (c : Bool). cond c (note_entry v e ∷ note_one es b w) (e ∷ note_one (note_one es b w) a v)) one)
    by rest false true one two =
        ap (λ (d : Bool). cond d (note_entry w e ∷ note_one es a v) (e ∷ note_one (note_one es a v) b w)) two
        ∙ sym (ap (λ (c : Bool). cond c (note_entry v (note_entry w e) ∷ es) (note_entry w e ∷ note_one es a v)) one)
    by rest false false one two =
        ap (λ (d : Bool). cond d (note_entry w e ∷ note_one es a v) (e ∷ note_one (note_one es a v) b w)) two
        ∙ (ap (λ (l : List TallyEntry). e ∷ l) rest
        ∙ sym (ap (λ (c : Bool). cond c (note_entry v e ∷ note_one es b w) (e ∷ note_one (note_one es b w) a v)) one))

swap_rest : (t : List TallyEntry) (a : ℤ) (v : Value) (qs : Pairs) → AllByRecursion (λ q. int_eq a q.0 ≡ false) qs
    → note_all (note_one t a v) qs ≡ note_one (note_all t qs) a v
swap_rest t a v [] h = refl
swap_rest t a v (q ∷ qs) h =
    ap (λ (u : List TallyEntry). note_all u qs) (swap_one t a q.0 v q.1 h.0) ∙ swap_rest (note_one t q.0 q.1) a v qs h.1

-- they are noted in either order
swap_all : (t : List TallyEntry) (ps qs : Pairs) → AreOthers ps qs → note_all (note_all t ps) qs ≡ note_all (note_all t qs) ps
swap_all t [] qs h = refl
swap_all t (p ∷ ps) qs h =
    swap_all (note_one t p.0 p.1) ps qs h.1 ∙ ap (λ (u : List TallyEntry). note_all u ps) (swap_rest t p.0 p.1 qs h.0)

others_append : (ps qs rs : Pairs) → AreOthers ps rs → AreOthers qs rs → AreOthers (ps ++ qs) rs
others_append [] qs rs h k = k
others_append (p ∷ ps) qs rs h k = (h.0, others_append ps qs rs h.1 k)

all_both : (id : ℤ) (qs rs : Pairs) → AllByRecursion (λ q. int_eq id q.0 ≡ false) qs → AllByRecursion (λ q. int_eq id q.0 ≡ false) rs
    → AllByRecursion (λ q. int_eq id q.0 ≡ false) (qs ++ rs)
all_both id [] rs h k = k
all_both id (q ∷ qs) rs h k = (h.0, all_both id qs rs h.1 k)

others_both : (ps qs rs : Pairs) → AreOthers ps qs → AreOthers ps rs → AreOthers ps (qs ++ rs)
others_both [] qs rs h k = tt
others_both (p ∷ ps) qs rs h k = (all_both p.0 qs rs h.0 k.0, others_both ps qs rs h.1 k.1)

others_none : (ps : Pairs) → AreOthers ps []
others_none [] = tt
others_none (p ∷ ps) = (tt, others_none ps)

-- a field is apart from others where it is from each
pub apart_from : (f : Field) (fs : List Field)
    → ((k : ℕ) → k < length fs → (g : Field) (v w : Value) → AreOthers (pairs f v) (pairs (get_or fs k g) w)) → HasOtherDictionaries f fs
apart_from f [] h v row = others_none (pairs f v)
apart_from f (g ∷ fs) h v [] = others_none (pairs f v)
apart_from f (g ∷ fs) h v (w ∷ row) =
    others_both (pairs f v) (pairs g w) (each_pairs (map pairs fs) row) (h zero (omega arith) g v w)
    (apart_from f fs (λ k l. h (suc k) (omega (arith, l))) v row)

-- ---- columns

-- what the fields from one on give of rows
abbrev pub pairs_from : List Field → ℕ → List (List Value) → Pairs
pairs_from fs i [] = []
pairs_from fs i (row ∷ rows) = each_pairs (map pairs (drop i fs)) (drop i row) ++ pairs_from fs i rows

pub from_first : (fs : List Field) (rows : List (List Value)) → pairs_from fs 0 rows ≡ rows_pairs fs rows
from_first fs [] = refl
from_first fs (row ∷ rows) = ap (λ (ps : Pairs). each_pairs (map pairs fs) row ++ ps) (from_first fs rows)

pub from_last : (fs : List Field) (i : ℕ) (rows : List (List Value)) → length fs ≤ i → pairs_from fs i rows ≡ []
from_last fs i [] h = refl
from_last fs i (row ∷ rows) h = rw (drop_of_length-le fs h) (from_last fs i rows h)

-- the cells of a column that are apart from all that is behind them in their rows
column_apart : (f : Field) (fs : List Field) (vs : List Value) (row : List Value) → HasOtherDictionaries f fs
    → AreOthers (items_pairs (pairs f) vs) (each_pairs (map pairs fs) row)
column_apart f fs [] row h = tt
column_apart f fs (v ∷ vs) row h =
    others_append (pairs f v) (items_pairs (pairs f) vs) (each_pairs (map pairs fs) row) (h v row) (column_apart f fs vs row h)

-- a value of a list, whatever stands past its end
pub own_value : (vs : List Value) (k : ℕ) → k < length vs → get_or vs k Null ≡ get_or vs k (get_or vs k Null)
own_value [] k l = absurd (omega arith)
own_value (x ∷ vs) zero l = refl
own_value (x ∷ vs) (suc k) l = own_value vs k (omega (arith, l))

-- one column is noted first
pub column_first : (t : List TallyEntry) (fs : List Field) (i n : ℕ) (f : Field) (rows : List (List Value)) → i < length fs → i < n
    → f ≡ get_or fs i f → AllByRecursion (λ row. length row ≡ n) rows → HasOtherDictionaries f (drop (i + 1) fs)
    → note_all (note_all t (items_pairs (pairs f) (cells i rows))) (pairs_from fs (i + 1) rows) ≡ note_all t (pairs_from fs i rows)
column_first t fs i n f [] l m at wide apart = refl
column_first t fs i n f (row ∷ rows) l m at wide apart =
    let v = cell i row in
    let own = pairs f v in
    let rest = each_pairs (map pairs (drop (i + 1) fs)) (drop (i + 1) row) in
    let more = items_pairs (pairs f) (cells i rows) in
    let left = pairs_from fs (i + 1) rows in
    let size = wide.0 in
    let inside : i < length row = omega (arith, size, m) in
    let split : each_pairs (map pairs (drop i fs)) (drop i row)
    ≡ own ++ rest = each-step fs row i f v l inside at (own_value row i inside) in
    let later = column_first (note_all (note_all t own) rest) fs i n f rows l m at wide.1 apart in
    note_all-append (note_all t (own ++ more)) rest left
    ∙ (ap (λ (u : List TallyEntry). note_all (note_all u rest) left) (note_all-append t own more)
    ∙ (ap (λ (u : List TallyEntry). note_all u left)
    (swap_all (note_all t own) more rest (column_apart f (drop (i + 1) fs) (cells i rows) (drop (i + 1) row) apart))
    ∙ (later
    ∙ (ap (λ (u : List TallyEntry). note_all u (pairs_from fs i rows)) (sym (note_all-append t own rest))
    ∙ (sym (note_all-append t (own ++ rest) (pairs_from fs i rows))
    ∙ ap (λ (ps : Pairs). note_all t (ps ++ pairs_from fs i rows)) (sym split))))))

-- ---- what is marked

-- another mark is as before
other_mark : (ms : List Bool) (i j : ℕ) (b : Bool) → (j ≡ i → ⊥) → slice_get (set ms i b) j ≡ slice_get ms j
other_mark [] i j b other = refl
other_mark (m ∷ ms) zero zero b other = absurd (other refl)
other_mark (m ∷ ms) zero (suc j) b other = refl
other_mark (m ∷ ms) (suc i) zero b other = refl
other_mark (m ∷ ms) (suc i) (suc j) b other = other_mark ms i j b (λ e. other (omega (arith, e)))

-- it stays known
pub noted_kept : (t u : List TallyEntry) (f : Field) (d : List Value) (ms : List Bool) (ps : Pairs) → u ≡ note_all t ps → AreNoted t f d ms
    → AreNoted u f d ms
noted_kept t u f d ms ps now h i v marked is =
    subst (λ (x : List TallyEntry). AllKnown x (pairs f v)) (sym now) (all_known_kept t (pairs f v) ps (h i v marked is))

-- one that was noted is marked
pub noted_next : (t u : List TallyEntry) (f : Field) (d : List Value) (ms : List Bool) (entry : ℕ) (value : Value)
    → u ≡ note_all t (pairs f value) → slice_get d entry ≡ Some value → AreNoted t f d ms → AreNoted u f d (set ms entry true)
noted_next t u f d ms entry value now at h i v marked is =
    elim (cases_eq i entry) as (λ _. AllKnown u (pairs f v)) [
      | inl same ↦ let one : Some v ≡ Some value = sym is ∙ (ap (slice_get d) same ∙ at) in
          let own : v ≡ value = cc in
          subst (λ (x : List TallyEntry). AllKnown x (pairs f v)) (sym now)
          (subst (λ (x : Value). AllKnown (note_all t (pairs f value)) (pairs f x)) (sym own) (all_known_now t (pairs f value)))
      | inr other ↦ noted_kept t u f d ms (pairs f value) now h i v (sym (other_mark ms entry i true other) ∙ marked) is
    ]

-- values that give nothing
pub none_give : (w : Walk) (vs : List Value) → ((v : Value) → w v ≡ []) → items_pairs w vs ≡ []
none_give w [] h = refl
none_give w (v ∷ vs) h = rw (h v) (none_give w vs h)
