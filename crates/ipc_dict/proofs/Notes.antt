-- One more value among the dictionaries of a tally.
use Rattle.std.proofs.Common.{◌≡◌, ℕ, zero, suc, ◌<◌, ◌≤◌, inl, inr, ℤ, true, false, ◌++◌, List, [], ◌∷◌, length, take, get_or, set, cond}
use Rattle.std.proofs.Common.{refl, sym, ap, subst, ◌∙◌, arith, Result, Ok, Err, OnOk, IfOk}
use Rattle.std.specs.Ordering.{int_eq}
use Rattle.std.proofs.lemmas.List.{length-append, length-take, take-take}
use Rattle.ipc_dict.specs.SchemaIds.{tally_bounds}
use Rattle.std.proofs.Math.Seq.{take-length}
use Rattle.ipc_model.specs.declared.value.Value.{Value}
use Rattle.ipc_dict.specs.declared.entry.TallyEntry.{TallyEntry}
use Rattle.ipc_dict.specs.Distinct.{with_distinct, is_among}
use Rattle.ipc_dict.specs.Noting.{note_entry, note_one, note_all, AllFit, IsIndexOverflow, GrowsEntry, AllGrow, tally_lengths}
use Rattle.ipc_dict.specs.Noting.{truncated_tally}

module _ (id : ℤ) (v : Value) where
  -- where the dictionary with the id stands first, its entry alone changes
  pub set-note_one : (t : List TallyEntry) (i : ℕ) (x : TallyEntry) → i < length t → int_eq (get_or t i x).id id ≡ true
      → ((k : ℕ) → k < i → int_eq (get_or t k x).id id ≡ false) → x ≡ get_or t i x → set t i (note_entry v x) ≡ note_one t id v
  set-note_one [] i x h at before same = absurd (omega arith)
  set-note_one (e ∷ es) zero x h at before same =
      ap (λ y. note_entry v y ∷ es) same ∙ sym (ap (λ b. cond b (note_entry v e ∷ es) (e ∷ note_one es id v)) at)
  set-note_one (e ∷ es) (suc i) x h at before same =
      let rest = set-note_one es i x (omega arith) at (λ k l. before (suc k) (omega arith)) same in
      ap (λ l. e ∷ l) rest ∙ sym (ap (λ b. cond b (note_entry v e ∷ es) (e ∷ note_one es id v)) (before zero (omega arith)))

  -- where none has it, nothing changes
  pub absent-note_one : (t : List TallyEntry) → ((k : ℕ) (d : TallyEntry) → k < length t → int_eq (get_or t k d).id id ≡ false)
      → note_one t id v ≡ t
  absent-note_one [] none = refl
  absent-note_one (e ∷ es) none =
      ap (λ b. cond b (note_entry v e ∷ es) (e ∷ note_one es id v)) (none zero e (omega arith))
      ∙ ap (λ l. e ∷ l) (absent-note_one es (λ k d l. none (suc k) d (omega arith)))

-- ---- an entry that grows

pub grow-same : (e : TallyEntry) → GrowsEntry e e
grow-same e = record { id = refl; limit = refl; front = take-length e.values }

pub all_grow_same : (t : List TallyEntry) → AllGrow t t
all_grow_same [] = tt
all_grow_same (e ∷ es) = (grow-same e, all_grow_same es)

pub all_grow-set : (t : List TallyEntry) (i : ℕ) (x y : TallyEntry) → x ≡ get_or t i x → GrowsEntry x y → AllGrow t (set t i y)
all_grow-set [] i x y same h = tt
all_grow-set (e ∷ es) zero x y same h = (subst (λ z. GrowsEntry z y) same h, all_grow_same es)
all_grow-set (e ∷ es) (suc i) x y same h = (grow-same e, all_grow-set es i x y same h)

pub all_fit-set : (t : List TallyEntry) (i : ℕ) (x y : TallyEntry) → x ≡ get_or t i x
    → (length x.values ≤ x.limit → length y.values ≤ y.limit) → AllFit t → AllFit (set t i y)
all_fit-set [] i x y same h fit = tt
all_fit-set (e ∷ es) zero x y same h fit = (subst (λ z. length z.values ≤ z.limit → length y.values ≤ y.limit) same h fit.0, fit.1)
all_fit-set (e ∷ es) (suc i) x y same h fit = (fit.0, all_fit-set es i x y same h fit.1)

pub full-set : (t : List TallyEntry) (i : ℕ) (y : TallyEntry) → i < length t → y.limit < length y.values → IsIndexOverflow (set t i y)
full-set [] i y h over = absurd (omega arith)
full-set (e ∷ es) zero y h over = inl over
full-set (e ∷ es) (suc i) y h over = inr (full-set es i y (omega arith) over)

-- ---- what a call answers

pub on_ok : {T E P Q : Type 0} (r : Result T E) → OnOk r P → (P → Q) → OnOk r Q
on_ok (Ok x) h f = f h
on_ok (Err e) h f = tt

pub if_ok : {T E : Type 0} {P Q : T → Type 0} (r : Result T E) → IfOk r P → ((x : T) → P x → Q x) → IfOk r Q
if_ok (Ok x) h f = f x h
if_ok (Err e) h f = tt

-- ---- several values

pub note_all-append : (t : List TallyEntry) (ps qs : List (ℤ × Value)) → note_all t (ps ++ qs) ≡ note_all (note_all t ps) qs
note_all-append t [] qs = refl
note_all-append t (p ∷ ps) qs = note_all-append (note_one t p.0 p.1) ps qs

pub grow-trans : (a b c : TallyEntry) → GrowsEntry a b → GrowsEntry b c → GrowsEntry a c
grow-trans a b c h k =
    let i = length a.values in
    let j = length b.values in
    let short : i ≤ j = omega (arith, length-take i b.values, ap length h.front) in
    record {
      id = k.id ∙ h.id;
      limit = k.limit ∙ h.limit;
      front = sym (take-take i j c.values short) ∙ ap (take i) k.front ∙ h.front;
    }

pub all_grow_trans : (t u w : List TallyEntry) → AllGrow t u → AllGrow u w → AllGrow t w
all_grow_trans [] [] [] h k = tt
all_grow_trans (a ∷ t) (b ∷ u) (c ∷ w) h k = (grow-trans a b c h.0 k.0, all_grow_trans t u w h.1 k.1)
all_grow_trans [] [] (c ∷ w) h k = absurd k
all_grow_trans [] (b ∷ u) w h k = absurd h
all_grow_trans (a ∷ t) [] w h k = absurd h
all_grow_trans (a ∷ t) (b ∷ u) [] h k = absurd k

pub length-seen : (xs : List Value) (v : Value) → length xs ≤ length (with_distinct xs v)
length-seen xs v =
    elim (is_among xs v) as (λ b. length xs ≤ length (cond b xs (xs ++ v ∷ [])))
    [ true ↦ omega arith | false ↦ omega (arith, length-append xs (v ∷ [])) ]

pub full-note_one : (t : List TallyEntry) (id : ℤ) (v : Value) → IsIndexOverflow t → IsIndexOverflow (note_one t id v)
full-note_one [] id v h = h
full-note_one (e ∷ es) id v h =
    elim (int_eq e.id id) as (λ b. IsIndexOverflow (cond b (note_entry v e ∷ es) (e ∷ note_one es id v))) [
      | true ↦ elim h [ inl over ↦ inl (omega (arith, length-seen e.values v)) | inr rest ↦ inr rest ]
      | false ↦ elim h [ inl over ↦ inl over | inr rest ↦ inr (full-note_one es id v rest) ]
    ]

-- what has too many values once keeps them
pub full-note_all : (t : List TallyEntry) (ps : List (ℤ × Value)) → IsIndexOverflow t → IsIndexOverflow (note_all t ps)
full-note_all t [] h = h
full-note_all t (p ∷ ps) h = full-note_all (note_one t p.0 p.1) ps (full-note_one t p.0 p.1 h)

pub full-append : (t : List TallyEntry) (ps qs : List (ℤ × Value)) → IsIndexOverflow (note_all t ps)
    → IsIndexOverflow (note_all t (ps ++ qs))
full-append t ps qs h = subst IsIndexOverflow (sym (note_all-append t ps qs)) (full-note_all (note_all t ps) qs h)

-- what grew is as before once it is cut
pub cut_back : (t u : List TallyEntry) → AllGrow t u → truncated_tally (tally_lengths t) u ≡ t
cut_back [] [] h = refl
cut_back [] (f ∷ fs) h = absurd h
cut_back (e ∷ es) [] h = absurd h
cut_back (e ∷ es) (f ∷ fs) h =
    let rest = cut_back es fs h.1 in
    λ i. record { id = h.0.id i; limit = h.0.limit i; values = h.0.front i } ∷ rest i

pub cut_all : (t : List TallyEntry) → truncated_tally (tally_lengths t) t ≡ t
cut_all [] = refl
cut_all (e ∷ es) =
    let rest = cut_all es in
    let whole = take-length e.values in
    λ i. record { id = e.id; limit = e.limit; values = whole i } ∷ rest i

-- what grew by nothing is as before
pub grown_by_none : (t u : List TallyEntry) → AllGrow t u → tally_lengths u ≡ tally_lengths t → u ≡ t
grown_by_none t u grows same = sym (cut_all u) ∙ ap (λ ns. truncated_tally ns u) same ∙ cut_back t u grows

-- ---- entries that are cut

-- a second cut changes nothing
pub cut_twice : (ms : List ℕ) (t : List TallyEntry) → truncated_tally ms (truncated_tally ms t) ≡ truncated_tally ms t
cut_twice [] t = refl
cut_twice (m ∷ ms) [] = refl
cut_twice (m ∷ ms) (e ∷ es) =
    let rest = cut_twice ms es in
    let again : take m (take m e.values) ≡ take m e.values = take-take m m e.values (omega arith) in
    λ i. record { id = e.id; limit = e.limit; values = again i } ∷ rest i

pub cut_bounds : (ms : List ℕ) (t : List TallyEntry) → tally_bounds (truncated_tally ms t) ≡ tally_bounds t
cut_bounds [] t = refl
cut_bounds (m ∷ ms) [] = refl
cut_bounds (m ∷ ms) (e ∷ es) = ap (λ l. (e.id, e.limit) ∷ l) (cut_bounds ms es)

pub cut_fits : (ms : List ℕ) (t : List TallyEntry) → AllFit t → AllFit (truncated_tally ms t)
cut_fits [] t h = h
cut_fits (m ∷ ms) [] h = tt
cut_fits (m ∷ ms) (e ∷ es) h = (omega (arith, length-take m e.values, h.0), cut_fits ms es h.1)

pub cut_length : (ms : List ℕ) (t : List TallyEntry) → length (truncated_tally ms t) ≡ length t
cut_length [] t = refl
cut_length (m ∷ ms) [] = refl
cut_length (m ∷ ms) (e ∷ es) = ap (λ (n : ℕ). suc n) (cut_length ms es)

pub cut_nothing : (ms : List ℕ) → truncated_tally ms [] ≡ []
cut_nothing [] = refl
cut_nothing (m ∷ ms) = refl

-- ---- without entries

-- nothing is noted
pub none_noted : (ps : List (ℤ × Value)) → note_all [] ps ≡ []
none_noted [] = refl
none_noted (p ∷ ps) = none_noted ps
