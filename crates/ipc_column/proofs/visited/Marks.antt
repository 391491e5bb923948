-- What parts store of the texts and indices in them is right, and what follows from it.
use Rattle.std.proofs.Common.{◌≡◌, ◌∙◌, refl, sym, ap, subst, ℕ, zero, suc, ◌+◌, ◌-◌, ◌*◌, ◌<◌, ◌≤◌, Bool, true, false, List, [], ◌∷◌, ◌++◌}
use Rattle.std.proofs.Common.{length, map, get_or, arith, inl, inr}
use Rattle.std.specs.Prelude.{◌||◌, ◌&&◌, not, slice_set}
use Rattle.std.proofs.lemmas.Bool.{false≢true, and_parts, and_from, cases_order}
use Rattle.ipc_model.specs.declared.layout.Layout.{Layout}
use Rattle.ipc_model.specs.declared.layout.Layout.TheVariants as l
use Rattle.ipc_model.specs.Layouts.{needs_slot_checks, is_texts}
use Rattle.ipc_model.specs.declared.schema.IntBits.{IntBits}
use Rattle.ipc_model.specs.declared.fault.Fault.{Fault}
use Rattle.ipc_column.specs.declared.ranges.ColumnRanges.{ColumnRanges}
use Rattle.ipc_column.specs.declared.ranges.ColumnRanges.TheOpen.{ColumnRanges-F}
use Rattle.ipc_column.specs.declared.ranges.ColumnRanges.TheViews.{out-ColumnRanges, roll-ColumnRanges, out-roll-ColumnRanges}
use Rattle.ipc_column.specs.declared.ranges.ColumnRanges.TheFolds.{fold_out-ColumnRanges, fold-roll-ColumnRanges, map-ColumnRanges}
use Rattle.ipc_column.specs.declared.ranges.ColumnRanges.TheFolds.{ind-ColumnRanges}
use Rattle.ipc_column.specs.checks.Checks.{all_slots, good, index_good, passes, range_good, text_good}
use Rattle.ipc_column.specs.Columns.{Column, Columns, column, every, none}
use Rattle.ipc_column.specs.Lent.{AreSlots}
use Rattle.ipc_column.specs.checks.Marks.{Mark, mark, mark_step, each_valid, all_right, all_valid, own_of, is_same, IsMarked, AreMarked}
use Rattle.ipc_column.specs.checks.Rules.{have_slot_checks}
use Rattle.ipc_column.specs.Values.{is_valid, offset_position}
use Rattle.ipc_column.specs.Views.{part_columns, column_of, children_of, one, part_step}
use Rattle.ipc_column.proofs.Below.{below_at, below_from}
use Rattle.ipc_column.proofs.visited.Goods.{good_first}
use Rattle.ipc_column.proofs.lending.Slots.{part_most, slots_first}
use Rattle.ipc_column.proofs.visited.Visited.{layout_is, judged_is, list_slots, fixed_slots, struct_slots, range_is, enough_part}
use Rattle.ipc_column.proofs.visited.Visited.{texts_pass_part, indices_pass_part}
use Rattle.ipc_column.proofs.Parts.{own_column}

-- ---- one part

-- what makes a part right, by its fields
abbrev right_of : List ℕ → ColumnRanges-F ColumnRanges → Bool
right_of body z = (not (needs_slot_checks z.layout && z.known_valid) || all_valid z.layout (own_of body z))
    && ((needs_slot_checks z.layout || is_same z.known_valid (each_valid (map (mark body) z.children.items)))
    && all_right (map (mark body) z.children.items))

right_out : (body : List ℕ) (p : ColumnRanges) → (mark body p).right ≡ right_of body (out-ColumnRanges p)
right_out body p = ap (λ (k : Mark). k.right) (fold_out-ColumnRanges Mark (mark_step body) p)

valid_out : (body : List ℕ) (p : ColumnRanges) → (mark body p).valid ≡ (out-ColumnRanges p).known_valid
valid_out body p = ap (λ (k : Mark). k.valid) (fold_out-ColumnRanges Mark (mark_step body) p)

same_is : (a b : Bool) → is_same a b ≡ true → a ≡ b
same_is true b h = sym h
same_is false true h = absurd (false≢true h)
same_is false false h = refl

same_from : (a b : Bool) → a ≡ b → is_same a b ≡ true
same_from true b e = sym e
same_from false true e = absurd (false≢true e)
same_from false false e = refl

-- the parts below a marked one are marked
pub marked_below : (body : List ℕ) (p : ColumnRanges) → IsMarked body p → AreMarked body (out-ColumnRanges p).children.items
marked_below body p h = (and_parts _ _ (and_parts _ _ (sym (right_out body p) ∙ h)).1).1

-- texts or indices that are said to be valid are
own_valid : (body : List ℕ) (p : ColumnRanges) → IsMarked body p → needs_slot_checks (out-ColumnRanges p).layout ≡ true
    → (out-ColumnRanges p).known_valid ≡ true → all_valid (out-ColumnRanges p).layout (own_column body p) ≡ true
own_valid body p h j v = picked _ _ _ j v (and_parts _ _ (sym (right_out body p) ∙ h)).0
  where
    picked : (a b c : Bool) → a ≡ true → b ≡ true → (not (a && b) || c) ≡ true → c ≡ true
    picked a b c j v h = rw (j, v) at h

-- another part says what its children say
children_valid : (body : List ℕ) (p : ColumnRanges) → IsMarked body p → needs_slot_checks (out-ColumnRanges p).layout ≡ false
    → (out-ColumnRanges p).known_valid ≡ each_valid (map (mark body) (out-ColumnRanges p).children.items)
children_valid body p h j = same_is _ _ (picked _ _ j (and_parts _ _ (and_parts _ _ (sym (right_out body p) ∙ h)).1).0)
  where
    picked : (a b : Bool) → a ≡ false → (a || b) ≡ true → b ≡ true
    picked a b j h = rw j at h

-- a part of marked children is marked where what it says is right
pub marked_from : (body : List ℕ) (z : ColumnRanges-F ColumnRanges) → AreMarked body z.children.items
    → (needs_slot_checks z.layout ≡ true → z.known_valid ≡ true → all_valid z.layout (own_of body z) ≡ true)
    → (needs_slot_checks z.layout ≡ false → z.known_valid ≡ each_valid (map (mark body) z.children.items))
    → IsMarked body (roll-ColumnRanges z)
marked_from body z h t e =
    ap (λ (k : Mark). k.right) (fold-roll-ColumnRanges Mark (mark_step body) z)
    ∙ and_from _ _ (first _ _ _ t) (and_from _ _ (second _ _ (λ j. same_from _ _ (e j))) h)
  where
    first : (a b c : Bool) → (a ≡ true → b ≡ true → c ≡ true) → (not (a && b) || c) ≡ true
    first true true c f = f refl refl
    first true false c f = refl
    first false b c f = refl

    second : (a b : Bool) → (a ≡ false → b ≡ true) → (a || b) ≡ true
    second true b f = refl
    second false b f = f refl

-- ---- several parts

-- each part of a marked list is marked
pub marked_at : (body : List ℕ) (ps : List ColumnRanges) (j : ℕ) (p : ColumnRanges) → j < length ps → p ≡ get_or ps j p → AreMarked body ps
    → IsMarked body p
marked_at body [] j p l e h = absurd (omega arith)
marked_at body (q ∷ ps) zero p l e h = rw e (and_parts _ _ h).0
marked_at body (q ∷ ps) (suc j) p l e h = marked_at body ps j p (omega arith) e (and_parts _ _ h).1

-- one part more
pub marked_push : (body : List ℕ) (ps : List ColumnRanges) (p : ColumnRanges) → AreMarked body ps → IsMarked body p
    → AreMarked body (ps ++ p ∷ [])
marked_push body [] p h m = and_from _ _ m refl
marked_push body (q ∷ ps) p h m =
    let a = and_parts _ _ h in
    and_from _ _ a.0 (marked_push body ps p a.1 m)

-- a part that is replaced by one of the same column leaves all columns
pub columns_set : (body : List ℕ) (ps : List ColumnRanges) (i : ℕ) (n d : ColumnRanges) → i < length ps
    → column_of body n ≡ column_of body (get_or ps i d) → children_of body n ≡ children_of body (get_or ps i d)
    → part_columns body (slice_set ps i n) ≡ part_columns body ps
columns_set body [] i n d l c k = absurd (omega arith)
columns_set body (q ∷ qs) zero n d l c k =
    ap (λ (x : Column). column x (children_of body n) (part_columns body qs)) c
    ∙ ap (λ (cs : Columns). column (column_of body q) cs (part_columns body qs)) k
columns_set body (q ∷ qs) (suc i) n d l c k =
    ap (λ (cs : Columns). column (column_of body q) (children_of body q) cs) (columns_set body qs i n d (omega arith) c k)

-- what every part passes, each one does
pub passes_at : (why : Fault) (body : List ℕ) (ps : List ColumnRanges) (i : ℕ) (d : ColumnRanges) → i < length ps
    → every (passes why) (part_columns body ps) ≡ true → every (passes why) (one body (get_or ps i d)) ≡ true
passes_at why body [] i d l h = absurd (omega arith)
passes_at why body (q ∷ qs) zero d l h =
    let a = and_parts _ _ h in
    let b = and_parts _ _ a.1 in
    and_from _ _ a.0 (and_from _ _ b.0 refl)
passes_at why body (q ∷ qs) (suc i) d l h = passes_at why body qs i d (omega arith) (and_parts _ _ (and_parts _ _ h).1).1

-- ---- where a part isn't known to be valid, texts or indices stand in it

or_true : (a : Bool) → (a || true) ≡ true
or_true true = refl
or_true false = refl

or_false : (a : Bool) → (a || false) ≡ a
or_false true = refl
or_false false = refl

shift : (a b c : Bool) → (a || (b || c)) ≡ ((a || (b || false)) || c)
shift true b c = refl
shift false true c = refl
shift false false c = refl

-- texts or indices stand in columns where they stand in the first, below it or behind it
judged_first : (c : Column) (children rest : Columns)
    → have_slot_checks (column c children rest) ≡ (have_slot_checks (column c children none) || have_slot_checks rest)
judged_first c children rest = shift (needs_slot_checks c.layout) (have_slot_checks children) (have_slot_checks rest)

abbrev IsFound : List ℕ → ColumnRanges → Type 0
IsFound body p = IsMarked body p → (mark body p).valid ≡ false → have_slot_checks (one body p) ≡ true

abbrev Found : List ℕ → Type 0
Found body = (p : ColumnRanges) × IsFound body p

abbrev found_parts : (body : List ℕ) → List (Found body) → List ColumnRanges
found_parts body cs = map (λ c. c.0) cs

some_found : (body : List ℕ) (cs : List (Found body)) → AreMarked body (found_parts body cs)
    → each_valid (map (mark body) (found_parts body cs)) ≡ false → have_slot_checks (part_columns body (found_parts body cs)) ≡ true
some_found body [] h e = absurd (false≢true (sym e))
some_found body (c ∷ cs) h e =
    let a = and_parts _ _ h in
    judged_first (column_of body c.0) (children_of body c.0) (part_columns body (found_parts body cs))
    ∙ (elim (mark body c.0).valid as (λ v. (mark body c.0).valid ≡ v
    → (have_slot_checks (one body c.0) || have_slot_checks (part_columns body (found_parts body cs))) ≡ true) [
      | true ↦ λ k. rw (some_found body cs a.1 (rw k at e)) (or_true (have_slot_checks (one body c.0)))
      | false ↦ λ k. rw (c.1 a.0 k) refl
    ] refl)

step_found : (body : List ℕ) (y : ColumnRanges-F (Found body))
    → IsFound body (roll-ColumnRanges (map-ColumnRanges (Found body) ColumnRanges (λ c. c.0) y))
step_found body y = λ h v.
    let z : ColumnRanges-F ColumnRanges = map-ColumnRanges (Found body) ColumnRanges (λ c. c.0) y in
    let w = fold-roll-ColumnRanges (Column × Columns) (part_step body) z in
    let m = fold-roll-ColumnRanges Mark (mark_step body) z in
    let right : right_of body z ≡ true = sym (ap (λ (k : Mark). k.right) m) ∙ h in
    let unknown : z.known_valid ≡ false = sym (ap (λ (k : Mark). k.valid) m) ∙ v in
    let rest = and_parts _ _ (and_parts _ _ right).1 in
    ap (λ (x : Column × Columns). have_slot_checks (column x.0 x.1 none)) w
    ∙ joined (needs_slot_checks z.layout) (have_slot_checks (part_columns body z.children.items))
    (λ j. some_found body y.children.items rest.1 (sym (same_is _ _ (picked _ _ j rest.0)) ∙ unknown))
  where
    joined : (j b : Bool) → (j ≡ false → b ≡ true) → (j || (b || false)) ≡ true
    joined true b f = refl
    joined false b f = or_false b ∙ f refl

    picked : (a b : Bool) → a ≡ false → (a || b) ≡ true → b ≡ true
    picked a b j h = rw j at h

part_found : (body : List ℕ) (p : ColumnRanges) → IsFound body p
part_found body = ind-ColumnRanges (IsFound body) (λ x y is. subst (λ z. IsFound body (roll-ColumnRanges z)) is (step_found body y))

-- a part without texts or indices of its own that isn't known to be valid has some below it
pub unknown_below : (body : List ℕ) (p : ColumnRanges) → IsMarked body p → needs_slot_checks (out-ColumnRanges p).layout ≡ false
    → (out-ColumnRanges p).known_valid ≡ false → have_slot_checks (part_columns body (out-ColumnRanges p).children.items) ≡ true
unknown_below body p h j v =
    rw j at (sym (judged_is body p) ∙ part_found body p h (valid_out body p ∙ v))

-- ---- where a part is known to be valid, all its slots are good

texts_within : (w o v : List ℕ) (n i j : ℕ) → all_slots (text_good [] o v) 0 n ≡ true → j ≤ n
    → all_slots (text_good w o v) i (j - i) ≡ true
texts_within w o v n i j h b = below_from (λ k. text_good w o v (i + k)) (j - i) (λ k l.
    let at_k = below_at (λ m. text_good [] o v (0 + m)) n (i + k) h (omega arith) in
    let zero_in : 0 + (i + k) ≡ i + k = omega arith in
    or_from (not (is_valid w (i + k))) _ (rw zero_in at at_k))
  where
    or_from : (a b : Bool) → b ≡ true → (a || b) ≡ true
    or_from true b e = refl
    or_from false b e = e

indices_within : (w : List ℕ) (bits : IntBits) (signed : Bool) (count : ℕ) (v : List ℕ) (n i j : ℕ)
    → all_slots (index_good [] bits signed count v) 0 n ≡ true → j ≤ n → all_slots (index_good w bits signed count v) i (j - i) ≡ true
indices_within w bits signed count v n i j h b = below_from (λ k. index_good w bits signed count v (i + k)) (j - i) (λ k l.
    let at_k = below_at (λ m. index_good [] bits signed count v (0 + m)) n (i + k) h (omega arith) in
    let zero_in : 0 + (i + k) ≡ i + k = omega arith in
    or_from (not (is_valid w (i + k))) _ (rw zero_in at at_k))
  where
    or_from : (a b : Bool) → b ≡ true → (a || b) ≡ true
    or_from true b e = refl
    or_from false b e = e

own_good : (body : List ℕ) (p : ColumnRanges) (x : Layout) → (out-ColumnRanges p).layout ≡ x → needs_slot_checks x ≡ true
    → all_valid x (own_column body p) ≡ true → (i j : ℕ) → AreSlots (one body p) i j → (why : Fault) → good why (one body p) i j ≡ true
own_good body p (l.VariableBytes true) e t a i j s why =
    texts_pass_part body p i j (ap is_texts (layout_is body p ∙ e))
    (texts_within _ _ _ (out-ColumnRanges p).slots i j a (part_most body p i j s)) why
own_good body p (l.Indices bits signed id) e t a i j s why =
    indices_pass_part body p bits signed i j (id, layout_is body p ∙ e)
    (indices_within _ bits signed _ _ (out-ColumnRanges p).slots i j a (part_most body p i j s)) why
own_good body p _ e t a i j s why = absurd (false≢true t)

-- the slots of these columns that are there are all good
abbrev AllGood : Columns → Type 0
AllGood cs = (i j : ℕ) → AreSlots cs i j → (why : Fault) → good why cs i j ≡ true

range_over : (body : List ℕ) (p : ColumnRanges) (x : Layout) → (out-ColumnRanges p).layout ≡ x
    → AllGood (part_columns body (out-ColumnRanges p).children.items) → (i j : ℕ) → AreSlots (one body p) i j → i < j → (why : Fault)
    → range_good (column_of body p).layout (good why (children_of body p)) (column_of body p).offsets i j ≡ true
range_over body p l.Lists e kids i j s m why =
    range_is why body p i j
    ∙ (ap (λ (x : Layout). range_good x (good why (part_columns body (out-ColumnRanges p).children.items)) (own_column body p).offsets i j)
    e
    ∙ kids (offset_position (own_column body p).offsets i) (offset_position (own_column body p).offsets j) (list_slots body p i j s m e)
    why)
range_over body p (l.FixedLists size) e kids i j s m why =
    range_is why body p i j
    ∙ (ap (λ (x : Layout). range_good x (good why (part_columns body (out-ColumnRanges p).children.items)) (own_column body p).offsets i j)
    e
    ∙ kids (size * i) (size * j) (fixed_slots body p i j size s m e) why)
range_over body p l.Structs e kids i j s m why =
    range_is why body p i j
    ∙ (ap (λ (x : Layout). range_good x (good why (part_columns body (out-ColumnRanges p).children.items)) (own_column body p).offsets i j)
    e
    ∙ kids i j (struct_slots body p i j s m e) why)
range_over body p _ e kids i j s m why =
    range_is why body p i j
    ∙ ap (λ (x : Layout). range_good x (good why (part_columns body (out-ColumnRanges p).children.items)) (own_column body p).offsets i j) e

none_good : (why : Fault) (body : List ℕ) (p : ColumnRanges) (i j : ℕ) → j - i ≡ 0 → good why (one body p) i j ≡ true
none_good why body p i j e = rw e refl

good_over : (body : List ℕ) (p : ColumnRanges) → needs_slot_checks (out-ColumnRanges p).layout ≡ false
    → AllGood (part_columns body (out-ColumnRanges p).children.items) → AllGood (one body p)
good_over body p t kids i j s why =
    elim (cases_order i j) as (λ _. good why (one body p) i j ≡ true) [
      | inl e ↦ none_good why body p i j (omega arith)
      | inr r ↦ elim r as (λ _. good why (one body p) i j ≡ true) [
        | inl m ↦ enough_part why body p i j s t (range_over body p (out-ColumnRanges p).layout refl kids i j s m why)
        | inr m ↦ let order = s.order in absurd (omega arith)
      ]
    ]

abbrev IsKnown : List ℕ → ColumnRanges → Type 0
IsKnown body p = IsMarked body p → (mark body p).valid ≡ true → AllGood (one body p)

abbrev Known : List ℕ → Type 0
Known body = (p : ColumnRanges) × IsKnown body p

abbrev known_parts : (body : List ℕ) → List (Known body) → List ColumnRanges
known_parts body cs = map (λ c. c.0) cs

abbrev AreKnown : List ℕ → List ColumnRanges → Type 0
AreKnown body ps = AreMarked body ps → each_valid (map (mark body) ps) ≡ true → AllGood (part_columns body ps)

all_known : (body : List ℕ) (cs : List (Known body)) → AreKnown body (known_parts body cs)
all_known body [] h v i j s why = refl
all_known body (c ∷ cs) h v i j s why =
    let a = and_parts _ _ h in
    let b = and_parts _ _ v in
    let q = slots_first (column_of body c.0) (children_of body c.0) (part_columns body (known_parts body cs)) i j s in
    good_first why (column_of body c.0) (children_of body c.0) (part_columns body (known_parts body cs)) i j
    ∙ and_from _ _ (c.1 a.0 b.0 i j q.0 why) (all_known body cs a.1 b.1 i j q.1 why)

step_known : (body : List ℕ) (y : ColumnRanges-F (Known body))
    → IsKnown body (roll-ColumnRanges (map-ColumnRanges (Known body) ColumnRanges (λ c. c.0) y))
step_known body y = λ h v i j s why.
    let z : ColumnRanges-F ColumnRanges = map-ColumnRanges (Known body) ColumnRanges (λ c. c.0) y in
    let p : ColumnRanges = roll-ColumnRanges z in
    let known : (out-ColumnRanges p).known_valid ≡ true = sym (valid_out body p) ∙ v in
    let kids : AreKnown body (out-ColumnRanges p).children.items =
    subst (λ (f : ColumnRanges-F ColumnRanges). AreKnown body f.children.items) (sym (out-roll-ColumnRanges z))
    (all_known body y.children.items) in
    elim (needs_slot_checks (out-ColumnRanges p).layout) as (λ b. needs_slot_checks (out-ColumnRanges p).layout ≡ b
    → good why (one body p) i j ≡ true) [
      | true ↦ λ e. own_good body p (out-ColumnRanges p).layout refl e (own_valid body p h e known) i j s why
      | false ↦ λ e. good_over body p e (kids (marked_below body p h) (sym (children_valid body p h e) ∙ known)) i j s why
    ] refl

part_known : (body : List ℕ) (p : ColumnRanges) → IsKnown body p
part_known body = ind-ColumnRanges (IsKnown body) (λ x y is. subst (λ z. IsKnown body (roll-ColumnRanges z)) is (step_known body y))

-- the slots of a part that is known to be valid are good
pub known_good : (body : List ℕ) (p : ColumnRanges) → IsMarked body p → (out-ColumnRanges p).known_valid ≡ true → (i j : ℕ)
    → AreSlots (one body p) i j → (why : Fault) → good why (one body p) i j ≡ true
known_good body p h v = part_known body p h (valid_out body p ∙ v)
