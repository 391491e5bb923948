-- Weights of neighbouring ranges add up, and no weight passes the slots that may be visited.
use Rattle.std.proofs.Common.{◌≡◌, refl, sym, ℕ, ◌+◌, ◌-◌, ◌*◌, ◌<◌, ◌≤◌, Bool, true, false, cond, List, arith}
use Rattle.std.proofs.Common.{inl, inr}
use Rattle.std.proofs.lemmas.Bool.{false≢true, cases_lt}
use Rattle.ipc_model.specs.declared.layout.Layout.{Layout}
use Rattle.ipc_model.specs.declared.layout.Layout.TheVariants as l
use Rattle.ipc_column.specs.Columns.{Column, Columns, none, column}
use Rattle.ipc_column.specs.checks.Rules.{has_slot_visits, visits_in}
use Rattle.ipc_column.specs.Lent.{AreSlots}
use Rattle.ipc_column.specs.Values.{offset_position, child_slot, is_nested}
use Rattle.ipc_column.specs.checks.Weights.{visits, visits_below}
use Rattle.ipc_column.proofs.lending.Slots.{slots_first, slots_within, slots_in_one, slots_below}

none_own : (b : Bool) (k : ℕ) → cond b (k - k) 0 ≡ 0
none_own true k = omega arith
none_own false k = refl

none_below : (layout : Layout) (w : ℕ → ℕ → ℕ) (o : List ℕ) (k : ℕ) → ((j : ℕ) → w j j ≡ 0) → visits_below layout w o k k ≡ 0
none_below l.Lists w o k h = h (offset_position o k)
none_below (l.FixedLists size) w o k h = h (size * k)
none_below l.Structs w o k h = h k
none_below _ w o k h = refl

-- no slots weigh nothing
pub weight_none : (cs : Columns) (k : ℕ) → visits cs k k ≡ 0
unfolding visits
weight_none none k = refl
weight_none (column c children rest) k =
    let own = none_own (has_slot_visits c children) k in
    let below = none_below c.layout (visits children) c.offsets k (λ j. weight_none children j) in
    let others = weight_none rest k in
    omega (arith, own, below, others)

own_add : (b : Bool) (i j k : ℕ) → i ≤ j → j ≤ k → cond b (j - i) 0 + cond b (k - j) 0 ≡ cond b (k - i) 0
own_add true i j k l m = omega arith
own_add false i j k l m = refl

-- a weight below, of a list or a struct
below_is : (layout : Layout) (w : ℕ → ℕ → ℕ) (o : List ℕ) (i j : ℕ) → is_nested layout ≡ true
    → visits_below layout w o i j ≡ w (child_slot layout o i) (child_slot layout o j)
below_is l.Lists w o i j n = refl
below_is (l.FixedLists size) w o i j n = refl
below_is l.Structs w o i j n = refl
below_is _ w o i j n = absurd (false≢true n)

below_leaf : (layout : Layout) (w : ℕ → ℕ → ℕ) (o : List ℕ) (i j : ℕ) → is_nested layout ≡ false → visits_below layout w o i j ≡ 0
below_leaf l.Lists w o i j n = absurd (false≢true (sym n))
below_leaf (l.FixedLists size) w o i j n = absurd (false≢true (sym n))
below_leaf l.Structs w o i j n = absurd (false≢true (sym n))
below_leaf _ w o i j n = refl

-- what is below neighbouring ranges adds up, where the children's weights do
below_add : (c : Column) (children : Columns) (i j k : ℕ) → AreSlots (column c children none) i k → i ≤ j → j ≤ k
    → ((a b d : ℕ) → AreSlots children a d → a ≤ b → b ≤ d → visits children a b + visits children b d ≡ visits children a d)
    → visits_below c.layout (visits children) c.offsets i j + visits_below c.layout (visits children) c.offsets j k
    ≡ visits_below c.layout (visits children) c.offsets i k
below_add c children i j k own a b add =
    elim (is_nested c.layout) as (λ v. is_nested c.layout ≡ v
    → visits_below c.layout (visits children) c.offsets i j + visits_below c.layout (visits children) c.offsets j k
    ≡ visits_below c.layout (visits children) c.offsets i k)
    [ true ↦ λ n. nested n | false ↦ λ n. leaf n ] refl
  where
    leaf : is_nested c.layout ≡ false
        → visits_below c.layout (visits children) c.offsets i j + visits_below c.layout (visits children) c.offsets j k
        ≡ visits_below c.layout (visits children) c.offsets i k
    leaf n =
        let x = below_leaf c.layout (visits children) c.offsets i j n in
        let y = below_leaf c.layout (visits children) c.offsets j k n in
        let z = below_leaf c.layout (visits children) c.offsets i k n in
        omega (arith, x, y, z)

    ordered : is_nested c.layout ≡ true → i < k
        → (child_slot c.layout c.offsets i ≤ child_slot c.layout c.offsets j) × (child_slot c.layout c.offsets j
        ≤ child_slot c.layout c.offsets k)
    ordered n s = (
      elim (cases_lt i j) as (λ _. child_slot c.layout c.offsets i ≤ child_slot c.layout c.offsets j) [
        | inl m ↦ (slots_below c children i j (slots_within (column c children none) i k i j own a b) m n).order
        | inr m ↦ let e : j ≡ i = omega arith in rw e (omega arith)
      ],
      elim (cases_lt j k) as (λ _. child_slot c.layout c.offsets j ≤ child_slot c.layout c.offsets k) [
        | inl m ↦ (slots_below c children j k (slots_within (column c children none) i k j k own b (omega arith)) m n).order
        | inr m ↦ let e : k ≡ j = omega arith in rw e (omega arith)
      ],
    )

    nested : is_nested c.layout ≡ true
        → visits_below c.layout (visits children) c.offsets i j + visits_below c.layout (visits children) c.offsets j k
        ≡ visits_below c.layout (visits children) c.offsets i k
    nested n =
        elim (cases_lt i k) as (λ _. visits_below c.layout (visits children) c.offsets i j
        + visits_below c.layout (visits children) c.offsets j k ≡ visits_below c.layout (visits children) c.offsets i k) [
          | inl s ↦
              let x = below_is c.layout (visits children) c.offsets i j n in
              let y = below_is c.layout (visits children) c.offsets j k n in
              let z = below_is c.layout (visits children) c.offsets i k n in
              let all = slots_below c children i k own s n in
              let up = ordered n s in
              let sum = add (child_slot c.layout c.offsets i) (child_slot c.layout c.offsets j) (child_slot c.layout c.offsets k) all
              up.0 up.1 in
              omega (arith, x, y, z, sum)
          | inr s ↦
              let e : j ≡ i = omega arith in
              let f : k ≡ i = omega arith in
              let none = none_below c.layout (visits children) c.offsets i (λ m. weight_none children m) in
              rw (e, f) (omega (arith, none))
        ]

-- weights of neighbouring ranges add up
pub weight_add : (cs : Columns) (i j k : ℕ) → AreSlots cs i k → i ≤ j → j ≤ k → visits cs i j + visits cs j k ≡ visits cs i k
unfolding visits
weight_add none i j k h a b = refl
weight_add (column c children rest) i j k h a b =
    let parts = slots_first c children rest i k h in
    let own = own_add (has_slot_visits c children) i j k a b in
    let others = weight_add rest i j k parts.1 a b in
    let below = below_add c children i j k parts.0 a b (λ x y z s l m. weight_add children x y z s l m) in
    omega (arith, own, below, others)

own_most : (b : Bool) (n i j : ℕ) → j ≤ n → cond b (j - i) 0 ≤ cond b n 0
own_most true n i j l = omega arith
own_most false n i j l = omega arith

-- no range weighs more than all slots that may be visited
pub weight_most : (cs : Columns) (i j : ℕ) → AreSlots cs i j → visits cs i j ≤ visits_in cs
unfolding visits
weight_most none i j h = omega arith
weight_most (column c children rest) i j h =
    let parts = slots_first c children rest i j h in
    let own = own_most (has_slot_visits c children) c.slots i j (slots_in_one c children i j parts.0) in
    let others = weight_most rest i j parts.1 in
    let below : visits_below c.layout (visits children) c.offsets i j ≤ visits_in children =
    elim (is_nested c.layout) as (λ b. is_nested c.layout ≡ b
    → visits_below c.layout (visits children) c.offsets i j ≤ visits_in children) [
      | true ↦ λ n. elim (cases_lt i j) as (λ _. visits_below c.layout (visits children) c.offsets i j ≤ visits_in children) [
        | inl s ↦
            let x = below_is c.layout (visits children) c.offsets i j n in
            let most = weight_most children (child_slot c.layout c.offsets i) (child_slot c.layout c.offsets j)
            (slots_below c children i j parts.0 s n) in
            omega (arith, x, most)
        | inr s ↦
            let order = h.order in
            let e : j ≡ i = omega arith in
            let none = none_below c.layout (visits children) c.offsets i (λ m. weight_none children m) in
            rw e (omega (arith, none))
      ]
      | false ↦ λ n. let x = below_leaf c.layout (visits children) c.offsets i j n in omega (arith, x)
    ] refl in
    omega (arith, own, below, others)

-- ---- the room for tests

-- the first column and those behind it
pub weight_first : (c : Column) (children rest : Columns) (i j : ℕ)
    → visits (column c children rest) i j ≡ visits (column c children none) i j + visits rest i j
unfolding visits
weight_first c children rest i j = omega arith

-- what is spent on the slots up to i leaves room for the next
pub room_next : (cs : Columns) (a i b old tests most : ℕ) → AreSlots cs a b → a ≤ i → i < b → tests ≤ old + visits cs a i
    → old + visits cs a b < most → tests + visits cs i (i + 1) < most
room_next cs a i b old tests most h l k t r =
    let first = weight_add cs a i (i + 1) (slots_within cs a b a (i + 1) h (omega arith) (omega arith)) l (omega arith) in
    let others = weight_add cs a (i + 1) b h (omega arith) (omega arith) in
    omega (arith, first, others)

-- the next is within what is spent up to it
pub cost_next : (cs : Columns) (a i b old tests new : ℕ) → AreSlots cs a b → a ≤ i → i < b → tests ≤ old + visits cs a i
    → new ≤ tests + visits cs i (i + 1) → new ≤ old + visits cs a (i + 1)
cost_next cs a i b old tests new h l k t r =
    let first = weight_add cs a i (i + 1) (slots_within cs a b a (i + 1) h (omega arith) (omega arith)) l (omega arith) in
    omega (arith, first)

-- and within what is spent on all
pub cost_all : (cs : Columns) (a i b old tests new : ℕ) → AreSlots cs a b → a ≤ i → i < b → tests ≤ old + visits cs a i
    → new ≤ tests + visits cs i (i + 1) → new ≤ old + visits cs a b
cost_all cs a i b old tests new h l k t r =
    let next = cost_next cs a i b old tests new h l k t r in
    let others = weight_add cs a (i + 1) b h (omega arith) (omega arith) in
    omega (arith, next, others)

-- a visited column's slot weighs one, and what it leads to
pub visited_weight : (c : Column) (children : Columns) (i : ℕ) → has_slot_visits c children ≡ true
    → visits (column c children none) i (i + 1) ≡ 1 + visits_below c.layout (visits children) c.offsets i (i + 1)
unfolding visits
visited_weight c children i v = let one : i + 1 - i ≡ 1 = omega arith in rw (v, one) (omega arith)

-- what is below is within the whole
pub below_weight : (c : Column) (children : Columns) (i j : ℕ)
    → visits_below c.layout (visits children) c.offsets i j ≤ visits (column c children none) i j
unfolding visits
below_weight c children i j = omega arith

-- texts weigh their slots at least
pub texts_weight : (c : Column) (children : Columns) (i j : ℕ) → has_slot_visits c children ≡ true → j - i
    ≤ visits (column c children none) i j
unfolding visits
texts_weight c children i j v = rw v (omega arith)
