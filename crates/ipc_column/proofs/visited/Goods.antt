-- Ranges of slots that are good.
use Rattle.std.proofs.Common.{◌≡◌, ◌∙◌, refl, sym, ap, subst, ℕ, zero, suc, ◌+◌, ◌-◌, ◌*◌, ◌<◌, ◌≤◌, Bool, true, false, List, length}
use Rattle.std.proofs.Common.{le-leb, arith}
use Rattle.std.specs.Prelude.{◌&&◌, ◌||◌, not, nat_le, ℤ}
use Rattle.std.proofs.Math.Nat.{mul-le-mul_left}
use Rattle.std.proofs.lemmas.Bool.{false≢true, and_parts, and_from, leb-true}
use Rattle.ipc_model.specs.declared.layout.Layout.{Layout}
use Rattle.ipc_model.specs.declared.layout.Layout.TheVariants as l
use Rattle.ipc_model.specs.Layouts.{needs_slot_checks, is_texts}
use Rattle.ipc_model.specs.declared.schema.IntBits.{IntBits}
use Rattle.ipc_model.specs.declared.value.Value.{Value}
use Rattle.ipc_model.specs.declared.fault.Fault.{Fault}
use Rattle.ipc_model.specs.declared.fault.Fault.TheVariants as fault
use Rattle.ipc_column.specs.Columns.{Column, Columns, none, column}
use Rattle.ipc_column.specs.Values.{between, number_in, offset_position, is_valid, child_slot}
use Rattle.ipc_column.specs.checks.Rules.{have_slot_checks}
use Rattle.ipc_column.specs.checks.Checks.{all_below, all_slots, have_slots, good, good_slot, good_below, range_good, text_good}
use Rattle.ipc_column.specs.checks.Checks.{IsIndexed, index_good, index_passes, text_passes, visible_passes}
use Rattle.ipc_column.proofs.Below.{below_at, below_from, below_fails}

-- a slot of a range that passes
pub slots_at : (f : ℕ → Bool) (a b i : ℕ) → all_slots f a (b - a) ≡ true → a ≤ i → i < b → f i ≡ true
slots_at f a b i h l m =
    let e : a + (i - a) ≡ i = omega arith in
    subst (λ (k : ℕ). f k ≡ true) e (below_at (λ k. f (a + k)) (b - a) (i - a) h (omega arith))

-- a range whose slots pass
pub slots_from : (f : ℕ → Bool) (a b : ℕ) → ((i : ℕ) → a ≤ i → i < b → f i ≡ true) → all_slots f a (b - a) ≡ true
slots_from f a b h = below_from (λ k. f (a + k)) (b - a) (λ k l. h (a + k) (omega arith) (omega (arith, l)))

-- a range with a slot that fails
pub slots_fail : (f : ℕ → Bool) (a b i : ℕ) → a ≤ i → i < b → f i ≡ false → all_slots f a (b - a) ≡ false
slots_fail f a b i l m e =
    let p : i ≡ a + (i - a) = omega arith in
    below_fails (λ k. f (a + k)) (b - a) (i - a) (omega arith) (subst (λ (k : ℕ). f k ≡ false) p e)

-- one slot more
pub slots_more : (f : ℕ → Bool) (a i : ℕ) → a ≤ i → all_slots f a (i - a) ≡ true → f i ≡ true → all_slots f a (i + 1 - a) ≡ true
slots_more f a i l h g =
    let n : i + 1 - a ≡ suc (i - a) = omega arith in
    let p : a + (i - a) ≡ i = omega arith in
    rw (n, h, p, g) refl

none_below : (f : ℕ → Bool) (k : ℕ) → all_below f (k - k) ≡ true
none_below f k = let e : k - k ≡ 0 = omega arith in rw e refl

and_swap : (x y z w : Bool) → ((x && y) && (z && w)) ≡ ((x && z) && (y && w))
and_swap true true z w = refl
and_swap true false true w = refl
and_swap true false false w = refl
and_swap false y z w = refl

and_shift : (x y z : Bool) → ((x && y) && z) ≡ (x && (y && z))
and_shift true y z = refl
and_shift false y z = refl

pub and_true : (b : Bool) → (b && true) ≡ b
and_true true = refl
and_true false = refl

below_add : (f : ℕ → Bool) (m n : ℕ) → all_below f (m + n) ≡ (all_below f m && all_below (λ k. f (m + k)) n)
below_add f m zero = let e : m + 0 ≡ m = omega arith in rw e (sym (and_true (all_below f m)))
below_add f m (suc n) =
    let e : m + suc n ≡ suc (m + n) = omega arith in
    rw (e, below_add f m n) (and_shift (all_below f m) (all_below (λ k. f (m + k)) n) (f (m + n)))

below_same : (f g : ℕ → Bool) (n : ℕ) → ((k : ℕ) → f k ≡ g k) → all_below f n ≡ all_below g n
below_same f g zero e = refl
below_same f g (suc n) e = rw (below_same f g n e, e n) refl

slots_add : (f : ℕ → Bool) (a b c : ℕ) → a ≤ b → b ≤ c → all_slots f a (c - a) ≡ (all_slots f a (b - a) && all_slots f b (c - b))
slots_add f a b c l m =
    let e : c - a ≡ b - a + (c - b) = omega arith in
    let same = below_same (λ k. f (a + (b - a + k))) (λ k. f (b + k)) (c - b)
    (λ k. let p : a + (b - a + k) ≡ b + k = omega arith in ap f p) in
    rw (e, below_add (λ k. f (a + k)) (b - a) (c - b), same) refl

-- no slots are good
pub good_none : (why : Fault) (cs : Columns) (k : ℕ) → good why cs k k ≡ true
good_none why none k = refl
good_none why (column c children rest) k = and_from _ _ (none_below (λ i. good_slot why (good why children) c (k + i)) k)
    (good_none why rest k)

-- neighbouring ranges are good where the whole is
pub good_add : (why : Fault) (cs : Columns) (a b c : ℕ) → a ≤ b → b ≤ c → good why cs a c ≡ (good why cs a b && good why cs b c)
good_add why none a b c l m = refl
good_add why (column d children rest) a b c l m =
    rw (slots_add (good_slot why (good why children) d) a b c l m, good_add why rest a b c l m)
    (and_swap (all_slots (good_slot why (good why children) d) a (b - a)) (all_slots (good_slot why (good why children) d) b (c - b))
    (good why rest a b)
    (good why rest b c))

-- a range within a good one
pub good_within : (why : Fault) (cs : Columns) (a b i j : ℕ) → good why cs a b ≡ true → a ≤ i → i ≤ j → j ≤ b → good why cs i j ≡ true
good_within why cs a b i j h l m n =
    let p = and_parts (good why cs a i) (good why cs i b) (sym (good_add why cs a i b l (omega arith)) ∙ h) in
    (and_parts (good why cs i j) (good why cs j b) (sym (good_add why cs i j b m n) ∙ p.1)).0

-- one column alone
pub good_one : (why : Fault) (c : Column) (children : Columns) (i j : ℕ)
    → good why (column c children none) i j ≡ all_slots (good_slot why (good why children) c) i (j - i)
good_one why c children i j = and_true _

-- the first column and those behind it
pub good_first : (why : Fault) (c : Column) (children rest : Columns) (i j : ℕ)
    → good why (column c children rest) i j ≡ (good why (column c children none) i j && good why rest i j)
good_first why c children rest i j = ap (λ (b : Bool). b && good why rest i j) (sym (and_true _))

or_parts : (a b : Bool) → (a || b) ≡ false → (a ≡ false) × (b ≡ false)
or_parts true b e = absurd (false≢true (sym e))
or_parts false b e = (refl, e)

pub or_true : (a : Bool) → (a || true) ≡ true
or_true true = refl
or_true false = refl

-- where neither texts nor indices stand in the columns or below them, nothing is asked
pub quiet_good : (why : Fault) (cs : Columns) (i j : ℕ) → have_slot_checks cs ≡ false → good why cs i j ≡ true
quiet_good why none i j h = refl
quiet_good why (column c children rest) i j h =
    let p = or_parts (needs_slot_checks c.layout) (have_slot_checks children || have_slot_checks rest) h in
    let q = or_parts (have_slot_checks children) (have_slot_checks rest) p.1 in
    and_from _ _ (below_from (λ k. good_slot why (good why children) c (i + k)) (j - i)
    (λ k m. ap (λ (b : Bool). not (is_valid c.validity (i + k)) || b)
    (below c.layout c.dictionary c.offsets c.values (i + k) p.0 (λ a b. quiet_good why children a b q.0))
    ∙ or_true (not (is_valid c.validity (i + k)))))
    (quiet_good why rest i j q.1)
  where
    below : (layout : Layout) (dictionary : List Value) (o w : List ℕ) (k : ℕ) → needs_slot_checks layout ≡ false
        → ((a b : ℕ) → good why children a b ≡ true) → good_below why layout dictionary (good why children) o w k ≡ true
    below (l.VariableBytes true) d o w k e all = absurd (false≢true (sym e))
    below (l.Indices bits signed id) d o w k e all = absurd (false≢true (sym e))
    below l.Lists d o w k e all = all (offset_position o k) (offset_position o (k + 1))
    below (l.FixedLists size) d o w k e all = all (size * k) (size * (k + 1))
    below l.Structs d o w k e all = all k (k + 1)
    below _ d o w k e all = refl

-- what the slots of several rows lead to
run_good : (why : Fault) (layout : Layout) (dictionary : List Value) (children : Columns) (o w : List ℕ) (a m : ℕ)
    → needs_slot_checks layout ≡ false
    → ((i : ℕ) → a ≤ i → i < a + m → child_slot layout o i ≤ child_slot layout o (i + 1))
    → all_slots (good_below why layout dictionary (good why children) o w) a m ≡ range_good layout (good why children) o a (a + m)
run_good why (l.VariableBytes true) d children o w a m t up = absurd (false≢true (sym t))
run_good why l.Lists d children o w a zero t up =
    let e : a + 0 ≡ a = omega arith in
    rw e (sym (good_none why children (offset_position o a)))
run_good why l.Lists d children o w a (suc m) t up =
    let e : a + suc m ≡ a + m + 1 = omega arith in
    rw (e, run_good why l.Lists d children o w a m t (λ i h k. up i h (omega (arith, k))))
    (sym (good_add why children (offset_position o a) (offset_position o (a + m)) (offset_position o (a + m + 1)) (far m up)
    (up (a + m) (omega arith) (omega arith))))
  where
    far : (d : ℕ) → ((i : ℕ) → a ≤ i → i < a + suc d → offset_position o i ≤ offset_position o (i + 1)) → offset_position o a
        ≤ offset_position o (a + d)
    far zero h = let e : a + 0 ≡ a = omega arith in rw e (omega arith)
    far (suc d) h =
        let e : a + suc d ≡ a + d + 1 = omega arith in
        let before = far d (λ i f k. h i f (omega (arith, k))) in
        let step = h (a + d) (omega arith) (omega arith) in
        rw e (omega (arith, before, step))
run_good why (l.FixedLists size) d children o w a zero t up =
    let e : a + 0 ≡ a = omega arith in
    rw e (sym (good_none why children (size * a)))
run_good why (l.FixedLists size) d children o w a (suc m) t up =
    let e : a + suc m ≡ a + m + 1 = omega arith in
    let far : size * a ≤ size * (a + m) = mul-le-mul_left size (let k : a ≤ a + m = omega arith in k) in
    let next : size * (a + m) ≤ size * (a + m + 1) = mul-le-mul_left size (let k : a + m ≤ a + m + 1 = omega arith in k) in
    rw (e, run_good why (l.FixedLists size) d children o w a m t (λ i h k. up i h (omega (arith, k))))
    (sym (good_add why children (size * a) (size * (a + m)) (size * (a + m + 1)) far next))
run_good why l.Structs d children o w a zero t up = let e : a + 0 ≡ a = omega arith in rw e (sym (good_none why children a))
run_good why l.Structs d children o w a (suc m) t up =
    let e : a + suc m ≡ a + m + 1 = omega arith in
    rw (e, run_good why l.Structs d children o w a m t (λ i h k. omega arith))
    (sym (good_add why children a (a + m) (a + m + 1) (omega arith) (omega arith)))
run_good why l.Null d children o w a m t up = below_from (λ k. true) m (λ k h. refl)
run_good why l.Bits d children o w a m t up = below_from (λ k. true) m (λ k h. refl)
run_good why (l.Numbers bits signed) d children o w a m t up = below_from (λ k. true) m (λ k h. refl)
run_good why (l.FixedBytes width) d children o w a m t up = below_from (λ k. true) m (λ k h. refl)
run_good why (l.VariableBytes false) d children o w a m t up = below_from (λ k. true) m (λ k h. refl)
run_good why (l.Indices bits signed id) d children o w a m t up = absurd (false≢true (sym t))

-- without a bitmap, what the slots of a range lead to is what the range leads to
pub range_whole : (why : Fault) (c : Column) (children : Columns) (i j : ℕ) → needs_slot_checks c.layout ≡ false → length c.validity ≡ 0 → i
    ≤ j
    → ((k : ℕ) → i ≤ k → k < j → child_slot c.layout c.offsets k ≤ child_slot c.layout c.offsets (k + 1))
    → range_good c.layout (good why children) c.offsets i j ≡ good why (column c children none) i j
range_whole why c children i j t v l up =
    let e : i + (j - i) ≡ j = omega arith in
    let run = run_good why c.layout c.dictionary children c.offsets c.values i (j - i) t (λ k a b. up k a (omega (arith, b))) in
    let valid : (k : ℕ) → is_valid c.validity k ≡ true = λ k. rw v refl in
    let same = below_same (λ k. good_slot why (good why children) c (i + k)) (λ k. good_below why c.layout c.dictionary
    (good why children) c.offsets c.values (i + k))
    (j - i) (λ k. ap (λ (b : Bool). not b || good_below why c.layout c.dictionary (good why children) c.offsets c.values (i + k)) (valid
    (i + k))) in
    sym (good_one why c children i j ∙ (same ∙ (run ∙ ap (λ (k : ℕ). range_good c.layout (good why children) c.offsets i k) e)))

-- what one slot leads to
pub slot_range : (why : Fault) (layout : Layout) (dictionary : List Value) (below : ℕ → ℕ → Bool) (o w : List ℕ) (i : ℕ)
    → needs_slot_checks layout ≡ false → range_good layout below o i (i + 1) ≡ good_below why layout dictionary below o w i
slot_range why (l.VariableBytes true) d below o w i t = absurd (false≢true (sym t))
slot_range why (l.VariableBytes false) d below o w i t = refl
slot_range why l.Lists d below o w i t = refl
slot_range why (l.FixedLists size) d below o w i t = refl
slot_range why l.Structs d below o w i t = refl
slot_range why l.Null d below o w i t = refl
slot_range why l.Bits d below o w i t = refl
slot_range why (l.Numbers bits signed) d below o w i t = refl
slot_range why (l.FixedBytes width) d below o w i t = refl
slot_range why (l.Indices bits signed id) d below o w i t = absurd (false≢true (sym t))

-- columns with so many slots have fewer
pub fewer_slots : (cs : Columns) (m n : ℕ) → m ≤ n → have_slots n cs ≡ true → have_slots m cs ≡ true
fewer_slots none m n l h = refl
fewer_slots (column c children rest) m n l h =
    let p = and_parts (nat_le n c.slots) (have_slots n rest) h in
    let k = leb-true n c.slots p.0 in
    and_from (nat_le m c.slots) (have_slots m rest) (le-leb m c.slots (omega arith)) (fewer_slots rest m n l p.1)

texts_layout : (layout : Layout) → is_texts layout ≡ true → layout ≡ l.VariableBytes true
texts_layout (l.VariableBytes true) e = refl
texts_layout _ e = absurd (false≢true e)

-- slots that pass each test by themselves
own_good : (why : Fault) (c : Column) (children : Columns) (i j : ℕ)
    → ((k : ℕ) → good_below why c.layout c.dictionary (good why children) c.offsets c.values k ≡ true)
    → good why (column c children none) i j ≡ true
own_good why c children i j all =
    good_one why c children i j ∙ slots_from (good_slot why (good why children) c) i j
    (λ k a b. ap (λ (x : Bool). not (is_valid c.validity k) || x) (all k) ∙ or_true (not (is_valid c.validity k)))

-- texts, by themselves
texts_one : (c : Column) (children : Columns) (i j : ℕ) → c.layout ≡ l.VariableBytes true
    → all_slots (text_good c.validity c.offsets c.values) i (j - i) ≡ good fault.ValueNotUtf8 (column c children none) i j
texts_one c children i j e =
    let same = below_same (λ k. text_good c.validity c.offsets c.values (i + k))
    (λ k. good_slot fault.ValueNotUtf8 (good fault.ValueNotUtf8 children) c (i + k)) (j - i) (λ k. rw e refl) in
    same ∙ sym (good_one fault.ValueNotUtf8 c children i j)

-- where they are UTF-8, they pass every test
texts_all : (c : Column) (children : Columns) (i j : ℕ) → c.layout ≡ l.VariableBytes true
    → good fault.ValueNotUtf8 (column c children none) i j ≡ true → (why : Fault) → good why (column c children none) i j ≡ true
texts_all c children i j e h fault.ValueNotUtf8 = h
texts_all c children i j e h why = own_good why c children i j (λ k. rw e refl)

pub texts_good : (c : Column) (children : Columns) (i j : ℕ) → is_texts c.layout ≡ true
    → all_slots (text_good c.validity c.offsets c.values) i (j - i) ≡ good fault.ValueNotUtf8 (column c children none) i j
texts_good c children i j t = texts_one c children i j (texts_layout c.layout t)

pub texts_pass : (c : Column) (children : Columns) (i j : ℕ) → is_texts c.layout ≡ true
    → all_slots (text_good c.validity c.offsets c.values) i (j - i) ≡ true → (why : Fault) → good why (column c children none) i j ≡ true
texts_pass c children i j t h =
    texts_all c children i j (texts_layout c.layout t) (sym (texts_good c children i j t) ∙ h)

-- indices, by themselves
pub indices_good : (c : Column) (children : Columns) (bits : IntBits) (signed : Bool) (i j : ℕ) → IsIndexed c.layout bits signed
    → all_slots (index_good c.validity bits signed (length c.dictionary) c.values) i (j - i)
    ≡ good fault.BadIndex (column c children none) i j
indices_good c children bits signed i j e =
    let same = below_same (λ k. index_good c.validity bits signed (length c.dictionary) c.values (i + k))
    (λ k. good_slot fault.BadIndex (good fault.BadIndex children) c (i + k)) (j - i) (λ k. rw e.1 refl) in
    same ∙ sym (good_one fault.BadIndex c children i j)

-- where they are of values, they pass every test
indices_all : (c : Column) (children : Columns) (bits : IntBits) (signed : Bool) (i j : ℕ) → IsIndexed c.layout bits signed
    → good fault.BadIndex (column c children none) i j ≡ true → (why : Fault) → good why (column c children none) i j ≡ true
indices_all c children bits signed i j e h fault.BadIndex = h
indices_all c children bits signed i j e h why = own_good why c children i j (λ k. rw e.1 refl)

pub indices_pass : (c : Column) (children : Columns) (bits : IntBits) (signed : Bool) (i j : ℕ) → IsIndexed c.layout bits signed
    → all_slots (index_good c.validity bits signed (length c.dictionary) c.values) i (j - i) ≡ true
    → (why : Fault) → good why (column c children none) i j ≡ true
indices_pass c children bits signed i j e h =
    indices_all c children bits signed i j e (sym (indices_good c children bits signed i j e) ∙ h)

-- a cause that isn't found in what rows show has no test of it
asks_nothing : (why : Fault) → ((bytes : List ℕ) → text_passes why bytes ≡ true)
    → ((dictionary : List Value) (index : ℤ) → index_passes why dictionary index ≡ true) → (cs : Columns) (i j : ℕ) → good why cs i j ≡ true
asks_nothing why texts indices none i j = refl
asks_nothing why texts indices (column c children rest) i j =
    and_from _ _ (slots_from (good_slot why (good why children) c) i j
    (λ k a b. ap (λ (x : Bool). not (is_valid c.validity k) || x) (below c.layout k
    (λ a b. asks_nothing why texts indices children a b)) ∙ or_true (not (is_valid c.validity k))))
    (asks_nothing why texts indices rest i j)
  where
    below : (layout : Layout) (k : ℕ) → ((a b : ℕ) → good why children a b ≡ true)
        → good_below why layout c.dictionary (good why children) c.offsets c.values k ≡ true
    below (l.VariableBytes true) k all = texts (between c.offsets c.values k)
    below (l.Indices bits signed id) k all = indices c.dictionary (number_in bits signed c.values k)
    below l.Lists k all = all (offset_position c.offsets k) (offset_position c.offsets (k + 1))
    below (l.FixedLists size) k all = all (size * k) (size * (k + 1))
    below l.Structs k all = all k (k + 1)
    below _ k all = refl

-- the tests of what rows show
pub shown_is : (why : Fault) (n : ℕ) (cs : Columns) → good why cs 0 n ≡ visible_passes why n cs
shown_is fault.ValueNotUtf8 n cs = refl
shown_is fault.BadIndex n cs = refl
shown_is why n cs = asks_nothing why (λ b. refl) (λ d z. refl) cs 0 n

-- what the slots of a range lead to is enough, null or not
pub range_enough : (why : Fault) (c : Column) (children : Columns) (i j : ℕ) → needs_slot_checks c.layout ≡ false → i ≤ j
    → ((k : ℕ) → i ≤ k → k < j → child_slot c.layout c.offsets k ≤ child_slot c.layout c.offsets (k + 1))
    → range_good c.layout (good why children) c.offsets i j ≡ true → good why (column c children none) i j ≡ true
range_enough why c children i j t l up h =
    let e : i + (j - i) ≡ j = omega arith in
    let run = run_good why c.layout c.dictionary children c.offsets c.values i (j - i) t (λ k a b. up k a (omega (arith, b))) in
    let all : all_slots (good_below why c.layout c.dictionary (good why children) c.offsets c.values) i (j - i) ≡ true =
    run ∙ (ap (λ (k : ℕ). range_good c.layout (good why children) c.offsets i k) e ∙ h) in
    good_one why c children i j ∙ slots_from (good_slot why (good why children) c) i j
    (λ k a b. ap (λ (x : Bool). not (is_valid c.validity k) || x)
    (slots_at (good_below why c.layout c.dictionary (good why children) c.offsets c.values) i j k all a b)
    ∙ or_true (not (is_valid c.validity k)))
