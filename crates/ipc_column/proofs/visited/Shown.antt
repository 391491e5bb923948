-- What is asked of the slots that rows show: texts are UTF-8, and indices those of values.
use Rattle.std.proofs.Common.{◌≡◌, refl, ℕ, ◌+◌, ◌-◌, ◌*◌, ◌<◌, ◌≤◌, Bool, true, false, cond, not, List, length, arith, subst, Some, None}
use Rattle.std.specs.Prelude.{◌||◌, nat_lt, is_some, ℤ, pos, negsuc}
use Rattle.std.specs.Bool.{Decides}
use Rattle.std.proofs.lemmas.Bool.{false≢true}
use Rattle.std.proofs.lemmas.Bool.Decides.{nat_tests, Decides-and, Decides-like}
use Rattle.std.proofs.lemmas.Int.{ints}
use Rattle.std.proofs.lemmas.Str.{IsUtf8-from_is_utf8, is_utf8-from_IsUtf8}
use Rattle.ipc_scalar.specs.Bytes.{IsBelow}
use Rattle.ipc_model.specs.declared.layout.Layout.{Layout}
use Rattle.ipc_model.specs.declared.layout.Layout.TheVariants as l
use Rattle.ipc_model.specs.declared.value.Value.{Value}
use Rattle.ipc_model.specs.declared.fault.Fault.TheVariants as fault
use Rattle.ipc_column.specs.checks.Checks.{all_slots, good, good_below, good_slot}
use Rattle.ipc_column.specs.Columns.{Column, Columns, none, column}
use Rattle.ipc_column.specs.checks.Rules.{IndicesHaveValues, HoldsIndices, TextsAreUtf8, HasUtf8Texts}
use Rattle.ipc_column.specs.Values.{is_valid, number_in, offset_position, place_below}
use Rattle.ipc_column.proofs.visited.Goods.{slots_at, slots_from}

-- one test where another holds
pub of_when : {P Q : Type 0} (x y : Bool) → Decides x P → Decides y Q → Decides (not x || y) (P → Q)
of_when true y p q = (λ e h. q.0 e, λ f. q.1 (f (p.0 refl)))
of_when false y p q = (λ e h. let z : false ≡ true = p.1 h in absurd (cc), λ f. refl)

-- ---- texts

-- a test of each slot of a range
decides_slots : (f : ℕ → Bool) (P : ℕ → Type 0) → ((i : ℕ) → Decides (f i) (P i)) → (a b : ℕ)
    → Decides (all_slots f a (b - a)) ((i : ℕ) → a ≤ i → i < b → P i)
decides_slots f P d a b = (
  λ e i l m. (d i).0 (slots_at f a b i e l m),
  λ h. slots_from f a b (λ i l m. (d i).1 (h i l m)),
)

of_text : (l : Layout) (d : List Value) (below : ℕ → ℕ → Bool) (P : ℕ → Type 0)
    → ((a b : ℕ) → Decides (below a b) ((i : ℕ) → a ≤ i → i < b → P i)) → (o w : List ℕ) (i : ℕ)
    → Decides (good_below fault.ValueNotUtf8 l d below o w i) (TextsAreUtf8 l P o w i)
of_text (l.VariableBytes true) _ below P d o w i = (λ e. IsUtf8-from_is_utf8 _ e, λ h. is_utf8-from_IsUtf8 _ h)
of_text l.Lists _ below P d o w i = d (offset_position o i) (offset_position o (i + 1))
of_text (l.FixedLists size) _ below P d o w i = d (size * i) (size * (i + 1))
of_text l.Structs _ below P d o w i = (
  λ e. (d i (i + 1)).0 e i (omega arith) (omega arith),
  λ h. (d i (i + 1)).1 (λ k a b. let e : i ≡ k = omega arith in subst P e h),
)
of_text _ _ below P d o w i = (λ e. tt, λ h. refl)

-- the test of a range of slots decides whether what is visible in each is UTF-8
pub of_good : (cs : Columns) (a b : ℕ)
    → Decides (good fault.ValueNotUtf8 cs a b) ((i : ℕ) → a ≤ i → i < b → HasUtf8Texts cs i)
of_good none a b = (λ e i l m. tt, λ h. refl)
of_good (column c children rest) a b =
    Decides-like _ (λ h i l m. (h.0 i l m, h.1 i l m)) (λ h. (λ i l m. (h i l m).0, λ i l m. (h i l m).1))
    (Decides-and _ _
    (decides_slots (good_slot fault.ValueNotUtf8 (good fault.ValueNotUtf8 children) c) (λ i. is_valid c.validity i ≡ true
    → TextsAreUtf8 c.layout (HasUtf8Texts children) c.offsets c.values i)
    (λ i. of_when (is_valid c.validity i) _ (λ e. e, λ e. e)
    (of_text c.layout c.dictionary (good fault.ValueNotUtf8 children) (HasUtf8Texts children) (of_good children) c.offsets c.values i)) a b)
    (of_good rest a b))

-- what a valid slot holds passes the test where its texts are UTF-8
pub own_good : (c : Column) (cs : Columns) (i : ℕ) → HasUtf8Texts (column c cs none) i → is_valid c.validity i ≡ true
    → good_below fault.ValueNotUtf8 c.layout c.dictionary (good fault.ValueNotUtf8 cs) c.offsets c.values i ≡ true
own_good c cs i h v =
    (of_text c.layout c.dictionary (good fault.ValueNotUtf8 cs) (HasUtf8Texts cs) (of_good cs) c.offsets c.values i).1 (h.0 v)

-- the texts of a slot that passes the test are UTF-8
pub slot_texts : (c : Column) (cs : Columns) (i : ℕ) → good_slot fault.ValueNotUtf8 (good fault.ValueNotUtf8 cs) c i ≡ true
    → HasUtf8Texts (column c cs none) i
slot_texts c cs i h = (
  (of_when (is_valid c.validity i) _ (λ e. e, λ e. e)
      (of_text c.layout c.dictionary (good fault.ValueNotUtf8 cs) (HasUtf8Texts cs) (of_good cs) c.offsets c.values i)).0 h,
  tt,
)

-- ---- indices

-- the test of an index decides whether it is one of a value
of_one : (d : List Value) (z : ℤ) → Decides (is_some (place_below (length d) z)) (IsBelow (length d) z)
of_one d (pos n) = elim (nat_lt n (length d)) as (λ b. nat_lt n (length d) ≡ b
    → Decides (is_some (cond b (Some n) None)) (IsBelow (length d) (pos n))) [
      | true ↦ λ e.
          let inside : n < length d = grind (arith, nat_tests, e) in
          (λ _. (omega (arith, ints), omega (arith, ints, inside)), λ _. refl)
      | false ↦ λ e. (
        λ h. absurd (false≢true h),
        λ h.
            let to = h.1 in
            let inside : n < length d = omega (arith, ints, to) in
            absurd (grind (arith, nat_tests, e, inside)),
      )
    ] refl
of_one d (negsuc n) = (λ e. absurd (false≢true e), λ h. let from = h.0 in absurd (omega (arith, ints, from)))

of_index : (l : Layout) (values : List Value) (below : ℕ → ℕ → Bool) (P : ℕ → Type 0)
    → ((a b : ℕ) → Decides (below a b) ((i : ℕ) → a ≤ i → i < b → P i)) → (o w : List ℕ) (i : ℕ)
    → Decides (good_below fault.BadIndex l values below o w i) (IndicesHaveValues l values P o w i)
of_index (l.Indices bits signed id) values below P d o w i = of_one values (number_in bits signed w i)
of_index (l.VariableBytes true) values below P d o w i = (λ e. tt, λ h. refl)
of_index l.Lists values below P d o w i = d (offset_position o i) (offset_position o (i + 1))
of_index (l.FixedLists size) values below P d o w i = d (size * i) (size * (i + 1))
of_index l.Structs values below P d o w i = (
  λ e. (d i (i + 1)).0 e i (omega arith) (omega arith),
  λ h. (d i (i + 1)).1 (λ k a b. let e : i ≡ k = omega arith in subst P e h),
)
of_index _ values below P d o w i = (λ e. tt, λ h. refl)

-- the test of a range of slots decides whether what is visible in each is an index of a value
pub of_indexed : (cs : Columns) (a b : ℕ) → Decides (good fault.BadIndex cs a b) ((i : ℕ) → a ≤ i → i < b → HoldsIndices cs i)
of_indexed none a b = (λ e i l m. tt, λ h. refl)
of_indexed (column c children rest) a b =
    Decides-like _ (λ h i l m. (h.0 i l m, h.1 i l m)) (λ h. (λ i l m. (h i l m).0, λ i l m. (h i l m).1))
    (Decides-and _ _
    (decides_slots (good_slot fault.BadIndex (good fault.BadIndex children) c) (λ i. is_valid c.validity i ≡ true
    → IndicesHaveValues c.layout c.dictionary (HoldsIndices children) c.offsets c.values i)
    (λ i. of_when (is_valid c.validity i) _ (λ e. e, λ e. e)
    (of_index c.layout c.dictionary (good fault.BadIndex children) (HoldsIndices children) (of_indexed children) c.offsets c.values i)) a b)
    (of_indexed rest a b))
