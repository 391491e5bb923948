-- Columns that stand alone, as the values of dictionaries.
use Rattle.std.proofs.Common.{◌≡◌, ◌∙◌, refl, sym, ap, subst, ℕ, zero, suc, ◌+◌, ◌<◌, Bool, true, false, List, [], ◌∷◌, ◌++◌, length}
use Rattle.std.proofs.Common.{map}
use Rattle.std.proofs.Common.{get_or, arith, Option, Some, None, cond}
use Rattle.std.specs.Prelude.{ℤ, pos, negsuc, slice_get, slice_index_or, nat_lt, not, ◌||◌}
use Rattle.std.specs.List.{AllByRecursion}
use Rattle.std.specs.Map.{lookup}
use Rattle.std.specs.Option.{option_map, unwrap_or}
use Rattle.std.specs.Ordering.{int_cmp}
use Rattle.std.specs.BTreeMap.{BTreeMap, is_at}
use Rattle.std.specs.declared.sync.Arc.{Arc}
use Rattle.std.proofs.lemmas.Bool.{false≢true}
use Rattle.std.proofs.lemmas.Bool.Decides.{nat_tests}
use Rattle.std.proofs.lemmas.List.{map-append}
use Rattle.std.proofs.lemmas.Map.Made.{lookup-map_values}
use Rattle.std.proofs.lemmas.Option.{get_or_from_slice_get}
use Rattle.std.proofs.Math.ListN.{get_or-eq_default}
use Rattle.ipc_model.specs.declared.value.Value.{Value}
use Rattle.ipc_model.specs.declared.value.Value.TheVariants as v
use Rattle.ipc_model.specs.declared.layout.Layout.{Layout}
use Rattle.ipc_model.specs.declared.layout.Layout.TheVariants as l
use Rattle.ipc_model.specs.declared.fault.Fault.{Fault}
use Rattle.ipc_model.specs.declared.fault.Fault.TheVariants as fault
use Rattle.ipc_column.specs.declared.batch.Shared.{Shared}
use Rattle.ipc_column.specs.declared.dictionary.Leaf.{Leaf}
use Rattle.ipc_column.specs.declared.ranges.ColumnRanges.{ColumnRanges}
use Rattle.ipc_column.specs.declared.ranges.ColumnRanges.TheViews.{out-ColumnRanges}
use Rattle.ipc_column.specs.checks.Checks.{PassTests, children_have_slots, good, good_below, in_order}
use Rattle.ipc_column.specs.Columns.{Column, Columns, none, column}
use Rattle.ipc_column.specs.Contents.{Contents}
use Rattle.ipc_column.specs.DictionaryBatches.{IsDictionary, dictionaries_in, dictionary_values}
use Rattle.ipc_column.specs.Dictionaries.{has_no_children, values_for}
use Rattle.ipc_column.specs.Leaves.{leaf_column, leaf_values}
use Rattle.ipc_column.specs.Lending.{AreAlone}
use Rattle.ipc_column.specs.Lent.{HoldSlots, column_of_buffers, values_in}
use Rattle.ipc_column.specs.Values.{first_of, is_valid, values_from, own_value, place_below, row, rows_of, value_at, value_of}
use Rattle.ipc_column.specs.Sharing.{contents_of}
use Rattle.ipc_column.specs.Views.{part_columns, column_of, children_of}
use Rattle.ipc_column.proofs.Cells.{items_more}
use Rattle.ipc_column.proofs.lending.Lent.{nested_layouts}
use Rattle.ipc_column.proofs.Found.{column_holds, column_slots, items_first}
use Rattle.ipc_column.proofs.Parts.{own_column, column_is}
use Rattle.ipc_column.proofs.lending.Slots.{items_length}

-- ---- layouts that stand alone

order_alone : (layout : Layout) (n : ℕ) (o : List ℕ) (size : ℕ) (cs : Columns) → has_no_children layout ≡ true
    → in_order layout n o size cs ≡ true → in_order layout n o size none ≡ true
order_alone l.Lists n o size cs a h = absurd (false≢true a)
order_alone (l.VariableBytes utf8) n o size cs a h = h
order_alone _ n o size cs a h = refl

long_alone : (layout : Layout) (n : ℕ) → has_no_children layout ≡ true → children_have_slots layout n none ≡ true
long_alone l.Structs n a = absurd (false≢true a)
long_alone (l.FixedLists size) n a = absurd (false≢true a)
long_alone _ n a = refl

good_alone : (why : Fault) (layout : Layout) (d e : List Value) (f g : ℕ → ℕ → Bool) (o w : List ℕ) (i : ℕ) → has_no_children layout ≡ true
    → good_below why layout d f o w i ≡ good_below why layout e g o w i
good_alone why l.Lists d e f g o w i a = absurd (false≢true a)
good_alone why (l.FixedLists size) d e f g o w i a = absurd (false≢true a)
good_alone why l.Structs d e f g o w i a = absurd (false≢true a)
good_alone why (l.Indices bits signed id) d e f g o w i a = absurd (false≢true a)
good_alone why (l.VariableBytes true) d e f g o w i a = refl
good_alone why (l.VariableBytes false) d e f g o w i a = refl
good_alone why l.Null d e f g o w i a = refl
good_alone why l.Bits d e f g o w i a = refl
good_alone why (l.Numbers bits signed) d e f g o w i a = refl
good_alone why (l.FixedBytes width) d e f g o w i a = refl

value_alone : (layout : Layout) (d e : List Value) (f g : ℕ → List Value) (o w : List ℕ) (i : ℕ) → has_no_children layout ≡ true
    → own_value layout d f o w i ≡ own_value layout e g o w i
value_alone l.Lists d e f g o w i a = absurd (false≢true a)
value_alone (l.FixedLists size) d e f g o w i a = absurd (false≢true a)
value_alone l.Structs d e f g o w i a = absurd (false≢true a)
value_alone (l.Indices bits signed id) d e f g o w i a = absurd (false≢true a)
value_alone (l.VariableBytes true) d e f g o w i a = refl
value_alone (l.VariableBytes false) d e f g o w i a = refl
value_alone l.Null d e f g o w i a = refl
value_alone l.Bits d e f g o w i a = refl
value_alone (l.Numbers bits true) d e f g o w i a = refl
value_alone (l.Numbers bits false) d e f g o w i a = refl
value_alone (l.FixedBytes width) d e f g o w i a = refl

-- the same column, without a dictionary
abbrev alone_of : Column → Column
alone_of c = column_of_buffers c.layout c.slots c.validity c.offsets c.values []

hold_alone : (c : Column) (cs : Columns) → has_no_children c.layout ≡ true → HoldSlots c cs → HoldSlots (alone_of c) none
hold_alone c cs a h = record {
  bitmap = h.bitmap;
  values = h.values;
  offsets = h.offsets;
  order = order_alone c.layout c.slots c.offsets (length c.values) cs a h.order;
  long = long_alone c.layout c.slots a;
  sound = λ why. refl;
  good = λ i m.
      ap (λ (b : Bool). not (is_valid c.validity i) || b) (good_alone fault.ValueNotUtf8 c.layout [] c.dictionary
      (good fault.ValueNotUtf8 none) (good fault.ValueNotUtf8 cs) c.offsets c.values i a) ∙ h.good i m;
}

values_alone : (c : Column) (cs : Columns) (i : ℕ) → has_no_children c.layout ≡ true
    → value_of (row none) (alone_of c) i ≡ value_of (row cs) c i
values_alone c cs i a =
    ap (λ (x : Value). cond (is_valid c.validity i) x v.Null)
    (value_alone c.layout [] c.dictionary (row none) (row cs) c.offsets c.values i a)

items_same : (f g : ℕ → Value) (i n : ℕ) → ((k : ℕ) → f k ≡ g k) → values_from f i n ≡ values_from g i n
items_same f g i zero e = refl
items_same f g i (suc n) e = rw (e i, items_same f g (i + 1) n e) refl

-- ---- the one column of some parts

-- the values of one column, row by row
firsts : (c : Column) (cs : Columns) (n : ℕ) → map first_of (rows_of (column c cs none) n) ≡ values_from (value_of (row cs) c) 0 n
firsts c cs zero = refl
firsts c cs (suc n) =
    let f = value_of (row cs) c in
    let e : suc n ≡ n + 1 = omega arith in
    let z : 0 + n ≡ n = omega arith in
    map-append first_of (rows_of (column c cs none) n) (row (column c cs none) n ∷ [])
    ∙ (ap (λ (vs : List Value). vs ++ f n ∷ []) (firsts c cs n)
    ∙ sym (ap (λ (k : ℕ). values_from f 0 k) e ∙ (items_more f 0 n ∙ ap (λ (k : ℕ). values_from f 0 n ++ f k ∷ []) z)))

one_part : (body : List ℕ) (ps : List ColumnRanges) (p : ColumnRanges) → AreAlone (part_columns body ps) → p ≡ get_or ps 0 p
    → (ps ≡ p ∷ []) × (has_no_children (column_of body p).layout ≡ true)
one_part body [] p a e = absurd (no_layout a.layout a.one)
  where
    no_layout : (x : Layout) → [] ≡ x ∷ [] → ⊥
    no_layout x e = let n = ap (λ (ls : List Layout). length ls) e in omega (arith, n)
one_part body (q ∷ []) p a e = (
  ap (λ (x : ColumnRanges). x ∷ []) (sym e),
  subst (λ (x : ColumnRanges). has_no_children (column_of body x).layout ≡ true) (sym e)
      (ap has_no_children (ap (λ (ls : List Layout). get_or ls 0 l.Null) a.one) ∙ a.alone),
)
one_part body (q ∷ r ∷ ps) p a e =
    let n = ap (λ (ls : List Layout). length ls) a.one in absurd (omega (arith, n))

pub some_part : (body : List ℕ) (ps : List ColumnRanges) → AreAlone (part_columns body ps) → 0 < length ps
some_part body [] a = let n = ap (λ (ls : List Layout). length ls) a.one in absurd (omega (arith, n))
some_part body (p ∷ ps) a = omega arith

-- one part that stands alone
pub alone_from : (body : List ℕ) (ps : List ColumnRanges) (p : ColumnRanges) → length ps ≡ 1 → p ≡ get_or ps 0 p
    → has_no_children (out-ColumnRanges p).layout ≡ true → AreAlone (part_columns body ps)
alone_from body [] p n e a = absurd (omega (arith, n))
alone_from body (q ∷ []) p n e a = record {
  layout = (column_of body q).layout;
  one = refl;
  alone = subst (λ (x : ColumnRanges). has_no_children (column_of body x).layout ≡ true) e
      (ap (λ (c : Column). has_no_children c.layout) (column_is body p) ∙ a);
}
alone_from body (q ∷ r ∷ ps) p n e a = absurd (omega (arith, n))

pub alone_one : (body : List ℕ) (ps : List ColumnRanges) → AreAlone (part_columns body ps) → length ps ≡ 1
alone_one body [] a = let n = ap (λ (ls : List Layout). length ls) a.one in absurd (omega (arith, n))
alone_one body (q ∷ []) a = omega arith
alone_one body (q ∷ r ∷ ps) a = let n = ap (λ (ls : List Layout). length ls) a.one in absurd (omega (arith, n))

pub alone_is : (body : List ℕ) (ps : List ColumnRanges) (p : ColumnRanges) → p ≡ get_or ps 0 p → AreAlone (part_columns body ps)
    → has_no_children (out-ColumnRanges p).layout ≡ true
alone_is body ps p e a = ap (λ (c : Column). has_no_children c.layout) (sym (column_is body p)) ∙ (one_part body ps p a e).1

module _ (body : List ℕ) (ps : List ColumnRanges) (n : ℕ) (p : ColumnRanges) (is : p ≡ get_or ps 0 p)
    (holds : PassTests n (part_columns body ps))
    (alone : AreAlone (part_columns body ps)) where
  pub part_alone : has_no_children (out-ColumnRanges p).layout ≡ true
  part_alone = ap (λ (c : Column). has_no_children c.layout) (sym (column_is body p)) ∙ (one_part body ps p alone is).1

  pub part_holds : HoldSlots (alone_of (own_column body p)) none
  part_holds =
      subst (λ (c : Column). HoldSlots (alone_of c) none) (column_is body p)
      (hold_alone (column_of body p) (children_of body p) (one_part body ps p alone is).1
      (column_holds body ps n 0 p (some_part body ps alone) is holds))

  pub part_firsts : values_in (alone_of (own_column body p)) none ≡ map first_of (rows_of (part_columns body ps) n)
  part_firsts =
      subst (λ (c : Column). values_in (alone_of c) none ≡ map first_of (rows_of (part_columns body ps) n)) (column_is body p)
      (items_same (value_of (row none) (alone_of (column_of body p))) (value_of (row (children_of body p)) (column_of body p)) 0
      (column_of body p).slots (λ i. values_alone (column_of body p) (children_of body p) i (one_part body ps p alone is).1)
      ∙ (ap (λ (k : ℕ). values_from (value_of (row (children_of body p)) (column_of body p)) 0 k)
      (column_slots body ps n 0 p (some_part body ps alone) is holds)
      ∙ (sym (firsts (column_of body p) (children_of body p) n)
      ∙ sym (ap (λ (qs : List ColumnRanges). map first_of (rows_of (part_columns body qs) n)) (one_part body ps p alone is).0))))

-- a batch of one column that stands alone is a dictionary
pub as_dictionary : (s : Shared) → AreAlone (part_columns s.body.value.items s.parts.items) → IsDictionary (contents_of s)
as_dictionary s a = record { layout = a.layout; one = nested_layouts s.body.value.items s.parts.items ∙ a.one; alone = a.alone }

pub from_dictionary : (s : Shared) → IsDictionary (contents_of s) → AreAlone (part_columns s.body.value.items s.parts.items)
from_dictionary s d = record { layout = d.layout; one = sym (nested_layouts s.body.value.items s.parts.items) ∙ d.one; alone = d.alone }

-- ---- values of a dictionary

pub leaf_length : (o : Option Leaf) (f : Leaf) → o ≡ Some f → length (leaf_values o) ≡ f.slots
leaf_length o f e =
    ap (λ (x : Option Leaf). length (leaf_values x)) e ∙ items_length (value_of (row none) (leaf_column f)) 0 f.slots

pub leaf_at : (o : Option Leaf) (f : Leaf) (i : ℕ) → o ≡ Some f → i < f.slots
    → slice_get (leaf_values o) i ≡ Some (value_of (row none) (leaf_column f) i)
leaf_at o f i e m =
    ap (λ (x : Option Leaf). slice_get (leaf_values x) i) e ∙ items_first (value_of (row none) (leaf_column f)) f.slots i m

-- ---- the map of dictionaries

module _ {Z : Type 0} where
  -- what a look-up in the shared map finds
  pub values_found : (m : BTreeMap ℤ (Arc Contents Z)) (id k : ℤ) (r : Option (Arc Contents Z)) → k ≡ id
      → r ≡ lookup (is_at (int_cmp k)) m.entries
      → unwrap_or (option_map (λ (x : Arc Contents Z). dictionary_values x.value) r) [] ≡ values_for (dictionaries_in m) id
  values_found m id k r same there =
      let g : Arc Contents Z → List Value = λ x. dictionary_values x.value in
      ap (λ (o : Option (Arc Contents Z)). unwrap_or (option_map g o) []) there
      ∙ ap (λ (o : Option (List Value)). unwrap_or o []) (sym (lookup-map_values g (is_at (int_cmp k)) m.entries))
      ∙ ap (values_for (dictionaries_in m)) same

  -- what holds of each entry holds of the one that is found
  pub entry_found : (P : Arc Contents Z → Type 0) (test : ℤ → Bool) (es : List (ℤ × Arc Contents Z)) (x : Arc Contents Z)
      → AllByRecursion (λ e. P e.1) es → Some x ≡ lookup test es → P x
  entry_found P test [] x all e = absurd (cc)
  entry_found P test (y ∷ es) x all e =
      here (test y.0) refl (λ later. entry_found P test es x all.1 later)
    where
      here : (b : Bool) → test y.0 ≡ b → (Some x ≡ lookup test es → P x) → P x
      here true t more = let same : Some x ≡ Some y.1 = e ∙ ap (λ (b : Bool). cond b (Some y.1) (lookup test es)) t in
          let one : x ≡ y.1 = cc in subst P (sym one) all.0
      here false t more = more (e ∙ ap (λ (b : Bool). cond b (Some y.1) (lookup test es)) t)

-- ---- an index

pub index_value : (dictionary : List Value) (z : ℤ) (i : ℕ) (x : Value) → place_below (length dictionary) z ≡ Some i
    → slice_get dictionary i ≡ Some x → value_at dictionary z ≡ x
index_value dictionary (pos n) i x e h = known (nat_lt n (length dictionary)) refl
  where
    known : (b : Bool) → nat_lt n (length dictionary) ≡ b → slice_index_or dictionary n v.Null ≡ x
    known true t =
        let same : Some n ≡ Some i = sym (ap (λ (b : Bool). cond b (Some n) None) t) ∙ e in
        let one : n ≡ i = cc in
        get_or_from_slice_get dictionary n x v.Null (ap (slice_get dictionary) one ∙ h)
    known false t = absurd (cc)
index_value dictionary (negsuc n) i x e h = absurd (cc)

pub no_value : (dictionary : List Value) (z : ℤ) → place_below (length dictionary) z ≡ None → value_at dictionary z ≡ v.Null
no_value dictionary (pos n) e = known (nat_lt n (length dictionary)) refl
  where
    known : (b : Bool) → nat_lt n (length dictionary) ≡ b → slice_index_or dictionary n v.Null ≡ v.Null
    known true t = let same : Some n ≡ None = sym (ap (λ (b : Bool). cond b (Some n) None) t) ∙ e in absurd (cc)
    known false t = get_or-eq_default dictionary v.Null (grind (arith, nat_tests, t))
no_value dictionary (negsuc n) e = refl

pub index_within : (n : ℕ) (z : ℤ) (i : ℕ) → place_below n z ≡ Some i → i < n
index_within n (pos k) i e = known (nat_lt k n) refl
  where
    known : (b : Bool) → nat_lt k n ≡ b → i < n
    known true t =
        let same : Some k ≡ Some i = sym (ap (λ (b : Bool). cond b (Some k) None) t) ∙ e in
        let one : k ≡ i = cc in
        let inside : k < n = grind (arith, nat_tests, t) in
        omega (arith, one, inside)
    known false t = absurd (cc)
index_within n (negsuc k) i e = absurd (cc)
