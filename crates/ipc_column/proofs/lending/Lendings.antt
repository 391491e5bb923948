-- What buffers that are lent have, as tests that compute, and which index a slot holds.
use Rattle.std.proofs.Common.{◌≡◌, ◌∙◌, sym, ap, ℕ, ◌<◌, Bool, true, false, cond, Option, Some, None, IfSome, IfNone, length, arith}
use Rattle.std.specs.Prelude.{ℤ, pos, negsuc, nat_lt}
use Rattle.std.proofs.lemmas.Bool.{and_from, and_parts, false≢true}
use Rattle.std.proofs.lemmas.Bool.Decides.{nat_tests}
use Rattle.ipc_model.specs.declared.layout.Layout.TheVariants as l
use Rattle.ipc_model.specs.declared.schema.IntBits.{IntBits}
use Rattle.ipc_column.specs.declared.buffers.Buffers.{Buffers}
use Rattle.ipc_column.specs.checks.Checks.{has_bitmap, holds_offsets, holds_values, in_order}
use Rattle.ipc_column.specs.Columns.{Column, Columns}
use Rattle.ipc_column.specs.Lending.{AreBuffers, HoldsEntry}
use Rattle.ipc_column.specs.Lent.{AreFound}
use Rattle.ipc_column.specs.Nested.{Nested, child_columns}
use Rattle.ipc_column.specs.checks.Rules.{HasLongChildren, HasOffsets, IsLongEnough}
use Rattle.ipc_column.specs.Values.{is_valid, number_in, place_below}
use Rattle.ipc_column.proofs.Alone.{index_within}
use Rattle.ipc_column.proofs.Rules.{of_bytes, of_long, of_order}

-- the buffers of a column that was found have what the standard asks
pub found_long : (c : Column) (children : Columns) → AreFound c children → IsLongEnough c
found_long c children h = (of_bytes c children).0 (and_from _ _ h.bitmap (and_from _ _ h.values h.offsets))

pub found_order : (c : Column) (children : Columns) → AreFound c children
    → HasOffsets c.layout c.slots c.offsets (length c.values) children
found_order c children h = (of_order c.layout c.slots c.offsets (length c.values) children).0 h.order (found_long c children h).offsets

pub found_children : (c : Column) (children : Columns) → AreFound c children → HasLongChildren c.layout c.slots children
found_children c children h = (of_long c.layout c.slots children).0 h.long

module _ (s : Nested) (b : Buffers) (h : AreBuffers s b) where
  pub lent_bitmap : has_bitmap s.column.slots (length s.column.validity) ≡ true
  lent_bitmap = (and_parts _ _ ((of_bytes s.column (child_columns s)).1 h.long_enough)).0

  pub lent_values : holds_values s.column.layout s.column.slots (length s.column.values) ≡ true
  lent_values = (and_parts _ _ (and_parts _ _ ((of_bytes s.column (child_columns s)).1 h.long_enough)).1).0

  pub lent_offsets : holds_offsets s.column.layout s.column.slots (length s.column.offsets) ≡ true
  lent_offsets = (and_parts _ _ (and_parts _ _ ((of_bytes s.column (child_columns s)).1 h.long_enough)).1).1

  pub lent_order : in_order s.column.layout s.column.slots s.column.offsets (length s.column.values) (child_columns s) ≡ true
  lent_order = (of_order s.column.layout s.column.slots s.column.offsets (length s.column.values) (child_columns s)).1
      (λ whole. h.in_order)

-- ---- indices

-- a null slot holds none
pub null_holds : (s : Nested) (k : ℕ) → is_valid s.column.validity k ≡ false → (i : ℕ) → ¬ HoldsEntry s k i
null_holds s k null i h = false≢true (sym null ∙ h.valid)

-- a slot of another layout holds none
pub other_holds : (s : Nested) (k : ℕ) → ((bits : IntBits) (signed : Bool) (id : ℤ) → ¬ (s.column.layout ≡ l.Indices bits signed id))
    → (i : ℕ) → ¬ HoldsEntry s k i
other_holds s k other i h = other h.bits h.signed h.id h.layout

place_is : (n : ℕ) (z : ℤ) (i : ℕ) → place_below n z ≡ Some i → z ≡ pos i
place_is n (pos m) i h = by_test (nat_lt m n) h
  where
    by_test : (b : Bool) → cond b (Some m) None ≡ Some i → pos m ≡ pos i
    by_test true e = cc
    by_test false e = absurd cc
place_is n (negsuc m) i h = absurd cc

is_place : (n i : ℕ) → i < n → place_below n (pos i) ≡ Some i
is_place n i m = let fits : nat_lt i n ≡ true = grind (arith, nat_tests) in rw fits (refl_some i)
  where
    refl_some : (j : ℕ) → Some j ≡ Some j
    refl_some j = cc

-- a valid slot of indices holds the one that is found, or none
pub entry_held : (s : Nested) (k : ℕ) (bits : IntBits) (signed : Bool) (id : ℤ) (r : Option ℕ)
    → s.column.layout ≡ l.Indices bits signed id → is_valid s.column.validity k ≡ true
    → r ≡ place_below (length s.column.dictionary) (number_in bits signed s.column.values k)
    → IfSome r (λ i. HoldsEntry s k i) × IfNone r ((i : ℕ) → ¬ HoldsEntry s k i)
entry_held s k bits signed id (Some i) laid valid is = (
  record {
    bits = bits;
    signed = signed;
    id = id;
    layout = laid;
    valid = valid;
    index = place_is _ _ i (sym is);
    within = index_within _ _ i (sym is);
  },
  tt,
)
entry_held s k bits signed id None laid valid is = (
  tt,
  λ i h.
      let same : l.Indices h.bits h.signed h.id ≡ l.Indices bits signed id = sym h.layout ∙ laid in
      let width : h.bits ≡ bits = cc in
      let sign : h.signed ≡ signed = cc in
      let number : number_in bits signed s.column.values k ≡ pos i =
      rw (width, sign) at h.index in
      let found : place_below (length s.column.dictionary) (pos i) ≡ Some i = is_place _ i h.within in
      let none : None ≡ Some i = is ∙ (ap (place_below (length s.column.dictionary)) number ∙ found) in
      absurd cc,
)
