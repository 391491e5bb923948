use Rattle.std.proofs.Common.{◌≡◌, ◌∙◌, sym, ap, subst, get_or, ℕ, ◌<◌, Bool, false, List, Option, Some, None, length, cond, IfSome, IfNone}
use Rattle.std.specs.Prelude.{ℤ, slice_get}
use Rattle.std.proofs.lemmas.Option.{slice_get-get_or}
use Rattle.ipc_model.specs.declared.layout.Layout.{Layout}
use Rattle.ipc_model.specs.declared.layout.Layout.TheVariants.{Indices}
use Rattle.ipc_model.specs.declared.schema.IntBits.{IntBits}
use Rattle.ipc_model.specs.declared.value.Value.{Value}
use Rattle.ipc_model.specs.declared.value.Value.TheVariants as v
use Rattle.ipc_column.specs.Leaves.{values_or_none}
use Rattle.ipc_column.specs.Lent.{column_of_buffers}
use Rattle.ipc_column.specs.Nested.{Nested, slot_values}
use Rattle.ipc_column.specs.Values.{is_valid, number_in, own_value, place_below, row, value_at}
use Rattle.ipc_column.specs.Views.{part_columns}
use Rattle.ipc_column.proofs.Alone.{index_value, index_within, no_value}
use Rattle.ipc_column.proofs.lending.Lendings.{entry_held, null_holds, other_holds}
use Rattle.ipc_column.specs.Lending.{HoldsEntry}
use Rattle.ipc_column.proofs.visited.Leads.{slot_inside, slot_shows}
use Rattle.ipc_column.proofs.lending.Slots.{bitmap_front}
use Rattle.ipc_column.proofs.lending.Widths.{slot_inside as width_inside}
use Rattle.ipc_column.proofs.slot_view.SlotView.entry_at.Goals as goal

pub is_valid-valid-requires : goal.is_valid-valid-requires
is_valid-valid-requires c =
    let s = c.self.inside in
    bitmap_front s.slots c.args.slot (length s.validity.now) c.self.invariant.bitmap
    (slot_inside (column_of_buffers s.layout s.slots s.validity.now s.offsets.now s.values.now
    (values_or_none s.dictionary)) s.body.now s.children.now
    c.args.self.now c.args.slot
    c.self.view_is c.requires)

pub returns-then-not-valid-clause-null : goal.returns-then-not-valid-clause-null
returns-then-not-valid-clause-null c = λ bits signed id e.
    let s = c.self.inside in
    slot_shows (column_of_buffers s.layout s.slots s.validity.now s.offsets.now s.values.now
    (values_or_none s.dictionary)) s.body.now s.children.now
    c.args.self.now c.args.slot
    c.self.view_is c.requires
    ∙ ap (λ (b : Bool). Some (cond b (own_value s.layout (values_or_none s.dictionary) (row
    (part_columns s.body.now s.children.now)) s.offsets.now s.values.now c.args.slot)
    v.Null)) (sym c.is_valid-valid.ensures ∙ c.if-not-valid.true)

pub index_in-requires : goal.index_in-requires
index_in-requires c =
    let s = c.self.inside in
    width_inside _ s.slots c.args.slot (length s.values.now) (rw c.in-Indices.is at c.self.invariant.values)
    (slot_inside (column_of_buffers s.layout s.slots s.validity.now s.offsets.now s.values.now
    (values_or_none s.dictionary)) s.body.now s.children.now
    c.args.self.now c.args.slot
    c.self.view_is c.requires)

-- what the slot shows, a value of the dictionary
shows : (c : goal.After-index_in) → slice_get (slot_values c.args.self.now) c.args.slot
    ≡ Some (value_at
    (values_or_none c.self.inside.dictionary) (number_in c.in-Indices.bits c.in-Indices.signed c.self.inside.values.now c.args.slot))
shows c =
    let s = c.self.inside in
    let below = row (part_columns s.body.now s.children.now) in
    slot_shows (column_of_buffers s.layout s.slots s.validity.now s.offsets.now s.values.now
    (values_or_none s.dictionary)) s.body.now s.children.now
    c.args.self.now c.args.slot
    c.self.view_is c.requires
    ∙ (ap (λ (b : Bool). Some (cond b (own_value s.layout
    (values_or_none s.dictionary) below s.offsets.now s.values.now c.args.slot) v.Null))
    (sym c.is_valid-valid.ensures ∙ c.if-not-valid.false)
    ∙ ap (λ (l : Layout). Some (own_value l (values_or_none s.dictionary) below s.offsets.now s.values.now c.args.slot)) c.in-Indices.is)

-- an index is that of a value, or the slot shows null
entry : (dictionary : List Value) (z : ℤ) (r : Option ℕ) (shown : Option Value) → r ≡ place_below (length dictionary) z
    → shown ≡ Some (value_at dictionary z)
    → IfSome r (λ i. slice_get dictionary i ≡ shown) × IfNone r (shown ≡ Some v.Null)
entry dictionary z None shown r s = (tt, s ∙ ap (λ (x : Value). Some x) (no_value dictionary z (sym r)))
entry dictionary z (Some i) shown r s =
    let got = slice_get-get_or dictionary i v.Null (index_within (length dictionary) z i (sym r)) in
    (got ∙ (ap (λ (x : Value). Some x) (sym (index_value dictionary z i (get_or dictionary i v.Null) (sym r) got)) ∙ sym s), tt)

known : (c : goal.After-index_in) → c.index_in.result
    ≡ place_below (length
    (values_or_none c.self.inside.dictionary)) (number_in c.in-Indices.bits c.in-Indices.signed c.self.inside.values.now
    c.args.slot)
known c = c.index_in.ensures ∙ ap (λ (n : ℕ). place_below n (number_in c.in-Indices.bits c.in-Indices.signed c.self.inside.values.now
    c.args.slot)) c.value_count-count.ensures

pub returns-in-Indices-clause-within : goal.returns-in-Indices-clause-within
returns-in-Indices-clause-within c =
    subst (λ (n : Nested). IfSome c.index_in.result (λ i. i < length n.column.dictionary)) c.self.view_is (inside c.index_in.result
    (known c))
  where
    inside : (r : Option ℕ) → r ≡ place_below (length
        (values_or_none c.self.inside.dictionary)) (number_in c.in-Indices.bits c.in-Indices.signed
        c.self.inside.values.now c.args.slot) → IfSome r (λ i. i < length (values_or_none c.self.inside.dictionary))
    inside None e = tt
    inside (Some i) e = index_within _ _ i (sym e)

pub returns-in-Indices-clause-shows : goal.returns-in-Indices-clause-shows
returns-in-Indices-clause-shows c =
    subst (λ (n : Nested). IfSome c.index_in.result (λ i. slice_get n.column.dictionary i
    ≡ slice_get (slot_values c.args.self.now) c.args.slot))
    c.self.view_is (entry (values_or_none c.self.inside.dictionary) _ c.index_in.result _ (known c) (shows c)).0

pub returns-in-Indices-clause-null : goal.returns-in-Indices-clause-null
returns-in-Indices-clause-null c = λ bits signed id e.
    (entry (values_or_none c.self.inside.dictionary) _ c.index_in.result _ (known c) (shows c)).1

-- ---- the index itself

pub returns-then-not-valid-clause-none : goal.returns-then-not-valid-clause-none
returns-then-not-valid-clause-none c = null_holds c.args.self.now c.args.slot
    (subst (λ (n : Nested). is_valid n.column.validity c.args.slot ≡ false) c.self.view_is
    (sym c.is_valid-valid.ensures ∙ c.if-not-valid.true))

held : (c : goal.After-index_in) → IfSome c.index_in.result (λ i. HoldsEntry c.args.self.now c.args.slot i)
    × IfNone c.index_in.result ((i : ℕ) → ¬ HoldsEntry c.args.self.now c.args.slot i)
held c =
    let s = c.self.inside in
    subst (λ (n : Nested). IfSome c.index_in.result (λ i. HoldsEntry n c.args.slot i)
    × IfNone c.index_in.result ((i : ℕ) → ¬ HoldsEntry n c.args.slot i)) c.self.view_is
    (entry_held (record {
      column = column_of_buffers s.layout s.slots s.validity.now s.offsets.now s.values.now (values_or_none s.dictionary);
      body = s.body.now;
      children = s.children.now;
    }) c.args.slot c.in-Indices.bits c.in-Indices.signed c.in-Indices.id c.index_in.result c.in-Indices.is
    (sym c.is_valid-valid.ensures ∙ c.if-not-valid.false) (known c))

pub returns-in-Indices-clause-entry : goal.returns-in-Indices-clause-entry
returns-in-Indices-clause-entry c = (held c).0

pub returns-in-Indices-clause-none : goal.returns-in-Indices-clause-none
returns-in-Indices-clause-none c = (held c).1

pub returns-in_default-clause-none : goal.returns-in_default-clause-none
returns-in_default-clause-none c = other_holds c.args.self.now c.args.slot
    (subst (λ (n : Nested). (bits : IntBits) (signed : Bool) (id : ℤ) → ¬ (n.column.layout ≡ Indices bits signed id))
    c.self.view_is c.in_default.not-Indices)
