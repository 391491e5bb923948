use Rattle.std.proofs.Common.{◌≡◌, ◌∙◌, sym, ap, ℕ, ◌+◌, ◌*◌, ◌<◌, List, false, true, Some, length, take, arith}
use Rattle.std.specs.Prelude.{◌==◌, slice_get}
use Rattle.std.proofs.lemmas.Bool.{eqb-true}
use Rattle.ipc_column.proofs.SlotValues.{some_same}
use Rattle.ipc_column.specs.Nested.{Nested, slot_values}
use Rattle.ipc_column.specs.Slots.{nested_in}
use Rattle.ipc_column.specs.Values.{is_valid}
use Rattle.ipc_encode.proofs.LentBuffers.{buffers_bits, start_of}
use Rattle.ipc_encode.proofs.NestedSlots.{list_few, list_gives, list_offsets_are, list_offsets_there, list_spells, no_data, no_lists}
use Rattle.ipc_encode.proofs.canonical.lists_use_all_items.Goals as goal

pub nulls_are_empty-requires-clause-bits : goal.nulls_are_empty-requires-clause-bits
nulls_are_empty-requires-clause-bits c =
    buffers_bits c.args.view.now c.buffers-buffers.result c.buffers-buffers.ensures c.len-count.result c.len-count.ensures

pub nulls_are_empty-requires-clause-offsets : goal.nulls_are_empty-requires-clause-offsets
nulls_are_empty-requires-clause-offsets c =
    let there = list_offsets_there c.args.view.now c.buffers-buffers.result c.buffers-buffers.ensures c.in-Lists.is
    (omega (arith, c.if-count-eq0.false, c.len-count.ensures)) in
    omega (arith, there, c.len-count.ensures)

pub offset_at-end-requires : goal.offset_at-end-requires
offset_at-end-requires c =
    let there = list_offsets_there c.args.view.now c.buffers-buffers.result c.buffers-buffers.ensures c.in-Lists.is
    (omega (arith, c.if-count-eq0.false, c.len-count.ensures)) in
    omega (arith, there, c.len-count.ensures)

-- a child with no slots
none_there : (own child : Nested) (len : ℕ) → len == 0 ≡ true → own ≡ child → len ≡ length (slot_values own)
    → length (slot_values child) ≡ 0
none_there own child len none same size =
    ap (λ (n : Nested). length (slot_values n)) (sym same) ∙ (sym size ∙ eqb-true len 0 none)

pub returns-then-count-eq0 : goal.returns-then-count-eq0
returns-then-count-eq0 c = λ none.
    let s = c.args.view.now in
    let empty : length (slot_values s) ≡ 0 = sym c.len-count.ensures ∙ c.if-count-eq0.true in
    let below : (child : Nested) → slice_get (nested_in s) 0 ≡ Some child → length (slot_values child) ≡ 0 =
    λ child is. none_there c.child-child.result child c.len.result none
    (some_same c.child-child.result child (sym c.child-child.ensures ∙ is)) c.len.ensures in
    record {
      offsets_are = λ some. absurd (omega (arith, some, empty));
      few = no_data (slot_values s) empty;
      slots = λ child is. no_lists (slot_values s) (slot_values child) empty (below child is);
      texts = λ child is spelled i m. let nothing = below child is in absurd (omega (arith, m, nothing));
    }

pub returns-then-start-eq0 : goal.returns-then-start-eq0
returns-then-start-eq0 c = λ ended.
    let s = c.args.view.now in
    let b = c.buffers-buffers.result in
    let h = c.buffers-buffers.ensures in
    let size = c.len-count.ensures in
    let some : 0 < length (slot_values s) = omega (arith, c.if-count-eq0.false, size) in
    let small = c.nulls_are_empty.ensures.bytes in
    let empty : (i : ℕ) → i < length (slot_values s) → is_valid b.validity.now i ≡ false
    → start_of b.offsets.now (i + 1) ≡ start_of b.offsets.now i =
    λ i m. c.nulls_are_empty.ensures.empty c.if-not-nulls_are_empty.false i (omega (arith, m, size)) in
    let first : start_of b.offsets.now 0 ≡ 0 = sym c.offset_at-start.ensures ∙ c.if-start-eq0.true in
    let last : (child : Nested) → slice_get (nested_in s) 0 ≡ Some child
    → start_of b.offsets.now (length (slot_values s)) ≡ length (slot_values child) =
    λ child is.
    ap (start_of b.offsets.now) (sym size)
    ∙ (sym c.offset_at-end.ensures ∙ (eqb-true c.offset_at-end.result c.len-then-start-eq0.result ended
    ∙ (c.len-then-start-eq0.ensures ∙ ap (λ (n : Nested). length (slot_values n))
    (some_same c.child-child.result child (sym c.child-child.ensures ∙ is))))) in
    record {
      offsets_are = λ more. ap (λ (o : List ℕ). take (4 * (length (slot_values s) + 1)) o) (sym h.offsets)
          ∙ list_offsets_are s b h c.in-Lists.is some small empty first;
      few = list_few s b h c.in-Lists.is some small empty first;
      slots = λ child is. list_gives s b h c.in-Lists.is some small empty child is first (last child is);
      texts = λ child is spelled. list_spells s b h c.in-Lists.is some small empty child is first (last child is) spelled;
    }
