use Rattle.std.proofs.Common.{◌≡◌, ◌∙◌, sym, ap, subst, ℕ, ℤ, ◌<◌, ◌≤◌, ◌++◌, List, Option, length, get_or, to_z, of_z, w64, arith}
use Rattle.std.proofs.Common.{inl, inr}
use Rattle.std.proofs.lemmas.Bool.{cases_lt}
use Rattle.std.proofs.lemmas.Int.{to_z-of_z}
use Rattle.std.proofs.lemmas.List.{append-nil, take_all}
use Rattle.std.specs.Prelude.{IfSome, is_some}
use Rattle.ipc_model.specs.declared.value.Value.{Value}
use Rattle.ipc_model.specs.declared.value.Value.TheVariants.{Null}
use Rattle.ipc_column.specs.Nested.{slot_values}
use Rattle.ipc_column.specs.Values.{is_valid}
use Rattle.ipc_encode.specs.Cells.{is_set, number_bits, slots}
use Rattle.ipc_encode.specs.Numbers.{as_number, index_of, known_indices, new_indices, numbers_of}
use Rattle.ipc_encode.specs.Pieces.{Number, Valid}
use Rattle.ipc_encode.proofs.Bits.{all_marked}
use Rattle.ipc_encode.proofs.EntryNumbers.{numbers_pushed}
use Rattle.ipc_encode.proofs.Indexed.{numbers_length}
use Rattle.ipc_encode.proofs.indexed_columns.push_slot_numbers.Goals as goal

pub loop-slot-init : goal.loop-slot-init
loop-slot-init g c = record {
  noted = c.in_ok-table.ensures (new_indices (g.N.Renumber.number c.args.numbers.now) (known_indices
      (g.I.IndexOf.index c.args.indices.now)) (to_z w64 (of_z w64 c.args.id)));
  marked = λ i m. absurd (omega (arith, m));
  pushed = sym (append-nil c.args.values.now.items);
}

pub loop-slot-preserved : goal.loop-slot-preserved
loop-slot-preserved g c =
    let f = new_indices (g.N.Renumber.number c.args.numbers.now) (known_indices (g.I.IndexOf.index c.args.indices.now))
    (to_z w64 (of_z w64 c.args.id)) in
    let marks = c.args.view.now.column.validity in
    let vs = slot_values c.args.view.now in
    let slot = c.loop-slot.slot in
    let inside : slot < length vs = omega (arith, c.loop-slot-test.true, c.loop-slot.auto.slot-end, c.len-slot-end.ensures) in
    let now = c.in_ok-number.ensures.marked (ap is_some c.in-Some.is) in
    let is = subst (λ (o : Option ℕ). IfSome o (λ n. n ≡ number_bits (as_number (index_of f (get_or vs slot Null))))) c.in-Some.is
    c.in_ok-number.ensures.number in
    record {
      noted = c.in_ok-number.ensures.noted;
      marked = λ i below. elim (cases_lt i slot) as (λ _. is_set Valid (get_or vs i Null) ≡ is_valid marks i) [
        | inl before ↦ c.loop-slot.invariant.marked i before
        | inr after ↦ subst (λ (k : ℕ). is_set Valid (get_or vs k Null) ≡ is_valid marks k)
            (let same : slot ≡ i = omega (arith, below, after) in same) now
      ];
      pushed = numbers_pushed f c.args.bits vs slot c.in-Some.number c.args.values.now.items c.loop-slot.values.items
          c.push_bits.new.values.items inside is c.loop-slot.invariant.pushed c.in_ok-push_bits.ensures;
    }

pub returns-clause-marks : goal.returns-clause-marks
returns-clause-marks g c = λ all.
    all_marked c.args.view.now.column.validity (slot_values c.args.view.now) (λ i m. c.loop-slot.invariant.marked i
    (omega (arith, m, c.loop-slot-test.false, c.len-slot-end.ensures)))

pub returns-clause-numbers : goal.returns-clause-numbers
returns-clause-numbers g c = λ all.
    let number = g.N.Renumber.number c.args.numbers.now in
    let known = known_indices (g.I.IndexOf.index c.args.indices.now) in
    let id = to_z w64 (of_z w64 c.args.id) in
    let vs = slot_values c.args.view.now in
    let ns = numbers_of (new_indices number known id) vs in
    let size = numbers_length (new_indices number known id) vs in
    let whole : length ns ≤ c.loop-slot.slot = omega (
      arith,
      size,
      c.loop-slot-test.false,
      c.loop-slot.auto.slot-end,
      c.len-slot-end.ensures,
    ) in
    c.loop-slot.invariant.pushed
    ∙ (ap (λ (ws : List Value). c.args.values.now.items ++ slots (Number c.args.bits) ws) (take_all c.loop-slot.slot ns whole)
    ∙ ap (λ (z : ℤ). c.args.values.now.items ++ slots (Number c.args.bits) (numbers_of (new_indices number known z) vs))
    (to_z-of_z w64 c.args.id c.ranges.id))
