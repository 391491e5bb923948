use Rattle.std.proofs.Common.{◌∙◌, refl, sym, ap, subst, ◌+◌, ◌<◌, ◌≤◌, List, length, drop, get_or, arith}
use Rattle.std.proofs.Math.ListN.{drop_of_length-le}
use Rattle.std.proofs.lemmas.Result.{err_from_is_err_and}
use Rattle.std.proofs.lemmas.Option.{slice_get-get_or}
use Rattle.ipc_model.specs.declared.value.Value.{Value}
use Rattle.ipc_model.specs.declared.value.Value.TheVariants.{Null}
use Rattle.ipc_column.specs.Nested.{slot_values}
use Rattle.ipc_encode.proofs.Copied.{column_cells}
use Rattle.ipc_dict.specs.Noting.{note_all, IsIndexOverflow}
use Rattle.ipc_dict.specs.Pairs.{pairs, items_pairs}
use Rattle.ipc_dict.proofs.ColumnNotes.{own_value}
use Rattle.ipc_dict.proofs.Notes.{all_grow_same, all_grow_trans}
use Rattle.ipc_dict.proofs.Walks.{full-step, items-step, noted-step}
use Rattle.ipc_dict.proofs.column_notes.note_column.Goals as goal

pub loop-slot-init : goal.loop-slot-init
loop-slot-init c = record {
  noted = refl;
  kept = c.in_ok-noted.ensures c.args.entries.now c.args.field.now;
  fits = λ h. h;
  grows = all_grow_same c.args.entries.now;
}

pub loop-slot-preserved : goal.loop-slot-preserved
loop-slot-preserved c =
    let inv = c.loop-slot.invariant in
    let vs = slot_values c.slots-slots.result in
    let w = pairs c.args.field.now in
    let i = c.loop-slot.slot in
    let inside : i < length vs = omega (arith, c.loop-slot-test.true, c.loop-slot.auto.slot-end, c.len-slot-end.ensures) in
    let v = get_or vs i Null in
    let now = c.in_ok-note_slot.ensures.noted v inv.kept (slice_get-get_or vs i Null inside) in
    record {
      noted = noted-step c.args.entries.now c.loop-slot.entries c.note_slot.new.entries (items_pairs w vs) (items_pairs w (drop i vs)) (w v)
          (items_pairs w (drop (i + 1) vs)) inv.noted (items-step w vs i v inside (own_value vs i inside)) now;
      kept = c.in_ok-note_slot.ensures.kept inv.kept;
      fits = λ h. c.in_ok-note_slot.ensures.fits (inv.fits h);
      grows = all_grow_trans _ _ _ inv.grows c.in_ok-note_slot.ensures.grows;
    }

pub returns-clause-noted : goal.returns-clause-noted
returns-clause-noted c =
    let inv = c.loop-slot.invariant in
    let vs = slot_values c.slots-slots.result in
    let w = pairs c.args.field.now in
    let past : length vs ≤ c.loop-slot.slot = omega (arith, c.loop-slot-test.false, c.loop-slot.auto.slot-end, c.len-slot-end.ensures) in
    ap (λ (xs : List Value). note_all c.loop-slot.entries (items_pairs w xs)) (sym (drop_of_length-le vs past))
    ∙ (inv.noted
    ∙ ap (λ (xs : List Value). note_all c.args.entries.now (items_pairs w xs))
    (sym (column_cells c.args.batch.now.rows c.args.column vs c.slots-slots.ensures.values)))

pub returns-in_err-note_slot-clause-full : goal.returns-in_err-note_slot-clause-full
returns-in_err-note_slot-clause-full c =
    let inv = c.loop-slot.invariant in
    let vs = slot_values c.slots-slots.result in
    let w = pairs c.args.field.now in
    let i = c.loop-slot.slot in
    let inside : i < length vs = omega (arith, c.loop-slot-test.true, c.loop-slot.auto.slot-end, c.len-slot-end.ensures) in
    let v = get_or vs i Null in
    let full = c.in_err-note_slot.ensures.full v (slice_get-get_or vs i Null inside) in
    let p = err_from_is_err_and c.from_residual-in_err-note_slot.result c.from_residual-in_err-note_slot.ensures.1 in
    rw (p.1, p.2) (λ same.
    subst (λ (xs : List Value). IsIndexOverflow (note_all c.args.entries.now (items_pairs w xs)))
    (sym (column_cells c.args.batch.now.rows c.args.column vs c.slots-slots.ensures.values))
    (full-step c.args.entries.now c.loop-slot.entries c.loop-slot.entries (items_pairs w vs) (items_pairs w (drop i vs)) (w v)
    (items_pairs w (drop (i + 1) vs)) inv.noted (items-step w vs i v inside (own_value vs i inside)) (full same)))
