use Rattle.std.proofs.Common.{rules, ◌≡◌, sym, ap, subst, arith, map, drop, ◌+◌, IfErr, Result, Err}
use Rattle.std.proofs.lemmas.Result.{err_from_is_err_and}
use Rattle.ipc_encode.specs.declared.fault.PushFault.{PushFault}
use Rattle.ipc_encode.specs.declared.fault.PushFault.TheVariants as fault
use Rattle.ipc_dict.specs.Noting.{note_all, IsIndexOverflow}
use Rattle.ipc_dict.specs.Pairs.{pairs, items_pairs, each_pairs}
use Rattle.ipc_dict.proofs.Notes.{all_grow_trans}
use Rattle.ipc_dict.proofs.Walks.{items-step, each-step, noted-step, full-step, no_pairs, struct_pairs}
use Rattle.ipc_dict.proofs.walk.+note.Goals as goal

-- what the exit of a `?` answers
left : (P : PushFault → Type 0) {r : Result (Unit {0}) PushFault} {Q : PushFault → Type 0} (y : PushFault)
    → (x : PushFault) × (r ≡ Err x) × (x ≡ y) → P y → ((e : PushFault) → P e → Q e) → IfErr r Q
left P {Q = Q} y p h f = subst (λ r. IfErr r Q) (sym p.1) (f p.0 (subst P (sym p.2) h))

pub note_each-returns-in_err-note_value-clause-full : goal.note_each-returns-in_err-note_value-clause-full
note_each-returns-in_err-note_value-clause-full t c =
    let inv = c.loop-number.invariant in
    let fs = c.args.fields.now in
    let vs = c.args.values.now in
    let i = c.loop-number.number in
    let f = c.index-fields-number.result in
    let v = c.in-Some.value.now in
    let at = c.in-Some.ensures.lookup in
    let step = each-step fs vs i f v (omega arith) at.3.0 c.index-fields-number.is at.1 in
    left (λ e. e ≡ fault.DictionaryFull → IsIndexOverflow (note_all c.loop-number.entries (pairs f v))) c.in_err-note_value.field-0.0
    (err_from_is_err_and c.from_residual.result c.from_residual.ensures.1) c.in_err-note_value.ensures.full (λ e h same.
    full-step c.args.entries.now c.loop-number.entries c.loop-number.entries (each_pairs (map pairs fs) vs)
    (each_pairs (map pairs (drop i fs)) (drop i vs)) (pairs f v)
    (each_pairs (map pairs (drop (i + 1) fs)) (drop (i + 1) vs)) inv.noted step (h same))

pub note_each-loop-number-preserved : goal.note_each-loop-number-preserved
note_each-loop-number-preserved t c =
    let inv = c.loop-number.invariant in
    let fs = c.args.fields.now in
    let vs = c.args.values.now in
    let i = c.loop-number.number in
    let f = c.index-fields-number.result in
    let v = c.in-Some.value.now in
    let at = c.in-Some.ensures.lookup in
    let step = each-step fs vs i f v (omega arith) at.3.0 c.index-fields-number.is at.1 in
    record {
      noted = noted-step c.args.entries.now c.loop-number.entries c.note_value.new.entries (each_pairs (map pairs fs) vs)
          (each_pairs (map pairs (drop i fs)) (drop i vs)) (pairs f v)
          (each_pairs (map pairs (drop (i + 1) fs)) (drop (i + 1) vs)) inv.noted step c.in_ok-note_value.ensures.noted;
      fits = λ h. c.in_ok-note_value.ensures.fits (inv.fits h);
      grows = all_grow_trans _ _ _ inv.grows c.in_ok-note_value.ensures.grows;
    }

pub note_items-returns-in_err-note_value-clause-full : goal.note_items-returns-in_err-note_value-clause-full
note_items-returns-in_err-note_value-clause-full t c =
    let inv = c.loop-value.invariant in
    let vs = c.args.values.now in
    let w = pairs c.args.child.now in
    let i = c.loop-value.value-index in
    let v = c.value-item.result in
    left (λ e. e ≡ fault.DictionaryFull → IsIndexOverflow (note_all c.loop-value.entries (w v))) c.in_err-note_value.field-0.0
    (err_from_is_err_and c.from_residual.result c.from_residual.ensures.1) c.in_err-note_value.ensures.full (λ e h same.
    full-step c.args.entries.now c.loop-value.entries c.loop-value.entries (items_pairs w vs) (items_pairs w (drop i vs)) (w v)
    (items_pairs w (drop (i + 1) vs)) inv.noted (items-step w vs i v (omega arith) c.value-item.is) (h same))

pub note_items-loop-value-preserved : goal.note_items-loop-value-preserved
note_items-loop-value-preserved t c =
    let inv = c.loop-value.invariant in
    let vs = c.args.values.now in
    let w = pairs c.args.child.now in
    let i = c.loop-value.value-index in
    let v = c.value-item.result in
    record {
      noted = noted-step c.args.entries.now c.loop-value.entries c.note_value.new.entries (items_pairs w vs) (items_pairs w (drop i vs))
          (w v) (items_pairs w (drop (i + 1) vs)) inv.noted
          (items-step w vs i v (omega arith) c.value-item.is) c.in_ok-note_value.ensures.noted;
      fits = λ h. c.in_ok-note_value.ensures.fits (inv.fits h);
      grows = all_grow_trans _ _ _ inv.grows c.in_ok-note_value.ensures.grows;
    }

pub note_named-returns-in-Struct-Struct-clause-full : goal.note_named-returns-in-Struct-Struct-clause-full
note_named-returns-in-Struct-Struct-clause-full t c =
    let e = struct_pairs c.args.field.now c.args.value.now c.in-Struct-Struct.values c.as_slice-children.result.now c.as_slice.result.now
    c.in_default.is c.in-Struct-Struct.is-0 c.as_slice-children.ensures c.in-Struct-Struct.is-1 c.as_slice.ensures in
    subst (λ ps. IfErr c.note_each.result (λ e. e ≡ fault.DictionaryFull → IsIndexOverflow (note_all c.args.entries.now ps)))
    (sym e) c.note_each.ensures.full

pub note_named-returns-in_default-2-clause-noted : goal.note_named-returns-in_default-2-clause-noted
note_named-returns-in_default-2-clause-noted t c =
    let is = c.in_default-2.is-0 in
    ap (note_all c.args.entries.now)
    (sym (no_pairs c.args.field.now c.args.value.now c.in_default.is (λ vs k v. cc) (λ n vs k v. cc)
    (λ vs k v. c.in_default-2.not-Struct-1 vs v)))

pub note_named-returns-in_default-2-2-clause-noted : goal.note_named-returns-in_default-2-2-clause-noted
note_named-returns-in_default-2-2-clause-noted t c =
    ap (note_all c.args.entries.now)
    (sym (no_pairs c.args.field.now c.args.value.now c.in_default.is (λ vs k v. c.in_default-2.not-List-0 k)
    (λ n vs k v. c.in_default-2.not-FixedSizeList-0 n k) (λ vs k v. c.in_default-2.not-Struct-0 k)))

pub note_named-returns-in_default-2-3-clause-noted : goal.note_named-returns-in_default-2-3-clause-noted
note_named-returns-in_default-2-3-clause-noted t c =
    let lists = c.in_default-2.not-List-1 in
    ap (note_all c.args.entries.now)
    (sym (no_pairs c.args.field.now c.args.value.now c.in_default.is (λ vs k v. lists vs v) (λ n vs k v. lists vs v)
    (λ vs k v. search rules)))
