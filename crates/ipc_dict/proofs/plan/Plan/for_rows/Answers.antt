use Rattle.std.proofs.Common.{◌≡◌, ◌∙◌, sym, ap, subst, arith, ℕ, ◌≤◌, length, drop, ◌+◌, ◌++◌, IfErr, IfOk, List, Result, Ok, Err}
use Rattle.std.proofs.lemmas.Result.{err_from_is_err_and}
use Rattle.ipc_model.specs.declared.fault.WriteFault.{WriteFault}
use Rattle.ipc_model.specs.declared.fault.WriteFault.TheVariants as fault
use Rattle.ipc_model.specs.declared.limits.Limits.{Limits}
use Rattle.ipc_model.specs.declared.schema.Field.{Field}
use Rattle.ipc_model.specs.declared.value.Value.{Value}
use Rattle.ipc_dict.specs.declared.entry.TallyEntry.{TallyEntry}
use Rattle.ipc_encode.specs.Faults.{write_fault}
use Rattle.ipc_dict.specs.Counted.{HoldsRows}
use Rattle.ipc_dict.specs.Noting.{note_all, AllFit, IsIndexOverflow}
use Rattle.ipc_dict.specs.Pairs.{row_pairs, rows_pairs}
use Rattle.ipc_dict.specs.Planning.{FindsAll, FindsNoted}
use Rattle.ipc_dict.specs.SchemaIds.{tally_ids, empty_entries}
use Rattle.ipc_dict.specs.Within.{AllWithin, IsOfLimits, IsOverLimit}
use Rattle.ipc_dict.proofs.EntryColumns.{over_first, over_step}
use Rattle.ipc_dict.proofs.Notes.{if_ok}
use Rattle.ipc_dict.proofs.Rows.{rows-step, rows-end, ids_note_all, holds_rows}
use Rattle.ipc_dict.proofs.Walks.{noted-step, full-step}
use Rattle.ipc_dict.proofs.plan.Plan.for_rows.Goals as goal

-- what the exit of a `?` answers
left : {T : Type 0} (P : WriteFault → Type 0) {r : Result T WriteFault} {Q : WriteFault → Type 0} (y : WriteFault)
    → (x : WriteFault) × (r ≡ Err x) × (x ≡ y) → P y → ((e : WriteFault) → P e → Q e) → IfErr r Q
left P {Q = Q} y p h f = subst (λ r. IfErr r Q) (sym p.1) (f p.0 (subst P (sym p.2) h))

pub returns-in_err-note-clause-full : goal.returns-in_err-note-clause-full
returns-in_err-note-clause-full c =
    let inv = c.loop-row.invariant in
    let fs = c.args.schema.now.fields in
    let rs = c.args.rows.now in
    let i = c.loop-row.row-index in
    let r = c.row-item.result in
    let u = c.loop-row.tally in
    let one = row_pairs u.fields c.as_slice.result.now in
    let rest = rows_pairs fs (drop (i + 1) rs) in
    let step : rows_pairs fs (drop i rs) ≡ one ++ rest =
    rows-step fs rs i r (omega arith) c.row-item.is ∙ ap (λ p. p ++ rest) (sym (λ j. row_pairs (inv.fields j) (c.as_slice.ensures j))) in
    left (λ e. e ≡ fault.DictionaryFull → IsIndexOverflow (note_all u.entries one)) (write_fault c.in_err-note.field-0.0)
    (err_from_is_err_and c.from_residual-in_err-note.result c.from_residual-in_err-note.ensures.1) c.in_err-note.ensures.full
    (λ e h same.
    full-step (empty_entries fs) u.entries u.entries (rows_pairs fs rs) (rows_pairs fs (drop i rs)) one rest inv.noted step (h same))

pub returns-in_err-tally-clause-over : goal.returns-in_err-tally-clause-over
returns-in_err-tally-clause-over c =
    let fs = c.args.schema.now.fields in
    let fault = c.in_err-tally.field-0.0 in
    let p = err_from_is_err_and c.from_residual.result c.from_residual.ensures.1 in
    rw (p.1, p.2) (over_first c.args.limits.now fs (empty_entries fs) (rows_pairs fs c.args.rows.now) fault c.in_err-tally.ensures.over
    c.in_err-tally.ensures.only)

pub returns-in_err-note-clause-over : goal.returns-in_err-note-clause-over
returns-in_err-note-clause-over c =
    let inv = c.loop-row.invariant in
    let limits = c.args.limits.now in
    let fs = c.args.schema.now.fields in
    let rs = c.args.rows.now in
    let i = c.loop-row.row-index in
    let r = c.row-item.result in
    let u = c.loop-row.tally in
    let one = row_pairs u.fields c.as_slice.result.now in
    let rest = rows_pairs fs (drop (i + 1) rs) in
    let step : rows_pairs fs (drop i rs) ≡ one ++ rest =
    rows-step fs rs i r (omega arith) c.row-item.is ∙ ap (λ p. p ++ rest) (sym (λ j. row_pairs (inv.fields j) (c.as_slice.ensures j))) in
    left (λ e. IsOfLimits e → IsOverLimit u.limits u.fields (note_all u.entries one) e) (write_fault c.in_err-note.field-0.0)
    (err_from_is_err_and c.from_residual-in_err-note.result c.from_residual-in_err-note.ensures.1) c.in_err-note.ensures.over
    (λ e h same.
    let here = subst (λ (l : Limits). IsOverLimit l fs (note_all u.entries one) e) inv.limits
    (subst (λ (fields : List Field). IsOverLimit u.limits fields (note_all u.entries one) e) inv.fields (h same)) in
    over_step limits fs (empty_entries fs) u.entries (rows_pairs fs rs) (rows_pairs fs (drop i rs)) one rest e inv.noted step here)

pub loop-row-preserved : goal.loop-row-preserved
loop-row-preserved c =
    let inv = c.loop-row.invariant in
    let fs = c.args.schema.now.fields in
    let rs = c.args.rows.now in
    let i = c.loop-row.row-index in
    let r = c.row-item.result in
    let u = c.loop-row.tally in
    let after = c.in_ok-note.ensures.noted in
    let now : c.note.new.self.entries ≡ note_all u.entries (row_pairs fs r) =
    ap (λ t. t.entries) after ∙ (λ j. note_all u.entries (row_pairs (inv.fields j) (c.as_slice.ensures j))) in
    record {
      limits = ap (λ t. t.limits) after ∙ inv.limits;
      failed = ap (λ t. t.failed) after ∙ inv.failed;
      fields = ap (λ t. t.fields) after ∙ inv.fields;
      noted = noted-step (empty_entries fs) u.entries c.note.new.self.entries (rows_pairs fs rs) (rows_pairs fs (drop i rs))
          (row_pairs fs r)
          (rows_pairs fs (drop (i + 1) rs)) inv.noted (rows-step fs rs i r (omega arith) c.row-item.is) now;
      fits = c.note.ensures.fits;
      ids = ap tally_ids now ∙ ids_note_all u.entries (row_pairs fs r) ∙ inv.ids;
    }

-- after the last row nothing is left to note
noted-end : (fs : List Field) (rs : List (List Value)) (t all : List TallyEntry) (i : ℕ) → length rs ≤ i
    → note_all t (rows_pairs fs (drop i rs)) ≡ all → t ≡ all
noted-end fs rs t all i h noted = sym (ap (note_all t) (rows-end fs rs i h)) ∙ noted

pub returns-clause-tallied : goal.returns-clause-tallied
returns-clause-tallied c =
    let done = noted-end c.args.schema.now.fields c.args.rows.now c.loop-row.tally.entries _ c.loop-row.row-index
    (omega (arith, c.loop-row-test.false)) c.loop-row.invariant.noted in
    if_ok c.settle.result c.settle.ensures.entries (λ plan e. e ∙ done)

pub returns-clause-rows : goal.returns-clause-rows
returns-clause-rows c =
    let fs = c.args.schema.now.fields in
    let rs = c.args.rows.now in
    let done = noted-end fs rs c.loop-row.tally.entries _ c.loop-row.row-index (omega (arith, c.loop-row-test.false))
    c.loop-row.invariant.noted in
    if_ok c.settle.result c.settle.ensures.entries (λ plan e. subst (HoldsRows fs rs) (sym (e ∙ done)) (holds_rows fs rs))

pub returns-clause-ids : goal.returns-clause-ids
returns-clause-ids c = if_ok c.settle.result c.settle.ensures.entries (λ plan e. ap tally_ids e ∙ c.loop-row.invariant.ids)

pub returns-clause-fits : goal.returns-clause-fits
returns-clause-fits c = if_ok c.settle.result c.settle.ensures.entries (λ plan e. subst AllFit (sym e) c.loop-row.invariant.fits)

pub returns-clause-within : goal.returns-clause-within
returns-clause-within c =
    let inv = c.loop-row.invariant in
    let u = c.loop-row.tally in
    if_ok c.settle.result c.settle.ensures.within (λ plan h.
    subst (λ (l : Limits). AllWithin l c.args.schema.now.fields plan.entries) inv.limits
    (subst (λ (fields : List Field). AllWithin u.limits fields plan.entries) inv.fields h))

-- what two clauses say of an answer
both : {T E : Type 0} {P Q R : T → Type 0} (r : Result T E) → IfOk r P → IfOk r Q → ((x : T) → P x → Q x → R x) → IfOk r R
both (Ok x) p q f = f x p q
both (Err e) p q f = tt

pub returns-clause-finds : goal.returns-clause-finds
returns-clause-finds c =
    both c.settle.result c.settle.ensures.entries (c.settle.ensures.finds (c.requires ∙ sym c.loop-row.invariant.ids))
    (λ plan e h. subst (λ (es : List TallyEntry). FindsAll c.args.kept.now es plan.numbers) (sym e) h)

pub returns-clause-finds_noted : goal.returns-clause-finds_noted
returns-clause-finds_noted c =
    both c.settle.result c.settle.ensures.entries (c.settle.ensures.finds_noted (c.requires ∙ sym c.loop-row.invariant.ids))
    (λ plan e h. subst (λ (es : List TallyEntry). FindsNoted c.args.kept.now es plan.numbers) (sym e) h)
