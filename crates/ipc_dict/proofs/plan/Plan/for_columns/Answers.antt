use Rattle.std.proofs.Common.{◌≡◌, ◌∙◌, sym, ap, subst, List, IfOk, Result, Ok, Err, inl, inr, true≢false}
use Rattle.std.specs.Prelude.{◌⊎◌}
use Rattle.std.proofs.lemmas.Result.{err_from_is_err_and}
use Rattle.ipc_model.specs.declared.fault.WriteFault.TheVariants as w
use Rattle.ipc_model.specs.declared.limits.Limits.{Limits}
use Rattle.ipc_model.specs.declared.schema.Field.{Field}
use Rattle.ipc_dict.specs.declared.entry.TallyEntry.{TallyEntry}
use Rattle.ipc_encode.specs.declared.fault.PushFault.{PushFault}
use Rattle.ipc_encode.specs.Faults.{write_fault}
use Rattle.ipc_dict.specs.Noting.{AllFit, IsIndexOverflow, note_all}
use Rattle.ipc_dict.specs.Pairs.{rows_pairs}
use Rattle.ipc_dict.specs.Planning.{FindsAll, KnowsAll}
use Rattle.ipc_dict.specs.SchemaIds.{ids_of, tally_ids, empty_entries}
use Rattle.ipc_dict.specs.Sending.{AreAddressed}
use Rattle.ipc_dict.specs.TallyState.{TallyState}
use Rattle.ipc_dict.specs.Within.{AllWithin, IsOfLimits, IsOverLimit}
use Rattle.ipc_dict.proofs.EntryColumns.{over_first}
use Rattle.ipc_dict.proofs.Notes.{if_ok}
use Rattle.ipc_dict.proofs.plan.Plan.for_columns.Goals as goal

pub returns-in_err-column_tally-clause-over : goal.returns-in_err-column_tally-clause-over
returns-in_err-column_tally-clause-over c =
    let fs = c.args.schema.now.fields in
    let fault = c.in_err-column_tally.field-0.0 in
    let p = err_from_is_err_and c.from_residual.result c.from_residual.ensures.1 in
    rw (p.1, p.2) (over_first c.args.limits.now fs (empty_entries fs) (rows_pairs fs c.args.batch.now.rows) fault
    c.in_err-column_tally.ensures.over
    c.in_err-column_tally.ensures.only)

pub returns-in_err-note_columns-clause-full : goal.returns-in_err-note_columns-clause-full
returns-in_err-note_columns-clause-full c =
    let p = err_from_is_err_and c.from_residual-in_err-note_columns.result c.from_residual-in_err-note_columns.ensures.1 in
    rw (p.1, p.2) (λ same.
    subst (λ (t : TallyState). IsIndexOverflow (note_all t.entries (rows_pairs t.fields c.args.batch.now.rows)))
    c.in_ok-column_tally.ensures.fresh
    (c.in_err-note_columns.ensures.full same))

pub returns-in_err-note_columns-clause-over : goal.returns-in_err-note_columns-clause-over
returns-in_err-note_columns-clause-over c =
    let fault = write_fault c.in_err-note_columns.field-0.0 in
    let p = err_from_is_err_and c.from_residual-in_err-note_columns.result c.from_residual-in_err-note_columns.ensures.1 in
    rw (p.1, p.2) (λ one.
    subst (λ (t : TallyState). IsOverLimit t.limits t.fields (note_all t.entries (rows_pairs t.fields c.args.batch.now.rows)) fault)
    c.in_ok-column_tally.ensures.fresh (c.in_err-note_columns.ensures.over one))

-- a column_tally that has not failed does not answer that it has
only_of : (e : PushFault) → ((write_fault e ≡ w.DictionaryFull) ⊎ IsOfLimits (write_fault e))
    ⊎ ((write_fault e ≡ w.OutOfMemory) ⊎ (write_fault e ≡ w.Failed)) → (write_fault e ≡ w.Failed → ⊥)
    → ((write_fault e ≡ w.DictionaryFull) ⊎ IsOfLimits (write_fault e)) ⊎ (write_fault e ≡ w.OutOfMemory)
only_of e (inl h) works = inl h
only_of e (inr (inl memory)) works = inr memory
only_of e (inr (inr failed)) works = absurd (works failed)

pub returns-in_err-note_columns-clause-only : goal.returns-in_err-note_columns-clause-only
returns-in_err-note_columns-clause-only c =
    let p = err_from_is_err_and c.from_residual-in_err-note_columns.result c.from_residual-in_err-note_columns.ensures.1 in
    rw (p.1, p.2) (only_of c.in_err-note_columns.field-0.0 c.in_err-note_columns.ensures.only
    (λ is. true≢false (sym (c.in_err-note_columns.ensures.before is)
    ∙ ap (λ (t : TallyState). t.failed) c.in_ok-column_tally.ensures.fresh)))

pub returns-clause-tallied : goal.returns-clause-tallied
returns-clause-tallied c =
    let noted = ap (λ (t : TallyState). t.entries) c.in_ok-note_columns.ensures.noted
    ∙ ap (λ (t : TallyState). note_all t.entries (rows_pairs t.fields c.args.batch.now.rows)) c.in_ok-column_tally.ensures.fresh in
    if_ok c.settle.result c.settle.ensures.entries (λ plan e. e ∙ noted)

pub returns-clause-ids : goal.returns-clause-ids
returns-clause-ids c =
    let fields = c.note_columns.ensures.fields ∙ ap (λ (t : TallyState). t.fields) c.in_ok-column_tally.ensures.fresh in
    if_ok c.settle.result c.settle.ensures.ids (λ plan h. h ∙ ap ids_of fields)

pub returns-clause-addressed : goal.returns-clause-addressed
returns-clause-addressed c =
    let fields = c.note_columns.ensures.fields ∙ ap (λ (t : TallyState). t.fields) c.in_ok-column_tally.ensures.fresh in
    if_ok c.settle.result c.settle.ensures.addressed (λ plan h. subst (λ (fs : List Field). AreAddressed fs plan.entries) fields h)

pub returns-clause-fits : goal.returns-clause-fits
returns-clause-fits c =
    if_ok c.settle.result c.settle.ensures.entries (λ plan e. subst AllFit (sym e) c.note_columns.ensures.fits)

pub returns-clause-within : goal.returns-clause-within
returns-clause-within c =
    let fields = c.note_columns.ensures.fields ∙ ap (λ (t : TallyState). t.fields) c.in_ok-column_tally.ensures.fresh in
    let limits = c.note_columns.ensures.limits ∙ ap (λ (t : TallyState). t.limits) c.in_ok-column_tally.ensures.fresh in
    if_ok c.settle.result c.settle.ensures.within (λ plan h.
    subst (λ (l : Limits). AllWithin l c.args.schema.now.fields plan.entries) limits
    (subst (λ (fs : List Field). AllWithin c.note_columns.new.self.limits fs plan.entries) fields h))

-- what two clauses say of an answer
both : {T E : Type 0} {P Q R : T → Type 0} (r : Result T E) → IfOk r P → IfOk r Q → ((x : T) → P x → Q x → R x) → IfOk r R
both (Ok x) p q f = f x p q
both (Err e) p q f = tt

pub returns-clause-finds : goal.returns-clause-finds
returns-clause-finds c =
    let ids = c.note_columns.ensures.ids ∙ ap (λ (t : TallyState). tally_ids t.entries) c.in_ok-column_tally.ensures.fresh in
    both c.settle.result c.settle.ensures.entries (c.settle.ensures.finds (c.requires ∙ sym ids))
    (λ plan e h. subst (λ (es : List TallyEntry). FindsAll c.args.kept.now es plan.numbers) (sym e) h)

pub returns-clause-knows : goal.returns-clause-knows
returns-clause-knows c =
    both c.settle.result c.settle.ensures.entries c.settle.ensures.knows
    (λ plan e h. subst (λ (es : List TallyEntry). KnowsAll es plan.numbers) (sym e) h)
