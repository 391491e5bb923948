use Rattle.std.proofs.Common.{◌≡◌, ◌∙◌, ◌++◌, sym, ap, subst, List, ℕ, length, ℤ, Option}
use Rattle.std.specs.Prelude.{pos}
use Rattle.std.specs.List.{AllByRecursion}
use Rattle.std.proofs.lemmas.Result.{err_from_is_err_and}
use Rattle.ipc_model.specs.Fits.{RowFits}
use Rattle.ipc_model.specs.WellFormed.{WellFormed}
use Rattle.ipc_model.specs.declared.fault.WriteFault.{WriteFault}
use Rattle.ipc_model.specs.declared.limits.Limits.{Limits}
use Rattle.ipc_model.specs.declared.schema.Field.{Field}
use Rattle.ipc_model.specs.declared.schema.Schema.{Schema}
use Rattle.ipc_model.specs.declared.value.Value.{Value}
use Rattle.ipc_column.specs.Dictionaries.{Dictionaries}
use Rattle.ipc_column.specs.Rows.{HasCounts, Rows}
use Rattle.ipc_encode.specs.Indices.{FindsRows}
use Rattle.ipc_encode.specs.Limits.{AreRowsRefused, IsWithin}
use Rattle.ipc_encode.specs.Numbers.{known_indices}
use Rattle.ipc_encode.specs.Segments.{bytes_of_segments}
use Rattle.ipc_dict.specs.declared.entry.TallyEntry.{TallyEntry}
use Rattle.ipc_dict.specs.declared.kept.KeptEntry.{KeptEntry}
use Rattle.ipc_dict.specs.Planning.{AllSettled, FindsAll, after_all, index, sends_of}
use Rattle.ipc_dict.specs.SchemaIds.{ids_of, kept_ids, tally_ids}
use Rattle.ipc_dict.specs.Sending.{tally_of_rows}
use Rattle.ipc_dict.proofs.Sending.{sent_is, tallied_ids}
use Rattle.ipc_stream.specs.Dictionaries.{AreDictionariesWithin}
use Rattle.ipc_stream.specs.Messages.{SetDictionaries}
use Rattle.ipc_stream.specs.OpenStreams.{CanBeSent}
use Rattle.ipc_stream.specs.Parts.{DenotesRows}
use Rattle.ipc_stream.specs.PendingBatches.{with_rows}
use Rattle.ipc_stream.proofs.BatchSent.{batch_sent, plan_can, segmented_counts, short_tallied}
use Rattle.ipc_stream.proofs.ColumnRefusals.{accepted, lengths_refused, pairs_refused}
use Rattle.ipc_stream.proofs.PlanFinds.{plan_finds_indices}
use Rattle.ipc_stream.proofs.column_messages.column_messages.Goals.{After-batch_front}
use Rattle.ipc_stream.proofs.column_messages.column_messages.Goals as goal

-- what was sent has the ids of the plan's entries
ids_are : (fields : List Field) (rows : List (List Value)) (kept : List KeptEntry) (es : List TallyEntry) → kept_ids kept ≡ ids_of fields
    → es ≡ tally_of_rows fields rows → kept_ids kept ≡ tally_ids es
ids_are fields rows kept es ids same = ids ∙ sym (tallied_ids fields rows) ∙ ap tally_ids (sym same)

-- each dictionary that is sent can be
cans : (limits : Limits) (s : Schema) (rows : List (List Value)) (sends : List (ℤ × List (List Value))) (es : List TallyEntry)
    (os : List (Option (List ℕ))) → WellFormed limits s → AllByRecursion (RowFits s.fields) rows
    → AreDictionariesWithin limits s.fields rows → sends ≡ sends_of es os → es ≡ tally_of_rows s.fields rows
    → AllByRecursion (CanBeSent limits s) sends
cans limits s rows sends es os well fit within is same =
    subst (AllByRecursion (CanBeSent limits s)) (sym (is ∙ ap (λ xs. sends_of xs os) same))
    (plan_can limits s rows well fit os within.lengths (short_tallied limits s.fields rows within.short_messages))

pub returns-in_err-plan-clause-judged : goal.returns-in_err-plan-clause-judged
returns-in_err-plan-clause-judged c =
    let p = err_from_is_err_and c.from_residual.result c.from_residual.ensures.1 in
    rw (p.1, p.2) (c.in_err-plan.ensures.refused c.args.pairs.now)

pub returns-in_err-parts-clause-judged : goal.returns-in_err-parts-clause-judged
returns-in_err-parts-clause-judged c =
    let rows = c.args.batch.now.rows in
    let fault = c.in_err-parts.field-0.0 in
    let refused = subst (λ (fields : List Field). AreRowsRefused c.args.limits.now fields rows fault) c.as_slice-fields.ensures
    c.in_err-parts.ensures.refused in
    let p = err_from_is_err_and c.from_residual-in_err-parts.result c.from_residual-in_err-parts.ensures.1 in
    rw (p.1, p.2) (lengths_refused c.args.limits.now c.args.schema.now (with_rows c.args.pairs.now rows) fault refused)

pub returns-in_err-parts-clause-only : goal.returns-in_err-parts-clause-only
returns-in_err-parts-clause-only c =
    let p = err_from_is_err_and c.from_residual-in_err-parts.result c.from_residual-in_err-parts.ensures.1 in
    rw (p.1, p.2) (λ e. subst (λ (f : WriteFault). AreRowsRefused c.args.limits.now c.as_slice-fields.result.now c.args.batch.now.rows f) e
    c.in_err-parts.ensures.refused)

-- the parts have a node and the buffers of each field
counts : (c : After-batch_front) → HasCounts c.args.schema.now.fields (record {
  length = pos c.rows.result;
  nodes = c.in_ok-parts.parts.nodes;
  buffers = c.in_ok-parts.parts.buffers;
})
counts c = subst (λ (fields : List Field). HasCounts fields (record {
  length = pos c.rows.result;
  nodes = c.in_ok-parts.parts.nodes;
  buffers = c.in_ok-parts.parts.buffers;
})) c.as_slice-fields.ensures
    (segmented_counts _ c.as_slice-fields.result.now c.args.batch.now.rows (pos c.rows.result) c.in_ok-parts.parts
    c.in_ok-parts.ensures.segmented)

pub returns-in_err-front-clause-judged : goal.returns-in_err-front-clause-judged
returns-in_err-front-clause-judged c =
    let b = with_rows c.args.pairs.now c.args.batch.now.rows in
    let p = err_from_is_err_and c.from_residual-in_err-front.result c.from_residual-in_err-front.ensures.1 in
    rw (p.1, p.2) (pairs_refused c.args.limits.now c.args.schema.now b c.in_err-front.field-0.0
    (c.in_err-front.ensures.judged c.args.schema.now (counts (goal.at.returns-in_err-front-clause-judged c).After-batch_front)
    c.in_ok-parts.ensures.body))

pub returns-in_err-dictionaries-clause-judged : goal.returns-in_err-dictionaries-clause-judged
returns-in_err-dictionaries-clause-judged c =
    let s = c.args.schema.now in
    let rows = c.args.batch.now.rows in
    let can = cans c.args.limits.now s rows c.sends.result.now c.in_ok-plan.plan.entries c.in_ok-plan.plan.numbers c.requires.well_formed
    c.in_ok-plan.ensures.fit c.in_ok-plan.ensures.within c.sends.ensures c.in_ok-plan.ensures.tallied in
    let p = err_from_is_err_and c.from_residual-in_err-dictionaries.result c.from_residual-in_err-dictionaries.ensures.1 in
    rw (p.1, p.2, c.in_err-dictionaries.ensures.only s c.requires.columns_are can) tt

pub returns-in_err-dictionaries-clause-only : goal.returns-in_err-dictionaries-clause-only
returns-in_err-dictionaries-clause-only c =
    let s = c.args.schema.now in
    let rows = c.args.batch.now.rows in
    let can = cans c.args.limits.now s rows c.sends.result.now c.in_ok-plan.plan.entries c.in_ok-plan.plan.numbers c.requires.well_formed
    c.in_ok-plan.ensures.fit c.in_ok-plan.ensures.within c.sends.ensures c.in_ok-plan.ensures.tallied in
    let p = err_from_is_err_and c.from_residual-in_err-dictionaries.result c.from_residual-in_err-dictionaries.ensures.1 in
    rw (p.1, p.2, c.in_err-dictionaries.ensures.only s c.requires.columns_are can) (λ e. cc)

pub returns-clause-judged : goal.returns-clause-judged
returns-clause-judged c =
    let limits = c.args.limits.now in
    let s = c.args.schema.now in
    let rows = c.args.batch.now.rows in
    let within = subst (λ (fields : List Field). IsWithin limits fields rows) c.as_slice-fields.ensures c.in_ok-parts.ensures.within in
    accepted limits s c.args.pairs.now rows c.in_ok-plan.ensures.fit c.in_ok-plan.ensures.within within
    (c.in_ok-front.ensures.judged s (counts (goal.at.returns-clause-judged c).After-batch_front) c.in_ok-parts.ensures.body)

pub returns-clause-sent : goal.returns-clause-sent
returns-clause-sent c =
    let s = c.args.schema.now in
    let rows = c.args.batch.now.rows in
    let kept = c.args.kept.now in
    let os = c.in_ok-plan.plan.numbers in
    let same = c.in_ok-plan.ensures.tallied in
    let settled = subst (λ (xs : List TallyEntry). AllSettled kept xs os) same c.in_ok-plan.ensures.settled in
    record {
      ids = ids_are s.fields rows kept c.in_ok-plan.plan.entries c.requires.ids same;
      after = ap (λ xs. after_all kept xs os) same ∙ sent_is s.fields rows kept os c.requires.ids settled;
    }

pub returns-clause-messages : goal.returns-clause-messages
returns-clause-messages c =
    let limits = c.args.limits.now in
    let s = c.args.schema.now in
    let rows = c.args.batch.now.rows in
    let kept = c.args.kept.now in
    let pairs = c.args.pairs.now in
    let parts = c.in_ok-parts.parts in
    let es = c.in_ok-plan.plan.entries in
    let os = c.in_ok-plan.plan.numbers in
    let body = bytes_of_segments parts.segments.items in
    let own = c.in_ok-front.front.items ++ body in
    let same : es ≡ tally_of_rows s.fields rows = c.in_ok-plan.ensures.tallied in
    let known = known_indices (index (tally_of_rows s.fields rows) os) in
    let settled = subst (λ (xs : List TallyEntry). AllSettled kept xs os) same c.in_ok-plan.ensures.settled in
    let finds = subst (λ (xs : List TallyEntry). FindsAll kept xs os) same c.in_ok-plan.ensures.finds in
    let can = cans limits s rows c.sends.result.now es os c.requires.well_formed c.in_ok-plan.ensures.fit c.in_ok-plan.ensures.within
    c.sends.ensures same in
    let set = subst (λ (sends : List (ℤ × List (List Value))). SetDictionaries limits s sends c.in_ok-dictionaries.dictionaries.items)
    (c.sends.ensures ∙ ap (λ xs. sends_of xs os) same) (c.in_ok-dictionaries.ensures.set s c.requires.columns_are can) in
    let laid = c.in_ok-parts.ensures.segmented in
    let size : length body ≡ parts.len = ap length laid.body ∙ sym laid.len in
    let read = rw c.as_slice-fields.ensures at c.in_ok-parts.ensures.rows in
    let tells : (ds : Dictionaries) → FindsRows ds known s.fields rows → DenotesRows limits ds s (with_rows pairs rows) own = λ ds found.
    let here = subst (λ (xs : List TallyEntry). FindsRows ds (known_indices (index xs os)) s.fields rows) (sym same) found in
    let given = read ds c.requires.well_formed.each c.in_ok-plan.ensures.fit here in
    let numbered = subst (λ (n : ℕ). Rows limits ds s.fields
    (record { length = pos n; nodes = parts.nodes; buffers = parts.buffers }) body rows) (sym c.rows.ensures) given in
    c.in_ok-front.ensures.message ds s rows body size numbered in
    batch_sent limits s (with_rows pairs rows) kept os known c.in_ok-dictionaries.dictionaries.items own
    c.in_ok-plan.ensures.within.counted c.requires.counted c.requires.ids settled
    (λ ds values counted. plan_finds_indices limits s rows kept os ds c.requires.well_formed values counted settled finds) set tells
