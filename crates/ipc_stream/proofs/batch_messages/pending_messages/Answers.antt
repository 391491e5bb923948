use Rattle.std.proofs.Common.{◌≡◌, ◌∙◌, ◌++◌, sym, ap, subst, List, length, ℤ, ℕ, pos, Option, Result, Err, inl, inr, true≢false}
use Rattle.std.specs.List.{AllByRecursion}
use Rattle.std.specs.Prelude.{◌⊎◌}
use Rattle.std.proofs.lemmas.Result.{err_from_is_err_and}
use Rattle.ipc_model.specs.declared.fault.WriteFault.{WriteFault}
use Rattle.ipc_model.specs.declared.fault.WriteFault.TheVariants as w
use Rattle.ipc_model.specs.declared.limits.Limits.{Limits}
use Rattle.ipc_model.specs.declared.schema.Schema.{Schema}
use Rattle.ipc_model.specs.declared.table.BatchRows.{BatchRows}
use Rattle.ipc_model.specs.declared.value.Value.{Value}
use Rattle.ipc_column.specs.Dictionaries.{Dictionaries}
use Rattle.ipc_column.specs.Rows.{Rows}
use Rattle.ipc_encode.specs.Indices.{FindsRows}
use Rattle.ipc_encode.specs.Numbers.{new_indices, known_indices}
use Rattle.ipc_dict_read.specs.DictionariesState.{DictionariesState}
use Rattle.ipc_dict.specs.declared.entry.TallyEntry.{TallyEntry}
use Rattle.ipc_dict.specs.declared.kept.KeptEntry.{KeptEntry}
use Rattle.ipc_dict.specs.Noting.{place_of_value}
use Rattle.ipc_dict.specs.Planning.{AllSettled, FindsNoted, after_all, number, sends_of}
use Rattle.ipc_dict.specs.SchemaIds.{kept_ids, tally_ids}
use Rattle.ipc_dict.specs.Sending.{tally_of_rows}
use Rattle.ipc_dict.proofs.Sending.{sent_is, tallied_ids}
use Rattle.ipc_stream.specs.OpenStreams.{CanBeSent, IsGoingOn}
use Rattle.ipc_stream.specs.Messages.{SetDictionaries}
use Rattle.ipc_stream.specs.Parts.{RefusesPairs, DenotesRows}
use Rattle.ipc_stream.specs.Writing.{AcceptsBatch}
use Rattle.ipc_encode.specs.Segments.{bytes_of_segments}
use Rattle.ipc_stream.proofs.BatchSent.{batch_sent, plan_can, segmented_counts, short_tallied}
use Rattle.ipc_stream.proofs.PlanFinds.{plan_finds}
use Rattle.ipc_stream.proofs.HeldRows.{accepted_pairs}
use Rattle.ipc_stream.proofs.batch_messages.pending_messages.Goals as goal

-- what was sent has their ids
ids_are : (limits : Limits) (s : Schema) (b : BatchRows) (columns : DictionariesState) (kept : List KeptEntry) (es : List TallyEntry)
    → IsGoingOn limits s columns kept → es ≡ tally_of_rows s.fields b.rows → kept_ids kept ≡ tally_ids es
ids_are limits s b columns kept es going same = going.ids ∙ sym (tallied_ids s.fields b.rows) ∙ ap tally_ids (sym same)

memory_of : (fault : WriteFault) (failed : Type 0) → (failed → ⊥) → (fault ≡ w.OutOfMemory) ⊎ ((fault ≡ w.Failed) × failed)
    → fault ≡ w.OutOfMemory
memory_of fault failed works (inl memory) = memory
memory_of fault failed works (inr other) = absurd (works other.1)

pub returns-in_err-plan-clause-only : goal.returns-in_err-plan-clause-only
returns-in_err-plan-clause-only c = λ s b going h.
    let same = h.tally.counted in
    let ids = ids_are c.args.limits.now s b c.args.columns.now c.args.kept.now c.args.pending.tally.entries going same in
    let p = err_from_is_err_and c.from_residual.result c.from_residual.ensures.1 in
    rw (p.1, p.2) (memory_of _ _ (λ failed. true≢false (sym failed ∙ h.tally.works))
    (c.in_err-plan.ensures.failed ids))

-- each dictionary that is sent can be
cans : (limits : Limits) (s : Schema) (b : BatchRows) (columns : DictionariesState) (kept : List KeptEntry)
    (sends : List (ℤ × List (List Value))) (es : List TallyEntry) (os : List (Option (List ℕ))) → IsGoingOn limits s columns kept
    → (accepted : AcceptsBatch limits s b) → sends ≡ sends_of es os → es ≡ tally_of_rows s.fields b.rows
    → AllByRecursion (CanBeSent limits s) sends
cans limits s b columns kept sends es os going accepted is same =
    subst (AllByRecursion (CanBeSent limits s)) (sym (is ∙ ap (λ xs. sends_of xs os) same))
    (plan_can limits s b.rows going.well_formed accepted.fit os accepted.within.dictionaries.lengths
    (short_tallied limits s.fields b.rows accepted.within.dictionaries.short_messages))

pub returns-in_err-dictionaries-clause-only : goal.returns-in_err-dictionaries-clause-only
returns-in_err-dictionaries-clause-only c = λ s b going h.
    let same = c.in_ok-plan.ensures.entries ∙ h.tally.counted in
    let can = cans c.args.limits.now s b c.args.columns.now c.args.kept.now c.sends.result.now c.in_ok-plan.plan.entries
    c.in_ok-plan.plan.numbers going h.accepted c.sends.ensures same in
    let p = err_from_is_err_and c.from_residual-in_err-dictionaries.result c.from_residual-in_err-dictionaries.ensures.1 in
    rw (p.1, p.2) (c.in_err-dictionaries.ensures.only s going.columns_are can)

pub returns-in_err-front-clause-only : goal.returns-in_err-front-clause-only
returns-in_err-front-clause-only c = λ s b going h.
    let limits = c.args.limits.now in
    let known = known_indices (place_of_value (tally_of_rows s.fields b.rows)) in
    let counts = segmented_counts _ s.fields b.rows (pos c.row_count-count.result) c.in_ok-parts.parts
    (c.in_ok-parts.ensures.segmented known limits s.fields b.rows h.rows) in
    let fault = c.in_err-front.field-0.0 in
    let judged = c.in_err-front.ensures.judged s counts (c.in_ok-parts.ensures.body known limits s.fields b.rows h.rows) in
    let refused : Result Unit WriteFault = Err fault in
    let p = err_from_is_err_and c.from_residual-in_err-front.result c.from_residual-in_err-front.ensures.1 in
    rw (p.1, p.2) (accepted_pairs limits s b refused h.accepted
    (subst (λ (ps : List (List ℕ × List ℕ)). RefusesPairs limits s ps fault) h.pairs judged))

pub returns-clause-messages : goal.returns-clause-messages
returns-clause-messages c = λ s b going h.
    let limits = c.args.limits.now in
    let es = c.in_ok-plan.plan.entries in
    let os = c.in_ok-plan.plan.numbers in
    let known = known_indices (place_of_value (tally_of_rows s.fields b.rows)) in
    let pending = h.tally.counted in
    let same : es ≡ tally_of_rows s.fields b.rows = c.in_ok-plan.ensures.entries ∙ pending in
    let ids = ids_are limits s b c.args.columns.now c.args.kept.now c.args.pending.tally.entries going pending in
    let can = cans limits s b c.args.columns.now c.args.kept.now c.sends.result.now es os going h.accepted c.sends.ensures
    same in
    let settled = subst (λ (xs : List TallyEntry). AllSettled c.args.kept.now xs os) pending c.in_ok-plan.ensures.settled in
    let finds = subst (λ (xs : List TallyEntry). FindsNoted c.args.kept.now xs os) pending (c.in_ok-plan.ensures.finds_noted ids) in
    let set = subst (λ (sends : List (ℤ × List (List Value))). SetDictionaries limits s sends c.in_ok-dictionaries.dictionaries.items)
    (c.sends.ensures ∙ ap (λ xs. sends_of xs os) same) (c.in_ok-dictionaries.ensures.set s going.columns_are can) in
    let parts = c.in_ok-parts.parts in
    let body = bytes_of_segments parts.segments.items in
    let own = c.in_ok-front.front.items ++ body in
    let laid = c.in_ok-parts.ensures.segmented known limits s.fields b.rows h.rows in
    let size : length body ≡ parts.len = ap length laid.body ∙ sym laid.len in
    let count : c.row_count-count.result ≡ length b.rows = c.row_count-count.ensures known limits s.fields b.rows h.rows in
    let numbered = new_indices (number (tally_of_rows s.fields b.rows) os) known in
    let tells : (ds : Dictionaries) → FindsRows ds numbered s.fields b.rows
    → DenotesRows limits ds s b own = λ ds found.
    let here = subst (λ (xs : List TallyEntry). FindsRows ds (new_indices (number xs os) known) s.fields b.rows) (sym same) found in
    let rows = c.in_ok-parts.ensures.rows known limits s.fields b.rows ds h.rows going.well_formed.each h.accepted.fit here in
    let counted = subst (λ (n : ℕ). Rows limits ds s.fields
    (record { length = pos n; nodes = parts.nodes; buffers = parts.buffers }) body b.rows) (sym count) rows in
    subst (λ (ps : List (List ℕ × List ℕ)). DenotesRows limits ds s (record { pairs = ps; rows = b.rows }) own) h.pairs
    (c.in_ok-front.ensures.message ds s b.rows body size counted) in
    batch_sent limits s b c.args.kept.now os numbered c.in_ok-dictionaries.dictionaries.items own
    h.accepted.within.dictionaries.counted going.counted going.ids settled
    (λ ds values counts. plan_finds limits s b.rows c.args.kept.now os ds going.well_formed values counts finds) set tells

pub returns-clause-sent : goal.returns-clause-sent
returns-clause-sent c = λ s b going h.
    let limits = c.args.limits.now in
    let os = c.in_ok-plan.plan.numbers in
    let pending = h.tally.counted in
    let same : c.in_ok-plan.plan.entries ≡ tally_of_rows s.fields b.rows = c.in_ok-plan.ensures.entries ∙ pending in
    let settled = subst (λ (xs : List TallyEntry). AllSettled c.args.kept.now xs os) pending c.in_ok-plan.ensures.settled in
    record {
      ids = ids_are limits s b c.args.columns.now c.args.kept.now c.in_ok-plan.plan.entries going same;
      after = ap (λ xs. after_all c.args.kept.now xs os) same ∙ sent_is s.fields b.rows c.args.kept.now os going.ids settled;
    }
