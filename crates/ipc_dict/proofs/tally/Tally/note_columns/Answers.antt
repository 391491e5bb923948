use Rattle.std.proofs.Common.{◌≡◌, ◌∙◌, refl, sym, subst, arith, true, false, length, rules}
use Rattle.std.specs.Prelude.{◌⊎◌}
use Rattle.ipc_model.specs.declared.fault.WriteFault.TheVariants as w
use Rattle.ipc_encode.specs.Faults.{write_fault}
use Rattle.ipc_dict.specs.Noting.{note_all, truncated_tally, AllFit}
use Rattle.ipc_dict.specs.Pairs.{rows_pairs}
use Rattle.ipc_dict.specs.TallyState.{TallyState}
use Rattle.ipc_dict.specs.Within.{AllWithin, IsOfLimits}
use Rattle.ipc_dict.proofs.EntryColumns.{counted_within, within_again, written_back}
use Rattle.ipc_dict.proofs.Refusals.{counted_pairs, none_counted, refused_pairs}
use Rattle.ipc_dict.proofs.tally.Tally.note_columns.Goals as goal

pub returns-then-self : goal.returns-then-self
returns-then-self c =
    let inside = c.self.inside in
    let within = subst (λ (t : TallyState). AllWithin t.limits t.fields t.entries) c.self.view_is
    (counted_within inside.fields inside.entries.items inside.columns c.self.invariant.counted) in
    search rules

pub returns-in-Err : goal.returns-in-Err
returns-in-Err c =
    let inside = c.self.inside in
    let before = inside.entries in
    let fields = c.as_slice-fields.result.now in
    let es = c.add_batch.new.entries in
    let count : before.len ≡ length es = omega (arith, c.add_batch.auto.entries, c.deref_mut.ensures.len) in
    let back = written_back es before.items before.len count in
    let marks = inside.marks in
    let ms = c.add_batch.new.marks in
    let many : marks.len ≡ length ms = omega (arith, c.add_batch.auto.marks, c.deref_mut-2.ensures.len) in
    let marked = written_back ms marks.items marks.len many in
    let kept = (λ i. truncated_tally (marked i) (back i)) ∙ c.add_batch.ensures.before in
    let works : inside.failed ≡ false = search rules in
    let within = within_again inside.fields fields es before.items before.len c.add_batch.new.columns c.as_slice-fields.ensures count
    c.add_batch.ensures.counted in
    let fault = c.in-Err.fault in
    let memory : write_fault fault ≡ w.OutOfMemory → c.match-matches.self ≡ true = search rules in
    let on : ((write_fault fault ≡ w.DictionaryFull) ⊎ IsOfLimits (write_fault fault)) → c.match-matches.self ≡ false = search rules in
    let not_failed : write_fault fault ≡ w.Failed → ⊥ = search rules in
    refused_pairs _ _ c.self.view_is (λ fs. rows_pairs fs c.args.batch.now.rows) c.deref_mut.result.now fields c.deref_mut.ensures.value
    c.as_slice-fields.ensures _ works c.add_batch.ensures.limits refl within kept
    fault (back ∙ c.in-Err.ensures.err) c.self.invariant.fits memory on c.in-Err.ensures.full c.in-Err.ensures.over
    c.in-Err.ensures.memory not_failed

pub returns : goal.returns
returns c =
    let inside = c.self.inside in
    let before = inside.entries in
    let fields = c.as_slice-fields.result.now in
    let es = c.add_batch.new.entries in
    let count : before.len ≡ length es = omega (arith, c.add_batch.auto.entries, c.deref_mut.ensures.len) in
    let back = written_back es before.items before.len count in
    let marks = inside.marks in
    let ms = c.add_batch.new.marks in
    let many : marks.len ≡ length ms = omega (arith, c.add_batch.auto.marks, c.deref_mut-2.ensures.len) in
    let marked = written_back ms marks.items marks.len many in
    let kept = (λ i. truncated_tally (marked i) (back i)) ∙ c.add_batch.ensures.before in
    let works : inside.failed ≡ false = search rules in
    let within = within_again inside.fields fields es before.items before.len c.add_batch.new.columns c.as_slice-fields.ensures count
    c.add_batch.ensures.counted in
    let counted : es ≡ note_all c.deref_mut.result.now (rows_pairs fields c.args.batch.now.rows) = search rules in
    let fits = c.add_batch.ensures.fits (subst AllFit (sym c.deref_mut.ensures.value) c.self.invariant.fits) in
    counted_pairs _ _ c.self.view_is (λ fs. rows_pairs fs c.args.batch.now.rows) c.deref_mut.result.now fields c.deref_mut.ensures.value
    c.as_slice-fields.ensures _ works c.add_batch.ensures.limits refl within kept works (back ∙ counted) (subst AllFit (sym back) fits)

pub returns-then-is_empty : goal.returns-then-is_empty
returns-then-is_empty c =
    let noted = none_counted _ c.args.self.now c.self.view_is c.self.inside.marks.items c.self.inside.entries.items refl refl
    (rows_pairs c.args.self.now.fields c.args.batch.now.rows) (c.is_empty.ensures.0 c.if-is_empty.true) in
    search rules
