use Rattle.std.proofs.Common.{subst, sym, List}
use Rattle.std.proofs.lemmas.Result.{err_from_is_err_and}
use Rattle.ipc_model.specs.declared.schema.Field.{Field}
use Rattle.ipc_encode.specs.Limits.{AreRowsRefused, IsWithin}
use Rattle.ipc_encode.specs.Numbers.{known_indices}
use Rattle.ipc_encode.specs.Segments.{AreSegmented}
use Rattle.ipc_encode.specs.Indices.{FindsRows}
use Rattle.ipc_dict.specs.declared.entry.TallyEntry.{TallyEntry}
use Rattle.ipc_dict.specs.Planning.{AllSettled, FindsAll, index}
use Rattle.ipc_stream.proofs.CanonicalCopies.{rows_given}
use Rattle.ipc_stream.proofs.ColumnRefusals.{all_refused, lengths_all_refused}
use Rattle.ipc_stream.proofs.open_stream.OpenStream.copy_canonical.Goals as goal

pub returns-in_err-plan-clause-refused : goal.returns-in_err-plan-clause-refused
returns-in_err-plan-clause-refused c = rw (← c.self.view_is) (
    let p = err_from_is_err_and c.from_residual.result c.from_residual.ensures.1 in
    rw (p.1, p.2) (all_refused c.self.inside.limits c.self.inside.schema c.args.batch.now.rows c.in_err-plan.field-0.0
    c.in_err-plan.ensures.only c.in_err-plan.ensures.refused))

pub returns-in_err-parts-clause-refused : goal.returns-in_err-parts-clause-refused
returns-in_err-parts-clause-refused c = rw (← c.self.view_is) (
    let rows = c.args.batch.now.rows in
    let fault = c.in_err-parts.field-0.0 in
    let refused = subst (λ (fields : List Field). AreRowsRefused c.self.inside.limits fields rows fault) c.as_slice-fields.ensures
    c.in_err-parts.ensures.refused in
    let p = err_from_is_err_and c.from_residual-in_err-parts.result c.from_residual-in_err-parts.ensures.1 in
    rw (p.1, p.2) (lengths_all_refused c.self.inside.limits c.self.inside.schema rows fault refused))

pub returns-clause-copied : goal.returns-clause-copied
returns-clause-copied c = rw (← c.self.view_is) (
    let limits = c.self.inside.limits in
    let s = c.self.inside.schema in
    let kept = c.self.inside.kept in
    let rows = c.args.batch.now.rows in
    let es = c.in_ok-plan.plan.entries in
    let os = c.in_ok-plan.plan.numbers in
    let same = c.in_ok-plan.ensures.tallied in
    let settled = subst (λ (xs : List TallyEntry). AllSettled kept xs os) same c.in_ok-plan.ensures.settled in
    let finds = subst (λ (xs : List TallyEntry). FindsAll kept xs os) same c.in_ok-plan.ensures.finds in
    let read = rw c.as_slice-fields.ensures at c.in_ok-parts.ensures.rows in
    record {
      fit = c.in_ok-plan.ensures.fit;
      lengths = subst (λ (fields : List Field). IsWithin limits fields rows) c.as_slice-fields.ensures c.in_ok-parts.ensures.within;
      dictionaries = c.in_ok-plan.ensures.within;
      parts = c.in_ok-parts.parts;
      indices = known_indices (index es os);
      segmented = subst (λ (fields : List Field). AreSegmented (known_indices (index es os)) fields rows c.in_ok-parts.parts)
          c.as_slice-fields.ensures c.in_ok-parts.ensures.segmented;
      give_rows = rows_given limits s rows kept os c.in_ok-parts.parts c.self.invariant.well_formed c.self.invariant.ids
          c.self.invariant.counted c.in_ok-plan.ensures.within.counted settled finds
          (λ m found. read m c.self.invariant.well_formed.each c.in_ok-plan.ensures.fit
          (subst (λ (xs : List TallyEntry). FindsRows m (known_indices (index xs os)) s.fields rows) (sym same) found));
      copies = c.copy_parts.ensures;
    })
