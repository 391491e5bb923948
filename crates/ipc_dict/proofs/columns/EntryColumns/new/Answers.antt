use Rattle.std.proofs.Common.{◌≡◌, sym, ap, subst, arith, inl, refl, List, [], ◌∷◌, Some, IfErr, length, length-append}
use Rattle.std.proofs.lemmas.List.{take_more}
use Rattle.std.proofs.lemmas.Result.{err_from_is_err_and}
use Rattle.ipc_model.specs.declared.fault.WriteFault.TheVariants as w
use Rattle.ipc_model.specs.declared.fault.WriteFault.{WriteFault}
use Rattle.ipc_model.specs.declared.value.Value.{Value}
use Rattle.ipc_encode.specs.declared.column_sizes.ColumnSizes.{ColumnSizes}
use Rattle.ipc_encode.specs.ColumnSizes.{as_rows, CountsRows}
use Rattle.ipc_encode.specs.Limits.{AreColumnsTooLong}
use Rattle.ipc_dict_read.specs.ValuesColumns.{Listed, columns_for, dictionary_columns}
use Rattle.ipc_dict.specs.EntryColumns.{IsEntryCounted}
use Rattle.ipc_dict.specs.Within.{IsOverLimit}
use Rattle.ipc_dict.proofs.DictionaryColumns.{fresh_at}
use Rattle.ipc_dict.proofs.EntryColumns.{counted_push, over_at}
use Rattle.ipc_dict.proofs.columns.EntryColumns.new.Goals as goal

pub fresh_column-requires : goal.fresh_column-requires
fresh_column-requires c =
    let fields = c.args.schema.now.fields in
    let e = c.entry-item.result in
    let f = fresh_at fields c.args.entries.now c.loop-entry.entry-index e c.requires (omega arith) c.entry-item.is in
    let listed : dictionary_columns fields ≡ c.in-Ok.dictionaries.columns = sym (ap (λ d. d.columns) c.in-Ok.ensures.none) in
    (f.0.0, (subst (λ (cs : Listed). columns_for cs e.id ≡ Some f.0.0) listed f.0.1.0, f.0.1.1))

pub returns-in_err-column-clause-over : goal.returns-in_err-column-clause-over
returns-in_err-column-clause-over c =
    let limits = c.args.limits.now in
    let fields = c.args.schema.now.fields in
    let es = c.args.entries.now in
    let i = c.loop-entry.entry-index in
    let e = c.entry-item.result in
    let f = fresh_at fields es i e c.requires (omega arith) c.entry-item.is in
    let listed : dictionary_columns fields ≡ c.in-Ok.dictionaries.columns = sym (ap (λ d. d.columns) c.in-Ok.ensures.none) in
    let report = c.in_err-column.ensures.refused f.0.0 (subst (λ (cs : Listed). columns_for cs e.id ≡ Some f.0.0) listed f.0.1.0) in
    let long = subst (λ (vs : List Value). AreColumnsTooLong limits f.0.0 (as_rows vs)) (sym f.1) report.1 in
    let over = over_at limits fields es i e w.TooLong (omega arith) c.entry-item.is (f.0.0, (f.0.1.0, (long, inl refl))) in
    let p = err_from_is_err_and c.from_residual-in_err-column.result c.from_residual-in_err-column.ensures.1 in
    subst (λ r. IfErr r (λ fault. fault ≡ w.TooLong → IsOverLimit limits fields es fault)) (sym p.1)
    (λ same. subst (λ (fault : WriteFault). IsOverLimit limits fields es fault) (sym same) over)

pub returns-in_err-column-clause-only : goal.returns-in_err-column-clause-only
returns-in_err-column-clause-only c =
    let fields = c.args.schema.now.fields in
    let e = c.entry-item.result in
    let f = fresh_at fields c.args.entries.now c.loop-entry.entry-index e c.requires (omega arith) c.entry-item.is in
    let listed : dictionary_columns fields ≡ c.in-Ok.dictionaries.columns = sym (ap (λ d. d.columns) c.in-Ok.ensures.none) in
    let report = c.in_err-column.ensures.refused f.0.0 (subst (λ (cs : Listed). columns_for cs e.id ≡ Some f.0.0) listed f.0.1.0) in
    let p = err_from_is_err_and c.from_residual-in_err-column.result c.from_residual-in_err-column.ensures.1 in
    rw (p.1, p.2, report.0) (inl refl)

pub loop-entry-preserved : goal.loop-entry-preserved
loop-entry-preserved c =
    let limits = c.args.limits.now in
    let fields = c.args.schema.now.fields in
    let es = c.args.entries.now in
    let i = c.loop-entry.entry-index in
    let e = c.entry-item.result in
    let column = c.in_ok-column.column in
    let f = fresh_at fields es i e c.requires (omega arith) c.entry-item.is in
    let listed : dictionary_columns fields ≡ c.in-Ok.dictionaries.columns = sym (ap (λ d. d.columns) c.in-Ok.ensures.none) in
    let none = c.in_ok-column.ensures.counted f.0.0 (subst (λ (cs : Listed). columns_for cs e.id ≡ Some f.0.0) listed f.0.1.0) in
    let counted : IsEntryCounted limits fields e column =
    (f.0.0, (f.0.1.0, subst (λ (vs : List Value). CountsRows limits f.0.0 (as_rows vs) column) (sym f.1) none)) in
    record {
      counted = rw (take_more es i e (omega arith), ← c.entry-item.is, c.in_ok-push.ensures.items)
          (counted_push limits fields _ _ e column c.loop-entry.invariant.counted counted);
      room = omega (
        arith,
        c.loop-entry.invariant.room,
        length-append c.loop-entry.sizes.items (column ∷ []),
        length-append c.loop-entry.next.items (column ∷ []),
        ap (λ (cs : List ColumnSizes). length cs) c.in_ok-push.ensures.items,
        ap (λ (cs : List ColumnSizes). length cs) c.in_ok-push-2.ensures.items,
      );
    }
