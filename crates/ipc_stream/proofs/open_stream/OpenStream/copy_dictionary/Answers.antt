use Rattle.std.proofs.Common.{◌∙◌, ap, sym, inr, w64}
use Rattle.std.proofs.lemmas.Int.{to_z-of_z}
use Rattle.std.proofs.lemmas.Result.{err_from_is_err_and}
use Rattle.ipc_dict_read.specs.ValuesColumns.{columns_for}
use Rattle.ipc_stream.specs.Canonical.{IsLastSent}
use Rattle.ipc_stream.proofs.open_stream.OpenStream.copy_dictionary.Goals as goal

pub returns-in_err-parts-clause-refused : goal.returns-in_err-parts-clause-refused
returns-in_err-parts-clause-refused c = rw (← c.self.view_is) (
    let p = err_from_is_err_and c.from_residual-in_err-parts.result c.from_residual-in_err-parts.ensures.1 in
    let same = to_z-of_z w64 c.args.id c.ranges.id in
    let named = rw same at (rw c.in-Some.is at c.fields_of.ensures) in
    let sent = rw same at (rw c.in-Some-2.is at c.in_ok-rows.ensures.sent) in
    let last : IsLastSent c.self.inside.schema c.self.inside.kept c.args.id = record {
      columns = c.in-Some.columns.now;
      named = ap (λ l. columns_for l c.args.id) (sym c.self.invariant.columns_are) ∙ sym named;
      rows = c.in-Some-2.rows;
      sent = sym sent;
    } in
    let refused = rw (c.as_slice-columns.ensures, c.as_slice.ensures) at c.in_err-parts.ensures.refused in
    rw (p.1, p.2) (inr (last, refused)))

pub returns-clause-copied : goal.returns-clause-copied
returns-clause-copied c = rw (← c.self.view_is) (
    let same = to_z-of_z w64 c.args.id c.ranges.id in
    let named = rw same at (rw c.in-Some.is at c.fields_of.ensures) in
    let sent = rw same at (rw c.in-Some-2.is at c.in_ok-rows.ensures.sent) in
    record {
      last = record {
        columns = c.in-Some.columns.now;
        named = ap (λ l. columns_for l c.args.id) (sym c.self.invariant.columns_are) ∙ sym named;
        rows = c.in-Some-2.rows;
        sent = sym sent;
      };
      parts = c.in_ok-segmented.segmented;
      indices = _;
      segmented = rw (c.as_slice-columns.ensures, c.as_slice.ensures)
          at (c.in_ok-segmented.ensures.segmented _ _ _ c.in_ok-parts.ensures.laid_out);
      copies = c.copy_parts.ensures;
    })
