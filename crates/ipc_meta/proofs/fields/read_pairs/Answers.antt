use Rattle.std.proofs.Common.{◌∙◌, sym, ap, arith}
use Rattle.std.specs.Prelude.{Ok}
use Rattle.std.proofs.lemmas.List.{append-nil}
use Rattle.std.proofs.lemmas.Result.{err_from_is_err_and}
use Rattle.ipc_meta.specs.FlatFaults.{map_fault}
use Rattle.ipc_meta.specs.Reading.{pair_read}
use Rattle.ipc_meta.proofs.Each.{each_more, each_no_table, each_refused, each_done}
use Rattle.ipc_meta.proofs.Steps.{pairs_absent}
use Rattle.ipc_meta.proofs.fields.read_pairs.Goals as goal

pub returns-in_default : goal.returns-in_default
returns-in_default c = rw (c.from_vec.ensures, c.new-pairs.ensures.items)
    (pairs_absent _ _ _ (ap map_fault (sym c.tables.ensures) ∙ (sym c.in_ok-tables.ensures ∙ ap Ok c.in_default.is)))

pub returns-in_err-table : goal.returns-in_err-table
returns-in_err-table c =
    let p = err_from_is_err_and c.from_residual-in_err-table.result c.from_residual-in_err-table.ensures.1 in
    rw (p.1, p.2) (λ ne. sym c.loop-i.invariant.read
    ∙ each_no_table pair_read c.in-Some.tables.bytes c.in-Some.tables.at c.loop-i.i c.in-Some.tables.len c.loop-i.budget _ _ (omega arith)
    (ap map_fault (sym c.at.ensures) ∙ sym c.in_err-table.ensures))

pub returns-in_err-read_pair : goal.returns-in_err-read_pair
returns-in_err-read_pair c =
    let p = err_from_is_err_and c.from_residual-in_err-read_pair.result c.from_residual-in_err-read_pair.ensures.1 in
    rw (p.1, p.2) (λ ne. sym c.loop-i.invariant.read
    ∙ each_refused pair_read c.in-Some.tables.bytes c.in-Some.tables.at c.loop-i.i c.in-Some.tables.len c.loop-i.budget
    c.in_ok-table.table _ _ (omega arith) (ap map_fault (sym c.at.ensures) ∙ sym c.in_ok-table.ensures) (c.in_err-read_pair.ensures ne))

pub loop-i-preserved : goal.loop-i-preserved
loop-i-preserved c = record {
  range = c.loop-i.invariant.range;
  read = rw c.in_ok-push.ensures.items (
      sym (each_more pair_read c.in-Some.tables.bytes c.in-Some.tables.at c.loop-i.i c.in-Some.tables.len c.loop-i.budget
      c.read_pair.new.budget
      c.in_ok-table.table _ c.loop-i.pairs.items (omega arith)
      (ap map_fault (sym c.at.ensures) ∙ sym c.in_ok-table.ensures) c.in_ok-read_pair.ensures)
      ∙ c.loop-i.invariant.read);
}

pub returns : goal.returns
returns c =
    sym c.loop-i.invariant.read ∙ (each_done pair_read c.in-Some.tables.bytes c.in-Some.tables.at c.loop-i.i c.in-Some.tables.len
    c.loop-i.budget c.loop-i.pairs.items (omega arith)
    ∙ rw c.from_vec-2.ensures (ap (λ xs. Ok (xs, c.loop-i.budget)) (append-nil c.loop-i.pairs.items)))
