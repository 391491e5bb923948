use Rattle.std.proofs.Common.{◌∙◌, sym, ap, arith}
use Rattle.std.specs.Prelude.{Ok}
use Rattle.std.proofs.lemmas.List.{append-nil}
use Rattle.std.proofs.lemmas.Result.{err_from_is_err_and}
use Rattle.ipc_meta.specs.FlatFaults.{map_fault}
use Rattle.ipc_meta.specs.Reading.{field_read}
use Rattle.ipc_meta.proofs.Each.{each_more, each_no_table, each_refused, each_done}
use Rattle.ipc_meta.proofs.Steps.{fields_absent, field_no_name, field_no_flag, field_no_type, field_no_dictionary, field_no_pairs}
use Rattle.ipc_meta.proofs.Steps.{field_no_children}
use Rattle.ipc_meta.proofs.fields.+fields.Goals as goal

pub read_field-returns-in_err-name : goal.read_field-returns-in_err-name
read_field-returns-in_err-name t c =
    let p = err_from_is_err_and c.from_residual.result c.from_residual.ensures.1 in
    rw (p.1, p.2) (field_no_name _ _ _ _ (omega arith) c.in_err-name.ensures)

pub read_field-returns-in_err-nullable : goal.read_field-returns-in_err-nullable
read_field-returns-in_err-nullable t c =
    let p = err_from_is_err_and c.from_residual-in_err-nullable.result c.from_residual-in_err-nullable.ensures.1 in
    rw (p.1, p.2) (field_no_flag _ _ _ _ _ _ (omega arith) c.in_ok-name.ensures (λ _. sym c.in_err-nullable.ensures))

pub read_field-returns-in_err-kind : goal.read_field-returns-in_err-kind
read_field-returns-in_err-kind t c =
    let p = err_from_is_err_and c.from_residual-in_err-kind.result c.from_residual-in_err-kind.ensures.1 in
    rw (p.1, p.2) (field_no_type _ _ _ _ _ _ _ (omega arith) c.in_ok-name.ensures (sym c.in_ok-nullable.ensures) c.in_err-kind.ensures)

pub read_field-returns-in_err-dictionary : goal.read_field-returns-in_err-dictionary
read_field-returns-in_err-dictionary t c =
    let p = err_from_is_err_and c.from_residual-in_err-dictionary.result c.from_residual-in_err-dictionary.ensures.1 in
    rw (p.1, p.2) (field_no_dictionary _ _ _ _ _ _ _ _ _ (omega arith) c.in_ok-name.ensures
    (sym c.in_ok-nullable.ensures) c.in_ok-kind.ensures (λ _. sym c.in_err-dictionary.ensures))

pub read_field-returns-in_err-metadata : goal.read_field-returns-in_err-metadata
read_field-returns-in_err-metadata t c =
    let p = err_from_is_err_and c.from_residual-in_err-metadata.result c.from_residual-in_err-metadata.ensures.1 in
    rw (p.1, p.2) (field_no_pairs _ _ _ _ _ _ _ _ _ _ (omega arith) c.in_ok-name.ensures (sym c.in_ok-nullable.ensures) c.in_ok-kind.ensures
    (sym c.in_ok-dictionary.ensures) c.in_err-metadata.ensures)

pub read_field-returns-in_err-children : goal.read_field-returns-in_err-children
read_field-returns-in_err-children t c =
    let p = err_from_is_err_and c.from_residual-in_err-children.result c.from_residual-in_err-children.ensures.1 in
    rw (p.1, p.2) (field_no_children _ _ _ _ _ _ _ _ _ _ _ _ (omega arith) c.in_ok-name.ensures
    (sym c.in_ok-nullable.ensures) c.in_ok-kind.ensures
    (sym c.in_ok-dictionary.ensures) c.in_ok-metadata.ensures c.in_err-children.ensures)

pub read_fields-returns-in_default : goal.read_fields-returns-in_default
read_fields-returns-in_default t c = rw (c.from_vec.ensures, c.new-fields.ensures.items)
    (fields_absent _ _ _ _ (ap map_fault (sym c.tables.ensures) ∙ (sym c.in_ok-tables.ensures ∙ ap Ok c.in_default.is)))

pub read_fields-returns-in_err-table : goal.read_fields-returns-in_err-table
read_fields-returns-in_err-table t c =
    let p = err_from_is_err_and c.from_residual-in_err-table.result c.from_residual-in_err-table.ensures.1 in
    rw (p.1, p.2) (λ ne. sym c.loop-i.invariant.read
    ∙ each_no_table (field_read c.args.depth) c.in-Some.tables.bytes c.in-Some.tables.at c.loop-i.i c.in-Some.tables.len
    c.loop-i.budget _ _ (omega arith) (ap map_fault (sym c.at.ensures) ∙ sym c.in_err-table.ensures))

pub read_fields-returns-in_err-read_field : goal.read_fields-returns-in_err-read_field
read_fields-returns-in_err-read_field t c =
    let p = err_from_is_err_and c.from_residual-in_err-read_field.result c.from_residual-in_err-read_field.ensures.1 in
    rw (p.1, p.2) (λ ne. sym c.loop-i.invariant.read
    ∙ each_refused (field_read c.args.depth) c.in-Some.tables.bytes c.in-Some.tables.at c.loop-i.i c.in-Some.tables.len c.loop-i.budget
    c.in_ok-table.table _ _ (omega arith) (ap map_fault (sym c.at.ensures) ∙ sym c.in_ok-table.ensures) (c.in_err-read_field.ensures ne))

pub read_fields-loop-i-preserved : goal.read_fields-loop-i-preserved
read_fields-loop-i-preserved t c = record {
  range = c.loop-i.invariant.range;
  read = rw c.in_ok-push.ensures.items (
      sym (each_more (field_read c.args.depth) c.in-Some.tables.bytes c.in-Some.tables.at c.loop-i.i c.in-Some.tables.len c.loop-i.budget
      c.read_field.new.budget c.in_ok-table.table _ c.loop-i.fields.items (omega arith)
      (ap map_fault (sym c.at.ensures) ∙ sym c.in_ok-table.ensures) c.in_ok-read_field.ensures)
      ∙ c.loop-i.invariant.read);
}

pub read_fields-returns : goal.read_fields-returns
read_fields-returns t c =
    sym c.loop-i.invariant.read ∙ (each_done
    (field_read c.args.depth) c.in-Some.tables.bytes c.in-Some.tables.at c.loop-i.i c.in-Some.tables.len c.loop-i.budget
    c.loop-i.fields.items (omega arith)
    ∙ rw c.from_vec-2.ensures (ap (λ xs. Ok (xs, c.loop-i.budget)) (append-nil c.loop-i.fields.items)))
