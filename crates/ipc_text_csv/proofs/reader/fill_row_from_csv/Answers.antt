use Rattle.std.proofs.Common.{◌≡◌, ◌∙◌, false, subst, sym, arith}
use Rattle.std.specs.List.{list_any}
use Rattle.std.proofs.lemmas.Bool.Decides.{nat_tests}
use Rattle.ipc_model.specs.declared.schema.Field.{out-Field}
use Rattle.ipc_text_csv.specs.RowCsv.{is_nested}
use Rattle.csv.specs.Records.{fields_of}
use Rattle.ipc_text_csv.specs.CsvRows.{EachReadsAs}
use Rattle.ipc_text_csv.proofs.CsvBack.{each_back}
use Rattle.ipc_text_csv.proofs.CsvSteps.{as_many, memory_alone, flat_columns, some_columns}
use Rattle.ipc_text_csv.proofs.reader.fill_row_from_csv.Goals.{then-is_empty-via-then-is_empty, then-is_empty-via-else-is_empty+then-len}
use Rattle.ipc_text_csv.proofs.reader.fill_row_from_csv.Goals as goal

pub returns-then-is_empty-clause-all : goal.returns-then-is_empty-clause-all
returns-then-is_empty-clause-all c row h =
    let many = as_many c.args.dialect c.args.schema.now.fields (fields_of c.args.fields.now) row h.1 in
    elim c.then-is_empty.branch [
      | then-is_empty-via-then-is_empty w ↦
          let is = c.is_empty.ensures in
          let yes = w.if-is_empty in
          absurd (some_columns c.args.schema.now.fields h.0 (grind (arith, nat_tests)))
      | then-is_empty-via-else-is_empty+then-len w ↦ absurd (w.if-len.true (w.len.ensures ∙ many ∙ sym w.len-else-is_empty.ensures))
    ]

pub returns-then-is_empty-clause-back : goal.returns-then-is_empty-clause-back
returns-then-is_empty-clause-back c row flat typed e =
    let r = each_back c.args.dialect 0 c.args.schema.now.fields (fields_of c.args.fields.now) row typed e in
    returns-then-is_empty-clause-all c row (flat, r)

pub returns-in-Err-clause-all : goal.returns-in-Err-clause-all
returns-in-Err-clause-all c row h =
    let flat = subst (λ fs. list_any (λ f. is_nested (out-Field f).kind) fs ≡ false) (sym c.as_slice-columns.ensures)
    (flat_columns c.args.schema.now.fields h.0) in
    memory_alone c.args.dialect c.args.number c.as_slice-columns.result.now (fields_of c.args.fields.now) _ (c.in-Err.ensures.refused flat)
    row
    (subst (λ fs. EachReadsAs c.args.dialect fs (fields_of c.args.fields.now) row) (sym c.as_slice-columns.ensures) h.1)

pub returns-in-Err-clause-back : goal.returns-in-Err-clause-back
returns-in-Err-clause-back c row flat typed e =
    let r = each_back c.args.dialect 0 c.args.schema.now.fields (fields_of c.args.fields.now) row typed e in
    returns-in-Err-clause-all c row (flat, r)

pub returns-clause-back : goal.returns-clause-back
returns-clause-back c row flat typed e =
    let r = each_back c.args.dialect 0 c.args.schema.now.fields (fields_of c.args.fields.now) row typed e in
    c.from_vec.ensures ∙ c.in_default.ensures.all row
    (subst (λ fs. EachReadsAs c.args.dialect fs (fields_of c.args.fields.now) row) (sym c.as_slice-columns.ensures) r)
