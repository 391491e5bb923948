use Rattle.std.proofs.Common.{◌∙◌, ◌≤◌, length, sym, ap, arith, rules}
use Rattle.std.proofs.lemmas.Bool.Decides.{nat_tests}
use Rattle.ipc_text_csv.specs.RowCsv.{with_fields, all_texts}
use Rattle.ipc_text_csv.proofs.Records.{field_more, cells_from, no_columns, no_values}
use Rattle.ipc_text_csv.proofs.record.push_values.Goals as goal

pub returns-in_default-clause-ok : goal.returns-in_default-clause-ok
returns-in_default-clause-ok c =
    let out : length c.args.row.now ≤ c.loop-column.column = let e = c.in_default.ensures.lookup.0 in grind (arith, nat_tests) in
    sym c.loop-column.invariant ∙ no_values c.args.dialect c.args.dialect.delimiter c.loop-column.column _ _ c.args.row.now out

pub loop-column-preserved : goal.loop-column-preserved
loop-column-preserved c =
    let n = c.loop-column.column in
    let there = c.in-Some.ensures.lookup in
    let cells = cells_from c.args.dialect c.args.fields.now c.args.row.now n c.index-fields-column.result c.in-Some.value.now
    (omega arith) (search rules) c.index-fields-column.is (search rules) in
    field_more c.args.dialect.delimiter n _ _ _ _ _ c.in_ok-push_delimiter.ensures c.in_ok-push_value.ensures.ok
    ∙ ap (λ cs. with_fields c.args.dialect.delimiter n c.loop-column.out.items (all_texts n cs)) (sym cells) ∙ c.loop-column.invariant

pub returns-clause-ok : goal.returns-clause-ok
returns-clause-ok c = sym c.loop-column.invariant ∙ no_columns c.args.dialect c.args.dialect.delimiter c.loop-column.column _
    c.args.fields.now _ c.loop-column-test.false
