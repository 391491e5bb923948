use Rattle.std.proofs.Common.{◌∙◌, ◌<◌, sym, refl, inr, arith, length, take, subst}
use Rattle.std.proofs.lemmas.List.{drop_all, length-set, take_all, take_more_set}
use Rattle.csv.specs.Records.{fields_of}
use Rattle.ipc_text_csv.specs.CsvRows.{EachReadsAs}
use Rattle.ipc_text_csv.proofs.CsvSteps.{fields_from, texts_from, some_text, read_more, all_more, bad_here, bad_behind}
use Rattle.ipc_text_csv.proofs.CsvSteps.{read_all, all_read, flat_front, flat_behind}
use Rattle.ipc_text_csv.proofs.reader.read_fields.Goals as goal

pub returns-in_default-clause-refused : goal.returns-in_default-clause-refused
returns-in_default-clause-refused c flat =
    let e = c.in_default.ensures.value in
    let h = c.requires.fields in
    absurd (some_text (fields_of c.args.fields.now) c.loop-column.column (omega arith) (sym e))

pub returns-clause-read : goal.returns-clause-read
returns-clause-read c =
    let h = c.requires.fields in
    let p = drop_all c.loop-column.column c.args.columns.now (omega arith) in
    let q = drop_all c.loop-column.column (fields_of c.args.fields.now) (omega arith) in
    subst (EachReadsAs c.args.dialect c.args.columns.now (fields_of c.args.fields.now))
    (take_all c.loop-column.column c.loop-column.row.items (omega (arith, c.loop-column.invariant.long)))
    (read_all c.args.dialect _ _ _ _ (take c.loop-column.column c.loop-column.row.items) p q c.loop-column.invariant.read)

pub returns-clause-flat : goal.returns-clause-flat
returns-clause-flat c = c.loop-column.invariant.flat (rw (drop_all c.loop-column.column c.args.columns.now (omega arith)) refl)

pub returns-clause-all : goal.returns-clause-all
returns-clause-all c row h =
    let w = c.requires.fields in
    let p = drop_all c.loop-column.column c.args.columns.now (omega arith) in
    let q = drop_all c.loop-column.column (fields_of c.args.fields.now) (omega arith) in
    sym (take_all c.loop-column.column c.loop-column.row.items (omega (arith, c.loop-column.invariant.long)))
    ∙ all_read c.args.dialect _ _ _ _ (take c.loop-column.column c.loop-column.row.items) p q c.loop-column.invariant.all row h

pub returns-then-not-branch-clause-refused : goal.returns-then-not-branch-clause-refused
returns-then-not-branch-clause-refused c flat =
    let p = fields_from c.args.columns.now c.loop-column.column c.index-columns-column.result (omega arith) c.index-columns-column.is in
    let q = texts_from (fields_of c.args.fields.now) c.loop-column.column c.in-Some.text.now (sym c.in-Some.ensures.value) in
    let none = c.if-not-branch.true in
    let one = (flat_behind _ _ _ p (c.loop-column.invariant.behind flat)).0 in
    inr (
      c.loop-column.column,
      c.bad_field-then-not-branch.ensures,
      c.loop-column.invariant.bad c.loop-column.column
          (bad_here c.args.dialect p q c.loop-column.column (λ v h. let read = (c.in_ok-read_field.ensures.all one v h).0 in cc)),
    )

pub loop-column-preserved : goal.loop-column-preserved
loop-column-preserved c =
    let i = c.loop-column.invariant in
    let row = c.loop-column.row.items in
    let at = c.loop-column.column in
    let v = c.read_field.new.place in
    let p = fields_from c.args.columns.now c.loop-column.column c.index-columns-column.result (omega arith) c.index-columns-column.is in
    let q = texts_from (fields_of c.args.fields.now) c.loop-column.column c.in-Some.text.now (sym c.in-Some.ensures.value) in
    let r = c.in_ok-read_field.ensures.only c.if-not-branch.false in
    let one = c.in_ok-read_field.ensures.flat c.if-not-branch.false in
    let inside : at < length row = omega (arith, i.long) in
    let e = take_more_set row at v inside in
    record {
      long = length-set row at v ∙ i.long;
      read = read_more c.args.dialect p q c.args.columns.now (fields_of c.args.fields.now) (take at row) _ v r e i.read;
      all = all_more c.args.dialect p q c.args.columns.now (fields_of c.args.fields.now) (take at row) _ v
          (λ w h. (c.in_ok-read_field.ensures.all one w h).1) e i.all;
      flat = flat_front c.args.columns.now _ _ _ p one i.flat;
      behind = λ are. (flat_behind _ _ _ p (i.behind are)).1;
      bad = λ column h. i.bad column (bad_behind c.args.dialect p q at column v r h);
    }
