use Rattle.std.proofs.Common.{◌≢◌, sym, refl, arith}
use Rattle.csv.specs.Records.{fields_of}
use Rattle.ipc_model.specs.declared.schema.Field.{out-Field}
use Rattle.ipc_text_csv.proofs.CsvSteps.{fields_from, texts_from, some_text, unlike_here, unlike_behind, named_more}
use Rattle.ipc_text_csv.proofs.reader.check_names.Goals as goal

pub returns-in_default-clause-refused : goal.returns-in_default-clause-refused
returns-in_default-clause-refused c =
    let e = c.in_default.ensures.value in
    let h = c.requires in
    absurd (some_text (fields_of c.args.header.now) c.loop-column.column (omega arith) (sym e))

pub returns-then-not-is_name_of-clause-refused : goal.returns-then-not-is_name_of-clause-refused
returns-then-not-is_name_of-clause-refused c =
    let i = c.loop-column.column in
    let p = fields_from c.args.columns.now i c.index-columns-column.result (omega arith) c.index-columns-column.is in
    let q = texts_from (fields_of c.args.header.now) i c.in-Some.name.now (sym c.in-Some.ensures.value) in
    let other : c.in-Some.name.now ≢ (out-Field c.index-columns-column.result).name =
    λ e. let t = c.is_name_of.ensures.1 e in let f = c.if-not-is_name_of.true in cc in
    (i, refl, c.loop-column.invariant.unlike i (unlike_here p q i other))

pub loop-column-preserved : goal.loop-column-preserved
loop-column-preserved c =
    let i = c.loop-column.column in
    let p = fields_from c.args.columns.now i c.index-columns-column.result (omega arith) c.index-columns-column.is in
    let q = texts_from (fields_of c.args.header.now) i c.in-Some.name.now (sym c.in-Some.ensures.value) in
    let e = c.is_name_of.ensures.0 c.if-not-is_name_of.false in
    record {
      named = named_more p q c.args.columns.now (fields_of c.args.header.now) e c.loop-column.invariant.named;
      unlike = λ column h. c.loop-column.invariant.unlike column (unlike_behind p q i column e h);
    }
