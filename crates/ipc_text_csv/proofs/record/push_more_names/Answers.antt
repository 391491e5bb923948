use Rattle.std.proofs.Common.{◌∙◌, sym}
use Rattle.ipc_text_csv.proofs.Records.{name_more, no_names}
use Rattle.ipc_text_csv.proofs.record.push_more_names.Goals as goal

pub loop-field-preserved : goal.loop-field-preserved
loop-field-preserved c =
    let pushed = rw (c.as_bytes.ensures.value, c.as_str.ensures) at c.in_ok-push_field.ensures in
    name_more c.args.dialect.delimiter _ _ _ c.args.fields.now c.loop-field.field-index _ c.loop-field-test.true c.field-item.is
    (rw c.delimiter-delimiter.ensures at c.in_ok-push.ensures.items) pushed
    ∙ c.loop-field.invariant

pub returns : goal.returns
returns c =
    sym (no_names c.args.dialect.delimiter c.loop-field.out.items c.args.fields.now c.loop-field.field-index c.loop-field-test.false)
    ∙ c.loop-field.invariant
