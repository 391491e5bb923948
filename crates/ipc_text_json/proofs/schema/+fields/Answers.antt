use Rattle.std.proofs.Common.{◌∙◌, ◌++◌, ap, sym, arith}
use Rattle.std.proofs.lemmas.Result.{on_ok_weaker}
use Rattle.ipc_text_json.specs.SchemaJson.{tokens_of}
use Rattle.ipc_text_json.proofs.FieldTokens.{entries_from, more_entries, own_and_below}
use Rattle.ipc_text_json.proofs.schema.+fields.Goals as goal

pub put_fields-loop-field-preserved : goal.put_fields-loop-field-preserved
put_fields-loop-field-preserved t c =
    let i = c.loop-field.invariant in
    let front = entries_from c.args.fields.now c.loop-field.field-index c.field-item.result (omega arith) c.field-item.is in
    record {
      tokens = more_entries _ _ _ _ _ c.in_ok-put_field.ensures.ok
          (ap (λ es. c.loop-field.out.tokens ++ tokens_of es) (sym front) ∙ i.tokens);
      before = c.put_field.ensures.before ∙ i.before;
    }

pub put_field-returns-clause-ok : goal.put_field-returns-clause-ok
put_field-returns-clause-ok t c =
    let below = rw c.as_slice.ensures at c.put_fields.ensures.ok in
    on_ok_weaker c.put_fields.result (own_and_below c.args.field.now _ _ _ c.in_ok-put_own.ensures.ok) below
