use Rattle.std.proofs.Common.{◌≡◌, [], ◌++◌, ◌∙◌, ap, rules}
use Rattle.json.specs.Print.{print}
use Rattle.json.specs.Tree.{json_tokens}
use Rattle.serde_json.specs.Written.{outline, compact_text}
use Rattle.serde_json.proofs.Texts.{print-outline}
use Rattle.ipc_text_json.specs.RowJson.{row_json}
use Rattle.ipc_text_json.proofs.row.row_json.Goals as goal

pub returns : goal.returns
returns c =
    let d = row_json c.args.shape c.args.schema.now.fields c.args.row.now in
    let t : c.put_values.new.out.tokens ≡ json_tokens (outline d) =
    rw (c.new-writer.ensures.tokens, c.as_slice.ensures) at c.in_ok-put_values.ensures.ok in
    let none : c.put_values.new.out.before ≡ [] = search rules in
    let e : c.into_inner-bytes.result.items ≡ compact_text d =
    c.into_inner-bytes.ensures.items ∙ ap (λ b. b ++ print c.put_values.new.out.tokens) none ∙ ap print t ∙ print-outline d in
    record { text = ap (λ v. v.items) c.from_utf8_unchecked.ensures.value ∙ e; refused = tt }
