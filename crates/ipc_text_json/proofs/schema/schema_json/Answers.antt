use Rattle.std.proofs.Common.{◌≡◌, [], ◌++◌, ◌∙◌, ap, rules}
use Rattle.json.specs.Print.{print}
use Rattle.json.specs.Tree.{json_tokens}
use Rattle.serde_json.specs.Written.{outline, compact_text}
use Rattle.serde_json.proofs.Texts.{print-outline}
use Rattle.ipc_text_json.specs.SchemaJson.{schema_json}
use Rattle.ipc_text_json.proofs.schema.schema_json.Goals as goal

pub returns : goal.returns
returns c =
    let d = schema_json c.args.schema.now in
    let t : c.put_schema.new.out.tokens ≡ json_tokens (outline d) = rw c.new-writer.ensures.tokens at c.in_ok-put_schema.ensures.ok in
    let none : c.put_schema.new.out.before ≡ [] = search rules in
    let e : c.into_inner-bytes.result.items ≡ compact_text d =
    c.into_inner-bytes.ensures.items ∙ ap (λ b. b ++ print c.put_schema.new.out.tokens) none ∙ ap print t ∙ print-outline d in
    record { text = ap (λ v. v.items) c.from_utf8_unchecked.ensures.value ∙ e; refused = tt }
