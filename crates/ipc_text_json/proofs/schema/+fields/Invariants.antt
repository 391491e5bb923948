use Rattle.std.proofs.Common.{◌≡◌, ◌++◌, drop, flat_map}
use Rattle.ipc_text_json.specs.SchemaJson.{field_json, tokens_of}
use Rattle.ipc_text_json.proofs.schema.+fields.Given as goal

abbrev pub invariant-put_fields-loop-field : goal.invariant-put_fields-loop-field
invariant-put_fields-loop-field l = record {
  tokens : l.out.tokens ++ tokens_of (flat_map field_json (drop l.field-index l.fields))
      ≡ l.initial.out.tokens ++ tokens_of (flat_map field_json l.fields);
  before : l.out.before ≡ l.initial.out.before;
}
