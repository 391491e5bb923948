use Rattle.std.proofs.Common.{◌∙◌, sym, rules}
use Rattle.std.specs.Prelude.{◌≢◌}
use Rattle.serde_json.specs.Data.{Data, Items}
use Rattle.serde_json.specs.View.{view}
use Rattle.ipc_text_json.specs.SchemaMembers.{schema_object}
use Rattle.ipc_text_json.proofs.JsonItems.{same_members, rest_of}
use Rattle.ipc_text_json.proofs.schema_reader.schema_members.Goals as goal

pub returns-in_err-metadata-clause-none : goal.returns-in_err-metadata-clause-none
returns-in_err-metadata-clause-none c =
    let no : (fields : Items) (metadata : Data) → view c.args.value.now ≢ schema_object fields metadata = λ fields metadata e.
    let m0 = same_members (sym c.in_ok-members.ensures ∙ e) in
    let m1 = rest_of (sym c.in_ok-next_member.ensures.only ∙ m0) in
    let ok = c.in_err-metadata.ensures.all _ _ m1 in
    absurd cc in
    let refused = c.in_err-metadata.ensures.refused in
    search (rules, refused, no)
