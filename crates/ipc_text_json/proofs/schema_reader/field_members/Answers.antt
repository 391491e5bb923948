use Rattle.std.proofs.Common.{◌∙◌, sym, rules}
use Rattle.std.specs.Prelude.{◌≢◌}
use Rattle.serde_json.specs.Data.{Data}
use Rattle.serde_json.specs.View.{view}
use Rattle.ipc_text_json.specs.SchemaMembers.{field_object}
use Rattle.ipc_text_json.proofs.JsonItems.{same_members, rest_of}
use Rattle.ipc_text_json.proofs.schema_reader.field_members.Goals as goal

pub returns-in_err-dictionary-clause-none : goal.returns-in_err-dictionary-clause-none
returns-in_err-dictionary-clause-none c =
    let no : (d1 d2 d3 d4 d5 d6 : Data) → view c.args.value.now ≢ field_object d1 d2 d3 d4 d5 d6 = λ d1 d2 d3 d4 d5 d6 e.
    let m0 = same_members (sym c.in_ok-members.ensures ∙ e) in
    let m1 = rest_of (sym c.in_ok-children.ensures.only ∙ m0) in
    let ok = c.in_err-dictionary.ensures.all _ _ m1 in
    absurd cc in
    let refused = c.in_err-dictionary.ensures.refused in
    search (rules, refused, no)

pub returns-in_err-metadata-clause-none : goal.returns-in_err-metadata-clause-none
returns-in_err-metadata-clause-none c =
    let no : (d1 d2 d3 d4 d5 d6 : Data) → view c.args.value.now ≢ field_object d1 d2 d3 d4 d5 d6 = λ d1 d2 d3 d4 d5 d6 e.
    let m0 = same_members (sym c.in_ok-members.ensures ∙ e) in
    let m1 = rest_of (sym c.in_ok-children.ensures.only ∙ m0) in
    let m2 = rest_of (sym c.in_ok-dictionary.ensures.only ∙ m1) in
    let ok = c.in_err-metadata.ensures.all _ _ m2 in
    absurd cc in
    let refused = c.in_err-metadata.ensures.refused in
    search (rules, refused, no)

pub returns-in_err-nullable-clause-none : goal.returns-in_err-nullable-clause-none
returns-in_err-nullable-clause-none c =
    let no : (d1 d2 d3 d4 d5 d6 : Data) → view c.args.value.now ≢ field_object d1 d2 d3 d4 d5 d6 = λ d1 d2 d3 d4 d5 d6 e.
    let m0 = same_members (sym c.in_ok-members.ensures ∙ e) in
    let m1 = rest_of (sym c.in_ok-children.ensures.only ∙ m0) in
    let m2 = rest_of (sym c.in_ok-dictionary.ensures.only ∙ m1) in
    let m3 = rest_of (sym c.in_ok-metadata.ensures.only ∙ m2) in
    let m4 = rest_of (sym c.in_ok-name.ensures.only ∙ m3) in
    let ok = c.in_err-nullable.ensures.all _ _ m4 in
    absurd cc in
    let refused = c.in_err-nullable.ensures.refused in
    search (rules, refused, no)

pub returns-in_err-kind-clause-none : goal.returns-in_err-kind-clause-none
returns-in_err-kind-clause-none c =
    let no : (d1 d2 d3 d4 d5 d6 : Data) → view c.args.value.now ≢ field_object d1 d2 d3 d4 d5 d6 = λ d1 d2 d3 d4 d5 d6 e.
    let m0 = same_members (sym c.in_ok-members.ensures ∙ e) in
    let m1 = rest_of (sym c.in_ok-children.ensures.only ∙ m0) in
    let m2 = rest_of (sym c.in_ok-dictionary.ensures.only ∙ m1) in
    let m3 = rest_of (sym c.in_ok-metadata.ensures.only ∙ m2) in
    let m4 = rest_of (sym c.in_ok-name.ensures.only ∙ m3) in
    let m5 = rest_of (sym c.in_ok-nullable.ensures.only ∙ m4) in
    let ok = c.in_err-kind.ensures.all _ _ m5 in
    absurd cc in
    let refused = c.in_err-kind.ensures.refused in
    search (rules, refused, no)
