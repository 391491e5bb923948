use Rattle.std.proofs.Common.{◌≡◌, ◌∙◌, map, sym, rules, flat_map}
use Rattle.serde_json.specs.View.{view}
use Rattle.ipc_text_json.specs.SchemaJson.{field_json}
use Rattle.ipc_text_temporal.specs.declared.fault.TextFault.TheVariants.{OutOfMemory}
use Rattle.ipc_text_json.proofs.JsonItems.{same_members, same_items, same_list, rest_of, first_of_members}
use Rattle.ipc_text_json.proofs.schema_reader.read_schema.Goals as goal

pub returns-in_err-fields-clause-all : goal.returns-in_err-fields-clause-all
returns-in_err-fields-clause-all c s r e =
    let m0 = same_members (sym c.in_ok-entries.ensures.only ∙ e) in
    let f = same_list (map view c.in_ok-entries.entries.now) (flat_map field_json s.fields) (same_items (first_of_members m0)) in
    let z : c.in_err-fields.field-0.0 ≡ OutOfMemory = c.in_err-fields.ensures.all s.fields r f in
    search (rules, z)

pub returns-clause-all : goal.returns-clause-all
returns-clause-all c s r e =
    let m0 = same_members (sym c.in_ok-entries.ensures.only ∙ e) in
    let f = same_list (map view c.in_ok-entries.entries.now) (flat_map field_json s.fields) (same_items (first_of_members m0)) in
    let z = c.in_ok-fields.ensures.all s.fields r f in
    let y = c.in_ok-metadata.ensures.all s.metadata (first_of_members (rest_of m0)) in
    let p = c.from_vec.ensures ∙ z in
    let q = c.from_vec-2.ensures ∙ y in
    λ i. record { fields = p i; metadata = q i }
