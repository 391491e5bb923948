use Rattle.std.proofs.Common.{◌∙◌, ap, sym}
use Rattle.serde_json.specs.Data.{array}
use Rattle.serde_json.specs.Find.{as_array}
use Rattle.serde_json.specs.View.{items_view}
use Rattle.ipc_model.specs.declared.schema.DataType.TheVariants as t
use Rattle.std.proofs.lemmas.Option.{same_Some}
use Rattle.ipc_text_json.proofs.schema_reader.index_of.Goals as goal

pub returns-in_err-bits-clause-all : goal.returns-in_err-bits-clause-all
returns-in_err-bits-clause-all c index e =
    let v = same_Some _ _ (c.in_ok-as_array.ensures ∙ ap as_array e) in
    let f = c.in_err-bits.ensures.all (t.Int index.bits index.signed) tt tt
    (sym (ap array (ap items_view c.as_slice.ensures.value ∙ v))) in
    absurd cc
