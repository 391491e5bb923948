use Rattle.std.proofs.Common.{◌∙◌, ap, sym, subst, List, get_or}
use Rattle.std.specs.List.{IsDistinct}
use Rattle.ipc_model.specs.declared.value.Value.{Value}
use Rattle.ipc_model.proofs.AlikeValues.{same_value}
use Rattle.ipc_dict.specs.Distinct.{same, first_index}
use Rattle.ipc_dict.proofs.FirstPlaces.{first_place}
use Rattle.ipc_dict.proofs.distinct.DistinctValues.is_at.Goals as goal

pub returns-in-Some : goal.returns-in-Some
returns-in-Some c = λ yes.
    let v = c.args.value.now in
    let vs = c.as_slice.result.now in
    let at = c.in-Some.ensures.lookup in
    let found = same_value c.in-Some.known.now v (sym c.eq.ensures ∙ yes) in
    let apart = subst (λ (xs : List Value). IsDistinct same xs) (sym c.as_slice.ensures.keys) c.as_slice.ensures.unique in
    let here = ap (λ (w : Value). get_or vs c.args.number w) (sym found) ∙ sym at.1 ∙ found in
    sym (ap (λ (xs : List Value). first_index v xs) (c.as_slice.ensures.keys ∙ c.self.view_is))
    ∙ first_place v vs c.args.number apart at.3.0 here
