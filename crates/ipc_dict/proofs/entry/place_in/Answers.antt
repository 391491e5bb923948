use Rattle.std.proofs.Common.{ap, sym, ◌∙◌, get_or, w64, int_eq}
use Rattle.std.proofs.lemmas.Int.{to_z-of_z}
use Rattle.ipc_dict.specs.declared.entry.TallyEntry.{TallyEntry}
use Rattle.ipc_dict.specs.Distinct.{first_index}
use Rattle.ipc_dict.proofs.Places.{place-at, place-absent}
use Rattle.ipc_dict.proofs.entry.place_in.Goals as goal

pub returns-in_err-i : goal.returns-in_err-i
returns-in_err-i c =
    let t = c.args.entries.now in
    let same = to_z-of_z w64 c.args.id c.ranges.id in
    c.from_residual.ensures
    ∙ sym (place-absent c.args.id c.args.value.now t
    (λ k d h. ap (λ z. int_eq (get_or t k d).id z) (sym same) ∙ c.in_err-i.ensures.absent k d h))

pub returns : goal.returns
returns c =
    let t = c.args.entries.now in
    let i = c.in_ok-i.i in
    let x = c.index-entries-i.result in
    let v = c.args.value.now in
    let same = to_z-of_z w64 c.args.id c.ranges.id in
    c.place_of.ensures ∙ ap (λ (y : TallyEntry). first_index v y.values) (sym c.index-entries-i.is)
    ∙ place-at c.args.id v t i x c.in_ok-i.ensures.within
    (ap (λ z. int_eq (get_or t i x).id z) (sym same) ∙ c.in_ok-i.ensures.finds x c.in_ok-i.ensures.within)
    (λ k h. ap (λ z. int_eq (get_or t k x).id z) (sym same) ∙ c.in_ok-i.ensures.before k x h)
    c.index-entries-i.is
