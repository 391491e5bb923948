use Rattle.std.proofs.Common.{ap, sym, ◌∙◌, get_or, w64, int_eq, []}
use Rattle.std.proofs.lemmas.Int.{to_z-of_z}
use Rattle.ipc_dict.specs.declared.entry.TallyEntry.{TallyEntry}
use Rattle.ipc_dict.proofs.Plans.{number-at, number-absent}
use Rattle.ipc_dict.proofs.settle.number_of_index.Goals as goal

pub returns-in_err-i : goal.returns-in_err-i
returns-in_err-i c =
    let t = c.args.entries.now in
    let same = to_z-of_z w64 c.args.id c.ranges.id in
    c.from_residual.ensures
    ∙ sym (number-absent c.args.id c.args.from t c.args.numbers.now
    (λ k d h. ap (λ z. int_eq (get_or t k d).id z) (sym same) ∙ c.in_err-i.ensures.absent k d h))

pub returns : goal.returns
returns c =
    let t = c.args.entries.now in
    let os = c.args.numbers.now in
    let i = c.in_ok-i.i in
    let o = c.index-numbers-i.result in
    let same = to_z-of_z w64 c.args.id c.ranges.id in
    let any : TallyEntry = record { id = c.args.id; limit = 0; values = [] } in
    c.kept_number.ensures
    ∙ number-at c.args.id c.args.from t os i any o c.requires c.in_ok-i.ensures.within
    (ap (λ z. int_eq (get_or t i any).id z) (sym same) ∙ c.in_ok-i.ensures.finds any c.in_ok-i.ensures.within)
    (λ k h. ap (λ z. int_eq (get_or t k any).id z) (sym same) ∙ c.in_ok-i.ensures.before k any h)
    c.index-numbers-i.is
