use Rattle.std.proofs.Common.{ap, sym, ◌∙◌, get_or, w64, int_eq}
use Rattle.std.proofs.lemmas.Int.{to_z-of_z}
use Rattle.ipc_dict.specs.Distinct.{first_index}
use Rattle.ipc_dict.specs.Planning.{number_at}
use Rattle.ipc_dict.proofs.Plans.{index-at, index-absent}
use Rattle.ipc_dict.proofs.settle.index_of.Goals as goal

pub returns-in_err-i : goal.returns-in_err-i
returns-in_err-i c =
    let t = c.args.entries.now in
    let same = to_z-of_z w64 c.args.id c.ranges.id in
    c.from_residual.ensures
    ∙ sym (index-absent c.args.id c.args.value.now t c.args.numbers.now
    (λ k d h. ap (λ z. int_eq (get_or t k d).id z) (sym same) ∙ c.in_err-i.ensures.absent k d h))

pub returns : goal.returns
returns c =
    let t = c.args.entries.now in
    let os = c.args.numbers.now in
    let i = c.in_ok-i.i in
    let n = c.index-entries-i.result in
    let o = c.index-numbers-i.result in
    let v = c.args.value.now in
    let same = to_z-of_z w64 c.args.id c.ranges.id in
    c.sent_index_of.ensures ∙ (λ j. number_at (first_index v (sym c.index-entries-i.is j).values) o)
    ∙ index-at c.args.id v t os i n o c.requires c.in_ok-i.ensures.within
    (ap (λ z. int_eq (get_or t i n).id z) (sym same) ∙ c.in_ok-i.ensures.finds n c.in_ok-i.ensures.within)
    (λ k h. ap (λ z. int_eq (get_or t k n).id z) (sym same) ∙ c.in_ok-i.ensures.before k n h)
    c.index-entries-i.is c.index-numbers-i.is
