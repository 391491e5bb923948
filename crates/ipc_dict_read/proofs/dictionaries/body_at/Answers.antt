use Rattle.std.proofs.Common.{◌∙◌, ap, Some, None, w64}
use Rattle.std.proofs.lemmas.Int.{to_z-of_z}
use Rattle.ipc_dict_read.proofs.Puts.{body_of-found}
use Rattle.ipc_dict_read.proofs.dictionaries.body_at.Goals as goal

pub returns-in-Some : goal.returns-in-Some
returns-in-Some c =
    c.body_len.ensures ∙ ap (λ v. v.body_len) c.deref.ensures
    ∙ body_of-found c.args.current.now c.args.id _ (Some c.in-Some.values.now) (to_z-of_z w64 c.args.id c.ranges.id)
    c.in-Some.ensures.value

pub returns-in-None : goal.returns-in-None
returns-in-None c =
    body_of-found c.args.current.now c.args.id _ None (to_z-of_z w64 c.args.id c.ranges.id) c.in-None.ensures.value
