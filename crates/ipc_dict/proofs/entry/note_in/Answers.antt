use Rattle.std.proofs.Common.{◌∙◌, ap, sym, List}
use Rattle.ipc_model.specs.declared.value.Value.{Value}
use Rattle.ipc_dict.proofs.FirstPlaces.{known_seen}
use Rattle.ipc_dict.proofs.entry.note_in.Goals as goal

pub returns-in-Some-clause-noted : goal.returns-in-Some-clause-noted
returns-in-Some-clause-noted c =
    let known = known_seen c.args.value.now c.args.entry.now.values c.in-Some.place (sym c.index_with_guess.ensures ∙ c.in-Some.is) in
    ap (λ (xs : List Value). record { id = c.args.entry.now.id; limit = c.args.entry.now.limit; values = xs }) (sym known)
