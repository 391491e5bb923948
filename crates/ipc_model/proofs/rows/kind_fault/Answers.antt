use Rattle.std.proofs.Common.{rules, FitsSigned, w64}
use Rattle.std.proofs.lemmas.Int.{to_z-of_z}
use Rattle.ipc_model.specs.declared.value.Value.{out-Value}
use Rattle.ipc_model.proofs.rows.kind_fault.Goals as goal

pub returns-in_default-Int : goal.returns-in_default-Int
unfolding out-Value denote.Hole.Carrier.out
returns-in_default-Int c =
    let fits : FitsSigned w64 c.in_default-Int.number = search rules in
    rw c.in_default-Int.is-1 (rw (to_z-of_z w64 c.in_default-Int.number fits) at c.number_fault.ensures c.args.children)
