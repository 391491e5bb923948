use Rattle.std.proofs.Common.{[], ℕ, subst}
use Rattle.ipc_encode.specs.Built.{AreShares}
use Rattle.ipc_encode.proofs.builder.bounds_of.Goals as goal

pub returns-in-Some-shares-clause-shared : goal.returns-in-Some-shares-clause-shared
returns-in-Some-shares-clause-shared c = λ known kept shape h yes.
    subst (λ (count : ℕ). AreShares c.args.limits.now count c.in-Some-shares.bounds) (c.in-Some.ensures known kept shape (λ j. []) h)
    c.in-Some-shares.ensures.short
