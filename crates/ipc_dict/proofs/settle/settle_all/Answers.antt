use Rattle.std.proofs.Common.{◌+◌, sym, arith, subst, take}
use Rattle.std.proofs.lemmas.List.{length-take}
use Rattle.ipc_dict.specs.Planning.{AllSettled}
use Rattle.ipc_dict.proofs.Plans.{settled-more, settled-length}
use Rattle.ipc_dict.proofs.settle.settle_all.Goals as goal

pub loop-i-preserved : goal.loop-i-preserved
loop-i-preserved c =
    let ss = c.args.kept.now in
    let ns = c.args.entries.now in
    let i = c.loop-i.i in
    subst (AllSettled (take (i + 1) ss) (take (i + 1) ns)) (sym c.in_ok-push.ensures.items)
    (settled-more ss ns c.loop-i.numbers.items i c.index-kept-i.result c.index-entries-i.result _ (omega arith)
    (omega arith) c.index-kept-i.is c.index-entries-i.is c.loop-i.invariant c.in_ok-settle_one.ensures)

pub returns-clause-len : goal.returns-clause-len
returns-clause-len c =
    let l = settled-length (take c.loop-i.i c.args.kept.now)
    (take c.loop-i.i c.args.entries.now) c.loop-i.numbers.items c.loop-i.invariant in
    omega (arith, l, length-take c.loop-i.i c.args.entries.now)
