use Rattle.std.proofs.Common.{rules}
use Rattle.ipc_dict.specs.Planning.{AllSettled}
use Rattle.ipc_dict.proofs.ids.Ids.{same_ids}
use Rattle.ipc_dict.proofs.Plans.{finds_all, finds_noted, knows_all}
use Rattle.ipc_dict.proofs.settle.settle.Goals as goal

pub returns-clause-finds : goal.returns-clause-finds
returns-clause-finds c = λ ids.
    let s : AllSettled c.args.kept.now c.args.entries.items c.in_ok-numbers.numbers.items = search rules in
    finds_all c.args.kept.now c.args.entries.items c.in_ok-numbers.numbers.items
    (same_ids c.args.kept.now c.args.entries.items ids) s

pub returns-clause-knows : goal.returns-clause-knows
returns-clause-knows c =
    let s : AllSettled c.args.kept.now c.args.entries.items c.in_ok-numbers.numbers.items = search rules in
    knows_all c.args.kept.now c.args.entries.items c.in_ok-numbers.numbers.items s

pub returns-clause-finds_noted : goal.returns-clause-finds_noted
returns-clause-finds_noted c = λ ids.
    let s : AllSettled c.args.kept.now c.args.entries.items c.in_ok-numbers.numbers.items = search rules in
    finds_noted c.args.kept.now c.args.entries.items c.in_ok-numbers.numbers.items
    (same_ids c.args.kept.now c.args.entries.items ids) s
