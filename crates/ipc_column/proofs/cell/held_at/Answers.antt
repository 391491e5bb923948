use Rattle.ipc_column.proofs.visited.Leads.{held_inside, held_shown, held_texts, held_value, value_found}
use Rattle.ipc_column.proofs.cell.held_at.Goals as goal

pub slots_of-requires : goal.slots_of-requires
slots_of-requires c = value_found _ _ c.args.slot c.requires

pub at-requires : goal.at-requires
at-requires c = held_inside c.args.body.now c.args.part.now c.slots_of.result c.args.slot c.slots_of.ensures c.requires

pub returns-clause-value : goal.returns-clause-value
returns-clause-value c =
    held_value c.args.body.now c.args.part.now c.slots_of.result c.args.slot c.slots_of.ensures c.requires c.at.result c.at.ensures.value

pub returns-clause-shown : goal.returns-clause-shown
returns-clause-shown c =
    held_shown c.args.body.now c.args.part.now c.slots_of.result c.args.slot c.slots_of.ensures c.requires c.at.result
    (c.at.ensures.shown (held_texts c.args.body.now c.args.part.now c.slots_of.result c.args.slot c.slots_of.ensures c.requires))
