use Rattle.ipc_column.proofs.Alone.{part_alone, part_firsts, part_holds}
use Rattle.ipc_column.proofs.dictionary.share_values.Goals as goal

pub invariant_of-result : goal.invariant_of-result
invariant_of-result c = record {
  alone = part_alone c.args.body.now.value.items c.args.parts.now c.args.rows c.index-parts-0.result c.index-parts-0.is c.requires.holds
      c.requires.alone;
  holds = rw c.in_ok-clone.ensures.cases (part_holds c.args.body.now.value.items c.args.parts.now c.args.rows c.index-parts-0.result
      c.index-parts-0.is c.requires.holds c.requires.alone);
}

pub returns : goal.returns
returns c = rw c.in_ok-clone.ensures.cases (part_firsts c.args.body.now.value.items c.args.parts.now c.args.rows c.index-parts-0.result
    c.index-parts-0.is c.requires.holds c.requires.alone)
