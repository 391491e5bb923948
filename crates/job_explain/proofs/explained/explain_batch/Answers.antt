use Rattle.std.proofs.Common.{arith}
use Rattle.ipc_column.specs.DictionaryBatches.{dictionaries_in}
use Rattle.job_explain.proofs.Explaining.{nodes_counted}
use Rattle.job_explain.proofs.ColumnCounts.{buffers_few, nodes_few}
use Rattle.job_explain.proofs.explained.explain_batch.Goals as goal

pub count-all-requires-clause-nodes : goal.count-all-requires-clause-nodes
count-all-requires-clause-nodes c = omega (arith, nodes_few c.args.limits.now c.args.fields.now c.requires.few)

pub count-all-requires-clause-buffers : goal.count-all-requires-clause-buffers
count-all-requires-clause-buffers c = omega (arith, buffers_few c.args.limits.now c.args.fields.now c.requires.few)

pub count-all-requires-in-27-clause-nodes : goal.count-all-requires-in-27-clause-nodes
count-all-requires-in-27-clause-nodes c = omega (arith, nodes_few c.args.limits.now c.args.fields.now c.requires.few)

pub count-all-requires-in-27-clause-buffers : goal.count-all-requires-in-27-clause-buffers
count-all-requires-in-27-clause-buffers c = omega (arith, buffers_few c.args.limits.now c.args.fields.now c.requires.few)

pub returns-in_ok-push_counts-in-26 : goal.returns-in_ok-push_counts-in-26
returns-in_ok-push_counts-in-26 c = record {
  line =
      nodes_counted c.args.limits.now c.args.fault.now (dictionaries_in c.args.dictionaries.now) c.args.fields.now c.args.head.now
      c.args.body.now c.args.front.items c.push_counts.new.out.items c.len.result c.count-all.result.node (omega arith) (omega arith)
      (omega arith) c.in_ok-push_counts-in-26.ensures.ok;
}
