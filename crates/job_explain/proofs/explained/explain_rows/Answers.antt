use Rattle.std.proofs.Common.{[], subst}
use Rattle.std.specs.Prelude.{IfOk}
use Rattle.ipc_column.specs.DictionaryBatches.{dictionaries_in}
use Rattle.ipc_stream_read.proofs.Dictionaries.{shown_values}
use Rattle.job_explain.specs.Explained.{ExplainsBatch}
use Rattle.job_explain.proofs.explained.explain_rows.Goals as goal

pub returns : goal.returns
returns c = record {
  line =
      let scope = c.args.scope.now in
      subst (λ m. IfOk c.explain_batch.result (λ line. ExplainsBatch scope.limits c.args.fault.now m scope.schema.fields c.args.head.now
      c.args.body.now [] line.items)) (shown_values c.current.result.now scope.dictionaries.current c.current.ensures.current)
      (subst (λ fs. IfOk c.explain_batch.result (λ line. ExplainsBatch scope.limits c.args.fault.now (dictionaries_in c.current.result.now)
      fs c.args.head.now c.args.body.now [] line.items)) c.as_slice.ensures
      (subst (λ front. IfOk c.explain_batch.result (λ line. ExplainsBatch scope.limits c.args.fault.now
      (dictionaries_in c.current.result.now) c.as_slice.result.now c.args.head.now c.args.body.now front line.items)) c.new.ensures.items
      c.explain_batch.ensures.line));
}
