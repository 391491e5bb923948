use Rattle.std.proofs.Common.{◌∙◌, ap, arith, drop}
use Rattle.std.proofs.lemmas.Result.{IfOk-weaker}
use Rattle.job_explain.proofs.Explaining.{field_explained}
use Rattle.job_explain.proofs.message_record.MessageRecord.explain_first.Goals as goal

pub returns-in-13-to-22 : goal.returns-in-13-to-22
returns-in-13-to-22 c = record {
  line =
      IfOk-weaker c.field_line.result _ _
      (λ line names. field_explained c.args.self.now.limits c.args.self.now.front.items c.metadata_of.result.now c.args.fault.now line.items
      (c.metadata_of.ensures ∙ ap (λ z. drop 8 z) c.deref-in-13-to-22.ensures.value) (omega arith) (omega arith) names)
      c.field_line.ensures.line;
}
