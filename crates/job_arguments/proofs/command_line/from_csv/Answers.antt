use Rattle.std.proofs.Common.{◌∙◌, ap}
use Rattle.std.proofs.lemmas.Result.{IfOk-weaker}
use Rattle.job_arguments.specs.CommandLine.{with_dialect, with_messages}
use Rattle.job_arguments.proofs.LineWords.{added_arg}
use Rattle.job_arguments.proofs.command_line.from_csv.Goals as goal

pub returns : goal.returns
returns c =
    let one = added_arg _ _ _ _ _ c.command_with_help-from_csv.ensures c.schema.ensures.rule c.schema.ensures.own c.in_ok-arg.ensures in
    let two = added_arg _ _ _ _ _ one c.batch.ensures.rule c.batch.ensures.own c.in_ok-arg-2.ensures in
    let three = added_arg _ _ _ _ _ two c.batch_bytes.ensures.rule c.batch_bytes.ensures.own c.in_ok-from_csv.ensures in
    let dialect = c.in_ok-with_dialect.ensures in
    let strict = added_arg _ _ _ _ _ (dialect.0 ∙ ap with_dialect three.0, dialect.1) c.flag.ensures.rule c.flag.ensures.own
    c.in_ok-from_csv-2.ensures in
    IfOk-weaker c.with_messages.result _ _ (λ r h. (h.0 ∙ ap with_messages strict.0, h.1)) c.with_messages.ensures
