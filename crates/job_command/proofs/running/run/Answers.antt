use Rattle.job_command.proofs.running.run.Goals as goal

pub returns-clause-answers : goal.returns-clause-answers
returns-clause-answers g c =
    let done = c.do_expecting-answer in
    let answers = rw (c.is_some-expects.ensures, c.record-input.ensures) at done.ensures.answers in
    let printed = rw c.as_str.ensures.value at c.report-status.ensures.prints in
    let summary = rw (
      c.as_str-2.ensures.value,
      c.subcommand-name.ensures,
      c.stream_number.ensures,
      c.stream_number-2.ensures,
      c.reads_stream-reads_stream.ensures,
    ) at c.summarize.ensures in (
      done.result.0,
      c.check_eof-result.result,
      g.S.Source.remaining done.result.1.source.device,
      g.S.Source.failures done.result.1.source.device,
      c.report-status.ensures.status,
      answers,
      rw c.into_inner-input.ensures c.check_eof-result.ensures.ends,
      printed,
      summary,
    )
