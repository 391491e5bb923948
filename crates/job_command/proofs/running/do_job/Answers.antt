use Rattle.std.proofs.Common.{refl, ◌∙◌}
use Rattle.job_command.proofs.running.do_job.Goals.{in-Schema, in-Check, in-Show, in-ToCsv, in-Rewrite}
use Rattle.job_command.proofs.running.do_job.Goals as goal

pub returns-clause-answers : goal.returns-clause-answers
returns-clause-answers g c = elim c.match-job.branch [
  | in-Schema w ↦ rw (w.in-Schema.is, w.result-is) w.schema_job.ensures.answers
  | in-Check w ↦ rw (w.in-Check.is, w.result-is) (rw w.print_options-options.ensures at w.print_job.ensures.answers)
  | in-Show w ↦ rw (w.in-Show.is, w.result-is)
      (rw (w.print_options-options-in-Show.ensures, w.rows_form-form.ensures) at w.print_job-in-Show.ensures.answers)
  | in-ToCsv w ↦ rw (w.in-ToCsv.is, w.result-is) (
    w.dialect.result,
    (w.dialect.ensures.delimiter, w.dialect.ensures.null),
    rw w.print_options-options-in-ToCsv.ensures at w.print_job-in-ToCsv.ensures.answers,
  )
  | in-Rewrite w ↦ rw (w.in-Rewrite.is, w.result-is) (rw w.rewrite_options-options.ensures at w.rewrite_job.ensures.answers)
]

pub returns-in-FromCsv-clause-answers : goal.returns-in-FromCsv-clause-answers
returns-in-FromCsv-clause-answers g c =
    let with = c.with_strict-dialect.ensures in
    let plain = c.dialect-in-FromCsv.ensures in
    rw c.in-FromCsv.is (
      c.with_strict-dialect.result,
      (with.delimiter ∙ plain.delimiter, with.null ∙ plain.null),
      with.strict,
      c.csv_job.ensures.answers,
    )

pub returns-clause-reports : goal.returns-clause-reports
returns-clause-reports g c = elim c.match-job.branch [
  | in-Schema w ↦ rw (w.in-Schema.is, w.progress-is) refl
  | in-Check w ↦ rw (w.in-Check.is, w.result-is, w.progress-is) w.print_job.ensures.reports
  | in-Show w ↦ rw (w.in-Show.is, w.result-is, w.progress-is) w.print_job-in-Show.ensures.reports
  | in-ToCsv w ↦ rw (w.in-ToCsv.is, w.result-is, w.progress-is) w.print_job-in-ToCsv.ensures.reports
  | in-Rewrite w ↦ rw (w.in-Rewrite.is, w.result-is, w.progress-is) w.rewrite_job.ensures.reports
]
