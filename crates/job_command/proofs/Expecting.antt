-- The schema's file after a job that expects a schema of its stream.
use Rattle.std.proofs.Common.{◌≡◌, ◌∙◌, ap, Option, false}
use Rattle.std.specs.Prelude.{is_some}
use Rattle.job_arguments.specs.declared.arguments.Job.{Job}
use Rattle.job_arguments.specs.declared.arguments.Job.TheVariants as job
use Rattle.job_command.specs.Jobs.{GivesFileBack}

-- a file that came back of reading the schema comes back of the job
pub file_back : {P : Type 0} → (asked : Job) (old between new : Option P) → is_some between ≡ is_some old
    → GivesFileBack false asked between new → is_some new ≡ is_some old
file_back (job.Schema limits) old between new is back = ap is_some back ∙ is
file_back (job.Check limits mark) old between new is back = ap is_some back ∙ is
file_back (job.Show limits objects pairs count mark) old between new is back = ap is_some back ∙ is
file_back (job.ToCsv limits dialect count mark) old between new is back = ap is_some back ∙ is
file_back (job.Rewrite limits output mark) old between new is back = ap is_some back ∙ is
file_back (job.FromCsv path size bytes dialect strict) old between new is back = back ∙ is
