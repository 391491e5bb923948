use Rattle.job_print.proofs.texts.Truths.{truth_field}
use Rattle.job_print.proofs.csv_row.put_bool.Goals as goal

pub returns : goal.returns
returns c d = rw (truth_field d _ c.args.truth) c.put_bool.ensures
