use Rattle.job_print.proofs.texts.Truths.{truth_json}
use Rattle.job_print.proofs.json_row.put_bool.Goals as goal

pub returns : goal.returns
returns c = rw (truth_json c.args.truth) c.put_bool.ensures
