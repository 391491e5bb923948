use Rattle.job_print.proofs.PlainBytes.{plain_in_lanes}
use Rattle.job_print.proofs.plain.lanes_are_plain.Goals as goal

pub returns : goal.returns
returns g c = plain_in_lanes c.args.mark c.args.text.now c.args.at g.row.N c.requires.room c.requires.few
