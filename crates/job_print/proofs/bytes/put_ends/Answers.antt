use Rattle.std.proofs.Common.{◌-◌, rules, length}
use Rattle.std.proofs.lemmas.List.{take_rest}
use Rattle.json.proofs.Printed.Places.{Placed-ends}
use Rattle.job_print.proofs.bytes.put_ends.Goals as goal

pub returns : goal.returns
returns g c =
    let word = c.args.word.now in
    Placed-ends word g.row.N (search rules) c.requires.covers.0 c.requires.covers.1 c.put_front.ensures
    (rw (take_rest word (length word - g.row.N)) at c.put_front-2.ensures)
