use Rattle.std.proofs.Common.{arith, take}
use Rattle.job_print.proofs.PlainBytes.{front_of, front_plain, front_same, plain_json, plain_csv}
use Rattle.job_print.proofs.plain.put_front_if_plain.Goals as goal

pub returns-clause-json : goal.returns-clause-json
returns-clause-json c =
    plain_json c.args.mark c.lanes_are_plain.result (take c.args.len c.args.bytes.now)
    (front_plain c.args.mark c.lanes_are_plain.result c.args.bytes.now c.args.len 16 c.requires.few c.requires.sixteen
    c.lanes_are_plain.ensures)

pub returns-clause-csv : goal.returns-clause-csv
returns-clause-csv c =
    plain_csv c.args.mark c.lanes_are_plain.result (take c.args.len c.args.bytes.now)
    (front_plain c.args.mark c.lanes_are_plain.result c.args.bytes.now c.args.len 16 c.requires.few c.requires.sixteen
    c.lanes_are_plain.ensures)

pub returns-clause-text : goal.returns-clause-text
returns-clause-text c =
    front_of c.args.text.now c.put_front.new.text c.args.bytes.now c.args.at c.args.len 16 c.put_front.result
    (omega (arith, c.requires.room)) c.requires.sixteen c.requires.few c.put_front.ensures

pub returns-clause-front : goal.returns-clause-front
returns-clause-front c =
    front_same c.args.text.now c.put_front.new.text c.args.bytes.now c.args.at 16 c.put_front.result
    (omega (arith, c.requires.room)) c.put_front.ensures
