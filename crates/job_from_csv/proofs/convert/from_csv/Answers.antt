use Rattle.job_from_csv.proofs.Ending.{answers_err, answers_ok}
use Rattle.job_from_csv.proofs.Refusing.{answers_left}
use Rattle.job_from_csv.proofs.convert.from_csv.Goals as goal

pub returns-clause-converts : goal.returns-clause-converts
returns-clause-converts g c =
    let stands = c.new-rows.ensures.stands (g.R.Source.remaining c.args.input) c.new.ensures in
    answers_ok c.args.dialect _ _ _ _ _ _ _ c.send_stream-result.result.0 (c.send_stream-result.ensures.converts _ stands)

pub returns-clause-stopped : goal.returns-clause-stopped
returns-clause-stopped g c =
    let stands = c.new-rows.ensures.stands (g.R.Source.remaining c.args.input) c.new.ensures in
    answers_err c.args.dialect _ _ _ _ _ _ _ c.send_stream-result.result.0 (c.send_stream-result.ensures.converts _ stands)

pub returns-clause-left : goal.returns-clause-left
returns-clause-left g c =
    let stands = c.new-rows.ensures.stands (g.R.Source.remaining c.args.input) c.new.ensures in
    answers_left c.args.dialect _ _ _ _ _ _ _ c.send_stream-result.result.0 c.requires.within
    (c.send_stream-result.ensures.converts _ stands)
