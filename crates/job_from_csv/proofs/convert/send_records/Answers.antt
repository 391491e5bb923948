use Rattle.std.proofs.Common.{[], Ok, arith}
use Rattle.std.proofs.lemmas.Result.{err_from_is_err_and}
use Rattle.job_from_csv.proofs.Ending.{fewer_left, goes_on}
use Rattle.job_from_csv.proofs.Sending.{came_none}
use Rattle.job_from_csv.proofs.convert.send_records.Goals as goal

pub returns-in_err-has_row-clause-sends : goal.returns-in_err-has_row-clause-sends
returns-in_err-has_row-clause-sends g c = λ input old failures begins.
    let p = err_from_is_err_and c.from_residual.result c.from_residual.ensures.1 in
    rw (p.1, p.2) (c.in_err-has_row.ensures.stops input old _ failures _ []
    (came_none c.args.dialect _ _ _ _ _ _ _ _ begins) (λ none. absurd (omega (arith, none))) c.requires.some)

pub loop-has_row-init : goal.loop-has_row-init
loop-has_row-init g c = (
  c.in_ok-has_row.ensures.set_up,
  λ is. (c.in_ok-has_row.ensures.counted.1 is).1,
  λ input old failures begins. goes_on c.args.dialect _ _ _ _ _ _ _ _ _ (came_none c.args.dialect _ _ _ _ _ _ _ _ begins)
      c.requires.some (Ok c.in_ok-has_row.has_row) c.in_ok-has_row.ensures.finds tt,
  c.in_ok-has_row.ensures.device,
)

pub returns-in_err-has_row-2-clause-sends : goal.returns-in_err-has_row-2-clause-sends
returns-in_err-has_row-2-clause-sends g c = λ input old failures begins.
    let p = err_from_is_err_and c.from_residual-in_err-has_row-2.result c.from_residual-in_err-has_row-2.ensures.1 in
    let kept = rw c.loop-has_row-test.true at (c.loop-has_row.invariant.2 input old failures begins) in
    rw (p.1, p.2) (c.in_err-has_row-2.ensures.sends input old failures kept)

pub loop-has_row-smaller : goal.loop-has_row-smaller
loop-has_row-smaller g c = rw c.loop-has_row-test.true
    (fewer_left c.loop-has_row.rows.count c.send_batch.new.rows.count c.in_ok-has_row-2.has_row
    (c.loop-has_row.invariant.1 c.loop-has_row-test.true) c.in_ok-has_row-2.ensures.counted)

pub loop-has_row-preserved : goal.loop-has_row-preserved
loop-has_row-preserved g c = (
  c.in_ok-has_row-2.ensures.set_up,
  λ is. (c.in_ok-has_row-2.ensures.counted.1 is).1,
  λ input old failures begins. c.in_ok-has_row-2.ensures.sends input old failures
      (rw c.loop-has_row-test.true at (c.loop-has_row.invariant.2 input old failures begins)),
  c.in_ok-has_row-2.ensures.device,
)

pub returns-clause-sends : goal.returns-clause-sends
returns-clause-sends g c = λ input old failures begins.
    rw c.loop-has_row-test.false at (c.loop-has_row.invariant.2 input old failures begins)
