use Rattle.std.proofs.Common.{◌≡◌, ◌∙◌, arith, rules}
use Rattle.std.proofs.lemmas.Result.{IfOk-weaker, err_from_is_err_and}
use Rattle.ipc_stream.specs.PendingBatches.{StaysAt}
use Rattle.job_from_csv.proofs.Breaking.{begin_stops}
use Rattle.job_from_csv.proofs.Ending.{goes_on, held_unsent, last_sent, long_sent, rows_sent}
use Rattle.job_from_csv.proofs.convert.send_batch.Goals as goal

pub returns-in_err-batch-clause-sends : goal.returns-in_err-batch-clause-sends
returns-in_err-batch-clause-sends g c = λ input old failures came.
    let p = err_from_is_err_and c.from_residual.result c.from_residual.ensures.1 in
    let stays : StaysAt c.args.stream.now c.batch.follows.lender-at-none c.in_err-batch.field-0.0 = search rules in
    rw (p.1, p.2) (begin_stops c.args.dialect _ _ _ _ _ _ _ _ c.args.rows.now.row came c.requires.some c.batch.follows.lender-at-none
    c.in_err-batch.field-0.0 (rw c.new.ensures at c.in_err-batch.ensures.judged) stays)

pub returns-in_err-end-clause-sends : goal.returns-in_err-end-clause-sends
returns-in_err-end-clause-sends g c = λ input old failures came.
    let p = err_from_is_err_and c.from_residual-in_err-end.result c.from_residual-in_err-end.ensures.1 in
    let left : c.stream-in_err-end-1.given.0 ≡ c.drop-batch.new.self.0 = search rules in
    let pushes = (rw c.in_ok-batch.ensures.begins.1 at c.in_err-end.ensures.pushes) input old failures came
    (rw c.new.ensures at c.in_ok-batch.ensures.judged) in
    rw (p.1, p.2, left ∙ c.drop-batch.ensures) pushes

pub returns-in_err-send-clause-sends : goal.returns-in_err-send-clause-sends
returns-in_err-send-clause-sends g c = λ input old failures came.
    let p = err_from_is_err_and c.from_residual-in_err-send.result c.from_residual-in_err-send.ensures.1 in
    let same : c.stream-2-1.given.0 ≡ c.send.new.self.0 = search rules in
    let pushes = (rw c.in_ok-batch.ensures.begins.1 at c.in_ok-end.ensures.pushes) input old failures came
    (rw c.new.ensures at c.in_ok-batch.ensures.judged) in
    rw (p.1, p.2, same) (held_unsent c.args.dialect _ _ _ _ _ _ _ _ c.send.new.self.0 _ c.requires.some c.in_ok-end.end pushes
    c.in_err-send.field-0.0 c.in_err-send.ensures.sends c.in_err-send.ensures.judged)

pub returns-in-Rows-clause-counted : goal.returns-in-Rows-clause-counted
returns-in-Rows-clause-counted g c = IfOk-weaker c.next_row.result _ _ (λ has_row counted. (
  omega (arith, c.in_ok-end.ensures.counted, counted.0),
  λ is.
      let (more, below) = counted.1 is in
      (omega (arith, c.in_ok-end.ensures.counted, more), below),
)) c.next_row.ensures.counted

pub returns-in-Rows-clause-sends : goal.returns-in-Rows-clause-sends
returns-in-Rows-clause-sends g c = λ input old failures came.
    let same : c.stream-2-1.given.0 ≡ c.send.new.self.0 = search rules in
    let pushes = (rw c.in_ok-batch.ensures.begins.1 at c.in_ok-end.ensures.pushes) input old failures came
    (rw c.new.ensures at c.in_ok-batch.ensures.judged) in
    let sent = rows_sent c.args.dialect _ _ _ _ _ _ _ _ c.send.new.self.0 _ c.requires.some (rw c.in-Rows.is at pushes)
    c.in_ok-send.ensures.sends c.in_ok-send.ensures.judged in
    rw same (goes_on c.args.dialect _ _ _ _ _ _ _ _ _ sent c.requires.some c.next_row.result c.next_row.ensures.finds
    c.next_row.ensures.stops)

pub returns-in-TooLong-clause-counted : goal.returns-in-TooLong-clause-counted
returns-in-TooLong-clause-counted g c =
    let counted = c.in_ok-end.ensures.kept c.in-TooLong.is in
    (omega (arith, counted.0), λ is. counted)

pub returns-in-TooLong-clause-sends : goal.returns-in-TooLong-clause-sends
returns-in-TooLong-clause-sends g c = λ input old failures came.
    let same : c.stream-2-1.given.0 ≡ c.send.new.self.0 = search rules in
    let pushes = (rw c.in_ok-batch.ensures.begins.1 at c.in_ok-end.ensures.pushes) input old failures came
    (rw c.new.ensures at c.in_ok-batch.ensures.judged) in
    rw same (long_sent c.args.dialect _ _ _ _ _ _ _ _ c.send.new.self.0 _ c.requires.some (rw c.in-TooLong.is at pushes)
    c.in_ok-send.ensures.sends c.in_ok-send.ensures.judged)

pub returns-in-Last-clause-sends : goal.returns-in-Last-clause-sends
returns-in-Last-clause-sends g c = λ input old failures came.
    let same : c.stream-2-1.given.0 ≡ c.send.new.self.0 = search rules in
    let pushes = (rw c.in_ok-batch.ensures.begins.1 at c.in_ok-end.ensures.pushes) input old failures came
    (rw c.new.ensures at c.in_ok-batch.ensures.judged) in
    rw same (last_sent c.args.dialect _ _ _ _ _ _ c.push_rows.new.rows _ c.send.new.self.0 _ c.requires.some (rw c.in-Last.is at pushes)
    c.in_ok-send.ensures.sends c.in_ok-send.ensures.judged)
