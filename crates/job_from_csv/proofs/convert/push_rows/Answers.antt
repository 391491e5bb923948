use Rattle.std.proofs.Common.{◌∙◌, refl, ap, ◌+◌, [], ◌∷◌, ◌++◌, Err, arith}
use Rattle.std.proofs.lemmas.List.{length_push}
use Rattle.std.proofs.lemmas.Result.{err_from_is_err_and}
use Rattle.ipc_model.specs.declared.fault.WriteFault.TheVariants.{TooLong}
use Rattle.job_from_csv.proofs.Pushing.{first_stops, held_more, holds_accepted, holds_long, holds_pushed, pushed_stops}
use Rattle.job_from_csv.proofs.convert.push_rows.Goals as goal

pub returns-in_err-push-clause-pushes : goal.returns-in_err-push-clause-pushes
returns-in_err-push-clause-pushes g c = λ input old failures came held.
    let p = err_from_is_err_and c.from_residual.result c.from_residual.ensures.1 in
    rw (p.1, p.2) (first_stops c.args.dialect _ _ _ _ _ _ _ _ c.args.rows.now.row c.row.result.now c.row.ensures came
    c.push.new.self.writer.now c.in_err-push.field-0.0 c.requires.some
    (c.in_err-push.ensures.judged _ held) c.in_err-push.ensures.stays)

pub loop-init : goal.loop-init
loop-init g c = (
  c.requires.set_up,
  omega arith,
  c.in_ok-push.ensures.same_reference,
  omega arith,
  omega (arith, c.requires.some),
  λ input old failures came held. (
    c.args.rows.now.row ∷ [],
    holds_pushed c.args.dialect _ _ _ _ _ _ _ _ [] c.args.rows.now.row c.row.result.now c.row.ensures came
        c.push.new.self.writer.now _
        c.in_ok-push.ensures.stays.1 (c.in_ok-push.ensures.judged _ held),
    refl,
  ),
  c.requires.works,
)

pub returns-in_err-next_row-clause-pushes : goal.returns-in_err-next_row-clause-pushes
returns-in_err-next_row-clause-pushes g c = λ input old failures came held.
    let p = err_from_is_err_and c.from_residual-in_err-next_row.result c.from_residual-in_err-next_row.ensures.1 in
    let (left, holds, many) = c.loop.invariant.5 input old failures came held in
    rw (p.1, p.2) (c.in_err-next_row.ensures.stops input old _ failures _ left holds.came
    (λ _. holds_accepted c.args.dialect _ _ _ _ _ _ _ _ _ left holds) (omega (arith, many, c.loop-test.true)))

pub returns-then-not-branch-clause-pushes : goal.returns-then-not-branch-clause-pushes
returns-then-not-branch-clause-pushes g c = λ input old failures came held.
    let (left, holds, many) = c.loop.invariant.5 input old failures came held in (
      c.loop.rows,
      left,
      holds,
      omega (arith, many, c.loop.invariant.3),
      omega (arith, many, c.loop-test.true),
      rw c.if-not-branch.true at (c.in_ok-next_row.ensures.finds input _ _ holds.came.read),
    )

pub returns-then-not-branch-clause-counted : goal.returns-then-not-branch-clause-counted
returns-then-not-branch-clause-counted g c = omega (arith, c.loop.invariant.1, c.in_ok-next_row.ensures.counted.0)

pub returns-then-is_exceeded-clause-counted : goal.returns-then-is_exceeded-clause-counted
returns-then-is_exceeded-clause-counted g c = omega (arith, c.loop.invariant.1, c.in_ok-next_row.ensures.counted.0)

pub returns-then-is_exceeded-clause-kept : goal.returns-then-is_exceeded-clause-kept
returns-then-is_exceeded-clause-kept g c = λ is.
    let (more, below) = c.in_ok-next_row.ensures.counted.1 c.if-not-branch.false in
    (omega (arith, c.loop.invariant.1, more), below)

pub returns-then-is_exceeded-clause-pushes : goal.returns-then-is_exceeded-clause-pushes
returns-then-is_exceeded-clause-pushes g c = λ input old failures came held.
    let (left, holds, many) = c.loop.invariant.5 input old failures came held in
    let more = held_more c.args.dialect _ _ _ _ _ _ _ _ _ left holds c.next_row.new.rows _ c.if-not-branch.false
    (c.in_ok-next_row.ensures.finds input _ _ holds.came.read) in
    let (bytes, long) = c.is_exceeded.ensures.exceeded c.if-is_exceeded.true in
    holds_long c.args.dialect _ _ _ _ _ _ _ c.next_row.new.rows _ _ left c.row-in-loop.result.now c.row-in-loop.ensures holds more bytes
    (omega (arith, many, c.loop.invariant.3)) (omega (arith, many, c.loop-test.true)) c.push-pushed.new.self.writer.now
    c.push-pushed.new.self.batch TooLong refl (rw long at (c.push-pushed.ensures.judged _ holds.held_rows))
    (rw long at c.push-pushed.ensures.stays) (rw long at (c.push-pushed.ensures.kept _ holds.held_rows))

pub returns-in_err-pushed-clause-pushes : goal.returns-in_err-pushed-clause-pushes
returns-in_err-pushed-clause-pushes g c = λ input old failures came held.
    let p = err_from_is_err_and c.from_residual-in_err-pushed.result c.from_residual-in_err-pushed.ensures.1 in
    let (left, holds, many) = c.loop.invariant.5 input old failures came held in
    let more = held_more c.args.dialect _ _ _ _ _ _ _ _ _ left holds c.next_row.new.rows _ c.if-not-branch.false
    (c.in_ok-next_row.ensures.finds input _ _ holds.came.read) in
    rw (p.1, p.2) (pushed_stops c.args.dialect _ _ _ _ _ _ _ _ left c.next_row.new.rows.row c.row-in-loop.result.now
    c.row-in-loop.ensures more c.push-pushed.new.self.writer.now (λ _. holds_accepted c.args.dialect _ _ _ _ _ _ _ _ _ left holds)
    (omega (arith, many, c.loop-test.true)) c.in_err-pushed.field-0.0
    (λ bytes is. absurd (c.is_exceeded.ensures.other c.if-is_exceeded.false bytes (c.in_err-pushed.was ∙ ap Err is)))
    (rw c.in_err-pushed.was at (c.push-pushed.ensures.judged _ holds.held_rows)) (rw c.in_err-pushed.was at c.push-pushed.ensures.stays))

pub loop-preserved : goal.loop-preserved
loop-preserved g c = (
  c.in_ok-next_row.ensures.set_up,
  omega (arith, c.loop.invariant.1, c.in_ok-next_row.ensures.counted.0),
  c.push-pushed.ensures.same_reference ∙ c.loop.invariant.2,
  omega arith,
  omega (arith, c.loop-test.true),
  λ input old failures came held.
      let (left, holds, many) = c.loop.invariant.5 input old failures came held in
      let more = held_more c.args.dialect _ _ _ _ _ _ _ _ _ left holds c.next_row.new.rows _ c.if-not-branch.false
      (c.in_ok-next_row.ensures.finds input _ _ holds.came.read) in
      let stays = rw c.in_ok-pushed.was at c.push-pushed.ensures.stays in (
        left ++ c.next_row.new.rows.row ∷ [],
        holds_pushed c.args.dialect _ _ _ _ _ _ _ _ left c.next_row.new.rows.row c.row-in-loop.result.now c.row-in-loop.ensures more
            c.push-pushed.new.self.writer.now _ stays.1
            (rw c.in_ok-pushed.was at (c.push-pushed.ensures.judged _ holds.held_rows)),
        length_push left c.next_row.new.rows.row ∙ ap (λ n. n + 1) many,
      ),
  c.in_ok-next_row.ensures.device,
)

pub returns-clause-pushes : goal.returns-clause-pushes
returns-clause-pushes g c = λ input old failures came held.
    let (left, holds, many) = c.loop.invariant.5 input old failures came held in
    (left, holds, omega (arith, many, c.loop-test.false, c.loop.invariant.4))
