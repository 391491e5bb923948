use Rattle.std.proofs.Common.{◌∙◌, sym, ap, ◌+◌, ◌≤◌, length, arith, subst, Ok, None}
use Rattle.std.proofs.lemmas.Result.{err_from_is_err_and}
use Rattle.ipc_frame.specs.Parts.{bytes_needed, capacity_of, received_bytes}
use Rattle.ipc_frame.specs.Pieces.{Concludes, held_of, progress_of}
use Rattle.ipc_frame.proofs.Grown.{grows_concluded, grows_on, no_fewer}
use Rattle.ipc_frame.proofs.Stepped.{err_from, ok_from, feeds_all, feeds_more, feeds_refused, feeds_sized, feeds_whole}
use Rattle.ipc_frame.proofs.step.feed_on.Goals as goal

pub returns-then-taken-piece-clause-feeds : goal.returns-then-taken-piece-clause-feeds
returns-then-taken-piece-clause-feeds c = feeds_all _ _ _ _ _ _ c.loop-phase.invariant.0 _ c.in-Reading.is (omega arith)

pub returns-then-is_err-clause-memory : goal.returns-then-is_err-clause-memory
returns-then-is_err-clause-memory c = λ is. feeds_sized _ _ _ _ _ _ c.loop-phase.invariant.0 _ c.in-Reading.is
    (err_from c.extend.result (sym c.is_err.ensures.value ∙ c.if-is_err.true) c.extend.ensures.memory)

pub returns-in_err-frame-clause-feeds : goal.returns-in_err-frame-clause-feeds
returns-in_err-frame-clause-feeds c =
    let p = err_from_is_err_and c.from_residual.result c.from_residual.ensures.1 in
    let small : c.min-count.result ≤ bytes_needed c.loop-phase.parts c.in-Reading.expectation =
    omega (arith, c.min-count.ensures, c.bytes_needed.ensures) in
    let fits : c.loop-phase.taken + c.min-count.result ≤ length c.args.piece.now =
    omega (arith, c.min-count.ensures, c.loop-phase.invariant.0.within) in
    let bytes = ok_from c.extend.result (sym c.is_err.ensures.value ∙ c.if-is_err.false) c.extend.ensures.bytes in
    rw (p.1, p.2)
    (feeds_refused _ _ _ _ _ _ c.loop-phase.invariant.0 _ c.in-Reading.is _ small fits _ bytes _ c.in_err-frame.field-0.0
    c.in_err-frame.ensures.concludes)

pub returns-in_err-frame-clause-memory : goal.returns-in_err-frame-clause-memory
returns-in_err-frame-clause-memory c =
    let p = err_from_is_err_and c.from_residual.result c.from_residual.ensures.1 in
    rw (p.1, p.2) (λ is. feeds_sized _ _ _ _ _ _ c.loop-phase.invariant.0 _ c.in-Reading.is (c.in_err-frame.ensures.memory is))

pub returns-in-Some-clause-feeds : goal.returns-in-Some-clause-feeds
returns-in-Some-clause-feeds c =
    let small : c.min-count.result ≤ bytes_needed c.loop-phase.parts c.in-Reading.expectation =
    omega (arith, c.min-count.ensures, c.bytes_needed.ensures) in
    let fits : c.loop-phase.taken + c.min-count.result ≤ length c.args.piece.now =
    omega (arith, c.min-count.ensures, c.loop-phase.invariant.0.within) in
    let bytes = ok_from c.extend.result (sym c.is_err.ensures.value ∙ c.if-is_err.false) c.extend.ensures.bytes in
    feeds_whole _ _ _ _ _ _ c.loop-phase.invariant.0 _ c.in-Reading.is _ small fits _ bytes _ c.in-Some.frame
    (subst (λ f. Concludes c.args.limits.now (received_bytes c.extend.new.parts)
    (progress_of c.conclude.new.parts c.conclude.new.phase) (Ok f)) c.in-Some.is c.in_ok-frame.ensures.concludes)

pub loop-phase-preserved : goal.loop-phase-preserved
loop-phase-preserved c =
    let small : c.min-count.result ≤ bytes_needed c.loop-phase.parts c.in-Reading.expectation =
    omega (arith, c.min-count.ensures, c.bytes_needed.ensures) in
    let fits : c.loop-phase.taken + c.min-count.result ≤ length c.args.piece.now =
    omega (arith, c.min-count.ensures, c.loop-phase.invariant.0.within) in
    let no_error = sym c.is_err.ensures.value ∙ c.if-is_err.false in
    let bytes = ok_from c.extend.result no_error c.extend.ensures.bytes in
    let longer : length (received_bytes c.loop-phase.parts) ≤ length (received_bytes c.extend.new.parts) = no_fewer _ _ _ bytes in
    let more : held_of (progress_of c.loop-phase.parts c.loop-phase.phase) ≤ length (received_bytes c.extend.new.parts) =
    omega (arith, longer, ap (λ s. held_of (progress_of c.loop-phase.parts s)) c.in-Reading.is) in
    let concludes = subst (λ f. Concludes c.args.limits.now (received_bytes c.extend.new.parts)
    (progress_of c.conclude.new.parts c.conclude.new.phase) (Ok f)) c.in_default.is c.in_ok-frame.ensures.concludes in (
      feeds_more _ _ _ _ _ _ c.loop-phase.invariant.0 _ c.in-Reading.is _ small fits _ bytes _ _ c.conclude.ensures.sound concludes,
      grows_concluded c.args.limits.now (capacity_of c.args.parts.now) (capacity_of c.extend.new.parts)
          (capacity_of c.conclude.new.parts) _ (progress_of c.conclude.new.parts c.conclude.new.phase) (Ok None)
          (grows_on _ _ _ _ _ more c.loop-phase.invariant.1 (ok_from c.extend.result no_error c.extend.ensures.room))
          c.conclude.ensures.room concludes tt,
    )
