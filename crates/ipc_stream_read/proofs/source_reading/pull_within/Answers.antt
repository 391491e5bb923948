use Rattle.std.proofs.Common.{◌∙◌, ap, Ok}
use Rattle.std.proofs.lemmas.Result.{err_from_is_err_and}
use Rattle.ipc_stream_read.specs.Reader.{end_of, phase_of}
use Rattle.ipc_stream_read.proofs.PulledEvents.{pulls_none, pulled_within, refused_within, pulls_more, fewer_left, cut_within}
use Rattle.ipc_stream_read.proofs.PulledEvents.{closed_within, held_stops, no_room, none_came, room_now}
use Rattle.ipc_stream_read.proofs.source_reading.pull_within.Goals as goal

pub loop-most_held-init : goal.loop-most_held-init
loop-most_held-init g c = pulls_none _ _ _ _ _ _ c.requires.within c.requires.counted c.requires.between

pub give_up-requires : goal.give_up-requires
give_up-requires g c = ap (λ s. end_of (phase_of s)) c.loop-most_held.invariant.kept

pub returns-then-not-has_room-clause-pulled : goal.returns-then-not-has_room-clause-pulled
returns-then-not-has_room-clause-pulled g c =
    held_stops _ _ _ _ _ _ _ _ _ _ _ _ c.loop-most_held.invariant c.give_up.ensures
    (no_room _ _ _ _ _ _ _ _ _ _ _ c.loop-most_held.invariant _ c.has_room.ensures.above c.if-not-has_room.true)

pub returns-in_err-event-clause-pulled : goal.returns-in_err-event-clause-pulled
returns-in_err-event-clause-pulled g c =
    let p = err_from_is_err_and c.from_residual.result c.from_residual.ensures.1 in
    let room = room_now _ _ _ _ _ _ _ _ _ _ _ c.loop-most_held.invariant _ c.has_room.ensures.within c.if-not-has_room.false in
    rw (p.1, p.2) (refused_within _ _ _ _ _ _ _ _ _ _ _ _ _ _ _ _ c.loop-most_held.invariant c.feed_from-count.ensures.drawn
    c.saturating_add.ensures room c.in_err-event.field-0.0 c.in_err-event.was)

pub returns-in-Some-clause-pulled : goal.returns-in-Some-clause-pulled
returns-in-Some-clause-pulled g c =
    let room = room_now _ _ _ _ _ _ _ _ _ _ _ c.loop-most_held.invariant _ c.has_room.ensures.within c.if-not-has_room.false in
    pulled_within _ _ _ _ _ _ _ _ _ _ _ _ _ _ _ _ c.loop-most_held.invariant c.feed_from-count.ensures.drawn c.saturating_add.ensures
    room c.in-Some.event (c.in_ok-event.was ∙ ap Ok c.in-Some.is)

pub returns-in-Some-clause-fewer : goal.returns-in-Some-clause-fewer
returns-in-Some-clause-fewer g c = λ some.
    fewer_left _ _ _ _ _ _ _ _ _ _ _ _ _ _ _ _ _ c.loop-most_held.invariant c.feed_from-count.ensures.drawn c.saturating_add.ensures
    c.in-Some.event (c.in_ok-event.was ∙ ap Ok c.in-Some.is) c.feed_from-count.ensures.fewer

pub returns-in_err-close-clause-pulled : goal.returns-in_err-close-clause-pulled
returns-in_err-close-clause-pulled g c =
    let p = err_from_is_err_and c.from_residual-in_err-close.result c.from_residual-in_err-close.ensures.1 in
    let room = room_now _ _ _ _ _ _ _ _ _ _ _ c.loop-most_held.invariant _ c.has_room.ensures.within c.if-not-has_room.false in
    let kept = c.loop-most_held.invariant.kept in
    let is = c.in_ok-event.was ∙ ap Ok c.in_default.is in
    rw (p.1, p.2) (cut_within _ _ _ _ _ _ _ _ _ _ _ _ (pulls_more _ _ _ _ _ _ _ _ _ _ _ _ _ _ _ _ c.loop-most_held.invariant
    c.feed_from-count.ensures.drawn c.saturating_add.ensures room _ _ is c.feed_from-count.ensures.fewer
    c.feed_from-count.ensures.failures c.feed_from-count.ensures.limits)
    (none_came _ _ _ _ _ _ _ c.feed_from-count.ensures.drawn kept is c.if-count-eq0.true) c.in_err-close.field-0.0
    c.in_err-close.ensures.closes)

pub returns-then-count-eq0-clause-pulled : goal.returns-then-count-eq0-clause-pulled
returns-then-count-eq0-clause-pulled g c =
    let room = room_now _ _ _ _ _ _ _ _ _ _ _ c.loop-most_held.invariant _ c.has_room.ensures.within c.if-not-has_room.false in
    let is = c.in_ok-event.was ∙ ap Ok c.in_default.is in
    closed_within _ _ _ _ _ _ _ _ _ _ _ _ (pulls_more _ _ _ _ _ _ _ _ _ _ _ _ _ _ _ _ c.loop-most_held.invariant
    c.feed_from-count.ensures.drawn c.saturating_add.ensures room _ _ is c.feed_from-count.ensures.fewer
    c.feed_from-count.ensures.failures c.feed_from-count.ensures.limits)
    (none_came _ _ _ _ _ _ _ c.feed_from-count.ensures.drawn c.loop-most_held.invariant.kept is c.if-count-eq0.true)
    c.in_ok-close.field-0 c.in_ok-close.ensures.closes

pub loop-most_held-preserved : goal.loop-most_held-preserved
loop-most_held-preserved g c =
    let room = room_now _ _ _ _ _ _ _ _ _ _ _ c.loop-most_held.invariant _ c.has_room.ensures.within c.if-not-has_room.false in
    pulls_more _ _ _ _ _ _ _ _ _ _ _ _ _ _ _ _ c.loop-most_held.invariant c.feed_from-count.ensures.drawn c.saturating_add.ensures
    room _ _ (c.in_ok-event.was ∙ ap Ok c.in_default.is) c.feed_from-count.ensures.fewer c.feed_from-count.ensures.failures
    c.feed_from-count.ensures.limits
