use Rattle.std.proofs.Common.{◌≡◌, ◌∙◌, ap, subst, rules, arith, Ok, Err, None, Some, inl, refl}
use Rattle.std.specs.Prelude.{IfSome}
use Rattle.std.proofs.lemmas.List.{take_rest}
use Rattle.std.proofs.lemmas.Result.{err_from_is_err_and}
use Rattle.ipc_frame.specs.Parts.{no_capacity}
use Rattle.ipc_frame.proofs.Grown.{grows_none, grows_same}
use Rattle.ipc_stream_read.specs.Decoding.{Feeds}
use Rattle.ipc_stream_read.specs.Scopes.{state_of}
use Rattle.ipc_stream_read.specs.StreamStates.{Brings, Moves, decoding_of}
use Rattle.ipc_stream_read.proofs.Decoders.{fed_well_formed, feeds_at, feeds_event, feeds_frame_refused, feeds_none, feeds_refused}
use Rattle.ipc_stream_read.proofs.Decoders.{feeds_silent}
use Rattle.ipc_stream_read.proofs.Feeding.{FeedsSilent, fed_then, feeding_more, silent_falls}
use Rattle.ipc_stream_read.proofs.next_frame.feed_on.Goals as goal

pub loop-count-init : goal.loop-count-init
loop-count-init c =
    (c.requires, record { within = omega arith; same_limits = refl; so_far = inl (refl, refl) }, grows_same _ _)

pub returns-in_err-count-clause-fed : goal.returns-in_err-count-clause-fed
returns-in_err-count-clause-fed c =
    let p = err_from_is_err_and c.from_residual.result c.from_residual.ensures.1 in
    let now = decoding_of c.loop-count.frames c.loop-count.stream in
    let new = decoding_of c.feed.new.self c.loop-count.stream in
    let e = c.in_err-count.field-0.0 in
    rw (p.1, p.2) (fed_then (decoding_of c.args.frames.now c.args.stream.now) now new c.args.piece.now c.loop-count.taken
    c.loop-count.invariant.1 (Err e)
    (subst (λ y. Feeds now y new (Err e)) (take_rest c.args.piece.now c.loop-count.taken)
    (feeds_refused c.loop-count.frames.limits c.loop-count.frames.room c.loop-count.stream c.loop-count.stream.counted c.feed.new.self
    c.feed.ensures.limits c.feed.ensures.let_go c.loop-count.frames.progress _ e c.loop-count.invariant.0.let_go
    c.in_err-count.ensures.feeds c.in_err-count.ensures.memory)))

pub returns-in_default-clause-fed : goal.returns-in_default-clause-fed
returns-in_default-clause-fed c =
    let now = decoding_of c.loop-count.frames c.loop-count.stream in
    let new = decoding_of c.feed.new.self c.loop-count.stream in
    fed_then (decoding_of c.args.frames.now c.args.stream.now) now new c.args.piece.now c.loop-count.taken c.loop-count.invariant.1 (Ok
    (c.in_ok-count.count, None))
    (subst (λ y. Feeds now y new (Ok (c.in_ok-count.count, None))) (take_rest c.args.piece.now c.loop-count.taken)
    (feeds_none c.loop-count.frames.limits c.loop-count.frames.room c.loop-count.stream c.loop-count.stream.counted c.feed.new.self
    c.feed.ensures.limits c.feed.ensures.let_go c.loop-count.frames.progress _ c.in_ok-count.count c.loop-count.invariant.0.let_go
    (feeds_at _ _ _ _ c.in_ok-count.count _ _ c.in_default.is c.in_ok-count.ensures.feeds)))

pub accept-requires-clause-well_formed : goal.accept-requires-clause-well_formed
accept-requires-clause-well_formed c =
    fed_well_formed _ _ _ _ _ c.in_ok-count.count c.in-Some.frame c.feed.ensures.limits
    (feeds_at _ _ _ _ c.in_ok-count.count _ _ c.in-Some.is c.in_ok-count.ensures.feeds)

pub returns-in_err-event-clause-fed : goal.returns-in_err-event-clause-fed
returns-in_err-event-clause-fed c =
    let p = err_from_is_err_and c.from_residual-in_err-event.result c.from_residual-in_err-event.ensures.1 in
    let now = decoding_of c.loop-count.frames c.loop-count.stream in
    let new = decoding_of c.accept.new.frames c.accept.new.stream in
    let e = c.in_err-event.field-0.0 in
    rw (p.1, p.2) (fed_then (decoding_of c.args.frames.now c.args.stream.now) now new c.args.piece.now c.loop-count.taken
    c.loop-count.invariant.1 (Err e)
    (subst (λ y. Feeds now y new (Err e)) (take_rest c.args.piece.now c.loop-count.taken)
    (feeds_frame_refused c.loop-count.frames.limits c.loop-count.frames.room c.loop-count.stream c.loop-count.stream.counted
    c.feed.new.self c.accept.new.frames c.accept.new.stream c.feed.ensures.limits c.in-Some.frame c.loop-count.frames.progress _
    c.in_ok-count.count e (feeds_at _ _ _ _ c.in_ok-count.count _ _ c.in-Some.is c.in_ok-count.ensures.feeds)
    c.in_err-event.ensures.brings c.in_err-event.ensures.moves c.in_err-event.ensures.memory)))

pub returns-in-Some-2-clause-fed : goal.returns-in-Some-2-clause-fed
returns-in-Some-2-clause-fed c =
    let brings = subst (λ q. Brings c.feed.new.self.limits (state_of c.loop-count.stream.scope) c.in-Some.frame
    (state_of c.accept.new.stream.scope) (Ok q)) c.in-Some-2.is c.in_ok-event.ensures.brings in
    let moves = subst (λ q. Moves c.feed.new.self c.accept.new.frames c.loop-count.stream c.accept.new.stream (Ok q)) c.in-Some-2.is
    c.in_ok-event.ensures.moves in
    let now = decoding_of c.loop-count.frames c.loop-count.stream in
    let new = decoding_of c.accept.new.frames c.accept.new.stream in
    fed_then (decoding_of c.args.frames.now c.args.stream.now) now new c.args.piece.now c.loop-count.taken c.loop-count.invariant.1 (Ok
    (c.in_ok-count.count, Some c.in-Some-2.event))
    (subst (λ y. Feeds now y new (Ok (c.in_ok-count.count, Some c.in-Some-2.event))) (take_rest c.args.piece.now c.loop-count.taken)
    (feeds_event c.loop-count.frames.limits c.loop-count.frames.room c.loop-count.stream c.loop-count.stream.counted c.feed.new.self
    c.accept.new.frames c.accept.new.stream c.feed.ensures.limits c.in-Some.frame c.loop-count.frames.progress _ c.in_ok-count.count
    c.in-Some-2.event (feeds_at _ _ _ _ c.in_ok-count.count _ _ c.in-Some.is c.in_ok-count.ensures.feeds) brings moves))

pub loop-count-smaller : goal.loop-count-smaller
loop-count-smaller c =
    let brings = subst (λ q. Brings c.feed.new.self.limits (state_of c.loop-count.stream.scope) c.in-Some.frame
    (state_of c.accept.new.stream.scope) (Ok q)) c.in_default-2.is c.in_ok-event.ensures.brings in
    let moves = subst (λ q. Moves c.feed.new.self c.accept.new.frames c.loop-count.stream c.accept.new.stream (Ok q)) c.in_default-2.is
    c.in_ok-event.ensures.moves in
    let now = decoding_of c.loop-count.frames c.loop-count.stream in
    let new = decoding_of c.accept.new.frames c.accept.new.stream in
    let silent = subst (λ y. FeedsSilent now y c.in_ok-count.count new) (take_rest c.args.piece.now c.loop-count.taken)
    (feeds_silent c.loop-count.frames.limits c.loop-count.frames.room c.loop-count.stream c.loop-count.stream.counted c.feed.new.self
    c.accept.new.frames c.accept.new.stream c.feed.ensures.limits c.in-Some.frame c.loop-count.frames.progress _ c.in_ok-count.count
    (feeds_at _ _ _ _ c.in_ok-count.count _ _ c.in-Some.is c.in_ok-count.ensures.feeds) brings moves) in
    silent_falls now new c.args.piece.now c.loop-count.taken c.in_ok-count.count silent

pub loop-count-preserved : goal.loop-count-preserved
loop-count-preserved c =
    let brings = subst (λ q. Brings c.feed.new.self.limits (state_of c.loop-count.stream.scope) c.in-Some.frame
    (state_of c.accept.new.stream.scope) (Ok q)) c.in_default-2.is c.in_ok-event.ensures.brings in
    let moves = subst (λ q. Moves c.feed.new.self c.accept.new.frames c.loop-count.stream c.accept.new.stream (Ok q)) c.in_default-2.is
    c.in_ok-event.ensures.moves in
    let now = decoding_of c.loop-count.frames c.loop-count.stream in
    let new = decoding_of c.accept.new.frames c.accept.new.stream in
    let silent = subst (λ y. FeedsSilent now y c.in_ok-count.count new) (take_rest c.args.piece.now c.loop-count.taken)
    (feeds_silent c.loop-count.frames.limits c.loop-count.frames.room c.loop-count.stream c.loop-count.stream.counted c.feed.new.self
    c.accept.new.frames c.accept.new.stream c.feed.ensures.limits c.in-Some.frame c.loop-count.frames.progress _ c.in_ok-count.count
    (feeds_at _ _ _ _ c.in_ok-count.count _ _ c.in-Some.is c.in_ok-count.ensures.feeds) brings moves) in (
      search rules,
      feeding_more (decoding_of c.args.frames.now c.args.stream.now) now new c.args.piece.now c.loop-count.taken c.loop-count.invariant.1
          c.in_ok-count.count
          (c.accept.ensures.limits ∙ c.feed.ensures.limits) silent,
      grows_none _ _ _ (ap (λ f. f.room) moves.0 ∙ subst (λ f. IfSome f (λ _. c.feed.new.self.room ≡ no_capacity)) c.in-Some.is
          c.in_ok-count.ensures.moved),
    )
