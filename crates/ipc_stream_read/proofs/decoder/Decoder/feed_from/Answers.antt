use Rattle.std.proofs.Common.{◌∙◌, ap, Ok}
use Rattle.ipc_stream_read.proofs.Decoders.{draws_failures, draws_frame, draws_none, draws_refused, takes_at}
use Rattle.ipc_stream_read.proofs.decoder.Decoder.feed_from.Goals as goal

pub returns-in-Err-clause-drawn : goal.returns-in-Err-clause-drawn
returns-in-Err-clause-drawn g c =
    rw (← c.self.view_is) (draws_refused c.self.inside.frames.limits c.self.inside.frames.room c.self.inside.stream
    c.self.inside.stream.counted c.feed_from-count.new.self c.feed_from-count.ensures.limits c.feed_from-count.ensures.let_go
    c.self.inside.frames.progress _ _ _ _ c.in-Err.fault c.in-Err.is c.self.invariant.let_go c.feed_from-count.ensures.takes
    c.feed_from-count.ensures.memory)

pub returns-in-Ok-None-clause-drawn : goal.returns-in-Ok-None-clause-drawn
returns-in-Ok-None-clause-drawn g c =
    rw (← c.self.view_is) (draws_none c.self.inside.frames.limits c.self.inside.frames.room c.self.inside.stream
    c.self.inside.stream.counted c.feed_from-count.new.self c.feed_from-count.ensures.limits c.feed_from-count.ensures.let_go
    c.self.inside.frames.progress _ _ _ c.self.invariant.let_go
    (takes_at _ _ _ _ _ _ _ _ (c.in-Ok-None.is ∙ ap Ok c.in-Ok-None.field-0-is) c.feed_from-count.ensures.takes))

pub returns-in-Ok-Some-clause-drawn : goal.returns-in-Ok-Some-clause-drawn
returns-in-Ok-Some-clause-drawn g c =
    rw (← c.self.view_is) (draws_frame c.self.inside.frames.limits c.self.inside.frames.room c.self.inside.stream
    c.self.inside.stream.counted c.feed_from-count.new.self c.accept-found.new.frames c.accept-found.new.stream
    c.feed_from-count.ensures.limits c.in-Ok-Some.frame c.self.inside.frames.progress _ _ _ c.accept-found.result
    (takes_at _ _ _ _ _ _ _ _ (c.in-Ok-Some.is ∙ ap Ok c.in-Ok-Some.field-0-is) c.feed_from-count.ensures.takes)
    c.accept-found.ensures.brings c.accept-found.ensures.moves c.accept-found.ensures.memory)

pub returns-in-Ok-Some-clause-failures : goal.returns-in-Ok-Some-clause-failures
returns-in-Ok-Some-clause-failures g c =
    rw (← c.self.view_is) (draws_failures c.self.inside.frames.limits c.self.inside.frames.room c.self.inside.stream
    c.self.inside.stream.counted c.feed_from-count.new.self c.accept-found.new.frames c.accept-found.new.stream
    c.feed_from-count.ensures.limits c.in-Ok-Some.frame c.self.inside.frames.progress _ _ _ _ _ c.accept-found.result _
    (c.in-Ok-Some.is ∙ ap Ok c.in-Ok-Some.field-0-is) c.feed_from-count.ensures.takes c.accept-found.ensures.brings
    c.feed_from-count.ensures.failures)
