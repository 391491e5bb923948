use Rattle.std.proofs.Common.{sym, subst}
use Rattle.ipc_frame.specs.Parts.{GrowsWithBytes}
use Rattle.ipc_stream_read.specs.Decoding.{Feeds}
use Rattle.ipc_stream_read.specs.StreamStates.{decoding_of}
use Rattle.ipc_stream_read.proofs.Rooms.{kept_is}
use Rattle.ipc_stream_read.proofs.decoder.Decoder.feed.Goals as goal

pub returns-clause-fed : goal.returns-clause-fed
returns-clause-fed c =
    subst (λ d. Feeds d c.args.piece.now (decoding_of c.feed_on.new.frames c.feed_on.new.stream) c.feed_on.result) c.self.view_is
    c.feed_on.ensures.fed

pub returns-clause-grown : goal.returns-clause-grown
returns-clause-grown c =
    rw (← c.self.view_is)
    (subst (λ n. GrowsWithBytes c.self.inside.frames.room c.feed_on.new.frames.room n)
    (sym (kept_is c.feed_on.new.frames.progress c.feed_on.new.stream.end)) c.feed_on.ensures.grown)
