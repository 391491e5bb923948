use Rattle.std.proofs.Common.{◌∙◌, ap}
use Rattle.ipc_stream_read.specs.Reader.{end_of, phase_of}
use Rattle.ipc_stream_read.proofs.Rooms.{refused_sound}
use Rattle.ipc_stream_read.proofs.decoder.Decoder.give_up.Goals as goal

pub invariant_of-self : goal.invariant_of-self
invariant_of-self c =
    let none = c.self.invariant.ends ∙ (ap (λ d. end_of (phase_of d.stage)) c.self.view_is ∙ c.requires) in
    refused_sound c.self.inside.frames.limits c.refuse.new.self c.self.inside.stream c.refuse.ensures.limits c.refuse.ensures.progress
    c.refuse.ensures.let_go none c.self.invariant.under
