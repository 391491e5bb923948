use Rattle.std.proofs.Common.{◌∙◌, ap, ◌++◌, List, ℕ, []}
use Rattle.ipc_frame.specs.Written.{message_of}
use Rattle.ipc_stream.proofs.MessagesWritten.{front_frame}
use Rattle.ipc_stream.proofs.messages.front.Goals as goal

pub returns-clause-framed : goal.returns-clause-framed
returns-clause-framed c limits head body fits states =
    front_frame c.args.meta.now body c.frame_into.new.out.items
    (c.in_ok-frame_into.ensures.appended ∙ ap (λ (old : List ℕ). old ++ message_of c.args.meta.now []) c.new-out.ensures.items)
    head fits states
