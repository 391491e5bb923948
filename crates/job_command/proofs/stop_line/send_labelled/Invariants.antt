use Rattle.std.proofs.Common.{◌≡◌, ℕ, List, ◌++◌, drop}
use Rattle.std.specs.Io.KnownBytes.{Appends}
use Rattle.job_command.specs.Lines.{labelled, labelled_after}
use Rattle.job_command.proofs.stop_line.send_labelled.Given as goal

abbrev pub invariant-loop-byte : goal.invariant-loop-byte
invariant-loop-byte g l =
    (done : List ℕ) × Appends (g.E.Sink.written l.fn.messages) (g.E.Sink.written l.messages) done
    × (done ++ labelled_after l.before l.label (drop l.byte-index l.lines) ≡ labelled l.label l.lines)
    × (g.E.Sink.failures l.messages ≡ g.E.Sink.failures l.fn.messages)
