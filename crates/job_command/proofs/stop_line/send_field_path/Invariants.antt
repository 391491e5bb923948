use Rattle.std.proofs.Common.{◌≡◌, ℕ, List, ◌++◌, drop}
use Rattle.std.specs.Io.KnownBytes.{Appends}
use Rattle.ipc_model.specs.Texts.{with_dots, steps_text}
use Rattle.job_command.proofs.stop_line.send_field_path.Given as goal

abbrev pub invariant-loop-number : goal.invariant-loop-number
invariant-loop-number g l =
    (done : List ℕ) × Appends (g.E.Sink.written l.fn.messages) (g.E.Sink.written l.messages) done
    × (done ++ with_dots (drop l.number-index l.rest) ≡ steps_text l.fn.path)
    × (g.E.Sink.failures l.messages ≡ g.E.Sink.failures l.fn.messages)
