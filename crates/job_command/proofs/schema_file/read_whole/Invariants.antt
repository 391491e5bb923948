use Rattle.std.proofs.Common.{◌≡◌, ◌+◌}
use Rattle.std.specs.Io.KnownBytes.{Consumes, IsAtEnd}
use Rattle.job_command.proofs.schema_file.read_whole.Given as goal

abbrev pub invariant-loop-count : goal.invariant-loop-count
invariant-loop-count g l =
    Consumes (g.P.Source.remaining l.fn.file) (g.P.Source.remaining l.file) l.text.items
    × (l.count ≡ 0 → IsAtEnd (g.P.Source.remaining l.file)) × (g.P.Source.failures l.file ≡ 0)

abbrev pub decreases-loop-count : goal.decreases-loop-count
decreases-loop-count g l = g.P.Source.bound l.file + l.count
