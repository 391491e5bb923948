use Rattle.std.proofs.Common.{◌≡◌, drop}
use Rattle.std.specs.Prelude.{◌&&◌}
use Rattle.ipc_column.specs.checks.Checks.{all, is_within_body}
use Rattle.ipc_column.proofs.head.are_within_body.Given as goal

abbrev pub invariant-loop-buffer : goal.invariant-loop-buffer
invariant-loop-buffer l = (l.good && all (is_within_body l.size) (drop l.buffer-index l.buffers)) ≡ all (is_within_body l.size) l.buffers
