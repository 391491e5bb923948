use Rattle.std.proofs.Common.{◌-◌, ◌≤◌, length}
use Rattle.job_print.specs.Plain.{ArePlain}
use Rattle.job_print.proofs.plain.many_are_plain.Given as goal

-- the first bytes are plain
abbrev pub invariant-loop-at : goal.invariant-loop-at
invariant-loop-at l = (l.at ≤ length l.text) × ArePlain l.mark l.text 0 l.at

-- the bytes that are left
abbrev pub decreases-loop-at : goal.decreases-loop-at
decreases-loop-at l = length l.text - l.at
