use Rattle.std.proofs.Common.{rules, arith, ◌≡◌, ◌≤◌, ◌<◌}
use Rattle.std.specs.Prelude.{pos}
use Rattle.ipc_scalar.specs.Bytes.{int32}
use Rattle.ipc_frame.proofs.Parted.{ends, sized}
use Rattle.ipc_frame.proofs.decision.decide_size.Goals as goal

pub returns-then-size-eq0-clause-decides : goal.returns-then-size-eq0-clause-decides
returns-then-size-eq0-clause-decides c =
    let none : int32 c.args.parts.now.start 4 ≡ pos 0 = search rules in
    ends c.args.limits.now c.args.parts.now c.requires (omega arith) none

pub returns-clause-decides : goal.returns-clause-decides
returns-clause-decides c =
    let is : int32 c.args.parts.now.start 4 ≡ pos c.unsigned_abs.result = search rules in
    let fits : c.unsigned_abs.result ≤ c.args.limits.now.metadata = search rules in
    let some : 0 < c.unsigned_abs.result = search rules in
    sized c.args.limits.now c.args.parts.now c.requires (omega arith) c.unsigned_abs.result is fits some
