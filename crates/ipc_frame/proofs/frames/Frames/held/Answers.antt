use Rattle.std.proofs.Common.{arith}
use Rattle.ipc_frame.proofs.Fed.{front_fits, held_is, held_bounded}
use Rattle.ipc_frame.proofs.frames.Frames.held.Goals as goal

pub overflow_add-result-2 : goal.overflow_add-result-2
overflow_add-result-2 c = omega (arith, front_fits _ _ _ c.self.invariant)

pub returns-clause-came : goal.returns-clause-came
returns-clause-came c = rw (← c.self.view_is) (omega (arith, held_is _ _ _ c.self.invariant))

pub returns-clause-bounded : goal.returns-clause-bounded
returns-clause-bounded c = rw (← c.self.view_is) (omega (arith, held_bounded _ _ _ c.self.invariant))
