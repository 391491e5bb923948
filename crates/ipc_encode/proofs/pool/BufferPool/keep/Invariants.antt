use Rattle.ipc_encode.proofs.pool.BufferPool.keep.Given as goal

abbrev pub decreases-loop-segment : goal.decreases-loop-segment
decreases-loop-segment l = goal.left-loop-segment l
