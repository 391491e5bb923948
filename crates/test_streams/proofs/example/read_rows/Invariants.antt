use Rattle.test_streams.proofs.example.read_rows.Given as goal

-- each batch leaves fewer bytes to come
abbrev pub decreases-loop-batch : goal.decreases-loop-batch
decreases-loop-batch l = l.stream.bound
