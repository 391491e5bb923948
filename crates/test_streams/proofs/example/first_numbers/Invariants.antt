use Rattle.test_streams.proofs.example.first_numbers.Given as goal

-- fewer bytes are left after each batch
abbrev pub decreases-loop-stream : goal.decreases-loop-stream
decreases-loop-stream l = l.stream.bound
