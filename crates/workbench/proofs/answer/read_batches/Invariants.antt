use Rattle.workbench.proofs.answer.read_batches.Given as goal

-- each batch takes bytes of the source, and it has finitely many
abbrev pub decreases-loop-batch : goal.decreases-loop-batch
decreases-loop-batch g l = l.reader.bound
