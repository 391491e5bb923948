use Rattle.workbench.proofs.columns.Writers.write_all.Given as goal

-- each batch takes bytes of the source, and it has finitely many
abbrev pub decreases-loop-batch : goal.decreases-loop-batch
decreases-loop-batch g l = l.reader.bound
