use Rattle.std.proofs.Common.{inl, inr, w64}
use Rattle.std.proofs.lemmas.Int.{to_z-of_z}
use Rattle.job_print.proofs.csv_row.put_int.Goals as goal

pub returns-in-Date : goal.returns-in-Date
returns-in-Date c = λ d.
    let h = rw (to_z-of_z w64 c.args.number c.ranges.number) at (c.put_temporal_field.ensures d) in elim c.in-Date.is [
      | inl a ↦ rw a.1 (rw a.1 at h)
      | inr other ↦ elim other [ inl a ↦ rw a.1 (rw a.1 at h) | inr a ↦ rw a.2 (rw a.2 at h) ]
    ]
