use Rattle.std.proofs.Common.{refl}
use Rattle.ipc_encode.specs.Buffers.{row_columns}
use Rattle.ipc_encode.proofs.Held.{counts_past, counts_within}
use Rattle.ipc_encode.proofs.column_sizes.ColumnSizes.within_body.Goals as goal

pub returns-then-len-limits-clause-refused : goal.returns-then-len-limits-clause-refused
returns-then-len-limits-clause-refused c = λ fields rows shape counted.
    let limits = c.args.limits.now in
    let size = c.len.ensures limits (row_columns rows 0) counted in
    (refl, counts_past limits fields rows c.args.self.layout c.len.result shape size c.if-len-limits.true)

pub returns-clause-counts : goal.returns-clause-counts
returns-clause-counts c = λ fields rows shape counted.
    let limits = c.args.limits.now in
    let size = c.len.ensures limits (row_columns rows 0) counted in
    record {
      shape = shape;
      counts = counted;
      within = counts_within limits fields rows c.args.self.layout c.args.self.counts c.len.result shape counted size c.if-len-limits.false;
    }
