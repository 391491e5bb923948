use Rattle.std.proofs.Common.{arith}
use Rattle.job_explain.proofs.Alone.{ill_listed, listed, none_in, not_listed}
use Rattle.job_explain.proofs.field_paths.first_with.Goals as goal

pub returns-in-Ok-None : goal.returns-in-Ok-None
returns-in-Ok-None c = record {
  answer =
      λ u e h.
      not_listed c.args.table.now c.args.slot (rw c.in-Ok-None.field-0-is at c.in-Ok-None.ensures) u e;
}

pub returns-in-Err : goal.returns-in-Err
returns-in-Err c = record {
  answer =
      λ u e h.
      ill_listed c.args.table.now c.args.slot _ c.in-Err.ensures u e;
}

pub returns-in-Some : goal.returns-in-Some
returns-in-Some c = record {
  answer =
      let is = rw c.in-Some.is at c.in_ok-field.ensures.some in record {
        list = c.in-Ok-Some.tables;
        listed = listed c.args.table.now c.args.slot c.in-Ok-Some.tables (rw c.in-Ok-Some.field-0-is at c.in-Ok-Some.ensures);
        inside = omega arith;
        stands = is.0;
        refused = is.1;
        first = c.loop-i.invariant;
      };
}

pub returns : goal.returns
returns c = record {
  answer =
      none_in c.args.limits.now c.args.fault.now c.args.table.now c.args.slot c.in-Ok-Some.tables
      (listed c.args.table.now c.args.slot c.in-Ok-Some.tables (rw c.in-Ok-Some.field-0-is at c.in-Ok-Some.ensures)) (λ j v few.
      c.loop-i.invariant j v (omega arith));
}
