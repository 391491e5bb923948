use Rattle.std.proofs.Common.{arith}
use Rattle.job_explain.proofs.Paths.{child_told, end_told, names_deepest, names_here}
use Rattle.job_explain.proofs.field_paths.+push_below.Goals as goal
use Rattle.job_explain.proofs.field_paths.+push_below.Goals.{then-depth-gt0+in_ok-i+in_default, else-depth-gt0}

pub returns-in-Some : goal.returns-in-Some
returns-in-Some t c = record {
  ok =
      child_told c.args.limits.now c.args.fault.now c.args.depth c.in-Some.i c.args.table.now c.in-Some.child c.args.out.now.items
      c.push_field.new.out.items c.push_below.new.out.items c.push_below.result (omega arith) (rw c.in-Some.is at c.in_ok-i.ensures.answer)
      c.in_ok-push_field.ensures.ok c.push_below.ensures.ok;
}

pub returns : goal.returns
returns t c = record {
  ok =
      end_told c.args.limits.now c.args.fault.now c.args.depth c.args.table.now c.args.out.now.items c.push_end.new.out.items
      c.push_end.result
      (elim c.if-depth-gt0.branch [
        | then-depth-gt0+in_ok-i+in_default w ↦ names_here c.args.limits.now c.args.fault.now c.args.depth c.args.table.now (rw
            w.in_default.is at w.in_ok-i.ensures.answer)
        | else-depth-gt0 w ↦ names_deepest c.args.limits.now c.args.fault.now c.args.depth c.args.table.now (omega arith)
      ]) c.push_end.ensures.ok;
}
