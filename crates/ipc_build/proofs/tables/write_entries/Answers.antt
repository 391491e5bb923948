use Rattle.std.proofs.Common.{◌*◌, ◌-◌, ◌∙◌, ◌++◌, ap, arith}
use Rattle.ipc_build.specs.Layout.{padding}
use Rattle.ipc_build.proofs.Pieces.{few, ordered, entries_more, entries_done}
use Rattle.ipc_build.proofs.tables.write_entries.Goals as goal

pub overflow_sub-number : goal.overflow_sub-number
overflow_sub-number c =
    let o = ordered c.args.slots.now c.loop-number.number-index c.loop-number-item.result c.loop-number-item.is c.loop-number-test.true
    c.loop-number.first c.loop-number.invariant.ordered in
    omega (arith, o.0, c.from-number.ensures)

pub overflow_add-distance : goal.overflow_add-distance
overflow_add-distance c =
    let f = few c.args.slots.now c.requires in
    omega (arith, f.0, c.loop-number.invariant.distance, c.loop-number-test.true)

pub loop-number-preserved : goal.loop-number-preserved
loop-number-preserved c =
    let o = ordered c.args.slots.now c.loop-number.number-index c.loop-number-item.result c.loop-number-item.is c.loop-number-test.true
    c.loop-number.first c.loop-number.invariant.ordered in
    record {
      ordered = rw (c.from-number.ensures) o.2;
      distance = omega (arith, c.loop-number.invariant.distance);
      written = rw (c.from-number.ensures) (entries_more c.args.slots.now c.loop-number.number-index c.loop-number-item.result
          c.loop-number-item.is c.loop-number-test.true c.loop-number.out.items c.push_padding.new.out.items c.push_u16.new.out.items _
          c.loop-number.first c.loop-number.distance
          (c.in_ok-push_padding.ensures ∙ ap (λ n. c.loop-number.out.items ++ padding (2 * (n - c.loop-number.first)))
          c.from-number.ensures) c.in_ok-push_u16.ensures c.loop-number.invariant.written);
    }

pub returns : goal.returns
returns c = entries_done c.args.slots.now c.loop-number.number-index c.loop-number.first c.loop-number.distance c.loop-number.out.items _
    (omega arith) c.loop-number.invariant.written
