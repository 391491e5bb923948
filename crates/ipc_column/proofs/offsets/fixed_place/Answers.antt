use Rattle.std.proofs.Common.{◌+◌, ◌*◌, ◌<◌, ◌≤◌, ◌^◌, length, rules, sym, subst, arith}
use Rattle.ipc_column.specs.declared.ranges.ColumnRanges.{ColumnRanges}
use Rattle.ipc_column.specs.declared.ranges.ColumnRanges.TheViews.{out-ColumnRanges}
use Rattle.ipc_column.proofs.lending.FixedLists.{slots_of_first}
use Rattle.ipc_column.proofs.offsets.fixed_place.Goals as goal

pub overflow_mul-result : goal.overflow_mul-result
overflow_mul-result c =
    let some : 0 < length c.args.children.now = search rules in
    let most : c.args.size * (c.args.slot + 1) ≤ (out-ColumnRanges c.index-children-0.result).slots =
    slots_of_first (c.args.size * (c.args.slot + 1)) c.args.children.now c.index-children-0.result c.requires some c.index-children-0.is in
    let fits : (out-ColumnRanges c.index-children-0.result).slots < 2 ^ 64 =
    subst (λ (p : ColumnRanges). (out-ColumnRanges p).slots < 2 ^ 64) (sym c.index-children-0.is) c.index-children-0.element_fits.fits in
    record { fits = omega (arith, most, fits) }

pub returns-clause-room : goal.returns-clause-room
returns-clause-room c =
    let some : 0 < length c.args.children.now = search rules in
    let most : c.args.size * (c.args.slot + 1) ≤ (out-ColumnRanges c.index-children-0.result).slots =
    slots_of_first (c.args.size * (c.args.slot + 1)) c.args.children.now c.index-children-0.result c.requires some c.index-children-0.is in
    let fits : (out-ColumnRanges c.index-children-0.result).slots < 2 ^ 64 =
    subst (λ (p : ColumnRanges). (out-ColumnRanges p).slots < 2 ^ 64) (sym c.index-children-0.is) c.index-children-0.element_fits.fits in
    omega (arith, most, fits)
