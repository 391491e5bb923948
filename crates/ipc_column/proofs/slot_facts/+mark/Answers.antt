use Rattle.std.proofs.Common.{◌≡◌, ◌∙◌, sym, ap, subst, List, ◌<◌, length, rules, arith, true}
use Rattle.std.proofs.lemmas.List.{take_more_set}
use Rattle.ipc_column.specs.declared.ranges.ColumnRanges.{ColumnRanges}
use Rattle.ipc_column.specs.declared.ranges.ColumnRanges.TheViews.{the_lemmas, roll-ColumnRanges}
use Rattle.ipc_column.specs.checks.Checks.{passes}
use Rattle.ipc_column.specs.Columns.{Column, Columns, every}
use Rattle.ipc_column.specs.checks.Marks.{AreMarked}
use Rattle.ipc_column.proofs.visited.Marking.{passes_below, passes_still, returned, returned_children, returned_column, returned_items}
use Rattle.ipc_column.proofs.visited.Marking.{stored_mark, stored_view}
use Rattle.ipc_column.proofs.visited.Marks.{columns_set, marked_push, passes_at}
use Rattle.ipc_column.proofs.slot_facts.+mark.Goals as goal

pub store_facts-store_all_facts-requires : goal.store_facts-store_all_facts-requires
store_facts-store_all_facts-requires t c = (
  search (rules, the_lemmas),
  rw c.deref_mut.ensures.value (passes_below c.args.body.now c.args.part.now c.requires),
)

pub store_facts-is_valid_throughout-part-requires : goal.store_facts-is_valid_throughout-part-requires
store_facts-is_valid_throughout-part-requires t c =
    passes_still c.args.body.now c.args.part.now (roll-ColumnRanges (returned c.args.part.now c.store_all_facts.new.parts))
    (returned_column c.args.body.now c.args.part.now c.store_all_facts.new.parts)
    (returned_children c.args.body.now c.args.part.now c.deref_mut.result.now c.store_all_facts.new.parts c.deref_mut.ensures.value
    c.store_all_facts.auto.parts c.store_all_facts.ensures.columns) c.requires

pub store_facts-returns-clause-children : goal.store_facts-returns-clause-children
store_facts-returns-clause-children t c =
    ap (λ (v : Column × Columns). v.1)
    (stored_view c.args.body.now (roll-ColumnRanges (returned c.args.part.now c.store_all_facts.new.parts))
    c.is_valid_throughout-part.result)
    ∙ returned_children c.args.body.now c.args.part.now c.deref_mut.result.now c.store_all_facts.new.parts c.deref_mut.ensures.value
    c.store_all_facts.auto.parts c.store_all_facts.ensures.columns

pub store_facts-returns-clause-marked : goal.store_facts-returns-clause-marked
store_facts-returns-clause-marked t c =
    stored_mark c.args.body.now (roll-ColumnRanges (returned c.args.part.now c.store_all_facts.new.parts)) c.is_valid_throughout-part.result
    (subst (λ (ps : List ColumnRanges). AreMarked c.args.body.now ps)
    (sym (returned_items c.args.part.now c.deref_mut.result.now c.store_all_facts.new.parts c.deref_mut.ensures.value
    c.store_all_facts.auto.parts))
    c.store_all_facts.ensures.marked)
    c.is_valid_throughout-part.ensures.own c.is_valid_throughout-part.ensures.below

pub store_all_facts-store_facts-requires : goal.store_all_facts-store_facts-requires
store_all_facts-store_facts-requires t c = (
  search (rules, the_lemmas),
  λ why. passes_at why c.args.body.now c.loop-i.parts c.loop-i.i c.index-parts-i.result
      (omega (arith, c.loop-i.invariant.unvisited.0, c.loop-i-test.true))
      (subst (λ (cs : Columns). every (passes why) cs ≡ true) (sym c.loop-i.invariant.columns) (c.requires why)),
)

pub store_all_facts-loop-i-preserved : goal.store_all_facts-loop-i-preserved
store_all_facts-loop-i-preserved t c =
    let inside : c.loop-i.i < length c.loop-i.parts = omega (arith, c.loop-i.invariant.unvisited.0, c.loop-i-test.true) in
    record {
      unvisited = search rules;
      columns = columns_set c.args.body.now c.loop-i.parts c.loop-i.i c.store_facts.new.part c.index-parts-i.result inside
          c.store_facts.ensures.column c.store_facts.ensures.children ∙ c.loop-i.invariant.columns;
      marked = rw (take_more_set c.loop-i.parts c.loop-i.i c.store_facts.new.part inside)
          (marked_push c.args.body.now _ c.store_facts.new.part c.loop-i.invariant.marked c.store_facts.ensures.marked);
    }
