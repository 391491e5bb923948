use Rattle.std.proofs.Common.{◌∙◌, sym, ap}
use Rattle.ipc_column.specs.declared.ranges.ColumnRanges.{ColumnRanges}
use Rattle.ipc_column.specs.declared.ranges.ColumnRanges.TheViews.{out-ColumnRanges}
use Rattle.ipc_column.specs.Dictionaries.{has_no_children}
use Rattle.ipc_column.proofs.Alone.{alone_from, alone_is, alone_one}
use Rattle.ipc_column.proofs.dictionary.is_one_leaf.Goals as goal

pub returns-then-parts-ne1-clause-no : goal.returns-then-parts-ne1-clause-no
returns-then-parts-ne1-clause-no c = λ body a. absurd (c.if-parts-ne1.true (alone_one body c.args.parts.now a))

pub returns-clause-yes : goal.returns-clause-yes
returns-clause-yes c = λ h body.
    let same = ap (λ (p : ColumnRanges). has_no_children (out-ColumnRanges p).layout) c.index-parts-0.is in
    alone_from body c.args.parts.now c.index-parts-0.result c.if-parts-ne1.false c.index-parts-0.is
    (same ∙ (sym c.has_no_children.ensures ∙ h))

pub returns-clause-no : goal.returns-clause-no
returns-clause-no c = λ body a.
    let same = ap (λ (p : ColumnRanges). has_no_children (out-ColumnRanges p).layout) c.index-parts-0.is in
    c.has_no_children.ensures ∙ (sym same ∙ alone_is body c.args.parts.now c.index-parts-0.result c.index-parts-0.is a)
