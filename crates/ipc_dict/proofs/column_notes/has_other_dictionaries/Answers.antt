use Rattle.std.proofs.Common.{◌∙◌, subst, below_more, arith}
use Rattle.std.proofs.lemmas.List.{get_or_default}
use Rattle.ipc_model.specs.declared.schema.Field.{Field}
use Rattle.ipc_dict.specs.ColumnNotes.{AreOthers}
use Rattle.ipc_dict.specs.Pairs.{pairs}
use Rattle.ipc_dict.proofs.ColumnNotes.{apart_from}
use Rattle.ipc_dict.proofs.column_notes.has_other_dictionaries.Goals as goal

pub loop-other-preserved : goal.loop-other-preserved
loop-other-preserved c =
    below_more _ _ c.loop-other.invariant (λ g v w.
    subst (λ (x : Field). AreOthers (pairs c.args.field.now v) (pairs x w))
    (c.other-item.is ∙ get_or_default c.args.others.now c.loop-other.other-index c.other-item.result g c.loop-other-test.true)
    (c.have_other_dictionaries.ensures c.if-not-have_other_dictionaries.false v w))

pub returns : goal.returns
returns c = λ yes.
    apart_from c.args.field.now c.args.others.now (λ k l. c.loop-other.invariant k (omega (arith, l, c.loop-other-test.false)))
