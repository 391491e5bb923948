use Rattle.std.proofs.Common.{◌≡◌, ◌∙◌, subst, ◌+◌, ◌-◌, List, length, take, drop, length-drop, below_more, arith}
use Rattle.std.proofs.lemmas.List.{take_all}
use Rattle.std.proofs.lemmas.Option.{get_or_from_slice_get, slice_get_within}
use Rattle.ipc_model.specs.declared.schema.Field.{Field}
use Rattle.ipc_dict.specs.ColumnNotes.{HasOtherDictionaries}
use Rattle.ipc_dict.proofs.column_notes.have_distinct_dictionaries.Goals as goal

pub loop-i-preserved : goal.loop-i-preserved
loop-i-preserved c =
    below_more _ _ c.loop-i.invariant (λ f at.
    let fs = c.args.fields.now in
    let i = c.loop-i.i in
    let own : c.index-fields-i.result ≡ f = c.index-fields-i.is ∙ get_or_from_slice_get fs i f c.index-fields-i.result at in
    let size = length-drop (i + 1) fs in
    let rest : take (length fs - (i + 1)) (drop (i + 1) fs) ≡ drop (i + 1) fs = take_all _ (drop (i + 1) fs) (omega (arith, size)) in
    subst (λ (x : Field). HasOtherDictionaries x (drop (i + 1) fs)) own
    (subst (λ (xs : List Field). HasOtherDictionaries c.index-fields-i.result xs) rest
    (c.has_other_dictionaries.ensures c.if-not-has_other_dictionaries.false)))

pub returns : goal.returns
returns c = λ yes i f at.
    let inside = slice_get_within c.args.fields.now i f at in
    c.loop-i.invariant i (omega (arith, inside, c.loop-i-test.false)) f at
