use Rattle.std.proofs.Common.{◌≡◌, ap, codes, rules, true, false}
use Rattle.std.specs.Prelude.{Ok}
use Rattle.serde_json.specs.Find.{get}
use Rattle.serde_json.specs.View.{view}
use Rattle.ipc_text_json.proofs.Fields.{field_of}
use Rattle.ipc_text_json.proofs.schema_errors.bad_part.Goals as goal

pub returns-in_default-count_in-clause-bad : goal.returns-in_default-count_in-clause-bad
returns-in_default-count_in-clause-bad c =
    (view c.in-Ok.members.children.now, ap (get (codes "children")) c.in-Ok.ensures.only, c.in_default-count_in.ensures.1)

pub returns-in_default-read_dictionary-clause-bad : goal.returns-in_default-read_dictionary-clause-bad
returns-in_default-read_dictionary-clause-bad c = (
  view c.in-Ok.members.dictionary.now,
  ap (get (codes "dictionary")) c.in-Ok.ensures.only,
  λ d wide e. let is = c.in_default-read_dictionary.ensures.all d wide e in absurd cc,
)

pub returns-then-not-branch-clause-bad : goal.returns-then-not-branch-clause-bad
returns-then-not-branch-clause-bad c =
    let no : c.in_ok-is_pairs.field-0 ≡ false = search rules in (
      view c.in-Ok.members.metadata.now,
      ap (get (codes "metadata")) c.in-Ok.ensures.only,
      c.in_ok-is_pairs.ensures.no (ap Ok no),
    )

pub returns-in_default-text_in-clause-bad : goal.returns-in_default-text_in-clause-bad
returns-in_default-text_in-clause-bad c =
    (view c.in-Ok.members.name.now, ap (get (codes "name")) c.in-Ok.ensures.only, c.in_default-text_in.ensures.1)

pub returns-in_default-bool_in-clause-bad : goal.returns-in_default-bool_in-clause-bad
returns-in_default-bool_in-clause-bad c =
    (view c.in-Ok.members.nullable.now, ap (get (codes "nullable")) c.in-Ok.ensures.only, c.in_default-bool_in.ensures.1)

pub returns-then-not-branch-2-clause-bad : goal.returns-then-not-branch-2-clause-bad
returns-then-not-branch-2-clause-bad c =
    let no : c.in_ok-is_type.field-0 ≡ false = search rules in (
      view c.in-Ok.members.kind.now,
      ap (get (codes "type")) c.in-Ok.ensures.only,
      c.in_ok-is_type.ensures.no (ap Ok no),
    )

pub returns-clause-none : goal.returns-clause-none
returns-clause-none c is =
    let pairs : c.in_ok-is_pairs.field-0 ≡ true = search rules in
    let kind : c.in_ok-is_type.field-0 ≡ true = search rules in
    field_of _ _ _ _ _ _ _ c.in-Ok-count_in._count c.in-Ok-read_dictionary._dictionary c.in-Ok-text_in._name.now
    c.in-Ok-bool_in._nullable c.in-Ok.ensures.only c.in-Ok-count_in.ensures c.in-Ok-read_dictionary.ensures.read
    (c.in_ok-is_pairs.ensures.yes (ap Ok pairs)) c.in-Ok-text_in.ensures c.in-Ok-bool_in.ensures
    (c.in_ok-is_type.ensures.yes (ap Ok kind))
