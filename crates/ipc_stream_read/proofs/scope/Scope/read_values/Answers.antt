use Rattle.std.proofs.Common.{◌≡◌, ◌∙◌, refl, sym, ap, inl, Some, w64}
use Rattle.std.proofs.lemmas.Int.{to_z-of_z}
use Rattle.ipc_dict_read.specs.ValuesColumns.{columns_for}
use Rattle.ipc_stream_read.proofs.Dictionaries.{answers_dictionary, few_columns, no_column}
use Rattle.ipc_stream_read.proofs.scope.Scope.read_values.Goals as goal

pub returns-in_default-clause-refused : goal.returns-in_default-clause-refused
returns-in_default-clause-refused c =
    let cs = c.args.self.now.dictionaries.columns in
    inl (
      refl,
      no_column c.args.self.now.schema c.args.id
          (ap (λ ds. columns_for ds c.args.id) (sym c.args.self.now.columns)
          ∙ (ap (columns_for cs) (sym (to_z-of_z w64 c.args.id c.ranges.id)) ∙ sym c.in_default.ensures)),
    )

-- the columns that were found
found : (c : goal.After-none-1)
    → columns_for c.args.self.now.dictionaries.columns c.args.id ≡ Some c.in-Some.columns.now
found c =
    ap (columns_for c.args.self.now.dictionaries.columns) (sym (to_z-of_z w64 c.args.id c.ranges.id)) ∙ sym c.in-Some.ensures

pub check-requires-clause-few : goal.check-requires-clause-few
check-requires-clause-few c =
    rw c.as_slice.ensures
    (few_columns c.args.self.now.limits c.args.self.now.schema.fields c.args.id c.in-Some.columns.now c.args.self.now.few_fields
    (ap (λ ds. columns_for ds c.args.id) (sym c.args.self.now.columns) ∙ found c))

pub returns-clause-dictionary : goal.returns-clause-dictionary
returns-clause-dictionary c =
    answers_dictionary c.check.result c.args.self.now.dictionaries.columns c.args.id c.in-Some.columns.now
    c.as_slice.result.now c.as_slice.ensures c.args.self.now.alone
    (ap (columns_for c.args.self.now.dictionaries.columns) (sym (to_z-of_z w64 c.args.id c.ranges.id)) ∙ sym c.in-Some.ensures)
    c.check.ensures.layouts
