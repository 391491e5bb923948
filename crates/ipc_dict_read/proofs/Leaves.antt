-- The values of a type without inner types lie in one column.
use Rattle.std.proofs.Common.{◌≡◌, ◌∙◌, refl, sym, ap, subst, ℕ, ℤ, true, List, [], None}
use Rattle.std.specs.List.{AllByRecursion}
use Rattle.std.specs.Prelude.{IsSome}
use Rattle.ipc_model.specs.Entries.{entries}
use Rattle.ipc_model.specs.declared.limits.Limits.{Limits}
use Rattle.ipc_model.specs.Layouts.{type_layout}
use Rattle.ipc_model.specs.WellFormed.{IsFieldWellFormed, IsLeaf}
use Rattle.ipc_model.specs.declared.layout.Layout.{Layout}
use Rattle.ipc_model.specs.declared.schema.DataType.{DataType}
use Rattle.ipc_model.specs.declared.schema.DataType.TheVariants as t
use Rattle.ipc_model.specs.declared.schema.DateUnit.TheVariants.{Day, Millisecond}
use Rattle.ipc_model.specs.declared.schema.Field.{Field, fold-roll-Field}
use Rattle.ipc_column.specs.Dictionaries.{has_no_children}
use Rattle.ipc_column.specs.Shapes.{Shape, field_layout, shape_step}
use Rattle.ipc_dict_read.specs.ValuesColumns.{dictionary_columns, values_column}
use Rattle.ipc_dict_read.proofs.Named.{all_given}

leaf_alone : (kind : DataType) → IsLeaf kind → has_no_children (type_layout kind) ≡ true
leaf_alone t.List leaf = absurd leaf
leaf_alone (t.FixedSizeList n) leaf = absurd leaf
leaf_alone t.Struct leaf = absurd leaf
leaf_alone t.Null leaf = refl
leaf_alone t.Bool leaf = refl
leaf_alone (t.Int bits signed) leaf = refl
leaf_alone t.Binary leaf = refl
leaf_alone t.Utf8 leaf = refl
leaf_alone (t.FixedSizeBinary n) leaf = refl
leaf_alone (t.Date Day) leaf = refl
leaf_alone (t.Date Millisecond) leaf = refl
leaf_alone (t.Timestamp unit timezone) leaf = refl
leaf_alone (t.Time unit) leaf = refl
leaf_alone (t.Duration unit) leaf = refl

-- the column of such values stands alone
column_alone : (name : List ℕ) (kind : DataType) → IsLeaf kind → has_no_children (field_layout (values_column name kind)) ≡ true
column_alone name kind leaf =
    ap (λ (p : Layout × Shape). has_no_children p.0) (fold-roll-Field (Layout × Shape) shape_step
    (record { name = name; nullable = true; kind = kind; dictionary = None; children = []; metadata = [] })) ∙ leaf_alone kind leaf

-- so does that of each dictionary, in fields that keep the rules
pub columns_alone : (limits : Limits) (fields : List Field) → AllByRecursion (IsFieldWellFormed limits) (entries fields)
    → AllByRecursion (λ (c : ℤ × List Field). AllByRecursion (λ f. has_no_children (field_layout f) ≡ true) c.1) (dictionary_columns fields)
columns_alone limits fields fine =
    all_given (IsFieldWellFormed limits) (λ c. AllByRecursion (λ f. has_no_children (field_layout f) ≡ true) c.1)
    (λ e d name is rules. (column_alone name e.kind (rules.leaf_dictionary (subst (λ o. IsSome o) (sym is) refl)), tt)) fields fine
