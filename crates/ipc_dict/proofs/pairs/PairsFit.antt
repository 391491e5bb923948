-- The values of dictionaries fit the columns that their dictionaries are read by.
use Rattle.std.proofs.Common.{◌≡◌, ◌∙◌, refl, sym, ap, subst, ℕ, ◌≤◌, ℤ, Bool, true, false, cond, List, [], ◌∷◌, ◌++◌, map}
use Rattle.std.proofs.Common.{int_eq, Some, None, IsSome, inl, inr}
use Rattle.std.specs.List.{AllByRecursion, Contains}
use Rattle.std.proofs.lemmas.Bool.Decides.{Decides-int_eq}
use Rattle.std.proofs.lemmas.List.Elements.{All-contains, All-from_recursion}
use Rattle.ipc_model.specs.Entries.{Entry, Listing, all_at, entries, entry_of, preorder, preorder_step}
use Rattle.ipc_model.specs.Fits.{InnerFit, FitsOwnType, Fits, RowFits, fits_step}
use Rattle.ipc_model.specs.WellFormed.{IsAmong, IsLeaf, IsFieldWellFormed, HasFittingChildren, HasGoodType, WellFormed}
use Rattle.ipc_model.specs.Layouts.{type_layout}
use Rattle.ipc_model.specs.declared.limits.Limits.{Limits}
use Rattle.ipc_model.specs.declared.schema.DataType.{DataType}
use Rattle.ipc_model.specs.declared.schema.DataType.TheVariants as t
use Rattle.ipc_model.specs.declared.schema.Dictionary.{Dictionary}
use Rattle.ipc_model.specs.declared.schema.Field.{Field, out-Field, roll-out-Field, fold-roll-Field, map-Field}
use Rattle.ipc_model.specs.declared.schema.Field.TheOpen.{Field-F}
use Rattle.ipc_model.specs.declared.schema.Schema.{Schema}
use Rattle.ipc_model.specs.declared.value.Value.{Value, out-Value}
use Rattle.ipc_model.specs.declared.value.Value.TheOpen.{Value-F}
use Rattle.ipc_model.specs.declared.layout.Layout.{Layout}
use Rattle.ipc_model.proofs.FitsLemmas.{fits_roll}
use Rattle.ipc_column.specs.Shapes as shape
use Rattle.ipc_column.specs.Shapes.{Shape, bare, field, shape_of}
use Rattle.ipc_encode.proofs.HeldValues.{all_left}
use Rattle.ipc_dict_read.specs.ValuesColumns.{Listed, dictionary_columns, columns_for, values_column}
use Rattle.ipc_dict_read.proofs.Named.{all_given}
use Rattle.ipc_dict.specs.Pairs.{rows_pairs}
use Rattle.ipc_dict.specs.SchemaIds.{field_step, of_fields}
use Rattle.ipc_dict.proofs.pairs.PairsFitEntries.{all_among, all_two, rows_shown}

-- ---- a type without inner types

-- a field of such a type has no children
no_parts : (kind : DataType) (n : ℕ) → IsLeaf kind → HasFittingChildren kind n → n ≡ 0
no_parts t.List n leaf c = absurd leaf
no_parts (t.FixedSizeList size) n leaf c = absurd leaf
no_parts t.Struct n leaf c = absurd leaf
no_parts t.Null n leaf c = c
no_parts t.Bool n leaf c = c
no_parts (t.Int bits signed) n leaf c = c
no_parts t.Binary n leaf c = c
no_parts t.Utf8 n leaf c = c
no_parts (t.FixedSizeBinary width) n leaf c = c
no_parts (t.Date unit) n leaf c = c
no_parts (t.Timestamp unit timezone) n leaf c = c
no_parts (t.Time unit) n leaf c = c
no_parts (t.Duration unit) n leaf c = c

-- nothing stands inside its values
leaf_fits : (kind : DataType) (w : Value-F Value) → IsLeaf kind → InnerFit Fits kind [] w
leaf_fits t.List w leaf = absurd leaf
leaf_fits (t.FixedSizeList size) w leaf = absurd leaf
leaf_fits t.Struct w leaf = absurd leaf
leaf_fits t.Null w leaf = tt
leaf_fits t.Bool w leaf = tt
leaf_fits (t.Int bits signed) w leaf = tt
leaf_fits t.Binary w leaf = tt
leaf_fits t.Utf8 w leaf = tt
leaf_fits (t.FixedSizeBinary width) w leaf = tt
leaf_fits (t.Date unit) w leaf = tt
leaf_fits (t.Timestamp unit timezone) w leaf = tt
leaf_fits (t.Time unit) w leaf = tt
leaf_fits (t.Duration unit) w leaf = tt

-- null may stand where a column is nullable, and another value where it is of the type
nullable_own : (kind : DataType) (nullable : Bool) (n : ℕ) (w : Value-F Value) → FitsOwnType kind nullable n w → FitsOwnType kind true n w
nullable_own kind nullable n Value-F.Null own = inl refl
nullable_own kind nullable n (Value-F.Bool truth) own = own
nullable_own kind nullable n (Value-F.Int z) own = own
nullable_own kind nullable n (Value-F.UInt k) own = own
nullable_own kind nullable n (Value-F.Bytes bytes) own = own
nullable_own kind nullable n (Value-F.Text text) own = own
nullable_own kind nullable n (Value-F.List values) own = own
nullable_own kind nullable n (Value-F.Struct values) own = own

-- ---- the column of values of a type

abbrev pub column_parts : List ℕ → DataType → Field-F Field
column_parts name kind = record { name = name; nullable = true; kind = kind; dictionary = None; children = []; metadata = [] }

-- a value of the type fits the column
column_fits : (name : List ℕ) (kind : DataType) (nullable : Bool) (value : Value) → IsLeaf kind
    → FitsOwnType kind nullable 0 (out-Value value)
    → Fits (values_column name kind) value
column_fits name kind nullable value leaf own =
    let both : fits_step Field (λ g. g) Fits (column_parts name kind) value =
    (nullable_own kind nullable 0 (out-Value value) own, leaf_fits kind (out-Value value) leaf) in
    subst (λ (F : Value → Type 0). F value) (sym (fits_roll (column_parts name kind))) both

-- its one entry
column_entry : (name : List ℕ) (kind : DataType)
    → preorder (values_column name kind) 1 ≡ entry_of (map-Field Field Listing preorder (column_parts name kind)) 1 ∷ []
column_entry name kind = ap (λ (l : Listing). l 1) (fold-roll-Field Listing preorder_step (column_parts name kind))

-- and one layout
pub column_shape : (name : List ℕ) (kind : DataType) → shape_of (values_column name kind ∷ []) ≡ field (type_layout kind) bare bare
column_shape name kind =
    ap (λ (s : Layout × Shape). field s.0 s.1 bare) (fold-roll-Field (Layout × Shape) shape.shape_step (column_parts name kind))

-- ---- the column that is found for an id

-- what an entry that names a dictionary says of the column of the dictionary
record ReadBy (es : List Entry) (id : ℤ) (columns : List Field) : Type 0 where
  entry : Entry
  dictionary : Dictionary
  name : List ℕ
  among : IsAmong entry es
  named : entry.dictionary ≡ Some dictionary
  same : dictionary.id ≡ id
  column : columns ≡ values_column name entry.kind ∷ []

-- what holds of all columns holds of the one that is found
found_is : (P : ℤ × List Field → Type 0) (cs : Listed) (id : ℤ) (columns : List Field) → AllByRecursion P cs
    → columns_for cs id ≡ Some columns → P (id, columns)
found_is P [] id columns h found = absurd cc
found_is P (c ∷ cs) id columns h found = by (found_is P cs id columns h.1) (int_eq c.0 id) refl found
  where
    by : (columns_for cs id ≡ Some columns → P (id, columns)) → (b : Bool) → int_eq c.0 id ≡ b
        → cond b (Some c.1) (columns_for cs id) ≡ Some columns → P (id, columns)
    by rest true q at =
        let same : c.0 ≡ id = (Decides-int_eq c.0 id).0 q in
        let is : c.1 ≡ columns = cc in
        subst P (λ i. (same i, is i)) h.0
    by rest false q at = rest at

-- the column that is found is that of an entry
read_by : (fields : List Field) (id : ℤ) (columns : List Field) → columns_for (dictionary_columns fields) id ≡ Some columns
    → ReadBy (entries fields) id columns
read_by fields id columns found =
    let all = all_given (λ e. IsAmong e (entries fields)) (λ c. ReadBy (entries fields) c.0 c.1)
    (λ e d name is there. record { entry = e; dictionary = d; name = name; among = there; named = is; same = refl; column = refl })
    fields (all_among (entries fields)) in
    found_is (λ c. ReadBy (entries fields) c.0 c.1) (dictionary_columns fields) id columns all found

among_is : (P : Entry → Type 0) (es : List Entry) (e : Entry) → AllByRecursion P es → IsAmong e es → P e
among_is P [] e h there = absurd there
among_is P (x ∷ es) e h there = elim there [ inl is ↦ subst P is h.0 | inr more ↦ among_is P es e h.1 more ]

leaf_of : (limits : Limits) (e : Entry) (d : Dictionary) → IsFieldWellFormed limits e → e.dictionary ≡ Some d → IsLeaf e.kind
leaf_of limits e d rules is = rules.leaf_dictionary (subst (λ o. IsSome o) (sym is) refl)

-- ---- values fit

module _ (limits : Limits) (s : Schema) (fine : WellFormed limits s) where
  value_fits : (id : ℤ) (columns : List Field) → ReadBy (entries s.fields) id columns → (rows : List (List Value))
      → AllByRecursion (RowFits s.fields) rows
      → AllByRecursion (λ (p : ℤ × Value). p.0 ≡ id → RowFits columns (p.1 ∷ [])) (rows_pairs s.fields rows)
  value_fits id columns by rows fits =
      let known = all_two (IsFieldWellFormed limits) (λ e. IsAmong e (entries s.fields)) (entries s.fields) fine.each
      (all_among (entries s.fields)) in
      rows_shown (λ e. IsFieldWellFormed limits e × IsAmong e (entries s.fields)) (λ p. p.0 ≡ id → RowFits columns (p.1 ∷ []))
      (λ e d nullable value is q own same.
      let leaf : IsLeaf e.kind = leaf_of limits e d q.0 is in
      let one : e.kind ≡ by.entry.kind = fine.one_type e by.entry q.1 by.among d by.dictionary is by.named (same ∙ sym by.same) in
      let alone : e.children ≡ 0 = no_parts e.kind e.children leaf q.0.fitting_children in
      let own0 = subst (λ (n : ℕ). FitsOwnType e.kind nullable n (out-Value value)) alone own in
      let fit = subst (λ k. Fits (values_column by.name k) value) one (column_fits by.name e.kind nullable value leaf own0) in
      let row : RowFits (values_column by.name by.entry.kind ∷ []) (value ∷ []) = (refl, (fit, tt)) in
      subst (λ cs. RowFits cs (value ∷ [])) (sym by.column) row)
      s.fields rows known fits

-- a value of a dictionary fits the column by which the dictionary is read
pub pair_fits : (limits : Limits) (s : Schema) (rows : List (List Value)) (id : ℤ) (v : Value) (columns : List Field) → WellFormed limits s
    → AllByRecursion (RowFits s.fields) rows → Contains (rows_pairs s.fields rows) (id, v)
    → columns_for (dictionary_columns s.fields) id ≡ Some columns → RowFits columns (v ∷ [])
pair_fits limits s rows id v columns fine fits there found =
    let Good : ℤ × Value → Type 0 = λ p. p.0 ≡ id → RowFits columns (p.1 ∷ []) in
    let all = value_fits limits s fine id columns (read_by s.fields id columns found) rows fits in
    All-contains Good (rows_pairs s.fields rows) (id, v) (All-from_recursion Good (rows_pairs s.fields rows) all) there refl

-- ---- the column keeps the rules

-- a field that stands first keeps the limit of depth
first_depth : (limits : Limits) (f : Field) → AllByRecursion (IsFieldWellFormed limits) (preorder f 1) → 1 ≤ limits.depth
first_depth limits f fine =
    let z = out-Field f in
    let is : preorder f 1 ≡ preorder_step (map-Field Field Listing preorder z) 1 =
    ap (λ g. preorder g 1) (sym (roll-out-Field f)) ∙ ap (λ (l : Listing). l 1) (fold-roll-Field Listing preorder_step z) in
    (subst (AllByRecursion (IsFieldWellFormed limits)) is fine).0.shallow

some_depth : (limits : Limits) (fields : List Field) (id : ℤ) (columns : List Field) → columns_for (dictionary_columns fields) id
    ≡ Some columns
    → AllByRecursion (IsFieldWellFormed limits) (entries fields) → 1 ≤ limits.depth
some_depth limits [] id columns found fine = absurd cc
some_depth limits (f ∷ fs) id columns found fine =
    first_depth limits f (all_left (IsFieldWellFormed limits) (preorder f 1) (all_at 1 (map preorder fs)) fine)

no_children : (kind : DataType) → IsLeaf kind → HasFittingChildren kind 0
no_children t.List leaf = absurd leaf
no_children (t.FixedSizeList size) leaf = absurd leaf
no_children t.Struct leaf = absurd leaf
no_children t.Null leaf = refl
no_children t.Bool leaf = refl
no_children (t.Int bits signed) leaf = refl
no_children t.Binary leaf = refl
no_children t.Utf8 leaf = refl
no_children (t.FixedSizeBinary width) leaf = refl
no_children (t.Date unit) leaf = refl
no_children (t.Timestamp unit timezone) leaf = refl
no_children (t.Time unit) leaf = refl
no_children (t.Duration unit) leaf = refl

column_rules : (limits : Limits) (name : List ℕ) (kind : DataType) → HasGoodType kind → IsLeaf kind → 1 ≤ limits.depth
    → AllByRecursion (IsFieldWellFormed limits) (entries (values_column name kind ∷ []))
column_rules limits name kind good leaf deep =
    subst (λ es. AllByRecursion (IsFieldWellFormed limits) (es ++ [])) (sym (column_entry name kind)) (
      record { good_type = good; fitting_children = no_children kind leaf; shallow = deep; leaf_dictionary = λ some. leaf },
      tt,
    )

-- the column that a dictionary is read by is well formed
pub column_fine : (limits : Limits) (s : Schema) (id : ℤ) (columns : List Field) → WellFormed limits s
    → columns_for (dictionary_columns s.fields) id ≡ Some columns → AllByRecursion (IsFieldWellFormed limits) (entries columns)
column_fine limits s id columns fine found =
    let by = read_by s.fields id columns found in
    let rules = among_is (IsFieldWellFormed limits) (entries s.fields) by.entry fine.each by.among in
    let leaf = leaf_of limits by.entry by.dictionary rules by.named in
    subst (λ cs. AllByRecursion (IsFieldWellFormed limits) (entries cs)) (sym by.column)
    (column_rules limits by.name by.entry.kind rules.good_type leaf (some_depth limits s.fields id columns found fine.each))

-- ---- what the column is

-- it is one column of a type without inner types
pub column_leaf : (limits : Limits) (s : Schema) (id : ℤ) (columns : List Field) → WellFormed limits s
    → columns_for (dictionary_columns s.fields) id ≡ Some columns
    → (name : List ℕ) × ((kind : DataType) × ((columns ≡ values_column name kind ∷ []) × (IsLeaf kind
    × (shape_of columns ≡ field (type_layout kind) bare bare))))
column_leaf limits s id columns fine found =
    let by = read_by s.fields id columns found in
    let rules = among_is (IsFieldWellFormed limits) (entries s.fields) by.entry fine.each by.among in (
      by.name,
      (
        by.entry.kind,
        (
          by.column,
          (leaf_of limits by.entry by.dictionary rules by.named, ap shape_of by.column ∙ column_shape by.name by.entry.kind),
        ),
      ),
    )

pub column_names : (name : List ℕ) (kind : DataType) → of_fields (values_column name kind ∷ []) ≡ []
column_names name kind =
    ap (λ (ds : List Dictionary). ds ++ []) (fold-roll-Field (List Dictionary) field_step (column_parts name kind))
