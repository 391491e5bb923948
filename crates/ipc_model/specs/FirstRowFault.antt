-- The first fault of a row: the first of its values, in pre-order, that breaks a rule of its own
-- (Schema.fbs, union Type and table Field).
use Rattle.std.specs.Prelude.{◌≡◌, ℕ, ◌+◌, ◌<◌, List, [], ◌∷◌, ◌++◌, map, length, slice_get}
use Rattle.std.specs.Prelude.{Bool, true, false, IsTrue, Some, ◌⊎◌, ⊤, ◌↔◌, Err}
use Rattle.ipc_model.specs.Fits.{IsOfKind}
use Rattle.ipc_model.specs.RowFaults.{row_faults, verdict}
use Rattle.ipc_model.specs.declared.rows.RowCause.{RowCause}
use Rattle.ipc_model.specs.declared.rows.RowCause.TheVariants as c
use Rattle.ipc_model.specs.declared.rows.RowFault.{RowFault}
use Rattle.ipc_model.specs.declared.schema.DataType.{DataType}
use Rattle.ipc_model.specs.declared.schema.DataType.TheVariants as t
use Rattle.ipc_model.specs.declared.schema.Field.{Field, fold-Field}
use Rattle.ipc_model.specs.declared.schema.Field.TheOpen.{Field-F}
use Rattle.ipc_model.specs.declared.value.Value.{Value, out-Value}
use Rattle.ipc_model.specs.declared.value.Value.TheOpen.{Value-F}

-- a value of a row: the path to it, its field's type, whether that field is nullable and how many
-- children it has, and the value
pub record Place : Type 0 where
  pub path : List ℕ
  pub kind : DataType
  pub nullable : Bool
  pub children : ℕ
  pub value : Value-F Value

-- ---- the values of a row in pre-order

-- the places of a value and of all values inside it, each with its path from the field on
abbrev pub Placing : Type 0
Placing = Value → List Place

-- a place with one more number at the front of its path, as seen from the parent field
abbrev pub inside : ℕ → Place → Place
inside number p = record {
  path = number ∷ p.path;
  kind = p.kind;
  nullable = p.nullable;
  children = p.children;
  value = p.value;
}

-- the places of a list's values in its field's one child, whose number is 0
abbrev pub items_places : Placing → List Value → List Place
items_places place [] = []
items_places place (v ∷ vs) = map (inside 0) (place v) ++ items_places place vs

-- the places of values, each in the field at its index; the fields are numbered from `number` on
abbrev pub each_places : ℕ → List Placing → List Value → List Place
each_places number [] vs = []
each_places number (place ∷ more) [] = []
each_places number (place ∷ more) (v ∷ vs) =
    map (inside number) (place v) ++ each_places (number + 1) more vs

-- the places of the values inside a list or a struct; no other value has values inside it
abbrev pub inner_places : DataType → List Placing → Value-F Value → List Place
inner_places t.List (place ∷ more) (Value-F.List vs) = items_places place vs
inner_places (t.FixedSizeList n) (place ∷ more) (Value-F.List vs) = items_places place vs
inner_places t.Struct places (Value-F.Struct vs) = each_places 0 places vs
inner_places _ _ _ = []

-- a value's own place, and then those of the values inside it
abbrev pub placing_step : Field-F Placing → Placing
placing_step f v = record {
  path = [];
  kind = f.kind;
  nullable = f.nullable;
  children = length f.children;
  value = out-Value v;
} ∷ inner_places f.kind f.children (out-Value v)

-- the places of a value in a field, in pre-order
abbrev pub places : Field → Placing
places = fold-Field Placing placing_step

-- the places of a row's values in its columns, in pre-order
abbrev pub row_places : List Field → List Value → List Place
row_places fields row = each_places 0 (map places fields) row

-- ---- the rules of one value

-- the variant of `Value` that a type's values have; type Null has none
abbrev pub IsOfVariant : DataType → Value-F Value → Type 0
IsOfVariant t.Bool (Value-F.Bool b) = ⊤
IsOfVariant (t.Int bits true) (Value-F.Int z) = ⊤
IsOfVariant (t.Int bits false) (Value-F.UInt n) = ⊤
IsOfVariant t.Binary (Value-F.Bytes b) = ⊤
IsOfVariant t.Utf8 (Value-F.Text s) = ⊤
IsOfVariant (t.FixedSizeBinary n) (Value-F.Bytes b) = ⊤
IsOfVariant (t.Date unit) (Value-F.Int z) = ⊤
IsOfVariant (t.Timestamp unit timezone) (Value-F.Int z) = ⊤
IsOfVariant (t.Time unit) (Value-F.Int z) = ⊤
IsOfVariant (t.Duration unit) (Value-F.Int z) = ⊤
IsOfVariant t.List (Value-F.List vs) = ⊤
IsOfVariant (t.FixedSizeList n) (Value-F.List vs) = ⊤
IsOfVariant t.Struct (Value-F.Struct vs) = ⊤
IsOfVariant _ _ = ⊥

-- the value is of the right variant, but not one of its type's: another number or length than the
-- type allows
abbrev pub IsOffRange : Place → Type 0
IsOffRange p = IsOfVariant p.kind p.value × ¬ IsOfKind p.kind p.children p.value

-- the value breaks the rule that the cause names, whatever the values inside it
abbrev pub IsMisfit : Place → RowCause → Type 0
IsMisfit p c.NullNotAllowed =
    (p.value ≡ Value-F.Null) × ¬ (IsTrue p.nullable ⊎ (p.kind ≡ t.Null))
IsMisfit p c.WrongKind = ¬ (p.value ≡ Value-F.Null) × ¬ IsOfVariant p.kind p.value
IsMisfit p c.RowWidth = (p.kind ≡ t.Struct) × IsOffRange p
IsMisfit p c.OutOfRange = ¬ (p.kind ≡ t.Struct) × IsOffRange p

-- ---- the first fault

-- the place at index k breaks the rule of the fault's cause, and the fault has its path
abbrev pub IsMisfitAt : List Place → ℕ → RowFault → Type 0
IsMisfitAt ps k fault = (p : Place)
    × ((slice_get ps k ≡ Some p) × ((p.path ≡ fault.path) × IsMisfit p fault.cause))

-- the place at index k has this fault, and no place before it has any
pub record IsFirstMisfit (ps : List Place) (k : ℕ) (fault : RowFault) : Type 0 where
  pub broken : IsMisfitAt ps k fault
  pub none_before : (j : ℕ) → j < k → (other : RowFault) → ¬ IsMisfitAt ps j other

-- the first fault of a row: of the row itself, which has another number of values than there are
-- columns, or of one of its values
abbrev pub IsFirstRowFault : List Field → List Value → RowFault → Type 0
IsFirstRowFault fields row fault =
    (¬ (length row ≡ length fields) × (fault ≡ record { cause = c.RowWidth; path = [] }))
    ⊎ ((length row ≡ length fields) × ((k : ℕ) × IsFirstMisfit (row_places fields row) k fault))

-- the first fault in the list of all faults of a row is its first fault
abbrev pub FirstOfRowFaults : Type 0
FirstOfRowFaults = (fields : List Field) (row : List Value) (fault : RowFault)
    → (verdict (row_faults fields row) ≡ Err fault) ↔ IsFirstRowFault fields row fault
