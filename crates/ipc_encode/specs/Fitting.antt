-- Whether values fit fields that may be absent (Schema.fbs, union Type and table Field).
use Rattle.std.specs.Prelude.{List, [], ◌∷◌, length, Option, None, Some, ⊤}
use Rattle.std.specs.List.{AllByRecursion}
use Rattle.ipc_model.specs.Fits.{EachFits, Fits, FitsOwnType}
use Rattle.ipc_model.specs.declared.schema.Field.{Field, out-Field}
use Rattle.ipc_model.specs.declared.value.Value.{Value, out-Value}
use Rattle.ipc_model.specs.declared.value.Value.TheOpen.{Value-F}

-- a value fits the field, apart from the values inside it; no value fits an absent field
abbrev pub FitsOwn : Option Field → Value → Type 0
FitsOwn None value = ⊥
FitsOwn (Some f) value = FitsOwnType (out-Field f).kind (out-Field f).nullable
    (length (out-Field f).children)
    (out-Value value)

-- a value fits the field; no value fits an absent field
abbrev pub FitsSome : Option Field → Value → Type 0
FitsSome None value = ⊥
FitsSome (Some f) value = Fits f value

-- the items of a list fit the first of these fields, if there is one
abbrev pub ItemsFit : List Field → List Value → Type 0
ItemsFit [] items = ⊤
ItemsFit (f ∷ fs) items = AllByRecursion (Fits f) items

-- what is inside a list or a struct fits the fields of the children; other values have nothing
-- inside
abbrev pub IsInsideFit : List Field → Value-F Value → Type 0
IsInsideFit fields (Value-F.List items) = ItemsFit fields items
IsInsideFit fields (Value-F.Struct parts) = EachFits Fits fields parts
IsInsideFit fields _ = ⊤

-- the values inside a value fit the fields of the children (`IsInsideFit`)
abbrev pub InsideFits : List Field → Value → Type 0
InsideFits fields value = IsInsideFit fields (out-Value value)
