-- The cells of a row that has not ended (Arrow Columnar Format, "Nested Layouts").
use Rattle.std.specs.Prelude.{◌≡◌, ◌++◌, List, [], ◌∷◌, Option, Some, None}
use Rattle.ipc_model.specs.declared.value.Value.{Value}
use Rattle.ipc_model.specs.declared.value.Value.TheVariants as value
use Rattle.ipc_stream_session.specs.declared.cells.Nesting.{Nesting}
use Rattle.ipc_stream_session.specs.declared.cells.Nesting.TheVariants as nesting

-- the list or struct of these cells
abbrev pub nested_cell : Nesting → List Value → Value
nested_cell nesting.List cells = value.List cells
nested_cell nesting.Struct cells = value.Struct cells

-- the last element leaves a list, if there is one
abbrev pub IsPopped : {T : Type 0} → List T → Option T → List T → Type 0
IsPopped old None new = (old ≡ []) × (new ≡ [])
IsPopped old (Some last) new = old ≡ new ++ last ∷ []
