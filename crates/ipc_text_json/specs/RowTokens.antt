-- The tokens around the values of a row (RFC 8259), by its shape.
use Rattle.std.specs.Prelude.{ℕ, List, [], ◌∷◌}
use Rattle.json.specs.Token.{Token}
use Rattle.ipc_text_json.specs.declared.row.RowShape.{RowShape}
use Rattle.ipc_text_json.specs.declared.row.RowShape.TheVariants.{Array, Object}

-- the opening bracket
abbrev pub opening : RowShape → Token
opening Array = Token.begin_array
opening Object = Token.begin_object

-- the closing bracket
abbrev pub closing : RowShape → Token
closing Array = Token.end_array
closing Object = Token.end_object

-- what precedes a value of a field with this name: the name, in an object
abbrev pub name_tokens : RowShape → List ℕ → List Token
name_tokens Array name = []
name_tokens Object name = Token.key name ∷ []
