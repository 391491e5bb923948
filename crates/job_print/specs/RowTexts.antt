-- The text before a value of a row or a struct (RFC 8259), by the row's shape.
use Rattle.std.specs.Prelude.{ℕ, List, []}
use Rattle.json.specs.Print.{token_text}
use Rattle.json.specs.Token.{Token}
use Rattle.ipc_text_json.specs.declared.row.RowShape.{RowShape}
use Rattle.ipc_text_json.specs.declared.row.RowShape.TheVariants.{Array, Object}

-- in an object, the name of the value's field and a colon
abbrev pub name_text : RowShape → List ℕ → List ℕ
name_text Array name = []
name_text Object name = token_text (Token.key name)
