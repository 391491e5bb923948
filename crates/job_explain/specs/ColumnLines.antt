-- The line for a column of a refused record batch.
use Rattle.std.specs.Prelude.{◌≡◌, ◌⊎◌, ℕ, ℤ, pos, int_lt, List, [], ◌∷◌, ◌++◌, codes, length}
use Rattle.std.specs.Prelude.{slice_get, Some, if◌then◌else◌}
use Rattle.std.specs.List.{list_any}
use Rattle.std.specs.Fmt.{decimal, signed_decimal}
use Rattle.serde_json.specs.Data.{string}
use Rattle.serde_json.specs.Written.{compact_text}
use Rattle.ipc_model.specs.declared.fault.Fault.{Fault}
use Rattle.ipc_model.specs.declared.limits.Limits.{Limits}
use Rattle.ipc_model.specs.declared.schema.DataType.{DataType}
use Rattle.ipc_model.specs.declared.schema.Field.{Field, out-Field}
use Rattle.ipc_meta.specs.declared.head.BatchHead.{BatchHead}
use Rattle.ipc_column.specs.Dictionaries.{Dictionaries}
use Rattle.ipc_text_json.specs.SchemaJson.{type_json}
use Rattle.job_explain.specs.ColumnsAlone.{FirstAlone, NoneAlone, column_head}
use Rattle.job_explain.specs.MessageLines.{limit_words}

-- the name of a field in the quotes of JSON (RFC 8259)
abbrev pub name_words : Field → List ℕ
name_words f = compact_text (string (out-Field f).name)

-- the words for a type, as in the schema's JSON
abbrev pub type_words : DataType → List ℕ
type_words kind = codes " of type " ++ compact_text (type_json kind)

-- the name and the type of a field
abbrev pub field_words : Field → List ℕ
field_words f = name_words f ++ type_words (out-Field f).kind

-- two numbers, each after its words
abbrev pub pair_words : List ℕ → List ℕ → ℤ × ℤ → List ℕ
pair_words first second pair = first ++ signed_decimal pair.0 ++ second ++ signed_decimal pair.1

-- pairs of numbers, one after another
abbrev pub pairs_words : List ℕ → List ℕ → List (ℤ × ℤ) → List ℕ
pairs_words first second [] = []
pairs_words first second (p ∷ ps) = pair_words first second p ++ pairs_words first second ps

-- the words for nodes (Message.fbs, struct FieldNode)
abbrev pub nodes_words : List (ℤ × ℤ) → List ℕ
nodes_words = pairs_words (codes ", node of length ") (codes " and null count ")

-- the words for buffers (Schema.fbs, struct Buffer)
abbrev pub buffers_words : List (ℤ × ℤ) → List ℕ
buffers_words = pairs_words (codes ", buffer of offset ") (codes " and length ")

-- the words for the number, the name and the type of a column
abbrev pub title_words : ℕ → Field → List ℕ
title_words number f = codes "column " ++ decimal number ++ codes " " ++ field_words f

-- the words for the length of a batch and that of its body
abbrev pub lengths_words : ℤ → ℕ → List ℕ
lengths_words rows size = codes ": batch of length " ++ signed_decimal rows
    ++ codes ", body of length " ++ decimal size

-- the words for the limit of slots, if a node is longer
abbrev pub slots_words : ℕ → List (ℤ × ℤ) → List ℕ
slots_words limit nodes = if list_any (λ node. int_lt (pos limit) node.0) nodes
    then limit_words (codes "; --max-rows") limit else []

-- the line for the column with this number and field, in a batch of this length and with a body of
-- this size, with its nodes and buffers, and with the limit of slots if a node is longer
abbrev pub column_line : ℕ → ℕ → Field → ℤ → ℕ → List (ℤ × ℤ) → List (ℤ × ℤ) → List ℕ
column_line limit number f rows size nodes buffers = title_words number f
    ++ lengths_words rows size ++ nodes_words nodes ++ buffers_words buffers
    ++ slots_words limit nodes ++ codes "\n"

-- the line for a batch that is longer than the limit
abbrev pub rows_line : ℤ → ℕ → List ℕ
rows_line rows limit = codes "batch of length " ++ signed_decimal rows
    ++ codes "; --max-rows is " ++ decimal limit ++ codes "\n"

-- the line for a batch that has another number of nodes or buffers than its fields
abbrev pub count_line : List ℕ → ℕ → ℕ → List ℕ
count_line words has needs = codes "the number of " ++ words ++ codes " is " ++ decimal has
    ++ codes ", and the fields need " ++ decimal needs ++ codes "\n"

-- the line for the first column that alone has the fault, after these words; nothing if no column
-- alone has it
abbrev pub NamesColumn : Limits → Fault → Dictionaries → List Field → BatchHead → List ℕ → List ℕ
    → List ℕ → Type 0
NamesColumn limits fault m fields head body front out =
    (NoneAlone limits fault m fields head body × (out ≡ []))
    ⊎ ((i : ℕ) × (f : Field) × FirstAlone limits fault m fields head body i
    × (slice_get fields i ≡ Some f)
    × (out ≡ front ++ column_line limits.slots i f head.length (length body)
    (column_head fields head i).nodes (column_head fields head i).buffers))
