-- The field of a refused schema that has the fault (Schema.fbs, tables Schema and Field).
use Rattle.std.specs.Prelude.{◌≡◌, ◌⊎◌, ℕ, zero, suc, ◌+◌, ◌*◌, ◌<◌, ◌==◌, List, [], ◌∷◌, ◌++◌}
use Rattle.std.specs.Prelude.{codes, Result, Ok, Err, if◌then◌else◌, ⊤}
use Rattle.std.specs.Fmt.{decimal}
use Rattle.serde_json.specs.Data.{string}
use Rattle.serde_json.specs.Written.{compact_text}
use Rattle.ipc_flat.specs.Faulty.{◌>>=◌}
use Rattle.ipc_flat.specs.Views.{TableView, Elements, table_from}
use Rattle.ipc_model.specs.Numbering.{fault_number}
use Rattle.ipc_model.specs.Refusals.{reader_fault}
use Rattle.ipc_model.specs.SchemaFaults.{verdict_on}
use Rattle.ipc_model.specs.declared.check.SchemaFault.{SchemaFault}
use Rattle.ipc_model.specs.declared.fault.Fault.{Fault}
use Rattle.ipc_model.specs.declared.limits.Limits.{Limits}
use Rattle.ipc_meta.specs.Reached.{Element, Header}
use Rattle.ipc_meta.specs.Reading.{only_field}
use Rattle.ipc_meta.specs.Tables.{text_at, vector_at, code_at}
use Rattle.job_explain.specs.TypeTables.{type_table_words}

-- the reader's refusal for a fault of a schema, if there is one
abbrev pub refusal_of : Result ⊤ SchemaFault → Result ⊤ Fault
refusal_of (Ok fine) = Ok fine
refusal_of (Err fault) = Err (reader_fault fault)

-- the fault for which a schema with this Field table alone is refused, if there is one: the table
-- states no field, or the schema breaks a rule (`Schema::check`)
unfoldable pub field_alone : Limits → TableView → Result ⊤ Fault
field_alone limits t = only_field limits t
    >>= λ f. refusal_of (verdict_on limits (record { fields = f ∷ []; metadata = [] }))

-- the refusal has the number of this fault
abbrev pub RefusedAs : Fault → Result ⊤ Fault → Type 0
RefusedAs fault (Ok fine) = ⊥
RefusedAs fault (Err other) = fault_number other ≡ fault_number fault

-- u is the table in place i of the vector in field k of t, and the first that alone is refused
-- for this fault
pub record FirstWith (limits : Limits) (fault : Fault) (t : TableView) (k i : ℕ) (u : TableView)
    : Type 0 where
  pub list : Elements
  pub listed : vector_at t k ≡ Ok list
  pub inside : i < list.len
  pub stands : table_from list.bytes (list.at + i * 4) ≡ Ok u
  pub refused : RefusedAs fault (field_alone limits u)
  pub first : (j : ℕ) (v : TableView) → j < i → table_from list.bytes (list.at + j * 4) ≡ Ok v
      → RefusedAs fault (field_alone limits v) → ⊥

-- no table of the vector in field k of t is alone refused for this fault
abbrev pub NoneWith : Limits → Fault → TableView → ℕ → Type 0
NoneWith limits fault t k =
    (u : TableView) → Element t k u → RefusedAs fault (field_alone limits u) → ⊥

-- the name of a field in the quotes of JSON (RFC 8259), after a space; nothing for one that is not
-- UTF-8
abbrev pub name_words : Result (List ℕ) Fault → List ℕ
name_words (Ok name) = codes " " ++ compact_text (string name)
name_words (Err fault) = []

-- the name of the type with this code (Schema.fbs, union Type)
abbrev pub type_name : ℕ → List ℕ
type_name code =
    if code == 1 then codes "Null"
    else (if code == 2 then codes "Int"
    else (if code == 3 then codes "FloatingPoint"
    else (if code == 4 then codes "Binary"
    else (if code == 5 then codes "Utf8"
    else (if code == 6 then codes "Bool"
    else (if code == 7 then codes "Decimal"
    else (if code == 8 then codes "Date"
    else (if code == 9 then codes "Time"
    else (if code == 10 then codes "Timestamp"
    else (if code == 11 then codes "Interval"
    else (if code == 12 then codes "List"
    else (if code == 13 then codes "Struct_"
    else (if code == 14 then codes "Union"
    else (if code == 15 then codes "FixedSizeBinary"
    else (if code == 16 then codes "FixedSizeList"
    else (if code == 17 then codes "Map"
    else (if code == 18 then codes "Duration"
    else (if code == 19 then codes "LargeBinary"
    else (if code == 20 then codes "LargeUtf8"
    else (if code == 21 then codes "LargeList"
    else (if code == 22 then codes "RunEndEncoded"
    else (if code == 23 then codes "BinaryView"
    else (if code == 24 then codes "Utf8View"
    else (if code == 25 then codes "ListView"
    else (if code == 26 then codes "LargeListView"
    else codes "unknown")))))))))))))))))))))))))

-- the words for the type of a field, by its code in union Type; none if the code is ill-formed
abbrev pub type_words : Result ℕ Fault → List ℕ
type_words (Ok code) =
    codes ": type " ++ type_name code ++ codes " (code " ++ decimal code ++ codes ")"
type_words (Err fault) = []

-- the words for the width, size or unit that no type has; none for another fault than F14
abbrev pub cause_words : Fault → TableView → List ℕ
cause_words fault t =
    if fault_number fault == 14 then type_table_words (code_at t) t else []

-- the words for the type of the field that has the fault
abbrev pub end_words : Fault → TableView → List ℕ
end_words fault t = type_words (code_at t) ++ cause_words fault t ++ codes "\n"

-- the words that end with the type of the field that has the fault, after those for the Field table
-- t: it is the first child that alone has the fault, and so on, at most `depth` levels below t
abbrev pub NamesBelow : Limits → Fault → ℕ → TableView → List ℕ → Type 0
NamesBelow limits fault zero t out = out ≡ end_words fault t
NamesBelow limits fault (suc depth) t out =
    (NoneWith limits fault t 5 × (out ≡ end_words fault t))
    ⊎ ((i : ℕ) × (u : TableView) × (below : List ℕ) × FirstWith limits fault t 5 i u
    × NamesBelow limits fault depth u below
    × (out ≡ codes ", child " ++ decimal i ++ name_words (text_at u 0) ++ below))

-- t is the Schema table of the metadata
abbrev pub IsSchemaTable : List ℕ → TableView → Type 0
IsSchemaTable metadata t =
    (root : TableView) × (table_from metadata 0 ≡ Ok root) × Header root 1 t

-- the line for the field of this metadata that has the fault: the first column that alone has it,
-- and its first child that alone has it, and so on; nothing if no column alone has it
abbrev pub NamesField : Limits → List ℕ → Fault → List ℕ → Type 0
NamesField limits metadata fault out =
    (((t : TableView) → IsSchemaTable metadata t → NoneWith limits fault t 1) × (out ≡ []))
    ⊎ ((t : TableView) × (i : ℕ) × (u : TableView) × (below : List ℕ) × IsSchemaTable metadata t
    × FirstWith limits fault t 1 i u × NamesBelow limits fault limits.depth u below
    × (out ≡ codes "column " ++ decimal i ++ name_words (text_at u 0) ++ below))
