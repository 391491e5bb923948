-- The totals of the tables of a schema (Schema.fbs, tables Schema, Field and KeyValue). A table to
-- which several offsets point is counted once for each; what is absent or cannot be read counts as
-- 0.
use Rattle.std.specs.Prelude.{ℕ, zero, suc, ◌+◌, ◌==◌, List, length, Result, Ok, Err}
use Rattle.std.specs.Prelude.{Option, None, Some, if◌then◌else◌}
use Rattle.ipc_flat.specs.Views.{TableView, table_from, field}
use Rattle.ipc_meta.specs.Tables.{text_at, vector_at, code_at}
use Rattle.ipc_model.specs.declared.limits.Limits.{Limits}

-- w applied to the value, or 0 if there is a fault
abbrev pub or_zero : {X E : Type 0} → (X → ℕ) → Result X E → ℕ
or_zero w (Ok x) = w x
or_zero w (Err e) = 0

-- the sum of w over the n tables to which the offsets from p on point
unfoldable pub sum_tables : (TableView → ℕ) → List ℕ → ℕ → ℕ → ℕ
sum_tables w b p zero = 0
sum_tables w b p (suc n) = or_zero w (table_from b p) + sum_tables w b (p + 4) n

-- how many tables the vector in field k of t has
abbrev pub count_in : TableView → ℕ → ℕ
count_in t k = or_zero (λ es. es.len) (vector_at t k)

-- the sum of w over the tables of the vector in field k of t
abbrev pub sum_in : (TableView → ℕ) → TableView → ℕ → ℕ
sum_in w t k = or_zero (λ es. sum_tables w es.bytes es.at es.len) (vector_at t k)

-- how many bytes the text in field k has
abbrev pub text_len_at : TableView → ℕ → ℕ
text_len_at t k = or_zero length (text_at t k)

-- how many bytes a KeyValue table's key and value have
abbrev pub pair_text_in : TableView → ℕ
pair_text_in t = text_len_at t 0 + text_len_at t 1

-- the number of the field of a Schema table that holds its fields (Schema.fbs, table Schema)
abbrev pub schema_fields : ℕ
schema_fields = 1

-- the number of the field of a Schema table that holds its pairs
abbrev pub schema_pairs : ℕ
schema_pairs = 2

-- the number of the field of a Message table that holds its pairs (Message.fbs, table Message)
abbrev pub message_pairs : ℕ
message_pairs = 4

-- the number of the field of a Field table that holds its children (Schema.fbs, table Field)
abbrev pub field_children : ℕ
field_children = 5

-- the number of the field of a Field table that holds its pairs
abbrev pub field_pairs : ℕ
field_pairs = 6

-- how many bytes a timezone has (Schema.fbs, table Timestamp, 1 timezone)
abbrev pub timezone_in : Option TableView → ℕ
timezone_in None = 0
timezone_in (Some v) = text_len_at v 1

-- how many bytes the timezone of a Field table's type has: 0 but for a Timestamp, whose code is 10
-- (Schema.fbs, table Field: 2 the type's code, 3 its table)
abbrev pub timezone_len_at : TableView → ℕ
timezone_len_at t = or_zero (λ code. if code == 10 then or_zero timezone_in (field t 3 table_from)
    else 0) (code_at t)

-- how many bytes a Field table's own name, timezone, keys and values have
abbrev pub own_text : TableView → ℕ
own_text t = text_len_at t 0 + timezone_len_at t + sum_in pair_text_in t field_pairs

-- the sum of w over a Field table and those below it, at most `depth` levels
unfoldable pub tree_sum : (TableView → ℕ) → ℕ → TableView → ℕ
tree_sum w zero t = 0
tree_sum w (suc depth) t = w t + sum_in (tree_sum w depth) t field_children

-- the sum of w over the Field tables of a Schema table, down to the greatest depth that the limits
-- allow
abbrev pub sum_over_fields : Limits → (TableView → ℕ) → TableView → ℕ
sum_over_fields limits w t = sum_in (tree_sum w limits.depth) t schema_fields

-- how many fields a Schema table has, descendants included, down to one level below the greatest
-- depth
abbrev pub total_fields : Limits → TableView → ℕ
total_fields limits t = count_in t schema_fields + sum_over_fields limits (λ u. count_in u
    field_children) t

-- how many bytes the names, timezones, keys and values of a Schema table and of its fields have
abbrev pub total_text : Limits → TableView → ℕ
total_text limits t = sum_in pair_text_in t schema_pairs + sum_over_fields limits own_text t

-- how many pairs of key and value a Schema table and its fields have
abbrev pub total_pairs : Limits → TableView → ℕ
total_pairs limits t = count_in t schema_pairs + sum_over_fields limits
    (λ u. count_in u field_pairs) t
