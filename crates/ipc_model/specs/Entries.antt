-- A schema as a list: one entry for each field, a field before its children (Arrow Columnar
-- Format, "RecordBatch message": the pre-order of a schema's fields).
use Rattle.std.specs.Prelude.{ℕ, ◌+◌, ◌≤◌, List, [], ◌∷◌, ◌++◌, map, length, Option, Some, None}
use Rattle.ipc_model.specs.declared.limits.Limits.{Limits}
use Rattle.ipc_model.specs.declared.schema.DataType.{DataType}
use Rattle.ipc_model.specs.declared.schema.DataType.TheVariants as t
use Rattle.ipc_model.specs.declared.schema.Dictionary.{Dictionary}
use Rattle.ipc_model.specs.declared.schema.Field.{Field, fold-Field}
use Rattle.ipc_model.specs.declared.schema.Field.TheOpen.{Field-F}

-- what the rules ask of a field: its depth (a column has depth 1), its type and dictionary, and how
-- many children, bytes of text and pairs of metadata it has
pub record Entry : Type 0 where
  pub depth : ℕ
  pub kind : DataType
  pub children : ℕ
  pub dictionary : Option Dictionary
  pub text : ℕ
  pub pairs : ℕ

-- ---- the entries

-- how many bytes the keys and values of these pairs have (Schema.fbs, table KeyValue)
abbrev pub pair_text : List (List ℕ × List ℕ) → ℕ
pair_text [] = 0
pair_text (p ∷ ps) = length p.0 + length p.1 + pair_text ps

-- the limits allow one batch to have these pairs of key and value
pub record AllowPairs (limits : Limits) (pairs : List (List ℕ × List ℕ)) : Type 0 where
  pub little_text : pair_text pairs ≤ limits.text
  pub few_pairs : length pairs ≤ limits.pairs

-- how many bytes the type's own text has: a timestamp's timezone
abbrev pub kind_text : DataType → ℕ
kind_text (t.Timestamp unit (Some timezone)) = length timezone
kind_text (t.Timestamp unit None) = 0
kind_text (t.Time unit) = 0
kind_text (t.Duration unit) = 0
kind_text t.Null = 0
kind_text t.Bool = 0
kind_text (t.Int bits signed) = 0
kind_text t.Binary = 0
kind_text t.Utf8 = 0
kind_text (t.FixedSizeBinary n) = 0
kind_text (t.Date unit) = 0
kind_text t.List = 0
kind_text (t.FixedSizeList n) = 0
kind_text t.Struct = 0

-- the entry of a field at this depth
abbrev pub entry_of : {A : Type 0} → Field-F A → ℕ → Entry
entry_of f d = record {
  depth = d;
  kind = f.kind;
  children = length f.children;
  dictionary = f.dictionary;
  text =
      length f.name + kind_text f.kind + pair_text f.metadata;
  pairs = length f.metadata;
}

-- the entries of a field and all below it, given the field's depth
abbrev pub Listing : Type 0
Listing = ℕ → List Entry

-- the entries of several fields at one depth, one field after another
abbrev pub all_at : ℕ → List Listing → List Entry
all_at d [] = []
all_at d (l ∷ ls) = l d ++ all_at d ls

-- a field's own entry, then those of its children, one level deeper
abbrev pub preorder_step : Field-F Listing → Listing
preorder_step f d = entry_of f d ∷ all_at (d + 1) f.children

-- the entries of a field and of all below it, in pre-order (Arrow Columnar Format, "Recordbatch
-- message")
abbrev pub preorder : Field → Listing
preorder = fold-Field Listing preorder_step

-- the entries of a schema's columns and of all below them, in pre-order
abbrev pub entries : List Field → List Entry
entries fields = all_at 1 (map preorder fields)
