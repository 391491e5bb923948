-- The members of a field that is made of its name and type alone (Schema.fbs, table Field).
use Rattle.std.specs.Prelude.{ℕ, false, List, [], None}
use Rattle.ipc_model.specs.declared.schema.DataType.{DataType}
use Rattle.ipc_model.specs.declared.schema.Field.{Field}
use Rattle.ipc_model.specs.declared.schema.Field.TheOpen.{Field-F}

-- a required field of this name and type, without a dictionary, children and pairs (Schema.fbs,
-- table Field)
abbrev pub plain_field : List ℕ → DataType → Field-F Field
plain_field name kind = record {
  name = name;
  nullable = false;
  kind = kind;
  dictionary = None;
  children = [];
  metadata = [];
}
