-- The value of a record batch in contracts (Arrow Columnar Format, "RecordBatch message").
use Rattle.std.specs.Prelude.{ℕ, List, map}
use Rattle.ipc_model.specs.declared.layout.Layout.{Layout}
use Rattle.ipc_model.specs.declared.value.Value.{Value}
use Rattle.ipc_column.specs.Nested.{Nested}

-- a batch's rows, the number of its columns, each column with its buffers and its children, the
-- bytes of the body, and their number; `tests` is how many slots were visited to validate it
pub record Contents : Type 0 where
  pub rows : List (List Value)
  pub columns : ℕ
  pub slots : List Nested
  pub body : List ℕ
  pub body_len : ℕ
  pub tests : ℕ

-- the layout of each column
abbrev pub layouts : Contents → List Layout
layouts b = map (λ n. n.column.layout) b.slots
