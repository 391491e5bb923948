-- Columns as byte lists (Arrow Columnar Format, "Physical Memory Layout").
use Rattle.std.specs.Prelude.{ℕ, ◌+◌, Bool, ◌&&◌, true, List, [], ◌∷◌, length, nat_le, slice_range}
use Rattle.std.specs.Prelude.{if◌then◌else◌, ⊤}
use Rattle.ipc_model.specs.declared.layout.Layout.{Layout}
use Rattle.ipc_model.specs.declared.value.Value.{Value}

-- a field's node (Message.fbs, FieldNode) and the bytes of its buffers; if its slots are indices,
-- also the values of its dictionary that are in force, or none
pub record Column : Type 0 where
  pub layout : Layout
  pub slots : ℕ
  pub nulls : ℕ
  pub validity : List ℕ
  pub offsets : List ℕ
  pub values : List ℕ
  pub dictionary : List Value

-- adjacent columns: a column, its children, and the columns after it
pub data Columns : Type 0 where
  none : Columns
  column : Column → Columns → Columns → Columns

-- P holds for each column with the columns of its children, at every level
abbrev pub Each : (Column → Columns → Type 0) → Columns → Type 0
Each P none = ⊤
Each P (column c children rest) = P c children × (Each P children × Each P rest)

-- P holds for each column, without the children
abbrev pub EachTop : (Column → Type 0) → Columns → Type 0
EachTop P none = ⊤
EachTop P (column c children rest) = P c × EachTop P rest

-- the test holds for each column with the columns of its children, at every level
abbrev pub every : (Column → Columns → Bool) → Columns → Bool
every test none = true
every test (column c children rest) =
    test c children && (every test children && every test rest)

-- the test holds for each column, without the children
abbrev pub every_top : (Column → Bool) → Columns → Bool
every_top test none = true
every_top test (column c children rest) = test c && every_top test rest

-- the columns of a list, each with its children
abbrev pub forest : List (Column × Columns) → Columns
forest [] = none
forest (c ∷ cs) = column c.0 c.1 (forest cs)

-- the `len` bytes of the body from place `start` on. An impossible range, which passes the end, has
-- no bytes; no batch has one, unless it is empty (`HasRanges`)
unfoldable pub body_range : List ℕ → ℕ → ℕ → List ℕ
body_range body start len = if nat_le (start + len) (length body) then slice_range body start
    (start + len) else []
