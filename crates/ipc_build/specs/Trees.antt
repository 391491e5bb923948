-- Trees of tables as values, without how the program stores them (FlatBuffers binary format,
-- "Tables").
use Rattle.std.specs.Prelude.{ℕ, ℤ, if◌then◌else◌, List, [], ◌∷◌}
use Rattle.std.specs.Int.{Width, w16, w32, w64}
use Rattle.ipc_build.specs.declared.tree.FlatTree.{FlatTree, fold-FlatTree}
use Rattle.ipc_build.specs.declared.tree.Slot.{Slot, fold-Slot}
use Rattle.ipc_build.specs.declared.tree.Slot.TheOpen.{Slot-F, FlatTree-F}

-- FlatBuffers binary format, "Tables", "Strings and Vectors": what a field holds. A scalar is a
-- byte, or a signed number of some width; `pairs` is a vector of structs of two signed 64-bit
-- numbers. What a table or a vector of tables contains is kept in `Tree`
pub data Content : Type 0 where
  byte : ℕ → Content
  signed : Width → ℤ → Content
  string : List ℕ → Content
  pairs : List (ℤ × ℤ) → Content
  table : Content
  tables : Content

-- the fields of a table in order: for each its number, its content, the tree below it, and the
-- fields after it. The elements of a vector of tables are such a list too, each a field with number
-- 0 and content `table`, because the code writes both by the same walk
pub data Tree : Type 0 where
  none : Tree
  field : ℕ → Content → Tree → Tree → Tree

-- what a field holds, and the tree below it
abbrev pub Node : Type 0
Node = Content × Tree

-- fields by their numbers, as a tree
abbrev pub fields_of : List (ℕ × Node) → Tree
fields_of [] = none
fields_of (x ∷ xs) = field x.0 x.1.0 x.1.1 (fields_of xs)

-- the elements of a vector of tables, as a tree
abbrev pub tables_of : List Tree → Tree
tables_of [] = none
tables_of (t ∷ ts) = field 0 table t (tables_of ts)

-- the content of a `Slot` and the tree below it, given the trees of the `FlatTree`s in it
abbrev pub slot_step : Slot-F Node Tree → Node
slot_step (Slot-F.U8 x) = (byte x, none)
slot_step (Slot-F.Bool x) = (byte (if x then 1 else 0), none)
slot_step (Slot-F.I16 x) = (signed w16 x, none)
slot_step (Slot-F.I32 x) = (signed w32 x, none)
slot_step (Slot-F.I64 x) = (signed w64 x, none)
slot_step (Slot-F.Text s) = (string s, none)
slot_step (Slot-F.Table t) = (table, t)
slot_step (Slot-F.Tables ts) = (tables, tables_of ts)
slot_step (Slot-F.Pairs xs) = (pairs xs, none)

-- the tree of a `FlatTree`, given what each of its slots holds
abbrev pub tree_step : FlatTree-F Node Tree → Tree
tree_step t = fields_of t.slots

-- a `Slot` as a value
abbrev pub node : Slot → Node
node = fold-Slot Node Tree slot_step tree_step

-- a `FlatTree` as a value
abbrev pub view : FlatTree → Tree
view = fold-FlatTree Node Tree slot_step tree_step

-- the fields of a table, as the program stores them, as a tree
abbrev pub fields_view : List (ℕ × Slot) → Tree
fields_view [] = none
fields_view (x ∷ xs) = field x.0 (node x.1).0 (node x.1).1 (fields_view xs)

-- the elements of a vector of tables, as the program stores them, as a tree
abbrev pub tables_view : List FlatTree → Tree
tables_view [] = none
tables_view (t ∷ ts) = field 0 table (view t) (tables_view ts)
