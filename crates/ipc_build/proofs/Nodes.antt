-- What each slot and each tree is as a value, a level at a time.
use Rattle.std.proofs.Common.{◌≡◌, ℕ, List, [], ◌∷◌, refl, ap, sym, ◌∙◌}
use Rattle.std.specs.Prelude.{ℤ, Bool, if◌then◌else◌}
use Rattle.std.specs.Int.{w16, w32, w64}
use Rattle.ipc_build.specs.declared.tree.FlatTree.{FlatTree, fold_out-FlatTree}
use Rattle.ipc_build.specs.declared.tree.Slot.{Slot, fold-roll-Slot}
use Rattle.ipc_build.specs.declared.tree.Slot.TheFolds.{map-Slot, map-FlatTree}
use Rattle.ipc_build.specs.declared.tree.Slot.TheOpen.{Slot-F}
use Rattle.ipc_build.specs.declared.tree.Slot.TheVariants as v
use Rattle.ipc_build.specs.Trees.{Node, Tree, none, field, fields_of, slot_step, tree_step, node, view, fields_view, tables_view}
use Rattle.ipc_build.specs.Trees as k

fields_row : (xs : List (ℕ × Slot))
    → fields_of (map-FlatTree Slot FlatTree Node Tree node view (record { slots = xs })).slots ≡ fields_view xs
fields_row [] = refl
fields_row (x ∷ xs) = ap (field x.0 (node x.1).0 (node x.1).1) (fields_row xs)

-- a `FlatTree` as a value is its slots as values
pub view_is : (t : FlatTree) → view t ≡ fields_view t.slots
view_is t = fold_out-FlatTree Node Tree slot_step tree_step t ∙ fields_row t.slots

-- a slot of a byte holds that byte
pub u8_is : (x : ℕ) → node (v.U8 x) ≡ (k.byte x, none)
u8_is x = ap node (sym (v.rolls-U8 x)) ∙ fold-roll-Slot Node Tree slot_step tree_step (Slot-F.U8 x)

-- a slot of a truth value holds the byte 1 or 0
pub bool_is : (x : Bool) → node (v.Bool x) ≡ (k.byte (if x then 1 else 0), none)
bool_is x = ap node (sym (v.rolls-Bool x)) ∙ fold-roll-Slot Node Tree slot_step tree_step (Slot-F.Bool x)

-- a slot of a signed number of 16 bits holds that number
pub i16_is : (x : ℤ) → node (v.I16 x) ≡ (k.signed w16 x, none)
i16_is x = ap node (sym (v.rolls-I16 x)) ∙ fold-roll-Slot Node Tree slot_step tree_step (Slot-F.I16 x)

-- a slot of a signed number of 32 bits holds that number
pub i32_is : (x : ℤ) → node (v.I32 x) ≡ (k.signed w32 x, none)
i32_is x = ap node (sym (v.rolls-I32 x)) ∙ fold-roll-Slot Node Tree slot_step tree_step (Slot-F.I32 x)

-- a slot of a signed number of 64 bits holds that number
pub i64_is : (x : ℤ) → node (v.I64 x) ≡ (k.signed w64 x, none)
i64_is x = ap node (sym (v.rolls-I64 x)) ∙ fold-roll-Slot Node Tree slot_step tree_step (Slot-F.I64 x)

-- a slot of a text holds a string of its bytes
pub text_is : (s : List ℕ) → node (v.Text s) ≡ (k.string s, none)
text_is s = ap node (sym (v.rolls-Text s)) ∙ fold-roll-Slot Node Tree slot_step tree_step (Slot-F.Text s)

-- a slot of a table holds a table, with the tree of that table below
pub table_is : (t : FlatTree) → node (v.Table t) ≡ (k.table, view t)
table_is t = ap node (sym (v.rolls-Table t)) ∙ fold-roll-Slot Node Tree slot_step tree_step (Slot-F.Table t)

tables_row : (ts : List FlatTree) → slot_step (map-Slot Slot FlatTree Node Tree node view (Slot-F.Tables ts)) ≡ (k.tables, tables_view ts)
tables_row [] = refl
tables_row (t ∷ ts) = ap (λ (i : Node). (k.tables, field 0 k.table (view t) i.1)) (tables_row ts)

-- a slot of several tables holds a vector of tables, with those tables below
pub tables_is : (ts : List FlatTree) → node (v.Tables ts) ≡ (k.tables, tables_view ts)
tables_is ts = ap node (sym (v.rolls-Tables ts)) ∙ (fold-roll-Slot Node Tree slot_step tree_step (Slot-F.Tables ts) ∙ tables_row ts)

-- a slot of pairs holds a vector of structs
pub pairs_is : (xs : List (ℤ × ℤ)) → node (v.Pairs xs) ≡ (k.pairs xs, none)
pairs_is xs = ap node (sym (v.rolls-Pairs xs)) ∙ fold-roll-Slot Node Tree slot_step tree_step (Slot-F.Pairs xs)
