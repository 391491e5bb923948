-- What a caller of `build` shows: a tree ascends, by what its slots are.
use Rattle.std.proofs.Common.{◌≡◌, ℕ, ◌+◌, ◌≤◌, ◌<◌, List, [], ◌∷◌, refl, sym, subst}
use Rattle.std.specs.Prelude.{ℤ, Bool, ⊤}
use Rattle.std.specs.List.{All, AllByRecursion}
use Rattle.std.proofs.lemmas.List.Elements.{All-push, All-nil, recursion_from_All}
use Rattle.ipc_build.specs.declared.tree.FlatTree.{FlatTree}
use Rattle.ipc_build.specs.declared.tree.Slot.{Slot}
use Rattle.ipc_build.specs.declared.tree.Slot.TheVariants as v
use Rattle.ipc_build.specs.Trees.{Node, node, view, fields_view, tables_view}
use Rattle.ipc_build.specs.Ascends.{fields, elements, Below, Ascends}
use Rattle.ipc_build.proofs.Nodes.{view_is, u8_is, bool_is, i16_is, i32_is, i64_is, text_is, table_is, tables_is, pairs_is}

-- all below this slot ascends
pub record SlotAscends (s : Slot) : Type 0 where
  pub below : Below (node s).0 (λ r. Ascends r (node s).1)

-- the slots' numbers ascend from n on and are below 16, and all below each of them ascends
abbrev pub SlotsAscend : ℕ → List (ℕ × Slot) → Type 0
SlotsAscend n [] = ⊤
SlotsAscend n (x ∷ xs) = (n ≤ x.0) × (x.0 < 16) × SlotAscends x.1 × SlotsAscend (x.0 + 1) xs

fields_ascend : (n : ℕ) (xs : List (ℕ × Slot)) → SlotsAscend n xs → Ascends (fields n) (fields_view xs)
unfolding Ascends
fields_ascend n [] h = tt
fields_ascend n (x ∷ xs) h = (h.0, h.1, h.2.below, fields_ascend (x.0 + 1) xs h.3)

-- a tree ascends where its slots do, from the number 0 on
pub tree_ascends : (t : FlatTree) → SlotsAscend 0 t.slots → Ascends (fields 0) (view t)
tree_ascends t h = subst (Ascends (fields 0)) (sym (view_is t)) (fields_ascend 0 t.slots h)

elements_ascend : (ts : List FlatTree) → AllByRecursion (λ t. Ascends (fields 0) (view t)) ts → Ascends elements (tables_view ts)
unfolding Ascends
elements_ascend [] h = tt
elements_ascend (t ∷ ts) h = (refl, h.0, elements_ascend ts h.1)

slot_ascends : (s : Slot) (n : Node) → node s ≡ n → Below n.0 (λ r. Ascends r n.1) → SlotAscends s
slot_ascends s n e h = record { below = subst (λ (x : Node). Below x.0 (λ r. Ascends r x.1)) (sym e) h }

-- a byte ascends: no tree is below it
pub u8_ascends : (x : ℕ) → SlotAscends (v.U8 x)
u8_ascends x = slot_ascends _ _ (u8_is x) tt

-- a truth value ascends: no tree is below it
pub bool_ascends : (x : Bool) → SlotAscends (v.Bool x)
bool_ascends x = slot_ascends _ _ (bool_is x) tt

-- a number of 16 bits ascends: no tree is below it
pub i16_ascends : (x : ℤ) → SlotAscends (v.I16 x)
i16_ascends x = slot_ascends _ _ (i16_is x) tt

-- a number of 32 bits ascends: no tree is below it
pub i32_ascends : (x : ℤ) → SlotAscends (v.I32 x)
i32_ascends x = slot_ascends _ _ (i32_is x) tt

-- a number of 64 bits ascends: no tree is below it
pub i64_ascends : (x : ℤ) → SlotAscends (v.I64 x)
i64_ascends x = slot_ascends _ _ (i64_is x) tt

-- a text ascends: no tree is below it
pub text_ascends : (s : List ℕ) → SlotAscends (v.Text s)
text_ascends s = slot_ascends _ _ (text_is s) tt

-- a table's slot ascends where the table does
pub table_ascends : (t : FlatTree) → Ascends (fields 0) (view t) → SlotAscends (v.Table t)
table_ascends t h = slot_ascends _ _ (table_is t) h

-- the slot of a vector of tables ascends where each of them does
pub tables_ascend : (ts : List FlatTree) → All (λ t. Ascends (fields 0) (view t)) ts → SlotAscends (v.Tables ts)
tables_ascend ts h = slot_ascends _ _ (tables_is ts) (elements_ascend ts (recursion_from_All _ ts h))

-- a vector of structs ascends: no tree is below it
pub pairs_ascend : (xs : List (ℤ × ℤ)) → SlotAscends (v.Pairs xs)
pairs_ascend xs = slot_ascends _ _ (pairs_is xs) tt

-- all of these, for a tactic's list
pub ruleset ascending = (
  tree_ascends,
  u8_ascends,
  bool_ascends,
  i16_ascends,
  i32_ascends,
  i64_ascends,
  text_ascends,
  table_ascends,
  tables_ascend,
  pairs_ascend,
  All-nil,
  All-push,
)
