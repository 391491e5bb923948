-- How room is counted, a level at a time, and that a tree within its ranges which ascends is writable.
use Rattle.std.proofs.Common.{◌≡◌, ℕ, ◌+◌, ◌*◌, ◌≤◌, ◌<◌, List, length, drop, get_or, refl, ap, sym, ◌∙◌, subst, arith}
use Rattle.std.proofs.Math.ListN.{drop_of_length-le}
use Rattle.std.proofs.Common.{FitsSigned}
use Rattle.std.specs.Int.{Width, byte_len}
use Rattle.std.specs.Prelude.{⊤, Option, None, Some, ℤ, true}
use Rattle.std.specs.Str.{IsUtf8}
use Rattle.std.proofs.lemmas.Str.{is_utf8-from_IsUtf8}
use Rattle.ipc_build.specs.declared.tree.Slot.TheVariants as v
use Rattle.ipc_build.specs.Trees.{slot_step, tree_step}
use Rattle.ipc_build.specs.Ascends.{PairsFit}
use Rattle.std.specs.Prelude.{Bool, false, if◌then◌else◌, is_some}
use Rattle.std.specs.Int.{w64}
use Rattle.ipc_build.specs.declared.tree.Slot.{Slot}
use Rattle.ipc_build.specs.declared.tree.FlatTree.{FlatTree}
use Rattle.ipc_build.specs.Trees.{Content, Tree, Node, none, field, node, view, fields_view, tables_view}
use Rattle.ipc_build.specs.Trees as k
use Rattle.ipc_build.specs.Layout.{entry_count}
use Rattle.ipc_build.specs.Ascends.{Role, fields, elements, IsInRange, Below, Writable, Ascends, InRange}
use Rattle.ipc_build.specs.Room.{CountsBytes, target_room, targets_room, room}
use Rattle.ipc_build.proofs.Nodes.{text_is, tables_is, pairs_is}
use Rattle.ipc_build.proofs.Views.{front, members_tables}

module _ (xs : List (ℕ × Slot)) (i : ℕ) (x : ℕ × Slot) (e : x ≡ get_or xs i x) (h : i < length xs) where
  -- the room of the slots from i on is that of slot i and of those behind it
  pub room_more : targets_room (fields_view (drop i xs))
      ≡ target_room (node x.1).0 (node x.1).1 (targets_room (node x.1).1) + targets_room (fields_view (drop (i + 1) xs))
  unfolding targets_room
  room_more = ap (λ (ys : List (ℕ × Slot)). targets_room (fields_view ys)) (front xs i x e h)

  -- where the slots behind i are in their ranges and so is slot i, the slots from i on are
  pub range_more : {X : Type 0} → (InRange (fields_view (drop i xs)) → X) → IsInRange (node x.1).0 → InRange (node x.1).1
      → InRange (fields_view (drop (i + 1) xs)) → X
  unfolding InRange
  range_more to own inner rest = to (subst (λ (ys : List (ℕ × Slot)). InRange (fields_view ys)) (sym (front xs i x e h)) (own, inner, rest))

module _ (xs : List FlatTree) (i : ℕ) (x : FlatTree) (e : x ≡ get_or xs i x) (h : i < length xs) where
  -- the room of the tables from i on is that of table i and of those behind it
  pub table_room_more : targets_room (tables_view (drop i xs))
      ≡ (24 + 10 * entry_count 0 (view x) + targets_room (view x)) + targets_room (tables_view (drop (i + 1) xs))
  unfolding targets_room
  table_room_more = ap (λ (ys : List FlatTree). targets_room (tables_view ys)) (front xs i x e h)

  -- where the tables behind i are in their ranges and so is table i, the tables from i on are
  pub table_range_more : {X : Type 0} → (InRange (tables_view (drop i xs)) → X) → InRange (view x) → InRange (tables_view (drop (i + 1) xs))
      → X
  unfolding InRange
  table_range_more to inner rest = to (subst (λ (ys : List FlatTree). InRange (tables_view ys)) (sym (front xs i x e h)) (tt, inner, rest))

-- where no slot is left, none takes room, and none is out of its range
pub room_done : (xs : List (ℕ × Slot)) (i : ℕ) → length xs ≤ i
    → (targets_room (fields_view (drop i xs)) ≡ 0) × InRange (fields_view (drop i xs))
unfolding targets_room InRange
room_done xs i h = subst (λ (ys : List (ℕ × Slot)). (targets_room (fields_view ys) ≡ 0) × InRange (fields_view ys))
    (sym (drop_of_length-le xs h)) (refl, tt)

-- where no table is left, none takes room, and none is out of its range
pub table_room_done : (xs : List FlatTree) (i : ℕ) → length xs ≤ i
    → (targets_room (tables_view (drop i xs)) ≡ 0) × InRange (tables_view (drop i xs))
unfolding targets_room InRange
table_room_done xs i h = subst (λ (ys : List FlatTree). (targets_room (tables_view ys) ≡ 0) × InRange (tables_view ys))
    (sym (drop_of_length-le xs h)) (refl, tt)

-- an empty tree is in its range
range_none : InRange none
unfolding InRange
range_none = tt

-- what ascends and is within its ranges is what the layout asks for
below_writable : (content : Content) (f : Tree) → ((s : Role) → Ascends s f → Writable s f) → Below content (λ s. Ascends s f)
    → Below content (λ s. Writable s f)
below_writable (k.byte x) f h a = tt
below_writable (k.signed w z) f h a = tt
below_writable (k.string s) f h a = tt
below_writable (k.pairs xs) f h a = tt
below_writable k.table f h a = h (fields 0) a
below_writable k.tables f h a = h elements a

-- a tree that ascends and whose numbers and texts are in their ranges may be written
pub writable : (f : Tree) (s : Role) → InRange f → Ascends s f → Writable s f
unfolding InRange Ascends Writable
writable none s g a = tt
writable (field m content inner rest) (fields n) g a =
    (a.0, a.1, g.0, below_writable content inner (λ s b. writable inner s g.1 b) a.2, writable rest (fields (m + 1)) g.2 a.3)
writable (field m content inner rest) elements g a = (a.0, writable inner (fields 0) g.1 a.1, writable rest elements g.2 a.2)

-- a count of n is one of m where they are equal, with what follows from what holds
pub counts_at : (g n m : ℕ) (F G : Type 0) (o : Option ℕ) → n ≡ m → (F → G) → CountsBytes g n F o → CountsBytes g m G o
counts_at g n m F G None e f h = subst (λ (x : ℕ). g < x) e h
counts_at g n m F G (Some s) e f h = (h.0 ∙ e, h.1, f h.2)

-- a plain count of n is one of m where they are equal, with whatever holds
pub counts_plain : (g n m : ℕ) (G : Type 0) (o : Option ℕ) → n ≡ m → G → CountsBytes g n ⊤ o → CountsBytes g m G o
counts_plain g n m G o e p h = counts_at g n m ⊤ G o e (λ _. p) h

-- the room of what a field points to, counted beside what is taken, within a greatest room
abbrev Counted : ℕ → ℕ → Option ℕ → Node → Type 0
Counted g taken o x = CountsBytes g (taken + target_room x.0 x.1 (targets_room x.1)) (IsInRange x.0 × InRange x.1) o

-- a byte takes no room beside its place in the table
pub byte_counted : (s : Slot) (x g taken : ℕ) → node s ≡ (k.byte x, none) → x < 256 → taken ≤ g → Counted g taken (Some taken) (node s)
byte_counted s x g taken e fits small = subst (Counted g taken (Some taken)) (sym e) (omega arith, small, (fits, range_none))

-- a signed number takes no room beside its place in the table
pub signed_counted : (s : Slot) (w : Width) (z : ℤ) (g taken : ℕ) → node s ≡ (k.signed w z, none) → FitsSigned w z
    → ((j : ℕ) × (j * byte_len w ≡ 8)) → taken ≤ g → Counted g taken (Some taken) (node s)
signed_counted s w z g taken e fits divides small =
    subst (Counted g taken (Some taken)) (sym e) (omega arith, small, ((fits, divides), range_none))

-- a string takes 8 and its bytes
pub string_counted : (s : Slot) (t u : List ℕ) (g taken : ℕ) (o : Option ℕ) → s ≡ v.Text t → u ≡ t → IsUtf8 u
    → CountsBytes g (taken + (8 + length u)) ⊤ o → Counted g taken o (node s)
string_counted s t u g taken o e f utf8 h =
    let i : node s ≡ (k.string u, none) = ap node e ∙ (text_is t ∙ ap (λ (z : List ℕ). (k.string z, none)) (sym f)) in
    subst (Counted g taken o) (sym i) (counts_plain g (taken + (8 + length u)) (taken + (8 + length u)) _ o refl
    (is_utf8-from_IsUtf8 u utf8, range_none) h)

-- a vector of structs takes 12, and 16 for each
pub pairs_counted : (s : Slot) (xs ys : List (ℤ × ℤ)) (g taken : ℕ) (o : Option ℕ) → s ≡ v.Pairs xs → ys ≡ xs
    → CountsBytes g (taken + (12 + 16 * length ys)) (PairsFit ys) o → Counted g taken o (node s)
pairs_counted s xs ys g taken o e f h =
    let i : node s ≡ (k.pairs ys, none) = ap node e ∙ (pairs_is xs ∙ ap (λ (zs : List (ℤ × ℤ)). (k.pairs zs, none)) (sym f)) in
    subst (Counted g taken o) (sym i) (counts_at g (taken + (12 + 16 * length ys)) (taken + (12 + 16 * length ys)) _ _ o refl
    (λ p. (p, range_none)) h)

-- a vector of tables takes 12, 4 for each, and what the tables take
pub tables_counted : (s : Slot) (ts us : List FlatTree) (g taken : ℕ) (o : Option ℕ) → s ≡ v.Tables ts → us ≡ ts
    → CountsBytes g (taken + (12 + 4 * length us + targets_room (tables_view us))) (InRange (tables_view us)) o → Counted g taken o (node s)
tables_counted s ts us g taken o e f h =
    let i : node s ≡ (k.tables, tables_view us) =
    ap node e ∙ (tables_is ts ∙ ap (λ (xs : List FlatTree). (k.tables, tables_view xs)) (sym f)) in
    let m = members_tables us in
    subst (Counted g taken o) (sym i) (counts_at g (taken + (12 + 4 * length us + targets_room (tables_view us))) _ _ _ o (omega (arith, m))
    (λ p. (tt, p)) h)

module _ (xs : List (ℤ × ℤ)) (i : ℕ) (x : ℤ × ℤ) (e : x ≡ get_or xs i x) (h : i < length xs) where
  -- where the structs behind i fit and so do both numbers of struct i, the structs from i on fit
  pub pairs_range_more : {X : Type 0} → (PairsFit (drop i xs) → X) → FitsSigned w64 x.0 → FitsSigned w64 x.1 → PairsFit (drop (i + 1) xs)
      → X
  pairs_range_more to first second rest = to (subst (λ (ys : List (ℤ × ℤ)). PairsFit ys) (sym (front xs i x e h)) (first, second, rest))

-- where no struct is left, all fit
pub pairs_range_done : (xs : List (ℤ × ℤ)) (i : ℕ) → length xs ≤ i → PairsFit (drop i xs)
pairs_range_done xs i h = subst (λ (ys : List (ℤ × ℤ)). PairsFit ys) (sym (drop_of_length-le xs h)) tt

-- a truth value is a byte
pub bool_small : (x : Bool) → (if x then 1 else 0) < 256
bool_small true = omega arith
bool_small false = omega arith

-- a tree's room is 16 and what its root table is counted with
pub room_is : (f : Tree) → room f ≡ 16 + (24 + 10 * entry_count 0 f + targets_room f)
unfolding targets_room
room_is f = omega arith

abbrev Yes : Bool → Type 0
Yes true = ⊤
Yes false = ⊥

-- where nothing was counted, the greatest room is passed
pub over_limit : (g n : ℕ) (F : Type 0) (o : Option ℕ) → CountsBytes g n F o → is_some o ≡ false → g < n
over_limit g n F None h e = h
over_limit g n F (Some s) h e = absurd (subst Yes e tt)

-- where something was counted, it is within the greatest room
pub within_limit : (g n : ℕ) (F : Type 0) (o : Option ℕ) → CountsBytes g n F o → is_some o ≡ true → (n ≤ g) × F
within_limit g n F None h e = absurd (subst Yes (sym e) tt)
within_limit g n F (Some s) h e = (omega (arith, h.0, h.1), h.2)
