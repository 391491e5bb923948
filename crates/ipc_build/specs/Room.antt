-- The room of a tree, and how many bytes it takes. Room is this project's upper bound, by which a
-- tree is limited before it is written; the binary format has none.
use Rattle.std.specs.Prelude.{◌≡◌, ℕ, ◌+◌, ◌*◌, ◌≤◌, ◌<◌, length, Option, MatchOption}
use Rattle.ipc_build.specs.Trees.{Content, Tree, none, field}
use Rattle.ipc_build.specs.Trees as k
use Rattle.ipc_build.specs.Layout.{members, entry_count, as_vector, targets_end}

-- the room of what a field points to. A string: 8 and its bytes; a vector of structs: 12, and 16
-- each. A table: 24, and 10 for each vtable entry; a vector of tables: 12, and 4 each. `below` is
-- the room of the tree below, which is added
abbrev pub target_room : Content → Tree → ℕ → ℕ
target_room (k.byte x) f below = 0
target_room (k.signed w z) f below = 0
target_room (k.string s) f below = 8 + length s
target_room (k.pairs xs) f below = 12 + 16 * length xs
target_room k.table f below = 24 + 10 * entry_count 0 f + below
target_room k.tables f below = 12 + 4 * members f + below

-- the sum of `target_room` over all fields, subtrees included
unfoldable pub targets_room : Tree → ℕ
targets_room none = 0
targets_room (field n content inner rest) =
    target_room content inner (targets_room inner) + targets_room rest

-- 16, and the room of the root table
abbrev pub room : Tree → ℕ
room f = 16 + targets_room (as_vector f)

-- how many bytes a tree takes in the layout of `Layout`: after the root offset each table with its
-- vtable, and each string and vector, one after another, with their padding
abbrev pub size : Tree → ℕ
size f = targets_end (as_vector f) 4

-- a result of counting room: the sum n, and P holds; or none if n is above `greatest`
abbrev pub CountsBytes : ℕ → ℕ → Type 0 → Option ℕ → Type 0
CountsBytes greatest n P sum = MatchOption sum (greatest < n) (λ x. (x ≡ n) × (x ≤ greatest) × P)
