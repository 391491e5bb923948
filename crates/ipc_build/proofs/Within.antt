-- What is laid out is within the room.
use Rattle.std.proofs.Common.{◌≡◌, ℕ, ◌+◌, ◌*◌, ◌/◌, ◌%◌, ◌≤◌, refl, arith}
use Rattle.ipc_build.specs.Trees.{Content, Tree, none, field}
use Rattle.ipc_build.specs.Trees as k
use Rattle.ipc_build.specs.Layout.{members, as_vector, targets_end, target_end, inline_end}
use Rattle.ipc_build.specs.Ascends.{Role, fields, elements, Below, Writable}
use Rattle.ipc_build.specs.Room.{target_room, targets_room, room}
use Rattle.ipc_build.proofs.Upward.{target_ends_up}
use Rattle.ipc_build.proofs.Buffers.{writable_vector}
use Rattle.ipc_build.proofs.Lengths.{element_range, members_below}

target_within : (content : Content) (f : Tree) (p : ℕ) → Below content (λ s. Writable s f)
    → ((s : Role) (q : ℕ) → Writable s f → q % 4 ≡ 0 → targets_end f q ≤ q + targets_room f) → p % 4 ≡ 0
    → target_end content f (targets_end f) p ≤ p + target_room content f (targets_room f)
target_within (k.byte x) f p h below even = omega arith
target_within (k.signed w z) f p h below even = omega arith
target_within (k.string s) f p h below even = omega arith
target_within (k.pairs xs) f p h below even = omega arith
target_within k.table f p h below even =
    let m = members_below f 0 h in
    let e = below (fields 0) (inline_end f p) h (omega arith) in
    omega (arith, m, e)
target_within k.tables f p h below even =
    let e = below elements (p + 4 + 4 * members f) h (omega arith) in
    omega (arith, e)

-- what fields point to takes at most their room, where it begins at a multiple of 4
pub within : (f : Tree) (s : Role) (p : ℕ) → Writable s f → p % 4 ≡ 0 → targets_end f p ≤ p + targets_room f
unfolding targets_end Writable targets_room
within none s p h even = omega arith
within (field m content inner rest) (fields n) p h even =
    let i = target_within content inner p h.3 (λ s q. within inner s q) even in
    let e = within rest (fields (m + 1)) (target_end content inner (targets_end inner) p) h.4
    ((target_ends_up content inner p).even even) in
    omega (arith, i, e)
within (field m content inner rest) elements p h even =
    let i = target_within content inner p (element_range content inner h.0 h.1).1 (λ s q. within inner s q) even in
    let e = within rest elements (target_end content inner (targets_end inner) p) h.2 ((target_ends_up content inner p).even even) in
    omega (arith, i, e)

-- a buffer that is padded to a multiple of 8 is at most as long as its tree's room
pub buffer_fits : (f : Tree) → Writable (fields 0) f → (targets_end (as_vector f) 4 + 7) / 8 * 8 ≤ room f
buffer_fits f h = let e = within (as_vector f) elements 4 (writable_vector f h) refl in omega (arith, e)
