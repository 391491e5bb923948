-- A whole buffer: its tree lies there, and it is as long as it says.
use Rattle.std.proofs.Common.{◌≡◌, ℕ, ◌*◌, ◌^◌, ◌<◌, ◌++◌, List, length, refl, arith}
use Rattle.std.proofs.lemmas.List.{length-append}
use Rattle.ipc_build.specs.Trees.{Tree}
use Rattle.ipc_build.specs.Layout.{as_vector, targets_end, buffer, members, inline_bytes, targets}
use Rattle.ipc_build.specs.Encodes.{in_vector, EncodesTable, Encodes, Aligned}
use Rattle.ipc_build.specs.Ascends.{Writable, fields, elements}
use Rattle.ipc_build.proofs.Has.{Has, has_at, has_left, has_right}
use Rattle.ipc_build.proofs.Placed.{placed}
use Rattle.ipc_build.proofs.Lengths.{length_inline, length_targets}

one_member : (f : Tree) → members (as_vector f) ≡ 1
unfolding members
one_member f = refl

-- a table that may be written may be written as the one element of a vector
pub writable_vector : (f : Tree) → Writable (fields 0) f → Writable elements (as_vector f)
unfolding Writable
writable_vector f h = (refl, h, tt)

tree_lies : (P : ℕ → ℕ → Type 0) (f : Tree) (rest : List ℕ) → ((w p q : ℕ) → p ≡ q * w → P w p) → Writable (fields 0) f
    → targets_end (as_vector f) 4 < 2 ^ 31 → EncodesTable P (buffer f ++ rest) (in_vector 0) (as_vector f)
tree_lies P f rest aligned h small =
    let b = buffer f ++ rest in
    let has : Has b 0 (buffer f) = record { rest = rest; is = refl; inside = let l = length-append (buffer f) rest in omega (arith, l) } in
    let l = length_inline 4 (as_vector f) 0 4 in
    let one = one_member f in
    (placed P b aligned (as_vector f)).in_a_vector 0 4 (writable_vector f h)
    (record {
      front = has_left b 0 (inline_bytes 4 (as_vector f) 0 4) (targets (as_vector f) 4) has;
      behind = has_at b _ 4 _ (omega (arith, l, one)) (has_right b 0 (inline_bytes 4 (as_vector f) 0 4) (targets (as_vector f) 4) has);
      apart = omega (arith, one);
      small = small;
      even = refl;
    }) refl

-- whatever stands behind it
pub buffer_lies : (f : Tree) (rest : List ℕ) → Writable (fields 0) f → targets_end (as_vector f) 4 < 2 ^ 31
    → Encodes (buffer f ++ rest) f × Aligned (buffer f ++ rest) f
buffer_lies f rest h small = (tree_lies _ f rest (λ w p q e. tt) h small, tree_lies _ f rest (λ w p q e. (q, e)) h small)

-- a whole buffer is as long as its layout ends
pub length_buffer : (f : Tree) → Writable (fields 0) f → length (buffer f) ≡ targets_end (as_vector f) 4
length_buffer f h =
    let c = length_inline 4 (as_vector f) 0 4 in
    let b = length_targets (as_vector f) elements 4 (writable_vector f h) in
    let o = one_member f in
    let l = length-append (inline_bytes 4 (as_vector f) 0 4) (targets (as_vector f) 4) in
    omega (arith, l, c, b, o)
