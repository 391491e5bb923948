-- Numbers in the chunks of a list of bytes, which are slots of as many bytes each.
use Rattle.std.proofs.Common.{◌≡◌, ◌∙◌, refl, ap, ℕ, zero, suc, ◌+◌, ◌*◌, ◌/◌, ◌<◌, ◌≤◌, List, length, take, drop}
use Rattle.std.proofs.Common.{get_or, arith}
use Rattle.std.specs.Int.{w16, w32, w64, from_le_bytes}
use Rattle.std.specs.Simd.{first_chunks}
use Rattle.std.proofs.lemmas.List.{drop-drop}
use Rattle.std.proofs.lemmas.Simd.{get_or-chunk}
use Rattle.ipc_scalar.specs.Bytes.{num}

-- the chunk behind i others
chunk_at : (w k i : ℕ) (xs d : List ℕ) → i < k → get_or (first_chunks w k xs) i d ≡ take w (drop (w * i) xs)
chunk_at w zero i xs d inside = absurd (omega (arith, inside))
chunk_at w (suc k) zero xs d inside = let e : w * 0 ≡ 0 = omega arith in rw e refl
chunk_at w (suc k) (suc i) xs d inside =
    let place : w + w * i ≡ w * suc i = omega arith in
    chunk_at w k i (drop w xs) d (omega (arith, inside)) ∙ (ap (take w) (drop-drop (w * i) w xs) ∙ ap (λ (n : ℕ). take w (drop n xs)) place)

-- byte k of the chunk at p
byte_in : (w p : ℕ) (xs : List ℕ) (k q : ℕ) → k < w → p + k ≡ q → get_or (take w (drop p xs)) k 0 ≡ get_or xs q 0
byte_in w p xs k q h e = get_or-chunk p w xs k 0 h ∙ ap (λ (n : ℕ). get_or xs n 0) e

-- the number in two bytes
number_2 : (xs : List ℕ) (p : ℕ) → from_le_bytes w16 (take 2 (drop p xs)) ≡ num xs p 2
unfolding num
number_2 xs p =
    let b0 = byte_in 2 p xs 0 (p) (omega arith) (omega arith) in
    let b1 = byte_in 2 p xs 1 (suc p) (omega arith) (omega arith) in
    omega (arith, b0, b1)

-- the number in four
number_4 : (xs : List ℕ) (p : ℕ) → from_le_bytes w32 (take 4 (drop p xs)) ≡ num xs p 4
unfolding num
number_4 xs p =
    let b0 = byte_in 4 p xs 0 (p) (omega arith) (omega arith) in
    let b1 = byte_in 4 p xs 1 (suc p) (omega arith) (omega arith) in
    let b2 = byte_in 4 p xs 2 (suc (suc p)) (omega arith) (omega arith) in
    let b3 = byte_in 4 p xs 3 (suc (suc (suc p))) (omega arith) (omega arith) in
    omega (arith, b0, b1, b2, b3)

-- the number in eight
number_8 : (xs : List ℕ) (p : ℕ) → from_le_bytes w64 (take 8 (drop p xs)) ≡ num xs p 8
unfolding num
number_8 xs p =
    let b0 = byte_in 8 p xs 0 (p) (omega arith) (omega arith) in
    let b1 = byte_in 8 p xs 1 (suc p) (omega arith) (omega arith) in
    let b2 = byte_in 8 p xs 2 (suc (suc p)) (omega arith) (omega arith) in
    let b3 = byte_in 8 p xs 3 (suc (suc (suc p))) (omega arith) (omega arith) in
    let b4 = byte_in 8 p xs 4 (suc (suc (suc (suc p)))) (omega arith) (omega arith) in
    let b5 = byte_in 8 p xs 5 (suc (suc (suc (suc (suc p))))) (omega arith) (omega arith) in
    let b6 = byte_in 8 p xs 6 (suc (suc (suc (suc (suc (suc p)))))) (omega arith) (omega arith) in
    let b7 = byte_in 8 p xs 7 (suc (suc (suc (suc (suc (suc (suc p))))))) (omega arith) (omega arith) in
    omega (arith, b0, b1, b2, b3, b4, b5, b6, b7)

-- the number in slot i of two bytes each
pub slot_2 : (xs : List ℕ) (all : List (List ℕ)) (i : ℕ) (d : List ℕ) → all ≡ first_chunks 2 (length xs / 2) xs → 2 * (i + 1) ≤ length xs
    → from_le_bytes w16 (get_or all i d) ≡ num xs (2 * i) 2
slot_2 xs all i d is inside =
    ap (λ (c : List (List ℕ)). from_le_bytes w16 (get_or c i d)) is
    ∙ (ap (from_le_bytes w16) (chunk_at 2 (length xs / 2) i xs d (omega arith)) ∙ number_2 xs (2 * i))

-- the number in slot i of four
pub slot_4 : (xs : List ℕ) (all : List (List ℕ)) (i : ℕ) (d : List ℕ) → all ≡ first_chunks 4 (length xs / 4) xs → 4 * (i + 1) ≤ length xs
    → from_le_bytes w32 (get_or all i d) ≡ num xs (4 * i) 4
slot_4 xs all i d is inside =
    ap (λ (c : List (List ℕ)). from_le_bytes w32 (get_or c i d)) is
    ∙ (ap (from_le_bytes w32) (chunk_at 4 (length xs / 4) i xs d (omega arith)) ∙ number_4 xs (4 * i))

-- the number in slot i of eight
pub slot_8 : (xs : List ℕ) (all : List (List ℕ)) (i : ℕ) (d : List ℕ) → all ≡ first_chunks 8 (length xs / 8) xs → 8 * (i + 1) ≤ length xs
    → from_le_bytes w64 (get_or all i d) ≡ num xs (8 * i) 8
slot_8 xs all i d is inside =
    ap (λ (c : List (List ℕ)). from_le_bytes w64 (get_or c i d)) is
    ∙ (ap (from_le_bytes w64) (chunk_at 8 (length xs / 8) i xs d (omega arith)) ∙ number_8 xs (8 * i))
