-- Numbers in a part of the bytes, and structs one after another.
use Rattle.std.proofs.Common.{subst, ◌≡◌, ◌∙◌, refl, sym, ap, ℕ, zero, suc, ◌+◌, ◌*◌, ◌-◌, ◌<◌, ◌≤◌, List, [], ◌∷◌, ◌++◌, take, drop}
use Rattle.std.proofs.Common.{get_or, append_assoc, Option, None, Some, Result, Ok, Err, arith}
use Rattle.ipc_flat.specs.declared.fault.FlatFault.{FlatFault}
use Rattle.ipc_flat.specs.Faulty.{◌>>=◌, where_some}
use Rattle.ipc_flat.specs.Flat.{field_place, elements_of}
use Rattle.ipc_flat.specs.Views.{TableView, Structs, field, structs_from}
use Rattle.ipc_meta.specs.FlatFaults.{map_fault}
use Rattle.std.specs.Prelude.{slice_range, ℤ}
use Rattle.std.specs.Int.{w64, cast_signed}
use Rattle.std.proofs.lemmas.List.{get_or-drop, get_or-take}
use Rattle.ipc_scalar.specs.Bytes.{num, int64}
use Rattle.ipc_meta.specs.Heads.{number_pairs, numbers_at}
use Rattle.ipc_meta.proofs.Binds.{lift_ok}

-- the number at k of a part that begins at p
pub part_num : (w k p m : ℕ) (b : List ℕ) → k + w ≤ m → num (take m (drop p b)) k w ≡ num b (p + k) w
unfolding num
part_num zero k p m b h = refl
part_num (suc w) k p m b h =
    let front : get_or (take m (drop p b)) k 0 ≡ get_or (drop p b) k 0 = get_or-take m (drop p b) k 0 (omega arith) in
    let byte = get_or-drop p b k 0 in
    let rest = part_num w (suc k) p m b (omega arith) in
    let place : p + suc k ≡ suc (p + k) = omega arith in
    rw (front, byte, rest, place) refl

-- the signed number of 64 bits at k of a part that begins at p is the one at p + k of the whole
pub part_int64 : (b : List ℕ) (p q k : ℕ) → p + k + 8 ≤ q → int64 (slice_range b p q) k ≡ int64 b (p + k)
part_int64 b p q k h = ap (cast_signed w64) (part_num 8 k p (q - p) b (omega arith))

-- one struct more
pub pairs_more : (b : List ℕ) (p i n : ℕ) (front : List (ℤ × ℤ)) → i < n
    → front ++ number_pairs b (p + i * 16) (n - i)
    ≡ (front ++ (int64 b (p + i * 16), int64 b (p + i * 16 + 8)) ∷ []) ++ number_pairs b (p + (i + 1) * 16) (n - (i + 1))
unfolding number_pairs
pairs_more b p i n front h =
    let count : n - i ≡ suc (n - (i + 1)) = omega arith in
    let place : p + i * 16 + 16 ≡ p + (i + 1) * 16 = omega arith in
    rw (count, place) (sym (append_assoc front ((int64 b (p + i * 16), int64 b (p + i * 16 + 8)) ∷ [])
    (number_pairs b (p + (i + 1) * 16) (n - (i + 1)))))

-- behind the last of n structs no more are to be read
pub pairs_done : (b : List ℕ) (p i n : ℕ) (front : List (ℤ × ℤ)) → n ≤ i → front ++ number_pairs b (p + i * 16) (n - i) ≡ front ++ []
unfolding number_pairs
pairs_done b p i n front h = let count : n - i ≡ 0 = omega arith in rw count refl

-- one struct more, read of its own bytes
pub pairs_next : (b bytes : List ℕ) (p i n w : ℕ) (front : List (ℤ × ℤ)) → i < n → w ≡ 16
    → bytes ≡ slice_range b (p + i * w) (p + (i + 1) * w)
    → (front ++ (int64 bytes 0, int64 bytes 8) ∷ []) ++ number_pairs b (p + (i + 1) * 16) (n - (i + 1))
    ≡ front ++ number_pairs b (p + i * 16) (n - i)
pairs_next b bytes p i n w front h wide is =
    let at : bytes ≡ slice_range b (p + i * 16) (p + (i + 1) * 16) =
    subst (λ z. bytes ≡ slice_range b (p + i * z) (p + (i + 1) * z)) wide is in
    let first : int64 bytes 0 ≡ int64 b (p + i * 16) =
    rw at (part_int64 b (p + i * 16) (p + (i + 1) * 16) 0 (omega arith) ∙ ap (int64 b) (omega arith)) in
    let second : int64 bytes 8 ≡ int64 b (p + i * 16 + 8) = rw at (part_int64 b (p + i * 16) (p + (i + 1) * 16) 8 (omega arith)) in
    rw (first, second) (sym (pairs_more b p i n front h))

width_or : ℕ → Result (Option Structs) FlatFault → ℕ
width_or d (Ok (Some s)) = s.width
width_or d r = d

-- structs that were asked for with a width have it
pub structs_width : (w : ℕ) (t : TableView) (k : ℕ) (s : Structs) → map_fault (field t k (structs_from w)) ≡ Ok (Some s) → s.width ≡ w
unfolding field structs_from width_or
structs_width w t k s h =
    let f = lift_ok (field_place t.bytes t.at k 4 >>= where_some (structs_from w t.bytes)) (Some s) h in
    go (field_place t.bytes t.at k 4) f
  where
    inner : (r : Result (ℕ × ℕ) FlatFault) → ((r >>= λ e. Ok (record { bytes = t.bytes; at = e.0; len = e.1; width = w }))
        >>= λ y. Ok (Some y)) ≡ Ok (Some s) → s.width ≡ w
    inner (Ok e) i = ap (width_or w) (sym i)
    inner (Err e) i = absurd (cc)

    go : (r : Result (Option ℕ) FlatFault) → (r >>= where_some (structs_from w t.bytes)) ≡ Ok (Some s) → s.width ≡ w
    go (Ok None) i = absurd (cc)
    go (Ok (Some p)) i = inner (elements_of t.bytes p w) i
    go (Err e) i = absurd (cc)

-- the pairs of numbers in a field are those of the structs of 16 bytes in its vector
pub numbers_are : (t : TableView) (k : ℕ) (s : Structs) → map_fault (field t k (structs_from 16)) ≡ Ok (Some s)
    → numbers_at t k ≡ Ok (number_pairs s.bytes s.at s.len)
unfolding numbers_at
numbers_are t k s h = rw h refl
