-- What reading finds where the right bytes stand.
use Rattle.std.proofs.Common.{◌≡◌, ℕ, zero, suc, ◌+◌, ◌-◌, ◌*◌, ◌%◌, ◌^◌, ◌≤◌, ◌<◌, true, false, ◌==◌, List, length, Some, None, Ok, le-leb}
use Rattle.std.proofs.Common.{refl, arith, pos}
use Rattle.std.specs.Int.{w32, cast_signed}
use Rattle.std.specs.Str.{is_utf8}
use Rattle.std.proofs.Math.Dec.{eqb-suc-zero}
use Rattle.ipc_scalar.specs.Bytes.{num}
use Rattle.ipc_flat.specs.Flat.{vtable_of, field_place, points, table_position, elements_of, text_of, vtable_entry}
use Rattle.ipc_build.proofs.Has.{Has, has_slice}

positive : (d : ℕ) → 0 < d → (d == 0) ≡ false
positive zero h = absurd (omega arith)
positive (suc d) h = eqb-suc-zero d

-- "Tables": where a field's entry in the vtable is the distance from its table to h, the field stands at h
pub slot_found : (b : List ℕ) (t v n w h : ℕ) → vtable_of b t ≡ Ok v → 6 + 2 * n ≤ num b v 2 → num b (v + (4 + 2 * n)) 2 ≡ h - t → t < h
    → h + w ≤ length b → field_place b t n w ≡ Ok (Some h)
unfolding field_place
slot_found b t v n w h hv big entry some inside =
    let there : t + (h - t) ≡ h = omega arith in
    rw (hv, le-leb (6 + 2 * n) (num b v 2) big, entry, positive (h - t) (omega arith), there, le-leb (h + w) (length b) inside) refl

-- "Tables": where a field's entry in the vtable is 0, the field is absent
pub slot_zero : (b : List ℕ) (t v n w : ℕ) → vtable_of b t ≡ Ok v → vtable_entry b v n ≡ 0 → field_place b t n w ≡ Ok None
unfolding field_place
slot_zero b t v n w hv zero_there = rw (hv, zero_there) refl

-- an offset at h that is the distance from there to q points to q
pub points_at : (b : List ℕ) (h q : ℕ) → num b h 4 ≡ q - h → h + 4 ≤ q → q ≤ length b → points b h ≡ Ok q
unfolding points
points_at b h q e apart inside =
    let there : h + (q - h) ≡ q = omega arith in
    rw (le-leb (h + 4) (length b) (omega arith), e, positive (q - h) (omega arith), there, le-leb q (length b) inside) refl

-- where an offset points to a place with a vtable, the table is there
pub table_there : (b : List ℕ) (h t v : ℕ) → points b h ≡ Ok t → vtable_of b t ≡ Ok v → table_position b h ≡ Ok t
unfolding table_position
table_there b h t v e f = rw (e, f) refl

-- "Strings and Vectors": where an offset points to a count, and so many elements fit behind it, they stand there
pub elements_there : (b : List ℕ) (h q n w : ℕ) → points b h ≡ Ok q → num b q 4 ≡ n → q + 4 ≤ length b → q + 4 + n * w ≤ length b
    → elements_of b h w ≡ Ok (q + 4, n)
unfolding elements_of
elements_there b h q n w e f inside all = rw (e, le-leb (q + 4) (length b) inside, f, le-leb (q + 4 + n * w) (length b) all) refl

-- "Strings and Vectors": a vector of bytes that are valid UTF-8 is read as that string
pub string_there : (b s : List ℕ) (h q : ℕ) → elements_of b h 1 ≡ Ok (q, length s) → Has b q s → is_utf8 s ≡ true → text_of b h ≡ Ok s
unfolding text_of
string_there b s h q e f u = rw (e, has_slice b q s f, u) refl

signed_small : (s : ℕ) → s < 2 ^ 31 → cast_signed w32 s ≡ pos s
signed_small s h = let small : suc s ≤ 2147483648 = omega arith in rw (le-leb (suc s) 2147483648 small) refl

-- "Tables": where a table at t begins with the distance to v before it, and a size stands there that is even and fits, its vtable is at v
pub vtable_there : (b : List ℕ) (t v size : ℕ) → num b t 4 ≡ t - v → t - v < 2 ^ 31 → v ≤ t → num b v 2 ≡ size → 4 ≤ size → size % 2 ≡ 0
    → t + 4 ≤ length b → v + size ≤ length b → vtable_of b t ≡ Ok v
unfolding vtable_of
vtable_there b t v size e small back f four even inside all =
    let there : t - (t - v) ≡ v = omega arith in
    rw (
      le-leb (t + 4) (length b) inside,
      e,
      signed_small (t - v) small,
      le-leb (t - v) t (omega arith),
      there,
      le-leb (v + 2) (length b) (omega arith),
      f,
      le-leb 4 size four,
      even,
      le-leb (v + size) (length b) all,
    ) refl
