-- Buffers found again in the body.
use Rattle.std.proofs.Common.{◌≡◌, ◌∙◌, refl, sym, ap, ℕ, zero, suc, ◌+◌, ◌-◌, ◌%◌, ◌<◌, ◌≤◌, List, [], ◌∷◌, ◌++◌, length, take, drop}
use Rattle.std.proofs.Common.{get_or, append_assoc, length-append, replicate, arith, le-leb}
use Rattle.std.specs.Prelude.{ℤ, pos, unsigned_abs}
use Rattle.std.specs.List.{AllByRecursion}
use Rattle.std.proofs.Math.Seq.{drop-append_seam, take-append_seam}
use Rattle.std.proofs.lemmas.Int.{ints}
use Rattle.ipc_column.specs.Columns.{body_range}
use Rattle.ipc_column.specs.checks.Rules.{IsWithinBody}
use Rattle.ipc_encode.specs.Buffers.{padded_buffer, padded_bytes, ranges_from}

-- what stands behind a front
pub cut_behind : (front b more : List ℕ) → take (length front + length b - length front) (drop (length front) (front ++ (b ++ more))) ≡ b
cut_behind front b more =
    let size : length front + length b - length front ≡ length b = omega arith in
    rw (drop-append_seam front (b ++ more), size) (take-append_seam b more)

bytes_behind : (front b more : List ℕ) → body_range (front ++ (b ++ more)) (length front) (length b) ≡ b
unfolding body_range
bytes_behind front b more =
    let inside : length front + length b ≤ length (front ++ (b ++ more)) =
    omega (arith, length-append front (b ++ more), length-append b more) in
    rw (le-leb (length front + length b) (length (front ++ (b ++ more))) inside) (cut_behind front b more)

-- there is a range for each buffer
pub ranges_length : (bs : List (List ℕ)) (start : ℕ) → length (ranges_from start bs) ≡ length bs
ranges_length [] start = refl
ranges_length (b ∷ bs) start = ap (λ (k : ℕ). suc k) (ranges_length bs (start + length (padded_buffer b)))

abbrev range_bytes : List ℕ → ℤ × ℤ → List ℕ
range_bytes body range = body_range body (unsigned_abs range.0) (unsigned_abs range.1)

-- buffer k of those behind a front
pub buffer_back : (bs : List (List ℕ)) (front : List ℕ) (k : ℕ) → k < length bs
    → range_bytes (front ++ padded_bytes bs) (get_or (ranges_from (length front) bs) k (pos 0, pos 0)) ≡ get_or bs k []
buffer_back [] front k l = absurd (omega arith)
buffer_back (b ∷ bs) front zero l =
    let zeros = replicate {A = ℕ} ((8 - length b % 8) % 8) 0 in
    ap (λ (xs : List ℕ). body_range (front ++ xs) (length front) (length b)) (append_assoc b zeros (padded_bytes bs))
    ∙ bytes_behind front b (zeros ++ padded_bytes bs)
buffer_back (b ∷ bs) front (suc k) l =
    ap (λ (xs : List ℕ). range_bytes xs (get_or (ranges_from (length front + length (padded_buffer b)) bs) k (pos 0, pos 0)))
    (sym (append_assoc front (padded_buffer b) (padded_bytes bs)))
    ∙ (ap (λ (n : ℕ). range_bytes ((front ++ padded_buffer b) ++ padded_bytes bs) (get_or (ranges_from n bs) k (pos 0, pos 0)))
    (sym (length-append front (padded_buffer b)))
    ∙ buffer_back bs (front ++ padded_buffer b) k (omega arith))

-- the ranges of buffers lie within a body that has room for all of them
pub ranges_inside : (bs : List (List ℕ)) (start size : ℕ) → start + length (padded_bytes bs) ≤ size
    → AllByRecursion (IsWithinBody size) (ranges_from start bs)
ranges_inside [] start size h = tt
ranges_inside (b ∷ bs) start size h =
    let whole = length-append (padded_buffer b) (padded_bytes bs) in
    let own = length-append b (replicate {A = ℕ} ((8 - length b % 8) % 8) 0) in
    let within : start + length b ≤ size = omega (arith, h, whole, own) in (
      record { offset = omega (arith, ints); bytes = omega (arith, ints); within = λ some. omega (arith, ints, within) },
      ranges_inside bs (start + length (padded_buffer b)) size (omega (arith, h, whole)),
    )
