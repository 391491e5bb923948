-- Parts that are written to a target, one after another.
use Rattle.std.proofs.Common.{◌≡◌, ◌∙◌, refl, sym, ap, subst, ℕ, ◌+◌, ◌*◌, ◌≤◌, ◌<◌, List, [], ◌∷◌, ◌++◌, length, take, drop, get_or, arith}
use Rattle.std.proofs.lemmas.List.{append_assoc, drop-drop, drop_more, length-append, length-drop, length-take-le}
use Rattle.std.proofs.lemmas.List.{take-append-drop, take_at}
use Rattle.std.proofs.Math.ListN.{drop_of_length-le}
use Rattle.std.proofs.Math.Seq.{drop-append-add}
use Rattle.std.specs.Prelude.{ℤ, pos}
use Rattle.ipc_encode.specs.Segments.{bytes_of_segments, segment_bytes}
use Rattle.ipc_encode.specs.declared.segments.Segment.{Segment}
use Rattle.ipc_stream.specs.Canonical.{Replaces, flat}

-- the target keeps its length
pub same_length : {T : Type 0} (at : ℕ) (part old new : List T) → (at + length part) ≤ length old → Replaces at part old new
    → length new ≡ length old
same_length at part old new fits put = omega (
  arith,
  fits,
  ap length put,
  length-append (take at old) (part ++ drop (at + length part) old),
  length-append part (drop (at + length part) old),
  length-drop (at + length part) old,
  length-take-le at old (omega (arith, fits)),
)

-- a part is written, and then the next one after it
pub next_part : {T : Type 0} (at : ℕ) (part more old mid new : List T) → (at + length part) ≤ length old → Replaces at part old mid
    → Replaces (at + length part) more mid new → Replaces at (part ++ more) old new
next_part at part more old mid new fits first second =
    let len : length (take at old) ≡ at = length-take-le at old (omega (arith, fits)) in
    let n = at + length part in
    let e = drop (n + length more) old in
    let front-len : length (take at old ++ part) ≡ n = length-append (take at old) part ∙ ap (λ k. k + length part) len in
    let split : mid ≡ (take at old ++ part) ++ drop n old = first ∙ sym (append_assoc (take at old) part (drop n old)) in
    let front : take n mid ≡ take at old ++ part = ap (take n) split ∙ take_at (take at old ++ part) (drop n old) n front-len in
    let back : drop (n + length more) mid ≡ e =
    ap (λ k. drop (k + length more) mid) (sym front-len)
    ∙ (ap (drop (length (take at old ++ part) + length more)) split
    ∙ (drop-append-add (take at old ++ part) (drop n old) (length more) ∙ drop-drop (length more) n old)) in
    let counted : at + length (part ++ more) ≡ n + length more = omega (arith, length-append part more) in
    let ends : drop (at + length (part ++ more)) old ≡ e = ap (λ k. drop k old) counted in
    let a = append_assoc (take at old) part (more ++ e) in
    let b = append_assoc part more e in
    cc (second, front, back, ends, a, b)

-- ---- segments

-- the first of the segments from number i on
first_left : (segments : List Segment) (i : ℕ) (item : Segment) → i < length segments → item ≡ get_or segments i item
    → bytes_of_segments (drop i segments) ≡ segment_bytes item ++ bytes_of_segments (drop (i + 1) segments)
first_left segments i item below is = ap bytes_of_segments (drop_more segments i item below)
    ∙ ap (λ s. segment_bytes s ++ bytes_of_segments (drop (i + 1) segments)) (sym is)

-- one segment more is written
pub more_put : (segments : List Segment) (i : ℕ) (item : Segment) (at : ℕ) (now first old mid : List ℕ)
    → now ≡ segment_bytes item → i < length segments → item ≡ get_or segments i item
    → ((new : List ℕ) → Replaces at (bytes_of_segments (drop i segments)) old new → Replaces 0 (bytes_of_segments segments) first new)
    → (at + length (bytes_of_segments (drop i segments))) ≤ length old
    → Replaces at now old mid
    → ((new : List ℕ) → Replaces (at + length now) (bytes_of_segments (drop (i + 1) segments)) mid new
    → Replaces 0 (bytes_of_segments segments) first new)
    × ((at + length now + length (bytes_of_segments (drop (i + 1) segments))) ≤ length mid)
more_put segments i item at now first old mid same below is whole fits put =
    let rest = bytes_of_segments (drop (i + 1) segments) in
    let left = first_left segments i item below is ∙ ap (λ xs. xs ++ rest) (sym same) in
    let room : (at + length (now ++ rest)) ≤ length old = subst (λ xs. (at + length xs) ≤ length old) left fits in
    let few : (at + length now) ≤ length old = omega (arith, room, length-append now rest) in (
      λ new then. whole new (subst (λ xs. Replaces at xs old new) (sym left) (next_part at now rest old mid new few put then)),
      omega (arith, room, length-append now rest, same_length at now old mid few put),
    )

-- all segments are written
pub all_put : (segments : List Segment) (i at : ℕ) (first old : List ℕ) → length segments ≤ i
    → ((new : List ℕ) → Replaces at (bytes_of_segments (drop i segments)) old new → Replaces 0 (bytes_of_segments segments) first new)
    → Replaces 0 (bytes_of_segments segments) first old
all_put segments i at first old over whole =
    let none : bytes_of_segments (drop i segments) ≡ [] = ap bytes_of_segments (drop_of_length-le segments over) in
    whole old (subst (λ xs. Replaces at xs old old) (sym none)
    (subst (λ n. old ≡ take at old ++ drop n old) (omega arith) (sym (take-append-drop at old))))

-- there is room for the next segment
pub room_for_segment : (segments : List Segment) (i at : ℕ) (item : Segment) (now old : List ℕ) → now ≡ segment_bytes item
    → i < length segments → item ≡ get_or segments i item → (at + length (bytes_of_segments (drop i segments))) ≤ length old
    → (at + length now) ≤ length old
room_for_segment segments i at item now old same below is fits =
    let room = subst (λ xs. (at + length xs) ≤ length old) (first_left segments i item below is) fits in
    omega (arith, room, ap length same, length-append (segment_bytes item) (bytes_of_segments (drop (i + 1) segments)))

-- ---- pairs

abbrev pub pair_at : List (ℤ × ℤ) → ℕ → ℤ × ℤ
pair_at pairs i = get_or pairs i (pos 0, pos 0)

-- the first of the pairs from number i on
first_pair : (pairs : List (ℤ × ℤ)) (i : ℕ) → i < length pairs
    → flat (drop i pairs) ≡ ((pair_at pairs i).0 ∷ (pair_at pairs i).1 ∷ []) ++ flat (drop (i + 1) pairs)
first_pair pairs i below = ap flat (drop_more pairs i (pos 0, pos 0) below)

-- one pair more is written
pub more_pairs : (pairs : List (ℤ × ℤ)) (i from at : ℕ) (first old mid : List ℤ) → i < length pairs
    → ((new : List ℤ) → Replaces at (flat (drop i pairs)) old new → Replaces from (flat pairs) first new)
    → (at + length (flat (drop i pairs))) ≤ length old
    → Replaces at ((pair_at pairs i).0 ∷ (pair_at pairs i).1 ∷ []) old mid
    → ((new : List ℤ) → Replaces (at + 2) (flat (drop (i + 1) pairs)) mid new → Replaces from (flat pairs) first new)
    × ((at + 2 + length (flat (drop (i + 1) pairs))) ≤ length mid)
more_pairs pairs i from at first old mid below whole fits put =
    let now : List ℤ = (pair_at pairs i).0 ∷ (pair_at pairs i).1 ∷ [] in
    let rest = flat (drop (i + 1) pairs) in
    let left = first_pair pairs i below in
    let room : (at + length (now ++ rest)) ≤ length old = subst (λ xs. (at + length xs) ≤ length old) left fits in
    let few : (at + length now) ≤ length old = omega (arith, room, length-append now rest) in (
      λ new then. whole new (subst (λ xs. Replaces at xs old new) (sym left) (next_part at now rest old mid new few put then)),
      omega (arith, room, length-append now rest, same_length at now old mid few put),
    )

-- all pairs are written
pub all_pairs : (pairs : List (ℤ × ℤ)) (i from at : ℕ) (first old : List ℤ) → length pairs ≤ i
    → ((new : List ℤ) → Replaces at (flat (drop i pairs)) old new → Replaces from (flat pairs) first new)
    → Replaces from (flat pairs) first old
all_pairs pairs i from at first old over whole =
    let none : flat (drop i pairs) ≡ [] = ap flat (drop_of_length-le pairs over) in
    whole old (subst (λ xs. Replaces at xs old old) (sym none)
    (subst (λ n. old ≡ take at old ++ drop n old) (omega arith) (sym (take-append-drop at old))))

-- there is room for the next pair
pub room_for_pair : (pairs : List (ℤ × ℤ)) (i at : ℕ) (old : List ℤ) → i < length pairs
    → (at + length (flat (drop i pairs))) ≤ length old → (at + 2) ≤ length old
room_for_pair pairs i at old below fits =
    let room = subst (λ xs. (at + length xs) ≤ length old) (first_pair pairs i below) fits in
    omega (arith, room, length-append ((pair_at pairs i).0 ∷ (pair_at pairs i).1 ∷ []) (flat (drop (i + 1) pairs)))

pub flat_length : (pairs : List (ℤ × ℤ)) → length (flat pairs) ≡ 2 * length pairs
flat_length [] = refl
flat_length (p ∷ ps) = let ih = flat_length ps in omega (arith, ih)
