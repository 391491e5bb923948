-- Numbers of one width in lanes, in blocks of 64 bytes, and in what is left behind those.
use Rattle.std.proofs.Common.{◌≡◌, ◌↔◌, ◌∙◌, refl, sym, ap, subst, arith, ℕ, zero, suc, ◌+◌, ◌-◌, ◌*◌, ◌/◌, ◌%◌, ◌^◌, ◌<◌, ◌≤◌}
use Rattle.std.proofs.Common.{List, [], ◌∷◌, ◌++◌, length, take, drop, length-drop, get_or, map, cond, ltb, leb, eqb, inl, inr}
use Rattle.std.specs.Prelude.{IsTrue, replicate}
use Rattle.std.specs.Int.{Width}
use mir.Val.{bits, hbits}
use Rattle.std.specs.Simd.{first_chunks}
use Rattle.std.specs.Simd.Lanes.{Each1, zip2, sel_l, mask_l, number_l, digits_l, top}
use Rattle.std.proofs.Math.Nat.{mod-lt, div-add-mod, mul-le-mul_left, pow-succ', one-mul}
use Rattle.std.proofs.lemmas.Nat.{pow_pos}
use Rattle.std.proofs.Math.Seq.{drop-cons}
use Rattle.std.proofs.lemmas.Bool.{cases_lt, eqb-true, eq-eqb, le-leb, lt-leb, lt-ltb, le-ltb}
use Rattle.std.proofs.lemmas.List.{get_or-drop, get_or-take, get_or_past, get_or_append_left, get_or-append_right, get_or-replicate}
use Rattle.std.proofs.lemmas.List.{take_all, drop-drop, length-map}
use Rattle.std.proofs.lemmas.Simd.{length-replicate, tops_compared, bitmask_splat, mask_l-lt, get_or_wider, Each1-get_or, Each1-from_get_or}
use Rattle.byteorder.specs.Endian.{little_from}
use Rattle.ipc_scalar.specs.Bytes.{num}

-- none is above m
abbrev pub AllUpTo : ℕ → List ℕ → Type 0
AllUpTo m xs = Each1 (λ x. x ≤ m) xs

-- the larger of two numbers
larger_one : (m x y : ℕ) → (cond (ltb x y) y x ≤ m) ↔ ((x ≤ m) × (y ≤ m))
larger_one m x y =
    elim (cases_lt x y) as (λ _. (cond (ltb x y) y x ≤ m) ↔ ((x ≤ m) × (y ≤ m))) [
      | inl l ↦ rw (lt-ltb x y l) (λ h. (omega arith, h), λ h. h.1)
      | inr l ↦ rw (le-ltb x y l) (λ h. (h, omega arith), λ h. h.0)
    ]

-- the larger of two in each lane
larger_lanes : (m : ℕ) (xs ys : List ℕ) → length xs ≡ length ys → AllUpTo m (sel_l (zip2 ltb xs ys) ys xs) ↔ (AllUpTo m xs × AllUpTo m ys)
larger_lanes m [] [] e = (λ _. (tt, tt), λ _. tt)
larger_lanes m [] (y ∷ ys) e = absurd (omega (arith, e))
larger_lanes m (x ∷ xs) [] e = absurd (omega (arith, e))
larger_lanes m (x ∷ xs) (y ∷ ys) e =
    let rest = larger_lanes m xs ys (omega (arith, e)) in
    let first = larger_one m x y in (
      λ h. (((first.0 h.0).0, (rest.0 h.1).0), ((first.0 h.0).1, (rest.0 h.1).1)),
      λ h. (first.1 (h.0.0, h.1.0), rest.1 (h.0.1, h.1.1)),
    )

-- as the processor takes it
pub larger_of : (w : Width) (m : ℕ) (xs ys : List ℕ) → length xs ≡ length ys
    → AllUpTo m (sel_l (map (top (hbits w)) (zip2 (λ a b. cond (ltb a b) (2 ^ bits w - 1) 0) xs ys)) ys xs) ↔ (AllUpTo m xs × AllUpTo m ys)
larger_of w m xs ys e = rw (tops_compared w ltb xs ys) (larger_lanes m xs ys e)

-- a full mask
full_mask : (m : ℕ) (xs : List ℕ) → (mask_l (map (λ x. leb x m) xs) + 1 ≡ 2 ^ length xs) ↔ AllUpTo m xs
full_mask m [] = (λ _. tt, λ _. refl)
full_mask m (x ∷ xs) =
    let rest = full_mask m xs in
    let room = mask_l-lt (map (λ x. leb x m) xs) in
    let same : length (map (λ x. leb x m) xs) ≡ length xs = simp length-map in
    let small : mask_l (map (λ x. leb x m) xs) < 2 ^ length xs = subst (λ (n : ℕ). mask_l (map (λ x. leb x m) xs) < 2 ^ n) same room in
    let twice : 2 ^ length (x ∷ xs) ≡ 2 * 2 ^ length xs = pow-succ' 2 (length xs) in
    elim (cases_lt m x) as (λ _. (mask_l (map (λ x. leb x m) (x ∷ xs)) + 1 ≡ 2 ^ length (x ∷ xs)) ↔ AllUpTo m (x ∷ xs)) [
      | inl l ↦ rw (lt-leb x m l, twice) (λ h. absurd (omega (arith, h, small)), λ h. absurd (omega (arith, h.0)))
      | inr l ↦ rw (le-leb x m l, twice) (λ h. (l, rest.0 (omega (arith, h))), λ h. let e = rest.1 h.1 in omega (arith, e))
    ]

-- as the processor takes it
pub all_of : (w : Width) (m n : ℕ) (xs : List ℕ) → length xs ≡ n → n ≤ 64
    → IsTrue (eqb (mask_l (map (top (hbits w)) (zip2 (λ a b. cond (leb a b) (2 ^ bits w - 1) 0) xs (replicate n m))) % 2 ^ 64) (2 ^ n -
    1)) ↔ AllUpTo m xs
all_of w m n xs long few =
    let full = rw long at (full_mask m xs) in
    let pos = pow_pos n in
    rw (bitmask_splat w leb xs n m long few) (
      λ h. full.0 (omega (arith, eqb-true _ _ h, pos)),
      λ h. let e = full.1 h in eq-eqb _ _ (omega (arith, e)),
    )

-- a number of some bytes that are cut out
number_little : (w i : ℕ) (b : List ℕ) → i + w ≤ length b → number_l 256 (take w (drop i b)) ≡ little_from i w b
number_little zero i b h = refl
number_little (suc w) i b h =
    let rest = number_little w (suc i) b (omega (arith, h)) in
    rw (drop-cons b i 0 (omega (arith, h))) (ap (λ (n : ℕ). get_or b i 0 + 256 * n) rest)

length-digits : (q n x : ℕ) → length (digits_l q n x) ≡ n
length-digits q zero x = refl
length-digits q (suc n) x = ap suc (length-digits q n (x / q))

bytes_small : (xs : List ℕ) → ((k : ℕ) → get_or xs k 0 < 256) → Each1 (λ x. x < 256) xs
bytes_small xs small = Each1-from_get_or (λ x. x < 256) xs 0 (λ i h. small i)

-- the numbers in the lanes of a block
pub lanes_of : (w n m : ℕ) (b : List ℕ) → w * n ≡ 64 → length b ≡ 64 → ((k : ℕ) → get_or b k 0 < 256)
    → AllUpTo m (digits_l (256 ^ w) n (number_l 256 (take 64 b))) ↔ ((k : ℕ) → k < n → num b (w * k) w ≤ m)
unfolding num
lanes_of w n m b whole long small = rw (take_all 64 b (omega (arith, long))) (
  λ h k l. rw (sym (lane k l)) (Each1-get_or (λ x. x ≤ m) lanes k 0 (omega (arith, size, l)) h),
  λ h. Each1-from_get_or (λ x. x ≤ m) lanes 0 (λ k l. rw (lane k (omega (arith, size, l))) (h k (omega (arith, size, l)))),
)
  where
    lanes : List ℕ
    lanes = digits_l (256 ^ w) n (number_l 256 b)

    size : length lanes ≡ n
    size = length-digits (256 ^ w) n (number_l 256 b)

    lane : (k : ℕ) → k < n → get_or lanes k 0 ≡ little_from (w * k) w b
    lane k l =
        let inside = mul-le-mul_left w (let s : k + 1 ≤ n = omega arith in s) in
        get_or_wider 256 w (256 ^ w) n b k refl (bytes_small b small) l ∙ number_little w (w * k) b (omega (arith, inside, whole, long))

-- the same of bytes
pub lanes_of_bytes : (m : ℕ) (b : List ℕ) → length b ≡ 64 → AllUpTo m (take 64 (drop 0 b)) ↔ ((k : ℕ) → k < 64 → num b (1 * k) 1 ≤ m)
unfolding num
lanes_of_bytes m b long = rw (take_all 64 b (omega (arith, long))) (
  λ h k l. rw one-mul (omega (arith, Each1-get_or (λ x. x ≤ m) b k 0 (omega (arith, l, long)) h)),
  λ h. Each1-from_get_or (λ x. x ≤ m) b 0 (λ k l. let n = rw one-mul at (h k (omega (arith, l, long))) in omega (arith, n)),
)

-- numbers of which the bytes are the same
num_same : (w p q : ℕ) (a b : List ℕ) → ((k : ℕ) → k < w → get_or a (p + k) 0 ≡ get_or b (q + k) 0) → little_from p w a ≡ little_from q w b
num_same zero p q a b same = refl
num_same (suc w) p q a b same =
    let first : get_or a p 0 ≡ get_or b q 0 = ap (λ (n : ℕ). get_or a n 0) (omega arith) ∙ (same 0 (omega arith) ∙ ap (λ (n : ℕ). get_or
    b n 0) (omega arith)) in
    let rest = num_same w (suc p) (suc q) a b (λ k l. ap (λ (n : ℕ). get_or a n 0) (omega arith) ∙ (same (suc k) (omega (arith, l)) ∙ ap
    (λ (n : ℕ). get_or b n 0) (omega arith))) in
    omega (arith, first, rest)

-- a number of bytes that are all 0
num_zeros : (w p : ℕ) (a : List ℕ) → ((k : ℕ) → p ≤ k → get_or a k 0 ≡ 0) → little_from p w a ≡ 0
num_zeros zero p a none = refl
num_zeros (suc w) p a none =
    let rest = num_zeros w (suc p) a (λ k l. none k (omega (arith, l))) in
    omega (arith, none p (omega arith), rest)

-- the block behind j others
block_at : (w k j : ℕ) (xs d : List ℕ) → j < k → get_or (first_chunks w k xs) j d ≡ take w (drop (w * j) xs)
block_at w zero j xs d inside = absurd (omega (arith, inside))
block_at w (suc k) zero xs d inside = let e : w * 0 ≡ 0 = omega arith in rw e refl
block_at w (suc k) (suc j) xs d inside =
    let place : w + w * j ≡ w * suc j = omega arith in
    block_at w k j (drop w xs) d (omega (arith, inside)) ∙ (ap (take w) (drop-drop (w * j) w xs) ∙ ap (λ (n : ℕ). take w (drop n xs)) place)

-- a number in a block is one in the whole
num_in_block : (w p q : ℕ) (b : List ℕ) → q + w ≤ 64 → num (take 64 (drop p b)) q w ≡ num b (p + q) w
unfolding num
num_in_block w p q b h = num_same w q (p + q) (take 64 (drop p b)) b (λ k l.
    get_or-take 64 (drop p b) (q + k) 0 (omega (arith, h, l)) ∙ (get_or-drop p b (q + k) 0 ∙ ap (λ (n : ℕ). get_or b n 0) (omega arith)))

-- so is one in what is left behind the blocks
num_in_rest : (w p q : ℕ) (b z : List ℕ) → q + w ≤ length (drop p b) → num (drop p b ++ z) q w ≡ num b (p + q) w
unfolding num
num_in_rest w p q b z h = num_same w q (p + q) (drop p b ++ z) b (λ k l.
    get_or_append_left (drop p b) z 0 (q + k) (omega (arith, h, l)) ∙ (get_or-drop p b (q + k) 0 ∙ ap (λ (n : ℕ). get_or b n 0) (omega
    arith)))

-- so many bytes that are 0
abbrev pub zeros : ℕ → List ℕ
zeros r = replicate r 0

-- and what is filled up is 0
num_filled : (w q r : ℕ) (a : List ℕ) → length a ≤ q → num (a ++ zeros r) q w ≡ 0
unfolding num
num_filled w q r a h = num_zeros w q (a ++ zeros r) (λ k l.
    get_or-append_right a (zeros r) (length a) k 0 refl (omega (arith, h, l)) ∙ zero_at (k - length a))
  where
    zero_at : (i : ℕ) → get_or (zeros r) i 0 ≡ 0
    zero_at i = elim (cases_lt i r) as (λ _. get_or (zeros r) i 0 ≡ 0) [
      | inl l ↦ get_or-replicate r i 0 0 l
      | inr l ↦ get_or_past (zeros r) i 0 (rw (length-replicate {A = ℕ} r 0) l)
    ]

-- where number i stands that is behind j blocks and k numbers more
place_in : (w n j k : ℕ) → w * n ≡ 64 → w * (n * j + k) ≡ 64 * j + w * k
place_in w n j k whole = let e : w * n * j ≡ 64 * j = ap (λ (x : ℕ). x * j) whole in omega (arith, e)

-- a number that begins inside ends inside
ends_in : (w i size : ℕ) → size % w ≡ 0 → w * i < size → w * i + w ≤ size
ends_in w i size even h =
    let split = div-add-mod size w in
    elim (cases_lt i (size / w)) as (λ _. w * i + w ≤ size) [
      | inl l ↦ let more = mul-le-mul_left w (let s : i + 1 ≤ size / w = omega arith in s) in omega (arith, split, even, more)
      | inr l ↦ let less = mul-le-mul_left w l in absurd (omega (arith, split, even, less, h))
    ]

-- two numbers whose product isn't 0
factor : (w n : ℕ) → w * n ≡ 64 → 0 < n
factor w n whole = elim (cases_lt 0 n) as (λ _. 0 < n) [
  | inl l ↦ l
  | inr l ↦ let e : w * n ≡ w * 0 = ap (λ (x : ℕ). w * x) (omega arith) in absurd (omega (arith, whole, e))
]

-- numbers in the blocks and in what is left, filled up, are all numbers
pub all_numbers : (w n m : ℕ) (b : List ℕ) (blocks : List (List ℕ)) (filled : List ℕ) (r : ℕ) → w * n ≡ 64 → length b % w ≡ 0
    → blocks ≡ first_chunks 64 (length b / 64) b → filled ≡ drop (length b / 64 * 64) b ++ zeros r
    → (((k : ℕ) → k < n → num filled (w * k) w ≤ m)
    × ((j : ℕ) → j < length b / 64 → (k : ℕ) → k < n → num (get_or blocks j []) (w * k) w ≤ m))
    ↔ ((i : ℕ) → w * i < length b → num b (w * i) w ≤ m)
all_numbers w n m b blocks filled r whole even cut back = (to, from)
  where
    some : 0 < n
    some = factor w n whole

    wide : 0 < w
    wide = let e : n * w ≡ 64 = omega (arith, whole) in factor n w e

    after : length (drop (length b / 64 * 64) b) ≡ length b - length b / 64 * 64
    after = length-drop (length b / 64 * 64) b

    in_block : (j k : ℕ) → j < length b / 64 → k < n → num (get_or blocks j []) (w * k) w ≡ num b (w * (n * j + k)) w
    in_block j k l h =
        let inside = mul-le-mul_left w (let s : k + 1 ≤ n = omega arith in s) in
        ap (λ (c : List (List ℕ)). num (get_or c j []) (w * k) w) cut
        ∙ (ap (λ (c : List ℕ). num c (w * k) w) (block_at 64 (length b / 64) j b [] l)
        ∙ (num_in_block w (64 * j) (w * k) b (omega (arith, inside, whole))
        ∙ ap (λ (p : ℕ). num b p w) (sym (place_in w n j k whole))))

    in_rest : (k : ℕ) → w * k + w ≤ length (drop (length b / 64 * 64) b) → num filled (w * k) w ≡ num b (w * (n * (length b / 64) + k)) w
    in_rest k h =
        let place : length b / 64 * 64 + w * k ≡ w * (n * (length b / 64) + k) = omega (arith, place_in w n (length b / 64) k whole) in
        ap (λ (c : List ℕ). num c (w * k) w) back
        ∙ (num_in_rest w (length b / 64 * 64) (w * k) b (zeros r) h ∙ ap (λ (p : ℕ). num b p w) place)

    to : (((k : ℕ) → k < n → num filled (w * k) w ≤ m)
        × ((j : ℕ) → j < length b / 64 → (k : ℕ) → k < n → num (get_or blocks j []) (w * k) w ≤ m))
        → (i : ℕ) → w * i < length b → num b (w * i) w ≤ m
    to h i l =
        let split = div-add-mod i n in
        let small = mod-lt i some in
        let place = place_in w n (i / n) (i % n) whole in
        let here : w * i ≡ 64 * (i / n) + w * (i % n) = ap (λ (x : ℕ). w * x) (sym split) ∙ place in
        elim (cases_lt (i / n) (length b / 64)) as (λ _. num b (w * i) w ≤ m) [
          | inl c ↦ let e : num b (w * (n * (i / n) + i % n)) w ≡ num b (w * i) w = ap (λ (x : ℕ). num b (w * x) w) split in
              omega (arith, h.1 (i / n) c (i % n) small, in_block (i / n) (i % n) c small, e)
          | inr c ↦ let last : i / n ≡ length b / 64 = omega (arith, here, l, c) in
              let e : num b (w * (n * (length b / 64) + i % n)) w ≡ num b (w * i) w = ap (λ (x : ℕ). num b (w * x) w) (rw last at split) in
              let end = ends_in w i (length b) even l in
              omega (arith, h.0 (i % n) small, in_rest (i % n) (omega (arith, after, end, here, last)), e)
        ]

    from : ((i : ℕ) → w * i < length b → num b (w * i) w ≤ m) → ((k : ℕ) → k < n → num filled (w * k) w ≤ m)
        × ((j : ℕ) → j < length b / 64 → (k : ℕ) → k < n → num (get_or blocks j []) (w * k) w ≤ m)
    from h = (
      λ k l. elim (cases_lt (w * k) (length (drop (length b / 64 * 64) b))) as (λ _. num filled (w * k) w ≤ m) [
        | inl c ↦ let place = place_in w n (length b / 64) k whole in
            let inside : w * (n * (length b / 64) + k) < length b = omega (arith, place, c, after) in
            let end = ends_in w (n * (length b / 64) + k) (length b) even inside in
            omega (arith, h (n * (length b / 64) + k) inside, in_rest k (omega (arith, place, end, after)))
        | inr c ↦ omega (arith, ap (λ (c : List ℕ). num c (w * k) w) back, num_filled w (w * k) r (drop (length b / 64 * 64) b) c)
      ],
      λ j l k t.
          let place = place_in w n j k whole in
          let room = mul-le-mul_left w (let s : k + 1 ≤ n = omega arith in s) in
          omega (arith, h (n * j + k) (omega (arith, place, room, whole, wide, l)), in_block j k l t),
    )
