-- Packed bits: what they hold, whole bytes of them, and the nulls that they mark.
use Rattle.std.proofs.Common.{subst, ◌≡◌, ◌∙◌, refl, ap, ℕ, zero, suc, ◌+◌, ◌*◌, ◌/◌, ◌%◌, ◌<◌, ◌≤◌, Bool, true, false, cond, List, [], ◌∷◌}
use Rattle.std.proofs.Common.{length, take, drop, get_or, drop-cons, drop-drop, get_or-take, get_or-drop, arith, sym, ◌-◌, ◌^◌, ◌++◌}
use Rattle.std.proofs.Common.{take_all, length-append, length-take, replicate, inl, inr, length-drop, add-one}
use Rattle.std.proofs.Math.ListN.{get_or-eq_default}
use Rattle.std.proofs.Math.Pow.{pow_mono}
use Rattle.std.proofs.lemmas.Bool.{cases_lt, eqb-true, eqb-false, ne_eqb}
use Rattle.std.proofs.lemmas.List.{take-append-le, length-replicate, length-take-le, take_more}
use Rattle.std.proofs.lemmas.List as lists
use Rattle.std.proofs.lemmas.Nat.{one_shl}
use Rattle.std.proofs.lemmas.Nat.Bits.{bit_at-zero, bit_at_lowest, bit_at-suc}
use Rattle.std.specs.Int.{bit_at}
use Rattle.std.specs.Int.Bits.{or_shifted_r}
use Rattle.std.specs.Prelude.{◌==◌, slice_set, bit_or, not}
use Rattle.ipc_scalar.specs.Bytes.{bit, clear}
use Rattle.ipc_model.specs.declared.value.Value.{Value, out-Value}
use Rattle.ipc_model.specs.declared.value.Value.TheVariants.{Null}
use Rattle.ipc_model.specs.declared.value.Value.TheVariants as v
use Rattle.ipc_column.specs.Lending.{MarksNulls}
use Rattle.ipc_column.specs.Slots.{is_null}
use Rattle.ipc_column.specs.Values.{is_valid}
use Rattle.ipc_encode.specs.Bitmaps.{flags_number, flags_bytes, bitmap}
use Rattle.ipc_encode.specs.Cells.{is_set, flags, nulls}
use Rattle.ipc_encode.specs.Pieces.{Flag, Valid}
use Rattle.ipc_encode.proofs.Steps.{nulls_push}
use mir.Val.{bool_byte}

-- ---- the bits of packed flags

-- flags that are packed in n bytes have n bytes
pub length_bytes : (n : ℕ) (fs : List Bool) → length (flags_bytes n fs) ≡ n
length_bytes zero fs = refl
length_bytes (suc n) fs = ap (λ (k : ℕ). suc k) (length_bytes n (drop 8 fs))

-- bit r of the number is flag r
number_bit : (fs : List Bool) (r : ℕ) → bit_at (flags_number fs) r ≡ cond (get_or fs r false) 1 0
number_bit [] r = bit_at-zero r
number_bit (true ∷ fs) zero = bit_at_lowest (1 + 2 * flags_number fs) ∙ (omega arith)
number_bit (false ∷ fs) zero = bit_at_lowest (0 + 2 * flags_number fs) ∙ (omega arith)
number_bit (true ∷ fs) (suc r) =
    let half : (1 + 2 * flags_number fs) / 2 ≡ flags_number fs = omega arith in
    bit_at-suc (1 + 2 * flags_number fs) r ∙ (ap (λ (n : ℕ). bit_at n r) half ∙ number_bit fs r)
number_bit (false ∷ fs) (suc r) =
    let half : (0 + 2 * flags_number fs) / 2 ≡ flags_number fs = omega arith in
    bit_at-suc (0 + 2 * flags_number fs) r ∙ (ap (λ (n : ℕ). bit_at n r) half ∙ number_bit fs r)

-- byte k packs the flags from 8 k on
byte_is : (n k : ℕ) (fs : List Bool) → k < n → get_or (flags_bytes n fs) k 0 ≡ flags_number (take 8 (drop (8 * k) fs))
byte_is zero k fs l = absurd (omega arith)
byte_is (suc n) zero fs l = refl
byte_is (suc n) (suc k) fs l =
    let e : 8 + 8 * k ≡ 8 * suc k = omega arith in
    byte_is n k (drop 8 fs) (omega arith)
    ∙ ap (λ (d : List Bool). flags_number (take 8 d)) (drop-drop (8 * k) 8 fs ∙ ap (λ (m : ℕ). drop m fs) e)

truth : (b : Bool) → (cond b 1 0 == 1) ≡ b
truth true = refl
truth false = refl

-- bit i is flag i
pub bit_is : (fs : List Bool) (i : ℕ) → i < length fs → bit (bitmap fs) i ≡ get_or fs i false
unfolding bit
bit_is fs i l =
    let byte = byte_is ((length fs + 7) / 8) (i / 8) fs (omega arith) in
    let own = number_bit (take 8 (drop (8 * (i / 8)) fs)) (i % 8) in
    let small : i % 8 < 8 = omega arith in
    let place : 8 * (i / 8) + i % 8 ≡ i = omega arith in
    let flag = get_or-take 8 (drop (8 * (i / 8)) fs) (i % 8) false small
    ∙ (get_or-drop (8 * (i / 8)) fs (i % 8) false ∙ ap (λ (k : ℕ). get_or fs k false) place) in
    rw (byte, own, flag) (truth (get_or fs i false))

-- there is a flag for each value
pub flags_length : (which : Flag) (vs : List Value) → length (flags which vs) ≡ length vs
flags_length which [] = refl
flags_length which (v ∷ vs) = ap (λ (k : ℕ). suc k) (flags_length which vs)

-- flag i is that of value i
pub flag_at : (which : Flag) (vs : List Value) (i : ℕ) (d : Value) → i < length vs
    → get_or (flags which vs) i false ≡ is_set which (get_or vs i d)
flag_at which [] i d l = absurd (omega arith)
flag_at which (v ∷ vs) zero d l = refl
flag_at which (v ∷ vs) (suc i) d l = flag_at which vs i d (omega arith)

-- the bit of a value is its flag
pub bit_of : (which : Flag) (vs : List Value) (i : ℕ) (d : Value) → i < length vs
    → bit (bitmap (flags which vs)) i ≡ is_set which (get_or vs i d)
bit_of which vs i d l =
    let size = flags_length which vs in
    bit_is (flags which vs) i (omega (arith, size)) ∙ flag_at which vs i d l

nulls_from : (vs : List Value) (i : ℕ) (d : Value) → i < length vs
    → nulls (drop i vs) ≡ cond (is_set Valid (get_or vs i d)) 0 1 + nulls (drop (suc i) vs)
nulls_from vs i d l = rw (drop-cons vs i d) refl

-- the clear bits so far and the nulls that are left
pub clear_so_far : (vs : List Value) (k : ℕ) (d : Value) → k ≤ length vs → clear (bitmap (flags Valid vs)) k + nulls (drop k vs) ≡ nulls vs
unfolding clear
clear_so_far vs zero d l = omega arith
clear_so_far vs (suc k) d l =
    let before = clear_so_far vs k d (omega arith) in
    let here = nulls_from vs k d (omega arith) in
    let step : clear (bitmap (flags Valid vs)) (suc k) ≡ clear (bitmap (flags Valid vs)) k + cond (bit (bitmap (flags Valid vs)) k) 0 1 =
    refl in
    let same : cond {A = ℕ} (bit (bitmap (flags Valid vs)) k) 0 1 ≡ cond {A = ℕ} (is_set Valid (get_or vs k d)) 0 1 =
    ap (λ (b : Bool). cond {A = ℕ} b 0 1) (bit_of Valid vs k d (omega arith)) in
    omega (arith, before, here, step, same)

drop_rest : (vs : List Value) → nulls (drop (length vs) vs) ≡ 0
drop_rest [] = refl
drop_rest (v ∷ vs) = drop_rest vs

-- the clear bits of the validity bitmap are the nulls
pub clear_is : (vs : List Value) (d : Value) → clear (bitmap (flags Valid vs)) (length vs) ≡ nulls vs
clear_is vs d =
    let all = clear_so_far vs (length vs) d (omega arith) in
    let rest = drop_rest vs in
    omega (arith, all, rest)

-- ---- flags that are packed one at a time

-- the number of some flags is below the power of two of their number
pub flags_number-lt : (fs : List Bool) (n : ℕ) → length fs ≤ n → flags_number fs < 2 ^ n
flags_number-lt [] n h = let g = pow_mono {i = 0} {j = n} (omega arith) in omega (arith, g)
flags_number-lt (f ∷ fs) zero h = absurd (omega arith)
flags_number-lt (true ∷ fs) (suc n) h = let g = flags_number-lt fs n (omega arith) in let e : 2 ^ suc n ≡ 2 * 2 ^ n =
    omega arith in rw e (omega (arith, g))
flags_number-lt (false ∷ fs) (suc n) h = let g = flags_number-lt fs n (omega arith) in let e : 2 ^ suc n ≡ 2 * 2 ^ n =
    omega arith in rw e (omega (arith, g))

-- one flag more is the bit above the others
flags_number_push : (fs : List Bool) (f : Bool) → flags_number (fs ++ f ∷ []) ≡ flags_number fs + cond f (2 ^ length fs) 0
flags_number_push [] true = refl
flags_number_push [] false = refl
flags_number_push (g ∷ fs) true =
    let more = flags_number_push fs true in
    let e : 2 ^ suc (length fs) ≡ 2 * 2 ^ length fs = omega arith in
    rw e (omega (arith, more))
flags_number_push (g ∷ fs) false = let more = flags_number_push fs false in omega (arith, more)

take_front : (fs : List Bool) (f : Bool) → 8 ≤ length fs → take 8 (fs ++ f ∷ []) ≡ take 8 fs
take_front fs f h = take-append-le 8 fs (f ∷ []) h

drop_front : (n : ℕ) (fs : List Bool) (f : Bool) → n ≤ length fs → drop n (fs ++ f ∷ []) ≡ drop n fs ++ f ∷ []
drop_front zero fs f h = refl
drop_front (suc n) [] f h = absurd (omega arith)
drop_front (suc n) (g ∷ fs) f h = drop_front n fs f (omega arith)

drop_length : (n : ℕ) (fs : List Bool) (m : ℕ) → length fs ≡ n + m → length (drop n fs) ≡ m
drop_length zero fs m h = h ∙ (omega arith)
drop_length (suc n) [] m h = absurd (omega arith)
drop_length (suc n) (g ∷ fs) m h = drop_length n fs m (omega arith)

-- behind whole bytes one flag more is a byte more
pub byte_more : (n : ℕ) (fs : List Bool) (f : Bool) → length fs ≡ 8 * n
    → flags_bytes (suc n) (fs ++ f ∷ []) ≡ flags_bytes n fs ++ cond f 1 0 ∷ []
byte_more zero [] true h = refl
byte_more zero [] false h = refl
byte_more zero (g ∷ fs) f h = absurd (omega arith)
byte_more (suc n) fs f h =
    let front = take_front fs f (omega arith) in
    let rest = drop_front 8 fs f (omega arith) in
    let more = byte_more n (drop 8 fs) f (drop_length 8 fs (8 * n) (omega arith)) in
    rw (front, rest, more) refl

-- within a byte it is a bit more in the last one
pub bit_more : (n : ℕ) (fs : List Bool) (f : Bool) (r d : ℕ) → length fs ≡ 8 * n + r → r < 8 → (k : ℕ) → k ≡ n
    → flags_bytes (suc n) (fs ++ f ∷ [])
    ≡ slice_set (flags_bytes (suc n) fs) k (get_or (flags_bytes (suc n) fs) k d + cond f (2 ^ r) 0)
bit_more zero fs f r d h l k e =
    let whole : take 8 fs ≡ fs = take_all 8 fs (omega arith) in
    let size = length-append fs (f ∷ []) in
    let more : take 8 (fs ++ f ∷ []) ≡ fs ++ f ∷ [] = take_all 8 (fs ++ f ∷ []) (omega (arith, size)) in
    let same : length fs ≡ r = omega arith in
    rw (e, more, whole, flags_number_push fs f, same) refl
bit_more (suc n) fs f r d h l k e =
    let front = take_front fs f (omega arith) in
    let rest = drop_front 8 fs f (omega arith) in
    let more = bit_more n (drop 8 fs) f r d (drop_length 8 fs (8 * n + r) (omega arith)) l n refl in
    rw (e, front, rest, more) refl

-- the last byte has no bit set above the flags in it
pub last_small : (n : ℕ) (fs : List Bool) (r d : ℕ) → length fs ≡ 8 * n + r → get_or (flags_bytes (suc n) fs) n d < 2 ^ r
last_small zero fs r d h = last_one
  where
    last_one : flags_number (take 8 fs) < 2 ^ r
    last_one = let small : length (take 8 fs) ≤ r = omega (arith, length-take 8 fs) in flags_number-lt (take 8 fs) r small
last_small (suc n) fs r d h = last_small n (drop 8 fs) r d (drop_length 8 fs (8 * n + r) (omega arith))

-- ---- a bit more

-- a bit put above those of a byte
or_bit : (bit : Bool) (byte r : ℕ) → byte < 2 ^ r → r < 8 → bit_or byte (bool_byte bit * 2 ^ r % 256) ≡ byte + cond bit (2 ^ r) 0
or_bit true byte r small l =
    let whole : 1 * 2 ^ r % 256 ≡ 2 ^ r = one_shl r 8 l in
    let one : 1 * 2 ^ r ≡ 2 ^ r = omega arith in
    rw (whole, ← one, or_shifted_r 1 r byte small) (omega arith)
or_bit false byte r small l =
    let none : 0 * 2 ^ r % 256 ≡ 0 * 2 ^ r = omega arith in
    rw (none, or_shifted_r 0 r byte small) (omega arith)

-- a bit more in the last byte
pub put_bit : (flags : List Bool) (bits : ℕ) (bit : Bool) (items : List ℕ) (byte d : ℕ) → length flags ≡ bits → items ≡ bitmap flags
    → bits / 8 < length items → byte ≡ get_or items (bits / 8) d
    → slice_set items (bits / 8) (bit_or byte (bool_byte bit * 2 ^ (bits % 8) % 256)) ≡ bitmap (flags ++ bit ∷ [])
put_bit flags bits bit items byte d size packed l e =
    let r : bits % 8 < 8 = omega arith in
    let old = length_bytes ((length flags + 7) / 8) flags in
    let inside : bits / 8 < (length flags + 7) / 8 = omega (arith, old, ap (λ (bs : List ℕ). length bs) packed) in
    let count : (length flags + 7) / 8 ≡ suc (bits / 8) = omega arith in
    let more = length-append flags (bit ∷ []) in
    let next : (length (flags ++ bit ∷ []) + 7) / 8 ≡ suc (bits / 8) = omega arith in
    let split : length flags ≡ 8 * (bits / 8) + bits % 8 = omega arith in
    let whole : items ≡ flags_bytes (suc (bits / 8)) flags = packed ∙ ap (λ (n : ℕ). flags_bytes n flags) count in
    let here : byte ≡ get_or (flags_bytes (suc (bits / 8)) flags) (bits / 8) d = e ∙ ap (λ (bs : List ℕ). get_or bs (bits / 8) d) whole in
    let small : byte < 2 ^ (bits % 8) = omega (arith, here, last_small (bits / 8) flags (bits % 8) d split) in
    rw (next, bit_more (bits / 8) flags bit (bits % 8) d split r (bits / 8) refl, or_bit bit byte (bits % 8) small r, whole, here) refl

-- a byte more
pub new_byte : (flags : List Bool) (bits : ℕ) (bit : Bool) (items : List ℕ) → length flags ≡ bits → items ≡ bitmap flags
    → length items ≤ bits / 8 → items ++ bool_byte bit ∷ [] ≡ bitmap (flags ++ bit ∷ [])
new_byte flags bits bit items size packed l =
    let old = length_bytes ((length flags + 7) / 8) flags in
    let outside : (length flags + 7) / 8 ≤ bits / 8 = omega (arith, old, ap (λ (bs : List ℕ). length bs) packed) in
    let count : (length flags + 7) / 8 ≡ bits / 8 = omega arith in
    let more = length-append flags (bit ∷ []) in
    let next : (length (flags ++ bit ∷ []) + 7) / 8 ≡ suc (bits / 8) = omega arith in
    let split : length flags ≡ 8 * (bits / 8) = omega arith in
    rw (next, byte_more (bits / 8) flags bit split, packed, count) (own bit)
  where
    own : (b : Bool) → flags_bytes (bits / 8) flags ++ bool_byte b ∷ [] ≡ flags_bytes (bits / 8) flags ++ cond b 1 0 ∷ []
    own true = refl
    own false = refl

-- ---- bits that are all set

-- whole bytes of them
ones : (n r : ℕ) → flags_bytes n (replicate (8 * n + r) true) ≡ replicate n 255
ones zero r = refl
ones (suc n) r =
    let e : 8 * suc n + r ≡ suc (suc (suc (suc (suc (suc (suc (suc (8 * n + r)))))))) = omega arith in
    rw e (ap (λ (bs : List ℕ). 255 ∷ bs) (ones n r))

few_ones : (r : ℕ) → flags_number (replicate r true) + 1 ≡ 2 ^ r
few_ones zero = refl
few_ones (suc r) =
    let more = few_ones r in
    let e : 2 ^ suc r ≡ 2 * 2 ^ r = omega arith in
    rw e (omega (arith, more))

last_ones : (n r : ℕ) → r < 8 → flags_bytes (suc n) (replicate (8 * n + r) true) ≡ replicate n 255 ++ flags_number (replicate r true) ∷ []
last_ones zero r l =
    let size = length-replicate {A = Bool} r true in
    let e : 8 * 0 + r ≡ r = omega arith in
    let whole : take 8 (replicate r true) ≡ replicate r true = take_all 8 (replicate r true) (omega (arith, size)) in
    rw (e, whole) refl
last_ones (suc n) r l =
    let e : 8 * suc n + r ≡ suc (suc (suc (suc (suc (suc (suc (suc (8 * n + r)))))))) = omega arith in
    rw e (ap (λ (bs : List ℕ). 255 ∷ bs) (last_ones n r l))

-- so many bits that fill their bytes
pub set_whole : (bits : ℕ) → bits % 8 ≡ 0 → replicate (bits / 8) 255 ≡ bitmap (replicate bits true)
set_whole bits h =
    let size = length-replicate {A = Bool} bits true in
    let count : (length (replicate {A = Bool} bits true) + 7) / 8 ≡ bits / 8 = omega (arith, size) in
    let split : bits ≡ 8 * (bits / 8) + 0 = omega arith in
    sym (ap (λ (n : ℕ). flags_bytes n (replicate bits true)) count
    ∙ (ap (λ (n : ℕ). flags_bytes (bits / 8) (replicate n true)) split ∙ ones (bits / 8) 0))

-- the others, with a byte that they don't fill
pub set_part : (bits last : ℕ) → (bits % 8 ≡ 0 → ⊥) → last ≡ 1 * 2 ^ (bits % 8) % 256 - 1
    → replicate (bits / 8) 255 ++ last ∷ [] ≡ bitmap (replicate bits true)
set_part bits last h e =
    let size = length-replicate {A = Bool} bits true in
    let r : bits % 8 < 8 = omega arith in
    let some : 0 < bits % 8 = omega arith in
    let count : (length (replicate {A = Bool} bits true) + 7) / 8 ≡ suc (bits / 8) = omega (arith, size, some) in
    let split : bits ≡ 8 * (bits / 8) + bits % 8 = omega arith in
    let shifted = one_shl (bits % 8) 8 r in
    let ones_here = few_ones (bits % 8) in
    let same : last ≡ flags_number (replicate (bits % 8) true) = omega (arith, shifted, ones_here, e) in
    ap (λ (n : ℕ). replicate (bits / 8) 255 ++ n ∷ []) same
    ∙ sym (ap (λ (n : ℕ). flags_bytes n (replicate bits true)) count
    ∙ (ap (λ (n : ℕ). flags_bytes (suc (bits / 8)) (replicate n true)) split ∙ last_ones (bits / 8) (bits % 8) r))

take_none : (n : ℕ) → take {A = ℕ} n [] ≡ []
take_none zero = refl
take_none (suc n) = refl

-- a list that is filled where there was nothing
pub filled : (old new : List ℕ) (n len : ℕ) → old ≡ [] → len ≡ length old → new ≡ take n old ++ replicate (n - len) 255
    → new ≡ replicate n 255
filled old new n len none size e =
    let empty : len ≡ 0 = size ∙ ap (λ (bs : List ℕ). length bs) none in
    let whole : n - len ≡ n = omega arith in
    e ∙ (ap (λ (m : ℕ). take n old ++ replicate m 255) whole
    ∙ ap (λ (bs : List ℕ). bs ++ replicate n 255) (ap (λ (bs : List ℕ). take n bs) none ∙ take_none n))

-- ---- flags packed a byte at a time

-- the bit below the others, and those above it
odd : (x : ℕ) → (bit_at x 0 == 1) ≡ true → x % 2 ≡ 1
odd x e = sym (bit_at_lowest x) ∙ eqb-true (bit_at x 0) 1 e

even : (x : ℕ) → (bit_at x 0 == 1) ≡ false → x % 2 ≡ 0
even x e =
    let lowest = bit_at_lowest x in
    let other : bit_at x 0 ≡ 1 → ⊥ = eqb-false (bit_at x 0) 1 e in
    let rest : x % 2 < 2 = omega arith in
    omega (arith, lowest, other, rest)

-- the number below a power of two whose bits are these flags
bits_tell : (w : ℕ) (fs : List Bool) (x : ℕ) → length fs ≤ w → x < 2 ^ w → ((r : ℕ) → r < w → (bit_at x r == 1) ≡ get_or fs r false)
    → flags_number fs ≡ x
bits_tell zero [] x l small e = omega arith
bits_tell zero (f ∷ fs) x l small e = absurd (omega arith)
bits_tell (suc w) [] x l small e =
    let twice : 2 ^ suc w ≡ 2 * 2 ^ w = omega arith in
    let above = bits_tell w [] (x / 2) (omega arith) (omega (arith, twice)) (λ r m.
    ap (λ (b : ℕ). b == 1) (sym (bit_at-suc x r)) ∙ e (suc r) (omega arith)) in
    let lowest = even x (e 0 (omega arith)) in
    omega (arith, above, lowest)
bits_tell (suc w) (true ∷ fs) x l small e =
    let twice : 2 ^ suc w ≡ 2 * 2 ^ w = omega arith in
    let above = bits_tell w fs (x / 2) (omega arith) (omega (arith, twice)) (λ r m.
    ap (λ (b : ℕ). b == 1) (sym (bit_at-suc x r)) ∙ e (suc r) (omega arith)) in
    let lowest = odd x (e 0 (omega arith)) in
    omega (arith, above, lowest)
bits_tell (suc w) (false ∷ fs) x l small e =
    let twice : 2 ^ suc w ≡ 2 * 2 ^ w = omega arith in
    let above = bits_tell w fs (x / 2) (omega arith) (omega (arith, twice)) (λ r m.
    ap (λ (b : ℕ). b == 1) (sym (bit_at-suc x r)) ∙ e (suc r) (omega arith)) in
    let lowest = even x (e 0 (omega arith)) in
    omega (arith, above, lowest)

-- a bit of the first byte, and one of those behind it
pub bit_first : (b : ℕ) (bs : List ℕ) (r : ℕ) → r < 8 → bit (b ∷ bs) r ≡ (bit_at b r == 1)
unfolding bit
bit_first b bs r h =
    let byte : r / 8 ≡ 0 = omega arith in
    let place : r % 8 ≡ r = omega arith in
    rw (byte, place) refl

bit_behind : (b : ℕ) (bs : List ℕ) (i : ℕ) → bit (b ∷ bs) (8 + i) ≡ bit bs i
unfolding bit
bit_behind b bs i =
    let byte : (8 + i) / 8 ≡ suc (i / 8) = omega arith in
    let place : (8 + i) % 8 ≡ i % 8 = omega arith in
    rw (byte, place) refl

-- bits of the first bytes
pub bit_in_front : (n : ℕ) (bs : List ℕ) (i : ℕ) → i < 8 * n → bit (take n bs) i ≡ bit bs i
unfolding bit
bit_in_front n bs i h =
    let front : get_or (take n bs) (i / 8) 0 ≡ get_or bs (i / 8) 0 = get_or-take n bs (i / 8) 0 (omega arith) in
    ap (λ (b : ℕ). bit_at b (i % 8) == 1) front

-- the first bytes are bytes
pub front_small : (n : ℕ) (bs : List ℕ) → ((k : ℕ) → get_or bs k 0 < 256) → n ≤ length bs → (k : ℕ) → get_or (take n bs) k 0 < 256
front_small n bs small l k =
    let front = length-take-le n bs l in
    elim (cases_lt k n) as (λ _. get_or (take n bs) k 0 < 256) [
      | inl h ↦ rw (get_or-take n bs k 0 h) (small k)
      | inr h ↦ rw (get_or-eq_default (take n bs) 0 (let past : length (take n bs) ≤ k = omega (arith, front, h) in past)) (omega arith)
    ]

-- no bytes are left behind fewer than eight flags
none_left : (bs : List ℕ) (fs : List Bool) → length bs ≡ 0 → flags_bytes (length bs) fs ≡ bs
none_left [] fs none = refl
none_left (b ∷ bs) fs none = absurd (omega arith)

-- bytes whose bits are these flags, and none behind the last of them
bytes_tell : (bs : List ℕ) (fs : List Bool) → (length fs + 7) / 8 ≡ length bs → ((k : ℕ) → get_or bs k 0 < 256)
    → (0 < length fs % 8 → get_or bs (length fs / 8) 0 < 2 ^ (length fs % 8))
    → ((i : ℕ) → i < length fs → bit bs i ≡ get_or fs i false)
    → flags_bytes (length bs) fs ≡ bs
bytes_tell [] fs size small last e = refl
bytes_tell (b ∷ bs) fs size small last e = elim (cases_lt (length fs) 8) as (λ _. flags_bytes (suc (length bs)) fs ≡ b ∷ bs) [
  | inl few ↦
      let place : length fs / 8 ≡ 0 = omega (arith, few) in
      let own : length fs % 8 ≡ length fs = omega (arith, few) in
      let some : 0 < length fs % 8 = omega (arith, size, few) in
      let under : b < 2 ^ length fs = subst (λ (k : ℕ). b < 2 ^ k) own
      (subst (λ (k : ℕ). get_or (b ∷ bs) k 0 < 2 ^ (length fs % 8)) place (last some)) in
      let first : flags_number (take 8 fs) ≡ b =
      ap flags_number (take_all 8 fs (omega (arith, few)))
      ∙ bits_tell (length fs) fs b (omega arith) under (λ r m. sym (bit_first b bs r (omega (arith, m, few))) ∙ e r m) in
      let rest = none_left bs (drop 8 fs) (omega (arith, size, few)) in
      rw (first, rest) refl
  | inr many ↦
      let left = length-drop 8 fs in
      let place : length fs / 8 ≡ suc (length (drop 8 fs) / 8) = omega (arith, left, many) in
      let same : length fs % 8 ≡ length (drop 8 fs) % 8 = omega (arith, left, many) in
      let front : length (take 8 fs) ≤ 8 = omega (arith, length-take 8 fs) in
      let first : flags_number (take 8 fs) ≡ b =
      bits_tell 8 (take 8 fs) b front (small 0) (λ r m.
      sym (bit_first b bs r m) ∙ (e r (omega (arith, m, many)) ∙ sym (get_or-take 8 fs r false m))) in
      let rest : flags_bytes (length bs) (drop 8 fs) ≡ bs =
      bytes_tell bs (drop 8 fs) (omega (arith, size, left, many)) (λ k. small (suc k))
      (λ some. subst (λ (k : ℕ). get_or bs (length (drop 8 fs) / 8) 0 < 2 ^ k) same
      (subst (λ (k : ℕ). get_or (b ∷ bs) k 0 < 2 ^ (length fs % 8)) place (last (omega (arith, some, same)))))
      (λ i m.
      sym (bit_behind b bs i) ∙ (e (8 + i) (omega (arith, m, left)) ∙ sym (get_or-drop 8 fs i false))) in
      rw (first, rest) refl
]

-- the first bytes are those that are packed from the flags, where no bit is set behind the last of them
pub first_bits : (bs : List ℕ) (fs : List Bool) (n : ℕ) → length fs ≡ n → n ≤ 8 * length bs → ((k : ℕ) → get_or bs k 0 < 256)
    → (0 < n % 8 → get_or bs (n / 8) 0 < 2 ^ (n % 8)) → ((i : ℕ) → i < n → bit bs i ≡ get_or fs i false)
    → take ((n + 7) / 8) bs ≡ bitmap fs
first_bits bs fs n size long small last e =
    let k = (n + 7) / 8 in
    let inside : k ≤ length bs = omega (arith, long) in
    let front : length (take k bs) ≡ k = length-take-le k bs inside in
    sym (bytes_tell (take k bs) fs (ap (λ (m : ℕ). (m + 7) / 8) size ∙ sym front) (front_small k bs small inside)
    (λ some. rw (get_or-take k bs (length fs / 8) 0 (omega (arith, some, size)), size) (last (omega (arith, some, size))))
    (λ i m. bit_in_front k bs i (omega (arith, m, size)) ∙ e i (omega (arith, m, size))))
    ∙ ap (λ (m : ℕ). flags_bytes m fs) (front ∙ ap (λ (m : ℕ). (m + 7) / 8) (sym size))

-- the flags of values and of others
pub flags_append : (which : Flag) (vs ws : List Value) → flags which (vs ++ ws) ≡ flags which vs ++ flags which ws
flags_append which [] ws = refl
flags_append which (v ∷ vs) ws = ap (λ (fs : List Bool). is_set which v ∷ fs) (flags_append which vs ws)

-- ---- the nulls and the flags of values that a bitmap marks

-- a value is set where it isn't null
pub set_some : (value : Value) → is_set Valid value ≡ not (is_null value)
unfolding out-Value denote.Hole.Carrier.out
set_some v.Null = refl
set_some value = refl

twice : (b : Bool) → not (not b) ≡ b
twice true = refl
twice false = refl

-- which is where its bit is
pub marked : (b : List ℕ) (vs : List Value) (i : ℕ) → MarksNulls b vs → i < length vs → is_set Valid (get_or vs i Null) ≡ is_valid b i
marked b vs i h m = set_some (get_or vs i Null) ∙ (ap not (sym (h.each i m)) ∙ twice (is_valid b i))

pub all_marked : (b : List ℕ) (vs : List Value) → ((i : ℕ) → i < length vs → is_set Valid (get_or vs i Null) ≡ is_valid b i)
    → MarksNulls b vs
all_marked b vs h = record {
  each = λ i m. ap not (sym (h i m) ∙ set_some (get_or vs i Null)) ∙ twice (is_null (get_or vs i Null));
}

-- the nulls of values and of others
pub nulls_append : (before values : List Value) → nulls (before ++ values) ≡ nulls before + nulls values
nulls_append [] values = omega arith
nulls_append (v ∷ before) values = let more = nulls_append before values in omega (arith, more)

-- one value more
more_nulls : (b : List ℕ) (vs : List Value) (k : ℕ) → MarksNulls b vs → k < length vs
    → nulls (take (suc k) vs) ≡ nulls (take k vs) + cond (is_valid b k) 0 1
more_nulls b vs k h l =
    ap nulls (ap (λ (n : ℕ). take n vs) (sym (add-one k)) ∙ take_more vs k Null l)
    ∙ (nulls_push (take k vs) (get_or vs k Null) ∙ ap (λ (v : Bool). nulls (take k vs) + cond {A = ℕ} v 0 1) (marked b vs k h l))

-- where there is no bitmap no value is null
none_so_far : (b : List ℕ) (vs : List Value) (k : ℕ) → MarksNulls b vs → length b ≡ 0 → k ≤ length vs → nulls (take k vs) ≡ 0
none_so_far b vs zero h e l = refl
none_so_far b vs (suc k) h e l =
    let before = none_so_far b vs k h e (omega arith) in
    let step = more_nulls b vs k h (omega arith) in
    let valid : is_valid b k ≡ true = rw e refl in
    let one : cond {A = ℕ} (is_valid b k) 0 1 ≡ 0 = ap (λ (v : Bool). cond {A = ℕ} v 0 1) valid in
    step ∙ omega (arith, before, one)

pub unmarked : (b : List ℕ) (vs : List Value) → MarksNulls b vs → length b ≡ 0 → nulls vs ≡ 0
unmarked b vs h e = ap nulls (sym (lists.take_all (length vs) vs (omega arith))) ∙ none_so_far b vs (length vs) h e (omega arith)

-- the clear bits so far are the nulls so far
clear_is_nulls : (b : List ℕ) (vs : List Value) (k : ℕ) → MarksNulls b vs → (length b ≡ 0 → ⊥) → k ≤ length vs
    → clear b k ≡ nulls (take k vs)
unfolding clear
clear_is_nulls b vs zero h some l = refl
clear_is_nulls b vs (suc k) h some l =
    let before = clear_is_nulls b vs k h some (omega arith) in
    let step = more_nulls b vs k h (omega arith) in
    let marked : is_valid b k ≡ bit b k = rw (ne_eqb (length b) 0 some) refl in
    let one : cond {A = ℕ} (is_valid b k) 0 1 ≡ cond {A = ℕ} (bit b k) 0 1 = ap (λ (v : Bool). cond {A = ℕ} v 0 1) marked in
    let same : clear b (suc k) ≡ clear b k + cond (bit b k) 0 1 = refl in
    omega (arith, same, step, before, one)

pub clear_nulls : (b : List ℕ) (vs : List Value) → MarksNulls b vs → (length b ≡ 0 → ⊥) → clear b (length vs) ≡ nulls vs
clear_nulls b vs h some =
    clear_is_nulls b vs (length vs) h some (omega arith) ∙ ap nulls (lists.take_all (length vs) vs (omega arith))

-- no more values are null than there are
pub nulls_within : (vs : List Value) → nulls vs ≤ length vs
nulls_within [] = omega arith
nulls_within (v ∷ vs) = let rest = nulls_within vs in first (is_set Valid v) rest
  where
    first : (b : Bool) → nulls vs ≤ length vs → cond {A = ℕ} b 0 1 + nulls vs ≤ suc (length vs)
    first true h = omega (arith, h)
    first false h = omega (arith, h)
