-- Decimal digits: a number's text is that of its front and then its last digits.
use Rattle.std.proofs.Common.{◌≡◌, ℕ, zero, suc, ◌+◌, ◌-◌, ◌*◌, ◌/◌, ◌%◌, ◌^◌, ◌<◌, ◌≤◌, List, [], ◌∷◌, ◌++◌, length, drop, refl, sym, ap}
use Rattle.std.proofs.Common.{◌∙◌, arith, length-append, append_assoc, inl, inr, get_or}
use Rattle.std.proofs.Math.Nat.{div-div-eq-div-mul, div-le_self}
use Rattle.std.proofs.Math.Seq.{drop-append_seam}
use Rattle.std.proofs.lemmas.Bool.{cases_lt}
use Rattle.std.proofs.lemmas.List.{drop-append-le, append-nil}
use Rattle.std.proofs.lemmas.Nat.{le_bytes_8}
use Rattle.std.specs.Int.{w64, to_le_bytes, from_le_bytes}
use Rattle.std.proofs.lemmas.Fmt.{decimal_digit, decimal_step, decimal_nonempty, length-decimal-le}
use Rattle.std.specs.Fmt.{decimal}
use Rattle.job_print.specs.Digits.{last_digits}

-- the last k digits of a number are k bytes
pub length-last : (k n : ℕ) → length (last_digits k n) ≡ k
length-last zero n = refl
length-last (suc k) n = length-append (last_digits k (n / 10)) ((48 + n % 10) ∷ []) ∙ rw (length-last k (n / 10)) (omega arith)

-- ten times as much has one digit more
step_pow : (k n : ℕ) → n / 10 / 10 ^ k ≡ n / 10 ^ suc k
step_pow k n = div-div-eq-div-mul n 10 (10 ^ k) ∙ ap (λ (d : ℕ). n / d) (omega arith)

ten_pos : (k : ℕ) → 0 < 10 ^ k
ten_pos zero = omega arith
ten_pos (suc k) = omega (arith, ten_pos k)

-- the digits of a number that has more than k
pub decimal_split : (k n : ℕ) → 10 ^ k ≤ n → n < 2 ^ 64 → decimal n ≡ decimal (n / 10 ^ k) ++ last_digits k n
decimal_split zero n h s =
    let same : n ≡ n / 10 ^ 0 = omega arith in
    ap decimal same ∙ sym (append-nil (decimal (n / 10 ^ 0)))
decimal_split (suc k) n h s =
    let p = ten_pos k in
    let ten : 10 ≤ n = omega (arith, h, p) in
    let front : 10 ^ k ≤ n / 10 = omega (arith, h, p) in
    let small : n / 10 < 2 ^ 64 = omega (arith, s) in
    let rest = decimal_split k (n / 10) front small ∙ ap (λ (m : ℕ). decimal m ++ last_digits k (n / 10)) (step_pow k n) in
    decimal_step n ten s ∙ (ap (λ (x : List ℕ). x ++ (48 + n % 10) ∷ []) rest
    ∙ append_assoc (decimal (n / 10 ^ suc k)) (last_digits k (n / 10)) ((48 + n % 10) ∷ []))

padded_one : (k n : ℕ) → n < 10 → drop (suc (suc k) - length (decimal n)) (last_digits (suc k) (n / 10) ++ (48 + n % 10) ∷ []) ≡ decimal n
padded_one k n h =
    let digit = decimal_digit n h in
    let count : suc (suc k) - length (decimal n) ≡ length (last_digits (suc k) (n / 10)) =
    omega (arith, ap length digit, length-last (suc k) (n / 10)) in
    let last : n % 10 ≡ n = omega (arith, h) in
    ap (λ (c : ℕ). drop c (last_digits (suc k) (n / 10) ++ (48 + n % 10) ∷ [])) count
    ∙ (drop-append_seam (last_digits (suc k) (n / 10)) ((48 + n % 10) ∷ []) ∙ (ap (λ (d : ℕ). (48 + d) ∷ []) last ∙ sym digit))

padded_more : (k n : ℕ) → 10 ≤ n → n < 10 ^ suc (suc k) → n < 2 ^ 64
    → drop (suc k - length (decimal (n / 10))) (last_digits (suc k) (n / 10)) ≡ decimal (n / 10)
    → drop (suc (suc k) - length (decimal n)) (last_digits (suc k) (n / 10) ++ (48 + n % 10) ∷ []) ≡ decimal n
padded_more k n ten h s ih =
    let step = decimal_step n ten s in
    let longer : length (decimal n) ≡ length (decimal (n / 10)) + 1 =
    ap length step ∙ length-append (decimal (n / 10)) ((48 + n % 10) ∷ []) in
    let count : suc (suc k) - length (decimal n) ≡ suc k - length (decimal (n / 10)) = omega (arith, longer) in
    let fits : suc k - length (decimal (n / 10)) ≤ length (last_digits (suc k) (n / 10)) = omega (arith, length-last (suc k) (n / 10)) in
    ap (λ (c : ℕ). drop c (last_digits (suc k) (n / 10) ++ (48 + n % 10) ∷ [])) count
    ∙ (drop-append-le (suc k - length (decimal (n / 10))) (last_digits (suc k) (n / 10)) ((48 + n % 10) ∷ []) fits
    ∙ (ap (λ (x : List ℕ). x ++ (48 + n % 10) ∷ []) ih ∙ sym step))

-- the digits of a number that has so many at most, after zeros
pub decimal_padded : (k n : ℕ) → n < 10 ^ suc k → n < 2 ^ 64 → drop (suc k - length (decimal n)) (last_digits (suc k) n) ≡ decimal n
decimal_padded zero n h s =
    let digit = decimal_digit n (omega (arith, h)) in
    let count : 1 - length (decimal n) ≡ 0 = omega (arith, ap length digit) in
    let last : n % 10 ≡ n = omega (arith, h) in
    ap (λ (c : ℕ). drop c ((48 + n % 10) ∷ [])) count ∙ (ap (λ (d : ℕ). (48 + d) ∷ []) last ∙ sym digit)
decimal_padded (suc k) n h s =
    elim (cases_lt n 10) [
      | inl low ↦ padded_one k n low
      | inr high ↦ padded_more k n high h s (decimal_padded k (n / 10) (omega (arith, h)) (omega (arith, s)))
    ]

-- eight bytes, the lowest first
sum_of : (a b c d e f g h r : ℕ) → r ≡ (a + b * 256) + (c + d * 256) * 65536 + (e + f * 256) * 4294967296 + (g + h * 256) * 281474976710656
    → r ≡ from_le_bytes w64 (a ∷ b ∷ c ∷ d ∷ e ∷ f ∷ g ∷ h ∷ [])
sum_of a b c d e f g h r s = omega (arith, s)

small_bytes : (a b c d e f g h : ℕ) → a < 58 → b < 58 → c < 58 → d < 58 → e < 58 → f < 58 → g < 58 → h < 58 → (i : ℕ)
    → get_or (a ∷ b ∷ c ∷ d ∷ e ∷ f ∷ g ∷ h ∷ []) i 0 < 256
small_bytes a b c d e f g h ha hb hc hd he hf hg hh zero = omega (arith, ha)
small_bytes a b c d e f g h ha hb hc hd he hf hg hh (suc zero) = omega (arith, hb)
small_bytes a b c d e f g h ha hb hc hd he hf hg hh (suc (suc zero)) = omega (arith, hc)
small_bytes a b c d e f g h ha hb hc hd he hf hg hh (suc (suc (suc zero))) = omega (arith, hd)
small_bytes a b c d e f g h ha hb hc hd he hf hg hh (suc (suc (suc (suc zero)))) = omega (arith, he)
small_bytes a b c d e f g h ha hb hc hd he hf hg hh (suc (suc (suc (suc (suc zero))))) = omega (arith, hf)
small_bytes a b c d e f g h ha hb hc hd he hf hg hh (suc (suc (suc (suc (suc (suc zero)))))) = omega (arith, hg)
small_bytes a b c d e f g h ha hb hc hd he hf hg hh (suc (suc (suc (suc (suc (suc (suc zero))))))) = omega (arith, hh)
small_bytes a b c d e f g h ha hb hc hd he hf hg hh (suc (suc (suc (suc (suc (suc (suc (suc i)))))))) = omega arith

bytes_of : (a b c d e f g h r : ℕ) → a < 58 → b < 58 → c < 58 → d < 58 → e < 58 → f < 58 → g < 58 → h < 58
    → r ≡ (a + b * 256) + (c + d * 256) * 65536 + (e + f * 256) * 4294967296 + (g + h * 256) * 281474976710656
    → to_le_bytes w64 r ≡ a ∷ b ∷ c ∷ d ∷ e ∷ f ∷ g ∷ h ∷ []
bytes_of a b c d e f g h r ha hb hc hd he hf hg hh s =
    le_bytes_8 (a ∷ b ∷ c ∷ d ∷ e ∷ f ∷ g ∷ h ∷ []) r refl (small_bytes a b c d e f g h ha hb hc hd he hf hg hh)
    (sum_of a b c d e f g h r s)

longer : (k n : ℕ) → 10 ^ k ≤ n → n < 2 ^ 64 → suc k ≤ length (decimal n)
longer k n h s =
    let parts = ap length (decimal_split k n h s) ∙ length-append (decimal (n / 10 ^ k)) (last_digits k n) in
    let some = decimal_nonempty (n / 10 ^ k) (omega (arith, s, div-le_self n (10 ^ k))) in
    omega (arith, parts, some, length-last k n)

-- how long the digits are
exact : (k n : ℕ) → 10 ^ k ≤ n → n < 10 ^ suc k → n < 2 ^ 64 → length (decimal n) ≡ suc k
exact k n low high s = omega (arith, longer k n low s, length-decimal-le (suc k) n (omega arith) high s)

-- eight less the digits
pub seven : (n : ℕ) → n < 10 → 7 + length (decimal n) ≡ 8
seven n h = omega (arith, ap length (decimal_digit n h))

-- a number of k + 1 digits and the zeros in front of it make eight digits
pub fewer : (z k n : ℕ) → z + suc k ≡ 8 → 10 ^ k ≤ n → n < 10 ^ suc k → n < 2 ^ 64 → z + length (decimal n) ≡ 8
fewer z k n e low high s = omega (arith, e, exact k n low high s)

-- the eight last digits stand in what is left after all but them
pub last_eight : (n : ℕ) → last_digits 8 (n % 100000000) ≡ last_digits 8 n
last_eight n =
    let a : n % 100000000 % 10 ≡ n % 10 = omega arith in
    let b : n % 100000000 / 10 % 10 ≡ n / 10 % 10 = omega arith in
    let c : n % 100000000 / 10 / 10 % 10 ≡ n / 10 / 10 % 10 = omega arith in
    let d : n % 100000000 / 10 / 10 / 10 % 10 ≡ n / 10 / 10 / 10 % 10 = omega arith in
    let e : n % 100000000 / 10 / 10 / 10 / 10 % 10 ≡ n / 10 / 10 / 10 / 10 % 10 = omega arith in
    let f : n % 100000000 / 10 / 10 / 10 / 10 / 10 % 10 ≡ n / 10 / 10 / 10 / 10 / 10 % 10 = omega arith in
    let g : n % 100000000 / 10 / 10 / 10 / 10 / 10 / 10 % 10 ≡ n / 10 / 10 / 10 / 10 / 10 / 10 % 10 = omega arith in
    let h : n % 100000000 / 10 / 10 / 10 / 10 / 10 / 10 / 10 % 10 ≡ n / 10 / 10 / 10 / 10 / 10 / 10 / 10 % 10 = omega arith in
    rw (a, b, c, d, e, f, g, h) refl

-- a number of more than eight digits: its front, and then the eight last ones
pub behind_eight : (n m : ℕ) → 100000000 ≤ n → n < 2 ^ 64 → m ≡ n % 100000000 → decimal (n / 100000000) ++ last_digits 8 m ≡ decimal n
behind_eight n m h s e = ap (λ (x : ℕ). decimal (n / 100000000) ++ last_digits 8 x) e
    ∙ (ap (λ (x : List ℕ). decimal (n / 100000000) ++ x) (last_eight n) ∙ sym (decimal_split 8 n h s))
