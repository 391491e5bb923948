-- Pairs of hexadecimal digits, one after the other.
use Rattle.std.proofs.Common.{◌≡◌, ◌∙◌, ℕ, ◌+◌, ◌*◌, ◌%◌, ◌<◌, ◌≤◌, ◌==◌, ◌&&◌, nat_lt, nat_le, Bool, true, false, List}
use Rattle.std.proofs.Common.{length, take, drop, if◌then◌else◌, bit_or, ◌≢◌, subst, inl, inr}
use Rattle.std.proofs.Common.{slice_index, slice_set, Option, Some, None, Ok, Err, refl, ap, arith}
use Rattle.std.proofs.lemmas.Bool.{agree_below_at, and_parts, cases_lt, eqb-true}
use Rattle.std.proofs.lemmas.Bool.Decides.{nat_tests}
use Rattle.std.proofs.lemmas.List.{get_or-set_other, get_or-set_same}
use Rattle.hex.specs.Hex.{decode_of, decode_pairs, digit_or_error, hex_digit_value, pair_value, value_at}
use Rattle.hex.specs.declared.error.FromHexError.TheVariants.{InvalidHexCharacter}
use Rattle.hex.proofs.HexLemmas.{decode_of-even}
use Rattle.hex.proofs.Pairs.{prepend, decode_step, decode_err, decode_done}
use Rattle.ipc_text_csv.specs.CsvCells.{decoded_hex, if_read}

-- a number that tells the value of a digit, or that there is none
pub record Tells (byte n : ℕ) : Type 0 where
  pub digit : n < 16 → hex_digit_value byte ≡ Some n
  pub none : 16 ≤ n → hex_digit_value byte ≡ None

abbrev agrees : Option ℕ → ℕ → Bool
agrees (Some v) n = (v == n) && nat_lt n 16
agrees None n = nat_le 16 n

report : (o : Option ℕ) (n : ℕ) → agrees o n ≡ true → (n < 16 → o ≡ Some n) × (16 ≤ n → o ≡ None)
report (Some v) n h =
    let parts = and_parts (v == n) (nat_lt n 16) h in
    let small : n < 16 = grind (arith, nat_tests, parts.1) in
    (λ _. ap Some (eqb-true v n parts.0), λ big. absurd (omega arith))
report None n h =
    let big : 16 ≤ n = grind (arith, nat_tests) in
    (λ small. absurd (omega arith), λ _. refl)

-- how far a letter, in lower case or made so, is behind `a`
abbrev letter : ℕ → ℕ
letter b = (bit_or b 32 + 159) % 256

abbrev value_of : ℕ → ℕ → ℕ
value_of n l = if nat_lt n 10 then n else (if nat_lt l 6 then l + 10 else 255)

value_tells : (b : ℕ) → b < 256 → Tells b (value_of ((b + 208) % 256) (letter b))
value_tells b small =
    let t = report (hex_digit_value b) (value_of ((b + 208) % 256) (letter b))
    (agree_below_at (λ k. agrees (hex_digit_value k) (value_of ((k + 208) % 256) (letter k))) (λ k. true) 256 b refl small) in
    record { digit = t.0; none = t.1 }

value_letter : (n l : ℕ) → 10 ≤ n → l < 6 → value_of n l ≡ l + 10
value_letter n l big small = grind (arith, nat_tests)

value_other : (n l : ℕ) → 10 ≤ n → 6 ≤ l → value_of n l ≡ 255
value_other n l big far = grind (arith, nat_tests)

-- a letter is the digit of ten and how far it is behind `a`
pub letter_reads : (b : ℕ) → b < 256 → 10 ≤ (b + 208) % 256 → letter b < 6 → hex_digit_value b ≡ Some (letter b + 10)
letter_reads b small big near =
    let is = value_letter ((b + 208) % 256) (letter b) big near in
    (subst (Tells b) is (value_tells b small)).digit (omega arith)

-- what is neither a number nor such a letter is no digit
pub other_fails : (b : ℕ) → b < 256 → 10 ≤ (b + 208) % 256 → 6 ≤ letter b → hex_digit_value b ≡ None
other_fails b small big far =
    let is = value_other ((b + 208) % 256) (letter b) big far in
    (subst (Tells b) is (value_tells b small)).none (omega arith)

-- one value more
pub tells_more : (text values : List ℕ) (i v : ℕ) → i < length values → Tells (slice_index text i) v
    → ((k : ℕ) → k < i → Tells (slice_index text k) (slice_index values k)) → (k : ℕ) → k < i + 1
    → Tells (slice_index text k) (slice_index (slice_set values i v) k)
tells_more text values i v inside here before k below = elim (cases_lt k i) [
  | inl less ↦
      let other : k ≢ i = λ e. absurd (omega arith) in
      rw (get_or-set_other values i k v 0 other) (before k less)
  | inr top ↦
      let e : k ≡ i = omega arith in
      rw e (rw (get_or-set_same values i v 0 inside) here)
]

-- what is known behind so many pairs
pub record Decoded (text bytes : List ℕ) (i : ℕ) (good : Bool) : Type 0 where
  pub so_far : good ≡ true → decode_pairs 0 text ≡ prepend (take i bytes) (decode_pairs (2 * i) (drop (2 * i) text))
  pub never : good ≡ false → if_read (decode_pairs 0 text) ≡ None

pair_reads : (a b high low i : ℕ) → Tells a high → Tells b low → high < 16 → low < 16
    → pair_value a b i ≡ Ok (high % 16 * 16 + low % 16)
pair_reads a b high low i first second small few =
    let h : value_at a i ≡ Ok high = ap (digit_or_error a i) (first.digit small) in
    let l : value_at b (i + 1) ≡ Ok low = ap (digit_or_error b (i + 1)) (second.digit few) in
    let is : high % 16 * 16 + low % 16 ≡ high * 16 + low = omega arith in
    rw (h, l, is) refl

first_fails : (a b high i : ℕ) → Tells a high → 16 ≤ high → pair_value a b i ≡ Err (InvalidHexCharacter a i)
first_fails a b high i first big =
    let h : value_at a i ≡ Err (InvalidHexCharacter a i) = ap (digit_or_error a i) (first.none big) in
    rw h refl

second_fails : (a b high low i : ℕ) → Tells a high → Tells b low → high < 16 → 16 ≤ low
    → pair_value a b i ≡ Err (InvalidHexCharacter b (i + 1))
second_fails a b high low i first second small big =
    let h : value_at a i ≡ Ok high = ap (digit_or_error a i) (first.digit small) in
    let l : value_at b (i + 1) ≡ Err (InvalidHexCharacter b (i + 1)) = ap (digit_or_error b (i + 1)) (second.none big) in
    rw (h, l) refl

module _ (text bytes : List ℕ) (i high low : ℕ) (fits : 2 * i + 1 < length text) (room : i < length bytes)
    (first : Tells (slice_index text (2 * i)) high) (second : Tells (slice_index text (2 * i + 1)) low) where
  abbrev a : ℕ
  a = slice_index text (2 * i)

  abbrev b : ℕ
  b = slice_index text (2 * i + 1)

  abbrev written : List ℕ
  written = slice_set bytes i (high % 16 * 16 + low % 16)

  by_tests : (h l : Bool) → (h ≡ true → high < 16) → (h ≡ false → 16 ≤ high) → (l ≡ true → low < 16) → (l ≡ false → 16 ≤ low)
      → decode_pairs 0 text ≡ prepend (take i bytes) (decode_pairs (2 * i) (drop (2 * i) text)) → Decoded text written (i + 1) (h && l)
  by_tests true true ht hf lt lf inv = record {
    so_far = λ _. decode_step text bytes i _ fits room (pair_reads a b high low (2 * i) first second (ht refl) (lt refl)) inv;
    never = λ e. absurd cc;
  }
  by_tests true false ht hf lt lf inv = record {
    so_far = λ e. absurd cc;
    never = λ _. ap if_read (decode_err text bytes i _ fits (second_fails a b high low (2 * i) first second (ht refl) (lf refl)) inv);
  }
  by_tests false l ht hf lt lf inv = record {
    so_far = λ e. absurd cc;
    never = λ _. ap if_read (decode_err text bytes i _ fits (first_fails a b high (2 * i) first (hf refl)) inv);
  }

  -- one pair more
  pub decoded_more : (good : Bool) → Decoded text bytes i good
      → Decoded text written (i + 1) (good && (nat_lt high 16 && nat_lt low 16))
  decoded_more false d = record { so_far = λ e. absurd cc; never = λ _. d.never refl }
  decoded_more true d =
      by_tests (nat_lt high 16) (nat_lt low 16) (λ e. grind (arith, nat_tests)) (λ e. grind (arith, nat_tests))
      (λ e. grind (arith, nat_tests)) (λ e. grind (arith, nat_tests)) (d.so_far refl)

module _ (text bytes : List ℕ) (i : ℕ) (good : Bool) (all : length bytes ≤ i) (pairs : length text ≡ 2 * length bytes)
    (d : Decoded text bytes i good) where
  even : decode_of text ≡ decode_pairs 0 text
  even = decode_of-even text (omega (arith, pairs))

  -- all pairs are digits
  pub decoded_bytes : good ≡ true → decoded_hex text ≡ Some bytes
  decoded_bytes e = ap if_read (even ∙ decode_done text bytes i all (omega (arith, pairs, all)) (d.so_far e))

  -- one isn't
  pub decoded_never : good ≡ false → decoded_hex text ≡ None
  decoded_never e = ap if_read even ∙ d.never e
