-- Bytes that stand at a place of others.
use Rattle.std.proofs.Common.{◌≡◌, ℕ, zero, suc, ◌+◌, ◌-◌, ◌^◌, ◌≤◌, ◌<◌, List, ◌∷◌, ◌++◌, length, drop, refl, zero-add, add-zero, ap, sym}
use Rattle.std.proofs.Common.{◌∙◌, subst, arith, append_assoc}
use Rattle.std.specs.Prelude.{slice_range}
use Rattle.std.proofs.lemmas.List.{drop-drop, length-append, length-replicate}
use Rattle.std.proofs.Math.Seq.{drop-append_seam, take-append_seam}
use Rattle.std.specs.Int.{bytes_low_first, byte_at}
use Rattle.ipc_scalar.specs.Bytes.{num}
use Rattle.ipc_scalar.proofs.Places.{num_at, length_low_bytes}
use Rattle.ipc_build.specs.Layout.{little, padding}

-- the bytes l stand in b at p
pub record Has (b : List ℕ) (p : ℕ) (l : List ℕ) : Type 0 where
  pub rest : List ℕ
  pub is : drop p b ≡ l ++ rest
  pub inside : p + length l ≤ length b

-- bytes that stand at p stand at q, where that is the same place
pub has_at : (b : List ℕ) (p q : ℕ) (l : List ℕ) → p ≡ q → Has b p l → Has b q l
has_at b p q l e h = subst (λ (x : ℕ). Has b x l) e h

-- of two pieces that stand at p, the first stands there
pub has_left : (b : List ℕ) (p : ℕ) (l m : List ℕ) → Has b p (l ++ m) → Has b p l
has_left b p l m h = record { rest = m ++ h.rest; is = h.is ∙ append_assoc l m h.rest; inside = omega (arith, h.inside, length-append l m) }

-- of two pieces that stand at p, the second stands where the first ends
pub has_right : (b : List ℕ) (p : ℕ) (l m : List ℕ) → Has b p (l ++ m) → Has b (p + length l) m
has_right b p l m h = record {
  rest = h.rest;
  is = sym (drop-drop (length l) p b) ∙ (ap (drop (length l)) (h.is ∙ append_assoc l m h.rest) ∙ drop-append_seam l (m ++ h.rest));
  inside = omega (arith, h.inside, length-append l m);
}

-- what follows a number of w bytes stands w bytes behind the number
pub has_past : (b : List ℕ) (p w x : ℕ) (m : List ℕ) → Has b p (little w x ++ m) → Has b (p + w) m
has_past b p w x m h = has_at b _ (p + w) m (ap (λ (n : ℕ). p + n) (length_low_bytes 0 w x)) (has_right b p (little w x) m h)

-- "Format Components": where the w bytes of a number stand, it is read
pub has_num : (b : List ℕ) (p w x : ℕ) → x < 256 ^ w → Has b p (little w x) → num b p w ≡ x
has_num b p w x fits h = num_at b h.rest p w x fits h.is

-- "Format Components": where they stand and other bytes follow them, it is read too
pub has_num_front : (b : List ℕ) (p w x : ℕ) (m : List ℕ) → x < 256 ^ w → Has b p (little w x ++ m) → num b p w ≡ x
has_num_front b p w x m fits h = has_num b p w x fits (has_left b p (little w x) m h)

-- the bytes of a number, cut in two
little_parts : (i v w x : ℕ) → bytes_low_first i (v + w) x ≡ bytes_low_first i v x ++ bytes_low_first (i + v) w x
little_parts i zero w x = rw (zero-add, add-zero) refl
little_parts i (suc v) w x =
    let e : suc v + w ≡ suc (v + w) = omega arith in
    let f : i + suc v ≡ suc i + v = omega arith in
    rw (e, f) (ap (λ (l : List ℕ). byte_at i x ∷ l) (little_parts (suc i) v w x))

-- a narrower number at the front of more bytes
pub has_narrow : (b : List ℕ) (p c w x : ℕ) → w ≤ c → x < 256 ^ w → Has b p (little c x) → num b p w ≡ x
has_narrow b p c w x h fits e =
    let wide : c ≡ w + (c - w) = omega arith in
    has_num b p w x fits (has_left b p (little w x) (bytes_low_first (0 + w) (c - w) x)
    (subst (λ (l : List ℕ). Has b p l) (ap (λ (n : ℕ). little n x) wide ∙ little_parts 0 w (c - w) x) e))

padding_split : (i n : ℕ) → i ≤ n → padding n ≡ padding i ++ padding (n - i)
padding_split zero n h = ap padding (omega arith)
padding_split (suc i) zero h = absurd (omega arith)
padding_split (suc i) (suc n) h = let e : suc n - suc i ≡ n - i =
    omega arith in rw e (ap (λ (l : List ℕ). 0 ∷ l) (padding_split i n (omega arith)))

-- two zero bytes among others are read as 0
pub has_zero : (b : List ℕ) (p n i : ℕ) → i + 2 ≤ n → Has b p (padding n) → num b (p + i) 2 ≡ 0
has_zero b p n i h e =
    let one = subst (λ (l : List ℕ). Has b p l) (padding_split i n (omega arith)) e in
    let two = has_right b p (padding i) (padding (n - i)) one in
    let three = subst (λ (l : List ℕ). Has b (p + length (padding i)) l) (padding_split 2 (n - i) (omega arith)) two in
    let four = has_left b (p + length (padding i)) (padding 2) (padding (n - i - 2)) three in
    has_num b (p + i) 2 0 (omega arith) (has_at b _ (p + i) (little 2 0) (ap (λ (k : ℕ). p + k) (length-replicate i 0)) four)

-- bytes that stand somewhere are what is cut out there
pub has_slice : (b : List ℕ) (p : ℕ) (l : List ℕ) → Has b p l → slice_range b p (p + length l) ≡ l
has_slice b p l h = let e : p + length l - p ≡ length l = omega arith in rw (e, h.is) (take-append_seam l h.rest)
