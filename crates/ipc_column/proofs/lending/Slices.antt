-- Where the bytes of slots lie, and when they are texts.
use Rattle.std.proofs.Common.{◌≡◌, ◌∙◌, refl, sym, ap, ℕ, zero, suc, ◌+◌, ◌-◌, ◌<◌, ◌≤◌, Bool, true, false, List, length, take, drop}
use Rattle.std.proofs.Common.{add-one, arith, ◌↔◌, subst, inl, inr, length-drop}
use Rattle.std.specs.Prelude.{◌&&◌, ◌||◌, not, ℤ, pos, negsuc, int_le, nat_le, unsigned_abs, slice_range, IsTrue}
use Rattle.std.specs.Str.{is_utf8, IsUtf8, IsCharBoundary}
use Rattle.std.proofs.lemmas.Str.{IsUtf8-from_is_utf8, is_utf8-from_IsUtf8, IsUtf8-between, IsCharBoundary-end}
use Rattle.std.proofs.lemmas.List.{drop-take, take-take, drop-drop, length-take-le}
use Rattle.std.proofs.lemmas.Bool.{and_parts, leb-true, cases_order}
use Rattle.ipc_column.specs.Values.{offset, offset_position, between, is_valid}
use Rattle.ipc_column.specs.checks.Checks.{all_below, all_slots, is_ascending_at, are_ascending, text_good, AreCharBoundaries}
use Rattle.ipc_column.proofs.Below.{below_at, below_from}

-- two tests of one fact
pub utf8_tests : (bs : List ℕ) (b : Bool) → (IsTrue b ↔ IsUtf8 bs) → b ≡ is_utf8 bs
utf8_tests bs true h = sym (is_utf8-from_IsUtf8 bs (h.0 refl))
utf8_tests bs false h = elim (is_utf8 bs) as (λ v. is_utf8 bs ≡ v → false ≡ v)
    [ true ↦ λ e. h.1 (IsUtf8-from_is_utf8 bs e) | false ↦ λ e. refl ] refl

-- a number that isn't below one that isn't negative
up_one : (a b : ℤ) → int_le (pos 0) a ≡ true → int_le a b ≡ true → (int_le (pos 0) b ≡ true) × (unsigned_abs a ≤ unsigned_abs b)
up_one (pos m) (pos n) h l = (grind arith, leb-true m n l)
up_one (pos m) (negsuc n) h l = absurd (cc)
up_one (negsuc m) b h l = absurd (cc)

-- no offset up to n is negative
pub above : (o : List ℕ) (n i : ℕ) → int_le (pos 0) (offset o 0) ≡ true → all_below (is_ascending_at o) n ≡ true → i ≤ n
    → int_le (pos 0) (offset o i) ≡ true
above o n zero h a l = h
above o n (suc i) h a l =
    let step : int_le (offset o i) (offset o (i + 1)) ≡ true = below_at (is_ascending_at o) n i a (omega arith) in
    let up = (up_one (offset o i) (offset o (i + 1)) (above o n i h a (omega arith)) step).0 in
    rw add-one at up

-- nor where they ascend within some data
pub above_in : (o : List ℕ) (n size i : ℕ) → are_ascending o n size ≡ true → i ≤ n → int_le (pos 0) (offset o i) ≡ true
above_in o n size i h l =
    let p = and_parts (int_le (pos 0) (offset o 0)) (all_below (is_ascending_at o) n && nat_le (offset_position o n) size) h in
    let q = and_parts (all_below (is_ascending_at o) n) (nat_le (offset_position o n) size) p.1 in
    above o n i p.0 q.0 l

step_up : (o : List ℕ) (n i : ℕ) → int_le (pos 0) (offset o 0) ≡ true → all_below (is_ascending_at o) n ≡ true → i < n
    → offset_position o i ≤ offset_position o (i + 1)
step_up o n i h a l = (up_one (offset o i) (offset o (i + 1)) (above o n i h a (omega arith)) (below_at (is_ascending_at o) n i a l)).1

far_up : (o : List ℕ) (n i d : ℕ) → int_le (pos 0) (offset o 0) ≡ true → all_below (is_ascending_at o) n ≡ true → i + d ≤ n
    → offset_position o i ≤ offset_position o (i + d)
far_up o n i zero h a l = let e : i + 0 ≡ i = omega arith in rw e (omega arith)
far_up o n i (suc d) h a l =
    let before = far_up o n i d h a (omega arith) in
    let step = step_up o n (i + d) h a (omega arith) in
    let e : i + suc d ≡ i + d + 1 = omega arith in
    rw e (omega arith)

-- the places of offsets in order
pub record Places (o : List ℕ) (n size i j : ℕ) : Type 0 where
  pub first : offset_position o 0 ≤ offset_position o i
  pub order : offset_position o i ≤ offset_position o j
  pub last : offset_position o j ≤ offset_position o n
  pub inside : offset_position o n ≤ size

-- where the offsets ascend, those of two slots lie in their order, within the data
pub places : (o : List ℕ) (n size i j : ℕ) → are_ascending o n size ≡ true → i ≤ j → j ≤ n → Places o n size i j
places o n size i j h l m =
    let p = and_parts (int_le (pos 0) (offset o 0)) (all_below (is_ascending_at o) n && nat_le (offset_position o n) size) h in
    let q = and_parts (all_below (is_ascending_at o) n) (nat_le (offset_position o n) size) p.1 in
    let up : (a b : ℕ) → a ≤ b → b ≤ n → offset_position o a ≤ offset_position o b = λ a b k t.
    let e : a + (b - a) ≡ b = omega arith in
    rw e at (far_up o n a (b - a) p.0 q.0 (omega arith)) in
    record {
      first = up 0 i (omega arith) (omega arith);
      order = up i j l m;
      last = up j n m (omega arith);
      inside = leb-true (offset_position o n) size q.1;
    }

-- a cut of a cut
cut_cut : (w : List ℕ) (b l a m : ℕ) → a + m ≤ l → take m (drop a (take l (drop b w))) ≡ take m (drop (b + a) w)
cut_cut w b l a m h =
    let e : l ≡ a + (l - a) = omega arith in
    ap (λ (k : ℕ). take m (drop a (take k (drop b w)))) e
    ∙ (ap (λ (z : List ℕ). take m z) (drop-take a (l - a) (drop b w))
    ∙ (take-take m (l - a) (drop a (drop b w)) (omega arith) ∙ ap (λ (z : List ℕ). take m z) (drop-drop a b w)))

-- a cut of a text
cut_text : (w : List ℕ) (b l i j : ℕ) → b ≤ i → i ≤ j → j ≤ b + l → IsUtf8 (take l (drop b w)) → IsCharBoundary (take l (drop b w)) (i - b)
    → IsCharBoundary (take l (drop b w)) (j - b)
    → IsUtf8 (take (j - i) (drop i w))
cut_text w b l i j p q r u ci cj =
    let size : j - b - (i - b) ≡ j - i = omega arith in
    let start : b + (i - b) ≡ i = omega arith in
    let e = cut_cut w b l (i - b) (j - i) (omega arith) in
    let t = IsUtf8-between (take l (drop b w)) (i - b) (j - b) u (omega arith) ci cj in
    subst IsUtf8 (e ∙ ap (λ (k : ℕ). take (j - i) (drop k w)) start)
    (subst (λ (k : ℕ). IsUtf8 (take k (drop (i - b) (take l (drop b w))))) size t)

-- one slot more that begins where a text may be cut
pub cut_more : (o text : List ℕ) (a i : ℕ) → AreCharBoundaries o text a i → IsCharBoundary text (offset_position o i - offset_position o a)
    → AreCharBoundaries o text a (i + 1)
cut_more o text a i all here k from below =
    elim (cases_order k i) as (λ _. IsCharBoundary text (offset_position o k - offset_position o a)) [
      | inl e ↦ rw e here
      | inr r ↦ elim r as (λ _. IsCharBoundary text (offset_position o k - offset_position o a))
          [ inl m ↦ all k from m | inr m ↦ absurd (omega arith) ]
    ]

-- slots of one text are texts where it may be cut where they begin
whole_text : (o w : List ℕ) (n a b : ℕ) → are_ascending o n (length w) ≡ true → a ≤ b → b ≤ n
    → IsUtf8 (slice_range w (offset_position o a) (offset_position o b))
    → AreCharBoundaries o (slice_range w (offset_position o a) (offset_position o b)) a b
    → (i : ℕ) → a ≤ i → i < b → is_utf8 (between o w i) ≡ true
whole_text o w n a b h ab bn u cuts i f l = is_utf8-from_IsUtf8 _ spelled
  where
    all : Places o n (length w) a b
    all = places o n (length w) a b h ab bn

    end : IsCharBoundary (slice_range w (offset_position o a) (offset_position o b)) (offset_position o b - offset_position o a)
    end =
        let size : length (slice_range w (offset_position o a) (offset_position o b)) ≡ offset_position o b - offset_position o a =
        length-take-le (offset_position o b - offset_position o a) (drop (offset_position o a) w) (omega (
          arith,
          length-drop (offset_position o a) w,
          all.order,
          all.last,
          all.inside,
        )) in
        subst (λ (k : ℕ). IsCharBoundary (slice_range w (offset_position o a) (offset_position o b)) k) size
        (IsCharBoundary-end (slice_range w (offset_position o a) (offset_position o b)))

    next : IsCharBoundary (slice_range w (offset_position o a) (offset_position o b)) (offset_position o (i + 1) - offset_position o a)
    next =
        elim (cases_order (i + 1) b) as (λ _. IsCharBoundary (slice_range w (offset_position o a) (offset_position o b))
        (offset_position o (i + 1) - offset_position o a)) [
          | inl e ↦ subst (λ (k : ℕ). IsCharBoundary (slice_range w (offset_position o a) (offset_position o b))
              (offset_position o k - offset_position o a)) (sym e) end
          | inr r ↦ elim r as (λ _. IsCharBoundary (slice_range w (offset_position o a) (offset_position o b))
              (offset_position o (i + 1) - offset_position o a)) [
                | inl k ↦ cuts (i + 1) (omega (arith, f)) k
                | inr k ↦ absurd (omega arith)
              ]
        ]

    spelled : IsUtf8 (between o w i)
    spelled =
        let p = places o n (length w) i (i + 1) h (omega arith) (omega arith) in
        let q = places o n (length w) a i h f (omega arith) in
        let r = places o n (length w) (i + 1) b h (omega arith) bn in
        cut_text w (offset_position o a) (offset_position o b - offset_position o a) (offset_position o i) (offset_position o (i + 1))
        q.order p.order
        (omega (arith, q.order, p.order, r.order)) u (cuts i f l) next

-- and so they pass, null or not
pub whole_good : (o w v : List ℕ) (n a b : ℕ) → are_ascending o n (length w) ≡ true → a ≤ b → b ≤ n
    → IsUtf8 (slice_range w (offset_position o a) (offset_position o b))
    → AreCharBoundaries o (slice_range w (offset_position o a) (offset_position o b)) a b
    → all_slots (text_good v o w) a (b - a) ≡ true
whole_good o w v n a b h ab bn u cuts = below_from (λ k. text_good v o w (a + k)) (b - a)
    (λ k l. or_true (not (is_valid v (a + k))) _ (whole_text o w n a b h ab bn u cuts (a + k) (omega arith) (omega (arith, l))))
  where
    or_true : (x y : Bool) → y ≡ true → (x || y) ≡ true
    or_true true y e = refl
    or_true false y e = e
