-- How long the parts of the layout are, and what stands in a vtable.
use Rattle.std.proofs.Common.{◌≡◌, ◌⊎◌, inl, inr, ℕ, ◌+◌, ◌-◌, ◌*◌, ◌/◌, ◌%◌, ◌^◌, ◌≤◌, ◌<◌, Bool, true, false, nat_le, List, []}
use Rattle.std.proofs.Common.{◌∷◌, ◌++◌, length, Ok, mul_assoc, refl, ap, sym, ◌∙◌, subst, arith}
use Rattle.std.proofs.lemmas.Bool.{cases_order, leb-true}
use Rattle.std.proofs.lemmas.List.{length-append, length-replicate}
use Rattle.std.specs.Prelude.{ℤ}
use Rattle.std.specs.Int.{Width, w8, w16, w32, w64, w128, byte_len, cast_unsigned}
use Rattle.std.proofs.Common.{FitsSigned}
use Rattle.std.proofs.Math.Facts.{Fits-of_z}
use Rattle.ipc_scalar.specs.Bytes.{num}
use Rattle.ipc_flat.specs.Flat.{vtable_of, vtable_entry}
use Rattle.ipc_build.specs.Trees.{Content, Tree, none, field}
use Rattle.ipc_build.specs.Trees as k
use Rattle.ipc_build.specs.Layout.{little, padding, prefix_place, members, entry_count, table_place, inline_end, string_end, target_end}
use Rattle.ipc_build.specs.Layout.{targets_end, inline_value, inline_bytes, vtable_entries, head_bytes, own_bytes, struct_bytes}
use Rattle.ipc_build.specs.Layout.{target_bytes}
use Rattle.ipc_build.specs.Layout.{targets}
use Rattle.ipc_build.specs.Encodes.{HasField, inline_width}
use Rattle.ipc_build.specs.Ascends.{Role, fields, elements, IsInRange, Below, Writable}
use Rattle.ipc_build.proofs.Has.{Has, has_at, has_left, has_right, has_past, has_zero}
use Rattle.ipc_scalar.proofs.Places.{length_low_bytes}
use Rattle.ipc_build.proofs.Upward.{ends_up}

-- so many fields, of w bytes each, take w times as many bytes
pub length_inline : (w : ℕ) (f : Tree) (h p : ℕ) → length (inline_bytes w f h p) ≡ w * members f
unfolding inline_bytes members
length_inline w none h p = omega arith
length_inline w (field n content inner rest) h p =
    let q = target_end content inner (targets_end inner) p in
    let e = length_inline w rest (h + w) q in
    length-append (little w (inline_value content inner h p)) (inline_bytes w rest (h + w) q)
    ∙ (rw (length_low_bytes 0 w (inline_value content inner h p), e) (omega arith))

-- entries that are counted from number n on are no fewer than n
pub entry_count_up : (f : Tree) (n : ℕ) → Writable (fields n) f → n ≤ entry_count n f
unfolding entry_count Writable
entry_count_up none n h = omega arith
entry_count_up (field m content inner rest) n h = let i = entry_count_up rest (m + 1) h.4 in omega (arith, i, h.0)

-- "Tables": a vtable has an entry for each field of its table, and for each number before the first
pub members_below : (f : Tree) (n : ℕ) → Writable (fields n) f → n + members f ≤ entry_count n f
unfolding members entry_count Writable
members_below none n h = omega arith
members_below (field m content inner rest) n h = let e = members_below rest (m + 1) h.4 in omega (arith, e, h.0)

-- no vtable has more than 16 entries, since numbers are below 16
pub entry_count_small : (f : Tree) (n : ℕ) → n ≤ 16 → Writable (fields n) f → entry_count n f ≤ 16
unfolding entry_count Writable
entry_count_small none n s h = s
entry_count_small (field m content inner rest) n s h = entry_count_small rest (m + 1) (omega (arith, h.1)) h.4

-- the entries from number n on take 2 bytes each
length_entries : (f : Tree) (n d : ℕ) → Writable (fields n) f → length (vtable_entries n d f) ≡ 2 * (entry_count n f - n)
unfolding entry_count Writable vtable_entries
length_entries none n d h = omega arith
length_entries (field m content inner rest) n d h =
    let e = length_entries rest (m + 1) (d + 8) h.4 in
    let u = entry_count_up rest (m + 1) h.4 in
    let z = length-replicate {A = ℕ} (2 * (m - n)) 0 in
    length-append (padding (2 * (m - n))) (little 2 d ++ vtable_entries (m + 1) (d + 8) rest)
    ∙ rw (length-append (little 2 d) (vtable_entries (m + 1) (d + 8) rest), length_low_bytes 0 2 d) (omega (arith, e, u, z, h.0))

-- fields from h on, each in c bytes, and what they point to from p on
pub record Stored (b : List ℕ) (c : ℕ) (f : Tree) (h p : ℕ) : Type 0 where
  pub front : Has b h (inline_bytes c f h p)
  pub behind : Has b p (targets f p)
  pub apart : h + c * members f ≤ p
  pub small : targets_end f p < 2 ^ 31
  pub even : p % 4 ≡ 0

-- the vtable of the table at t has the entries of these fields, whose first is number n or above and stands at h
pub record Entered (b : List ℕ) (t n h : ℕ) (f : Tree) : Type 0 where
  pub vtable : ℕ
  pub vtable_is : vtable_of b t ≡ Ok vtable
  pub size : num b vtable 2 ≡ 4 + 2 * entry_count n f
  pub ends : t + num b (vtable + 2) 2 ≡ h + 8 * members f
  pub there : Has b (vtable + (4 + 2 * n)) (vtable_entries n (h - t) f)
  pub above : t + 4 ≤ h
  pub near : h ≤ t + 4 + 8 * n

-- the entry of a number that no field has is 0
zero_entry : (b : List ℕ) (f : Tree) (v k d n : ℕ) → Writable (fields k) f → Has b (v + (4 + 2 * k)) (vtable_entries k d f)
    → (HasField n f → ⊥) → k ≤ n → n < entry_count k f → num b (v + (4 + 2 * n)) 2 ≡ 0
unfolding entry_count Writable vtable_entries HasField
zero_entry b none v k d n h e no_such low high = absurd (omega (arith, low, high))
zero_entry b (field m content inner rest) v k d n h e no_such low high =
    by (λ o f. zero_entry b rest v (m + 1) (d + 8) n h.4 f (λ i. no_such (inr i)) o high) (cases_order n m)
  where
    gap : Has b (v + (4 + 2 * k)) (padding (2 * (m - k)))
    gap = has_left b _ (padding (2 * (m - k))) _ e

    others : Has b (v + (4 + 2 * (m + 1))) (vtable_entries (m + 1) (d + 8) rest)
    others =
        let z = length-replicate {A = ℕ} (2 * (m - k)) 0 in
        has_at b _ _ _ (omega (arith, z, h.0)) (has_past b _ 2 d _ (has_right b _ (padding (2 * (m - k))) _ e))

    by : (m + 1 ≤ n → Has b (v + (4 + 2 * (m + 1))) (vtable_entries (m + 1) (d + 8) rest) → num b (v + (4 + 2 * n)) 2 ≡ 0)
        → (n ≡ m) ⊎ ((n < m) ⊎ (m < n)) → num b (v + (4 + 2 * n)) 2 ≡ 0
    by go (inl same) = absurd (no_such (inl same))
    by go (inr (inl below)) = subst (λ (x : ℕ). num b x 2 ≡ 0) (omega arith)
        (has_zero b (v + (4 + 2 * k)) (2 * (m - k)) (2 * (n - k)) (omega arith) gap)
    by go (inr (inr over)) = go (omega arith) others

-- "Tables": a field that the table lacks is absent: its entry in the vtable is 0, or lies behind the vtable's end
pub absent_entry : (b : List ℕ) (f : Tree) (v n : ℕ) → Writable (fields 0) f → num b v 2 ≡ 4 + 2 * entry_count 0 f
    → Has b (v + 4) (vtable_entries 0 4 f) → (HasField n f → ⊥) → vtable_entry b v n ≡ 0
absent_entry b f v n h size e no_such =
    by (nat_le (6 + 2 * n) (num b v 2)) refl
  where
    by : (t : Bool) → nat_le (6 + 2 * n) (num b v 2) ≡ t → vtable_entry b v n ≡ 0
    by false is = rw is refl
    by true is = let big = leb-true (6 + 2 * n) (num b v 2) is in rw is
        (zero_entry b f v 0 4 n h e no_such (omega arith) (omega (arith, big, size)))

-- a multiple of 8 is one of each width that divides 8
pub multiple : (h j w : ℕ) → h % 8 ≡ 0 → j * w ≡ 8 → h ≡ (h / 8 * j) * w
multiple h j w e f =
    let eighths : h ≡ h / 8 * 8 = omega arith in
    eighths ∙ (ap (λ (x : ℕ). h / 8 * x) (sym f) ∙ sym (mul_assoc (h / 8) j w))

-- where the parts of a vtable at p and its table stand
pub record Parts (b : List ℕ) (f : Tree) (p : ℕ) : Type 0 where
  pub size : Has b p (little 2 (4 + 2 * entry_count 0 f))
  pub inline_size : Has b (p + 2) (little 2 (4 + 8 * members f))
  pub entered : Has b (p + 4) (vtable_entries 0 4 f)
  pub back : Has b (table_place f p) (little 4 (table_place f p - p))
  pub front : Has b (table_place f p + 4) (inline_bytes 8 f (table_place f p + 4) (inline_end f p))

-- a table's vtable and the distance to it reach from where they begin to 4 bytes into the table
pub length_head : (f : Tree) (p : ℕ) → Writable (fields 0) f → length (head_bytes f p) ≡ table_place f p + 4 - p
unfolding head_bytes
length_head f p h =
    let a = length_low_bytes 0 2 (4 + 2 * entry_count 0 f) in
    let c = length_low_bytes 0 2 (4 + 8 * members f) in
    let d = length_entries f 0 4 h in
    let z = length-replicate {A = ℕ} (table_place f p - (p + 4 + 2 * entry_count 0 f)) 0 in
    let t = length_low_bytes 0 4 (table_place f p - p) in
    simp (length-append) (omega (arith, a, c, d, z, t))

-- a vtable and its table take the bytes from where the vtable begins to where the table's inline part ends
pub length_own : (f : Tree) (p : ℕ) → Writable (fields 0) f → length (own_bytes f p) ≡ inline_end f p - p
unfolding own_bytes
length_own f p h =
    let l = length_head f p h in
    let g = length_inline 8 f (table_place f p + 4) (inline_end f p) in
    length-append (head_bytes f p) (inline_bytes 8 f (table_place f p + 4) (inline_end f p)) ∙ omega (arith, l, g)

-- where a vtable and its table stand, each part of them stands at its place
pub parts : (b : List ℕ) (f : Tree) (p : ℕ) → Writable (fields 0) f → Has b p (own_bytes f p) → Parts b f p
unfolding own_bytes head_bytes
parts b f p h e =
    let l = length_head f p h in
    let inline = inline_bytes 8 f (table_place f p + 4) (inline_end f p) in
    let head = has_left b p (head_bytes f p) inline e in
    let d = length_entries f 0 4 h in
    let z = length-replicate {A = ℕ} (table_place f p - (p + 4 + 2 * entry_count 0 f)) 0 in
    let one = has_past b p 2 (4 + 2 * entry_count 0 f) _ head in
    let two = has_at b _ (p + 4) _ (omega arith) (has_past b (p + 2) 2 (4 + 8 * members f) _ one) in
    let three = has_right b _ (vtable_entries 0 4 f) _ two in
    let four = has_right b _ (padding (table_place f p - (p + 4 + 2 * entry_count 0 f))) _ three in
    record {
      size = has_left b _ (little 2 (4 + 2 * entry_count 0 f)) _ head;
      inline_size = has_left b _ (little 2 (4 + 8 * members f)) _ one;
      entered = has_left b _ (vtable_entries 0 4 f) _ two;
      back = has_at b _ (table_place f p) _ (omega (arith, d, z)) four;
      front = has_at b _ (table_place f p + 4) _ (omega (arith, l)) (has_right b p (head_bytes f p) inline e);
    }

-- a signed number that fits its width is, as the number of its bytes, below that power of 256
pub signed_below : (w : Width) (z : ℤ) → FitsSigned w z → cast_unsigned w z < 256 ^ byte_len w
signed_below w8 z f = (Fits-of_z f).fits
signed_below w16 z f = (Fits-of_z f).fits
signed_below w32 z f = (Fits-of_z f).fits
signed_below w64 z f = (Fits-of_z f).fits
signed_below w128 z f = (Fits-of_z f).fits

-- what stands in a field fits its width
pub value_fits : (content : Content) (f : Tree) (h p : ℕ) → IsInRange content → target_end content f (targets_end f) p < 2 ^ 31
    → inline_value content f h p < 256 ^ inline_width content
value_fits (k.byte x) f h p fine small = fine
value_fits (k.signed w z) f h p fine small = signed_below w z fine.0
value_fits (k.string s) f h p fine small = omega arith
value_fits (k.pairs xs) f h p fine small = omega arith
value_fits k.table f h p fine small = let u = (ends_up f (inline_end f p)).more in omega (arith, u)
value_fits k.tables f h p fine small = let u = (ends_up f (p + 4 + 4 * members f)).more in omega (arith, u)

-- "Structs": a struct of two 64-bit numbers takes 16 bytes
pub length_pairs : (xs : List (ℤ × ℤ)) → length (struct_bytes xs) ≡ 16 * length xs
unfolding struct_bytes
length_pairs [] = refl
length_pairs (x ∷ xs) =
    let l = length_low_bytes 0 8 (cast_unsigned w64 x.0) in
    let m = length_low_bytes 0 8 (cast_unsigned w64 x.1) in
    let e = length_pairs xs in
    simp (length-append) (omega (arith, l, m, e))

-- the element of a vector is a table, which is in its range and writable below
pub element_range : (content : Content) (f : Tree) → content ≡ k.table → Writable (fields 0) f
    → IsInRange content × Below content (λ s. Writable s f)
element_range content f e h = subst (λ (x : Content). IsInRange x × Below x (λ s. Writable s f)) (sym e) (tt, h)

-- what a field points to takes the bytes from where it begins to where it ends, if the tree below does
pub target_length : (content : Content) (f : Tree) → Below content (λ s. Writable s f)
    → ((s : Role) (p : ℕ) → Writable s f → p + length (targets f p) ≡ targets_end f p) → (p : ℕ)
    → p + length (target_bytes content f (targets f) p) ≡ target_end content f (targets_end f) p
target_length (k.byte x) f h below p = omega arith
target_length (k.signed w z) f h below p = omega arith
target_length (k.string s) f h below p =
    let l = length_low_bytes 0 4 (length s) in
    let z = length-replicate {A = ℕ} (string_end s p - (p + 5 + length s)) 0 in
    simp (length-append) (omega (arith, l, z))
target_length (k.pairs xs) f h below p =
    let l = length_low_bytes 0 4 (length xs) in
    let z = length-replicate {A = ℕ} (prefix_place p - p) 0 in
    let m = length_pairs xs in
    simp (length-append) (omega (arith, l, z, m))
target_length k.table f h below p =
    let l = length_own f p h in
    let e = below (fields 0) (inline_end f p) h in
    rw (length-append (own_bytes f p) (targets f (inline_end f p))) (omega (arith, l, e))
target_length k.tables f h below p =
    let q = p + 4 + 4 * members f in
    let l = length_low_bytes 0 4 (members f) in
    let m = length_inline 4 f (p + 4) q in
    let e = below elements q h in
    simp (length-append) (omega (arith, l, m, e))

-- all that fields point to takes the bytes from where it begins to where it ends
pub length_targets : (f : Tree) (s : Role) (p : ℕ) → Writable s f → p + length (targets f p) ≡ targets_end f p
unfolding targets targets_end Writable
length_targets none s p h = omega arith
length_targets (field m content inner rest) (fields n) p h =
    let q = target_end content inner (targets_end inner) p in
    let i = target_length content inner h.3 (λ s p. length_targets inner s p) p in
    let e = length_targets rest (fields (m + 1)) q h.4 in
    rw (length-append (target_bytes content inner (targets inner) p) (targets rest q)) (omega (arith, i, e))
length_targets (field m content inner rest) elements p h =
    let q = target_end content inner (targets_end inner) p in
    let i = target_length content inner (element_range content inner h.0 h.1).1 (λ s p. length_targets inner s p) p in
    let e = length_targets rest elements q h.2 in
    rw (length-append (target_bytes content inner (targets inner) p) (targets rest q)) (omega (arith, i, e))
