-- The first slots of a column that has more.
use Rattle.std.proofs.Common.{◌≡◌, ◌∙◌, refl, sym, ap, ℕ, zero, suc, ◌+◌, ◌-◌, ◌*◌, ◌/◌, ◌%◌, ◌^◌, ◌<◌, ◌≤◌, Bool, true, false, cond}
use Rattle.std.proofs.Common.{List, [], ◌∷◌, ◌++◌, length, take, drop, get_or, append_assoc, length-append, length-drop, arith, add-one}
use Rattle.std.proofs.Math.Nat.{mod-eq_of_lt}
use Rattle.std.proofs.lemmas.List.{drop-append-le, drop_at, length-take, take-append-le, take-take, take_all, take_at}
use Rattle.std.proofs.lemmas.Nat.{and_mask, mod-pow-add, one_shl}
use Rattle.std.specs.Prelude.{bit_and, min, slice_set}
use Rattle.std.specs.Int.{bytes_low_first}
use Rattle.ipc_scalar.specs.Bytes.{bit, clear, num}
use Rattle.ipc_model.specs.declared.layout.Layout.{Layout}
use Rattle.ipc_model.specs.declared.layout.Layout.TheVariants as l
use Rattle.ipc_model.specs.declared.value.Value.{Value}
use Rattle.ipc_model.specs.declared.value.Value.TheVariants.{Null}
use Rattle.ipc_encode.specs.Bitmaps.{flags_number, flags_bytes, bitmap}
use Rattle.ipc_encode.specs.Built.{AreContents, AreListEnds}
use Rattle.ipc_encode.specs.Cells.{HasUtf8, extent, ends, flags, nulls, offsets, slots}
use Rattle.ipc_encode.specs.Buffers.{column_nulls}
use Rattle.ipc_encode.specs.Columns.{validity_bytes, validity_in}
use Rattle.ipc_encode.specs.Pieces.{Bytes, Content, Items, OffsetUnit, Valid, ValueSlot}
use Rattle.ipc_encode.proofs.Bits.{clear_is, clear_so_far, flags_append, flags_length, flags_number-lt, length_bytes, nulls_append}
use Rattle.ipc_encode.proofs.HeldValues.{all_left}
use Rattle.ipc_encode.proofs.NumberSlots.{slots_append}
use Rattle.ipc_encode.proofs.ReadbackParts.{Wide, bitmap_length, end_is, nulls_most, reach}
use Rattle.ipc_encode.proofs.ReadbackParts.{reach_bytes, reach_items, validity_cases, wide_length}
use Rattle.ipc_encode.proofs.Sizes.{items_data, offsets_size}
use Rattle.ipc_encode.proofs.Steps.{some_null}

-- ---- the first bits

-- the first bytes of packed flags
front_bytes : (n m : ℕ) (fs : List Bool) → n ≤ m → take n (flags_bytes m fs) ≡ flags_bytes n fs
front_bytes zero m fs h = refl
front_bytes (suc n) zero fs h = absurd (omega arith)
front_bytes (suc n) (suc m) fs h =
    ap (λ (bs : List ℕ). flags_number (take 8 fs) ∷ bs) (front_bytes n m (drop 8 fs) (omega arith))

-- flags that fill their bytes are packed in the same way before others
whole_bytes : (n : ℕ) (fs gs : List Bool) → 8 * n ≤ length fs → flags_bytes n (fs ++ gs) ≡ flags_bytes n fs
whole_bytes zero fs gs h = refl
whole_bytes (suc n) fs gs h =
    let front = take-append-le 8 fs gs (omega arith) in
    let behind = drop-append-le 8 fs gs (omega arith) in
    let rest = whole_bytes n (drop 8 fs) gs (omega (arith, length-drop 8 fs)) in
    rw (front, behind, rest) refl

-- the low bits of a number are its first flags
low_flags : (k : ℕ) (fs : List Bool) → flags_number fs % 2 ^ k ≡ flags_number (take k fs)
low_flags zero fs = omega arith
low_flags (suc k) [] = mod-eq_of_lt (flags_number-lt [] (suc k) (omega arith))
low_flags (suc k) (true ∷ fs) =
    let rest = low_flags k fs in
    let half : (1 + 2 * flags_number fs) / 2 ≡ flags_number fs = omega arith in
    let low : (1 + 2 * flags_number fs) % 2 ≡ 1 = omega arith in
    let split = mod-pow-add (1 + 2 * flags_number fs) k 1 in
    ap (λ (n : ℕ). (1 + 2 * flags_number fs) % 2 ^ n) (sym (add-one k))
    ∙ (split ∙ (ap (λ (n : ℕ). (n % 2 ^ k) * 2 + (1 + 2 * flags_number fs) % 2) half ∙ omega (arith, rest, low)))
low_flags (suc k) (false ∷ fs) =
    let rest = low_flags k fs in
    let half : (0 + 2 * flags_number fs) / 2 ≡ flags_number fs = omega arith in
    let low : (0 + 2 * flags_number fs) % 2 ≡ 0 = omega arith in
    let split = mod-pow-add (0 + 2 * flags_number fs) k 1 in
    ap (λ (n : ℕ). (0 + 2 * flags_number fs) % 2 ^ n) (sym (add-one k))
    ∙ (split ∙ (ap (λ (n : ℕ). (n % 2 ^ k) * 2 + (0 + 2 * flags_number fs) % 2) half ∙ omega (arith, rest, low)))

-- a byte without the bits behind the first flags
low_byte : (fs gs : List Bool) (r : ℕ) → length fs ≡ r → r ≤ 8
    → bit_and (flags_number (take 8 (fs ++ gs))) (2 ^ r - 1) ≡ flags_number (take 8 fs)
low_byte fs gs r size few =
    and_mask (flags_number (take 8 (fs ++ gs))) r
    ∙ (low_flags r (take 8 (fs ++ gs))
    ∙ ap flags_number (take-take r 8 (fs ++ gs) few ∙ (take_at fs gs r size ∙ sym (take_all 8 fs (omega (arith, size))))))

-- without them in the last byte the bytes are those of the first flags
last_byte : (n : ℕ) (fs gs : List Bool) (r d : ℕ) → length fs ≡ 8 * n + r → r < 8 → (k : ℕ) → k ≡ n
    → slice_set (flags_bytes (suc n) (fs ++ gs)) k (bit_and (get_or (flags_bytes (suc n) (fs ++ gs)) k d) (2 ^ r - 1))
    ≡ flags_bytes (suc n) fs
last_byte zero fs gs r d size few k e =
    rw e (ap (λ (b : ℕ). b ∷ []) (low_byte fs gs r (omega (arith, size)) (omega arith)))
last_byte (suc n) fs gs r d size few k e =
    let front = take-append-le 8 fs gs (omega (arith, size)) in
    let behind = drop-append-le 8 fs gs (omega (arith, size)) in
    let rest = last_byte n (drop 8 fs) gs r d (omega (arith, length-drop 8 fs, size)) few n refl in
    let cut = λ (xs : List Bool).
    slice_set (flags_bytes (suc n) xs) n (bit_and (get_or (flags_bytes (suc n) xs) n d) (2 ^ r - 1)) in
    rw e (ap (λ (xs : List Bool). flags_number (take 8 (fs ++ gs)) ∷ cut xs) behind
    ∙ (ap (λ (xs : List Bool). flags_number xs ∷ cut (drop 8 fs ++ gs)) front
    ∙ ap (λ (bs : List ℕ). flags_number (take 8 fs) ∷ bs) rest))

-- the bytes of the first bits
first_bytes : (fs gs : List Bool) (items : List ℕ) (count : ℕ) → items ≡ bitmap (fs ++ gs) → count ≡ (length fs + 7) / 8
    → take count items ≡ flags_bytes count (fs ++ gs)
first_bytes fs gs items count packed many =
    let size = length-append fs gs in
    ap (λ (bs : List ℕ). take count bs) packed
    ∙ front_bytes count ((length (fs ++ gs) + 7) / 8) (fs ++ gs) (omega (arith, size, many))

-- the last of them without the others
pub bits_cut : (fs gs : List Bool) (bits : ℕ) (items : List ℕ) (count byte d : ℕ) → length fs ≡ bits → items ≡ bitmap (fs ++ gs)
    → count ≡ (bits + 7) / 8 → bits / 8 < length (take count items) → byte ≡ get_or (take count items) (bits / 8) d
    → slice_set (take count items) (bits / 8) (bit_and byte (1 * 2 ^ (bits % 8) % 256 - 1)) ≡ bitmap fs
bits_cut fs gs bits items count byte d size packed many inside e =
    let n = bits / 8 in
    let r = bits % 8 in
    let few : r < 8 = omega arith in
    let short = length-take count items in
    let last : count ≡ suc n = omega (arith, many, inside, short) in
    let split : length fs ≡ 8 * n + r = omega (arith, size) in
    let own : (length fs + 7) / 8 ≡ suc n = omega (arith, many, last, size) in
    let front : take count items ≡ flags_bytes (suc n) (fs ++ gs) =
    first_bytes fs gs items count packed (omega (arith, many, size)) ∙ ap (λ (k : ℕ). flags_bytes k (fs ++ gs)) last in
    let here : byte ≡ get_or (flags_bytes (suc n) (fs ++ gs)) n d = e ∙ ap (λ (bs : List ℕ). get_or bs n d) front in
    let mask : 1 * 2 ^ r % 256 ≡ 2 ^ r = one_shl r 8 few in
    rw (mask, front, here, own) (last_byte n fs gs r d split few n refl)

-- where they fill their bytes
pub bytes_cut : (fs gs : List Bool) (bits : ℕ) (items : List ℕ) (count : ℕ) → length fs ≡ bits → items ≡ bitmap (fs ++ gs)
    → count ≡ (bits + 7) / 8 → length (take count items) ≤ bits / 8 → take count items ≡ bitmap fs
bytes_cut fs gs bits items count size packed many short =
    let front = first_bytes fs gs items count packed (omega (arith, many, size)) in
    let all = ap (λ (bs : List ℕ). length bs) front ∙ length_bytes count (fs ++ gs) in
    let whole : 8 * count ≤ length fs = omega (arith, many, size, all, short) in
    let own : count ≡ (length fs + 7) / 8 = omega (arith, many, size) in
    front ∙ (whole_bytes count fs gs whole ∙ ap (λ (k : ℕ). flags_bytes k fs) own)

-- ---- the first slots of a buffer

-- those of one width
pub slots_cut : (which : ValueSlot) (w : ℕ) (vs ws : List Value) (items : List ℕ) (count : ℕ) → Wide which w vs
    → items ≡ slots which (vs ++ ws) → count ≡ w * length vs → take count items ≡ slots which vs
slots_cut which w vs ws items count wide same many =
    ap (λ (bs : List ℕ). take count bs) (same ∙ slots_append which vs ws)
    ∙ take_at (slots which vs) (slots which ws) count (wide_length which w vs wide ∙ sym many)

-- those of content, up to their end
pub content_cut : (vs ws : List Value) (items : List ℕ) (count : ℕ) → items ≡ slots Content (vs ++ ws)
    → count ≡ length (slots Content vs) → take count items ≡ slots Content vs
content_cut vs ws items count same many =
    ap (λ (bs : List ℕ). take count bs) (same ∙ slots_append Content vs ws)
    ∙ take_at (slots Content vs) (slots Content ws) count (sym many)

ends_append : (run : OffsetUnit) (start : ℕ) (vs ws : List Value)
    → ends run start (vs ++ ws) ≡ ends run start vs ++ ends run (start + reach run vs) ws
ends_append run start [] ws = ap (λ (n : ℕ). ends run n ws) (omega arith)
ends_append run start (v ∷ vs) ws =
    let next = start + extent run v in
    let here = bytes_low_first 0 4 next in
    let same : next + reach run vs ≡ start + (extent run v + reach run vs) = omega arith in
    ap (λ (bs : List ℕ). here ++ bs)
    (ends_append run next vs ws ∙ ap (λ (n : ℕ). ends run next vs ++ ends run n ws) same)
    ∙ sym (append_assoc here (ends run next vs) (ends run (start + (extent run v + reach run vs)) ws))

-- the offsets
pub offsets_cut : (run : OffsetUnit) (vs ws : List Value) (items : List ℕ) (count : ℕ) → items ≡ offsets run (vs ++ ws)
    → count ≡ 4 * (length vs + 1) → take count items ≡ offsets run vs
offsets_cut run vs ws items count same many =
    let first = bytes_low_first 0 4 0 in
    let rest = ends run (0 + reach run vs) ws in
    ap (λ (bs : List ℕ). take count bs)
    (same ∙ (ap (λ (bs : List ℕ). first ++ bs) (ends_append run 0 vs ws) ∙ sym (append_assoc first (ends run 0 vs) rest)))
    ∙ take_at (offsets run vs) rest count (offsets_size run vs ∙ sym many)

-- offsets reach to where those of the first slots do, and further
pub reach_append : (run : OffsetUnit) (vs ws : List Value) → reach run (vs ++ ws) ≡ reach run vs + reach run ws
reach_append run [] ws = omega arith
reach_append run (v ∷ vs) ws = let more = reach_append run vs ws in omega (arith, more)

-- the last offset
pub last_offset : (run : OffsetUnit) (vs : List Value) → reach run vs ≤ 2 ^ 31 - 1 → num (offsets run vs) (4 * length vs) 4 ≡ reach run vs
last_offset run vs short =
    end_is run vs (length vs) (omega arith) short ∙ ap (λ (ws : List Value). reach run ws) (take_all (length vs) vs (omega arith))

-- the last offset that is left is where the first slots end
end_cut : (run : OffsetUnit) (vs ws : List Value) (old new : List ℕ) (count end : ℕ) → length vs ≡ count → old ≡ offsets run (vs ++ ws)
    → reach run (vs ++ ws) ≤ 2 ^ 31 - 1 → new ≡ take (4 * (count + 1)) old
    → (4 * (count + 1) ≤ length old → end ≡ num new (4 * count) 4) → (new ≡ offsets run vs) × (end ≡ reach run vs)
end_cut run vs ws old new count end size same short cut last =
    let front : new ≡ offsets run vs = cut ∙ offsets_cut run vs ws old (4 * (count + 1)) same (omega (arith, size)) in
    let both = reach_append run vs ws in
    let all = ap (λ (bs : List ℕ). length bs) same ∙ offsets_size run (vs ++ ws) in
    let there : 4 * (count + 1) ≤ length old = omega (arith, all, size, length-append vs ws) in (
      front,
      last there ∙ (ap (λ (bs : List ℕ). num bs (4 * count) 4) front
          ∙ (ap (λ (n : ℕ). num (offsets run vs) (4 * n) 4) (sym size) ∙ last_offset run vs (omega (arith, both, short)))),
    )

-- binary values or texts
pub contents_cut : (vs ws : List Value) (old_ends old_bytes ends bytes : List ℕ) (count end : ℕ) → length vs ≡ count
    → AreContents (vs ++ ws) old_ends old_bytes → ends ≡ take (4 * (count + 1)) old_ends
    → (4 * (count + 1) ≤ length old_ends → end ≡ num ends (4 * count) 4) → bytes ≡ take end old_bytes → AreContents vs ends bytes
contents_cut vs ws old_ends old_bytes ends bytes count end size h cut last taken =
    let whole = ap (λ (bs : List ℕ). length bs) h.bytes_are in
    let short : reach Bytes (vs ++ ws) ≤ 2 ^ 31 - 1 = omega (arith, reach_bytes (vs ++ ws), whole, h.short) in
    let front = end_cut Bytes vs ws old_ends ends count end size h.offsets_are short cut last in
    let own : bytes ≡ slots Content vs = taken ∙ content_cut vs ws old_bytes end h.bytes_are (front.1 ∙ reach_bytes vs) in
    let length_own = ap (λ (bs : List ℕ). length bs) own in
    record {
      offsets_are = front.0;
      bytes_are = own;
      texts = all_left HasUtf8 vs ws h.texts;
      short = omega (arith, length_own, reach_bytes vs, reach_append Bytes vs ws, short);
    }

-- lists
pub list_ends_cut : (vs ws : List Value) (old_ends ends : List ℕ) (items count end : ℕ) → length vs ≡ count
    → AreListEnds (vs ++ ws) old_ends items → ends ≡ take (4 * (count + 1)) old_ends
    → (4 * (count + 1) ≤ length old_ends → end ≡ num ends (4 * count) 4) → AreListEnds vs ends end
list_ends_cut vs ws old_ends ends items count end size h cut last =
    let whole = items_data (vs ++ ws) in
    let short : reach Items (vs ++ ws) ≤ 2 ^ 31 - 1 = omega (arith, reach_items (vs ++ ws), whole, h.items_are, h.short) in
    let front = end_cut Items vs ws old_ends ends count end size h.offsets_are short cut last in
    record {
      offsets_are = front.0;
      items_are = front.1 ∙ (reach_items vs ∙ items_data vs);
      short = omega (arith, front.1, reach_append Items vs ws, short);
    }

-- ---- the validity of the first slots

-- a bitmap that is cut, where some slot is null
pub validity_cut : (layout : Layout) (vs ws : List Value) (old new : List ℕ) (count none : ℕ) → length vs ≡ count
    → column_nulls layout vs ≡ none → (none ≡ 0 → ⊥) → old ≡ validity_in layout (vs ++ ws)
    → ((fs gs : List Bool) → length fs ≡ count → old ≡ bitmap (fs ++ gs) → new ≡ bitmap fs) → (old ≡ [] → new ≡ [])
    → new ≡ validity_in layout vs
validity_cut layout vs ws old new count none size nil some same cut empty = by layout nil same
  where
    other : nulls vs ≡ none → old ≡ validity_bytes (vs ++ ws) → new ≡ validity_bytes vs
    other nil same =
        let both = nulls_append vs ws in
        let packed = same ∙ some_null (vs ++ ws) (λ e. some (omega (arith, both, nil, e))) in
        cut (flags Valid vs) (flags Valid ws) (flags_length Valid vs ∙ size) (packed ∙ ap bitmap (flags_append Valid vs ws))
        ∙ sym (some_null vs (λ e. some (sym nil ∙ e)))

    by : (lay : Layout) → column_nulls lay vs ≡ none → old ≡ validity_in lay (vs ++ ws) → new ≡ validity_in lay vs
    by l.Null nil same = empty same
    by _ nil same = other nil same

-- ---- the nulls of the first slots

-- the clear bits of a bitmap before the first slots end are their nulls
pub clear_front : (vs ws : List Value) → clear (bitmap (flags Valid (vs ++ ws))) (length vs) ≡ nulls vs
clear_front vs ws =
    let size = length-append vs ws in
    let so_far = clear_so_far (vs ++ ws) (length vs) Null (omega (arith, size)) in
    let behind = ap nulls (drop_at vs ws (length vs) refl) in
    let all = nulls_append vs ws in
    omega (arith, so_far, behind, all)

-- of the nulls of all slots those are left that no clear bit behind the first slots marks
pub nulls_cut : (vs ws : List Value) (marks : List ℕ) (count marked dropped : ℕ) → marks ≡ validity_bytes (vs ++ ws)
    → length vs ≡ count → (length (vs ++ ws) ≤ 8 * length marks → marked ≡ length (vs ++ ws))
    → (count ≤ marked → clear marks count + dropped ≡ clear marks marked)
    → min (nulls (vs ++ ws) - dropped) count ≡ nulls vs
nulls_cut vs ws marks count marked dropped same size all between =
    validity_cases (λ bytes. marks ≡ bytes → min (nulls (vs ++ ws) - dropped) count ≡ nulls vs) (vs ++ ws) none some same
  where
    both : nulls (vs ++ ws) ≡ nulls vs + nulls ws
    both = nulls_append vs ws

    none : nulls (vs ++ ws) ≡ 0 → marks ≡ [] → min (nulls (vs ++ ws) - dropped) count ≡ nulls vs
    none nil e = omega (arith, both, nil)

    some : marks ≡ bitmap (flags Valid (vs ++ ws)) → min (nulls (vs ++ ws) - dropped) count ≡ nulls vs
    some e =
        let long = length-append vs ws in
        let bytes = ap (λ (bs : List ℕ). length bs) e ∙ bitmap_length (vs ++ ws) in
        let last : marked ≡ length (vs ++ ws) = all (omega (arith, bytes)) in
        let front : clear marks count ≡ nulls vs =
        ap (λ (bs : List ℕ). clear bs count) e
        ∙ (ap (λ (n : ℕ). clear (bitmap (flags Valid (vs ++ ws))) n) (sym size) ∙ clear_front vs ws) in
        let whole : clear marks marked ≡ nulls (vs ++ ws) =
        ap (λ (bs : List ℕ). clear bs marked) e
        ∙ (ap (λ (n : ℕ). clear (bitmap (flags Valid (vs ++ ws))) n) last ∙ clear_is (vs ++ ws) Null) in
        let sum = between (omega (arith, last, long, size)) in
        omega (arith, front, whole, sum, nulls_most vs, size)

-- the clear bits so far and the next
pub clear_next : (b : List ℕ) (k n : ℕ) → n ≡ cond (bit b k) 0 1 → clear b (k + 1) ≡ clear b k + n
unfolding clear
clear_next b k n e = rw (add-one k, e) refl
