-- The parts of a column that is read back: its bits, lengths and indices.
use Rattle.std.proofs.Common.{◌≡◌, ◌∙◌, refl, sym, ap, subst, ℕ, zero, suc, ◌+◌, ◌-◌, ◌*◌, ◌/◌, ◌%◌, ◌^◌, ◌<◌, ◌≤◌, Bool, true, false}
use Rattle.std.proofs.Common.{cond, List, [], ◌∷◌, ◌++◌, length, take, take_all, drop, get_or, append_assoc, length-append, arith}
use Rattle.std.proofs.Math.Nat.{mod-eq_of_lt}
use Rattle.std.proofs.lemmas.Bool.{eqb-true, ne_eqb}
use Rattle.std.proofs.lemmas.Int.{ints, to_z_pos, to_z-of_z}
use Rattle.std.proofs.lemmas.Option.{get_or_from_slice_get}
use Rattle.std.specs.Int.{w32, cast_signed, bytes_low_first, w8, w16, w64, cast_unsigned}
use Rattle.std.specs.List.{AllByRecursion}
use Rattle.std.specs.Prelude.{◌==◌, ℤ, pos, unsigned_abs, ◌≤ℤ◌, slice_range, ⊤, negsuc, not}
use Rattle.std.specs.Str.{IsUtf8}
use Rattle.ipc_scalar.proofs.Places.{length_low_bytes, num_low}
use Rattle.ipc_scalar.specs.Bytes.{num, clear}
use Rattle.ipc_model.specs.Layouts.{number_bytes, has_validity}
use Rattle.ipc_model.specs.Ranges.{width, IsSignedWithin, IsUnsignedWithin}
use Rattle.ipc_model.specs.declared.layout.Layout.{Layout}
use Rattle.ipc_model.specs.declared.layout.Layout.TheVariants as l
use Rattle.ipc_model.specs.declared.schema.IntBits.{IntBits}
use Rattle.ipc_model.specs.declared.schema.IntBits.TheVariants.{B8, B16, B32, B64}
use Rattle.ipc_model.specs.declared.value.Value.{Value, out-Value}
use Rattle.ipc_model.specs.declared.value.Value.TheOpen.{Value-F}
use Rattle.ipc_model.specs.declared.value.Value.TheVariants as v
use Rattle.ipc_column.proofs.Opened.{unsigned_out}
use Rattle.ipc_column.specs.Columns.{Column}
use Rattle.ipc_column.specs.Dictionaries.{Dictionaries, values_for}
use Rattle.ipc_column.specs.checks.Rules.{AreOffsets, HoldValues, HoldOffsets, IsLongEnough, CountsNulls}
use Rattle.ipc_column.specs.Shapes.{dictionary_of}
use Rattle.ipc_column.specs.Values.{is_valid, offset, offset_position, between, signed_at, value_at, number_in}
use Rattle.ipc_encode.specs.Bitmaps.{bitmap}
use Rattle.ipc_encode.specs.Buffers.{column_nulls, piece_bytes}
use Rattle.ipc_encode.specs.Cells.{is_set, flags, nulls, number_bits, content, fixed_bytes, SpellsOut, slot_bytes, slots, extent, ends}
use Rattle.ipc_encode.specs.Cells.{offsets, items, all_items, is_null}
use Rattle.ipc_encode.specs.Columns.{validity_bytes, validity_in}
use Rattle.ipc_encode.specs.Indices.{InColumn, FindsIndex, IsIndexWithin}
use Rattle.ipc_encode.specs.Numbers.{Numbering, numbers_of, index_unless_null, as_number}
use Rattle.ipc_encode.specs.Pieces.{Valid, True, OffsetUnit, ValueSlot, Number, Fixed, Content}
use Rattle.ipc_encode.specs.Pieces as p
use Rattle.ipc_encode.proofs.Bits.{length_bytes, bit_of, flags_length, clear_is}
use Rattle.ipc_encode.proofs.Indexed.{numbers_length, number_at}
use Rattle.ipc_encode.proofs.Ranges.{cut_behind}
use Rattle.ipc_encode.proofs.Steps.{fixed_length}

-- the bytes of the offsets in a column of this layout
abbrev pub offsets_in : Layout → List Value → List ℕ
offsets_in (l.VariableBytes utf8) values = offsets p.Bytes values
offsets_in l.Null values = []
offsets_in l.Bits values = []
offsets_in (l.Numbers bits signed) values = []
offsets_in (l.FixedBytes width) values = []
offsets_in l.Lists values = offsets p.Items values
offsets_in l.Structs values = []
offsets_in (l.FixedLists size) values = []
offsets_in (l.Indices bits signed id) values = []

-- ---- what is read back of the buffers of a column, buffer by buffer

-- ---- a column as it is written

-- the bytes of the values in a column as it is written: a column of indices has their numbers
abbrev pub written_values : Numbering → Layout → List Value → List ℕ
written_values known (l.Indices bits signed id) vs = slots (Number bits) (numbers_of (known id) vs)
written_values known l.Bits vs = bitmap (flags True vs)
written_values known (l.Numbers bits signed) vs = slots (Number bits) vs
written_values known (l.FixedBytes width) vs = slots (Fixed width) vs
written_values known (l.VariableBytes utf8) vs = slots Content vs
written_values known _ vs = []

-- the column of this layout that is written for these values, under the dictionaries in force
abbrev pub column_of : Dictionaries → Numbering → Layout → List Value → Column
column_of m known l vs = record {
  layout = l;
  slots = length vs;
  nulls = column_nulls l vs;
  validity = validity_in l vs;
  offsets = offsets_in l vs;
  values = written_values known l vs;
  dictionary = dictionary_of m l;
}

-- a value that a layout with so many children holds; in a column of indices any value may stand
abbrev pub Holds : Layout → ℕ → Value-F Value → Type 0
Holds (l.Indices bits signed id) n w = ⊤
Holds _ n Value-F.Null = ⊤
Holds l.Bits n (Value-F.Bool truth) = ⊤
Holds (l.Numbers bits true) n (Value-F.Int z) = IsSignedWithin (width bits) z
Holds (l.Numbers bits false) n (Value-F.UInt k) = IsUnsignedWithin (width bits) k
Holds (l.FixedBytes width) n (Value-F.Bytes bytes) = length bytes ≡ width
Holds (l.VariableBytes false) n (Value-F.Bytes bytes) = ⊤
Holds (l.VariableBytes true) n (Value-F.Text text) = ⊤
Holds l.Lists n (Value-F.List values) = n ≡ 1
Holds (l.FixedLists size) n (Value-F.List values) = (length values ≡ size) × (n ≡ 1)
Holds l.Structs n (Value-F.Struct values) = length values ≡ n
Holds _ n w = ⊥

-- each of the values is held by the layout
abbrev pub AllHeld : Layout → ℕ → List Value → Type 0
AllHeld l n vs = AllByRecursion (λ v. Holds l n (out-Value v)) vs

-- a list of a fixed size has one child, also where there are no values
abbrev pub HasItsChild : Layout → ℕ → Type 0
HasItsChild (l.FixedLists size) n = n ≡ 1
HasItsChild _ n = ⊤

-- what holds of all values holds of the i-th
pub each_at : (P : Value → Type 0) (vs : List Value) (i : ℕ) (d : Value) → AllByRecursion P vs → i < length vs → P (get_or vs i d)
each_at P [] i d h k = absurd (omega arith)
each_at P (v ∷ vs) zero d h k = h.0
each_at P (v ∷ vs) (suc i) d h k = each_at P vs i d h.1 (omega arith)

-- where a layout holds all values, it holds the i-th
pub held_at : (l : Layout) (n : ℕ) (vs : List Value) (i : ℕ) (d : Value) → AllHeld l n vs → i < length vs
    → Holds l n (out-Value (get_or vs i d))
held_at l n vs i d h k = each_at (λ v. Holds l n (out-Value v)) vs i d h k

-- ---- validity

-- no more of the values are null than there are
pub nulls_most : (vs : List Value) → nulls vs ≤ length vs
nulls_most [] = omega arith
nulls_most (v ∷ vs) = let h = nulls_most vs in elim (is_set Valid v) as (λ b. cond b 0 1 + nulls vs ≤ suc (length vs))
    [ true ↦ omega (arith, h) | false ↦ omega (arith, h) ]

pub column_nulls_most : (layout : Layout) (vs : List Value) → column_nulls layout vs ≤ length vs
column_nulls_most l.Null vs = omega arith
column_nulls_most _ vs = nulls_most vs

-- where no value is null, each is valid
pub no_null : (vs : List Value) (i : ℕ) (d : Value) → nulls vs ≡ 0 → i < length vs → is_set Valid (get_or vs i d) ≡ true
no_null [] i d e k = absurd (omega arith)
no_null (v ∷ vs) zero d e k = first (is_set Valid v) e
  where
    first : (b : Bool) → cond b 0 1 + nulls vs ≡ 0 → b ≡ true
    first true e = refl
    first false e = absurd (omega arith)
no_null (v ∷ vs) (suc i) d e k = no_null vs i d (omega (arith, e)) (omega arith)

-- a validity bitmap has one bit for each value, rounded up to whole bytes
pub bitmap_length : (vs : List Value) → length (bitmap (flags Valid vs)) ≡ (length vs + 7) / 8
bitmap_length vs = length_bytes _ _ ∙ ap (λ (n : ℕ). (n + 7) / 8) (flags_length Valid vs)

-- the two forms of a validity bitmap
pub validity_cases : (P : List ℕ → Type 0) (vs : List Value) → (nulls vs ≡ 0 → P []) → P (bitmap (flags Valid vs)) → P (validity_bytes vs)
validity_cases P vs none some =
    elim (nulls vs == 0) as (λ b. (nulls vs == 0) ≡ b → P (piece_bytes (cond b p.Absent (p.Flags Valid)) vs)) [
      | true ↦ λ e. none (eqb-true (nulls vs) 0 e)
      | false ↦ λ e. some
    ] refl

-- a slot is valid exactly where its value is not null
pub valid_is : (vs : List Value) (i : ℕ) (d : Value) → i < length vs → is_valid (validity_bytes vs) i ≡ is_set Valid (get_or vs i d)
valid_is vs i d k =
    validity_cases (λ bytes. is_valid bytes i ≡ is_set Valid (get_or vs i d)) vs (λ none. sym (no_null vs i d none k)) some
  where
    some : is_valid (bitmap (flags Valid vs)) i ≡ is_set Valid (get_or vs i d)
    some =
        let size = bitmap_length vs in
        rw (ne_eqb (length (bitmap (flags Valid vs))) 0 (omega (arith, size))) (bit_of Valid vs i d k)

-- ---- slots

-- the bytes of all slots are those before slot i, its own and those behind it
pub slots_split : (which : ValueSlot) (vs : List Value) (i : ℕ) (d : Value) → i < length vs
    → slots which vs ≡ slots which (take i vs) ++ (slot_bytes which (get_or vs i d) ++ slots which (drop (suc i) vs))
slots_split which [] i d k = absurd (omega arith)
slots_split which (v ∷ vs) zero d k = refl
slots_split which (v ∷ vs) (suc i) d k =
    ap (λ (bs : List ℕ). slot_bytes which v ++ bs) (slots_split which vs i d (omega arith))
    ∙ sym (append_assoc (slot_bytes which v) (slots which (take i vs)) (slot_bytes which (get_or vs i d) ++ slots which (drop (suc i) vs)))

-- each slot has w bytes
abbrev pub Wide : ValueSlot → ℕ → List Value → Type 0
Wide which w vs = AllByRecursion (λ v. length (slot_bytes which v) ≡ w) vs

-- slots of w bytes each have w bytes for each value
pub wide_length : (which : ValueSlot) (w : ℕ) (vs : List Value) → Wide which w vs → length (slots which vs) ≡ w * length vs
wide_length which w [] h = omega arith
wide_length which w (v ∷ vs) h =
    let e : w * suc (length vs) ≡ w + w * length vs = omega arith in
    omega (arith, e, h.0, wide_length which w vs h.1, length-append (slot_bytes which v) (slots which vs))

-- the first i slots of w bytes each have w * i bytes
pub wide_front : (which : ValueSlot) (w : ℕ) (vs : List Value) (i : ℕ) → Wide which w vs → i ≤ length vs
    → length (slots which (take i vs)) ≡ w * i
wide_front which w vs zero h k = omega arith
wide_front which w [] (suc i) h k = absurd (omega arith)
wide_front which w (v ∷ vs) (suc i) h k =
    let e : w * suc i ≡ w + w * i = omega arith in
    omega (arith, e, h.0, wide_front which w vs i h.1 (omega arith), length-append (slot_bytes which v) (slots which (take i vs)))

-- each slot of numbers has the bytes of their width
pub numbers_wide : (bits : IntBits) (vs : List Value) → Wide (Number bits) (number_bytes bits) vs
numbers_wide bits [] = tt
numbers_wide bits (v ∷ vs) = (length_low_bytes 0 (number_bytes bits) (number_bits v), numbers_wide bits vs)

-- each slot of fixed-size binary has as many bytes as its width
pub fixed_wide : (width : ℕ) (vs : List Value) → Wide (Fixed width) width vs
fixed_wide width [] = tt
fixed_wide width (v ∷ vs) = (fixed_length width v, fixed_wide width vs)

-- the number of slot i
pub number_back : (bits : IntBits) (vs : List Value) (i : ℕ) (d : Value) → i < length vs
    → num (slots (Number bits) vs) (number_bytes bits * i) (number_bytes bits) ≡ number_bits (get_or vs i d) % 256 ^ number_bytes bits
number_back bits vs i d k =
    let w = number_bytes bits in
    let x = number_bits (get_or vs i d) in
    let rest = slots (Number bits) (drop (suc i) vs) in
    ap (λ (bs : List ℕ). num bs (w * i) w) (slots_split (Number bits) vs i d k)
    ∙ num_low (slots (Number bits) (take i vs)) rest (w * i) w x (wide_front (Number bits) w vs i (numbers_wide bits vs) (omega arith))

-- the bytes of slot i, of one width
pub fixed_back : (width : ℕ) (vs : List Value) (i : ℕ) (d : Value) → i < length vs
    → slice_range (slots (Fixed width) vs) (width * i) (width * i + width) ≡ fixed_bytes width (get_or vs i d)
fixed_back width vs i d k =
    let front = slots (Fixed width) (take i vs) in
    let own = fixed_bytes width (get_or vs i d) in
    let start : width * i ≡ length front = sym (wide_front (Fixed width) width vs i (fixed_wide width vs) (omega arith)) in
    let size : width ≡ length own = sym (fixed_length width (get_or vs i d)) in
    let end : width * i + width ≡ length front + length own = omega (arith, start, size) in
    ap (λ (bs : List ℕ). slice_range bs (width * i) (width * i + width)) (slots_split (Fixed width) vs i d k)
    ∙ (ap (λ (m : ℕ). slice_range (front ++ (own ++ slots (Fixed width) (drop (suc i) vs))) (width * i) m) end
    ∙ (ap (λ (m : ℕ). slice_range (front ++ (own ++ slots (Fixed width) (drop (suc i) vs))) m (length front + length own)) start
    ∙ cut_behind front own (slots (Fixed width) (drop (suc i) vs))))

-- ---- offsets

-- how long the runs of values are together
abbrev pub reach : OffsetUnit → List Value → ℕ
reach run [] = 0
reach run (v ∷ vs) = extent run v + reach run vs

-- the runs of bytes are as long as the data
pub reach_bytes : (vs : List Value) → reach p.Bytes vs ≡ length (slots Content vs)
reach_bytes [] = refl
reach_bytes (v ∷ vs) = let rest = reach_bytes vs in omega (arith, rest, length-append (content v) (slots Content vs))

-- the runs of items are as long as the items of all lists
pub reach_items : (vs : List Value) → reach p.Items vs ≡ length (all_items vs)
reach_items [] = refl
reach_items (v ∷ vs) = let rest = reach_items vs in omega (arith, rest, length-append (items v) (all_items vs))

-- the end of each slot is a number of 4 bytes
pub ends_length : (run : OffsetUnit) (start : ℕ) (vs : List Value) → length (ends run start vs) ≡ 4 * length vs
ends_length run start [] = omega arith
ends_length run start (v ∷ vs) =
    let rest = ends_length run (start + extent run v) vs in
    omega (arith, rest)

-- the number at offset i, behind a front
pub ends_back : (run : OffsetUnit) (vs : List Value) (front : List ℕ) (start i : ℕ) → i ≤ length vs
    → num (front ++ (bytes_low_first 0 4 start ++ ends run start vs)) (length front + 4 * i) 4 ≡ (start + reach run (take i vs)) % 2 ^ 32
ends_back run vs front start zero k =
    let at : length front ≡ length front + 4 * 0 = omega arith in
    let more : start ≡ start + 0 = omega arith in
    let same : start % 256 ^ 4 ≡ (start + 0) % 2 ^ 32 = ap (λ (n : ℕ). n % 4294967296) more in
    num_low front (ends run start vs) (length front + 4 * 0) 4 start at ∙ same
ends_back run [] front start (suc i) k = absurd (omega arith)
ends_back run (v ∷ vs) front start (suc i) k =
    let own = bytes_low_first 0 4 start in
    let next = start + extent run v in
    let later = ends_back run vs (front ++ own) next i (omega arith) in
    let size = length-append front own in
    let offset_position : length front + 4 * suc i ≡ length (front ++ own) + 4 * i = omega (arith, size) in
    let sum : next + reach run (take i vs) ≡ start + (extent run v + reach run (take i vs)) = omega arith in
    ap (λ (bs : List ℕ). num bs (length front + 4 * suc i) 4) (sym (append_assoc front own (bytes_low_first 0 4 next ++ ends run next vs)))
    ∙ (ap (λ (m : ℕ). num ((front ++ own) ++ (bytes_low_first 0 4 next ++ ends run next vs)) m 4) offset_position
    ∙ (later ∙ ap (λ (m : ℕ). m % 2 ^ 32) sum))

-- the runs before slot i reach no further than all
pub front_most : (run : OffsetUnit) (vs : List Value) (i : ℕ) → reach run (take i vs) ≤ reach run vs
front_most run vs zero = omega arith
front_most run [] (suc i) = omega arith
front_most run (v ∷ vs) (suc i) = let rest = front_most run vs i in omega (arith, rest)

-- with the run of value i they reach to where the next one begins
pub front_more : (run : OffsetUnit) (vs : List Value) (i : ℕ) (d : Value) → i < length vs
    → reach run (take (suc i) vs) ≡ reach run (take i vs) + extent run (get_or vs i d)
front_more run [] i d k = absurd (omega arith)
front_more run (v ∷ vs) zero d k = omega arith
front_more run (v ∷ vs) (suc i) d k = let rest = front_more run vs i d (omega arith) in omega (arith, rest)

-- the end of slot i is where the runs before the next one reach
pub end_is : (run : OffsetUnit) (vs : List Value) (i : ℕ) → i ≤ length vs → reach run vs ≤ 2 ^ 31 - 1
    → num (offsets run vs) (4 * i) 4 ≡ reach run (take i vs)
end_is run vs i k short =
    let most = front_most run vs i in
    let n = reach run (take i vs) in
    ap (λ (m : ℕ). num (offsets run vs) m 4) (let e : 4 * i ≡ 0 + 4 * i = omega arith in e)
    ∙ (ends_back run vs [] 0 i k ∙ (ap (λ (m : ℕ). m % 2 ^ 32) (let e : 0 + n ≡ n = omega arith in e)
    ∙ mod-eq_of_lt (omega (arith, most, short))))

-- offset i is where the runs before slot i reach
pub offset_is : (run : OffsetUnit) (vs : List Value) (i : ℕ) → i ≤ length vs → reach run vs ≤ 2 ^ 31 - 1
    → offset (offsets run vs) i ≡ pos (reach run (take i vs))
offset_is run vs i k short =
    let most = front_most run vs i in
    let n = reach run (take i vs) in
    ap (cast_signed w32) (end_is run vs i k short) ∙ to_z_pos w32 n (omega (arith, most, short))

-- slot i begins where the runs before it reach
pub place_is : (run : OffsetUnit) (vs : List Value) (i : ℕ) → i ≤ length vs → reach run vs ≤ 2 ^ 31 - 1
    → offset_position (offsets run vs) i ≡ reach run (take i vs)
place_is run vs i k short = ap unsigned_abs (offset_is run vs i k short)

-- slot i ends behind its run
pub place_next : (run : OffsetUnit) (vs : List Value) (i : ℕ) (d : Value) → i < length vs → reach run vs ≤ 2 ^ 31 - 1
    → offset_position (offsets run vs) (i + 1) ≡ reach run (take i vs) + extent run (get_or vs i d)
place_next run vs i d k short =
    let more : i + 1 ≡ suc i = omega arith in
    place_is run vs (i + 1) (omega arith) short ∙ (ap (λ (n : ℕ). reach run (take n vs)) more ∙ front_more run vs i d k)

-- the data between offset i and the next one is the content of value i
pub between_is : (vs : List Value) (i : ℕ) (d : Value) → i < length vs → reach p.Bytes vs ≤ 2 ^ 31 - 1
    → between (offsets p.Bytes vs) (slots Content vs) i ≡ content (get_or vs i d)
between_is vs i d k short =
    let front = slots Content (take i vs) in
    let own = content (get_or vs i d) in
    let before : reach p.Bytes (take i vs) ≡ length front = reach_bytes (take i vs) in
    let start : offset_position (offsets p.Bytes vs) i ≡ length front = place_is p.Bytes vs i (omega arith) short ∙ before in
    let end : offset_position (offsets p.Bytes vs) (i + 1) ≡ length front + length own =
    place_next p.Bytes vs i d k short ∙ ap (λ (n : ℕ). n + length own) before in
    ap (λ (bs : List ℕ). slice_range bs (offset_position (offsets p.Bytes vs) i) (offset_position (offsets p.Bytes vs) (i + 1)))
    (slots_split Content vs i d k)
    ∙ (ap (λ (m : ℕ). slice_range (front ++ (own ++ slots Content (drop (suc i) vs))) (offset_position (offsets p.Bytes vs) i) m) end
    ∙ (ap (λ (m : ℕ). slice_range (front ++ (own ++ slots Content (drop (suc i) vs))) m (length front + length own)) start
    ∙ cut_behind front own (slots Content (drop (suc i) vs))))

-- the runs of the slots are within the reach of offsets
abbrev pub IsShort : Layout → List Value → Type 0
IsShort (l.VariableBytes utf8) vs = reach p.Bytes vs ≤ 2 ^ 31 - 1
IsShort l.Lists vs = reach p.Items vs ≤ 2 ^ 31 - 1
IsShort _ vs = ⊤

-- the offsets that are written begin at 0 and ascend to a bound that all runs keep
pub in_order : (run : OffsetUnit) (vs : List Value) (Within : ℤ → Type 0) → reach run vs ≤ 2 ^ 31 - 1 → Within (pos (reach run vs))
    → AreOffsets (offsets run vs) (length vs) Within
in_order run vs Within short inside = record { from = first; order = λ i k. next i k; to = last }
  where
    first : pos 0 ≤ℤ offset (offsets run vs) 0
    first = let e = offset_is run vs 0 (omega arith) short in rw e (omega (arith, ints))

    next : (i : ℕ) → i < length vs → offset (offsets run vs) i ≤ℤ offset (offsets run vs) (i + 1)
    next i k =
        let more : i + 1 ≡ suc i = omega arith in
        let sum : reach run (take (i + 1) vs) ≡ reach run (take i vs) + extent run (get_or vs i v.Null) =
        ap (λ (n : ℕ). reach run (take n vs)) more ∙ front_more run vs i v.Null k in
        let up : reach run (take i vs) ≤ reach run (take (i + 1) vs) = omega (arith, sum) in
        rw (offset_is run vs i (omega arith) short, offset_is run vs (i + 1) (omega arith) short) (omega (arith, ints, up))

    last : Within (offset (offsets run vs) (length vs))
    last = subst Within (ap (λ (ws : List Value). pos (reach run ws)) (sym (take_all (length vs) vs (omega arith)))
        ∙ sym (offset_is run vs (length vs) (omega arith) short)) inside

-- the content of a text that is not null is UTF-8
pub spelled : (n : ℕ) (w : Value-F Value) (v : Value) → out-Value v ≡ w → Holds (l.VariableBytes true) n w → SpellsOut w
    → is_set Valid v ≡ true → IsUtf8 (content v)
spelled n Value-F.Null v e h text s = absurd (let f : is_set Valid v ≡ false = rw e refl in cc)
spelled n (Value-F.Text bytes) v e h text s = rw e text
spelled n _ v e h text s = absurd h

-- ---- how long the buffers of a column are, and how many nulls they count

-- ---- the facts of a column

-- the buffers that are written are long enough for their slots
pub long_enough : (m : Dictionaries) (known : Numbering) (l : Layout) (n : ℕ) (vs : List Value) → AllHeld l n vs
    → IsLongEnough (column_of m known l vs)
long_enough m known lay n vs h = record { bitmap = bitmap_there lay; values = values_there lay h; offsets = offsets_there lay }
  where
    some : 0 < length (validity_bytes vs) → (length vs + 7) / 8 ≤ length (validity_bytes vs)
    some = validity_cases (λ bytes. 0 < length bytes → (length vs + 7) / 8 ≤ length bytes) vs (λ none h. absurd (omega arith))
        (λ h. let e = bitmap_length vs in omega (arith, e))

    bitmap_there : (l : Layout) → 0 < length (validity_in l vs) → (length vs + 7) / 8 ≤ length (validity_in l vs)
    bitmap_there l.Null h = absurd (omega arith)
    bitmap_there _ h = some h

    values_there : (l : Layout) → AllHeld l n vs → HoldValues l (length vs) (length (written_values known l vs))
    values_there l.Bits h = let e = length_bytes ((length (flags True vs) + 7) / 8) (flags True vs) in let f =
        flags_length True vs in omega (arith, e, f)
    values_there (l.Numbers bits signed) h = let e =
        wide_length (Number bits) (number_bytes bits) vs (numbers_wide bits vs) in omega (arith, e)
    values_there (l.Indices bits signed id) h = let e : length (slots (Number bits) (numbers_of (known id) vs)) ≡ number_bytes bits *
        length vs =
        wide_length (Number bits) (number_bytes bits) (numbers_of (known id) vs) (numbers_wide bits (numbers_of (known id) vs))
        ∙ ap (λ (n : ℕ). number_bytes bits * n) (numbers_length (known id) vs) in omega (arith, e)
    values_there (l.FixedBytes width) h = let e = wide_length (Fixed width) width vs (fixed_wide width vs) in omega (arith, e)
    values_there _ h = tt

    offsets_there : (l : Layout) → HoldOffsets l (length vs) (length (offsets_in l vs))
    offsets_there l.Lists = λ some. let e = ends_length p.Items 0 vs in omega (arith, e)
    offsets_there (l.VariableBytes utf8) = λ some. let e = ends_length p.Bytes 0 vs in omega (arith, e)
    offsets_there _ = tt

-- the null count that is written is the number of the bitmap's clear bits
pub counts_nulls : (m : Dictionaries) (known : Numbering) (l : Layout) (n : ℕ) (vs : List Value) → AllHeld l n vs
    → CountsNulls (column_of m known l vs)
counts_nulls m known lay n vs h = record { with_bitmap = there lay; without_bitmap = absent lay h }
  where
    some : 0 < length (validity_bytes vs) → nulls vs ≡ clear (validity_bytes vs) (length vs)
    some = validity_cases (λ bytes. 0 < length bytes → nulls vs ≡ clear bytes (length vs)) vs (λ none h. absurd (omega arith))
        (λ h. sym (clear_is vs v.Null))

    none : length (validity_bytes vs) ≡ 0 → nulls vs ≡ 0
    none = validity_cases (λ bytes. length bytes ≡ 0 → nulls vs ≡ 0) vs (λ none h. none)
        (λ h. let e = bitmap_length vs in let m = nulls_most vs in omega (arith, e, h, m))

    there : (l : Layout) → has_validity l ≡ true → 0 < length (validity_in l vs)
        → column_nulls l vs ≡ clear (validity_in l vs) (length vs)
    there l.Null e h = absurd (omega arith)
    there _ e h = some h

    absent : (l : Layout) → AllHeld l n vs → has_validity l ≡ true → length (validity_in l vs) ≡ 0 → column_nulls l vs ≡ 0
    absent l.Null h e z = absurd (cc)
    absent _ h e z = none z

-- ---- what is read back of numbers, and of the numbers of a column of indices

-- a number in its range is what its low bytes say
pub number_is : (bits : IntBits) (n : ℕ) → IsUnsignedWithin (width bits) n → n % 256 ^ number_bytes bits ≡ n
number_is B8 n h = mod-eq_of_lt h
number_is _ n h = mod-eq_of_lt h

-- the low bits of a number in two's complement
pub signed_is : (bits : IntBits) (b : List ℕ) (p : ℕ) (z : ℤ) → IsSignedWithin (width bits) z
    → num b p (number_bytes bits) ≡ cast_unsigned w64 z % 256 ^ number_bytes bits → signed_at bits b p ≡ z
signed_is B8 b p (pos n) h e =
    let small : n < 128 = omega (arith, ints, h.1) in
    let low : n % 256 ≡ n = mod-eq_of_lt (omega (arith, small)) in
    ap (cast_signed w8) (e ∙ low) ∙ to_z-of_z w8 (pos n) (omega (arith, ints, small))
signed_is B8 b p (negsuc n) h e =
    let small : n < 128 = omega (arith, ints, h.0) in
    let low : (18446744073709551616 - suc n) % 256 ≡ 256 - suc n = omega (arith, small) in
    ap (cast_signed w8) (e ∙ low) ∙ to_z-of_z w8 (negsuc n) (omega (arith, ints, small))
signed_is B16 b p (pos n) h e =
    let small : n < 32768 = omega (arith, ints, h.1) in
    let low : n % 65536 ≡ n = mod-eq_of_lt (omega (arith, small)) in
    ap (cast_signed w16) (e ∙ low) ∙ to_z-of_z w16 (pos n) (omega (arith, ints, small))
signed_is B16 b p (negsuc n) h e =
    let small : n < 32768 = omega (arith, ints, h.0) in
    let low : (18446744073709551616 - suc n) % 65536 ≡ 65536 - suc n = omega (arith, small) in
    ap (cast_signed w16) (e ∙ low) ∙ to_z-of_z w16 (negsuc n) (omega (arith, ints, small))
signed_is B32 b p (pos n) h e =
    let small : n < 2147483648 = omega (arith, ints, h.1) in
    let low : n % 4294967296 ≡ n = mod-eq_of_lt (omega (arith, small)) in
    ap (cast_signed w32) (e ∙ low) ∙ to_z-of_z w32 (pos n) (omega (arith, ints, small))
signed_is B32 b p (negsuc n) h e =
    let small : n < 2147483648 = omega (arith, ints, h.0) in
    let low : (18446744073709551616 - suc n) % 4294967296 ≡ 4294967296 - suc n = omega (arith, small) in
    ap (cast_signed w32) (e ∙ low) ∙ to_z-of_z w32 (negsuc n) (omega (arith, ints, small))
signed_is B64 b p (pos n) h e =
    let small : n < 9223372036854775808 = omega (arith, ints, h.1) in
    let low : n % 18446744073709551616 ≡ n = mod-eq_of_lt (omega (arith, small)) in
    ap (cast_signed w64) (e ∙ low) ∙ to_z-of_z w64 (pos n) (omega (arith, ints, small))
signed_is B64 b p (negsuc n) h e =
    let small : n < 9223372036854775808 = omega (arith, ints, h.0) in
    let low : (18446744073709551616 - suc n) % 18446744073709551616 ≡ 18446744073709551616 - suc n = omega (arith, small) in
    ap (cast_signed w64) (e ∙ low) ∙ to_z-of_z w64 (negsuc n) (omega (arith, ints, small))

-- what is asked of each value in a column of indices is true of the i-th
pub found_at : (Asked : IntBits → Bool → ℤ → Value → Type 0) (bits : IntBits) (signed : Bool) (id : ℤ) (vs : List Value) (i : ℕ)
    → i < length vs → InColumn Asked (l.Indices bits signed id) vs
    → is_set Valid (get_or vs i v.Null) ≡ true → Asked bits signed id (get_or vs i v.Null)
found_at Asked bits signed id vs i k h =
    each_at (λ value. is_set Valid value ≡ true → Asked bits signed id value) vs i v.Null h k

-- the number in the slot of a value that isn't null is its index
pub number_of_slot : (f : Value → ℕ) (vs : List Value) (i : ℕ) (w : Value-F Value) → i < length vs
    → out-Value (get_or vs i v.Null) ≡ w → is_null w ≡ false
    → number_bits (get_or (numbers_of f vs) i v.Null) ≡ f (get_or vs i v.Null)
number_of_slot f vs i w k e valid =
    ap number_bits (number_at f vs i k ∙ ap (λ (x : Value-F Value). as_number (index_unless_null (f (get_or vs i v.Null)) x)) e)
    ∙ by w valid
  where
    some : number_bits (v.UInt (f (get_or vs i v.Null))) ≡ f (get_or vs i v.Null)
    some = rw (unsigned_out (f (get_or vs i v.Null))) refl

    by : (x : Value-F Value) → is_null x ≡ false
        → number_bits (as_number (index_unless_null (f (get_or vs i v.Null)) x)) ≡ f (get_or vs i v.Null)
    by Value-F.Null h = absurd (cc)
    by _ h = some

-- an index that fits its type is read back
pub index_number : (f : Value → ℕ) (bits : IntBits) (signed : Bool) (vs : List Value) (i : ℕ) (w : Value-F Value) → i < length vs
    → out-Value (get_or vs i v.Null) ≡ w → is_null w ≡ false → IsIndexWithin bits signed (f (get_or vs i v.Null))
    → number_in bits signed (slots (Number bits) (numbers_of f vs)) i ≡ pos (f (get_or vs i v.Null))
index_number f bits signed vs i w k e valid within = by signed within
  where
    back : num (slots (Number bits) (numbers_of f vs)) (number_bytes bits * i) (number_bytes bits)
        ≡ f (get_or vs i v.Null) % 256 ^ number_bytes bits
    back = let size = numbers_length f vs in
        number_back bits (numbers_of f vs) i v.Null (omega (arith, size, k))
        ∙ ap (λ (n : ℕ). n % 256 ^ number_bytes bits) (number_of_slot f vs i w k e valid)

    by : (sign : Bool) → IsIndexWithin bits sign (f (get_or vs i v.Null))
        → number_in bits sign (slots (Number bits) (numbers_of f vs)) i ≡ pos (f (get_or vs i v.Null))
    by true h = signed_is bits (slots (Number bits) (numbers_of f vs)) (number_bytes bits * i) (pos (f (get_or vs i v.Null))) h back
    by false h = ap (λ (n : ℕ). pos n) (back ∙ number_is bits (f (get_or vs i v.Null)) h)

-- a value that isn't null has its flag set
pub flag_from : (value : Value) (w : Value-F Value) → out-Value value ≡ w → is_null w ≡ false → is_set Valid value ≡ true
flag_from value w e h = ap (λ (x : Value-F Value). not (is_null x)) e ∙ ap not h

-- the index in a slot finds the value
pub index_back : (ds : Dictionaries) (known : Numbering) (bits : IntBits) (signed : Bool) (id : ℤ) (vs : List Value) (i : ℕ)
    (w : Value-F Value) → i < length vs → out-Value (get_or vs i v.Null) ≡ w → is_null w ≡ false
    → (is_set Valid (get_or vs i v.Null) ≡ true → FindsIndex ds known bits signed id (get_or vs i v.Null))
    → value_at (values_for ds id) (number_in bits signed (slots (Number bits) (numbers_of (known id) vs)) i) ≡ get_or vs i v.Null
index_back ds known bits signed id vs i w k e valid found =
    let here = found (flag_from (get_or vs i v.Null) w e valid) in
    ap (λ (z : ℤ). value_at (values_for ds id) z) (index_number (known id) bits signed vs i w k e valid here.within)
    ∙ get_or_from_slice_get (values_for ds id) (known id (get_or vs i v.Null)) (get_or vs i v.Null) v.Null here.value_is
