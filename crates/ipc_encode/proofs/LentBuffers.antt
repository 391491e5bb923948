-- What the buffers of a column that was read hold, as those of a column that is built hold it.
use Rattle.std.proofs.Common.{◌≡◌, ◌∙◌, refl, sym, ap, subst, ℕ, zero, suc, ◌+◌, ◌-◌, ◌*◌, ◌/◌, ◌<◌, ◌≤◌, Bool, true, false, cond, List}
use Rattle.std.proofs.Common.{[], ◌∷◌, ◌++◌, length, take, drop, get_or, Some, add-one, arith, replicate, inl, inr, ◌^◌}
use Rattle.std.proofs.Common.{length-drop, length-take}
use Rattle.std.proofs.Math.Nat.{mul-le-mul_left}
use Rattle.std.proofs.Math.Seq.{take-add}
use Rattle.std.proofs.lemmas.Bool.{eqb-false, eqb-true, false≢true, leb-true, ne_eqb, cases_lt}
use Rattle.std.proofs.lemmas.Int.{ints, to_z-of_z, to_z_pos}
use Rattle.std.proofs.lemmas.List.{drop-drop, take_all, take_more, length-take-le}
use Rattle.std.specs.Int.{bytes_low_first, w32, cast_signed}
use Rattle.std.specs.List.{AllByRecursion}
use Rattle.std.specs.Prelude.{not, slice_range, ◌==◌, ◌&&◌, pos, negsuc, int_le, unsigned_abs}
use Rattle.ipc_scalar.specs.Bytes.{bit, clear, num}
use Rattle.ipc_model.specs.Layouts.{number_bytes}
use Rattle.ipc_model.specs.Limits.{max_data}
use Rattle.ipc_model.specs.declared.layout.Layout.{Layout}
use Rattle.ipc_model.specs.declared.layout.Layout.TheVariants as l
use Rattle.ipc_model.specs.declared.schema.IntBits.{IntBits}
use Rattle.ipc_model.specs.declared.schema.IntBits.TheVariants.{B8, B32}
use Rattle.ipc_model.specs.declared.value.Value.{Value}
use Rattle.ipc_model.specs.declared.value.Value.TheVariants.{Null}
use Rattle.ipc_model.specs.declared.value.Value.TheVariants as v
use Rattle.ipc_column.proofs.Found.{items_first}
use Rattle.ipc_column.proofs.visited.Leads.{bytes_rise, nothing_null}
use Rattle.ipc_column.proofs.lending.Lendings.{lent_bitmap, lent_values, lent_offsets, lent_order}
use Rattle.ipc_column.proofs.Opened.{bytes_out, null_out, text_out, truth_out}
use Rattle.ipc_column.proofs.Plain.{items_each}
use Rattle.ipc_column.proofs.SlotValues.{TellsNulls, column_marked, slot_count, slot_is}
use Rattle.ipc_column.proofs.lending.Slices.{above_in, places}
use Rattle.ipc_column.proofs.lending.Slots.{bytes_from}
use Rattle.ipc_column.specs.checks.Checks.{has_bitmap, are_ascending}
use Rattle.ipc_column.specs.Lending.{AreBuffers, AreNumbers, MarksNulls}
use Rattle.ipc_column.specs.Nested.{Nested, child_columns, slot_values, only_column}
use Rattle.ipc_column.specs.checks.Rules.{TextsAreUtf8, HasUtf8Texts}
use Rattle.ipc_column.specs.Values.{between, is_valid, own_value, row, value_of, offset_position}
use Rattle.ipc_column.specs.declared.buffers.Buffers.{Buffers}
use Rattle.ipc_column.specs.declared.buffers.Numbers.{Numbers}
use Rattle.ipc_encode.specs.Cells.{fixed_in, is_set, is_true, nulls, slot_bytes, slots, ends, flags, offsets, HasUtf8}
use Rattle.ipc_encode.specs.Cells.{SpellsOut, bytes_in, content}
use Rattle.ipc_encode.specs.Pieces.{Fixed, True, Valid, ValueSlot, Number, Bytes, Content, OffsetUnit}
use Rattle.ipc_encode.specs.WholeColumns.{is_taken_whole}
use Rattle.ipc_encode.specs.Writing.{AreStored}
use Rattle.ipc_encode.proofs.Bits.{clear_nulls, flag_at, set_some, unmarked}
use Rattle.ipc_encode.proofs.NumberSlots.{slots_next, null_slot, valid_slot}
use Rattle.ipc_encode.proofs.NumberSlots.{num_small, unsigned_bytes}
use Rattle.ipc_encode.proofs.Sizes.{content_data}
use Rattle.ipc_encode.proofs.Steps.{bytes_extents, ends_push, extents, of_size}

-- ---- what the buffers of a column that was read hold, as those of a column that is built hold it

-- ---- slots

-- a valid slot of these isn't null
pub own_set : (layout : Layout) (d : List Value) (under : ℕ → List Value) (o w : List ℕ) (i : ℕ) → TellsNulls layout
    → is_set Valid (own_value layout d under o w i) ≡ true
own_set layout d under o w i h = set_some (own_value layout d under o w i) ∙ ap not (nothing_null layout d under o w i h.0 h.1)

module _ (s : Nested) (b : Buffers) (h : AreBuffers s b) where
  -- what stands in a slot, by the bit of its column's bitmap
  pub buffers_at : (i : ℕ) → i < length (slot_values s)
      → get_or (slot_values s) i Null
      ≡ cond (is_valid b.validity.now i) (own_value b.layout s.column.dictionary (row (child_columns s)) b.offsets.now b.values.now i)
      v.Null
  buffers_at i m = slot_is s i m ∙ rw (h.validity, h.layout, h.offsets, h.values) refl

  -- its bitmap has a bit for each slot, if there is one
  pub buffers_bits : (count : ℕ) → count ≡ length (slot_values s) → has_bitmap count (length b.validity.now) ≡ true
  buffers_bits count size =
      subst (λ (n : ℕ). has_bitmap n (length b.validity.now) ≡ true) (sym (size ∙ slot_count s))
      (subst (λ (bs : List ℕ). has_bitmap s.column.slots (length bs) ≡ true) (sym h.validity) (lent_bitmap s b h))

-- a bit for each of so many slots is enough
pub bits_enough : (n bytes : ℕ) → n ≤ 8 * bytes → has_bitmap n bytes ≡ true
bits_enough n bytes h = grind arith

-- where the bitmap marks the nulls, its clear bits are their number
pub marked_count : (marks : List ℕ) (vs : List Value) (count : ℕ) → MarksNulls marks vs
    → (0 < length marks → count ≡ clear marks (length vs)) → (length marks ≡ 0 → count ≡ 0) → count ≡ nulls vs
marked_count marks vs count h with_bits without = either (length marks == 0) refl
  where
    either : (e : Bool) → (length marks == 0) ≡ e → count ≡ nulls vs
    either true e = without (eqb-true _ _ e) ∙ sym (unmarked marks vs h (eqb-true _ _ e))
    either false e =
        let bytes = eqb-false (length marks) 0 e in
        with_bits (omega (arith, bytes)) ∙ clear_nulls marks vs h bytes

-- the bitmap of a column that is taken whole says which slots are null
pub whole_marked : (s : Nested) → is_taken_whole s.column.layout ≡ true → (s.column.layout ≡ l.Null → ⊥)
    → MarksNulls s.column.validity (slot_values s)
whole_marked s whole some = column_marked s
    (some, λ bits signed id is. absurd (false≢true (subst (λ (x : Layout). is_taken_whole x ≡ true) is whole)))

-- ---- numbers

-- a number stands in the values alone
number_alone : (bits : IntBits) (signed : Bool) (d : List Value) (under : ℕ → List Value) (o w : List ℕ) (i : ℕ)
    → own_value (l.Numbers bits signed) d under o w i ≡ own_value (l.Numbers bits signed) [] (λ _. []) [] w i
number_alone bits true d under o w i = refl
number_alone bits false d under o w i = refl

-- the buffers of a column of numbers are its numbers
pub numbers_lent : (s : Nested) (b : Buffers) (n : Numbers) → AreBuffers s b → b.layout ≡ l.Numbers n.bits n.signed
    → n.validity.now ≡ b.validity.now → n.values.now ≡ b.values.now → AreNumbers s n
numbers_lent s b n h e marks values =
    let count = slot_count s in
    let laid : s.column.layout ≡ l.Numbers n.bits n.signed = sym h.layout ∙ e in
    let validity : n.validity.now ≡ s.column.validity = marks ∙ h.validity in
    let bytes : n.values.now ≡ s.column.values = values ∙ h.values in
    record {
      layout = laid;
      long = rw (bytes, count) (leb-true (number_bytes n.bits * s.column.slots) (length s.column.values) (rw laid at (lent_values s b h)));
      each = λ i m. items_first (value_of (row (child_columns s)) s.column) s.column.slots i (omega (arith, m, count))
          ∙ ap (λ (v : Value). Some v)
          (rw (validity, bytes, laid) (ap (λ (v : Value). cond (is_valid s.column.validity i) v Null)
          (number_alone n.bits n.signed s.column.dictionary (row (child_columns s)) s.column.offsets s.column.values i)));
    }

-- ---- slots one behind another

-- two cuts that meet
cuts_meet : (bs : List ℕ) (a b c : ℕ) → a ≤ b → b ≤ c → slice_range bs a b ++ slice_range bs b c ≡ slice_range bs a c
cuts_meet bs a b c h g =
    let there : a + (b - a) ≡ b = omega arith in
    let size : b - a + (c - b) ≡ c - a = omega arith in
    let behind : drop (b - a) (drop a bs) ≡ drop b bs = drop-drop (b - a) a bs ∙ ap (λ (k : ℕ). drop k bs) there in
    ap (λ (rest : List ℕ). slice_range bs a b ++ take (c - b) rest) (sym behind)
    ∙ (sym (take-add (b - a) (c - b) (drop a bs)) ∙ ap (λ (k : ℕ). take k (drop a bs)) size)

pub no_cut : (bs : List ℕ) (a : ℕ) → slice_range bs a a ≡ []
no_cut bs a = ap (λ (k : ℕ). take k (drop a bs)) (let e : a - a ≡ 0 = omega arith in e)

-- so many slots lie one behind another in some bytes, each from its place to the next
pub record LieJoined (which : ValueSlot) (vs : List Value) (bs : List ℕ) (at : ℕ → ℕ) : Type 0 where
  pub each : (i : ℕ) → i < length vs → slot_bytes which (get_or vs i Null) ≡ slice_range bs (at i) (at (i + 1))
  pub rise : (i : ℕ) → i < length vs → at i ≤ at (i + 1)

-- the places rise
pub up_to : (which : ValueSlot) (vs : List Value) (bs : List ℕ) (at : ℕ → ℕ) → LieJoined which vs bs at → (i : ℕ) → i ≤ length vs
    → at 0 ≤ at i
up_to which vs bs at h zero l = omega arith
up_to which vs bs at h (suc i) l =
    let before = up_to which vs bs at h i (omega arith) in
    let step = h.rise i (omega arith) in
    subst (λ (k : ℕ). at 0 ≤ at k) (add-one i) (omega (arith, before, step))

-- the first of them are one cut
pub joined_front : (which : ValueSlot) (vs : List Value) (bs : List ℕ) (at : ℕ → ℕ) → LieJoined which vs bs at → (i : ℕ) → i ≤ length vs
    → slots which (take i vs) ≡ slice_range bs (at 0) (at i)
joined_front which vs bs at h zero l = sym (no_cut bs (at 0))
joined_front which vs bs at h (suc i) l =
    ap (λ (k : ℕ). slots which (take k vs)) (sym (add-one i))
    ∙ (sym (slots_next which vs i (omega arith))
    ∙ (ap (λ (front : List ℕ). front ++ slot_bytes which (get_or vs i Null)) (joined_front which vs bs at h i (omega arith))
    ∙ (ap (λ (next : List ℕ). slice_range bs (at 0) (at i) ++ next) (h.each i (omega arith))
    ∙ (cuts_meet bs (at 0) (at i) (at (i + 1)) (up_to which vs bs at h i (omega arith)) (h.rise i (omega arith))
    ∙ ap (λ (k : ℕ). slice_range bs (at 0) (at k)) (add-one i)))))

-- and so are all
pub joined_slots : (which : ValueSlot) (vs : List Value) (bs : List ℕ) (at : ℕ → ℕ) → LieJoined which vs bs at
    → slots which vs ≡ slice_range bs (at 0) (at (length vs))
joined_slots which vs bs at h =
    ap (slots which) (sym (take_all (length vs) vs (omega arith))) ∙ joined_front which vs bs at h (length vs) (omega arith)

-- ---- bits

module _ (s : Nested) (b : Buffers) (h : AreBuffers s b) (e : b.layout ≡ l.Bits) where
  -- a slot is true where its bit is set and it isn't null
  pub truth_at : (i : ℕ) → i < length (slot_values s)
      → is_set True (get_or (slot_values s) i Null) ≡ (bit b.values.now i && is_valid b.validity.now i)
  truth_at i m = ap (is_set True) (buffers_at s b h i m) ∙ either b.layout e (is_valid b.validity.now i)
    where
      and_true : (f : Bool) → f ≡ (f && true)
      and_true true = refl
      and_true false = refl

      and_false : (f : Bool) → false ≡ (f && false)
      and_false true = refl
      and_false false = refl

      either : (layout : Layout) → layout ≡ l.Bits → (valid : Bool)
          → is_set True (cond valid (own_value layout s.column.dictionary (row (child_columns s)) b.offsets.now b.values.now i) v.Null)
          ≡ (bit b.values.now i && valid)
      either layout e true = rw e (ap is_true (truth_out (bit b.values.now i)) ∙ and_true (bit b.values.now i))
      either layout e false = ap is_true null_out ∙ and_false (bit b.values.now i)

  -- there is a bit for each
  pub truths_there : length (slot_values s) ≤ 8 * length b.values.now
  truths_there =
      let count = slot_count s in
      let size = ap (λ (bs : List ℕ). length bs) h.values in
      let laid : s.column.layout ≡ l.Bits = sym h.layout ∙ e in
      let enough = leb-true ((s.column.slots + 7) / 8) (length s.column.values) (rw laid at (lent_values s b h)) in
      omega (arith, enough, count, size)

  -- where no null slot has its bit set, the bits are whether slots are true
  pub truths_lent : ((i : ℕ) → i < length (slot_values s) → is_valid b.values.now i ≡ true → is_valid b.validity.now i ≡ true)
      → (i : ℕ) → i < length (slot_values s) → bit b.values.now i ≡ get_or (flags True (slot_values s)) i false
  truths_lent among i m =
      both (bit b.values.now i) refl ∙ (sym (truth_at i m) ∙ sym (flag_at True (slot_values s) i Null m))
    where
      own : is_valid b.values.now i ≡ bit b.values.now i
      own = let there = truths_there in rw (ne_eqb (length b.values.now) 0 (omega (arith, there, m))) refl

      both : (set : Bool) → bit b.values.now i ≡ set → set ≡ (set && is_valid b.validity.now i)
      both false e = refl
      both true e = sym (among i m (own ∙ e))

-- ---- a fixed width

-- how long a cut is
range_size : (bs : List ℕ) (a b : ℕ) → b ≤ length bs → length (slice_range bs a b) ≡ b - a
range_size bs a b h = length-take-le (b - a) (drop a bs) (omega (arith, length-drop a bs))

module _ (s : Nested) (b : Buffers) (h : AreBuffers s b) (width : ℕ) (e : b.layout ≡ l.FixedBytes width) where
  -- the bytes of all slots are there
  pub widths_there : width * length (slot_values s) ≤ length b.values.now
  widths_there =
      let count = slot_count s in
      let laid : s.column.layout ≡ l.FixedBytes width = sym h.layout ∙ e in
      rw (h.values, count) (leb-true (width * s.column.slots) (length s.column.values) (rw laid at (lent_values s b h)))

  module _ (zeros : (i : ℕ) → i < length (slot_values s) → is_valid b.validity.now i ≡ false
      → take width (drop (width * i) b.values.now) ≡ replicate width 0) where
    -- a slot is the bytes that lie there
    width_at : (i : ℕ) → i < length (slot_values s)
        → slot_bytes (Fixed width) (get_or (slot_values s) i Null) ≡ slice_range b.values.now (width * i) (width * (i + 1))
    width_at i m = ap (slot_bytes (Fixed width)) (buffers_at s b h i m) ∙ either (is_valid b.validity.now i) refl
      where
        next : width * i + width ≡ width * (i + 1)
        next = omega arith

        own : (layout : Layout) → layout ≡ l.FixedBytes width
            → slot_bytes (Fixed width) (own_value layout s.column.dictionary (row (child_columns s)) b.offsets.now b.values.now i)
            ≡ slice_range b.values.now (width * i) (width * i + width)
        own layout e =
            let slot = slice_range b.values.now (width * i) (width * i + width) in
            let there = widths_there in
            let most : width * (i + 1) ≤ width * length (slot_values s) = mul-le-mul_left width (omega (arith, m)) in
            let size = range_size b.values.now (width * i) (width * i + width) (omega (arith, there, most, next)) in
            rw e (ap (fixed_in width) (bytes_out slot) ∙ of_size slot (replicate width 0) width (omega (arith, size)))

        either : (valid : Bool) → is_valid b.validity.now i ≡ valid
            → slot_bytes (Fixed width)
            (cond valid (own_value b.layout s.column.dictionary (row (child_columns s)) b.offsets.now b.values.now i) v.Null)
            ≡ slice_range b.values.now (width * i) (width * (i + 1))
        either true e' = own b.layout e ∙ ap (slice_range b.values.now (width * i)) next
        either false e' =
            let wide : width ≡ width * (i + 1) - width * i = omega (arith, next) in
            ap (fixed_in width) null_out ∙ (sym (zeros i m e') ∙ ap (λ (k : ℕ). take k (drop (width * i) b.values.now)) wide)

    pub widths_lent : take (width * length (slot_values s)) b.values.now ≡ slots (Fixed width) (slot_values s)
    widths_lent =
        let n = length (slot_values s) in
        let start : width * 0 ≡ 0 = omega arith in
        let size : width * n - 0 ≡ width * n = omega arith in
        ap (λ (k : ℕ). take k b.values.now) (sym size)
        ∙ (ap (λ (k : ℕ). slice_range b.values.now k (width * n)) (sym start)
        ∙ sym (joined_slots (Fixed width) (slot_values s) b.values.now (λ i. width * i) (record {
          each = width_at;
          rise = λ i m. let more : width * (i + 1) ≡ width * i + width = omega arith in omega (arith, more);
        })))

-- ---- numbers whose null slots are zeros, as they are written

-- bytes each of which is 0
pub all_zero : (bs : List ℕ) → ((k : ℕ) → k < length bs → get_or bs k 0 ≡ 0) → bs ≡ replicate (length bs) 0
all_zero [] h = refl
all_zero (b ∷ bs) h =
    let first : b ≡ 0 = h 0 (omega arith) in
    let rest = all_zero bs (λ k m. h (suc k) (omega (arith, m))) in
    ap (λ (k : ℕ). k ∷ bs) first ∙ ap (λ (xs : List ℕ). 0 ∷ xs) rest

-- the bytes of 0
pub zero_bytes : (bits : IntBits) → bytes_low_first 0 (number_bytes bits) 0 ≡ replicate (number_bytes bits) 0
zero_bytes B8 = refl
zero_bytes _ = refl

module _ (s : Nested) (n : Numbers) (h : AreNumbers s n) (small : (k : ℕ) → get_or n.values.now k 0 < 256)
    (zeros : (i : ℕ) → i < length (slot_values s) → is_valid n.validity.now i ≡ false
    → take (number_bytes n.bits) (drop (number_bytes n.bits * i) n.values.now) ≡ replicate (number_bytes n.bits) 0) where
  -- each slot is the bytes that lie there
  pub lies : (i : ℕ) → i < length (slot_values s)
      → slot_bytes (Number n.bits) (get_or (slot_values s) i Null)
      ≡ take (number_bytes n.bits) (drop (number_bytes n.bits * i) n.values.now)
  lies i m = either (is_valid n.validity.now i) refl
    where
      either : (b : Bool) → is_valid n.validity.now i ≡ b
          → slot_bytes (Number n.bits) (get_or (slot_values s) i Null)
          ≡ take (number_bytes n.bits) (drop (number_bytes n.bits * i) n.values.now)
      either true e = valid_slot s n h small i m e
      either false e = null_slot s n h i m e ∙ (zero_bytes n.bits ∙ sym (zeros i m e))

  -- all of them
  pub zeros_lent : take (number_bytes n.bits * length (slot_values s)) n.values.now ≡ slots (Number n.bits) (slot_values s)
  zeros_lent =
      let w = number_bytes n.bits in
      let all = w * length (slot_values s) in
      let start : w * 0 ≡ 0 = omega arith in
      let size : all - 0 ≡ all = omega arith in
      ap (λ (k : ℕ). take k n.values.now) (sym size)
      ∙ (ap (λ (k : ℕ). slice_range n.values.now k all) (sym start)
      ∙ sym (joined_slots (Number n.bits) (slot_values s) n.values.now (λ i. w * i) (record {
        each = λ i m.
            let next : w * (i + 1) - w * i ≡ w = omega arith in
            lies i m ∙ ap (λ (k : ℕ). take k (drop (w * i) n.values.now)) (sym next);
        rise = λ i m. let more : w * (i + 1) ≡ w * i + w = omega arith in omega (arith, more);
      })))

-- ---- the bytes of slots that were read, and where they end

-- the bytes of values are as long as their runs
pub content_extents : (vs : List Value) → length (slots Content vs) ≡ extents Bytes vs
content_extents vs = content_data true vs ∙ bytes_extents true vs

-- the ends so far and the next
pub ends_next : (run : OffsetUnit) (start : ℕ) (vs : List Value) (i end : ℕ) → i < length vs → end ≡ start + extents run (take (i + 1) vs)
    → ends run start (take i vs) ++ bytes_low_first 0 4 end ≡ ends run start (take (i + 1) vs)
ends_next run start vs i end m e =
    let next = take_more vs i Null m in
    ap (λ (n : ℕ). ends run start (take i vs) ++ bytes_low_first 0 4 n) e
    ∙ (ap (λ (ws : List Value). ends run start (take i vs) ++ bytes_low_first 0 4 (start + extents run ws)) next
    ∙ (sym (ends_push run start (take i vs) (get_or vs i Null)) ∙ ap (ends run start) (sym next)))

-- ---- the bytes and the offsets of texts and binary values that were read

-- a number of 32 bits that isn't negative
pub few_of : (x : ℕ) → x < 2 ^ 32 → int_le (pos 0) (cast_signed w32 x) ≡ true → x < 2147483648
few_of x fits h = elim (cases_lt x 2147483648) as (λ _. x < 2147483648) [
  | inl few ↦ few
  | inr many ↦
      let k = 4294967295 - x in
      let same : x ≡ 4294967296 - suc k = omega (arith, fits) in
      let small : k < 2147483648 = omega (arith, many) in
      let back : cast_signed w32 x ≡ negsuc k = ap (cast_signed w32) same ∙ to_z-of_z w32 (negsuc k) (omega (arith, ints, small)) in
      absurd (false≢true (ap (int_le (pos 0)) (sym back) ∙ h))
]

not_negative : (x : ℕ) → x < 2 ^ 32 → int_le (pos 0) (cast_signed w32 x) ≡ true → unsigned_abs (cast_signed w32 x) ≡ x
not_negative x fits h = ap unsigned_abs (to_z_pos w32 x (few_of x fits h))

-- where offset i points
abbrev pub start_of : List ℕ → ℕ → ℕ
start_of o i = num o (4 * i) 4

pub place_is : (o : List ℕ) (n size i : ℕ) → ((k : ℕ) → get_or o k 0 < 256) → are_ascending o n size ≡ true → i ≤ n
    → offset_position o i ≡ start_of o i
place_is o n size i small h l = not_negative (start_of o i) (num_small 4 (4 * i) o small) (above_in o n size i h l)

-- which is below 2^31
pub place_few : (o : List ℕ) (n size i : ℕ) → ((k : ℕ) → get_or o k 0 < 256) → are_ascending o n size ≡ true → i ≤ n
    → start_of o i < 2147483648
place_few o n size i small h l = few_of (start_of o i) (num_small 4 (4 * i) o small) (above_in o n size i h l)

-- offsets that are each as far from the first as the runs before it are long are the ends of the runs
pub ends_lie : (run : OffsetUnit) (vs : List Value) (o : List ℕ) → ((k : ℕ) → get_or o k 0 < 256) → 4 * (length vs + 1) ≤ length o
    → ((i : ℕ) → i ≤ length vs → start_of o 0 + extents run (take i vs) ≡ start_of o i) → (i : ℕ) → i ≤ length vs
    → ends run (start_of o 0) (take i vs) ≡ take (4 * i) (drop 4 o)
ends_lie run vs o small there far zero m = refl
ends_lie run vs o small there far (suc i) m =
    let next : bytes_low_first 0 4 (start_of o (i + 1)) ≡ take 4 (drop (4 * (i + 1)) o) =
    unsigned_bytes B32 o (4 * (i + 1)) small (omega (arith, there, m)) in
    let behind : drop (4 * i) (drop 4 o) ≡ drop (4 * (i + 1)) o =
    drop-drop (4 * i) 4 o ∙ ap (λ (k : ℕ). drop k o) (let k : 4 + 4 * i ≡ 4 * (i + 1) = omega arith in k) in
    let more : 4 * suc i ≡ 4 * i + 4 = omega arith in
    ap (λ (k : ℕ). ends run (start_of o 0) (take k vs)) (sym (add-one i))
    ∙ (sym (ends_next run (start_of o 0) vs i (start_of o (i + 1)) (omega arith) (sym (far (i + 1) (omega arith))))
    ∙ (ap (λ (bs : List ℕ). bs ++ bytes_low_first 0 4 (start_of o (i + 1))) (ends_lie run vs o small there far i (omega arith))
    ∙ (ap (λ (bs : List ℕ). take (4 * i) (drop 4 o) ++ bs) (next ∙ ap (λ (bs : List ℕ). take 4 bs) (sym behind))
    ∙ (sym (take-add (4 * i) 4 (drop 4 o)) ∙ ap (λ (k : ℕ). take k (drop 4 o)) (sym more)))))

-- and if the first of them is 0, they are those that are written
pub offsets_lie : (run : OffsetUnit) (vs : List Value) (o : List ℕ) → ((k : ℕ) → get_or o k 0 < 256) → 4 * (length vs + 1) ≤ length o
    → ((i : ℕ) → i ≤ length vs → start_of o 0 + extents run (take i vs) ≡ start_of o i) → start_of o 0 ≡ 0
    → take (4 * (length vs + 1)) o ≡ offsets run vs
offsets_lie run vs o small there far first =
    let n = length vs in
    let head : bytes_low_first 0 4 (start_of o 0) ≡ take 4 (drop 0 o) = unsigned_bytes B32 o 0 small (omega (arith, there)) in
    let size : 4 * (n + 1) ≡ 4 + 4 * n = omega arith in
    let behind = ends_lie run vs o small there far n (omega arith) in
    ap (λ (k : ℕ). take k o) size
    ∙ (take-add 4 (4 * n) o
    ∙ (ap (λ (bs : List ℕ). bs ++ take (4 * n) (drop 4 o)) (sym head)
    ∙ (ap (λ (bs : List ℕ). bytes_low_first 0 4 (start_of o 0) ++ bs) (sym behind)
    ∙ (ap (λ (ws : List Value). bytes_low_first 0 4 (start_of o 0) ++ ends run (start_of o 0) ws) (take_all n vs (omega arith))
    ∙ ap (λ (k : ℕ). bytes_low_first 0 4 k ++ ends run k vs) first))))

module _ (s : Nested) (b : Buffers) (h : AreBuffers s b) (utf8 : Bool) (e : b.layout ≡ l.VariableBytes utf8)
    (some : 0 < length (slot_values s)) where
  contents_laid : s.column.layout ≡ l.VariableBytes utf8
  contents_laid = sym h.layout ∙ e

  -- there is an offset for each slot, and one more
  pub offsets_there : 4 * (length (slot_values s) + 1) ≤ length b.offsets.now
  offsets_there =
      let count = slot_count s in
      let size = ap (λ (bs : List ℕ). length bs) h.offsets in
      let there = bytes_from s.column.slots (length s.column.offsets) (rw contents_laid at (lent_offsets s b h))
      (omega (arith, some, count)) in
      omega (arith, there, count, size)

  ascend : are_ascending b.offsets.now (length (slot_values s)) (length b.values.now) ≡ true
  ascend =
      let count = slot_count s in
      rw (h.offsets, h.values, count)
      (bytes_rise utf8 s.column.offsets (child_columns s) s.column.slots 0 (length s.column.values) (omega (arith, some, count))
      (rw contents_laid at (lent_offsets s b h)) (rw contents_laid at (lent_order s b h)))

  -- which point into the values
  pub starts_inside : ((k : ℕ) → get_or b.offsets.now k 0 < 256) → (i : ℕ) → i ≤ length (slot_values s)
      → start_of b.offsets.now i ≤ length b.values.now
  starts_inside small i m =
      let p = places b.offsets.now (length (slot_values s)) (length b.values.now) i i ascend (omega arith) m in
      let here = place_is b.offsets.now (length (slot_values s)) (length b.values.now) i small ascend m in
      omega (arith, p.last, p.inside, here)

module _ (s : Nested) (b : Buffers) (h : AreBuffers s b) (utf8 : Bool) (e : b.layout ≡ l.VariableBytes utf8)
    (some : 0 < length (slot_values s)) (small : (k : ℕ) → get_or b.offsets.now k 0 < 256)
    (empty : (i : ℕ) → i < length (slot_values s) → is_valid b.validity.now i ≡ false
    → start_of b.offsets.now (i + 1) ≡ start_of b.offsets.now i) where
  contents_joined : LieJoined Content (slot_values s) b.values.now (start_of b.offsets.now)
  contents_joined = record { each = λ i m. each i m (is_valid b.validity.now i) refl; rise = rise }
    where
      at : (i : ℕ) → i ≤ length (slot_values s) → offset_position b.offsets.now i ≡ start_of b.offsets.now i
      at i m = place_is b.offsets.now (length (slot_values s)) (length b.values.now) i small (ascend s b h utf8 e some) m

      rise : (i : ℕ) → i < length (slot_values s) → start_of b.offsets.now i ≤ start_of b.offsets.now (i + 1)
      rise i m =
          let p = places b.offsets.now (length (slot_values s)) (length b.values.now) i (i + 1) (ascend s b h utf8 e some) (omega arith)
          (omega arith) in
          let here = at i (omega arith) in
          let next = at (i + 1) (omega arith) in
          omega (arith, p.order, here, next)

      spelled : (layout : Layout) (d : List Value) (under : ℕ → List Value) (o w : List ℕ) (i : ℕ) → layout ≡ l.VariableBytes utf8
          → content (own_value layout d under o w i) ≡ between o w i
      spelled layout d under o w i e = rw e (either utf8)
        where
          either : (u : Bool) → content (own_value (l.VariableBytes u) d under o w i) ≡ between o w i
          either true = ap bytes_in (text_out (between o w i))
          either false = ap bytes_in (bytes_out (between o w i))

      each : (i : ℕ) → i < length (slot_values s) → (valid : Bool) → is_valid b.validity.now i ≡ valid
          → content (get_or (slot_values s) i Null) ≡ slice_range b.values.now (start_of b.offsets.now i) (start_of b.offsets.now (i + 1))
      each i m true e' =
          ap content (buffers_at s b h i m ∙ rw e' refl)
          ∙ (spelled b.layout s.column.dictionary (row (child_columns s)) b.offsets.now b.values.now i e
          ∙ (ap (λ (k : ℕ). slice_range b.values.now k (offset_position b.offsets.now (i + 1))) (at i (omega arith))
          ∙ ap (λ (k : ℕ). slice_range b.values.now (start_of b.offsets.now i) k) (at (i + 1) (omega arith))))
      each i m false e' =
          ap content (buffers_at s b h i m ∙ rw e' refl)
          ∙ (ap bytes_in null_out
          ∙ (sym (no_cut b.values.now (start_of b.offsets.now i))
          ∙ ap (λ (k : ℕ). slice_range b.values.now (start_of b.offsets.now i) k) (sym (empty i m e'))))

  -- how long the first slots are
  front_extents : (i : ℕ) → i ≤ length (slot_values s)
      → start_of b.offsets.now 0 + extents Bytes (take i (slot_values s)) ≡ start_of b.offsets.now i
  front_extents i m =
      let vs = slot_values s in
      let o = b.offsets.now in
      let up = up_to Content vs b.values.now (start_of o) contents_joined i m in
      let whole = ap (λ (bs : List ℕ). length bs) (joined_front Content vs b.values.now (start_of o) contents_joined i m) in
      let size : length (slice_range b.values.now (start_of o 0) (start_of o i)) ≡ start_of o i - start_of o 0 =
      range_size b.values.now (start_of o 0) (start_of o i) (starts_inside s b h utf8 e some small i m) in
      let run = content_extents (take i vs) in
      omega (arith, up, whole, size, run)

  module _ (first : start_of b.offsets.now 0 ≡ 0) where
    -- the offsets are those that are written
    pub contents_offsets : take (4 * (length (slot_values s) + 1)) b.offsets.now ≡ offsets Bytes (slot_values s)
    contents_offsets = offsets_lie Bytes (slot_values s) b.offsets.now small (offsets_there s b h utf8 e some) front_extents first

    -- and so are the bytes up to the last of them
    pub contents_lent : take (start_of b.offsets.now (length (slot_values s))) b.values.now ≡ slots Content (slot_values s)
    contents_lent =
        let end = start_of b.offsets.now (length (slot_values s)) in
        let all : end ≡ end - 0 = omega arith in
        ap (λ (k : ℕ). take k b.values.now) all
        ∙ (ap (λ (k : ℕ). slice_range b.values.now k end) (sym first)
        ∙ sym (joined_slots Content (slot_values s) b.values.now (start_of b.offsets.now) contents_joined))

    -- which are so few that offsets reach them
    pub contents_short : length (slots Content (slot_values s)) ≤ max_data
    contents_short =
        let n = length (slot_values s) in
        let end = place_few b.offsets.now n (length b.values.now) n small (ascend s b h utf8 e some) (omega arith) in
        let size = ap (λ (bs : List ℕ). length bs) contents_lent in
        let most = length-take (start_of b.offsets.now n) b.values.now in
        omega (arith, end, size, most)

-- the texts of a column are UTF-8 where each of its slots spells them
pub texts_hold : (s : Nested) (utf8 : Bool) → s.column.layout ≡ l.VariableBytes utf8
    → ((i : ℕ) → i < length (slot_values s) → HasUtf8Texts (only_column s) i) → AllByRecursion HasUtf8 (slot_values s)
texts_hold s utf8 e spelled =
    items_each HasUtf8 (value_of (row (child_columns s)) s.column) 0 s.column.slots
    (λ k from to. one k utf8 e (is_valid s.column.validity k) refl
    (spelled k (let count = slot_count s in omega (arith, to, count))).0)
  where
    one : (k : ℕ) (u : Bool) → s.column.layout ≡ l.VariableBytes u → (valid : Bool) → is_valid s.column.validity k ≡ valid
        → (is_valid s.column.validity k ≡ true
        → TextsAreUtf8 s.column.layout (HasUtf8Texts (child_columns s)) s.column.offsets s.column.values k)
        → HasUtf8 (value_of (row (child_columns s)) s.column k)
    one k u e false none text = rw none (subst SpellsOut (sym null_out) tt)
    one k true e true valid text =
        rw (valid, e) (subst SpellsOut (sym (text_out (between s.column.offsets s.column.values k))) (rw e at (text valid)))
    one k false e true valid text = rw (valid, e) (subst SpellsOut (sym (bytes_out (between s.column.offsets s.column.values k))) tt)

-- slots that spell their texts are stored in a column that lies as they do
pub slots_stored : (s : Nested) (layout : Layout) → s.column.layout ≡ layout
    → ((i : ℕ) → i < length (slot_values s) → HasUtf8Texts (only_column s) i) → AreStored layout (slot_values s)
slots_stored s (l.VariableBytes utf8) laid spelled = texts_hold s utf8 laid spelled
slots_stored s _ laid spelled = tt
