-- The buffers of a column that was read, against those that are written for its values.
use Rattle.std.proofs.Common.{◌≡◌, ◌∙◌, refl, sym, ap, subst, ℕ, zero, suc, ◌+◌, ◌*◌, ◌<◌, ◌≤◌, Bool, false, true, List, [], ◌∷◌}
use Rattle.std.proofs.Common.{length, take, drop, get_or, replicate, arith}
use Rattle.std.proofs.lemmas.Bool.{eqb-false, ne_eqb}
use Rattle.std.specs.Prelude.{◌==◌}
use Rattle.ipc_scalar.specs.Bytes.{bit}
use Rattle.ipc_model.specs.Layouts.{number_bytes}
use Rattle.ipc_model.specs.declared.layout.Layout.{Layout}
use Rattle.ipc_model.specs.declared.layout.Layout.TheVariants as l
use Rattle.ipc_model.specs.declared.schema.IntBits.{IntBits}
use Rattle.ipc_model.specs.declared.value.Value.{Value}
use Rattle.ipc_model.specs.declared.value.Value.TheVariants.{Null}
use Rattle.ipc_column.specs.Columns.{Column}
use Rattle.ipc_column.specs.Lending.{AreBuffers, MarksNulls}
use Rattle.ipc_column.specs.Nested.{Nested, slot_values}
use Rattle.ipc_column.specs.Values.{is_valid}
use Rattle.ipc_column.specs.checks.Checks.{has_bitmap}
use Rattle.ipc_column.specs.declared.buffers.Buffers.{Buffers}
use Rattle.ipc_column.specs.declared.buffers.Numbers.{Numbers}
use Rattle.ipc_encode.specs.Bitmaps.{bitmap}
use Rattle.ipc_encode.specs.Buffers.{data_buffers}
use Rattle.ipc_encode.specs.Cells.{flags, nulls, offsets, slots}
use Rattle.ipc_encode.specs.Columns.{bits_length, validity_bytes}
use Rattle.ipc_encode.specs.Limits.{HasExcessData}
use Rattle.ipc_encode.specs.Pieces.{Fixed, Items, True, Valid}
use Rattle.ipc_encode.specs.WholeColumns.{UseAllItems, last_offset, lent_buffers, lent_offsets}
use Rattle.ipc_encode.proofs.Bits.{flag_at, flags_length, marked, unmarked}
use Rattle.ipc_encode.proofs.LentBuffers.{buffers_bits, contents_lent, contents_offsets, contents_short, numbers_lent, start_of, zeros_lent}
use Rattle.ipc_encode.proofs.LentBuffers.{starts_inside}
use Rattle.ipc_encode.proofs.NestedSlots.{no_offsets}
use Rattle.ipc_encode.proofs.Steps.{no_nulls, some_null}

-- the buffers of a column are those that are written where they are for its layout
pub written_as : (s : Nested) (layout : Layout) → s.column.layout ≡ layout
    → lent_buffers layout s.column (length (slot_values s)) ≡ data_buffers layout (slot_values s)
    → lent_buffers s.column.layout s.column (length (slot_values s)) ≡ data_buffers s.column.layout (slot_values s)
written_as s layout laid =
    subst (λ (x : Layout). lent_buffers x s.column (length (slot_values s)) ≡ data_buffers x (slot_values s)) (sym laid)

pub short_as : (s : Nested) (layout : Layout) → s.column.layout ≡ layout → (HasExcessData layout (slot_values s) → ⊥)
    → HasExcessData s.column.layout (slot_values s) → ⊥
short_as s layout laid h long = h (subst (λ (x : Layout). HasExcessData x (slot_values s)) laid long)

-- a bitmap without bytes marks nothing
pub all_valid : (marks : List ℕ) (i : ℕ) → length marks ≡ 0 → is_valid marks i ≡ true
all_valid marks i e = rw e refl

-- the offsets and the data of no slots
pub no_contents : (s : Nested) (utf8 : Bool) → length (slot_values s) ≡ 0
    → lent_buffers (l.VariableBytes utf8) s.column (length (slot_values s)) ≡ data_buffers (l.VariableBytes utf8) (slot_values s)
no_contents s utf8 none = either s.column (slot_values s) none
  where
    either : (column : Column) (vs : List Value) → length vs ≡ 0
        → lent_buffers (l.VariableBytes utf8) column (length vs) ≡ data_buffers (l.VariableBytes utf8) vs
    either column [] none = refl
    either column (v ∷ vs) none = absurd (omega arith)

-- ---- the validity bitmap

-- bits that mark the nulls, in bytes in which no bit is set behind them
pub marked_written : (s : Nested) → MarksNulls s.column.validity (slot_values s) → 0 < nulls (slot_values s)
    → ((flags : List Bool) → length flags ≡ length (slot_values s)
    → ((i : ℕ) → i < length (slot_values s) → bit s.column.validity i ≡ get_or flags i false)
    → take (bits_length (length (slot_values s))) s.column.validity ≡ bitmap flags)
    → take (bits_length (length (slot_values s))) s.column.validity ≡ validity_bytes (slot_values s)
marked_written s marks some bits =
    let vs = slot_values s in
    let bytes : length s.column.validity ≡ 0 → ⊥ = λ none. let e = unmarked s.column.validity vs marks none in omega (arith, e, some) in
    bits (flags Valid vs) (flags_length Valid vs) (λ i m.
    let valid : is_valid s.column.validity i ≡ bit s.column.validity i = rw (ne_eqb (length s.column.validity) 0 bytes) refl in
    sym valid ∙ (sym (marked s.column.validity vs i marks m) ∙ sym (flag_at Valid vs i Null m)))
    ∙ sym (some_null vs (λ none. omega (arith, none, some)))

bits_from : (n bytes : ℕ) → has_bitmap n bytes ≡ true → 0 < bytes → n ≤ 8 * bytes
bits_from n bytes h some = grind arith

module _ (s : Nested) (b : Buffers) (h : AreBuffers s b) where
  -- a column with nulls has a bit for each slot
  pub marked_long : (count : ℕ) → (length s.column.validity ≡ 0 → count ≡ 0) → 0 < count
      → length (slot_values s) ≤ 8 * length b.validity.now
  marked_long count without some = either (length b.validity.now) refl
    where
      either : (k : ℕ) → length b.validity.now ≡ k → length (slot_values s) ≤ 8 * length b.validity.now
      either zero e =
          let none = without (ap (λ (bs : List ℕ). length bs) (sym h.validity) ∙ e) in
          absurd (omega (arith, none, some))
      either (suc k) e = bits_from (length (slot_values s)) (length b.validity.now) (buffers_bits s b h (length (slot_values s)) refl)
          (omega (arith, e))

  -- as many bytes as the slots need are the bitmap that is written
  pub validity_is : (0 < nulls (slot_values s)
      → take (bits_length (length (slot_values s))) s.column.validity ≡ validity_bytes (slot_values s))
      → (count null_count : ℕ) → count ≡ length (slot_values s) → null_count ≡ nulls (slot_values s) → (bytes : List ℕ)
      → (null_count ≡ 0 → bytes ≡ []) → (0 < null_count → bytes ≡ take (bits_length count) b.validity.now)
      → bytes ≡ validity_bytes (slot_values s)
  validity_is written count null_count size same bytes none some = either null_count refl
    where
      either : (k : ℕ) → null_count ≡ k → bytes ≡ validity_bytes (slot_values s)
      either zero e = none e ∙ sym (no_nulls (slot_values s) (sym same ∙ e))
      either (suc k) e =
          let more : 0 < null_count = omega (arith, e) in
          some more
          ∙ (ap (λ (n : ℕ). take (bits_length n) b.validity.now) size
          ∙ (ap (take (bits_length (length (slot_values s)))) h.validity
          ∙ written (omega (arith, more, same))))

  -- ---- the buffers that follow it

  pub bits_written : b.layout ≡ l.Bits → take (bits_length (length (slot_values s))) b.values.now ≡ bitmap (flags True (slot_values s))
      → lent_buffers s.column.layout s.column (length (slot_values s)) ≡ data_buffers s.column.layout (slot_values s)
  bits_written e same = written_as s l.Bits (sym h.layout ∙ e)
      (ap (λ (bs : List ℕ). bs ∷ []) (ap (take (bits_length (length (slot_values s)))) (sym h.values) ∙ same))

  pub widths_written : (width : ℕ) → b.layout ≡ l.FixedBytes width
      → take (width * length (slot_values s)) b.values.now ≡ slots (Fixed width) (slot_values s)
      → lent_buffers s.column.layout s.column (length (slot_values s)) ≡ data_buffers s.column.layout (slot_values s)
  widths_written width e same = written_as s (l.FixedBytes width) (sym h.layout ∙ e)
      (ap (λ (bs : List ℕ). bs ∷ []) (ap (take (width * length (slot_values s))) (sym h.values) ∙ same))

  pub numbers_written : (bits : IntBits) (signed : Bool) → b.layout ≡ l.Numbers bits signed → ((k : ℕ) → get_or b.values.now k 0 < 256)
      → ((i : ℕ) → i < length (slot_values s) → is_valid b.validity.now i ≡ false
      → take (number_bytes bits) (drop (number_bytes bits * i) b.values.now) ≡ replicate (number_bytes bits) 0)
      → lent_buffers s.column.layout s.column (length (slot_values s)) ≡ data_buffers s.column.layout (slot_values s)
  numbers_written bits signed e small zeros =
      let n : Numbers = record { bits = bits; signed = signed; validity = b.validity; values = b.values } in
      written_as s (l.Numbers bits signed) (sym h.layout ∙ e)
      (ap (λ (bs : List ℕ). bs ∷ []) (ap (take (number_bytes bits * length (slot_values s))) (sym h.values)
      ∙ zeros_lent s n (numbers_lent s b n h e refl refl) small zeros))

  -- the bytes of all numbers are there
  pub numbers_there : (bits : IntBits) (signed : Bool) → b.layout ≡ l.Numbers bits signed
      → number_bytes bits * length (slot_values s) ≤ length b.values.now
  numbers_there bits signed e =
      let n : Numbers = record { bits = bits; signed = signed; validity = b.validity; values = b.values } in
      (numbers_lent s b n h e refl refl).long

  module _ (utf8 : Bool) (e : b.layout ≡ l.VariableBytes utf8) (some : 0 < length (slot_values s))
      (small : (k : ℕ) → get_or b.offsets.now k 0 < 256)
      (empty : (i : ℕ) → i < length (slot_values s) → is_valid b.validity.now i ≡ false
      → start_of b.offsets.now (i + 1) ≡ start_of b.offsets.now i)
      (first : start_of b.offsets.now 0 ≡ 0) where
    pub contents_written : lent_buffers s.column.layout s.column (length (slot_values s)) ≡ data_buffers s.column.layout (slot_values s)
    contents_written = written_as s (l.VariableBytes utf8) (sym h.layout ∙ e) (
        let n = length (slot_values s) in
        let more : n == 0 ≡ false = ne_eqb n 0 (omega (arith, some)) in
        let ends = ap (take (4 * (n + 1))) (sym h.offsets) ∙ contents_offsets s b h utf8 e some small empty first in
        let bytes = ap (λ (o : List ℕ). take (start_of o n) s.column.values) (sym h.offsets)
        ∙ (ap (take (start_of b.offsets.now n)) (sym h.values) ∙ contents_lent s b h utf8 e some small empty first) in
        rw (more, ends, bytes) refl)

    pub contents_few : HasExcessData s.column.layout (slot_values s) → ⊥
    contents_few = short_as s (l.VariableBytes utf8) (sym h.layout ∙ e) (λ long.
        let few = contents_short s b h utf8 e some small empty first in
        omega (arith, few, long))

-- lists that use all slots of their child
pub lists_written : (s : Nested) → s.column.layout ≡ l.Lists → UseAllItems s
    → lent_buffers s.column.layout s.column (length (slot_values s)) ≡ data_buffers s.column.layout (slot_values s)
lists_written s laid all = written_as s l.Lists laid (ap (λ (bs : List ℕ). bs ∷ []) (either (length (slot_values s)) refl))
  where
    either : (n : ℕ) → length (slot_values s) ≡ n
        → lent_offsets s.column.offsets (length (slot_values s)) ≡ offsets Items (slot_values s)
    either zero e = rw e (no_offsets (slot_values s) e)
    either (suc n) e =
        let more : length (slot_values s) == 0 ≡ false = ne_eqb (length (slot_values s)) 0 (omega (arith, e)) in
        rw more (all.offsets_are (omega (arith, e)))

-- where the data of slots ends
pub last_inside : (s : Nested) (b : Buffers) → AreBuffers s b → (utf8 : Bool) → b.layout ≡ l.VariableBytes utf8
    → ((k : ℕ) → get_or b.offsets.now k 0 < 256) → (count end : ℕ) → count ≡ length (slot_values s)
    → end ≡ last_offset b.offsets.now count → end ≤ length b.values.now
last_inside s b h utf8 e small count end size last = either (count == 0) refl
  where
    either : (none : Bool) → (count == 0) ≡ none → end ≤ length b.values.now
    either true none =
        let nothing : end ≡ 0 = rw none at last in
        omega (arith, nothing)
    either false none =
        let there : end ≡ start_of b.offsets.now count = rw none at last in
        let some = eqb-false count 0 none in
        let within = starts_inside s b h utf8 e (omega (arith, some, size)) small count (omega (arith, size)) in
        omega (arith, there, within)
