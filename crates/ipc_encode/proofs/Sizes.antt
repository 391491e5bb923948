-- How long the buffers of a column are, and what surely fits.
use Rattle.std.proofs.Common.{◌≡◌, ◌∙◌, refl, sym, ap, ℕ, ◌+◌, ◌-◌, ◌*◌, ◌/◌, ◌%◌, ◌≤◌, Bool, true, false, cond, List, [], ◌∷◌, ◌++◌}
use Rattle.std.proofs.Common.{length, length-append, replicate, arith, subst, zero, suc, get_or, inl, inr}
use Rattle.std.proofs.lemmas.List.{length-replicate}
use Rattle.std.specs.Int.{bytes_low_first}
use Rattle.std.specs.Prelude.{◌==◌, ℤ, ⊤}
use Rattle.ipc_scalar.proofs.Places.{length_low_bytes}
use Rattle.ipc_model.specs.Fits.{Fits, EachFits}
use Rattle.ipc_model.specs.Layouts.{number_bytes}
use Rattle.ipc_model.specs.declared.layout.Layout.{Layout}
use Rattle.ipc_model.specs.declared.layout.Layout.TheVariants as l
use Rattle.ipc_model.specs.declared.limits.Limits.{Limits}
use Rattle.ipc_model.specs.declared.schema.Field.{Field}
use Rattle.ipc_model.specs.declared.schema.IntBits.{IntBits}
use Rattle.ipc_model.specs.declared.value.Value.{Value}
use Rattle.ipc_column.specs.Shapes.{Shape, bare, field}
use Rattle.ipc_encode.specs.Bitmaps.{bitmap}
use Rattle.ipc_encode.specs.Buffers.{padded_buffer, padded_bytes, piece_bytes, column_buffers, child_values}
use Rattle.ipc_encode.specs.Buffers.{column_nulls}
use Rattle.ipc_encode.specs.Built.{AreCountsOf, HoldsValues, IsColumn, data_layout}
use Rattle.ipc_encode.specs.Cells.{flags, nulls, content, fixed_bytes, items, slot_bytes, slots, ends, offsets, extent, number_bits}
use Rattle.ipc_encode.specs.Cells.{all_items}
use Rattle.ipc_encode.specs.Columns.{validity_bytes, bits_length, padded_length, data_in, values_length}
use Rattle.ipc_encode.specs.Columns.{ExceedsOffsets, offsets_length, validity_length}
use Rattle.ipc_encode.specs.Buffers.{SomeColumn}
use Rattle.ipc_encode.specs.Limits.{HasExcessData, HasLongData, HasLongItems}
use Rattle.ipc_encode.specs.Numbers.{Numbering}
use Rattle.ipc_encode.specs.Writing.{AreStored}
use Rattle.ipc_encode.specs.Pieces.{Valid, True, Number, Fixed, Content}
use Rattle.ipc_encode.specs.Pieces as p
use Rattle.ipc_encode.specs.declared.column.ColumnBuilder.{ColumnBuilder}
use Rattle.ipc_encode.specs.declared.column.ColumnCounts.{ColumnCounts}
use Rattle.ipc_encode.specs.declared.column.ColumnData.{ColumnData}
use Rattle.ipc_encode.specs.declared.column.ColumnData.TheVariants as kind
use Rattle.ipc_encode.proofs.Bits.{length_bytes, flags_length}
use Rattle.ipc_encode.proofs.Steps.{fixed_length}

-- how many bytes a column's buffers take in a body: `count` slots, `null_count` of them null, and
-- `value_bytes` bytes of values
abbrev pub column_length : Layout → ℕ → ℕ → ℕ → ℕ
column_length layout count null_count value_bytes =
    padded_length (validity_length layout count null_count)
    + padded_length (offsets_length layout count) + padded_length value_bytes

-- ---- how long the buffers of a column are

pub padded_is : (b : List ℕ) → length (padded_buffer b) ≡ padded_length (length b)
padded_is b = length-append b (replicate {A = ℕ} ((8 - length b % 8) % 8) 0)
    ∙ ap (λ (n : ℕ). length b + n) (length-replicate ((8 - length b % 8) % 8) 0)

joined_one : (a : List ℕ) → length (padded_bytes (a ∷ [])) ≡ padded_length (length a) + padded_length 0 + padded_length 0
joined_one a = let size = length-append (padded_buffer a) [] in omega (arith, size, padded_is a)

joined_run : (a b : List ℕ) → length (padded_bytes (a ∷ b ∷ [])) ≡ padded_length (length a) + padded_length (length b) + padded_length 0
joined_run a b =
    let size = length-append (padded_buffer a) (padded_buffer b ++ []) in
    let last = length-append (padded_buffer b) [] in
    omega (arith, size, last, padded_is a, padded_is b)

joined_two : (a b : List ℕ) → length (padded_bytes (a ∷ b ∷ [])) ≡ padded_length (length a) + padded_length 0 + padded_length (length b)
joined_two a b =
    let size = length-append (padded_buffer a) (padded_buffer b ++ []) in
    let last = length-append (padded_buffer b) [] in
    omega (arith, size, last, padded_is a, padded_is b)

joined_three : (a b c : List ℕ)
    → length (padded_bytes (a ∷ b ∷ c ∷ [])) ≡ padded_length (length a) + padded_length (length b) + padded_length (length c)
joined_three a b c =
    let size = length-append (padded_buffer a) (padded_buffer b ++ (padded_buffer c ++ [])) in
    let more = length-append (padded_buffer b) (padded_buffer c ++ []) in
    let last = length-append (padded_buffer c) [] in
    omega (arith, size, more, last, padded_is a, padded_is b, padded_is c)

pub bitmap_bytes : (which : p.Flag) (vs : List Value) → length (bitmap (flags which vs)) ≡ bits_length (length vs)
bitmap_bytes which vs = length_bytes _ _ ∙ ap (λ (n : ℕ). (n + 7) / 8) (flags_length which vs)

validity_is : (vs : List Value) → length (validity_bytes vs) ≡ cond (nulls vs == 0) 0 (bits_length (length vs))
validity_is vs =
    elim (nulls vs == 0) as (λ b. length (piece_bytes (cond b p.Absent (p.Flags Valid)) vs) ≡ cond b 0 (bits_length (length vs))) [
      | true ↦ refl
      | false ↦ bitmap_bytes Valid vs
    ]

pub ends_length : (run : p.OffsetUnit) (start : ℕ) (vs : List Value) → length (ends run start vs) ≡ 4 * length vs
ends_length run start [] = omega arith
ends_length run start (v ∷ vs) =
    let rest = ends_length run (start + extent run v) vs in
    let here = length_low_bytes 0 4 (start + extent run v) in
    let size = length-append (bytes_low_first 0 4 (start + extent run v)) (ends run (start + extent run v) vs) in
    omega (arith, rest, here, size)

pub offsets_size : (run : p.OffsetUnit) (vs : List Value) → length (offsets run vs) ≡ 4 * (length vs + 1)
offsets_size run vs = let size = ends_length run 0 vs in omega (arith, size)

-- ---- the data of a column

pub numbers_data : (bits : IntBits) (signed : Bool) (vs : List Value) → length (slots (Number bits) vs) ≡ data_in (l.Numbers bits signed) vs
numbers_data bits signed [] = refl
numbers_data bits signed (v ∷ vs) =
    let more = numbers_data bits signed vs in
    let here = length_low_bytes 0 (number_bytes bits) (number_bits v) in
    let size = length-append (slot_bytes (Number bits) v) (slots (Number bits) vs) in
    omega (arith, more, here, size)

pub fixed_data : (width : ℕ) (vs : List Value) → length (slots (Fixed width) vs) ≡ data_in (l.FixedBytes width) vs
fixed_data width [] = refl
fixed_data width (v ∷ vs) =
    let more = fixed_data width vs in
    let size = length-append (fixed_bytes width v) (slots (Fixed width) vs) in
    omega (arith, more, size, fixed_length width v)

pub content_data : (utf8 : Bool) (vs : List Value) → length (slots Content vs) ≡ data_in (l.VariableBytes utf8) vs
content_data utf8 [] = refl
content_data utf8 (v ∷ vs) =
    let more = content_data utf8 vs in
    let size = length-append (content v) (slots Content vs) in
    omega (arith, more, size)

pub same_data : (bits : IntBits) (signed : Bool) (id : ℤ) (vs : List Value)
    → data_in (l.Numbers bits signed) vs ≡ data_in (l.Indices bits signed id) vs
same_data bits signed id [] = refl
same_data bits signed id (v ∷ vs) = ap (λ (n : ℕ). number_bytes bits + n) (same_data bits signed id vs)

indices_data : (bits : IntBits) (signed : Bool) (id : ℤ) (vs : List Value)
    → length (slots (Number bits) vs) ≡ data_in (l.Indices bits signed id) vs
indices_data bits signed id vs = numbers_data bits signed vs ∙ same_data bits signed id vs

pub items_data : (vs : List Value) → length (all_items vs) ≡ data_in l.Lists vs
items_data [] = refl
items_data (v ∷ vs) =
    let more = items_data vs in
    let size = length-append (items v) (all_items vs) in
    omega (arith, more, size)

pub no_data : (layout : Layout) (vs : List Value) → ((v : Value) → data_in layout (v ∷ []) ≡ 0) → data_in layout vs ≡ 0
no_data layout [] none = refl
no_data layout (v ∷ vs) none = let more = no_data layout vs none in let here = none v in omega (arith, more, here)

-- the buffers of a column have the length that its counts give
pub column_size : (layout : Layout) (vs : List Value)
    → length (padded_bytes (column_buffers layout vs)) ≡ column_length layout (length vs) (nulls vs) (values_length layout (length vs)
    (data_in layout vs))
column_size l.Null vs = refl
column_size l.Lists vs = joined_run (validity_bytes vs) (offsets p.Items vs)
    ∙ (ap (λ (n : ℕ). padded_length n + padded_length (length (offsets p.Items vs)) + padded_length 0) (validity_is vs)
    ∙ ap (λ (n : ℕ). padded_length (cond (nulls vs == 0) 0 (bits_length (length vs))) + padded_length n + padded_length 0)
    (offsets_size p.Items vs))
column_size l.Bits vs = joined_two (validity_bytes vs) (bitmap (flags True vs))
    ∙ (ap (λ (n : ℕ). padded_length n + padded_length 0 + padded_length (length (bitmap (flags True vs)))) (validity_is vs)
    ∙ ap (λ (n : ℕ). padded_length (cond (nulls vs == 0) 0 (bits_length (length vs))) + padded_length 0 + padded_length n)
    (bitmap_bytes True vs))
column_size (l.Numbers bits signed) vs = joined_two (validity_bytes vs) (slots (Number bits) vs)
    ∙ (ap (λ (n : ℕ). padded_length n + padded_length 0 + padded_length (length (slots (Number bits) vs))) (validity_is vs)
    ∙ ap (λ (n : ℕ). padded_length (cond (nulls vs == 0) 0 (bits_length (length vs))) + padded_length 0 + padded_length n)
    (numbers_data bits signed vs))
column_size (l.Indices bits signed id) vs = joined_two (validity_bytes vs) (slots (Number bits) vs)
    ∙ (ap (λ (n : ℕ). padded_length n + padded_length 0 + padded_length (length (slots (Number bits) vs))) (validity_is vs)
    ∙ ap (λ (n : ℕ). padded_length (cond (nulls vs == 0) 0 (bits_length (length vs))) + padded_length 0 + padded_length n)
    (indices_data bits signed id vs))
column_size (l.FixedBytes width) vs = joined_two (validity_bytes vs) (slots (Fixed width) vs)
    ∙ (ap (λ (n : ℕ). padded_length n + padded_length 0 + padded_length (length (slots (Fixed width) vs))) (validity_is vs)
    ∙ ap (λ (n : ℕ). padded_length (cond (nulls vs == 0) 0 (bits_length (length vs))) + padded_length 0 + padded_length n)
    (fixed_data width vs))
column_size (l.VariableBytes utf8) vs =
    joined_three (validity_bytes vs) (offsets p.Bytes vs) (slots Content vs)
    ∙ (ap (λ (n : ℕ). padded_length n + padded_length (length (offsets p.Bytes vs)) + padded_length (length (slots Content vs)))
    (validity_is vs)
    ∙ (ap (λ (n : ℕ). padded_length (cond (nulls vs == 0) 0 (bits_length (length vs))) + padded_length n + padded_length
    (length (slots Content vs))) (offsets_size p.Bytes vs)
    ∙ ap (λ (n : ℕ). padded_length (cond (nulls vs == 0) 0 (bits_length (length vs))) + padded_length (4 *
    (length vs + 1)) + padded_length n)
    (content_data utf8 vs)))
column_size _ vs = joined_one (validity_bytes vs)
    ∙ ap (λ (n : ℕ). padded_length n + padded_length 0 + padded_length 0) (validity_is vs)

-- a buffer of values is among the others
last_within : (layout : Layout) (vs : List Value) → values_length layout (length vs) (data_in layout vs) ≡ data_in layout vs
    → data_in layout vs ≤ length (padded_bytes (column_buffers layout vs))
last_within layout vs e = let size = column_size layout vs in omega (arith, size, e)

-- the bytes of data are among those of the buffers
pub data_within : (layout : Layout) (vs : List Value) → (layout ≡ l.Lists → ⊥) → data_in layout vs ≤ length (padded_bytes
    (column_buffers layout vs))
data_within l.Null vs other = let none = no_data l.Null vs (λ v. refl) in omega (arith, none)
data_within (l.Indices bits signed id) vs other = last_within (l.Indices bits signed id) vs refl
data_within l.Lists vs other = absurd (other refl)
data_within l.Structs vs other = let none = no_data l.Structs vs (λ v. refl) in omega (arith, none)
data_within (l.FixedLists size) vs other = let none = no_data (l.FixedLists size) vs (λ v. refl) in omega (arith, none)
data_within l.Bits vs other = let none = no_data l.Bits vs (λ v. refl) in omega (arith, none)
data_within (l.Numbers bits signed) vs other = last_within (l.Numbers bits signed) vs refl
data_within (l.FixedBytes width) vs other = last_within (l.FixedBytes width) vs refl
data_within (l.VariableBytes utf8) vs other = last_within (l.VariableBytes utf8) vs refl

-- data is long exactly where it passes its offsets
pub long_is : (layout : Layout) (vs : List Value) → ExceedsOffsets layout (data_in layout vs) → HasExcessData layout vs
long_is l.Lists vs h = let size = items_data vs in omega (arith, size, h)
long_is (l.VariableBytes utf8) vs h = let size = content_data utf8 vs in omega (arith, size, h)
long_is _ vs h = h

pub long_from : (layout : Layout) (vs : List Value) → HasExcessData layout vs → ExceedsOffsets layout (data_in layout vs)
long_from l.Lists vs h = let size = items_data vs in omega (arith, size, h)
long_from (l.VariableBytes utf8) vs h = let size = content_data utf8 vs in omega (arith, size, h)
long_from _ vs h = h

-- the data of a column can be addressed by its offsets
held_short : (known : Numbering) (vs : List Value) (held : ColumnData) → HoldsValues known vs held
    → HasExcessData (data_layout held) vs → ⊥
held_short known vs (kind.VariableBytes utf8 ends bytes) h long =
    omega (arith, h.short, ap (λ (bs : List ℕ). length bs) h.bytes_are, long)
held_short known vs (kind.Lists ends count) h long = omega (arith, h.short, h.items_are, items_data vs, long)
held_short known vs _ h long = long

pub column_short : (known : Numbering) (limits : Limits) (layout : Layout) (vs : List Value) (column : ColumnBuilder)
    → IsColumn known limits layout vs column
    → HasExcessData layout vs → ⊥
column_short known limits layout vs column h long =
    held_short known vs column.data h.holds (subst (λ (l : Layout). HasExcessData l vs) (sym h.laid) long)

-- its texts are UTF-8
pub held_stored : (known : Numbering) (vs : List Value) (held : ColumnData) → HoldsValues known vs held
    → AreStored (data_layout held) vs
held_stored known vs (kind.VariableBytes utf8 ends bytes) h = h.texts
held_stored known vs _ h = tt

-- the numbers of a column give the length of its buffers
pub counted_size : (limits : Limits) (layout : Layout) (vs : List Value) (counts : ColumnCounts) → AreCountsOf limits layout vs counts
    → column_length layout counts.slots counts.nulls (values_length layout counts.slots counts.amount)
    ≡ length (padded_bytes (column_buffers layout vs))
counted_size limits layout vs counts h =
    rw (h.slots_are, h.nulls_are, h.amount_is) (same layout ∙ sym (column_size layout vs))
  where
    same : (lay : Layout) → column_length lay (length vs) (column_nulls lay vs) (values_length lay (length vs) (data_in lay vs))
        ≡ column_length lay (length vs) (nulls vs) (values_length lay (length vs) (data_in lay vs))
    same l.Null = refl
    same _ = refl

-- ---- what fits

-- each of the first values fits the field beside it
abbrev pub FirstFit : ℕ → List Field → List Value → Type 0
FirstFit zero fields row = ⊤
FirstFit (suc i) [] row = ⊤
FirstFit (suc i) (f ∷ fields) [] = ⊤
FirstFit (suc i) (f ∷ fields) (v ∷ row) = Fits f v × FirstFit i fields row

pub first_fit_next : (i : ℕ) (fields : List Field) (row : List Value) (f : Field) (v : Value) → FirstFit i fields row
    → Fits (get_or fields i f) (get_or row i v) → FirstFit (suc i) fields row
first_fit_next i [] row f v so one = tt
first_fit_next i (g ∷ fields) [] f v so one = tt
first_fit_next zero (g ∷ fields) (w ∷ row) f v so one = (one, tt)
first_fit_next (suc i) (g ∷ fields) (w ∷ row) f v so one = (so.0, first_fit_next i fields row f v so.1 one)

pub first_fit_all : (i : ℕ) (fields : List Field) (row : List Value) → length fields ≤ i → FirstFit i fields row
    → EachFits Fits fields row
first_fit_all i [] row all h = tt
first_fit_all i (f ∷ fields) [] all h = tt
first_fit_all zero (f ∷ fields) (v ∷ row) all h = absurd (omega (arith, all))
first_fit_all (suc i) (f ∷ fields) (v ∷ row) all h = (h.0, first_fit_all i fields row (omega (arith, all)) h.1)

-- ---- data that passes its offsets is long data of bytes, or long lists

data_past : (layout : Layout) (vs : List Value) → HasLongData layout vs → HasExcessData layout vs
data_past (l.VariableBytes utf8) vs h = h
data_past _ vs h = absurd h

items_past : (layout : Layout) (vs : List Value) → HasLongItems layout vs → HasExcessData layout vs
items_past l.Lists vs h = h
items_past _ vs h = absurd h

some_past : (P : Layout → List Value → Type 0) → ((layout : Layout) (vs : List Value) → P layout vs → HasExcessData layout vs)
    → (shape : Shape) (given : ℕ → List Value) → SomeColumn P shape given → SomeColumn HasExcessData shape given
some_past P past bare given h = h
some_past P past (field k c rest) given (inl own) = inl (past k (given 0) own)
some_past P past (field k c rest) given (inr (inl child)) = inr (inl (some_past P past c (child_values k (given 0)) child))
some_past P past (field k c rest) given (inr (inr later)) = inr (inr (some_past P past rest (λ j. given (suc j)) later))

-- long data of one of the columns passes its offsets, and so do long lists
pub data_some : (shape : Shape) (given : ℕ → List Value) → SomeColumn HasLongData shape given → SomeColumn HasExcessData shape given
data_some shape given h = some_past HasLongData data_past shape given h

pub items_some : (shape : Shape) (given : ℕ → List Value) → SomeColumn HasLongItems shape given → SomeColumn HasExcessData shape given
items_some shape given h = some_past HasLongItems items_past shape given h
