-- The numbers that stand in the slots of a column of indices that was read.
use Rattle.std.proofs.Common.{◌≡◌, ◌∙◌, refl, sym, ap, ℕ, ◌<◌, Bool, true, false, Option, Some, None, List, length, set, get_or, arith}
use Rattle.std.proofs.Common.{inl, inr, [], ◌∷◌, ◌++◌, ◌+◌, take, append_assoc}
use Rattle.std.proofs.lemmas.Bool.{cases_eq}
use Rattle.std.proofs.lemmas.List.{get_or-set_other, get_or-set_same, length-set}
use Rattle.std.proofs.lemmas.Option.{get_or_from_slice_get, slice_get-get_or}
use Rattle.std.specs.Int.{bytes_low_first}
use Rattle.std.specs.Prelude.{ℤ, is_some, not, IfSome, slice_get}
use Rattle.ipc_scalar.specs.Bytes.{clear}
use Rattle.ipc_model.specs.Layouts.{layout, number_bytes}
use Rattle.ipc_model.specs.declared.layout.Layout.{Layout}
use Rattle.ipc_model.specs.declared.layout.Layout.TheVariants.{Indices}
use Rattle.ipc_model.specs.declared.schema.Field.{Field, out-Field}
use Rattle.ipc_model.specs.declared.schema.IntBits.{IntBits}
use Rattle.ipc_model.specs.declared.value.Value.{Value}
use Rattle.ipc_model.specs.declared.value.Value.TheOpen.{Value-F}
use Rattle.ipc_model.specs.declared.value.Value.TheVariants.{Null}
use Rattle.ipc_column.proofs.Opened.{null_out, unsigned_out}
use Rattle.ipc_column.specs.Lending.{AreBuffers}
use Rattle.ipc_column.specs.Lent.{AreOfColumn}
use Rattle.ipc_column.specs.Nested.{Nested, slot_values}
use Rattle.ipc_column.specs.declared.buffers.Buffers.{Buffers}
use Rattle.ipc_column.specs.Values.{is_valid}
use Rattle.ipc_column.specs.Shapes.{Shape, bare, field, child_shape, field_layout, shape_of}
use Rattle.ipc_encode.specs.Buffers.{column_buffers, written_values}
use Rattle.ipc_encode.specs.Cells.{bits_in, cell, is_null, is_set, number_bits, slot_bytes, slots}
use Rattle.ipc_encode.specs.Columns.{validity_bytes}
use Rattle.ipc_encode.specs.EntryNumbers.{HasNumbers}
use Rattle.ipc_encode.specs.Numbers.{Numbering, as_number, index_of, index_unless_null, numbers_of}
use Rattle.ipc_encode.specs.Pieces.{Number, Valid}
use Rattle.ipc_encode.proofs.Indexed.{number_at, numbers_length, validity_same}
use Rattle.ipc_encode.proofs.LentBuffers.{buffers_at}
use Rattle.ipc_encode.proofs.NumberSlots.{slots_next, valid_index}
use Rattle.ipc_encode.proofs.SegmentColumns.{field_parts}

-- null isn't valid
pub null_unset : is_set Valid Null ≡ false
null_unset = ap (λ (w : Value-F Value). not (is_null w)) null_out

module _ (f : Value → ℕ) where
  -- null has no number, so 0 stands for it
  pub null_number : 0 ≡ number_bits (as_number (index_of f Null))
  null_number = sym (ap (λ (w : Value-F Value). number_bits (as_number (index_unless_null (f Null) w))) null_out ∙ ap bits_in null_out)

  -- the number that a value has is the one that stands for it
  pub found_number : (value : Value) (found : Option ℕ) → found ≡ index_of f value
      → IfSome found (λ n. n ≡ number_bits (as_number (index_of f value)))
  found_number value None e = tt
  found_number value (Some n) e = sym (ap bits_in (unsigned_out n)) ∙ ap (λ (o : Option ℕ). number_bits (as_number o)) e

  -- a value that has one is valid
  pub found_valid : (value : Value) (found : Option ℕ) (valid : Bool) → found ≡ index_of f value → valid ≡ true → is_some found ≡ true
      → is_set Valid value ≡ valid
  found_valid value found valid e is some = sym (valid_index f value) ∙ (ap is_some (sym e) ∙ (some ∙ sym is))

  -- one number more
  pub numbers_set : (dictionary : List Value) (table : List (Option ℕ)) (i : ℕ) (found : Option ℕ) → HasNumbers f dictionary table
      → i < length dictionary → found ≡ index_of f (get_or dictionary i Null) → HasNumbers f dictionary (set table i found)
  numbers_set dictionary table i found h inside e =
      let size = h.size in
      record {
        size = length-set table i found ∙ h.size;
        each = λ j number within is. elim (cases_eq j i) as (λ _. index_of f (get_or dictionary j Null) ≡ Some number) [
          | inl same ↦ ap (λ (k : ℕ). index_of f (get_or dictionary k Null)) same
              ∙ (sym e ∙ (sym (get_or-set_same table i found None (omega (arith, size, inside)))
              ∙ (ap (λ (k : ℕ). get_or (set table i found) k None) (sym same) ∙ is)))
          | inr other ↦ h.each j number within (sym (get_or-set_other table i j found None other) ∙ is)
        ];
      }

-- ---- one slot

-- the value of a row is that of its slot
pub cell_is : (rows : List (List Value)) (column : ℕ) (vs : List Value) (slot : ℕ) → AreOfColumn rows column vs → slot < length vs
    → cell column (get_or rows slot []) ≡ get_or vs slot Null
cell_is rows column vs slot h inside =
    let size = h.size in
    get_or_from_slice_get (get_or rows slot []) column (get_or vs slot Null) Null
    (h.each slot (omega (arith, size, inside)) ∙ slice_get-get_or vs slot Null inside)

-- the value of the dictionary that a slot shows
pub entry_is : (s : Nested) (slot entry : ℕ) → entry < length s.column.dictionary
    → slice_get s.column.dictionary entry ≡ slice_get (slot_values s) slot
    → get_or s.column.dictionary entry Null ≡ get_or (slot_values s) slot Null
entry_is s slot entry within shows =
    sym (get_or_from_slice_get (slot_values s) slot (get_or s.column.dictionary entry Null) Null
    (sym shows ∙ slice_get-get_or s.column.dictionary entry Null within))

-- a slot whose bit is clear is null
pub unmarked_null : (s : Nested) (b : Buffers) → AreBuffers s b → (slot : ℕ) → slot < length (slot_values s)
    → is_valid b.validity.now slot ≡ false → get_or (slot_values s) slot Null ≡ Null
unmarked_null s b h slot inside clear = buffers_at s b h slot inside ∙ rw clear refl

-- the number of one slot more
pub numbers_pushed : (f : Value → ℕ) (bits : IntBits) (vs : List Value) (slot n : ℕ) (old so_far new : List ℕ) → slot < length vs
    → n ≡ number_bits (as_number (index_of f (get_or vs slot Null))) → so_far ≡ old ++ slots (Number bits) (take slot (numbers_of f vs))
    → new ≡ so_far ++ bytes_low_first 0 (number_bytes bits) n → new ≡ old ++ slots (Number bits) (take (slot + 1) (numbers_of f vs))
numbers_pushed f bits vs slot n old so_far new inside is s e =
    let size = numbers_length f vs in
    let before = slots (Number bits) (take slot (numbers_of f vs)) in
    let own : bytes_low_first 0 (number_bytes bits) n ≡ slot_bytes (Number bits) (get_or (numbers_of f vs) slot Null) =
    ap (bytes_low_first 0 (number_bytes bits)) is ∙ ap (slot_bytes (Number bits)) (sym (number_at f vs slot inside)) in
    e ∙ (ap (λ (bs : List ℕ). bs ++ bytes_low_first 0 (number_bytes bits) n) s
    ∙ (append_assoc old before (bytes_low_first 0 (number_bytes bits) n)
    ∙ ap (λ (bs : List ℕ). old ++ bs) (ap (λ (bs : List ℕ). before ++ bs) own
    ∙ slots_next (Number bits) (numbers_of f vs) slot (omega (arith, size, inside)))))

-- ---- all slots

-- ---- a column of indices

-- its buffers are the bitmap and the numbers
pub indexed_buffers : (known : Numbering) (bits : IntBits) (signed : Bool) (id : ℤ) (vs : List Value) (valid bytes : List ℕ)
    → valid ≡ validity_bytes vs → bytes ≡ slots (Number bits) (numbers_of (known id) vs)
    → column_buffers (Indices bits signed id) (written_values known (Indices bits signed id) vs) ≡ valid ∷ bytes ∷ []
indexed_buffers known bits signed id vs valid bytes v b =
    let first : valid ≡ validity_bytes (numbers_of (known id) vs) = v ∙ sym (validity_same (known id) vs) in
    sym (λ q. first q ∷ b q ∷ [])

-- the shape of a field of this layout without children
pub leaf_shape : (f : Field) (lay : Layout) → layout (out-Field f).kind (out-Field f).dictionary ≡ lay → length (out-Field f).children ≡ 0
    → field (field_layout f) (child_shape f) bare ≡ field lay bare bare
leaf_shape f lay e none =
    ap (λ (s : Layout × Shape). field s.0 s.1 bare) (field_parts f) ∙ (λ q. field (e q) (no_shape (out-Field f).children none q) bare)
  where
    no_shape : (fields : List Field) → length fields ≡ 0 → shape_of fields ≡ bare
    no_shape [] e = refl
    no_shape (g ∷ gs) e = absurd (omega (arith, e))
