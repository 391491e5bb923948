-- What a slot of a column that was read holds.
use Rattle.std.proofs.Common.{◌≡◌, ◌∙◌, refl, sym, ap, ℕ, zero, suc, ◌+◌, ◌-◌, ◌*◌, ◌/◌, ◌%◌, ◌^◌, ◌<◌, ◌≤◌, List, ◌∷◌, length, take}
use Rattle.std.proofs.Common.{drop, get_or, drop-cons, arith, inl, inr, Bool, true, false, cond, Ok, Err, [], ◌++◌, append_assoc}
use Rattle.std.proofs.Common.{replicate, Option, ℤ}
use Rattle.std.proofs.Math.Nat.{pow-succ', div-div-eq-div-mul, mul_assoc, mul-le-mul_left}
use Rattle.std.proofs.lemmas.Bool.{cases_lt}
use Rattle.std.proofs.lemmas.Int.{ints, of_z-to_z, to_z-of_z, to_z_pos}
use Rattle.std.proofs.lemmas.List.{take_more}
use Rattle.std.proofs.lemmas.Option.{get_or_from_slice_get}
use Rattle.std.specs.Int.{w8, w16, w32, w64, cast_signed, cast_unsigned, byte_at, bytes_low_first}
use Rattle.std.specs.Prelude.{negsuc, not, OnOk, is_some}
use Rattle.std.specs.Result.{is_ok}
use Rattle.std.specs.declared.result.Result.{Result}
use Rattle.ipc_scalar.specs.Bytes.{num}
use Rattle.ipc_model.specs.Layouts.{number_bytes}
use Rattle.ipc_model.specs.declared.layout.Layout.TheVariants as l
use Rattle.ipc_model.specs.declared.schema.IntBits.{IntBits}
use Rattle.ipc_model.specs.declared.schema.IntBits.TheVariants.{B8, B16, B32, B64}
use Rattle.ipc_model.specs.declared.value.Value.{Value, out-Value}
use Rattle.ipc_model.specs.declared.value.Value.TheOpen.{Value-F}
use Rattle.ipc_model.specs.declared.value.Value.TheVariants.{Null}
use Rattle.ipc_column.proofs.Opened.{bytes_out, list_out, null_out, signed_out, struct_out, text_out, truth_out, unsigned_out}
use Rattle.ipc_column.specs.Lending.{AreNumbers, lent_number}
use Rattle.ipc_column.specs.Nested.{Nested, slot_values}
use Rattle.ipc_column.specs.Slots.{value_in_slot}
use Rattle.ipc_column.specs.Values.{signed_at, is_valid, own_value, first_of}
use Rattle.ipc_column.specs.Values as values
use Rattle.ipc_column.specs.declared.buffers.Numbers.{Numbers}
use Rattle.ipc_column.specs.declared.slot_view.Slot.{Slot}
use Rattle.ipc_column.specs.declared.slot_view.Slot.TheVariants as slot
use Rattle.ipc_encode.specs.Cells.{bits_in, is_null, is_set, slot_bytes, slots, fixed_bytes, fixed_in}
use Rattle.ipc_encode.specs.Cells.{items, items_in}
use Rattle.ipc_encode.specs.Columns.{data_in}
use Rattle.ipc_encode.specs.Numbers.{index_unless_null, index_of, indices_of}
use Rattle.ipc_encode.specs.Pieces.{Number, Valid, ValueSlot}
use Rattle.ipc_encode.proofs.Steps.{not_of_size, of_size, slots_push}

-- ---- the bytes of numbers that were read are those that are written (Arrow Columnar Format, "Byte Order")

-- byte k + 1 of a number is byte k of what is left without the lowest
byte_next : (k a r : ℕ) → a < 256 → byte_at (suc k) (a + 256 * r) ≡ byte_at k r
byte_next zero a r h = omega arith
byte_next (suc k) a r h =
    let rest : (a + 256 * r) / 256 ≡ r = omega arith in
    ap (λ (n : ℕ). n % 256) (ap (λ (m : ℕ). (a + 256 * r) / m) (pow-succ' 256 (suc k))
    ∙ (sym (div-div-eq-div-mul (a + 256 * r) 256 (256 ^ suc k)) ∙ ap (λ (n : ℕ). n / 256 ^ suc k) rest))

bytes_next : (w k a r : ℕ) → a < 256 → bytes_low_first (suc k) w (a + 256 * r) ≡ bytes_low_first k w r
bytes_next zero k a r h = refl
bytes_next (suc w) k a r h = rw (byte_next k a r h, bytes_next w (suc k) a r h) refl

-- the number in one byte more
pub num_more : (b : List ℕ) (p w : ℕ) → num b p (suc w) ≡ get_or b p 0 + 256 * num b (suc p) w
unfolding num
num_more b p w = refl

pub num_none : (b : List ℕ) (p : ℕ) → num b p 0 ≡ 0
unfolding num
num_none b p = refl

-- the bytes of the number in w bytes are these, whatever stands above them
low_bytes : (w p c : ℕ) (b : List ℕ) → ((k : ℕ) → get_or b k 0 < 256) → p + w ≤ length b
    → bytes_low_first 0 w (num b p w + 256 ^ w * c) ≡ take w (drop p b)
low_bytes zero p c b small h = refl
low_bytes (suc w) p c b small h =
    let a = get_or b p 0 in
    let r = num b (suc p) w + 256 ^ w * c in
    let least : a < 256 = small p in
    let more = num_more b p w in
    let above : 256 ^ suc w * c ≡ 256 * (256 ^ w * c) = rw (pow-succ' 256 w) (mul_assoc 256 (256 ^ w) c) in
    let whole : num b p (suc w) + 256 ^ suc w * c ≡ a + 256 * r = omega (arith, more, above) in
    let low : (a + 256 * r) % 256 ≡ a = omega arith in
    let front : drop p b ≡ a ∷ drop (suc p) b = drop-cons b p 0 (omega arith) in
    rw (whole, front, low, bytes_next w 0 a r least) (ap (λ (bs : List ℕ). a ∷ bs) (low_bytes w (suc p) c b small (omega arith)))

-- a number in w bytes is less than 256 ^ w
pub num_small : (w p : ℕ) (b : List ℕ) → ((k : ℕ) → get_or b k 0 < 256) → num b p w < 256 ^ w
num_small zero p b small = rw (num_none b p) (omega arith)
num_small (suc w) p b small =
    let byte = small p in
    let rest = num_small w (suc p) b small in
    rw (num_more b p w, pow-succ' 256 w) (omega (arith, byte, rest))

-- the bits of a signed number of so many bits among 64
eight : (x : ℕ) → x < 256 → (c : ℕ) × (cast_unsigned w64 (cast_signed w8 x) ≡ x + 256 * c)
eight x fits = elim (cases_lt x 128) as (λ _. (c : ℕ) × (cast_unsigned w64 (cast_signed w8 x) ≡ x + 256 * c)) [
  | inl h ↦ (0, ap (cast_unsigned w64) (to_z_pos w8 x h) ∙ omega arith)
  | inr h ↦
      let k = 255 - x in
      let same : x ≡ 256 - suc k = omega (arith, fits) in
      let few : k < 128 = omega (arith, h) in
      let back : cast_signed w8 x ≡ negsuc k = ap (cast_signed w8) same ∙ to_z-of_z w8 (negsuc k) (omega (arith, ints, few)) in
      (72057594037927935, ap (cast_unsigned w64) back ∙ omega (arith, h, fits))
]

sixteen : (x : ℕ) → x < 65536 → (c : ℕ) × (cast_unsigned w64 (cast_signed w16 x) ≡ x + 65536 * c)
sixteen x fits = elim (cases_lt x 32768) as (λ _. (c : ℕ) × (cast_unsigned w64 (cast_signed w16 x) ≡ x + 65536 * c)) [
  | inl h ↦ (0, ap (cast_unsigned w64) (to_z_pos w16 x h) ∙ omega arith)
  | inr h ↦
      let k = 65535 - x in
      let same : x ≡ 65536 - suc k = omega (arith, fits) in
      let few : k < 32768 = omega (arith, h) in
      let back : cast_signed w16 x ≡ negsuc k = ap (cast_signed w16) same ∙ to_z-of_z w16 (negsuc k) (omega (arith, ints, few)) in
      (281474976710655, ap (cast_unsigned w64) back ∙ omega (arith, h, fits))
]

thirty_two : (x : ℕ) → x < 4294967296 → (c : ℕ) × (cast_unsigned w64 (cast_signed w32 x) ≡ x + 4294967296 * c)
thirty_two x fits = elim (cases_lt x 2147483648) as (λ _. (c : ℕ) × (cast_unsigned w64 (cast_signed w32 x) ≡ x + 4294967296 * c)) [
  | inl h ↦ (0, ap (cast_unsigned w64) (to_z_pos w32 x h) ∙ omega arith)
  | inr h ↦
      let k = 4294967295 - x in
      let same : x ≡ 4294967296 - suc k = omega (arith, fits) in
      let few : k < 2147483648 = omega (arith, h) in
      let back : cast_signed w32 x ≡ negsuc k = ap (cast_signed w32) same ∙ to_z-of_z w32 (negsuc k) (omega (arith, ints, few)) in
      (4294967295, ap (cast_unsigned w64) back ∙ omega (arith, h, fits))
]

signed_above : (bits : IntBits) (b : List ℕ) (p : ℕ) → ((k : ℕ) → get_or b k 0 < 256)
    → (c : ℕ) × (cast_unsigned w64 (signed_at bits b p) ≡ num b p (number_bytes bits) + 256 ^ number_bytes bits * c)
signed_above B8 b p small = eight (num b p 1) (num_small 1 p b small)
signed_above B16 b p small = sixteen (num b p 2) (num_small 2 p b small)
signed_above B32 b p small = thirty_two (num b p 4) (num_small 4 p b small)
signed_above B64 b p small =
    let fits : num b p 8 < 2 ^ 64 = num_small 8 p b small in
    (0, of_z-to_z w64 (num b p 8) fits ∙ omega arith)

-- the bytes of a signed number are those in which it was read, and so are those of an unsigned one
pub signed_bytes : (bits : IntBits) (b : List ℕ) (p : ℕ) → ((k : ℕ) → get_or b k 0 < 256) → p + number_bytes bits ≤ length b
    → bytes_low_first 0 (number_bytes bits) (cast_unsigned w64 (signed_at bits b p)) ≡ take (number_bytes bits) (drop p b)
signed_bytes bits b p small h =
    let above = signed_above bits b p small in
    ap (λ (n : ℕ). bytes_low_first 0 (number_bytes bits) n) above.1 ∙ low_bytes (number_bytes bits) p above.0 b small h

pub unsigned_bytes : (bits : IntBits) (b : List ℕ) (p : ℕ) → ((k : ℕ) → get_or b k 0 < 256) → p + number_bytes bits ≤ length b
    → bytes_low_first 0 (number_bytes bits) (num b p (number_bytes bits)) ≡ take (number_bytes bits) (drop p b)
unsigned_bytes bits b p small h =
    let none : num b p (number_bytes bits) ≡ num b p (number_bytes bits) + 256 ^ number_bytes bits * 0 = omega arith in
    ap (λ (n : ℕ). bytes_low_first 0 (number_bytes bits) n) none ∙ low_bytes (number_bytes bits) p 0 b small h

-- what a list has where it grew
pub grown : {T E : Type 0} (r : Result T E) (new more old : List ℕ) → new ≡ cond (is_ok r) more old → OnOk r (new ≡ more)
grown (Ok x) new more old e = e
grown (Err x) new more old e = tt

own_bytes : (bits : IntBits) (signed : Bool) (values : List ℕ) (i : ℕ) → ((k : ℕ) → get_or values k 0 < 256)
    → number_bytes bits * i + number_bytes bits ≤ length values
    → slot_bytes (Number bits) (own_value (l.Numbers bits signed) [] (λ _. []) [] values i)
    ≡ take (number_bytes bits) (drop (number_bytes bits * i) values)
own_bytes bits true values i small h =
    ap (λ (f : Value-F Value). bytes_low_first 0 (number_bytes bits) (bits_in f))
    (signed_out (signed_at bits values (number_bytes bits * i)))
    ∙ signed_bytes bits values (number_bytes bits * i) small h
own_bytes bits false values i small h =
    ap (λ (f : Value-F Value). bytes_low_first 0 (number_bytes bits) (bits_in f))
    (unsigned_out (num values (number_bytes bits * i) (number_bytes bits)))
    ∙ unsigned_bytes bits values (number_bytes bits * i) small h

module _ (s : Nested) (n : Numbers) (h : AreNumbers s n) where
  number_at : (i : ℕ) → i < length (slot_values s) → get_or (slot_values s) i Null ≡ lent_number n i
  number_at i m = get_or_from_slice_get (slot_values s) i (lent_number n i) Null (h.each i m)

  -- a null slot is zeros
  pub null_slot : (i : ℕ) → i < length (slot_values s) → is_valid n.validity.now i ≡ false
      → slot_bytes (Number n.bits) (get_or (slot_values s) i Null) ≡ bytes_low_first 0 (number_bytes n.bits) 0
  null_slot i m e =
      let own : lent_number n i ≡ Null = rw e refl in
      ap (slot_bytes (Number n.bits)) (number_at i m ∙ own)
      ∙ ap (λ (f : Value-F Value). bytes_low_first 0 (number_bytes n.bits) (bits_in f)) null_out

  inside : (i : ℕ) → i < length (slot_values s) → number_bytes n.bits * i + number_bytes n.bits ≤ length n.values.now
  inside i m =
      let most = mul-le-mul_left (number_bytes n.bits) (let k : i + 1 ≤ length (slot_values s) = omega arith in k) in
      let long = h.long in
      omega (arith, most, long)

  -- a valid slot is the bytes that it was
  pub valid_slot : ((k : ℕ) → get_or n.values.now k 0 < 256) → (i : ℕ) → i < length (slot_values s) → is_valid n.validity.now i ≡ true
      → slot_bytes (Number n.bits) (get_or (slot_values s) i Null)
      ≡ take (number_bytes n.bits) (drop (number_bytes n.bits * i) n.values.now)
  valid_slot small i m e =
      let own : lent_number n i ≡ own_value (l.Numbers n.bits n.signed) [] (λ _. []) [] n.values.now i = rw e refl in
      ap (slot_bytes (Number n.bits)) (number_at i m ∙ own) ∙ own_bytes n.bits n.signed n.values.now i small (inside i m)

-- the slots of values and of others
pub slots_append : (which : ValueSlot) (vs ws : List Value) → slots which (vs ++ ws) ≡ slots which vs ++ slots which ws
slots_append which [] ws = refl
slots_append which (v ∷ vs) ws =
    ap (λ (bs : List ℕ). slot_bytes which v ++ bs) (slots_append which vs ws)
    ∙ sym (append_assoc (slot_bytes which v) (slots which vs) (slots which ws))

-- the slots so far and the next
pub slots_next : (which : ValueSlot) (vs : List Value) (i : ℕ) → i < length vs
    → slots which (take i vs) ++ slot_bytes which (get_or vs i Null) ≡ slots which (take (i + 1) vs)
slots_next which vs i l =
    sym (slots_push which (take i vs) (get_or vs i Null)) ∙ ap (slots which) (sym (take_more vs i Null l))

-- ---- what the value that a slot shows gives to a column's buffers

module _ (under : ℕ → List Value) (i : ℕ) where
  -- what the value that a slot shows is, opened
  abbrev pub opened : Slot → Value-F Value
  opened slot.Null = Value-F.Null
  opened (slot.Bool truth) = Value-F.Bool truth
  opened (slot.Int number) = Value-F.Int number
  opened (slot.UInt number) = Value-F.UInt number
  opened (slot.Bytes bytes) = Value-F.Bytes bytes.now
  opened (slot.Text bytes) = Value-F.Text bytes.now
  opened (slot.List from to) = Value-F.List (values.values_from (λ j. first_of (under j)) from (to - from))
  opened slot.Struct = Value-F.Struct (under i)

  pub shown_out : (x : Slot) → out-Value (value_in_slot under i x) ≡ opened x
  shown_out slot.Null = null_out
  shown_out (slot.Bool truth) = truth_out truth
  shown_out (slot.Int number) = signed_out number
  shown_out (slot.UInt number) = unsigned_out number
  shown_out (slot.Bytes bytes) = bytes_out bytes.now
  shown_out (slot.Text bytes) = text_out bytes.now
  shown_out (slot.List from to) = list_out (values.values_from (λ j. first_of (under j)) from (to - from))
  shown_out slot.Struct = struct_out (under i)

  pub items_are : (x : Slot) → items (value_in_slot under i x) ≡ items_in (opened x)
  items_are x = ap items_in (shown_out x)

  -- where it isn't a list
  pub no_items : (x : Slot) → ((from to : ℕ) → x ≡ slot.List from to → ⊥) → items (value_in_slot under i x) ≡ []
  no_items (slot.List from to) h = absurd (h from to refl)
  no_items slot.Null h = items_are slot.Null
  no_items (slot.Bool truth) h = items_are (slot.Bool truth)
  no_items (slot.Int number) h = items_are (slot.Int number)
  no_items (slot.UInt number) h = items_are (slot.UInt number)
  no_items (slot.Bytes bytes) h = items_are (slot.Bytes bytes)
  no_items (slot.Text bytes) h = items_are (slot.Text bytes)
  no_items slot.Struct h = items_are slot.Struct

  -- the bytes of a fixed width
  fixed_is : (width : ℕ) (x : Slot) → fixed_bytes width (value_in_slot under i x) ≡ fixed_in width (opened x)
  fixed_is width x = ap (fixed_in width) (shown_out x)

  pub fixed_are : (width : ℕ) (x : Slot) (bytes : _) → x ≡ slot.Bytes bytes → length bytes.now ≡ width
      → fixed_bytes width (value_in_slot under i x) ≡ bytes.now
  fixed_are width x bytes e size = ap (λ (y : Slot). fixed_bytes width (value_in_slot under i y)) e
      ∙ (fixed_is width (slot.Bytes bytes) ∙ of_size bytes.now (replicate width 0) width size)

  pub no_bytes : (width : ℕ) (x : Slot) → ((bytes : _) → x ≡ slot.Bytes bytes → length bytes.now ≡ width → ⊥)
      → fixed_bytes width (value_in_slot under i x) ≡ replicate width 0
  no_bytes width (slot.Bytes bytes) h =
      fixed_is width (slot.Bytes bytes) ∙ not_of_size bytes.now (replicate width 0) width (h bytes refl)
  no_bytes width slot.Null h = fixed_is width slot.Null
  no_bytes width (slot.Bool truth) h = fixed_is width (slot.Bool truth)
  no_bytes width (slot.Int number) h = fixed_is width (slot.Int number)
  no_bytes width (slot.UInt number) h = fixed_is width (slot.UInt number)
  no_bytes width (slot.Text bytes) h = fixed_is width (slot.Text bytes)
  no_bytes width (slot.List from to) h = fixed_is width (slot.List from to)
  no_bytes width slot.Struct h = fixed_is width slot.Struct

-- ---- the indices of values, of which null has none

-- a value has an index where it isn't null
pub valid_index : (known : Value → ℕ) (v : Value) → is_some (index_of known v) ≡ is_set Valid v
valid_index known v = by (known v) (out-Value v)
  where
    by : (i : ℕ) (o : Value-F Value) → is_some (index_unless_null i o) ≡ not (is_null o)
    by i Value-F.Null = refl
    by i o = refl

-- the index of one of them
pub index_at : (known : Value → ℕ) (vs : List Value) (i : ℕ) (o : Option ℕ) → i < length vs
    → get_or (indices_of known vs) i o ≡ index_of known (get_or vs i Null)
index_at known [] i o l = absurd (omega arith)
index_at known (v ∷ vs) zero o l = refl
index_at known (v ∷ vs) (suc i) o l = index_at known vs i o (omega arith)

pub indices_length : (known : Value → ℕ) (vs : List Value) → length (indices_of known vs) ≡ length vs
indices_length known [] = refl
indices_length known (v ∷ vs) = let more = indices_length known vs in omega (arith, more)

-- so that an index among them tells whether its value is null
pub flag_at : (known : Value → ℕ) (vs : List Value) (is : List (Option ℕ)) (i : ℕ) (o : Option ℕ) (flag : Bool) → is ≡ indices_of known vs
    → i < length is → flag ≡ is_some (get_or is i o) → (i < length vs) × (flag ≡ is_set Valid (get_or vs i Null))
flag_at known vs is i o flag same l e =
    let size = indices_length known vs in
    let all = ap (λ (os : List (Option ℕ)). length os) same in
    let inside : i < length vs = omega (arith, l, size, all) in (
      inside,
      e ∙ (ap (λ (os : List (Option ℕ)). is_some (get_or os i o)) same
          ∙ (ap is_some (index_at known vs i o inside) ∙ valid_index known (get_or vs i Null))),
    )

-- what so many indices take
pub data_indices : (bits : IntBits) (signed : Bool) (id : ℤ) (vs : List Value)
    → data_in (l.Indices bits signed id) vs ≡ number_bytes bits * length vs
data_indices bits signed id [] = omega arith
data_indices bits signed id (v ∷ vs) = let more = data_indices bits signed id vs in omega (arith, more)
