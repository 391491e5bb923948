-- Columns that are written give their rows back.
use Rattle.std.proofs.Common.{◌≡◌, ◌∙◌, refl, sym, ap, subst, ℕ, zero, suc, ◌+◌, ◌-◌, ◌*◌, ◌%◌, ◌^◌, ◌<◌, ◌≤◌, Bool, true, false, cond}
use Rattle.std.proofs.Common.{List, [], ◌∷◌, ◌++◌, length, take, drop, get_or, append_assoc, length-append, arith, inl, inr}
use Rattle.std.proofs.Common.{replicate}
use Rattle.std.proofs.Math.ListN.{get_or-append}
use Rattle.std.proofs.Math.Nat.{mul-le-mul_left}
use Rattle.std.proofs.lemmas.Bool.{cases_lt}
use Rattle.std.proofs.lemmas.Int.{ints}
use Rattle.std.proofs.lemmas.List.{get_or-append-add, length-take-le}
use Rattle.std.proofs.lemmas.List.Elements.{All-from_recursion}
use Rattle.std.proofs.lemmas.Option.{slice_get_within}
use Rattle.std.specs.List.{AllByRecursion}
use Rattle.std.specs.Prelude.{ℤ, not, pos, ◌≤ℤ◌, ⊤}
use Rattle.std.specs.Str.{IsUtf8}
use Rattle.ipc_model.specs.Entries.{entries}
use Rattle.ipc_model.specs.Fits.{RowFits}
use Rattle.ipc_model.specs.Layouts.{number_bytes}
use Rattle.ipc_model.specs.Ranges.{width}
use Rattle.ipc_model.specs.WellFormed.{IsFieldWellFormed}
use Rattle.ipc_model.specs.declared.layout.Layout.{Layout}
use Rattle.ipc_model.specs.declared.layout.Layout.TheVariants as l
use Rattle.ipc_model.specs.declared.limits.Limits.{Limits}
use Rattle.ipc_model.specs.declared.schema.Field.{Field}
use Rattle.ipc_model.specs.declared.value.Value.{Value, out-Value, roll-Value, roll-out-Value}
use Rattle.ipc_model.specs.declared.value.Value.TheOpen.{Value-F}
use Rattle.ipc_model.specs.declared.value.Value.TheVariants as v
use Rattle.ipc_column.specs.Columns.{Column, Columns, Each, EachTop}
use Rattle.ipc_column.specs.Dictionaries.{Dictionaries, values_for}
use Rattle.ipc_column.specs.Rows.{Rows}
use Rattle.ipc_column.specs.checks.Rules.{IsFieldNode, IsWithinBody, IsLongEnough, CountsNulls, HasOffsets, HasLongChildren, TextsAreUtf8}
use Rattle.ipc_column.specs.checks.Rules.{HasUtf8Texts}
use Rattle.ipc_scalar.specs.Bytes.{IsBelow}
use Rattle.ipc_column.specs.checks.Rules.{IndicesHaveValues, HoldsIndices}
use Rattle.ipc_column.specs.Shapes.{dictionary_of, Shape, bare, field, shape_of, node_at, buffer_at, field_columns}
use Rattle.ipc_column.specs.Values.{is_valid, offset_position, first_of, own_value, value_of, values_from as slots_from, row}
use Rattle.ipc_encode.specs.Buffers.{child_values, nodes_of, row_columns, row_nodes, row_buffers_with, ranges_from, body_with}
use Rattle.ipc_encode.specs.Cells.{is_null, is_true, bits_in, bytes_in, fixed_in, slots, offsets, items, items_in, all_items}
use Rattle.ipc_encode.specs.Cells.{struct_member, part_in, all_parts, fixed_items, fixed_items_in, all_fixed_items, is_set, cell, cells}
use Rattle.ipc_encode.specs.Cells.{extent, HasUtf8}
use Rattle.ipc_encode.specs.Columns.{validity_bytes, validity_in}
use Rattle.ipc_encode.specs.Indices.{InColumn, FindsIndex, InColumns, FindsRows}
use Rattle.ipc_encode.specs.Buffers.{SomeColumn}
use Rattle.ipc_encode.specs.Limits.{HasLongData, HasLongNode, IsWithin}
use Rattle.ipc_encode.specs.Numbers.{Numbering}
use Rattle.ipc_encode.specs.Pieces.{True, Number, Valid, Content}
use Rattle.ipc_encode.specs.Pieces as p
use Rattle.ipc_encode.specs.Writing.{AreStored, AllStored}
use Rattle.ipc_meta.specs.declared.head.BatchHead.{BatchHead}
use Rattle.ipc_encode.proofs.Bits.{bit_of}
use Rattle.ipc_encode.proofs.Cutting.{written, slots_written, nodes_length, buffers_length, cut_back}
use Rattle.ipc_encode.proofs.HeldValues.{across, across_is, ColumnsHeld, all_both, rows_held}
use Rattle.ipc_encode.proofs.Ranges.{buffer_back, ranges_length, ranges_inside}
use Rattle.ipc_encode.proofs.ReadbackParts.{column_of, written_values, Holds, AllHeld, held_at, valid_is, number_back, fixed_back}
use Rattle.ipc_encode.proofs.ReadbackParts.{between_is, IsShort, reach, reach_items, place_is, place_next, number_is, signed_is, found_at}
use Rattle.ipc_encode.proofs.ReadbackParts.{index_back, HasItsChild, reach_bytes, front_most, front_more, each_at, in_order}
use Rattle.ipc_encode.proofs.ReadbackParts.{column_nulls_most}
use Rattle.ipc_encode.proofs.ReadbackParts.{spelled, index_number, long_enough, counts_nulls, offsets_in}
use Rattle.ipc_encode.proofs.Steps.{all_fixed_length, cells_length, of_size}

-- ---- what is read back of the buffers of a column

-- ---- the values

back_to : (value : Value) (w : Value-F Value) → out-Value value ≡ w → roll-Value w ≡ value
back_to value w e = ap roll-Value (sym e) ∙ roll-out-Value value

null_is : (value : Value) → out-Value value ≡ Value-F.Null → v.Null ≡ value
null_is value e = sym v.rolls-Null ∙ back_to value Value-F.Null e

-- no value but null has its flag clear
null_from : (value : Value) (w : Value-F Value) → out-Value value ≡ w → is_null w ≡ true → v.Null ≡ value
null_from value Value-F.Null e h = null_is value e
null_from value _ e h = absurd (cc)

-- ---- the values of the children

-- the i-th value of each of so many columns
abbrev pub picked : ℕ → (ℕ → List Value) → ℕ → List Value
picked zero given i = []
picked (suc n) given i = get_or (given 0) i v.Null ∷ picked n (λ j. given (suc j)) i

-- in row i stand the i-th values of so many columns, where each has one
abbrev pub ArePicked : (ℕ → List Value) → ℕ → (ℕ → List Value) → Type 0
ArePicked rows n given = (i : ℕ) → ((j : ℕ) → i < length (given j)) → rows i ≡ picked n given i

-- a row's own cells are picked from its columns
pub picked_row : (cells : List Value) (given : ℕ → List Value) (i : ℕ)
    → ((j : ℕ) → get_or (given j) i v.Null ≡ get_or cells j v.Null) → picked (length cells) given i ≡ cells
picked_row [] given i same = refl
picked_row (c ∷ cs) given i same =
    let here = same 0 in
    let rest = picked_row cs (λ j. given (suc j)) i (λ j. same (suc j)) in
    λ q. here q ∷ rest q

-- a column of parts has a slot for each struct
pub parts_length : (j : ℕ) (vs : List Value) → length (all_parts j vs) ≡ length vs
parts_length j [] = refl
parts_length j (v ∷ vs) = ap (λ (k : ℕ). suc k) (parts_length j vs)

-- slot i of a column of parts is a part of struct i
part_at : (j : ℕ) (vs : List Value) (i : ℕ) → i < length vs → get_or (all_parts j vs) i v.Null ≡ struct_member j (get_or vs i v.Null)
part_at j [] i k = absurd (omega arith)
part_at j (v ∷ vs) zero k = refl
part_at j (v ∷ vs) (suc i) k = part_at j vs i (omega arith)

-- the parts of a struct are picked from the columns of parts
struct_is : (vs : List Value) (i n : ℕ) (parts : List Value) (rows : ℕ → List Value) → i < length vs
    → out-Value (get_or vs i v.Null) ≡ Value-F.Struct parts → length parts ≡ n → ArePicked rows n (λ j. all_parts j vs) → rows i ≡ parts
struct_is vs i n parts rows k e size picks =
    picks i (λ j. omega (arith, k, parts_length j vs))
    ∙ (ap (λ (m : ℕ). picked m (λ j. all_parts j vs) i) (sym size)
    ∙ picked_row parts (λ j. all_parts j vs) i (λ j. part_at j vs i k ∙ ap (λ (w : Value-F Value). part_in j w) e))

-- the items of all lists are those before list i, its own and those behind it
items_split : (vs : List Value) (i : ℕ) → i < length vs
    → all_items vs ≡ all_items (take i vs) ++ (items (get_or vs i v.Null) ++ all_items (drop (suc i) vs))
items_split [] i k = absurd (omega arith)
items_split (value ∷ vs) zero k = refl
items_split (value ∷ vs) (suc i) k =
    ap (λ (ws : List Value). items value ++ ws) (items_split vs i (omega arith))
    ∙ sym (append_assoc (items value) (all_items (take i vs)) (items (get_or vs i v.Null) ++ all_items (drop (suc i) vs)))

-- item m of some stands so far behind the items before them
item_in : (all front own more : List Value) (start m : ℕ) → all ≡ front ++ (own ++ more) → start ≡ length front → m < length own
    → (start + m < length all) × (get_or all (start + m) v.Null ≡ get_or own m v.Null)
item_in all front own more start m split before inside =
    let size : length all ≡ length (front ++ (own ++ more)) = ap (λ (ws : List Value). length ws) split in (
      omega (arith, before, size, inside, length-append front (own ++ more), length-append own more),
      ap (λ (ws : List Value). get_or ws (start + m) v.Null) split
          ∙ (ap (λ (at : ℕ). get_or (front ++ (own ++ more)) (at + m) v.Null) before
          ∙ (get_or-append-add front (own ++ more) m v.Null ∙ get_or-append own more v.Null m inside)),
    )

-- item m of list i stands so far behind the items of the lists before it
item_at : (vs : List Value) (i m : ℕ) → i < length vs → m < length (items (get_or vs i v.Null))
    → (reach p.Items (take i vs) + m < length (all_items vs))
    × (get_or (all_items vs) (reach p.Items (take i vs) + m) v.Null ≡ get_or (items (get_or vs i v.Null)) m v.Null)
item_at vs i m k inside =
    item_in (all_items vs) (all_items (take i vs)) (items (get_or vs i v.Null)) (all_items (drop (suc i) vs)) (reach p.Items (take i vs)) m
    (items_split vs i k) (reach_items (take i vs)) inside

-- values one after another are a list
listed : (value : ℕ → Value) (xs : List Value) (start : ℕ) → ((m : ℕ) → m < length xs → value (start + m) ≡ get_or xs m v.Null)
    → slots_from value start (length xs) ≡ xs
listed value [] start same = refl
listed value (x ∷ xs) start same =
    let here : value start ≡ x = ap value (let e : start ≡ start + 0 = omega arith in e) ∙ same 0 (omega arith) in
    let rest = listed value xs (start + 1)
    (λ m k. ap value (let e : start + 1 + m ≡ start + suc m = omega arith in e) ∙ same (suc m) (omega (arith, k))) in
    λ q. here q ∷ rest q

-- the items of a list are the values between its offsets
list_is : (vs : List Value) (i n : ℕ) (xs : List Value) (rows : ℕ → List Value) → i < length vs
    → out-Value (get_or vs i v.Null) ≡ Value-F.List xs → n ≡ 1 → reach p.Items vs ≤ 2 ^ 31 - 1 → ArePicked rows n (λ j. all_items vs)
    → slots_from (λ j. first_of (rows j)) (offset_position (offsets p.Items vs) i)
    (offset_position (offsets p.Items vs) (i + 1) - offset_position (offsets p.Items vs) i) ≡ xs
list_is vs i n xs rows k e one short picks =
    let start = reach p.Items (take i vs) in
    let own : items (get_or vs i v.Null) ≡ xs = ap items_in e in
    let from : offset_position (offsets p.Items vs) i ≡ start = place_is p.Items vs i (omega arith) short in
    let to = place_next p.Items vs i v.Null k short in
    let size : length (items (get_or vs i v.Null)) ≡ length xs = ap (λ (ws : List Value). length ws) own in
    let count : offset_position (offsets p.Items vs) (i + 1) - offset_position (offsets p.Items vs) i ≡ length xs =
    omega (arith, from, to, size) in
    ap (λ (at : ℕ). slots_from (λ j. first_of (rows j)) at (offset_position (offsets p.Items vs) (i + 1) - offset_position
    (offsets p.Items vs) i)) from
    ∙ (ap (λ (many : ℕ). slots_from (λ j. first_of (rows j)) start many) count
    ∙ listed (λ j. first_of (rows j)) xs start (λ m inside.
    let here = item_at vs i m k (omega (arith, inside, size)) in
    ap first_of (picks (start + m) (λ j. here.0) ∙ ap (λ (c : ℕ). picked c (λ j. all_items vs) (start + m)) one)
    ∙ (here.1 ∙ ap (λ (ws : List Value). get_or ws m v.Null) own)))

-- ---- lists of a fixed size

-- the first i lists give size * i items
fixed_front : (size : ℕ) (vs : List Value) (i : ℕ) → i ≤ length vs → length (all_fixed_items size (take i vs)) ≡ size * i
fixed_front size vs i k =
    all_fixed_length size (take i vs) ∙ ap (λ (n : ℕ). size * n) (length-take-le i vs k)

-- the items of all of them are those before list i, its own and those behind it
fixed_split : (size : ℕ) (vs : List Value) (i : ℕ) → i < length vs → all_fixed_items size vs
    ≡ all_fixed_items size (take i vs) ++ (fixed_items size (get_or vs i v.Null) ++ all_fixed_items size (drop (suc i) vs))
fixed_split size [] i k = absurd (omega arith)
fixed_split size (value ∷ vs) zero k = refl
fixed_split size (value ∷ vs) (suc i) k =
    ap (λ (ws : List Value). fixed_items size value ++ ws) (fixed_split size vs i (omega arith))
    ∙ sym (append_assoc (fixed_items size value) (all_fixed_items size (take i vs))
    (fixed_items size (get_or vs i v.Null) ++ all_fixed_items size (drop (suc i) vs)))

-- item m of list i stands so far behind the items of the lists before it
fixed_item_at : (size : ℕ) (vs : List Value) (i m : ℕ) → i < length vs
    → m < length (fixed_items size (get_or vs i v.Null)) → (size * i + m < length (all_fixed_items size vs))
    × (get_or (all_fixed_items size vs) (size * i + m) v.Null ≡ get_or (fixed_items size (get_or vs i v.Null)) m v.Null)
fixed_item_at size vs i m k inside =
    item_in (all_fixed_items size vs) (all_fixed_items size (take i vs)) (fixed_items size (get_or vs i v.Null))
    (all_fixed_items size (drop (suc i) vs)) (size * i) m (fixed_split size vs i k)
    (sym (fixed_front size vs i (omega arith))) inside

-- the items of a list of a fixed size are so many values from their place on
fixed_list_is : (size : ℕ) (vs : List Value) (i n : ℕ) (xs : List Value) (rows : ℕ → List Value) → i < length vs
    → out-Value (get_or vs i v.Null) ≡ Value-F.List xs → length xs ≡ size → n ≡ 1
    → ArePicked rows n (λ j. all_fixed_items size vs) → slots_from (λ j. first_of (rows j)) (size * i) size ≡ xs
fixed_list_is size vs i n xs rows k e count one picks =
    let own : fixed_items size (get_or vs i v.Null) ≡ xs =
    ap (λ (w : Value-F Value). fixed_items_in size w) e ∙ of_size xs (replicate size v.Null) size count in
    let many : length (fixed_items size (get_or vs i v.Null)) ≡ length xs = ap (λ (ws : List Value). length ws) own in
    ap (λ (c : ℕ). slots_from (λ j. first_of (rows j)) (size * i) c) (sym count)
    ∙ listed (λ j. first_of (rows j)) xs (size * i) (λ m inside.
    let here = fixed_item_at size vs i m k (omega (arith, inside, many)) in
    ap first_of (picks (size * i + m) (λ j. here.0) ∙ ap (λ (c : ℕ). picked c (λ j. all_fixed_items size vs) (size * i + m)) one)
    ∙ (here.1 ∙ ap (λ (ws : List Value). get_or ws m v.Null) own))

-- ---- the values of a column

-- what a slot holds is the value, unless it is null
own_is : (ds : Dictionaries) (known : Numbering) (rows : ℕ → List Value) (l : Layout) (n : ℕ) (vs : List Value) (i : ℕ) (w : Value-F Value)
    → i < length vs → AllHeld l n vs → IsShort l vs → ArePicked rows n (child_values l vs)
    → out-Value (get_or vs i v.Null) ≡ w → Holds l n w → is_null w ≡ false → InColumn (FindsIndex ds known) l vs
    → own_value l (dictionary_of ds l) rows (offsets_in l vs) (written_values known l vs) i ≡ get_or vs i v.Null
own_is ds known rows _ n vs i Value-F.Null k all short picks e h valid found = absurd (cc)
own_is ds known rows l.Bits n vs i (Value-F.Bool truth) k all short picks e h valid found =
    ap (λ (b : Bool). v.Bool b) (bit_of True vs i v.Null k ∙ ap is_true e)
    ∙ (sym (v.rolls-Bool truth) ∙ back_to (get_or vs i v.Null) (Value-F.Bool truth) e)
own_is ds known rows (l.Numbers bits true) n vs i (Value-F.Int z) k all short picks e h valid found =
    ap (λ (m : ℤ). v.Int m) (signed_is bits (slots (Number bits) vs) (number_bytes bits * i) z h
    (number_back bits vs i v.Null k ∙ ap (λ (x : Value-F Value). bits_in x % 256 ^ number_bytes bits) e))
    ∙ (sym (v.rolls-Int z) ∙ back_to (get_or vs i v.Null) (Value-F.Int z) e)
own_is ds known rows (l.Numbers bits false) n vs i (Value-F.UInt number) k all short picks e h valid found =
    ap (λ (m : ℕ). v.UInt m) (number_back bits vs i v.Null k
    ∙ (ap (λ (x : Value-F Value). bits_in x % 256 ^ number_bytes bits) e ∙ number_is bits number h))
    ∙ (sym (v.rolls-UInt number) ∙ back_to (get_or vs i v.Null) (Value-F.UInt number) e)
own_is ds known rows (l.FixedBytes size) n vs i (Value-F.Bytes bytes) k all short picks e h valid found =
    ap (λ (b : List ℕ). v.Bytes b) (fixed_back size vs i v.Null k
    ∙ (ap (λ (x : Value-F Value). fixed_in size x) e ∙ of_size bytes (replicate size 0) size h))
    ∙ (sym (v.rolls-Bytes bytes) ∙ back_to (get_or vs i v.Null) (Value-F.Bytes bytes) e)
own_is ds known rows (l.VariableBytes false) n vs i (Value-F.Bytes bytes) k all short picks e h valid found =
    ap (λ (b : List ℕ). v.Bytes b) (between_is vs i v.Null k short ∙ ap bytes_in e)
    ∙ (sym (v.rolls-Bytes bytes) ∙ back_to (get_or vs i v.Null) (Value-F.Bytes bytes) e)
own_is ds known rows (l.VariableBytes true) n vs i (Value-F.Text text) k all short picks e h valid found =
    ap (λ (b : List ℕ). v.Text b) (between_is vs i v.Null k short ∙ ap bytes_in e)
    ∙ (sym (v.rolls-Text text) ∙ back_to (get_or vs i v.Null) (Value-F.Text text) e)
own_is ds known rows l.Lists n vs i (Value-F.List xs) k all short picks e h valid found =
    ap (λ (ws : List Value). v.List ws) (list_is vs i n xs rows k e h short picks)
    ∙ (sym (v.rolls-List xs) ∙ back_to (get_or vs i v.Null) (Value-F.List xs) e)
own_is ds known rows (l.FixedLists size) n vs i (Value-F.List xs) k all short picks e h valid found =
    ap (λ (ws : List Value). v.List ws) (fixed_list_is size vs i n xs rows k e h.0 h.1 picks)
    ∙ (sym (v.rolls-List xs) ∙ back_to (get_or vs i v.Null) (Value-F.List xs) e)
own_is ds known rows l.Structs n vs i (Value-F.Struct parts) k all short picks e h valid found =
    ap (λ (ws : List Value). v.Struct ws) (struct_is vs i n parts rows k e h picks)
    ∙ (sym (v.rolls-Struct parts) ∙ back_to (get_or vs i v.Null) (Value-F.Struct parts) e)
own_is ds known rows l.Null n vs i _ k all short picks e h valid found = absurd h
own_is ds known rows (l.Indices bits signed id) n vs i w k all short picks e h valid found =
    index_back ds known bits signed id vs i w k e valid (found_at (FindsIndex ds known) bits signed id vs i k found)
own_is ds known rows l.Lists n vs i _ k all short picks e h valid found = absurd h
own_is ds known rows (l.FixedLists size) n vs i _ k all short picks e h valid found = absurd h
own_is ds known rows l.Structs n vs i _ k all short picks e h valid found = absurd h
own_is ds known rows l.Bits n vs i _ k all short picks e h valid found = absurd h
own_is ds known rows (l.Numbers bits true) n vs i _ k all short picks e h valid found = absurd h
own_is ds known rows (l.Numbers bits false) n vs i _ k all short picks e h valid found = absurd h
own_is ds known rows (l.FixedBytes size) n vs i _ k all short picks e h valid found = absurd h
own_is ds known rows (l.VariableBytes false) n vs i _ k all short picks e h valid found = absurd h
own_is ds known rows (l.VariableBytes true) n vs i _ k all short picks e h valid found = absurd h

-- slot i holds value i
slot_is : (ds : Dictionaries) (known : Numbering) (rows : ℕ → List Value) (l : Layout) (n : ℕ) (vs : List Value) (i : ℕ) → i < length vs
    → AllHeld l n vs → IsShort l vs → ArePicked rows n (child_values l vs) → InColumn (FindsIndex ds known) l vs → validity_in l vs
    ≡ validity_bytes vs
    → value_of rows (column_of ds known l vs) i ≡ get_or vs i v.Null
slot_is ds known rows lay n vs i k all short picks found same =
    let own = own_value lay (dictionary_of ds lay) rows (offsets_in lay vs) (written_values known lay vs) i in
    subst (λ (b : Bool). cond b own v.Null ≡ get_or vs i v.Null)
    (sym (ap (λ (bytes : List ℕ). is_valid bytes i) same ∙ valid_is vs i v.Null k))
    (by_null (is_null (out-Value (get_or vs i v.Null))) refl)
  where
    by_null : (b : Bool) → is_null (out-Value (get_or vs i v.Null)) ≡ b
        → cond (not b) (own_value lay (dictionary_of ds lay) rows (offsets_in lay vs) (written_values known lay vs) i) v.Null
        ≡ get_or vs i v.Null
    by_null true e = null_from (get_or vs i v.Null) (out-Value (get_or vs i v.Null)) refl e
    by_null false e =
        own_is ds known rows lay n vs i (out-Value (get_or vs i v.Null)) k all short picks refl (held_at lay n vs i v.Null all k) e found

null_held : (n : ℕ) (value : Value) (w : Value-F Value) → out-Value value ≡ w → Holds l.Null n w → v.Null ≡ value
null_held n value Value-F.Null e h = null_is value e
null_held n value _ e h = absurd h

-- slot i of a column that was written has the i-th of its values
pub value_is : (ds : Dictionaries) (known : Numbering) (rows : ℕ → List Value) (l : Layout) (n : ℕ) (vs : List Value) (i : ℕ)
    → i < length vs → AllHeld l n vs → IsShort l vs → ArePicked rows n (child_values l vs) → InColumn (FindsIndex ds known) l vs
    → value_of rows (column_of ds known l vs) i ≡ get_or vs i v.Null
value_is ds known rows l.Null n vs i k all short picks found =
    null_held n (get_or vs i v.Null) (out-Value (get_or vs i v.Null)) refl (held_at l.Null n vs i v.Null all k)
value_is ds known rows (l.Indices bits signed id) n vs i k all short picks found =
    slot_is ds known rows (l.Indices bits signed id) n vs i k all short picks found refl
value_is ds known rows l.Lists n vs i k all short picks found = slot_is ds known rows l.Lists n vs i k all short picks found refl
value_is ds known rows l.Structs n vs i k all short picks found = slot_is ds known rows l.Structs n vs i k all short picks found refl
value_is ds known rows (l.FixedLists size) n vs i k all short picks found =
    slot_is ds known rows (l.FixedLists size) n vs i k all short picks found refl
value_is ds known rows l.Bits n vs i k all short picks found = slot_is ds known rows l.Bits n vs i k all short picks found refl
value_is ds known rows (l.Numbers bits signed) n vs i k all short picks found =
    slot_is ds known rows (l.Numbers bits signed) n vs i k all short picks found refl
value_is ds known rows (l.FixedBytes width) n vs i k all short picks found =
    slot_is ds known rows (l.FixedBytes width) n vs i k all short picks found refl
value_is ds known rows (l.VariableBytes utf8) n vs i k all short picks found =
    slot_is ds known rows (l.VariableBytes utf8) n vs i k all short picks found refl

-- ---- the parts of rows give the rows back

-- ---- what is known of the columns

-- what is known of a column with so many children, where a column may have so many slots
record IsGood (ds : Dictionaries) (known : Numbering) (most : ℕ) (l : Layout) (n : ℕ) (vs : List Value) : Type 0 where
  pub child : HasItsChild l n
  pub held : AllHeld l n vs
  pub short : IsShort l vs
  pub few : length vs ≤ most
  pub stores : AreStored l vs
  pub finds : InColumn (FindsIndex ds known) l vs

-- the same of each column, and of each below it
abbrev AllGood : Dictionaries → Numbering → ℕ → Shape → (ℕ → List Value) → Type 0
AllGood ds known most bare given = ⊤
AllGood ds known most (field l children rest) given = IsGood ds known most l (across children) (given 0)
    × (AllGood ds known most children (child_values l (given 0)) × AllGood ds known most rest (λ j. given (suc j)))

not_above : (n most : ℕ) → ((most < n) → ⊥) → n ≤ most
not_above n most h = elim (cases_lt most n) as (λ _. n ≤ most) [ inl x ↦ absurd (h x) | inr g ↦ omega (arith, g) ]

-- a list stands only where there is a child
no_items : (vs : List Value) → AllHeld l.Lists 0 vs → reach p.Items vs ≡ 0
no_items [] h = refl
no_items (value ∷ vs) h =
    let first = none_in value (out-Value value) refl h.0 in
    let rest = no_items vs h.1 in
    omega (arith, first, rest)
  where
    none_in : (x : Value) (w : Value-F Value) → out-Value x ≡ w → Holds l.Lists 0 w → extent p.Items x ≡ 0
    none_in x Value-F.Null e h = rw e refl
    none_in x (Value-F.List values) e h = absurd (omega (arith, h))
    none_in x _ e h = absurd h

short_is : (most : ℕ) (l : Layout) (children : Shape) (vs : List Value) → most ≤ 2 ^ 31 - 1 → AllHeld l (across children) vs
    → ¬ HasLongData l vs → ¬ HasLongNode most children (child_values l vs) → IsShort l vs
short_is most (l.VariableBytes utf8) children vs m held short few =
    let size = reach_bytes vs in
    let within : length (slots Content vs) ≤ 2 ^ 31 - 1 = not_above (length (slots Content vs)) (2 ^ 31 - 1) short in
    omega (arith, size, within)
short_is most l.Lists bare vs m held short few = let none = no_items vs held in omega (arith, none)
short_is most l.Lists (field l children rest) vs m held short few =
    let size = reach_items vs in
    let within : length (all_items vs) ≤ most = not_above (length (all_items vs)) most (λ x. few (inl x)) in
    omega (arith, size, within, m)
short_is most _ children vs m held short few = tt

goods : (ds : Dictionaries) (known : Numbering) (most : ℕ) (s : Shape) (given : ℕ → List Value) → most ≤ 2 ^ 31 - 1 → ColumnsHeld s given
    → AllStored s given → InColumns (FindsIndex ds known) s given
    → ¬ SomeColumn HasLongData s given → ¬ HasLongNode most s given → AllGood ds known most s given
goods ds known most bare given m held stores found short few = tt
goods ds known most (field l children rest) given m held stores found short few = (
  record {
    child = held.0.0;
    held = held.0.1;
    short = short_is most l children (given 0) m held.0.1 (λ x. short (inl x)) (λ x. few (inr (inl x)));
    few = not_above (length (given 0)) most (λ x. few (inl x));
    stores = stores.0;
    finds = found.0;
  },
  (
    goods ds known most children (child_values l (given 0)) m held.1.0 stores.1.0 found.1.0 (λ x. short (inr (inl x)))
        (λ x. few (inr (inl x))),
    goods ds known most rest (λ j. given (suc j)) m held.1.1 stores.1.1 found.1.1 (λ x. short (inr (inr x))) (λ x. few (inr (inr x))),
  ),
)

-- ---- the facts of each column

-- what holds of a column and the columns of its children, where good values are written
abbrev OfGood : Dictionaries → Numbering → ℕ → (Column → Columns → Type 0) → Type 0
OfGood ds known most P = (l : Layout) (children : Shape) (vs : List Value) → IsGood ds known most l (across children) vs
    → P (column_of ds known l vs) (written ds known children (child_values l vs))

each_written : (ds : Dictionaries) (known : Numbering) (most : ℕ) (P : Column → Columns → Type 0) → OfGood ds known most P
    → (s : Shape) (given : ℕ → List Value) → AllGood ds known most s given
    → Each P (written ds known s given)
each_written ds known most P p bare given g = tt
each_written ds known most P p (field l children rest) given g = (
  p l children (given 0) g.0,
  (
    each_written ds known most P p children (child_values l (given 0)) g.1.0,
    each_written ds known most P p rest (λ j. given (suc j))
        g.1.1,
  ),
)

long_children : (ds : Dictionaries) (known : Numbering) (l : Layout) (children : Shape) (vs : List Value)
    → HasItsChild l (across children) → AllHeld l (across children) vs
    → HasLongChildren l (length vs) (written ds known children (child_values l vs))
long_children ds known l.Structs children vs child held =
    slots_written ds known (λ n. length vs ≤ n) children (child_values l.Structs vs) (λ j. omega (arith, parts_length j vs))
long_children ds known (l.FixedLists size) bare vs child held = absurd (omega (arith, child))
long_children ds known (l.FixedLists size) (field first inner rest) vs child held =
    let children = field first inner rest in
    let many = all_fixed_length size vs in
    slots_written ds known (λ n. size * length vs ≤ n) children (child_values (l.FixedLists size) vs) (λ j. omega (arith, many))
long_children ds known _ children vs child held = tt

ordered : (ds : Dictionaries) (known : Numbering) (l : Layout) (children : Shape) (vs : List Value) → IsShort l vs
    → HasOffsets l (length vs) (offsets_in l vs) (length (written_values known l vs)) (written ds known children (child_values l vs))
ordered ds known (l.VariableBytes utf8) children vs short = λ some.
    in_order p.Bytes vs (λ end. end ≤ℤ pos (length (slots Content vs))) short (omega (arith, ints, reach_bytes vs))
ordered ds known l.Lists children vs short = λ some.
    in_order p.Items vs (λ end. EachTop (λ c. end ≤ℤ pos c.slots) (written ds known children (child_values l.Lists vs))) short
    (slots_written ds known (λ n. pos (reach p.Items vs) ≤ℤ pos n) children (child_values l.Lists vs)
    (λ j. omega (arith, ints, reach_items vs)))
ordered ds known _ children vs short = tt

-- ---- texts

-- what a slot holds is UTF-8 where it is valid, and where what its children hold is
text_is : (ds : Dictionaries) (known : Numbering) (most : ℕ) (l : Layout) (n : ℕ) (vs : List Value) (i : ℕ) (under : ℕ → Type 0)
    → IsGood ds known most l n vs → i < length vs
    → is_valid (validity_in l vs) i ≡ true → ((k : ℕ) → ((j : ℕ) → k < length (child_values l vs j)) → under k)
    → TextsAreUtf8 l under (offsets_in l vs) (written_values known l vs) i
text_is ds known most (l.VariableBytes true) n vs i under g k valid more =
    let value = get_or vs i v.Null in
    let own = held_at (l.VariableBytes true) n vs i v.Null g.held k in
    let text = each_at HasUtf8 vs i v.Null g.stores k in
    subst IsUtf8 (sym (between_is vs i v.Null k g.short))
    (spelled n (out-Value value) value refl own text (sym (valid_is vs i v.Null k) ∙ valid))
text_is ds known most (l.VariableBytes false) n vs i under g k valid more = tt
text_is ds known most l.Lists n vs i under g k valid more = λ j from to.
    let next = place_next p.Items vs i v.Null k g.short in
    let within : offset_position (offsets_in l.Lists vs) (i + 1) ≤ reach p.Items vs =
    let most = front_most p.Items vs (suc i) in let sum = front_more p.Items vs i v.Null k in omega (arith, next, most, sum) in
    more j (λ c. omega (arith, to, within, reach_items vs))
text_is ds known most (l.FixedLists size) n vs i under g k valid more = λ j from to.
    let many = all_fixed_length size vs in
    let within : size * (i + 1) ≤ size * length vs = mul-le-mul_left size (omega (arith, k)) in
    more j (λ c. omega (arith, to, within, many))
text_is ds known most l.Structs n vs i under g k valid more = more i (λ j. omega (arith, k, parts_length j vs))
text_is ds known most _ n vs i under g k valid more = tt

spelled_written : (ds : Dictionaries) (known : Numbering) (most : ℕ) (s : Shape) (given : ℕ → List Value)
    → AllGood ds known most s given → (i : ℕ) → ((j : ℕ) → i < length (given j))
    → HasUtf8Texts (written ds known s given) i
spelled_written ds known most bare given g i k = tt
spelled_written ds known most (field l children rest) given g i k = (
  λ valid. text_is ds known most l (across children) (given 0) i (HasUtf8Texts (written ds known children (child_values l (given 0)))) g.0
      (k 0) valid
      (λ m inside. spelled_written ds known most children (child_values l (given 0)) g.1.0 m inside),
  spelled_written ds known most rest (λ j. given (suc j)) g.1.1 i (λ j. k (suc j)),
)

-- ---- indices

-- what is not null has its flag clear
not_null : (b : Bool) → not b ≡ true → b ≡ false
not_null true h = absurd (cc)
not_null false h = refl

-- what a slot holds is an index of a value where it is valid, and where what its children hold is
index_is : (ds : Dictionaries) (known : Numbering) (most : ℕ) (l : Layout) (n : ℕ) (vs : List Value) (i : ℕ) (under : ℕ → Type 0)
    → IsGood ds known most l n vs → i < length vs
    → is_valid (validity_in l vs) i ≡ true → ((k : ℕ) → ((j : ℕ) → k < length (child_values l vs j)) → under k)
    → IndicesHaveValues l (dictionary_of ds l) under (offsets_in l vs) (written_values known l vs) i
index_is ds known most (l.Indices bits signed id) n vs i under g k valid more =
    let value = get_or vs i v.Null in
    let flag : is_set Valid value ≡ true = sym (valid_is vs i v.Null k) ∙ valid in
    let here = found_at (FindsIndex ds known) bits signed id vs i k g.finds flag in
    let there = slice_get_within (values_for ds id) (known id value) value here.value_is in
    subst (λ (z : ℤ). IsBelow (length (values_for ds id)) z)
    (sym (index_number (known id) bits signed vs i (out-Value value) k refl (not_null (is_null (out-Value value)) flag) here.within))
    (omega (arith, ints), omega (arith, ints, there))
index_is ds known most l.Lists n vs i under g k valid more = λ j from to.
    let next = place_next p.Items vs i v.Null k g.short in
    let within : offset_position (offsets_in l.Lists vs) (i + 1) ≤ reach p.Items vs =
    let most = front_most p.Items vs (suc i) in let sum = front_more p.Items vs i v.Null k in omega (arith, next, most, sum) in
    more j (λ c. omega (arith, to, within, reach_items vs))
index_is ds known most (l.FixedLists size) n vs i under g k valid more = λ j from to.
    let many = all_fixed_length size vs in
    let within : size * (i + 1) ≤ size * length vs = mul-le-mul_left size (omega (arith, k)) in
    more j (λ c. omega (arith, to, within, many))
index_is ds known most l.Structs n vs i under g k valid more = more i (λ j. omega (arith, k, parts_length j vs))
index_is ds known most _ n vs i under g k valid more = tt

indices_written : (ds : Dictionaries) (known : Numbering) (most : ℕ) (s : Shape) (given : ℕ → List Value)
    → AllGood ds known most s given → (i : ℕ) → ((j : ℕ) → i < length (given j))
    → HoldsIndices (written ds known s given) i
indices_written ds known most bare given g i k = tt
indices_written ds known most (field l children rest) given g i k = (
  λ valid. index_is ds known most l (across children) (given 0) i (HoldsIndices (written ds known children (child_values l (given 0)))) g.0
      (k 0) valid
      (λ m inside. indices_written ds known most children (child_values l (given 0)) g.1.0 m inside),
  indices_written ds known most rest (λ j. given (suc j)) g.1.1 i (λ j. k (suc j)),
)

-- ---- nodes

are_nodes : (ds : Dictionaries) (known : Numbering) (limits : Limits) (s : Shape) (given : ℕ → List Value)
    → AllGood ds known limits.slots s given
    → AllByRecursion (IsFieldNode limits) (nodes_of s given)
are_nodes ds known limits bare given g = tt
are_nodes ds known limits (field l children rest) given g =
    let few = g.0.few in
    let most = column_nulls_most l (given 0) in (
      record {
        slots = record { from = omega (arith, ints); to = omega (arith, ints, few) };
        nulls_from = omega (arith, ints);
        nulls_to = omega (arith, ints, most);
      },
      all_both (IsFieldNode limits) (nodes_of children (child_values l (given 0))) (nodes_of rest (λ j. given (suc j)))
          (are_nodes ds known limits children (child_values l (given 0)) g.1.0) (are_nodes ds known limits rest (λ j. given (suc j)) g.1.1),
    )

-- ---- the rows

-- the i-th row of the columns is the i-th of their values
row_back : (ds : Dictionaries) (known : Numbering) (most : ℕ) (s : Shape) (given : ℕ → List Value) → AllGood ds known most s given
    → (i : ℕ) → ((j : ℕ) → i < length (given j))
    → row (written ds known s given) i ≡ picked (across s) given i
row_back ds known most bare given g i k = refl
row_back ds known most (field l children rest) given g i k =
    let here = value_is ds known (row (written ds known children (child_values l (given 0)))) l (across children) (given 0) i (k 0) g.0.held
    g.0.short
    (λ m inside. row_back ds known most children (child_values l (given 0)) g.1.0 m inside) g.0.finds in
    let others = row_back ds known most rest (λ j. given (suc j)) g.1.1 i (λ j. k (suc j)) in
    λ q. here q ∷ others q

cell_at : (j : ℕ) (rows : List (List Value)) (i : ℕ) → i < length rows → get_or (cells j rows) i v.Null ≡ cell j (get_or rows i [])
cell_at j [] i k = absurd (omega arith)
cell_at j (row ∷ rows) zero k = refl
cell_at j (row ∷ rows) (suc i) k = cell_at j rows i (omega arith)

width_at : (fs : List Field) (rows : List (List Value)) (i : ℕ) → AllByRecursion (RowFits fs) rows → i < length rows
    → length (get_or rows i []) ≡ length fs
width_at fs [] i h k = absurd (omega arith)
width_at fs (row ∷ rows) zero h k = h.0.0
width_at fs (row ∷ rows) (suc i) h k = width_at fs rows i h.1 (omega arith)

rows_picked : (fs : List Field) (rows : List (List Value)) (i : ℕ) → AllByRecursion (RowFits fs) rows → i < length rows
    → picked (across (shape_of fs)) (row_columns rows) i ≡ get_or rows i []
rows_picked fs rows i fits k =
    ap (λ (n : ℕ). picked n (row_columns rows) i) (across_is fs ∙ sym (width_at fs rows i fits k))
    ∙ picked_row (get_or rows i []) (row_columns rows) i (λ j. cell_at j rows i k)

abbrev head_of : Numbering → List Field → List (List Value) → BatchHead
head_of known fields rows = record {
  length = pos (length rows);
  nodes = row_nodes fields rows;
  buffers = ranges_from 0 (row_buffers_with known fields rows);
}

-- the parts that rows are written as give the rows
pub rows_back : {limits : Limits} → (ds : Dictionaries) (known : Numbering) (fields : List Field) (rows : List (List Value))
    → AllByRecursion (IsFieldWellFormed limits) (entries fields) → AllByRecursion (RowFits fields) rows → IsWithin limits fields rows
    → AllStored (shape_of fields) (row_columns rows) → FindsRows ds known fields rows
    → Rows limits ds fields (head_of known fields rows) (body_with known fields rows) rows
rows_back {limits} ds known fields rows fine fits within stores found =
    let head = head_of known fields rows in
    let body = body_with known fields rows in
    let s = shape_of fields in
    let given = row_columns rows in
    let most = limits.slots in
    let few : length rows ≤ limits.slots = not_above (length rows) limits.slots (λ x. within.few (inl x)) in
    let good = goods ds known most s given limits.slots_fit (rows_held limits fields rows fine fits) stores found
    (λ x. within.short (inl x))
    (λ x. within.few (inr (inl x))) in
    let e : field_columns ds fields head body ≡ written ds known s given =
    cut_back ds known s given head body 0 0
    (λ k h. ap (λ (q : ℕ). node_at head q) (let z : 0 + k ≡ k = omega arith in z))
    (λ k h. ap (λ (q : ℕ). buffer_at head body q) (let z : 0 + k ≡ k = omega arith in z)
    ∙ buffer_back (row_buffers_with known fields rows) [] k h) in
    let inside : (i : ℕ) → i < length rows → (j : ℕ) → i < length (row_columns rows j) = λ i k j. omega (arith, k, cells_length j rows) in
    record {
      nodes = nodes_length s given;
      buffers = ranges_length (row_buffers_with known fields rows) 0 ∙ buffers_length known s given;
      lengths = record {
        batch = record { from = omega (arith, ints); to = omega (arith, ints, few) };
        nodes = All-from_recursion (IsFieldNode limits) (row_nodes fields rows) (are_nodes ds known limits s given good);
        columns = subst (λ (cs : Columns). EachTop (λ c. pos c.slots ≡ pos (length rows)) cs) (sym e)
            (slots_written ds known (λ n. pos n ≡ pos (length rows)) s given (λ j. ap (λ (n : ℕ). pos n) (cells_length j rows)));
        children = subst (λ (cs : Columns). Each (λ c children. HasLongChildren c.layout c.slots children) cs) (sym e)
            (each_written ds known most (λ c children. HasLongChildren c.layout c.slots children)
            (λ l children vs g. long_children ds known l children vs g.child g.held) s given good);
      };
      ranges = All-from_recursion (IsWithinBody (length body)) (ranges_from 0 (row_buffers_with known fields rows))
          (ranges_inside (row_buffers_with known fields rows) 0 (length body) (omega arith));
      bytes = subst (λ (cs : Columns). Each (λ c children. IsLongEnough c) cs) (sym e)
          (each_written ds known most (λ c children. IsLongEnough c)
          (λ l children vs g. long_enough ds known l (across children) vs g.held) s given good);
      null_counts = subst (λ (cs : Columns). Each (λ c children. CountsNulls c) cs) (sym e)
          (each_written ds known most (λ c children. CountsNulls c)
          (λ l children vs g. counts_nulls ds known l (across children) vs g.held) s given good);
      order = subst (λ (cs : Columns). Each (λ c children. HasOffsets c.layout c.slots c.offsets (length c.values) children) cs) (sym e)
          (each_written ds known most (λ c children. HasOffsets c.layout c.slots c.offsets (length c.values) children)
          (λ l children vs g. ordered ds known l children vs g.short) s given good);
      texts = λ i k. subst (λ (cs : Columns). HasUtf8Texts cs i) (sym e) (spelled_written ds known most s given good i (inside i k));
      indices = λ i k. subst (λ (cs : Columns). HoldsIndices cs i) (sym e) (indices_written ds known most s given good i (inside i k));
      count = refl;
      values = λ i k. sym (ap (λ (cs : Columns). row cs i) e
          ∙ (row_back ds known most s given good i (inside i k) ∙ rows_picked fields rows i fits k));
    }

-- the same of any parts that are these lists
pub rows_of_parts : {limits : Limits}
    → (ds : Dictionaries) (known : Numbering) (fields : List Field) (rows : List (List Value)) (nodes buffers : List (ℤ × ℤ))
    (body : List ℕ)
    → AllByRecursion (IsFieldWellFormed limits) (entries fields) → AllByRecursion (RowFits fields) rows
    → IsWithin limits fields rows
    → AllStored (shape_of fields) (row_columns rows) → FindsRows ds known fields rows → nodes ≡ row_nodes fields rows → buffers ≡
    ranges_from 0 (row_buffers_with known fields rows)
    → body ≡ body_with known fields rows
    → Rows limits ds fields (record { length = pos (length rows); nodes = nodes; buffers = buffers }) body rows
rows_of_parts {limits} ds known fields rows nodes buffers body fine fits within stores found n r b =
    subst (λ (bytes : List ℕ). Rows limits ds fields (record {
      length = pos (length rows);
      nodes = nodes;
      buffers =
          buffers;
    }) bytes rows) (sym b)
    (subst (λ (head : BatchHead). Rows limits ds fields head (body_with known fields rows) rows)
    (λ i. record { length = pos (length rows); nodes = (sym n) i; buffers = (sym r) i })
    (rows_back ds known fields rows fine fits within stores found))
