-- The rules of `Rules` as tests that compute, one for each cause that is returned when a test fails
-- (Arrow Columnar Format, "Physical Memory Layout").
use Rattle.std.specs.Prelude.{◌≡◌, ⊤, ℕ, zero, suc, ◌+◌, ◌-◌, ◌*◌, ◌/◌, ◌<◌, ◌≤◌, Bool, true}
use Rattle.std.specs.Prelude.{false, ◌&&◌, ◌||◌, not, ◌==◌, nat_le, ℤ, pos, is_some, int_le}
use Rattle.std.specs.Prelude.{unsigned_abs}
use Rattle.std.specs.Prelude.{List, [], ◌∷◌, length, if◌then◌else◌, Result, Ok, Err}
use Rattle.std.specs.Str.{is_utf8, IsCharBoundary}
use Rattle.ipc_scalar.specs.Bytes.{clear}
use Rattle.ipc_model.specs.declared.fault.Fault.{Fault}
use Rattle.ipc_model.specs.declared.fault.Fault.TheVariants as fault
use Rattle.ipc_meta.specs.declared.head.BatchHead.{BatchHead}
use Rattle.ipc_model.specs.declared.layout.Layout.{Layout}
use Rattle.ipc_model.specs.declared.layout.Layout.TheVariants as l
use Rattle.ipc_model.specs.Layouts.{number_bytes, has_validity}
use Rattle.ipc_column.specs.Columns.{Column, Columns, none, column, every, every_top}
use Rattle.ipc_column.specs.Shapes.{Shape, node_count, buffer_count, assigned_columns}
use Rattle.ipc_column.specs.Values.{rows_of, offset, offset_position, between, is_valid, number_in}
use Rattle.ipc_column.specs.Values.{place_below}
use Rattle.ipc_column.specs.Dictionaries.{Dictionaries}
use Rattle.ipc_model.specs.declared.schema.IntBits.{IntBits}
use Rattle.ipc_model.specs.declared.value.Value.{Value}
use Rattle.ipc_model.specs.declared.limits.Limits.{Limits}

-- the result of a family of tests, one for each cause: with Ok all hold; a cause is returned only
-- if its own test fails
abbrev pub Judges : {X : Type 0} → Result X Fault → (Fault → Bool) → Type 0
Judges (Ok x) test = (c : Fault) → test c ≡ true
Judges (Err c) test = test c ≡ false

-- the test holds for each item
abbrev pub all : {X : Type 0} → (X → Bool) → List X → Bool
all f [] = true
all f (x ∷ xs) = f x && all f xs

-- the test holds for each number below n
abbrev pub all_below : (ℕ → Bool) → ℕ → Bool
all_below f zero = true
all_below f (suc n) = all_below f n && f n

-- a number of slots is from 0 up to the limit
abbrev pub is_slot_count : Limits → ℤ → Bool
is_slot_count limits count = int_le (pos 0) count && int_le count (pos limits.slots)

-- a node, a length and a null count, is within its bounds
abbrev pub is_node : Limits → ℤ × ℤ → Bool
is_node limits node = is_slot_count limits node.0 && (int_le (pos 0) node.1 && int_le node.1 node.0)

-- a range, an offset and a length, is not negative; unless it is empty, it ends within `size` bytes
abbrev pub is_within_body : ℕ → ℤ × ℤ → Bool
is_within_body size range = int_le (pos 0) range.0
    && (int_le (pos 0) range.1 &&
    (unsigned_abs range.1 == 0 || nat_le (unsigned_abs range.0 + unsigned_abs range.1) size))

-- the test of a batch's head for this cause; the head has none for other causes
abbrev pub head_passes : Limits → Fault → Shape → BatchHead → ℕ → Bool
head_passes limits fault.WrongNodeCount shape head size = length head.nodes == node_count shape
head_passes limits fault.WrongBufferCount shape head size =
    length head.buffers == buffer_count shape
head_passes limits fault.BadNode shape head size = is_slot_count limits head.length
    && all (is_node limits) head.nodes
head_passes limits fault.BufferOutOfBody shape head size = all (is_within_body size) head.buffers
head_passes limits _ shape head size = true

-- the head has exactly the nodes and buffers that the fields need
pub record CountsHold (limits : Limits) (shape : Shape) (head : BatchHead) (size : ℕ) : Type 0 where
  pub nodes : head_passes limits fault.WrongNodeCount shape head size ≡ true
  pub buffers : head_passes limits fault.WrongBufferCount shape head size ≡ true

-- for a bad node or a bad range, the counts of nodes and buffers hold; nothing is stated for other
-- causes
abbrev pub AreCountsRight : Limits → Fault → Shape → BatchHead → ℕ → Type 0
AreCountsRight limits fault.BadNode shape head size = CountsHold limits shape head size
AreCountsRight limits fault.BufferOutOfBody shape head size = CountsHold limits shape head size
AreCountsRight limits _ shape head size = ⊤

-- a bitmap of this many bytes has n bits, or is absent
abbrev pub has_bitmap : ℕ → ℕ → Bool
has_bitmap n bytes = bytes == 0 || nat_le ((n + 7) / 8) bytes

-- this many bytes hold the values of n slots
abbrev pub holds_values : Layout → ℕ → ℕ → Bool
holds_values l.Bits n bytes = nat_le ((n + 7) / 8) bytes
holds_values (l.Numbers bits signed) n bytes = nat_le (number_bytes bits * n) bytes
holds_values (l.FixedBytes width) n bytes = nat_le (width * n) bytes
holds_values (l.Indices bits signed id) n bytes = nat_le (number_bytes bits * n) bytes
holds_values _ n bytes = true

-- this many bytes hold the offsets of n slots
abbrev pub holds_offsets : Layout → ℕ → ℕ → Bool
holds_offsets (l.VariableBytes utf8) n bytes = n == 0 || nat_le (4 * (n + 1)) bytes
holds_offsets l.Lists n bytes = n == 0 || nat_le (4 * (n + 1)) bytes
holds_offsets _ n bytes = true

-- offset i is at most offset i + 1
abbrev pub is_ascending_at : List ℕ → ℕ → Bool
is_ascending_at offsets i = int_le (offset offsets i) (offset offsets (i + 1))

-- the offsets of n slots start at 0 or above, do not decrease, and end within `size` bytes
abbrev pub are_ascending : List ℕ → ℕ → ℕ → Bool
are_ascending offsets n size = int_le (pos 0) (offset offsets 0)
    && (all_below (is_ascending_at offsets) n && nat_le (offset_position offsets n) size)

-- each of the columns has at least n slots
abbrev pub have_slots : ℕ → Columns → Bool
have_slots n cs = every_top (λ c. nat_le n c.slots) cs

-- the offsets of a column's slots, if they are complete, are in order: those of texts and bytes end
-- within `size` bytes, those of lists within the slots of the child
abbrev pub in_order : Layout → ℕ → List ℕ → ℕ → Columns → Bool
in_order (l.VariableBytes utf8) n offsets size children =
    n == 0 || (not (nat_le (4 * (n + 1)) (length offsets)) || are_ascending offsets n size)
in_order l.Lists n offsets size children = n == 0 || (not (nat_le (4 * (n + 1)) (length offsets))
    || (are_ascending offsets n (offset_position offsets n)
    && have_slots (offset_position offsets n) children))
in_order _ n offsets size children = true

-- each child of n structs has at least n slots; the child of n lists of a fixed size has at least
-- size * n
abbrev pub children_have_slots : Layout → ℕ → Columns → Bool
children_have_slots l.Structs n children = have_slots n children
children_have_slots (l.FixedLists size) n children = have_slots (size * n) children
children_have_slots _ n children = true

-- the test holds for n slots from slot i on
abbrev pub all_slots : (ℕ → Bool) → ℕ → ℕ → Bool
all_slots test i n = all_below (λ k. test (i + k)) n

-- the test of a text for this cause
abbrev pub text_passes : Fault → List ℕ → Bool
text_passes fault.ValueNotUtf8 bytes = is_utf8 bytes
text_passes _ bytes = true

-- the test of an index for this cause
abbrev pub index_passes : Fault → List Value → ℤ → Bool
index_passes fault.BadIndex dictionary index = is_some (place_below (length dictionary) index)
index_passes _ dictionary index = true

-- the test of the content of valid slot i for this cause; `below` tests a range of the children's
-- slots
abbrev pub good_below : Fault → Layout → List Value → (ℕ → ℕ → Bool) → List ℕ → List ℕ → ℕ → Bool
good_below why (l.VariableBytes true) dictionary below offsets values i =
    text_passes why (between offsets values i)
good_below why (l.Indices bits signed id) dictionary below offsets values i =
    index_passes why dictionary (number_in bits signed values i)
good_below why l.Lists dictionary below offsets values i =
    below (offset_position offsets i) (offset_position offsets (i + 1))
good_below why (l.FixedLists size) dictionary below offsets values i =
    below (size * i) (size * (i + 1))
good_below why l.Structs dictionary below offsets values i = below i (i + 1)
good_below why _ dictionary below offsets values i = true

-- the children's slots that belong to the slots from i up to j of a list or a struct pass the test
-- `below`
abbrev pub range_good : Layout → (ℕ → ℕ → Bool) → List ℕ → ℕ → ℕ → Bool
range_good l.Lists below offsets i j = below (offset_position offsets i) (offset_position offsets j)
range_good (l.FixedLists size) below offsets i j = below (size * i) (size * j)
range_good l.Structs below offsets i j = below i j
range_good _ below offsets i j = true

-- slot i is null, or its content passes the test
abbrev pub good_slot : Fault → (ℕ → ℕ → Bool) → Column → ℕ → Bool
good_slot why below c i = not (is_valid c.validity i)
    || good_below why c.layout c.dictionary below c.offsets c.values i

-- the slots from i up to j of each column pass the test; nothing is tested below a null slot
abbrev pub good : Fault → Columns → ℕ → ℕ → Bool
good why none i j = true
good why (column c children rest) i j =
    all_slots (good_slot why (good why children) c) i (j - i) && good why rest i j

-- slot i is null, or holds a text in UTF-8
abbrev pub text_good : List ℕ → List ℕ → List ℕ → ℕ → Bool
text_good validity offsets values i =
    not (is_valid validity i) || is_utf8 (between offsets values i)

-- the slots hold indices of this width and sign
abbrev pub IsIndexed : Layout → IntBits → Bool → Type 0
IsIndexed layout bits signed = (id : ℤ) × (layout ≡ l.Indices bits signed id)

-- slot i is null, or holds an index below n
abbrev pub index_good : List ℕ → IntBits → Bool → ℕ → List ℕ → ℕ → Bool
index_good validity bits signed n values i =
    not (is_valid validity i) || is_some (place_below n (number_in bits signed values i))

-- each slot from i up to j begins at a character boundary of this text, which begins where slot i
-- does
abbrev pub AreCharBoundaries : List ℕ → List ℕ → ℕ → ℕ → Type 0
AreCharBoundaries offsets text i j = (k : ℕ) → i ≤ k → k < j
    → IsCharBoundary text (offset_position offsets k - offset_position offsets i)

-- how many of the first n slots are null
abbrev pub nulls_in : List ℕ → ℕ → ℕ
nulls_in validity n = if length validity == 0 then 0 else clear validity n

-- the tests of a column and the columns of its children for this cause
abbrev pub passes : Fault → Column → Columns → Bool
passes fault.BadNode c children = children_have_slots c.layout c.slots children
passes fault.BufferTooShort c children = has_bitmap c.slots (length c.validity)
    && (holds_values c.layout c.slots (length c.values)
    && holds_offsets c.layout c.slots (length c.offsets))
passes fault.BadNullCount c children = not (has_validity c.layout)
    || (not (has_bitmap c.slots (length c.validity)) || (c.nulls == nulls_in c.validity c.slots))
passes fault.BadOffsets c children =
    in_order c.layout c.slots c.offsets (length c.values) children
passes _ c children = true

-- the test of a top-level column for this cause: it has one slot for each of n rows
abbrev pub top_passes : Fault → ℕ → Column → Bool
top_passes fault.BadNode n c = c.slots == n
top_passes _ n c = true

-- the test for this cause of the values that n rows of columns show
abbrev pub visible_passes : Fault → ℕ → Columns → Bool
visible_passes fault.ValueNotUtf8 n cs = good fault.ValueNotUtf8 cs 0 n
visible_passes fault.BadIndex n cs = good fault.BadIndex cs 0 n
visible_passes _ n cs = true

-- a cause that is found in the values of rows, after all others
abbrev pub is_shown : Fault → Bool
is_shown fault.ValueNotUtf8 = true
is_shown fault.BadIndex = true
is_shown _ = false

-- all tests of n rows of columns for this cause
abbrev pub all_pass : Fault → ℕ → Columns → Bool
all_pass why n cs = every (passes why) cs
    && (every_top (top_passes why n) cs && visible_passes why n cs)

-- all tests of a head and a body for this cause
abbrev pub fits : Limits → Dictionaries → Shape → BatchHead → List ℕ → Fault → Bool
fits limits m shape head body why = head_passes limits why shape head (length body)
    && all_pass why (unsigned_abs head.length) (assigned_columns m shape head body 0 0)

-- n rows of the columns pass all tests, so they have values
abbrev pub PassTests : ℕ → Columns → Type 0
PassTests n cs = (why : Fault) → all_pass why n cs ≡ true

-- a head and a body pass all tests, and these are the rows of their columns
pub record Passing (limits : Limits) (m : Dictionaries) (shape : Shape) (head : BatchHead)
    (body : List ℕ) (rows : List (List Value)) : Type 0 where
  pub sound : (why : Fault) → fits limits m shape head body why ≡ true
  pub values : rows ≡ rows_of (assigned_columns m shape head body 0 0) (unsigned_abs head.length)

-- the head passes all its tests
abbrev pub HeadHolds : Limits → Shape → BatchHead → List ℕ → Type 0
HeadHolds limits shape head body = (why : Fault)
    → head_passes limits why shape head (length body) ≡ true

-- the fault's own test fails and the tests that it depends on hold, or memory ran out; no other
-- fault has a cause
abbrev pub Failing : Limits → Fault → Dictionaries → Shape → BatchHead → List ℕ → Type 0
Failing limits fault.WrongNodeCount m shape head body =
    fits limits m shape head body fault.WrongNodeCount ≡ false
Failing limits fault.WrongBufferCount m shape head body =
    fits limits m shape head body fault.WrongBufferCount ≡ false
Failing limits fault.BadNode m shape head body =
    CountsHold limits shape head (length body)
    × (fits limits m shape head body fault.BadNode ≡ false)
Failing limits fault.BufferOutOfBody m shape head body =
    CountsHold limits shape head (length body)
    × (fits limits m shape head body fault.BufferOutOfBody ≡ false)
Failing limits fault.BufferTooShort m shape head body =
    HeadHolds limits shape head body × (fits limits m shape head body fault.BufferTooShort ≡ false)
Failing limits fault.BadNullCount m shape head body =
    HeadHolds limits shape head body × (fits limits m shape head body fault.BadNullCount ≡ false)
Failing limits fault.BadOffsets m shape head body =
    HeadHolds limits shape head body × (fits limits m shape head body fault.BadOffsets ≡ false)
Failing limits fault.ValueNotUtf8 m shape head body =
    HeadHolds limits shape head body × ((fits limits m shape head body fault.BufferTooShort ≡ true)
    × (fits limits m shape head body fault.BadOffsets ≡ true)
    × (fits limits m shape head body fault.ValueNotUtf8 ≡ false))
Failing limits fault.BadIndex m shape head body =
    HeadHolds limits shape head body × ((fits limits m shape head body fault.BufferTooShort ≡ true)
    × (fits limits m shape head body fault.BadOffsets ≡ true)
    × (fits limits m shape head body fault.BadIndex ≡ false))
Failing limits fault.OutOfMemory m shape head body = ⊤
Failing limits _ m shape head body = ⊥
