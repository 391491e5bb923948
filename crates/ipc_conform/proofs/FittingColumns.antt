-- Columns whose values fit their fields.
use Rattle.std.proofs.Common.{◌≡◌, ◌∙◌, sym, subst, ℕ, zero, suc, ◌+◌, ◌-◌, ◌*◌, ◌<◌, ◌≤◌, Bool, true, false, cond, List, [], ◌∷◌, ◌++◌}
use Rattle.std.proofs.Common.{length, take, get_or, arith, ℤ, ap, refl, Result, Err, inl, inr}
use Rattle.std.proofs.Math.Nat.{mul-le-mul_left}
use Rattle.std.proofs.lemmas.Bool.{cases_lt}
use Rattle.std.proofs.lemmas.List.{take_more}
use Rattle.std.proofs.lemmas.Option.{get_or_from_slice_get}
use Rattle.std.specs.List.{AllByRecursion}
use Rattle.std.specs.Prelude.{Option, Some, pos, negsuc, IsTrue, IsOk, ◌⊎◌, slice_get}
use Rattle.ipc_model.specs.Fits.{Fits, IsOfKind, RowFits, EachFits, InnerFit, FitsOwnType}
use Rattle.ipc_model.specs.Layouts.{type_layout}
use Rattle.ipc_model.specs.Refusals.{refusal_of}
use Rattle.ipc_model.specs.RowFaults.{row_faults, verdict}
use Rattle.ipc_model.specs.declared.fault.WriteFault.{WriteFault}
use Rattle.ipc_model.specs.declared.layout.Layout.{Layout}
use Rattle.ipc_model.specs.declared.layout.Layout.TheVariants as l
use Rattle.ipc_model.specs.declared.rows.RowFault.{RowFault}
use Rattle.ipc_model.specs.declared.schema.DataType.{DataType}
use Rattle.ipc_model.specs.declared.schema.DataType.TheVariants as t
use Rattle.ipc_model.specs.declared.schema.DateUnit.TheVariants.{Day, Millisecond}
use Rattle.ipc_model.specs.declared.schema.Field.{Field, out-Field}
use Rattle.ipc_model.specs.declared.schema.IntBits.{IntBits}
use Rattle.ipc_model.specs.declared.schema.IntBits.TheVariants.{B32, B64}
use Rattle.ipc_model.specs.declared.schema.TimeUnit.{TimeUnit}
use Rattle.ipc_model.specs.declared.value.Value.{Value, out-Value}
use Rattle.ipc_model.specs.declared.value.Value.TheOpen.{Value-F}
use Rattle.ipc_model.specs.declared.value.Value.TheOpen as o
use Rattle.ipc_model.specs.declared.value.Value.TheVariants.{Null}
use Rattle.ipc_model.specs.declared.value.Value.TheVariants as v
use Rattle.ipc_column.proofs.Cells.{row_length}
use Rattle.ipc_column.proofs.FittingValues.{inside_fits, own_fits}
use Rattle.ipc_column.proofs.Opened.{list_out, null_out, struct_out}
use Rattle.ipc_column.proofs.Plain.{items_each, null_shown}
use Rattle.ipc_column.proofs.SlotValues.{cell_value, first_slots, first_value, null_only, slot_count, slot_is}
use Rattle.ipc_column.proofs.lending.Lendings.{lent_offsets, lent_order}
use Rattle.ipc_column.proofs.lending.Slots.{items_length}
use Rattle.ipc_column.proofs.visited.Leads.{list_leads}
use Rattle.ipc_column.specs.Columns.{EachTop}
use Rattle.ipc_column.specs.Lending.{AreBuffers}
use Rattle.ipc_column.specs.Nested.{Nested, child_columns, slot_values}
use Rattle.ipc_column.specs.Slots.{is_null, nested_in}
use Rattle.ipc_column.specs.Values.{is_valid, own_value, row, value_at, value_of, first_of, values_from, offset_position}
use Rattle.ipc_column.specs.checks.Plain.{IsShownBy}
use Rattle.ipc_column.specs.declared.buffers.Buffers.{Buffers}
use Rattle.ipc_conform.specs.Mismatches.{AreMismatches}
use Rattle.ipc_conform.specs.PlainColumns.{layout_implies_type}

-- ---- what plain slots show

-- the slots of the layout show values of the type alone, or null: nothing in a value has to be
-- looked at
abbrev pub ShowsKind : Layout → DataType → Type 0
ShowsKind layout kind = (children : ℕ) (value : Value) → IsShownBy layout value → is_null value ≡ false
    → IsOfKind kind children (out-Value value)

bool_shows : ShowsKind l.Bits t.Bool
unfolding out-Value denote.Hole.Carrier.out
bool_shows children v.Null shows some = absurd (cc)
bool_shows children (v.Bool truth) shows some = tt
bool_shows children value shows some = absurd shows

int_shows : (bits : IntBits) (signed : Bool) → ShowsKind (l.Numbers bits signed) (t.Int bits signed)
unfolding out-Value denote.Hole.Carrier.out
int_shows bits signed children v.Null shows some = absurd (cc)
int_shows bits true children (v.Int number) shows some = shows
int_shows bits false children (v.UInt number) shows some = shows
int_shows bits true children value shows some = absurd shows
int_shows bits false children value shows some = absurd shows

binary_shows : ShowsKind (l.VariableBytes false) t.Binary
unfolding out-Value denote.Hole.Carrier.out
binary_shows children v.Null shows some = absurd (cc)
binary_shows children (v.Bytes bytes) shows some = tt
binary_shows children value shows some = absurd shows

text_shows : ShowsKind (l.VariableBytes true) t.Utf8
unfolding out-Value denote.Hole.Carrier.out
text_shows children v.Null shows some = absurd (cc)
text_shows children (v.Text text) shows some = tt
text_shows children value shows some = absurd shows

fixed_shows : (size : ℕ) → ShowsKind (l.FixedBytes size) (t.FixedSizeBinary size)
unfolding out-Value denote.Hole.Carrier.out
fixed_shows size children v.Null shows some = absurd (cc)
fixed_shows size children (v.Bytes bytes) shows some = shows
fixed_shows size children value shows some = absurd shows

day_shows : ShowsKind (l.Numbers B32 true) (t.Date Day)
unfolding out-Value denote.Hole.Carrier.out
day_shows children v.Null shows some = absurd (cc)
day_shows children (v.Int number) shows some = shows
day_shows children value shows some = absurd shows

stamp_shows : (unit : TimeUnit) (timezone : Option (List ℕ)) → ShowsKind (l.Numbers B64 true) (t.Timestamp unit timezone)
unfolding out-Value denote.Hole.Carrier.out
stamp_shows unit timezone children v.Null shows some = absurd (cc)
stamp_shows unit timezone children (v.Int number) shows some = shows
stamp_shows unit timezone children value shows some = absurd shows

length_shows : (unit : TimeUnit) → ShowsKind (l.Numbers B64 true) (t.Duration unit)
unfolding out-Value denote.Hole.Carrier.out
length_shows unit children v.Null shows some = absurd (cc)
length_shows unit children (v.Int number) shows some = shows
length_shows unit children value shows some = absurd shows

-- slots of a plain type's layout show its values
pub plain_shows : (kind : DataType) → layout_implies_type kind ≡ true → ShowsKind (type_layout kind) kind
plain_shows t.Bool plain = bool_shows
plain_shows (t.Int bits signed) plain = int_shows bits signed
plain_shows t.Binary plain = binary_shows
plain_shows t.Utf8 plain = text_shows
plain_shows (t.FixedSizeBinary size) plain = fixed_shows size
plain_shows (t.Date Day) plain = day_shows
plain_shows (t.Timestamp unit timezone) plain = stamp_shows unit timezone
plain_shows (t.Duration unit) plain = length_shows unit
plain_shows (t.Date Millisecond) plain = absurd (cc)
plain_shows (t.Time unit) plain = absurd (cc)
plain_shows t.Null plain = absurd (cc)
plain_shows t.List plain = absurd (cc)
plain_shows (t.FixedSizeList size) plain = absurd (cc)
plain_shows t.Struct plain = absurd (cc)

-- ---- columns of indices that surely fit, by how the values of their dictionary lie

-- a value of the dictionary, or null
value_shown : (layout : Layout) (dictionary : List Value) (z : ℤ) → AllByRecursion (IsShownBy layout) dictionary
    → IsShownBy layout (value_at dictionary z)
value_shown layout dictionary (negsuc n) h = null_shown layout
value_shown layout dictionary (pos n) h = at dictionary n h
  where
    at : (vs : List Value) (i : ℕ) → AllByRecursion (IsShownBy layout) vs → IsShownBy layout (get_or vs i v.Null)
    at [] i h = null_shown layout
    at (x ∷ vs) zero h = h.0
    at (x ∷ vs) (suc i) h = at vs i h.1

-- slots of indices show what the dictionary does, or null
pub indexed_shown : (n : Nested) (layout : Layout) (bits : IntBits) (signed : Bool) (id : ℤ) → n.column.layout ≡ l.Indices bits signed id
    → AllByRecursion (IsShownBy layout) n.column.dictionary → AllByRecursion (IsShownBy layout) (slot_values n)
indexed_shown n layout bits signed id e h =
    items_each (IsShownBy layout) (value_of (row (child_columns n)) n.column) 0 n.column.slots (λ k from to. either k
    (is_valid n.column.validity k))
  where
    either : (k : ℕ) (valid : Bool) → IsShownBy layout
        (cond valid (own_value n.column.layout n.column.dictionary (row (child_columns n)) n.column.offsets n.column.values k) v.Null)
    either k true = rw e (value_shown layout n.column.dictionary _ h)
    either k false = null_shown layout

-- ---- columns whose values fit a field

-- null fits the field
abbrev pub MayBeNull : Field → Type 0
MayBeNull f = IsTrue (out-Field f).nullable ⊎ ((out-Field f).kind ≡ t.Null)

-- ---- one value, and all of them

-- what all have each has, and the other way round
pub all_at : (P : Value → Type 0) (vs : List Value) (i : ℕ) → i < length vs → AllByRecursion P vs → P (get_or vs i Null)
all_at P [] i m h = absurd (omega arith)
all_at P (w ∷ vs) zero m h = h.0
all_at P (w ∷ vs) (suc i) m h = all_at P vs i (omega arith) h.1

each_all : (P : Value → Type 0) (vs : List Value) → ((i : ℕ) → i < length vs → P (get_or vs i Null)) → AllByRecursion P vs
each_all P [] h = tt
each_all P (w ∷ vs) h = (h 0 (omega arith), each_all P vs (λ i m. h (suc i) (omega arith)))

-- values that fit the first child
pub inner_all : (fs : List Field) (vs : List Value) (d : Field) → ((i : ℕ) → i < length vs → Fits (get_or fs 0 d) (get_or vs i Null))
    → InnerFit Fits t.List fs (o.List vs)
inner_all [] vs d h = tt
inner_all (f ∷ fs) vs d h = each_all (Fits f) vs h

-- values each of which fits its field
abbrev pub FitsAt : List Field → List Value → ℕ → Type 0
FitsAt fs vs k = (f : Field) → slice_get fs k ≡ Some f → Fits f (get_or vs k Null)

pub each_fits : (fs : List Field) (vs : List Value) → ((k : ℕ) → k < length fs → FitsAt fs vs k) → EachFits Fits fs vs
each_fits [] vs h = tt
each_fits (f ∷ fs) [] h = tt
each_fits (f ∷ fs) (w ∷ vs) h = (h 0 (omega arith) f refl, each_fits fs vs (λ k m. h (suc k) (omega arith)))

-- one value more
pub fits_next : (i : ℕ) (fs : List Field) (vs : List Value) (next : Field) → next ≡ get_or fs i next
    → ((k : ℕ) → k < i → FitsAt fs vs k) → Fits next (get_or vs i Null) → (k : ℕ) → k < i + 1 → FitsAt fs vs k
fits_next i fs vs next is before own k m = elim (cases_lt k i) as (λ _. FitsAt fs vs k) [
  | inl under ↦ before k under
  | inr over ↦
      let same : i ≡ k = omega (arith, m, over) in
      subst (FitsAt fs vs) same (λ f at. subst (λ (g : Field). Fits g (get_or vs i Null))
      (is ∙ get_or_from_slice_get fs i f next at) own)
]

-- rows that have a value for each field and fit value by value
pub rows_fit : (fields : List Field) (rows : List (List Value)) (n : ℕ) → n ≡ length fields → AllByRecursion (λ row. length row ≡ n) rows
    → ((r : ℕ) → r < length rows → (k : ℕ) → k < length fields → FitsAt fields (get_or rows r []) k) → AllByRecursion (RowFits fields) rows
rows_fit fields [] n e wide h = tt
rows_fit fields (row ∷ rows) n e wide h =
    ((wide.0 ∙ e, each_fits fields row (h 0 (omega arith))), rows_fit fields rows n e wide.1 (λ r m. h (suc r) (omega arith)))

-- ---- one value

-- a value fits a field of this type where it is one of its own and what is inside it fits the children
kind_fit : (f : Field) (kind : DataType) (value : Value) (w : Value-F Value) → (out-Field f).kind ≡ kind → out-Value value ≡ w
    → FitsOwnType kind (out-Field f).nullable (length (out-Field f).children) w → InnerFit Fits kind (out-Field f).children w → Fits f value
kind_fit f kind value w e is own inner =
    inside_fits f value w is
    (subst (λ (k : DataType). FitsOwnType k (out-Field f).nullable (length (out-Field f).children) (out-Value value)) (sym e)
    (subst (λ (u : Value-F Value). FitsOwnType kind (out-Field f).nullable (length (out-Field f).children) u) (sym is) own))
    (subst (λ (k : DataType). InnerFit Fits k (out-Field f).children w) (sym e) inner)

-- ---- values without others inside

null_inside : (kind : DataType) (fs : List Field) → InnerFit Fits kind fs o.Null
null_inside t.List [] = tt
null_inside t.List (f ∷ fs) = tt
null_inside (t.FixedSizeList size) [] = tt
null_inside (t.FixedSizeList size) (f ∷ fs) = tt
null_inside _ fs = tt

-- null where it fits
null_fits : (f : Field) (value : Value) → value ≡ v.Null → (is_null value ≡ true → MayBeNull f) → Fits f value
null_fits f value is may =
    kind_fit f (out-Field f).kind value o.Null refl (ap out-Value is ∙ null_out) (may (ap is_null is))
    (null_inside (out-Field f).kind (out-Field f).children)

-- a value of the field's own, or null where that fits
pub own_slot : (f : Field) (value : Value) → length (out-Field f).children ≡ 0 → (is_null value ≡ true → MayBeNull f)
    → (is_null value ≡ false
    → FitsOwnType (out-Field f).kind (out-Field f).nullable (length (out-Field f).children) (out-Value value)) → Fits f value
own_slot f value none may own = either (is_null value) refl
  where
    either : (b : Bool) → is_null value ≡ b → Fits f value
    either true e = null_fits f value (null_only value e) may
    either false e = own_fits f value none (own e)

own_kind : (kind : DataType) (nullable : Bool) (n : ℕ) (value : Value) → is_null value ≡ false → IsOfKind kind n (out-Value value)
    → FitsOwnType kind nullable n (out-Value value)
unfolding out-Value denote.Hole.Carrier.out
own_kind kind nullable n v.Null some h = absurd (cc)
own_kind kind nullable n value some h = h

-- a value that slots of the field's type show, or null where that fits
pub shown_slot : (f : Field) (layout : Layout) (value : Value) → ShowsKind layout (out-Field f).kind → length (out-Field f).children ≡ 0
    → (is_null value ≡ true → MayBeNull f) → IsShownBy layout value → Fits f value
shown_slot f layout value shows none may h = own_slot f value none may (λ some.
    own_kind (out-Field f).kind (out-Field f).nullable (length (out-Field f).children) value some
    (shows (length (out-Field f).children) value h some))

-- ---- lists

-- values of a list that are those of all slots of a child from one on
inner_run : (fs : List Field) (all : List Value) (g : ℕ → Value) (i n : ℕ) → i + n ≤ length all
    → ((j : ℕ) → j < length all → get_or all j Null ≡ g j) → InnerFit Fits t.List fs (o.List all)
    → InnerFit Fits t.List fs (o.List (values_from g i n))
inner_run [] all g i n room are h = tt
inner_run (f ∷ fs) all g i n room are h =
    items_each (Fits f) g i n (λ k from to. let m : k < length all = omega (arith, to, room) in subst (Fits f) (are k m)
    (all_at (Fits f) all k m h))

-- a slot of lists, where all slots of the child fit
pub list_slot : (s child : Nested) (b : Buffers) (f : Field) (i : ℕ) → AreBuffers s b → b.layout ≡ l.Lists → (out-Field f).kind ≡ t.List
    → slice_get (nested_in s) 0 ≡ Some child → i < length (slot_values s)
    → (is_null (get_or (slot_values s) i Null) ≡ true → MayBeNull f)
    → InnerFit Fits t.List (out-Field f).children (o.List (slot_values child)) → Fits f (get_or (slot_values s) i Null)
list_slot s child b f i h e kind is m may inner = either (is_valid s.column.validity i) refl
  where
    laid : s.column.layout ≡ l.Lists
    laid = sym h.layout ∙ e

    g : ℕ → Value
    g j = first_of (row (child_columns s) j)

    either : (valid : Bool) → is_valid s.column.validity i ≡ valid → Fits f (get_or (slot_values s) i Null)
    either true valid =
        let offsets = s.column.offsets in
        let count = slot_count s in
        let leads = list_leads offsets (child_columns s) s.column.slots i (length s.column.values) (omega (arith, m, count))
        (rw laid at (lent_offsets s b h)) (rw laid at (lent_order s b h)) in
        let most = first_slots s child (offset_position offsets (i + 1)) is leads.1 in
        let n = offset_position offsets (i + 1) - offset_position offsets i in
        kind_fit f t.List (get_or (slot_values s) i Null) (o.List (values_from g (offset_position offsets i) n)) kind
        (ap out-Value (slot_is s i m ∙ rw (valid, laid) refl) ∙ list_out (values_from g (offset_position offsets i) n)) tt
        (inner_run (out-Field f).children (slot_values child) g (offset_position offsets i) n (omega (arith, leads.0, most))
        (λ j k. slot_is child j k ∙ sym (first_value s child j is)) inner)
    either false valid = null_fits f (get_or (slot_values s) i Null) (slot_is s i m ∙ rw valid refl) may

-- ---- lists of a fixed size

fixed_inner : (size : ℕ) (fs : List Field) (vs : List Value) → InnerFit Fits t.List fs (o.List vs)
    → InnerFit Fits (t.FixedSizeList size) fs (o.List vs)
fixed_inner size [] vs h = tt
fixed_inner size (f ∷ fs) vs h = h

-- a slot of lists of a fixed size, where all slots of the child fit
pub fixed_slot : (s child : Nested) (b : Buffers) (f : Field) (size i : ℕ) → AreBuffers s b → s.column.layout ≡ l.FixedLists size
    → (out-Field f).kind ≡ t.FixedSizeList size → slice_get (nested_in s) 0 ≡ Some child → i < length (slot_values s)
    → (is_null (get_or (slot_values s) i Null) ≡ true → MayBeNull f)
    → InnerFit Fits t.List (out-Field f).children (o.List (slot_values child)) → Fits f (get_or (slot_values s) i Null)
fixed_slot s child b f size i h laid kind is m may inner = either (is_valid s.column.validity i) refl
  where
    g : ℕ → Value
    g j = first_of (row (child_columns s) j)

    long : EachTop (λ c. size * s.column.slots ≤ c.slots) (child_columns s)
    long = rw laid at h.long_children

    either : (valid : Bool) → is_valid s.column.validity i ≡ valid → Fits f (get_or (slot_values s) i Null)
    either true valid =
        let most = first_slots s child (size * s.column.slots) is long in
        let less = mul-le-mul_left size (let m' : i + 1 ≤ s.column.slots = omega (arith, m, slot_count s) in m') in
        let next : size * (i + 1) ≡ size * i + size = omega arith in
        kind_fit f (t.FixedSizeList size) (get_or (slot_values s) i Null) (o.List (values_from g (size * i) size)) kind
        (ap out-Value (slot_is s i m ∙ rw (valid, laid) refl) ∙ list_out (values_from g (size * i) size)) (items_length g (size * i) size)
        (fixed_inner size (out-Field f).children (values_from g (size * i) size)
        (inner_run (out-Field f).children (slot_values child) g (size * i) size (omega (arith, less, next, most))
        (λ j k. slot_is child j k ∙ sym (first_value s child j is)) inner))
    either false valid = null_fits f (get_or (slot_values s) i Null) (slot_is s i m ∙ rw valid refl) may

-- ---- structs

-- a slot of structs whose parts fit
pub struct_slot : (s : Nested) (f : Field) (fs : List Field) (i : ℕ) → s.column.layout ≡ l.Structs → (out-Field f).kind ≡ t.Struct
    → fs ≡ (out-Field f).children → length fs ≡ length s.children → i < length (slot_values s)
    → (is_null (get_or (slot_values s) i Null) ≡ true → MayBeNull f)
    → (is_valid s.column.validity i ≡ true → EachFits Fits fs (row (child_columns s) i)) → Fits f (get_or (slot_values s) i Null)
struct_slot s f fs i laid kind those many m may each = either (is_valid s.column.validity i) refl
  where
    either : (valid : Bool) → is_valid s.column.validity i ≡ valid → Fits f (get_or (slot_values s) i Null)
    either true e =
        let vs = row (child_columns s) i in
        kind_fit f t.Struct (get_or (slot_values s) i Null) (o.Struct vs) kind
        (ap out-Value (slot_is s i m ∙ rw (e, laid) refl) ∙ struct_out vs)
        (row_length s.body s.children i ∙ (sym many ∙ ap (λ (gs : List Field). length gs) those))
        (subst (λ (gs : List Field). EachFits Fits gs vs) those (each e))
    either false e = null_fits f (get_or (slot_values s) i Null) (slot_is s i m ∙ rw e refl) may

-- a part of a struct is the slot of its child
pub part_slot : (s child : Nested) (k i : ℕ) → slice_get (nested_in s) k ≡ Some child → i < length (slot_values child)
    → get_or (slot_values child) i Null ≡ get_or (row (child_columns s) i) k Null
part_slot s child k i is m = slot_is child i m ∙ sym (cell_value s child k i is)

-- ---- the first row that does not fit

abbrev err_of : RowFault → Result Unit RowFault
err_of cause = Err cause

-- the fault of the first row that does not fit, with the row's number
pub misfit : (fields : List Field) (rows : List (List Value)) (number : ℕ) (found : List Value) (cause : RowFault)
    (r : Result Unit RowFault) (fault : WriteFault) → number < length rows → found ≡ get_or rows number []
    → AllByRecursion (RowFits fields) (take number rows) → (RowFits fields found → IsOk r) → r ≡ verdict (row_faults fields found)
    → r ≡ Err cause → fault ≡ refusal_of cause number → AreMismatches fields rows fault
misfit fields rows number found cause r fault inside is before fits judged failed report = record {
  number = number;
  inside = inside;
  before = before;
  misfit = λ h. let ok : IsOk (err_of cause) =
      subst (λ q. IsOk q) failed (fits (subst (RowFits fields) (sym is) h)) in cc;
  cause = cause;
  first = subst (λ (w : List Value). verdict (row_faults fields w) ≡ Err cause) is (sym judged ∙ failed);
  report = report;
}

all_last : (fields : List Field) (rows : List (List Value)) (last : List Value) → AllByRecursion (RowFits fields) rows
    → RowFits fields last → AllByRecursion (RowFits fields) (rows ++ last ∷ [])
all_last fields [] last all one = (one, tt)
all_last fields (w ∷ rows) last all one = (all.0, all_last fields rows last all.1 one)

-- what holds of the first rows and of the next one holds of one more
pub first_more : (fields : List Field) (rows : List (List Value)) (i : ℕ) (next : List Value) → i < length rows → next ≡ get_or rows i []
    → AllByRecursion (RowFits fields) (take i rows) → RowFits fields next → AllByRecursion (RowFits fields) (take (i + 1) rows)
first_more fields rows i next inside is all one =
    subst (AllByRecursion (RowFits fields)) (ap (λ (r : List Value). take i rows ++ r ∷ []) is ∙ sym (take_more rows i [] inside))
    (all_last fields (take i rows) next all one)
