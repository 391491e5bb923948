-- One value more in a column, and what it gives to the columns below.
use Rattle.std.proofs.Common.{◌≡◌, ◌∙◌, refl, sym, ap, ℕ, suc, ◌+◌, Bool, cond, List, [], ◌∷◌, ◌++◌, length, append_assoc, arith}
use Rattle.std.proofs.Common.{◌<◌, get_or, zero, ◌*◌, ◌≤◌, replicate, take, subst, true, false, length-append}
use Rattle.std.proofs.Math.Nat.{suc-mul}
use Rattle.std.proofs.lemmas.Bool.{eq-eqb, eqb-true, ne_eqb}
use Rattle.std.proofs.lemmas.List.{append-nil, length-replicate, replicate-append-replicate, take-replicate, take_more}
use Rattle.std.specs.Int.{bytes_low_first}
use Rattle.std.specs.Prelude.{◌==◌, ◌&&◌}
use denote.Hole.Carrier
use Rattle.ipc_model.specs.Layouts.{has_validity}
use Rattle.ipc_model.specs.declared.layout.Layout.{Layout}
use Rattle.ipc_model.specs.declared.layout.Layout.TheVariants as l
use Rattle.ipc_model.specs.declared.limits.Limits.{Limits}
use Rattle.ipc_model.specs.declared.value.Value.{Value}
use Rattle.ipc_model.specs.declared.value.Value as V
use Rattle.ipc_model.specs.declared.value.Value.TheOpen.{Value-F}
use Rattle.ipc_model.specs.declared.value.Value.TheOpen as o
use Rattle.ipc_model.specs.declared.value.Value.TheVariants as v
use Rattle.ipc_model.specs.declared.value.Value.TheViews.{out-Value, roll-Value, out-roll-Value, roll-out-Value}
use Rattle.ipc_encode.specs.Bitmaps.{bitmap}
use Rattle.ipc_encode.specs.Buffers.{child_values, column_nulls, nulls_below}
use Rattle.ipc_encode.specs.Built.{IsColumn}
use Rattle.ipc_encode.specs.Cells.{cell, cells, is_set, flags, nulls, content, slot_bytes, slots, extent, ends, offsets, items}
use Rattle.ipc_encode.specs.Cells.{struct_member, fixed_items, all_fixed_items, all_items, all_parts, fixed_items_in, part_in}
use Rattle.ipc_encode.specs.Cells.{fixed_bytes, fixed_in, items_in}
use Rattle.ipc_encode.specs.Columns.{value_len, data_in, validity_bytes, validity_in}
use Rattle.ipc_encode.specs.Numbers.{Numbering}
use Rattle.ipc_encode.specs.Pieces.{Flag, OffsetUnit, Valid, ValueSlot}
use Rattle.ipc_encode.specs.Pieces as p
use Rattle.ipc_encode.specs.declared.column.ColumnBuilder.{ColumnBuilder}

-- ---- what one more value, or one more row, gives

-- a column has a cell for each row
pub cells_length : (j : ℕ) (rows : List (List Value)) → length (cells j rows) ≡ length rows
cells_length j [] = refl
cells_length j (row ∷ rows) = ap (λ (k : ℕ). suc k) (cells_length j rows)

-- the cells of some rows and then others
pub cells_append : (j : ℕ) (rows more : List (List Value)) → cells j (rows ++ more) ≡ cells j rows ++ cells j more
cells_append j [] more = refl
cells_append j (r ∷ rows) more = ap (λ (vs : List Value). cell j r ∷ vs) (cells_append j rows more)

pub flags_push : (which : Flag) (vs : List Value) (v : Value) → flags which (vs ++ v ∷ []) ≡ flags which vs ++ is_set which v ∷ []
flags_push which [] v = refl
flags_push which (w ∷ vs) v = ap (λ (fs : List Bool). is_set which w ∷ fs) (flags_push which vs v)

pub nulls_push : (vs : List Value) (v : Value) → nulls (vs ++ v ∷ []) ≡ nulls vs + cond (is_set Valid v) 0 1
nulls_push [] v = omega arith
nulls_push (w ∷ vs) v = let more = nulls_push vs v in omega (arith, more)

pub slots_push : (which : ValueSlot) (vs : List Value) (v : Value) → slots which (vs ++ v ∷ []) ≡ slots which vs ++ slot_bytes which v
slots_push which [] v = append-nil (slot_bytes which v)
slots_push which (w ∷ vs) v = ap (λ (bs : List ℕ). slot_bytes which w ++ bs) (slots_push which vs v)
    ∙ sym (append_assoc (slot_bytes which w) (slots which vs) (slot_bytes which v))

pub data_push : (layout : Layout) (vs : List Value) (v : Value) → data_in layout (vs ++ v ∷ []) ≡ data_in layout vs + value_len layout v
data_push layout [] v = omega arith
data_push layout (w ∷ vs) v = let more = data_push layout vs v in omega (arith, more)

-- the data with one value more
pub amount_more : (layout : Layout) (vs : List Value) (v : Value) (amount added : ℕ) → amount ≡ data_in layout vs → added
    ≡ value_len layout v
    → amount + added ≡ data_in layout (vs ++ v ∷ [])
amount_more layout vs v amount added a b = let more = data_push layout vs v in omega (arith, more, a, b)

-- ---- slots of one size

-- one of two lists, which have so many elements
either_length : {A : Type 0} → (xs ys : List A) (n : ℕ) → length ys ≡ n → length (cond (length xs == n) xs ys) ≡ n
either_length xs ys n other = by (length xs == n) refl
  where
    by : (b : Bool) → (length xs == n) ≡ b → length (cond b xs ys) ≡ n
    by true e = eqb-true (length xs) n e
    by false e = other

-- it is the first if that has so many, and else the second
pub of_size : {A : Type 0} → (xs ys : List A) (n : ℕ) → length xs ≡ n → cond (length xs == n) xs ys ≡ xs
of_size xs ys n e = rw (eq-eqb (length xs) n e) refl

pub not_of_size : {A : Type 0} → (xs ys : List A) (n : ℕ) → (length xs ≡ n → ⊥) → cond (length xs == n) xs ys ≡ ys
not_of_size xs ys n other = rw (ne_eqb (length xs) n other) refl

fixed_in_length : (width : ℕ) (w : Value-F Value) → length (fixed_in width w) ≡ width
fixed_in_length width (o.Bytes bytes) = either_length bytes (replicate width 0) width (length-replicate width 0)
fixed_in_length width _ = length-replicate width 0

-- a slot of a fixed width has as many bytes
pub fixed_length : (width : ℕ) (value : Value) → length (fixed_bytes width value) ≡ width
fixed_length width value = fixed_in_length width (out-Value value)

items_in_length : (size : ℕ) (w : Value-F Value) → length (fixed_items_in size w) ≡ size
items_in_length size (o.List values) = either_length values (replicate size v.Null) size (length-replicate size v.Null)
items_in_length size _ = length-replicate size v.Null

-- a slot of a fixed size gives as many items
pub fixed_items_length : (size : ℕ) (value : Value) → length (fixed_items size value) ≡ size
fixed_items_length size value = items_in_length size (out-Value value)

-- so do several
pub all_fixed_length : (size : ℕ) (vs : List Value) → length (all_fixed_items size vs) ≡ size * length vs
all_fixed_length size [] = omega arith
all_fixed_length size (value ∷ vs) =
    let e : size * suc (length vs) ≡ size + size * length vs = omega arith in
    let all = length-append (fixed_items size value) (all_fixed_items size vs) in
    omega (arith, e, all, fixed_items_length size value, all_fixed_length size vs)

-- ---- offsets

-- how long the runs of values are together
abbrev pub extents : OffsetUnit → List Value → ℕ
extents run [] = 0
extents run (v ∷ vs) = extent run v + extents run vs

pub ends_push : (run : OffsetUnit) (start : ℕ) (vs : List Value) (v : Value)
    → ends run start (vs ++ v ∷ []) ≡ ends run start vs ++ bytes_low_first 0 4 (start + extents run (vs ++ v ∷ []))
ends_push run start [] v =
    let same : start + extent run v ≡ start + (extent run v + 0) = omega arith in
    append-nil (bytes_low_first 0 4 (start + extent run v)) ∙ ap (λ (n : ℕ). bytes_low_first 0 4 n) same
ends_push run start (w ∷ vs) v =
    let here = bytes_low_first 0 4 (start + extent run w) in
    let same : start + extent run w + extents run (vs ++ v ∷ []) ≡ start + (extent run w + extents run (vs ++ v ∷ [])) = omega arith in
    ap (λ (bs : List ℕ). here ++ bs) (ends_push run (start + extent run w) vs v
    ∙ ap (λ (n : ℕ). ends run (start + extent run w) vs ++ bytes_low_first 0 4 n) same)
    ∙ sym (append_assoc here (ends run (start + extent run w) vs)
    (bytes_low_first 0 4 (start + (extent run w + extents run (vs ++ v ∷ [])))))

pub offsets_push : (run : OffsetUnit) (vs : List Value) (v : Value)
    → offsets run (vs ++ v ∷ []) ≡ offsets run vs ++ bytes_low_first 0 4 (extents run (vs ++ v ∷ []))
offsets_push run vs v =
    let same : 0 + extents run (vs ++ v ∷ []) ≡ extents run (vs ++ v ∷ []) = omega arith in
    ap (λ (bs : List ℕ). bytes_low_first 0 4 0 ++ bs)
    (ends_push run 0 vs v ∙ ap (λ (n : ℕ). ends run 0 vs ++ bytes_low_first 0 4 n) same)
    ∙ sym (append_assoc (bytes_low_first 0 4 0) (ends run 0 vs) (bytes_low_first 0 4 (extents run (vs ++ v ∷ []))))

-- the runs are as long as there is data
pub bytes_extents : (utf8 : Bool) (vs : List Value) → data_in (l.VariableBytes utf8) vs ≡ extents p.Bytes vs
bytes_extents utf8 [] = refl
bytes_extents utf8 (v ∷ vs) = ap (λ (n : ℕ). length (content v) + n) (bytes_extents utf8 vs)

pub items_extents : (vs : List Value) → data_in l.Lists vs ≡ extents p.Items vs
items_extents [] = refl
items_extents (v ∷ vs) = ap (λ (n : ℕ). length (items v) + n) (items_extents vs)

-- the data of some values and then others
pub data_append : (layout : Layout) (vs ws : List Value) → data_in layout (vs ++ ws) ≡ data_in layout vs + data_in layout ws
data_append layout [] ws = omega arith
data_append layout (v ∷ vs) ws = let more = data_append layout vs ws in omega (arith, more)

-- the items of one list more
pub items_next : (vs : List Value) (i : ℕ) → i < length vs
    → data_in l.Lists (take (i + 1) vs) ≡ data_in l.Lists (take i vs) + length (items (get_or vs i v.Null))
items_next vs i m =
    let all = data_append l.Lists (take i vs) (get_or vs i v.Null ∷ []) in
    let same = ap (data_in l.Lists) (take_more vs i v.Null m) in
    omega (arith, all, same)

-- ---- the values of children

items_append : (vs ws : List Value) → all_items (vs ++ ws) ≡ all_items vs ++ all_items ws
items_append [] ws = refl
items_append (v ∷ vs) ws = ap (λ (is : List Value). items v ++ is) (items_append vs ws)
    ∙ sym (append_assoc (items v) (all_items vs) (all_items ws))

fixed_append : (size : ℕ) (vs ws : List Value) → all_fixed_items size (vs ++ ws) ≡ all_fixed_items size vs ++ all_fixed_items size ws
fixed_append size [] ws = refl
fixed_append size (v ∷ vs) ws = ap (λ (is : List Value). fixed_items size v ++ is) (fixed_append size vs ws)
    ∙ sym (append_assoc (fixed_items size v) (all_fixed_items size vs) (all_fixed_items size ws))

parts_append : (j : ℕ) (vs ws : List Value) → all_parts j (vs ++ ws) ≡ all_parts j vs ++ all_parts j ws
parts_append j [] ws = refl
parts_append j (v ∷ vs) ws = ap (λ (ps : List Value). struct_member j v ∷ ps) (parts_append j vs ws)

-- what values and then others give to child j
pub below_append : (layout : Layout) (vs ws : List Value) (j : ℕ) → child_values layout (vs ++ ws) j ≡ child_values layout vs j
    ++ child_values layout ws j
below_append l.Lists vs ws j = items_append vs ws
below_append (l.FixedLists size) vs ws j = fixed_append size vs ws
below_append l.Structs vs ws j = parts_append j vs ws
below_append _ vs ws j = refl

-- no values give none
pub below_none : (layout : Layout) (j : ℕ) → child_values layout [] j ≡ []
below_none l.Null j = refl
below_none _ j = refl

-- ---- the offsets of a column

-- one offset more
pub offsets_more : (run : OffsetUnit) (vs : List Value) (v : Value) (end : ℕ) (old new : List ℕ) → end ≡ extents run (vs ++ v ∷ [])
    → old ≡ offsets run vs → new ≡ old ++ bytes_low_first 0 4 end → new ≡ offsets run (vs ++ v ∷ [])
offsets_more run vs v end old new size o n =
    n ∙ (ap (λ (k : ℕ). old ++ bytes_low_first 0 4 k) size
    ∙ (ap (λ (bs : List ℕ). bs ++ bytes_low_first 0 4 (extents run (vs ++ v ∷ []))) o ∙ sym (offsets_push run vs v)))

-- ---- a null

null_part : (j : ℕ) → struct_member j v.Null ≡ v.Null
unfolding V.out-Value denote.Hole.Carrier.out
null_part j = refl

null_items : items v.Null ≡ []
unfolding V.out-Value denote.Hole.Carrier.out
null_items = refl

null_fixed : (size : ℕ) → fixed_items size v.Null ≡ replicate size v.Null
unfolding V.out-Value denote.Hole.Carrier.out
null_fixed size = refl

-- what a null gives to each child
pub null_gives : (layout : Layout) (j : ℕ) → child_values layout (v.Null ∷ []) j ≡ replicate (nulls_below layout) v.Null
null_gives l.Structs j = ap (λ (w : Value). w ∷ []) (null_part j)
null_gives (l.FixedLists size) j = append-nil (fixed_items size v.Null) ∙ null_fixed size
null_gives l.Lists j = append-nil (items v.Null) ∙ null_items
null_gives _ j = refl

-- what so many nulls give to it
pub nulls_give : (layout : Layout) (count j : ℕ)
    → child_values layout (replicate count v.Null) j ≡ replicate (count * nulls_below layout) v.Null
nulls_give layout zero j =
    below_none layout j ∙ ap (λ (n : ℕ). replicate n v.Null) (let e : 0 ≡ 0 * nulls_below layout = omega arith in e)
nulls_give layout (suc n) j =
    below_append layout (v.Null ∷ []) (replicate n v.Null) j
    ∙ (ap (λ (vs : List Value). vs ++ child_values layout (replicate n v.Null) j) (null_gives layout j)
    ∙ (ap (λ (vs : List Value). replicate (nulls_below layout) v.Null ++ vs) (nulls_give layout n j)
    ∙ (replicate-append-replicate (nulls_below layout) (n * nulls_below layout) v.Null
    ∙ ap (λ (k : ℕ). replicate k v.Null)
    (let e : nulls_below layout + n * nulls_below layout ≡ suc n * nulls_below layout =
    omega (arith, suc-mul n (nulls_below layout)) in e))))

-- one null more behind so many
pub null_next : (values : List Value) (n : ℕ) → (values ++ replicate n v.Null) ++ v.Null ∷ [] ≡ values ++ replicate (n + 1) v.Null
null_next values n =
    append_assoc values (replicate n v.Null) (v.Null ∷ [])
    ∙ ap (λ (vs : List Value). values ++ vs) (replicate-append-replicate n 1 v.Null)

-- so many nulls are the first of more
pub nulls_first : (values : List Value) (n count : ℕ) → n ≤ count
    → values ++ replicate n v.Null ≡ values ++ take n (replicate count v.Null)
nulls_first values n count few = ap (λ (vs : List Value). values ++ vs) (sym (take-replicate n count v.Null few))

-- ---- a list, a struct, and another value

pub parts_are : (value : Value) (values : List Value) → value ≡ v.Struct values → (j : ℕ) → struct_member j value ≡ cell j values
unfolding out-Value roll-Value Carrier.roll
parts_are value values e j = ap (λ (w : Value). struct_member j w) e ∙ ap (λ (w : Value-F Value). part_in j w)
    (out-roll-Value (o.Struct values))

pub list_are : (value : Value) (values : List Value) → value ≡ v.List values → items value ≡ values
unfolding out-Value roll-Value Carrier.roll
list_are value values e = ap (λ (w : Value). items w) e ∙ ap (λ (w : Value-F Value). items_in w) (out-roll-Value (o.List values))

pub fixed_are : (size : ℕ) (value : Value) (values : List Value) → value ≡ v.List values → length values ≡ size
    → fixed_items size value ≡ values
unfolding out-Value roll-Value Carrier.roll
fixed_are size value values e same = ap (λ (w : Value). fixed_items size w) e
    ∙ (ap (fixed_items_in size) (out-roll-Value (o.List values)) ∙ of_size values (replicate size v.Null) size same)

no_fixed_in : (size : ℕ) (f : Value-F Value) → ((values : List Value) → f ≡ o.List values → length values ≡ size → ⊥)
    → fixed_items_in size f ≡ replicate size v.Null
no_fixed_in size (o.List values) other = not_of_size values (replicate size v.Null) size (other values refl)
no_fixed_in size _ other = refl

no_parts_in : (j : ℕ) (f : Value-F Value) → ((values : List Value) → f ≡ o.Struct values → ⊥) → part_in j f ≡ v.Null
no_parts_in j (o.Struct values) other = absurd (other values refl)
no_parts_in j _ other = refl

no_fixed : (size : ℕ) (value : Value) → ((values : List Value) → value ≡ v.List values → length values ≡ size → ⊥)
    → fixed_items size value ≡ replicate size v.Null
unfolding roll-Value Carrier.roll
no_fixed size value other = no_fixed_in size (out-Value value) (λ values e. other values (sym (roll-out-Value value) ∙ ap roll-Value e))

no_struct : (value : Value) → ((values : List Value) → value ≡ v.Struct values → ⊥) → (j : ℕ) → struct_member j value ≡ v.Null
unfolding roll-Value Carrier.roll
no_struct value other j = no_parts_in j (out-Value value) (λ values e. other values (sym (roll-out-Value value) ∙ ap roll-Value e))

-- what is no list of a fixed size gives as many nulls to the child of a column of such lists
pub fixed_gives : (layout : Layout) (size : ℕ) (value : Value) → layout ≡ l.FixedLists size
    → ((values : List Value) → value ≡ v.List values → length values ≡ size → ⊥) → (j : ℕ)
    → child_values layout (value ∷ []) j ≡ replicate (nulls_below layout) v.Null
fixed_gives layout size value e other j = rw e (append-nil (fixed_items size value) ∙ no_fixed size value other)

-- what is no struct gives a null to each child of a column of structs
pub struct_gives : (layout : Layout) (value : Value) → layout ≡ l.Structs → ((values : List Value) → value ≡ v.Struct values → ⊥)
    → (j : ℕ) → child_values layout (value ∷ []) j ≡ replicate (nulls_below layout) v.Null
struct_gives layout value e other j = rw e (ap (λ (w : Value). w ∷ []) (no_struct value other j))

-- what values give, behind the others
pub more_below : (layout : Layout) (vs ws : List Value) (more : ℕ → List Value) → ((j : ℕ) → child_values layout ws j ≡ more j)
    → ◌≡◌ {A = ℕ → List Value} (λ j. child_values layout vs j ++ more j) (child_values layout (vs ++ ws))
more_below layout vs ws more gives = λ d j. sym (below_append layout vs ws j
    ∙ ap (λ (given : List Value). child_values layout vs j ++ given) (gives j)) d

-- the items of a list behind the others
pub lists_more : (layout : Layout) (vs : List Value) (value : Value) (values : List Value) → layout ≡ l.Lists → items value ≡ values
    → ◌≡◌ {A = ℕ → List Value} (λ j. child_values layout vs j ++ values) (child_values layout (vs ++ value ∷ []))
lists_more layout vs value values e is =
    more_below layout vs (value ∷ []) (λ j. values) (λ j. rw e (append-nil (items value) ∙ is))

-- the same of a list of a fixed size
pub fixed_more : (layout : Layout) (size : ℕ) (vs : List Value) (value : Value) (values : List Value) → layout ≡ l.FixedLists size
    → fixed_items size value ≡ values
    → ◌≡◌ {A = ℕ → List Value} (λ j. child_values layout vs j ++ values) (child_values layout (vs ++ value ∷ []))
fixed_more layout size vs value values e is =
    more_below layout vs (value ∷ []) (λ j. values) (λ j. rw e (append-nil (fixed_items size value) ∙ is))

-- a part of a struct behind the others
pub structs_more : (layout : Layout) (vs : List Value) (value : Value) (next : ℕ → Value) → layout ≡ l.Structs
    → ((j : ℕ) → struct_member j value ≡ next j)
    → ◌≡◌ {A = ℕ → List Value} (λ j. child_values layout vs j ++ next j ∷ []) (child_values layout (vs ++ value ∷ []))
structs_more layout vs value next e is =
    more_below layout vs (value ∷ []) (λ j. next j ∷ []) (λ j. rw e (ap (λ (w : Value). w ∷ []) (is j)))

-- so many nulls behind the others
pub nulls_more : (layout : Layout) (vs : List Value) (value : Value) (count : ℕ) → count ≡ nulls_below layout
    → ((j : ℕ) → child_values layout (value ∷ []) j ≡ replicate (nulls_below layout) v.Null)
    → ◌≡◌ {A = ℕ → List Value} (λ j. child_values layout vs j ++ replicate count v.Null) (child_values layout (vs ++ value ∷ []))
nulls_more layout vs value count e gives =
    more_below layout vs (value ∷ []) (λ j. replicate count v.Null) (λ j. gives j ∙ ap (λ (n : ℕ). replicate n v.Null) (sym e))

-- ---- one value more in the buffers of a column

-- where no value is null each flag is set
pub all_valid : (vs : List Value) → nulls vs ≡ 0 → flags Valid vs ≡ replicate (length vs) true
all_valid [] none = refl
all_valid (v ∷ vs) none = first (is_set Valid v) none (λ e. all_valid vs e)
  where
    first : (b : Bool) → cond b 0 1 + nulls vs ≡ 0 → (nulls vs ≡ 0 → flags Valid vs ≡ replicate (length vs) true)
        → b ∷ flags Valid vs ≡ true ∷ replicate (length vs) true
    first true e more = ap (λ (fs : List Bool). true ∷ fs) (more (omega (arith, e)))
    first false e more = absurd (omega arith)

-- a bitmap is there where a value is null
pub some_null : (vs : List Value) → (nulls vs ≡ 0 → ⊥) → validity_bytes vs ≡ bitmap (flags Valid vs)
some_null vs some = rw (ne_eqb (nulls vs) 0 some) refl

pub no_nulls : (vs : List Value) → nulls vs ≡ 0 → validity_bytes vs ≡ []
no_nulls vs none = rw none refl

-- a valid value more where none is null
pub still_none : (vs : List Value) (v : Value) → nulls vs ≡ 0 → is_set Valid v ≡ true → validity_bytes (vs ++ v ∷ []) ≡ validity_bytes vs
still_none vs v none valid =
    let more : nulls (vs ++ v ∷ []) ≡ 0 = nulls_push vs v ∙ rw (none, valid) refl in
    no_nulls (vs ++ v ∷ []) more ∙ sym (no_nulls vs none)

pub bits_then : (vs : List Value) (v : Value) (new : List ℕ) (b : Bool) → b ≡ is_set Valid v → (nulls (vs ++ v ∷ []) ≡ 0 → ⊥)
    → new ≡ bitmap (flags Valid vs ++ b ∷ []) → new ≡ validity_bytes (vs ++ v ∷ [])
bits_then vs v new b same some e =
    e ∙ (ap (λ (f : Bool). bitmap (flags Valid vs ++ f ∷ [])) same
    ∙ (ap bitmap (sym (flags_push Valid vs v)) ∙ sym (some_null (vs ++ v ∷ []) some)))

-- a null more
pub null_more : (vs : List Value) (v : Value) → is_set Valid v ≡ false → nulls (vs ++ v ∷ []) ≡ 0 → ⊥
null_more vs v e none =
    let more = nulls_push vs v in
    let one : cond {A = ℕ} (is_set Valid v) 0 1 ≡ 1 = ap (λ (b : Bool). cond {A = ℕ} b 0 1) e in
    omega (arith, more, one, none)

-- as many nulls as before at least
pub nulls_stay : (vs : List Value) (v : Value) → (nulls vs ≡ 0 → ⊥) → nulls (vs ++ v ∷ []) ≡ 0 → ⊥
nulls_stay vs v some none = let more = nulls_push vs v in some (omega (arith, more, none))

-- ---- the nulls of a column

-- they are the values that are null, where the layout has a bitmap
pub marked_nulls : (layout : Layout) (vs : List Value) → has_validity layout ≡ true → column_nulls layout vs ≡ nulls vs
marked_nulls l.Null vs some = absurd cc
marked_nulls _ vs some = refl

pub other_nulls : (layout : Layout) (vs : List Value) → (layout ≡ l.Null → ⊥) → column_nulls layout vs ≡ nulls vs
other_nulls l.Null vs other = absurd (other refl)
other_nulls _ vs other = refl

-- without values there are none
pub none_null : (layout : Layout) → column_nulls layout [] ≡ 0
none_null l.Null = refl
none_null _ = refl

-- one value more
pub one_null : (layout : Layout) (vs : List Value) (v : Value)
    → column_nulls layout (vs ++ v ∷ []) ≡ column_nulls layout vs + cond (has_validity layout && is_set Valid v) 0 1
one_null l.Null vs v = length-append vs (v ∷ [])
one_null _ vs v = nulls_push vs v

-- ---- layouts with a bitmap

pub has_bitmap : (layout : Layout) (vs : List Value) → has_validity layout ≡ true → validity_in layout vs ≡ validity_bytes vs
has_bitmap l.Null vs some = absurd cc
has_bitmap _ vs some = refl

pub no_bitmap : (layout : Layout) (vs : List Value) → has_validity layout ≡ false → validity_in layout vs ≡ []
no_bitmap l.Null vs none = refl
no_bitmap _ vs none = absurd cc

-- a column of one layout is one of the same layout
pub laid_as : {column : ColumnBuilder} → (known : Numbering) (limits : Limits) (lay layout : Layout) (vs : List Value) → lay ≡ layout
    → IsColumn known limits lay vs column
    → IsColumn known limits layout vs column
laid_as {column} known limits lay layout vs e h = subst (λ (x : Layout). IsColumn known limits x vs column) e h

-- ---- a column without values

pub validity_none : (layout : Layout) → validity_in layout [] ≡ []
validity_none l.Null = refl
validity_none _ = refl
