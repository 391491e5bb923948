-- The values that a column holds, at every level.
use Rattle.std.proofs.Common.{◌≡◌, refl, ap, ℕ, suc, Bool, true, false, List, [], ◌∷◌, ◌++◌, map, length, Option, Some, None, arith, ◌∙◌}
use Rattle.std.proofs.Common.{sym, subst, ◌+◌, zero, replicate, cond}
use Rattle.std.proofs.lemmas.Int.{ints}
use Rattle.std.proofs.lemmas.List.{length-map}
use Rattle.std.specs.List.{AllByRecursion}
use Rattle.std.specs.Prelude.{ℤ, not, ⊤, ◌==◌}
use Rattle.ipc_model.proofs.FitsLemmas.{fits_roll}
use Rattle.ipc_model.specs.Entries.{Listing, preorder, preorder_step, all_at, entries}
use Rattle.ipc_model.specs.Fits.{FitsOwnType, EachFits, InnerFit, Fits, RowFits, fits_step}
use Rattle.ipc_model.specs.Layouts.{layout, type_layout, time_bits}
use Rattle.ipc_model.specs.Ranges.{width, IsSignedWithin, IsTimeOfDay}
use Rattle.ipc_model.specs.WellFormed.{HasFittingChildren, IsFieldWellFormed}
use Rattle.ipc_model.specs.declared.layout.Layout.{Layout}
use Rattle.ipc_model.specs.declared.limits.Limits.{Limits}
use Rattle.ipc_model.specs.declared.schema.DataType.{DataType}
use Rattle.ipc_model.specs.declared.schema.DataType.TheVariants as t
use Rattle.ipc_model.specs.declared.schema.DateUnit.TheVariants.{Day, Millisecond}
use Rattle.ipc_model.specs.declared.schema.Dictionary.{Dictionary}
use Rattle.ipc_model.specs.declared.schema.Field.{Field, roll-Field, ind-Field, fold-roll-Field, map-Field}
use Rattle.ipc_model.specs.declared.schema.Field.TheOpen.{Field-F}
use Rattle.ipc_model.specs.declared.schema.TimeUnit.{TimeUnit}
use Rattle.ipc_model.specs.declared.schema.TimeUnit.TheVariants as u
use Rattle.ipc_model.specs.declared.value.Value.{Value, out-Value, out-roll-Value}
use Rattle.ipc_model.specs.declared.value.Value.TheOpen.{Value-F}
use Rattle.ipc_model.specs.declared.value.Value.TheVariants as v
use Rattle.ipc_column.specs.Shapes.{Shape, bare, field, shapes, field_shape, shape_of, shape_step, field_layout, child_shape}
use Rattle.ipc_encode.specs.Buffers.{child_values, row_columns}
use Rattle.ipc_encode.specs.Cells.{is_null, cell, cells, items, items_in, all_items, struct_member, part_in, all_parts, fixed_items}
use Rattle.ipc_encode.specs.Cells.{fixed_items_in, all_fixed_items}
use Rattle.ipc_encode.proofs.ReadbackParts.{Holds, AllHeld, HasItsChild}

-- ---- which values a column's layout holds

-- how many fields stand side by side
abbrev pub across : Shape → ℕ
across bare = 0
across (field l children rest) = suc (across rest)

-- a field's shape has each of them
pub across_is : (fs : List Field) → across (shapes (map field_shape fs)) ≡ length fs
across_is [] = refl
across_is (f ∷ fs) = ap (λ (n : ℕ). suc n) (across_is fs)

-- a layout with so many children, which has the child that it needs, holds the values
abbrev pub ColumnHeld : Layout → ℕ → List Value → Type 0
ColumnHeld l n vs = HasItsChild l n × AllHeld l n vs

-- the layouts of a shape hold the values that are given, and those below them
abbrev pub ColumnsHeld : Shape → (ℕ → List Value) → Type 0
ColumnsHeld bare given = ⊤
ColumnsHeld (field l children rest) given = ColumnHeld l (across children) (given 0)
    × (ColumnsHeld children (child_values l (given 0)) × ColumnsHeld rest (λ j. given (suc j)))

-- ---- facts of all

-- what follows of a fact of each element follows of the fact of all
pub all_one : {X : Type 0} (P R : X → Type 0) → ((x : X) → P x → R x) → (xs : List X) → AllByRecursion P xs → AllByRecursion R xs
all_one P R f [] p = tt
all_one P R f (x ∷ xs) p = (f x p.0, all_one P R f xs p.1)

-- a fact of two lists is one of both behind each other
pub all_both : {X : Type 0} (P : X → Type 0) (xs ys : List X) → AllByRecursion P xs → AllByRecursion P ys → AllByRecursion P (xs ++ ys)
all_both P [] ys p q = q
all_both P (x ∷ xs) ys p q = (p.0, all_both P xs ys p.1 q)

-- what holds of two lists behind each other holds of the first
pub all_left : {X : Type 0} (P : X → Type 0) (xs ys : List X) → AllByRecursion P (xs ++ ys) → AllByRecursion P xs
all_left P [] ys h = tt
all_left P (x ∷ xs) ys h = (h.0, all_left P xs ys h.1)

-- and of the second
pub all_right : {X : Type 0} (P : X → Type 0) (xs ys : List X) → AllByRecursion P (xs ++ ys) → AllByRecursion P ys
all_right P [] ys h = h
all_right P (x ∷ xs) ys h = all_right P xs ys h.1

-- ---- a value of a type

-- a time of day fits the bits of its unit
time_fits : (unit : TimeUnit) (z : ℤ) → IsTimeOfDay unit z → IsSignedWithin (width (time_bits unit)) z
time_fits u.Second z h = let from = h.0 in let to = h.1 in (omega (arith, ints), omega (arith, ints))
time_fits u.Millisecond z h = let from = h.0 in let to = h.1 in (omega (arith, ints), omega (arith, ints))
time_fits u.Microsecond z h = let from = h.0 in let to = h.1 in (omega (arith, ints), omega (arith, ints))
time_fits u.Nanosecond z h = let from = h.0 in let to = h.1 in (omega (arith, ints), omega (arith, ints))

-- a value of a type's own is held by its layout
pub held : (kind : DataType) (nullable : Bool) (n : ℕ) (w : Value-F Value) → HasFittingChildren kind n → FitsOwnType kind nullable n w
    → Holds (type_layout kind) n w
held t.List nullable n Value-F.Null c h = tt
held t.List nullable n (Value-F.List values) c h = c
held t.List nullable n _ c h = absurd h
held (t.FixedSizeList size) nullable n Value-F.Null c h = tt
held (t.FixedSizeList size) nullable n (Value-F.List values) c h = (h, c)
held (t.FixedSizeList size) nullable n _ c h = absurd h
held t.Struct nullable n Value-F.Null c h = tt
held t.Struct nullable n (Value-F.Struct values) c h = h
held t.Struct nullable n _ c h = absurd h
held t.Null nullable n Value-F.Null c h = tt
held t.Null nullable n _ c h = absurd h
held t.Bool nullable n Value-F.Null c h = tt
held t.Bool nullable n (Value-F.Bool truth) c h = tt
held t.Bool nullable n _ c h = absurd h
held (t.Int bits true) nullable n Value-F.Null c h = tt
held (t.Int bits true) nullable n (Value-F.Int z) c h = h
held (t.Int bits true) nullable n _ c h = absurd h
held (t.Int bits false) nullable n Value-F.Null c h = tt
held (t.Int bits false) nullable n (Value-F.UInt k) c h = h
held (t.Int bits false) nullable n _ c h = absurd h
held t.Binary nullable n Value-F.Null c h = tt
held t.Binary nullable n (Value-F.Bytes bytes) c h = tt
held t.Binary nullable n _ c h = absurd h
held t.Utf8 nullable n Value-F.Null c h = tt
held t.Utf8 nullable n (Value-F.Text text) c h = tt
held t.Utf8 nullable n _ c h = absurd h
held (t.FixedSizeBinary width) nullable n Value-F.Null c h = tt
held (t.FixedSizeBinary width) nullable n (Value-F.Bytes bytes) c h = h
held (t.FixedSizeBinary width) nullable n _ c h = absurd h
held (t.Date Day) nullable n Value-F.Null c h = tt
held (t.Date Day) nullable n (Value-F.Int z) c h = h
held (t.Date Day) nullable n _ c h = absurd h
held (t.Date Millisecond) nullable n Value-F.Null c h = tt
held (t.Date Millisecond) nullable n (Value-F.Int z) c h = h.0
held (t.Date Millisecond) nullable n _ c h = absurd h
held (t.Time unit) nullable n Value-F.Null c h = tt
held (t.Time unit) nullable n (Value-F.Int z) c h = time_fits unit z h
held (t.Time unit) nullable n _ c h = absurd h
held (t.Timestamp unit timezone) nullable n Value-F.Null c h = tt
held (t.Timestamp unit timezone) nullable n (Value-F.Int z) c h = h
held (t.Timestamp unit timezone) nullable n _ c h = absurd h
held (t.Duration unit) nullable n Value-F.Null c h = tt
held (t.Duration unit) nullable n (Value-F.Int z) c h = h
held (t.Duration unit) nullable n _ c h = absurd h

-- null is held by the layout of every type
null_held : (kind : DataType) (n : ℕ) → Holds (type_layout kind) n Value-F.Null
null_held (t.Int bits true) n = tt
null_held (t.Int bits false) n = tt
null_held (t.Date Day) n = tt
null_held (t.Date Millisecond) n = tt
null_held _ n = tt

value_held : (kind : DataType) (nullable : Bool) (n : ℕ) (w : Value-F Value) → HasFittingChildren kind n → (not (is_null w) ≡ true
    → FitsOwnType kind nullable n w) → Holds (type_layout kind) n w
value_held kind nullable n Value-F.Null c h = null_held kind n
value_held kind nullable n (Value-F.Bool truth) c h = held kind nullable n (Value-F.Bool truth) c (h refl)
value_held kind nullable n (Value-F.Int z) c h = held kind nullable n (Value-F.Int z) c (h refl)
value_held kind nullable n (Value-F.UInt k) c h = held kind nullable n (Value-F.UInt k) c (h refl)
value_held kind nullable n (Value-F.Bytes bytes) c h = held kind nullable n (Value-F.Bytes bytes) c (h refl)
value_held kind nullable n (Value-F.Text text) c h = held kind nullable n (Value-F.Text text) c (h refl)
value_held kind nullable n (Value-F.List values) c h = held kind nullable n (Value-F.List values) c (h refl)
value_held kind nullable n (Value-F.Struct values) c h = held kind nullable n (Value-F.Struct values) c (h refl)

-- where the children fit a type, its layout has the child that it needs
has_child : (kind : DataType) (n : ℕ) → HasFittingChildren kind n → HasItsChild (type_layout kind) n
has_child (t.FixedSizeList size) n c = c
has_child (t.Date Day) n c = tt
has_child (t.Date Millisecond) n c = tt
has_child _ n c = tt

-- values of which each is null or one of a field's own are held by its layout
pub values_held : (kind : DataType) (d : Option Dictionary) (nullable : Bool) (n : ℕ) (vs : List Value)
    → HasFittingChildren kind n → AllByRecursion (λ v. not (is_null (out-Value v)) ≡ true → FitsOwnType kind nullable n (out-Value v)) vs
    → ColumnHeld (layout kind d) n vs
values_held kind None nullable n vs c h = (
  has_child kind n c,
  all_one (λ v. not (is_null (out-Value v)) ≡ true → FitsOwnType kind nullable n (out-Value v))
      (λ v. Holds (type_layout kind) n (out-Value v)) (λ v own. value_held kind nullable n (out-Value v) c own) vs h,
)
values_held kind (Some d) nullable n vs c h =
    (tt, all_one (λ v. not (is_null (out-Value v)) ≡ true → FitsOwnType kind nullable n (out-Value v)) (λ v. ⊤) (λ v own. tt) vs h)

-- ---- rows that fit their fields have columns that hold them, and so have the values below them

-- ---- values that stand in a column

-- the value isn't null
abbrev IsThere : Value → Type 0
IsThere value = not (is_null (out-Value value)) ≡ true

-- A value may stand in the column of a field: it fits, unless it is null. Below a null struct null stands in each child, nullable or not.
abbrev pub Stands : Field → Value → Type 0
Stands f value = IsThere value → Fits f value

-- each column's values may stand in it
abbrev pub AllStand : List Field → (ℕ → List Value) → Type 0
AllStand [] given = ⊤
AllStand (f ∷ fs) given = AllByRecursion (Stands f) (given 0) × AllStand fs (λ j. given (suc j))

null_stands : (f : Field) → Stands f v.Null
null_stands f there =
    let e : out-Value v.Null ≡ Value-F.Null = ap out-Value (sym v.rolls-Null) ∙ out-roll-Value Value-F.Null in
    absurd (let no : not (is_null (out-Value v.Null)) ≡ false = rw e refl in cc)

-- no values may stand anywhere
none_stand : (fs : List Field) → AllStand fs (λ j. [])
none_stand [] = tt
none_stand (f ∷ fs) = (tt, none_stand fs)

-- ---- the parts of a struct, and the cells of a row

-- the values side by side may each stand in its field's column
abbrev PartsStand : List Field → (ℕ → Value) → Type 0
PartsStand [] at = ⊤
PartsStand (f ∷ fs) at = Stands f (at 0) × PartsStand fs (λ j. at (suc j))

nulls_stand : (fs : List Field) → PartsStand fs (λ j. v.Null)
nulls_stand [] = tt
nulls_stand (f ∷ fs) = (null_stands f, nulls_stand fs)

cells_stand : (fs : List Field) (row : List Value) → EachFits Fits fs row → PartsStand fs (λ j. cell j row)
cells_stand [] row h = tt
cells_stand (f ∷ fs) [] h = nulls_stand (f ∷ fs)
cells_stand (f ∷ fs) (value ∷ row) h = (λ there. h.0, cells_stand fs row h.1)

parts_stand : (fs : List Field) (w : Value-F Value) → (not (is_null w) ≡ true → InnerFit Fits t.Struct fs w)
    → PartsStand fs (λ j. part_in j w)
parts_stand fs (Value-F.Struct parts) h = cells_stand fs parts (h refl)
parts_stand fs _ h = nulls_stand fs

all_map : {X : Type 0} (P : Value → Type 0) (f : X → Value) (xs : List X) → AllByRecursion (λ x. P (f x)) xs → AllByRecursion P (map f xs)
all_map P f [] h = tt
all_map P f (x ∷ xs) h = (h.0, all_map P f xs h.1)

-- values side by side for each element make columns
columns_stand : {X : Type 0} (at : ℕ → X → Value) (fs : List Field) (xs : List X) → AllByRecursion (λ x. PartsStand fs (λ j. at j x)) xs
    → AllStand fs (λ j. map (at j) xs)
columns_stand at [] xs h = tt
columns_stand at (f ∷ fs) xs h = (
  all_map (Stands f) (at 0) xs (all_one (λ x. PartsStand (f ∷ fs) (λ j. at j x)) (λ x. Stands f (at 0 x)) (λ x here. here.0) xs h),
  columns_stand (λ j. at (suc j)) fs xs
      (all_one (λ x. PartsStand (f ∷ fs) (λ j. at j x)) (λ x. PartsStand fs (λ j. at (suc j) x)) (λ x here. here.1) xs h),
)

parts_are : (j : ℕ) (vs : List Value) → map (struct_member j) vs ≡ all_parts j vs
parts_are j [] = refl
parts_are j (value ∷ vs) = ap (λ (ws : List Value). struct_member j value ∷ ws) (parts_are j vs)

cells_are : (j : ℕ) (rows : List (List Value)) → map (cell j) rows ≡ cells j rows
cells_are j [] = refl
cells_are j (row ∷ rows) = ap (λ (ws : List Value). cell j row ∷ ws) (cells_are j rows)

structs_stand : (fs : List Field) (vs : List Value) → AllByRecursion (λ x. IsThere x → InnerFit Fits t.Struct fs (out-Value x)) vs
    → AllStand fs (λ j. all_parts j vs)
structs_stand fs vs h =
    let each = all_one (λ x. IsThere x → InnerFit Fits t.Struct fs (out-Value x)) (λ x. PartsStand fs (λ j. struct_member j x))
    (λ x inner. parts_stand fs (out-Value x) inner) vs h in
    subst (λ (given : ℕ → List Value). AllStand fs given) (λ d j. parts_are j vs d) (columns_stand struct_member fs vs each)

-- the columns of rows that fit
pub rows_stand : (fs : List Field) (rows : List (List Value)) → AllByRecursion (RowFits fs) rows → AllStand fs (row_columns rows)
rows_stand fs rows h =
    let each = all_one (RowFits fs) (λ row. PartsStand fs (λ j. cell j row)) (λ row fits. cells_stand fs row fits.1) rows h in
    subst (λ (given : ℕ → List Value). AllStand fs given) (λ d j. cells_are j rows d) (columns_stand cell fs rows each)

-- ---- the items of lists

items_stand : (f : Field) (w : Value-F Value) → (not (is_null w) ≡ true → InnerFit Fits t.List (f ∷ []) w)
    → AllByRecursion (Stands f) (items_in w)
items_stand f (Value-F.List values) h = all_one (Fits f) (Stands f) (λ x fits there. fits) values (h refl)
items_stand f _ h = tt

all_items_stand : (f : Field) (vs : List Value) → AllByRecursion (λ x. IsThere x → InnerFit Fits t.List (f ∷ []) (out-Value x)) vs
    → AllByRecursion (Stands f) (all_items vs)
all_items_stand f [] h = tt
all_items_stand f (value ∷ vs) h =
    all_both (Stands f) (items value) (all_items vs) (items_stand f (out-Value value) h.0) (all_items_stand f vs h.1)

lists_stand : (fs : List Field) (vs : List Value) → length fs ≡ 1
    → AllByRecursion (λ x. IsThere x → InnerFit Fits t.List fs (out-Value x)) vs → AllStand fs (λ j. all_items vs)
lists_stand [] vs one h = tt
lists_stand (f ∷ []) vs one h = (all_items_stand f vs h, tt)
lists_stand (f ∷ g ∷ fs) vs one h = absurd (omega arith)

-- ---- the items of lists of a fixed size

-- nulls may stand in every column
fill_stands : (f : Field) (n : ℕ) → AllByRecursion (Stands f) (replicate n v.Null)
fill_stands f zero = tt
fill_stands f (suc n) = (null_stands f, fill_stands f n)

fixed_items_stand : (size : ℕ) (f : Field) (w : Value-F Value)
    → (not (is_null w) ≡ true → InnerFit Fits (t.FixedSizeList size) (f ∷ []) w) → AllByRecursion (Stands f) (fixed_items_in size w)
fixed_items_stand size f (Value-F.List values) h = by (length values == size)
  where
    by : (b : Bool) → AllByRecursion (Stands f) (cond b values (replicate size v.Null))
    by true = all_one (Fits f) (Stands f) (λ x fits there. fits) values (h refl)
    by false = fill_stands f size
fixed_items_stand size f _ h = fill_stands f size

all_fixed_stand : (size : ℕ) (f : Field) (vs : List Value)
    → AllByRecursion (λ x. IsThere x → InnerFit Fits (t.FixedSizeList size) (f ∷ []) (out-Value x)) vs
    → AllByRecursion (Stands f) (all_fixed_items size vs)
all_fixed_stand size f [] h = tt
all_fixed_stand size f (value ∷ vs) h =
    all_both (Stands f) (fixed_items size value) (all_fixed_items size vs) (fixed_items_stand size f (out-Value value) h.0)
    (all_fixed_stand size f vs h.1)

fixed_lists_stand : (size : ℕ) (fs : List Field) (vs : List Value) → length fs ≡ 1
    → AllByRecursion (λ x. IsThere x → InnerFit Fits (t.FixedSizeList size) fs (out-Value x)) vs
    → AllStand fs (λ j. all_fixed_items size vs)
fixed_lists_stand size [] vs one h = tt
fixed_lists_stand size (f ∷ []) vs one h = (all_fixed_stand size f vs h, tt)
fixed_lists_stand size (f ∷ g ∷ fs) vs one h = absurd (omega arith)

-- ---- the values below a column

-- what stands inside the values of a column may stand in the columns of its children
kind_below : (kind : DataType) (fs : List Field) (vs : List Value) → HasFittingChildren kind (length fs)
    → AllByRecursion (λ x. IsThere x → InnerFit Fits kind fs (out-Value x)) vs → AllStand fs (child_values (type_layout kind) vs)
kind_below t.List fs vs c h = lists_stand fs vs c h
kind_below t.Struct fs vs c h = structs_stand fs vs h
kind_below (t.FixedSizeList size) fs vs c h = fixed_lists_stand size fs vs c h
kind_below (t.Date Day) fs vs c h = none_stand fs
kind_below (t.Date Millisecond) fs vs c h = none_stand fs
kind_below _ fs vs c h = none_stand fs

below_stands : (kind : DataType) (d : Option Dictionary) (fs : List Field) (vs : List Value) → HasFittingChildren kind (length fs)
    → AllByRecursion (λ x. IsThere x → InnerFit Fits kind fs (out-Value x)) vs → AllStand fs (child_values (layout kind d) vs)
below_stands kind None fs vs c h = kind_below kind fs vs c h
below_stands kind (Some d) fs vs c h = none_stand fs

-- ---- fields

module _ (limits : Limits) where
  -- the field's column holds values that may stand in it, and so do the columns below it
  abbrev IsHeld : Field → Type 0
  IsHeld f = (d : ℕ) → AllByRecursion (IsFieldWellFormed limits) (preorder f d)
      → (vs : List Value) → AllByRecursion (Stands f) vs
      → ColumnHeld (field_layout f) (across (child_shape f)) vs × ColumnsHeld (child_shape f) (child_values (field_layout f) vs)

  abbrev Shown : Type 0
  Shown = (f : Field) × IsHeld f

  abbrev fields_of : List Shown → List Field
  fields_of cs = map (λ c. c.0) cs

  all_held : (cs : List Shown) (d : ℕ)
      → AllByRecursion (IsFieldWellFormed limits) (all_at d (map preorder (fields_of cs))) → (given : ℕ → List Value)
      → AllStand (fields_of cs) given → ColumnsHeld (shapes (map field_shape (fields_of cs))) given
  all_held [] d fine given h = tt
  all_held (c ∷ cs) d fine given h =
      let more = all_at d (map preorder (fields_of cs)) in
      let here = c.1 d (all_left (IsFieldWellFormed limits) (preorder c.0 d) more fine) (given 0) h.0 in
      let rest = all_held cs d (all_right (IsFieldWellFormed limits) (preorder c.0 d) more fine) (λ j. given (suc j)) h.1 in
      (here.0, (here.1, rest))

  layer_held : (y : Field-F Shown) → IsHeld (roll-Field (map-Field Shown Field (λ c. c.0) y))
  layer_held y = λ d fine vs h.
      let z : Field-F Field = map-Field Shown Field (λ c. c.0) y in
      let shape : field_shape (roll-Field z) ≡ (layout z.kind z.dictionary, shapes (map field_shape z.children)) =
      fold-roll-Field (Layout × Shape) shape_step z in
      let listed : AllByRecursion (IsFieldWellFormed limits) (preorder_step (map-Field Field Listing preorder z) d) =
      subst (λ (l : Listing). AllByRecursion (IsFieldWellFormed limits) (l d)) (fold-roll-Field Listing preorder_step z) fine in
      let fitting : HasFittingChildren z.kind (length z.children) =
      subst (λ (n : ℕ). HasFittingChildren z.kind n) (length-map z.children preorder) listed.0.fitting_children in
      let each : AllByRecursion (λ x. IsThere x → fits_step Field (λ g. g) Fits z x) vs =
      subst (λ (F : Value → Type 0). AllByRecursion (λ x. IsThere x → F x) vs) (fits_roll z) h in
      let owns = all_one (λ x. IsThere x → fits_step Field (λ g. g) Fits z x)
      (λ x. IsThere x → FitsOwnType z.kind z.nullable (length z.children) (out-Value x)) (λ x both there. (both there).0) vs each in
      let inner = all_one (λ x. IsThere x → fits_step Field (λ g. g) Fits z x)
      (λ x. IsThere x → InnerFit Fits z.kind z.children (out-Value x)) (λ x both there. (both there).1) vs each in
      let own = values_held z.kind z.dictionary z.nullable (length z.children) vs fitting owns in
      let under = all_held y.children (d + 1) listed.1 (child_values (layout z.kind z.dictionary) vs)
      (below_stands z.kind z.dictionary z.children vs fitting inner) in
      subst (λ (s : Layout × Shape). ColumnHeld s.0 (across s.1) vs × ColumnsHeld s.1 (child_values s.0 vs)) (sym shape) (
        subst (λ (n : ℕ). ColumnHeld (layout z.kind z.dictionary) n vs) (sym (across_is z.children)) own,
        under,
      )

  field_held : (f : Field) → IsHeld f
  field_held = ind-Field IsHeld (λ x y is. subst (λ z. IsHeld (roll-Field z)) is (layer_held y))

  fields_held : (fs : List Field) (d : ℕ) → AllByRecursion (IsFieldWellFormed limits) (all_at d (map preorder fs))
      → (given : ℕ → List Value) → AllStand fs given → ColumnsHeld (shape_of fs) given
  fields_held [] d fine given h = tt
  fields_held (f ∷ fs) d fine given h =
      let more = all_at d (map preorder fs) in
      let here = field_held f d (all_left (IsFieldWellFormed limits) (preorder f d) more fine) (given 0) h.0 in
      let rest = fields_held fs d (all_right (IsFieldWellFormed limits) (preorder f d) more fine) (λ j. given (suc j)) h.1 in
      (here.0, (here.1, rest))

  -- the columns of rows that fit hold them
  pub rows_held : (fs : List Field) (rows : List (List Value))
      → AllByRecursion (IsFieldWellFormed limits) (entries fs) → AllByRecursion (RowFits fs) rows
      → ColumnsHeld (shape_of fs) (row_columns rows)
  rows_held fs rows fine fits = fields_held fs 1 fine (row_columns rows) (rows_stand fs rows fits)
