-- Columns without children are no longer than their rows.
use Rattle.std.proofs.Common.{◌≡◌, sym, ap, subst, ℕ, suc, ◌≤◌, Bool, true, false, List, [], ◌∷◌, length, arith}
use Rattle.std.proofs.Common.{inl, inr, refl, Option, None, Some}
use Rattle.std.specs.Prelude.{◌||◌, if◌then◌else◌}
use Rattle.std.specs.List.{list_any}
use Rattle.ipc_model.specs.declared.schema.DataType.{DataType}
use Rattle.ipc_model.specs.declared.schema.DataType.TheVariants as t
use Rattle.ipc_model.specs.declared.schema.DateUnit.TheVariants.{Day, Millisecond}
use Rattle.ipc_model.specs.declared.schema.Dictionary.{Dictionary}
use Rattle.ipc_model.specs.declared.schema.Field.{Field, out-Field}
use Rattle.ipc_model.specs.declared.schema.Field.TheFolds.{fold_out-Field}
use Rattle.ipc_model.specs.declared.value.Value.{Value}
use Rattle.ipc_model.specs.declared.layout.Layout.{Layout}
use Rattle.ipc_model.specs.declared.layout.Layout.TheVariants as l
use Rattle.ipc_model.specs.declared.limits.Limits.{Limits}
use Rattle.ipc_model.specs.Layouts.{layout}
use Rattle.ipc_column.specs.Shapes.{Shape, bare, field, field_shape, shape_step, shape_of}
use Rattle.ipc_encode.specs.Buffers.{child_values, row_columns}
use Rattle.ipc_encode.specs.Buffers.{SomeColumn}
use Rattle.ipc_encode.specs.Limits.{HasLongItems, HasLongNode, IsTooMany}
use Rattle.ipc_encode.proofs.Steps.{below_none, cells_length}
use Rattle.ipc_text_csv.specs.RowCsv.{flat_fault, is_nested}

-- no values make no node long
no_values : (most : ℕ) (shape : Shape) → HasLongNode most shape (λ j. []) → ⊥
no_values most bare h = h
no_values most (field l children rest) (inl own) = absurd (omega (arith, own))
no_values most (field l children rest) (inr (inl under)) =
    no_values most children (subst (λ (given : ℕ → List Value). HasLongNode most children given) (λ d j. below_none l j d) under)
no_values most (field l children rest) (inr (inr more)) = no_values most rest more

-- a column that gives no values to a child has no items
no_items : (l : Layout) (vs : List Value) → ((j : ℕ) → child_values l vs j ≡ []) → HasLongItems l vs → ⊥
no_items l.Lists vs none long = let size = ap length (none 0) in absurd (omega (arith, size, long))
no_items _ vs none long = long

-- no values are no items, at any level
no_items_below : (shape : Shape) → SomeColumn HasLongItems shape (λ j. []) → ⊥
no_items_below bare h = h
no_items_below (field l children rest) (inl own) = no_items l [] (below_none l) own
no_items_below (field l children rest) (inr (inl under)) =
    no_items_below children
    (subst (λ (given : ℕ → List Value). SomeColumn HasLongItems children given) (λ d j. below_none l j d) under)
no_items_below (field l children rest) (inr (inr more)) = no_items_below rest more

-- the values of a type without inner values give none to a child
flat_below : (kind : DataType) (d : Option Dictionary) (vs : List Value) (j : ℕ) → is_nested kind ≡ false
    → child_values (layout kind d) vs j ≡ []
flat_below kind (Some d) vs j e = refl
flat_below t.List None vs j e = absurd (cc)
flat_below (t.FixedSizeList size) None vs j e = absurd (cc)
flat_below t.Struct None vs j e = absurd (cc)
flat_below t.Null None vs j e = refl
flat_below t.Bool None vs j e = refl
flat_below (t.Int bits signed) None vs j e = refl
flat_below t.Binary None vs j e = refl
flat_below t.Utf8 None vs j e = refl
flat_below (t.FixedSizeBinary width) None vs j e = refl
flat_below (t.Date Day) None vs j e = refl
flat_below (t.Date Millisecond) None vs j e = refl
flat_below (t.Time unit) None vs j e = refl
flat_below (t.Timestamp unit timezone) None vs j e = refl
flat_below (t.Duration unit) None vs j e = refl

-- none of the types has inner values
abbrev pub AreFlat : List Field → Type 0
AreFlat fs = list_any (λ f. is_nested (out-Field f).kind) fs ≡ false

neither : (a b : Bool) → (a || b) ≡ false → (a ≡ false) × (b ≡ false)
neither false b e = (refl, e)
neither true b e = absurd (cc)

-- the layout of a field's column gives no values to a child, where the type has no inner values
flat_field : (f : Field) → is_nested (out-Field f).kind ≡ false → (vs : List Value) (j : ℕ) → child_values (field_shape f).0 vs j ≡ []
flat_field f flat =
    let laid : layout (out-Field f).kind (out-Field f).dictionary ≡ (field_shape f).0 =
    ap (λ (s : Layout × Shape). s.0) (sym (fold_out-Field (Layout × Shape) shape_step f)) in
    subst (λ (l : Layout). (vs : List Value) (j : ℕ) → child_values l vs j ≡ []) laid
    (λ vs j. flat_below (out-Field f).kind (out-Field f).dictionary vs j flat)

flat_items : (fs : List Field) (given : ℕ → List Value) → AreFlat fs → SomeColumn HasLongItems (shape_of fs) given → ⊥
flat_items [] given flat h = h
flat_items (f ∷ fs) given flat h =
    let both = neither (is_nested (out-Field f).kind) (list_any (λ g. is_nested (out-Field g).kind) fs) flat in
    one (field_shape f).0 (field_shape f).1 (flat_field f both.0) (λ more. flat_items fs (λ j. given (suc j)) both.1 more) h
  where
    one : (l : Layout) (children : Shape) → ((vs : List Value) (j : ℕ) → child_values l vs j ≡ [])
        → (SomeColumn HasLongItems (shape_of fs) (λ j. given (suc j)) → ⊥)
        → SomeColumn HasLongItems (field l children (shape_of fs)) given → ⊥
    one l children none rest (inl own) = no_items l (given 0) (none (given 0)) own
    one l children none rest (inr (inl under)) =
        no_items_below children
        (subst (λ (g : ℕ → List Value). SomeColumn HasLongItems children g) (λ d j. none (given 0) j d) under)
    one l children none rest (inr (inr more)) = rest more

flat_long : (most : ℕ) (fs : List Field) (given : ℕ → List Value) → AreFlat fs → ((j : ℕ) → length (given j) ≤ most)
    → HasLongNode most (shape_of fs) given → ⊥
flat_long most [] given flat few h = h
flat_long most (f ∷ fs) given flat few h =
    let kind = (out-Field f).kind in
    let dictionary = (out-Field f).dictionary in
    let both = neither (is_nested kind) (list_any (λ g. is_nested (out-Field g).kind) fs) flat in
    let laid : layout kind dictionary ≡ (field_shape f).0 =
    ap (λ (s : Layout × Shape). s.0) (sym (fold_out-Field (Layout × Shape) shape_step f)) in
    one (field_shape f).0 (field_shape f).1
    (subst (λ (l : Layout). (vs : List Value) (j : ℕ) → child_values l vs j ≡ []) laid (λ vs j. flat_below kind dictionary vs j both.0))
    (λ more. flat_long most fs (λ j. given (suc j)) both.1 (λ j. few (suc j)) more) h
  where
    one : (l : Layout) (children : Shape) → ((vs : List Value) (j : ℕ) → child_values l vs j ≡ [])
        → (HasLongNode most (shape_of fs) (λ j. given (suc j)) → ⊥) → HasLongNode most (field l children (shape_of fs)) given → ⊥
    one l children none rest (inl own) = let short = few 0 in absurd (omega (arith, own, short))
    one l children none rest (inr (inl under)) =
        no_values most children (subst (λ (g : ℕ → List Value). HasLongNode most children g) (λ d j. none (given 0) j d) under)
    one l children none rest (inr (inr more)) = rest more

-- rows of columns that CSV has a place for are too many only by themselves
pub flat_rows : (limits : Limits) (fs : List Field) (rows : List (List Value)) → AreFlat fs → length rows ≤ limits.slots
    → IsTooMany limits fs rows → ⊥
flat_rows limits fs rows flat few (inl many) = absurd (omega (arith, many, few))
flat_rows limits fs rows flat few (inr (inr items)) = flat_items fs (row_columns rows) flat items
flat_rows limits fs rows flat few (inr (inl long)) =
    flat_long limits.slots fs (row_columns rows) flat (λ j. let size = cells_length j rows in omega (arith, size, few)) long

first_none : {X : Type 0} (b : Bool) (x : X) (y : Option X) → (if b then Some x else y) ≡ None → b ≡ false
first_none false x y e = refl
first_none true x y e = absurd (cc)

-- columns that CSV has a place for
pub are_flat : (fs : List Field) → flat_fault fs ≡ None → AreFlat fs
are_flat fs e = first_none (list_any (λ f. is_nested (out-Field f).kind) fs) _ _ e
