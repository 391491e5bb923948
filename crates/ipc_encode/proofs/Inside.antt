-- Values whose inner values fit.
use Rattle.std.proofs.Common.{◌≡◌, ◌∙◌, refl, sym, ap, subst, List, [], ◌∷◌, length, Option, Some, None}
use Rattle.std.specs.List.{AllByRecursion}
use Rattle.std.specs.Prelude.{IfSome, option_copied, slice_get, ◌&&◌, Bool, true, false}
use Rattle.ipc_model.specs.Fits.{Fits, EachFits, InnerFit}
use Rattle.ipc_model.specs.declared.schema.DataType.{DataType}
use Rattle.ipc_model.specs.declared.schema.DataType.TheVariants as t
use Rattle.ipc_model.specs.declared.schema.Field.{Field, out-Field}
use Rattle.ipc_model.specs.declared.value.Value.{Value, out-Value}
use Rattle.ipc_model.specs.declared.value.Value.TheOpen.{Value-F}
use Rattle.ipc_model.specs.declared.value.Value.TheOpen as o
use Rattle.ipc_model.specs.declared.value.Value.TheVariants as v
use Rattle.std.proofs.Common.{ℕ, zero, suc, ◌≤◌, ◌++◌, get_or, arith}
use Rattle.ipc_column.proofs.FittingValues.{inside_fits}
use Rattle.ipc_column.proofs.Opened.{list_out, struct_out}
use Rattle.ipc_encode.specs.Cells.{cell}
use Rattle.ipc_encode.proofs.Sizes.{FirstFit, first_fit_next}
use Rattle.std.specs.Borrow.{Bor}
use Rattle.ipc_encode.specs.Fitting.{FitsOwn, FitsSome, InsideFits, IsInsideFit, ItemsFit}

list_inside : (kind : DataType) (fs : List Field) (vs : List Value) → InnerFit Fits t.List fs (o.List vs)
    → InnerFit Fits kind fs (o.List vs)
list_inside t.List fs vs h = h
list_inside (t.FixedSizeList size) [] vs h = tt
list_inside (t.FixedSizeList size) (f ∷ fs) vs h = h
list_inside _ fs vs h = tt

struct_inside : (kind : DataType) (fs : List Field) (vs : List Value) → EachFits Fits fs vs → InnerFit Fits kind fs (o.Struct vs)
struct_inside t.Struct fs vs h = h
struct_inside t.List [] vs h = tt
struct_inside t.List (f ∷ fs) vs h = tt
struct_inside (t.FixedSizeList size) [] vs h = tt
struct_inside (t.FixedSizeList size) (f ∷ fs) vs h = tt
struct_inside _ fs vs h = tt

pub out_list : (value : Value) (vs : List Value) → value ≡ v.List vs → out-Value value ≡ o.List vs
out_list value vs e = ap out-Value e ∙ list_out vs

pub out_struct : (value : Value) (vs : List Value) → value ≡ v.Struct vs → out-Value value ≡ o.Struct vs
out_struct value vs e = ap out-Value e ∙ struct_out vs

-- ---- fields that may be absent

pub and_true : (a b : Bool) → (a && b) ≡ true → (a ≡ true) × (b ≡ true)
and_true true b e = (refl, e)
and_true false b e = absurd cc

items_inner : (fs : List Field) (vs : List Value) → ItemsFit fs vs → InnerFit Fits t.List fs (o.List vs)
items_inner [] vs h = tt
items_inner (f ∷ fs) vs h = h

flat_inside : (kind : DataType) (fs : List Field) (w : Value-F Value) → ((vs : List Value) → w ≡ o.List vs → ⊥)
    → ((vs : List Value) → w ≡ o.Struct vs → ⊥) → InnerFit Fits kind fs w
flat_inside t.List [] w list struct = tt
flat_inside t.List (f ∷ fs) (o.List vs) list struct = absurd (list vs refl)
flat_inside t.List (f ∷ fs) w list struct = tt
flat_inside (t.FixedSizeList size) [] w list struct = tt
flat_inside (t.FixedSizeList size) (f ∷ fs) (o.List vs) list struct = absurd (list vs refl)
flat_inside (t.FixedSizeList size) (f ∷ fs) w list struct = tt
flat_inside t.Struct fs (o.Struct vs) list struct = absurd (struct vs refl)
flat_inside t.Struct fs w list struct = tt
flat_inside _ fs w list struct = tt

-- a value that is one of the field's own fits it where what is inside it fits its children
pub deep_fits : (field : Option Field) (value : Value) (fs : List Field) → FitsOwn field value
    → IfSome field (λ f. fs ≡ (out-Field f).children) → InsideFits fs value → FitsSome field value
deep_fits None value fs own those inside = own
deep_fits (Some f) value fs own those inside = by (out-Value value) refl inside
  where
    by : (w : Value-F Value) → out-Value value ≡ w → IsInsideFit fs w → Fits f value
    by (o.List vs) e h = inside_fits f value (o.List vs) e own (list_inside (out-Field f).kind (out-Field f).children vs
        (subst (λ (gs : List Field). InnerFit Fits t.List gs (o.List vs)) those (items_inner fs vs h)))
    by (o.Struct vs) e h = inside_fits f value (o.Struct vs) e own (struct_inside (out-Field f).kind (out-Field f).children vs
        (subst (λ (gs : List Field). EachFits Fits gs vs) those h))
    by w e h = inside_fits f value w e own (flat_inside (out-Field f).kind (out-Field f).children w
        (λ vs same. absurd cc) (λ vs same. absurd cc))

-- the items of a list fit where they fit the first field
pub items_fit : (fields : List Field) (items : List Value) → AllByRecursion (FitsSome (slice_get fields 0)) items → ItemsFit fields items
items_fit [] items h = tt
items_fit (f ∷ fs) items h = h

-- the next value fits the field at its index
pub next_fits : (i : ℕ) (fields : List Field) (row : List Value) (field : Option (Bor Field)) (v : Value)
    → IfSome field (λ f. f.now ≡ get_or fields i f.now) → v ≡ cell i row → FitsSome (option_copied field) v
    → FirstFit i fields row → FirstFit (suc i) fields row
next_fits i fields row None v at here one so = absurd one
next_fits i fields row (Some f) v at here one so =
    first_fit_next i fields row f.now v so
    (subst (λ (g : Field). Fits g (get_or row i v)) at
    (subst (λ (u : Value). Fits f.now u) (sym (same_or i row here)) one))
  where
    same_or : (j : ℕ) (values : List Value) → v ≡ cell j values → get_or values j v ≡ v
    same_or j [] e = refl
    same_or zero (w ∷ values) e = sym e
    same_or (suc j) (w ∷ values) e = same_or j values e

-- there is no next value where the row ends
pub no_next : (i : ℕ) (fields : List Field) (row : List Value) → length row ≤ i → FirstFit i fields row → FirstFit (suc i) fields row
no_next i [] row end so = tt
no_next i (f ∷ fields) [] end so = tt
no_next zero (f ∷ fields) (v ∷ row) end so = absurd (omega (arith, end))
no_next (suc i) (f ∷ fields) (v ∷ row) end so = (so.0, no_next i fields row (omega (arith, end)) so.1)

-- values of which each has a property, and one more
pub all_more : (P : Value → Type 0) (vs : List Value) (v : Value) → AllByRecursion P vs → P v → AllByRecursion P (vs ++ v ∷ [])
all_more P [] v h one = (one, tt)
all_more P (w ∷ vs) v h one = (h.0, all_more P vs v h.1 one)
