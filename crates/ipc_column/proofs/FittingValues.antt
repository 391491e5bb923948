-- Values that fit a field.
use Rattle.std.proofs.Common.{◌≡◌, refl, sym, subst, List, [], ◌∷◌, length, arith}
use Rattle.ipc_model.proofs.FitsLemmas.{fits_parts}
use Rattle.ipc_model.specs.Fits.{Fits, FitsOwnType, InnerFit}
use Rattle.ipc_model.specs.declared.schema.DataType.{DataType}
use Rattle.ipc_model.specs.declared.schema.DataType.TheVariants as t
use Rattle.ipc_model.specs.declared.schema.Field.{Field, out-Field}
use Rattle.ipc_model.specs.declared.value.Value.{Value, out-Value}
use Rattle.ipc_model.specs.declared.value.Value.TheOpen.{Value-F}

-- a value that is one of the field's own fits it where what stands inside it fits the children
pub inside_fits : (f : Field) (v : Value) (w : Value-F Value) → out-Value v ≡ w
    → FitsOwnType (out-Field f).kind (out-Field f).nullable (length (out-Field f).children) (out-Value v)
    → InnerFit Fits (out-Field f).kind (out-Field f).children w → Fits f v
inside_fits f v w e own inner =
    subst (λ (T : Type 0). T) (sym (fits_parts f v))
    (own, subst (λ (u : Value-F Value). InnerFit Fits (out-Field f).kind (out-Field f).children u) (sym e) inner)

-- ---- fields without children

nothing_inside : (kind : DataType) (v : Value-F Value) → InnerFit Fits kind [] v
nothing_inside t.Struct (Value-F.Struct vs) = tt
nothing_inside _ v = tt

-- one of the field's own fits a field without children
pub own_fits : (f : Field) (v : Value) → length (out-Field f).children ≡ 0
    → FitsOwnType (out-Field f).kind (out-Field f).nullable (length (out-Field f).children) (out-Value v) → Fits f v
own_fits f v none own = inside_fits f v (out-Value v) refl own (inside (out-Field f).children none)
  where
    inside : (fs : List Field) → length fs ≡ 0 → InnerFit Fits (out-Field f).kind fs (out-Value v)
    inside [] e = nothing_inside (out-Field f).kind (out-Value v)
    inside (g ∷ gs) e = absurd (omega (arith, e))
