-- The first entry that is no field.
use Rattle.std.proofs.Common.{◌≡◌, ◌<◌, ℕ, zero, suc, List, [], ◌∷◌, map, arith, length, take, get_or, sym, ap, subst}
use Rattle.std.proofs.Common.{Some}
use Rattle.std.specs.List.{AllByRecursion}
use Rattle.std.specs.Prelude.{slice_get}
use Rattle.serde_json.specs.View.{view}
use Rattle.serde_json.specs.declared.value.Value.{Value}
use Rattle.ipc_text_json.specs.SchemaErrors.{IsField}

-- one more field
pub one_more : (vs : List Value) (i : ℕ) (v : Value) → i < length vs → v ≡ get_or vs i v → IsField (view v)
    → AllByRecursion IsField (take i (map view vs)) → AllByRecursion IsField (take (suc i) (map view vs))
one_more [] i v less is p all = absurd (omega arith)
one_more (x ∷ xs) zero v less is p all = (subst (λ w. IsField (view w)) is p, tt)
one_more (x ∷ xs) (suc i) v less is p all = (all.0, one_more xs i v (omega arith) is p all.1)

-- the value with a number
pub at_number : (vs : List Value) (i : ℕ) (v : Value) → i < length vs → v ≡ get_or vs i v
    → slice_get (map view vs) i ≡ Some (view v)
at_number [] i v less is = absurd (omega arith)
at_number (x ∷ xs) zero v less is = ap (λ w. Some (view w)) (sym is)
at_number (x ∷ xs) (suc i) v less is = at_number xs i v (omega arith) is
