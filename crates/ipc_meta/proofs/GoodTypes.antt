-- A width that tables state is a signed number of 32 bits, so no type that is read is too wide.
use Rattle.std.proofs.Common.{◌≡◌, refl, ℕ, suc, ◌-◌, ◌^◌, ◌≤◌, Bool, true, false, arith}
use Rattle.std.specs.Prelude.{pos, negsuc, ◌<◌, nat_lt, List, Option, None, Some, Result, Ok, Err}
use Rattle.std.specs.Int.{w32, cast_signed}
use Rattle.std.proofs.lemmas.Bool.Decides.{nat_tests}
use Rattle.ipc_scalar.specs.Bytes.{int32}
use Rattle.ipc_flat.specs.Flat.{field_place}
use Rattle.ipc_flat.specs.declared.fault.FlatFault.{FlatFault}
use Rattle.ipc_flat.specs.Views.{TableView, or_default, scalar}
use Rattle.ipc_flat.specs.Faulty.{◌>>=◌}
use Rattle.ipc_model.specs.WellFormed.{HasGoodType}
use Rattle.ipc_model.specs.declared.schema.DataType.{DataType}
use Rattle.ipc_model.specs.declared.schema.DataType.TheVariants as type
use Rattle.ipc_meta.specs.Types.{TypeAt}

signed_small : (m n : ℕ) → cast_signed w32 m ≡ pos n → n ≤ 2 ^ 31 - 1
signed_small m n h = go (nat_lt m (2 ^ 31)) refl
  where
    go : (c : Bool) → nat_lt m (2 ^ 31) ≡ c → n ≤ 2 ^ 31 - 1
    go true is = let small : m < 2 ^ 31 = grind (arith, nat_tests) in let same : pos m ≡ pos n = rw is at h in let e : m ≡ n =
        cc in omega (arith, small, e)
    go false is = let bad : negsuc (2 ^ 32 - suc m) ≡ pos n = rw is at h in absurd (cc)

stated_small : (b : List ℕ) (o : Option ℕ) (n : ℕ) → or_default (int32 b) (pos 0) o ≡ pos n → n ≤ 2 ^ 31 - 1
stated_small b None n h = let e : 0 ≡ n = cc in omega (arith, e)
stated_small b (Some p) n h = signed_small _ n h

-- a number of 32 bits that a table states in its first field is not above the greatest, where it isn't negative
stated : (t : TableView) (n : ℕ) → scalar t 0 4 int32 (pos 0) ≡ Ok (pos n) → n ≤ 2 ^ 31 - 1
unfolding scalar
stated t n i = within (field_place t.bytes t.at 0 4) i
  where
    within : (r : Result (Option ℕ) FlatFault) → (r >>= (λ o. Ok (or_default (int32 t.bytes) (pos 0) o))) ≡ Ok (pos n)
        → n ≤ 2 ^ 31 - 1
    within (Ok o) e = stated_small t.bytes o n (cc)
    within (Err d) e = absurd (cc)

-- a type that a Field table states is a good one: no fixed width or size of it is above 2^31 - 1
pub good_type : (t : TableView) (κ : DataType) → TypeAt κ t → HasGoodType κ
good_type t (type.FixedSizeBinary n) h = stated h.1.0 n h.1.2
good_type t (type.FixedSizeList n) h = stated h.1.0 n h.1.2
good_type t type.Null h = tt
good_type t (type.Int bits signed) h = tt
good_type t type.Binary h = tt
good_type t type.Utf8 h = tt
good_type t type.Bool h = tt
good_type t (type.Date unit) h = tt
good_type t (type.Time unit) h = tt
good_type t (type.Timestamp unit timezone) h = tt
good_type t (type.Duration unit) h = tt
good_type t type.List h = tt
good_type t type.Struct h = tt
