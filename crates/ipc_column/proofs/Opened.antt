-- What a value is made of.
use Rattle.std.proofs.Common.{◌≡◌, ◌∙◌, sym, ap, ℕ, Bool, List}
use Rattle.std.specs.Prelude.{ℤ}
use Rattle.ipc_model.specs.declared.value.Value.{Value, out-Value, out-roll-Value}
use Rattle.ipc_model.specs.declared.value.Value.TheOpen.{Value-F}
use Rattle.ipc_model.specs.declared.value.Value.TheVariants as v

pub null_out : out-Value v.Null ≡ Value-F.Null
null_out = ap out-Value (sym v.rolls-Null) ∙ out-roll-Value Value-F.Null

pub truth_out : (b : Bool) → out-Value (v.Bool b) ≡ Value-F.Bool b
truth_out b = ap out-Value (sym (v.rolls-Bool b)) ∙ out-roll-Value (Value-F.Bool b)

pub signed_out : (z : ℤ) → out-Value (v.Int z) ≡ Value-F.Int z
signed_out z = ap out-Value (sym (v.rolls-Int z)) ∙ out-roll-Value (Value-F.Int z)

pub unsigned_out : (n : ℕ) → out-Value (v.UInt n) ≡ Value-F.UInt n
unsigned_out n = ap out-Value (sym (v.rolls-UInt n)) ∙ out-roll-Value (Value-F.UInt n)

pub bytes_out : (bs : List ℕ) → out-Value (v.Bytes bs) ≡ Value-F.Bytes bs
bytes_out bs = ap out-Value (sym (v.rolls-Bytes bs)) ∙ out-roll-Value (Value-F.Bytes bs)

pub text_out : (bs : List ℕ) → out-Value (v.Text bs) ≡ Value-F.Text bs
text_out bs = ap out-Value (sym (v.rolls-Text bs)) ∙ out-roll-Value (Value-F.Text bs)

pub list_out : (vs : List Value) → out-Value (v.List vs) ≡ Value-F.List vs
list_out vs = ap out-Value (sym (v.rolls-List vs)) ∙ out-roll-Value (Value-F.List vs)

pub struct_out : (vs : List Value) → out-Value (v.Struct vs) ≡ Value-F.Struct vs
struct_out vs = ap out-Value (sym (v.rolls-Struct vs)) ∙ out-roll-Value (Value-F.Struct vs)
