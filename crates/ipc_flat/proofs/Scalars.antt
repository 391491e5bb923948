use Rattle.std.proofs.Common.{◌≡◌, ℕ, List, get_or, arith}
use Rattle.ipc_scalar.specs.Bytes.{num}

-- a number of one byte is the byte
pub byte_is : (b : List ℕ) (p : ℕ) → num b p 1 ≡ get_or b p 0
unfolding num
byte_is b p = omega arith
