-- Bits packed into bytes (Arrow Columnar Format, "Validity bitmaps").
use Rattle.std.specs.Prelude.{ℕ, zero, suc, ◌+◌, ◌*◌, ◌/◌, Bool, List, [], ◌∷◌, length, take, drop}
use Rattle.std.specs.Prelude.{if◌then◌else◌}

-- the number whose bits are these flags, the least significant first
abbrev pub flags_number : List Bool → ℕ
flags_number [] = 0
flags_number (flag ∷ flags) = (if flag then 1 else 0) + 2 * flags_number flags

-- n bytes of flags, eight flags in a byte; the bits after the last flag are 0
abbrev pub flags_bytes : ℕ → List Bool → List ℕ
flags_bytes zero flags = []
flags_bytes (suc n) flags = flags_number (take 8 flags) ∷ flags_bytes n (drop 8 flags)

-- a bitmap with one bit for each flag, in as few bytes as these need
abbrev pub bitmap : List Bool → List ℕ
bitmap flags = flags_bytes ((length flags + 7) / 8) flags
