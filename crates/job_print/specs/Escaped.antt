-- Bytes that a JSON text contains unchanged (RFC 8259, section 7).
use Rattle.std.specs.Prelude.{ℕ, Bool, false, ◌||◌, ◌==◌, nat_lt, List, [], ◌∷◌}

-- a byte that is escaped: a control character, a quotation mark or a backslash
abbrev pub is_escaped : ℕ → Bool
is_escaped x = nat_lt x 32 || (x == 34 || x == 92)

-- one of the bytes is escaped
abbrev pub has_escaped : List ℕ → Bool
has_escaped [] = false
has_escaped (x ∷ xs) = is_escaped x || has_escaped xs
