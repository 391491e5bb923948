-- Bytes that a text of JSON (RFC 8259, section 7) or a field of CSV (RFC 4180, section 2) contains
-- unchanged.
use Rattle.std.specs.Prelude.{◌≡◌, ◌≤◌, ◌<◌, ◌==◌, ◌||◌, ℕ, Bool, true, not, nat_lt, List, get_or}

-- a quotation mark, this byte or a control character
abbrev pub is_special : ℕ → ℕ → Bool
is_special mark x = (x == 34) || (x == mark) || nat_lt x 32

-- no byte from place i up to place j is special
abbrev pub ArePlain : ℕ → List ℕ → ℕ → ℕ → Type 0
ArePlain mark d i j = (k : ℕ) → i ≤ k → k < j → not (is_special mark (get_or d k 0)) ≡ true
