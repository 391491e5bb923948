-- Texts of dates and times (ISO 8601-1).
use Rattle.std.specs.Prelude.{◌≡◌, ◌==◌, ◌||◌, ℕ, Bool, true, List}
use Rattle.std.specs.Char.{is_ascii_alphanumeric}
use Rattle.std.specs.List.{AllByRecursion}

-- whether a byte is a digit, a letter, `-`, `.` or `:`. The texts of dates, times, numbers,
-- booleans and bytes consist of these
abbrev pub is_plain_byte : ℕ → Bool
is_plain_byte b = is_ascii_alphanumeric b || (b == 45) || (b == 46) || (b == 58)

-- the bytes are digits, letters and marks, as those of dates and times are. None of them is escaped
-- in a JSON text (RFC 8259, section 7) or needs quotes in CSV (RFC 4180)
abbrev pub IsPlain : List ℕ → Type 0
IsPlain text = AllByRecursion (λ b. is_plain_byte b ≡ true) text
