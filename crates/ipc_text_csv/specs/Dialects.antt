-- Dialects of CSV (RFC 4180): the delimiter between fields and the text of null.
use Rattle.std.specs.Prelude.{◌≡◌, ◌==◌, ◌&&◌, ◌||◌, ◌%◌, ℕ, Bool, true, false, not, nat_lt}
use Rattle.std.specs.Prelude.{List, [], ◌∷◌, length, codes}
use Rattle.std.specs.Char.{is_ascii_digit, is_ascii_hexdigit}
use Rattle.std.specs.List.{list_all}
use Rattle.std.specs.Str.{bytes_eq}
use Rattle.csv.specs.Writing.{default_writer, needs_quotes, with_delimiter}
use Rattle.csv.specs.declared.writer.WriterBuilder.{WriterBuilder}
use Rattle.ipc_text_temporal.specs.ShortTexts.{is_plain_byte}

-- the crate `csv` writes by default, but with this byte between fields
abbrev pub writer : ℕ → WriterBuilder
writer delimiter = with_delimiter default_writer delimiter

-- whether a byte can stand between fields: it is ASCII, and none of NUL, line feed, carriage
-- return, the quotation mark, and the digits, letters and marks of values (`is_plain_byte`)
abbrev pub is_delimiter : ℕ → Bool
is_delimiter b =
    nat_lt b 128 && not (is_plain_byte b || (b == 0) || (b == 10) || (b == 13) || (b == 34))

-- whether a text begins as a number, a date or a time does: with a digit, or `-` and a digit
abbrev pub begins_number : List ℕ → Bool
begins_number [] = false
begins_number (b ∷ []) = is_ascii_digit b
begins_number (b ∷ c ∷ bs) = is_ascii_digit b || ((b == 45) && is_ascii_digit c)

-- whether a text is one or more pairs of hexadecimal digits, in either case, as that of bytes
abbrev pub is_hexadecimal : List ℕ → Bool
is_hexadecimal text =
    not (length text == 0) && (length text % 2 == 0) && list_all is_ascii_hexdigit text

-- whether values that are no texts can have a text like this one; the empty text is left out
abbrev pub is_like_value : List ℕ → Bool
is_like_value text =
    bytes_eq text (codes "true") || bytes_eq text (codes "false") || begins_number text
    || is_hexadecimal text

-- this delimiter and this text of null are a dialect: the delimiter can stand between fields, and
-- the text of null needs no quotes and is not like that of a value
pub record IsDialect (delimiter : ℕ) (null : List ℕ) : Type 0 where
  pub apart : is_delimiter delimiter ≡ true
  pub plain : needs_quotes (writer delimiter) null ≡ false
  pub other : is_like_value null ≡ false

-- the text of null in the standard dialect: a backslash and `N`
abbrev pub standard_null : List ℕ
standard_null = codes "\\N"
