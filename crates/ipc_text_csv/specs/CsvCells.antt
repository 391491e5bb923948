-- The values that the texts of CSV fields denote.
use Rattle.std.specs.Prelude.{ℕ, List, Option, Some, None, Result, Ok, Err}
use Rattle.hex.specs.Hex.{decode_of}
use Rattle.hex.specs.declared.error.FromHexError.{FromHexError}

-- the value that was read, if it could be
abbrev pub if_read : Result (List ℕ) FromHexError → Option (List ℕ)
if_read (Ok bytes) = Some bytes
if_read (Err fault) = None

-- the bytes whose hexadecimal digits these are, in either case (RFC 4648, section 8)
abbrev pub decoded_hex : List ℕ → Option (List ℕ)
decoded_hex text = if_read (decode_of text)
