-- What input that is no stream looks like, by its first four bytes.
use Rattle.std.specs.Prelude.{◌==◌, ◌&&◌, ◌||◌, ℕ, Bool, false, nat_le, List, [], ◌∷◌, ◌++◌, codes}
use Rattle.std.specs.Prelude.{if◌then◌else◌}
use Rattle.std.specs.List.{starts_with}

-- whether the bytes z begin with the bytes of a mark
abbrev pub begins : List ℕ → List ℕ → Bool
begins z mark = starts_with (λ x y. x == y) z mark

-- whether a byte is a printable character of ASCII, a tab, or a part of the end of a line
abbrev pub is_text_byte : ℕ → Bool
is_text_byte b = (nat_le 32 b && nat_le b 126) || (b == 9) || (b == 10) || (b == 13)

-- whether the first four bytes are text
abbrev pub begins_text : List ℕ → Bool
begins_text (a ∷ b ∷ c ∷ d ∷ rest) =
    is_text_byte a && is_text_byte b && is_text_byte c && is_text_byte d
begins_text z = false

-- the words for the format of input with these first bytes, by the mark of the format; none if it
-- is not known. Gzip begins with 31 139 (RFC 1952), Zstandard with 40 181 47 253 (RFC 8878), LZ4
-- with 4 34 77 24 (LZ4 Frame Format), xz with 253 55 122 88 (The .xz File Format, section 2.1.1.1),
-- an Avro file with "Obj" and 1 (Apache Avro Specification, "Object Container Files")
abbrev pub format_words : List ℕ → List ℕ
format_words z =
    if begins z (codes "ARRO")
    then codes "an Arrow IPC file; its stream begins after 8 bytes, see tail -c +9"
    else (if begins z (codes "FEA1") then codes "a Feather V1 file"
    else (if begins z (codes "PAR1") then codes "a Parquet file"
    else (if begins z (31 ∷ 139 ∷ []) then codes "gzip; decompress it first"
    else (if begins z (40 ∷ 181 ∷ 47 ∷ 253 ∷ []) then codes "Zstandard; decompress it first"
    else (if begins z (4 ∷ 34 ∷ 77 ∷ 24 ∷ []) then codes "LZ4; decompress it first"
    else (if begins z (253 ∷ 55 ∷ 122 ∷ 88 ∷ []) then codes "xz; decompress it first"
    else (if begins z (codes "BZh") then codes "bzip2; decompress it first"
    else (if begins z (79 ∷ 98 ∷ 106 ∷ 1 ∷ []) then codes "an Avro file"
    else (if begins z (codes "<") then codes "XML, such as HTML or SVG"
    else (if begins z (codes "{") then codes "JSON text"
    else (if begins z (codes "[") then codes "JSON text"
    else (if begins_text z then codes "text; arrowstream from-csv reads CSV"
    else []))))))))))))

-- the line with these words; no line without words
abbrev pub format_line : List ℕ → List ℕ
format_line [] = []
format_line (w ∷ words) = codes "the input looks like " ++ (w ∷ words) ++ codes "\n"
