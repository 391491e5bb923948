-- The line for people that is printed after the line of a refused record of CSV.
use Rattle.std.specs.Prelude.{◌≡◌, ◌⊎◌, ◌≤◌, ℕ, zero, suc, List, [], ◌∷◌, ◌++◌, nat_lt}
use Rattle.std.specs.Prelude.{length, take, codes, decimal, slice_get, Some, if◌then◌else◌}
use Rattle.std.specs.Str.{IsCharBoundary, IsUtf8, is_utf8}
use Rattle.std.specs.Str.Lossy.{utf8_valid_len}
use Rattle.csv.specs.Records.{field_at}
use Rattle.hex.specs.Hex.{encode_lower}
use Rattle.serde_json.specs.Data.{string}
use Rattle.serde_json.specs.Written.{compact_text}
use Rattle.ipc_model.specs.declared.schema.Field.{Field, out-Field}
use Rattle.ipc_text_temporal.specs.declared.fault.TextFault.{TextFault}
use Rattle.ipc_text_temporal.specs.declared.fault.TextFault.TheVariants.{BadField, WrongFieldCount}
use Rattle.job_explain.specs.ColumnLines.{field_words}

-- how many bytes of a field are shown: at most 40, up to a boundary of characters
pub record IsExcerptLength (text : List ℕ) (count : ℕ) : Type 0 where
  pub few : count ≤ 40
  pub boundary : IsCharBoundary text count
  pub nearest : (i : ℕ) → suc count ≤ i → i ≤ 40 → IsCharBoundary text i → ⊥

-- the beginning of a field in the quotes of JSON (RFC 8259, section 7); bytes that are not UTF-8
-- are shown as hexadecimal digits
abbrev pub IsExcerpt : List ℕ → List ℕ → Type 0
IsExcerpt text shown = ((count : ℕ) × IsUtf8 text × IsExcerptLength text count
    × (shown ≡ compact_text (string (take count text))))
    ⊎ ((IsUtf8 text → ⊥) × (shown ≡ encode_lower (take 40 text)))

-- the ellipsis "…" in UTF-8, if more bytes of a field remain than are shown
abbrev pub ellipsis : List ℕ → List ℕ
ellipsis text = if nat_lt 40 (length text) then 226 ∷ 128 ∷ 166 ∷ [] else []

-- the words for the place of a byte, from 0, that is not UTF-8
abbrev pub place_words : ℕ → List ℕ
place_words place = codes " (not UTF-8 at byte " ++ decimal place ++ codes ")"

-- the words for the place of the first byte that is not UTF-8, if there is one
abbrev pub bad_byte_words : List ℕ → List ℕ
bad_byte_words text = if is_utf8 text then [] else place_words (utf8_valid_len text)

-- the words for a column: its name, its type as in the schema's JSON, and whether it has no nulls
abbrev pub column_words : Field → List ℕ
column_words f = codes "column " ++ field_words f
    ++ (if (out-Field f).nullable then [] else codes " without nulls")

-- the words between a field and its column: of the header, record 0, or of a later record
abbrev pub middle_words : ℕ → List ℕ
middle_words zero = codes " is not the name of "
middle_words (suc n) = codes " is no value of "

-- the words for the field of a record at this line that is refused, of which `shown` is shown
abbrev pub bad_field : ℕ → List ℕ → List ℕ → List ℕ → Field → List ℕ
bad_field line shown text words f = codes "line " ++ decimal line ++ codes ": " ++ shown
    ++ ellipsis text ++ bad_byte_words text ++ words ++ column_words f ++ codes "\n"

-- the words for a record of another length
abbrev pub other_count : ℕ → ℕ → ℕ → List ℕ
other_count line fields columns = codes "line " ++ decimal line ++ codes ": " ++ decimal fields
    ++ codes " fields for " ++ decimal columns ++ codes " columns\n"

-- the line that explains why a record with these fields is refused: at X5 how many fields it has,
-- and at X4 its field and the column of that field; the line is empty for other faults
abbrev pub ExplainsRecord : TextFault → List Field → List (List ℕ) → List ℕ → Type 0
ExplainsRecord (WrongFieldCount number) columns texts out =
    (line : ℕ) × (out ≡ other_count line (length texts) (length columns))
ExplainsRecord (BadField number place) columns texts out =
    (f : Field) (text : List ℕ) → slice_get columns place ≡ Some f
    → field_at texts place ≡ Some text → (line : ℕ) × (shown : List ℕ) × IsExcerpt text shown
    × (out ≡ bad_field line shown text (middle_words number) f)
ExplainsRecord fault columns texts out = out ≡ []
