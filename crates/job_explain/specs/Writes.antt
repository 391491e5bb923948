-- The lines that explain why rows are not written.
use Rattle.std.specs.Prelude.{◌≡◌, ℕ, ◌+◌, List, [], ◌∷◌, ◌++◌, codes, slice_get}
use Rattle.std.specs.Prelude.{Bool, false, true, Option, None, Some}
use Rattle.std.specs.Fmt.{decimal, signed_decimal}
use Rattle.std.specs.Option.{option_map, unwrap_or}
use Rattle.ipc_model.specs.declared.fault.WriteFault.{WriteFault}
use Rattle.ipc_model.specs.declared.fault.WriteFault.TheVariants as w
use Rattle.ipc_model.specs.declared.rows.RowCause.{RowCause}
use Rattle.ipc_model.specs.declared.rows.RowCause.TheVariants as cause
use Rattle.ipc_model.specs.declared.rows.RowFault.{RowFault}
use Rattle.ipc_model.specs.declared.schema.DataType.{DataType}
use Rattle.ipc_model.specs.declared.schema.DataType.TheVariants as t
use Rattle.ipc_model.specs.declared.schema.Dictionary.{Dictionary}
use Rattle.ipc_model.specs.declared.schema.Field.{Field, out-Field}
use Rattle.job_explain.specs.ColumnLines.{field_words, name_words, title_words, type_words}

-- the words for what is wrong with a value
abbrev pub cause_words : RowCause → List ℕ
cause_words cause.RowWidth = codes "another number of values than fields in "
cause_words cause.WrongKind = codes "a value of another kind in "
cause_words cause.OutOfRange = codes "a value out of range in "
cause_words cause.NullNotAllowed = codes "null in "

-- the words for the fields on a path, from one of these fields down: the number and the name of
-- each, and the type of the last one
abbrev pub steps_words : List ℕ → List Field → List ℕ → List ℕ
steps_words word fields [] = []
steps_words word fields (n ∷ []) =
    unwrap_or (option_map (λ f. word ++ decimal n ++ codes " " ++ field_words f)
    (slice_get fields n)) []
steps_words word fields (n ∷ m ∷ path) =
    unwrap_or (option_map (λ f. word ++ decimal n ++ codes " " ++ name_words f
    ++ steps_words (codes ", child ") (out-Field f).children (m ∷ path)) (slice_get fields n)) []

-- the words for the place of a value in a row, by its path
abbrev pub place_words : List Field → List ℕ → List ℕ
place_words fields [] = codes "the row"
place_words fields (n ∷ path) = steps_words (codes "column ") fields (n ∷ path)

-- the line for a row that does not fit these fields
abbrev pub row_line : List Field → ℕ → RowFault → List ℕ
row_line fields row fault = codes "row " ++ decimal row ++ codes ": " ++ cause_words fault.cause
    ++ place_words fields fault.path ++ codes "\n"

-- the line for a column with this number and this dictionary; none without a dictionary
abbrev pub dictionary_line : ℕ → Field → Option Dictionary → List ℕ
dictionary_line i f None = []
dictionary_line i f (Some d) = title_words i f ++ codes ": dictionary " ++ signed_decimal d.id
    ++ codes " with indices" ++ type_words (t.Int d.index.bits d.index.signed) ++ codes "\n"

-- the lines for the columns that have a dictionary, if the first column has this number
abbrev pub dictionary_lines : ℕ → List Field → List ℕ
dictionary_lines i [] = []
dictionary_lines i (f ∷ fs) =
    dictionary_line i f (out-Field f).dictionary ++ dictionary_lines (i + 1) fs

-- the words for what a value adds to a column beside its slot, by its type: more slots, or with
-- `bytes` also bytes; none for a type without these
abbrev pub growth_words : Bool → DataType → Option (List ℕ)
growth_words true t.Binary = Some (codes "bytes of any length")
growth_words true t.Utf8 = Some (codes "texts of any length")
growth_words bytes t.List = Some (codes "lists of any length")
growth_words bytes (t.FixedSizeList n) = Some (codes "lists")
growth_words bytes t.Struct = Some (codes "structs")
growth_words bytes kind = None

-- the line for a column with this number and these words; none without words
abbrev pub growth_line : ℕ → Field → Option (List ℕ) → List ℕ
growth_line i f None = []
growth_line i f (Some words) = title_words i f ++ codes ": " ++ words ++ codes "\n"

-- the lines for the columns whose values add more than their slots, if the first column has this
-- number
abbrev pub growth_lines : Bool → ℕ → List Field → List ℕ
growth_lines bytes i [] = []
growth_lines bytes i (f ∷ fs) =
    growth_line i f (growth_words bytes (out-Field f).kind) ++ growth_lines bytes (i + 1) fs

-- the lines that explain a fault of the writer: of W2 to W5 the place in the row, of W6 the columns
-- whose values add bytes or slots, of W7 the columns with dictionaries, of W8 the columns whose
-- values add slots and then those with dictionaries, and of any other none
abbrev pub ExplainsWrite : List Field → WriteFault → List ℕ → Type 0
ExplainsWrite fields (w.Row row fault) out = out ≡ row_line fields row fault
ExplainsWrite fields w.TooLong out = out ≡ growth_lines true 0 fields
ExplainsWrite fields w.DictionaryFull out = out ≡ dictionary_lines 0 fields
ExplainsWrite fields w.TooManyRows out =
    out ≡ growth_lines false 0 fields ++ dictionary_lines 0 fields
ExplainsWrite fields fault out = out ≡ []
