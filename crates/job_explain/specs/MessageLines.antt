-- The lines about limits, about the sizes that a message states, and about the end of the input
-- (Arrow Columnar Format, "Encapsulated message format").
use Rattle.std.specs.Prelude.{◌==◌, ℕ, ℤ, pos, List, [], ◌++◌, codes, Option, None, Some, Result}
use Rattle.std.specs.Prelude.{Ok, Err, if◌then◌else◌}
use Rattle.std.specs.Fmt.{decimal, signed_decimal}
use Rattle.ipc_scalar.specs.Bytes.{int32, int64, read}
use Rattle.ipc_flat.specs.declared.fault.FlatFault.{FlatFault}
use Rattle.ipc_flat.specs.Faulty.{◌>>=◌}
use Rattle.ipc_flat.specs.Views.{scalar, table_from}
use Rattle.ipc_model.specs.declared.fault.Fault.{Fault}
use Rattle.ipc_model.specs.declared.fault.Fault.TheVariants.{TooManyFields, TooDeep, TooMuchText}
use Rattle.ipc_model.specs.declared.limits.Limits.{Limits}

-- the words for a limit, after those for the option that sets it
abbrev pub limit_words : List ℕ → ℕ → List ℕ
limit_words option limit = option ++ codes " is " ++ decimal limit

-- the line for a limit
abbrev pub limit_line : List ℕ → ℕ → List ℕ
limit_line option limit = limit_words option limit ++ codes "\n"

-- the lines for the limits that a fault of a schema can exceed
abbrev pub limit_lines : Limits → Fault → List ℕ
limit_lines limits TooManyFields = limit_line (codes "--max-fields") limits.fields
limit_lines limits TooDeep = limit_line (codes "--max-depth") limits.depth
limit_lines limits TooMuchText =
    limit_line (codes "--max-text") limits.text ++ limit_line (codes "--max-pairs") limits.pairs
limit_lines limits fault = []

-- the line for a part of a message with this size, and more words
abbrev pub size_line : List ℕ → ℤ → List ℕ → List ℕ
size_line part size more =
    part ++ codes " of " ++ signed_decimal size ++ codes " bytes" ++ more ++ codes "\n"

-- the line for this size of the metadata, if it is known
abbrev pub metadata_size_line : Option ℤ → List ℕ → List ℕ
metadata_size_line (Some size) more = size_line (codes "metadata") size more
metadata_size_line None more = []

-- the line for the size of the metadata, which the bytes 4 to 7 of a message state; none before
-- they have come
abbrev pub metadata_line : List ℕ → List ℕ → List ℕ
metadata_line kept more = metadata_size_line (read kept 4 4 (int32 kept 4)) more

-- the length of the body that the metadata of a message states (Message.fbs, table Message, 3
-- bodyLength)
abbrev pub body_length : List ℕ → Result ℤ FlatFault
body_length metadata = table_from metadata 0 >>= λ root. scalar root 3 8 int64 (pos 0)

-- the line for this length of the body, if it is known
abbrev pub body_length_line : Result ℤ FlatFault → List ℕ → List ℕ
body_length_line (Ok size) more = size_line (codes "body") size more
body_length_line (Err fault) more = []

-- the line for the length of the body that the metadata states; none if the metadata is ill-formed
abbrev pub body_line : List ℕ → List ℕ → List ℕ
body_line metadata more = body_length_line (body_length metadata) more

-- the words for the end of the input after `held` bytes of a message, `wants` bytes before the next
-- decision about it
abbrev pub missing_words : ℕ → ℕ → List ℕ
missing_words held wants = if held == 0 then codes ", before the end-of-stream mark"
    else codes ", at least " ++ decimal wants ++ codes " bytes missing"

-- the line for the end of the input after `count` bytes in all
abbrev pub end_line : ℕ → ℕ → ℕ → List ℕ
end_line count held wants = if count == 0 then codes "the input is empty\n"
    else codes "the input ended at byte " ++ decimal count ++ missing_words held wants
    ++ codes "\n"
