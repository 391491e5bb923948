-- The lines that explain a refusal, by what is kept of the refused message.
use Rattle.std.specs.Prelude.{◌≡◌, ◌≢◌, ◌<◌, ◌≤◌, ◌⊎◌, ◌++◌, ℕ, ℤ, zero, suc, List, [], drop}
use Rattle.std.specs.Prelude.{Option, None, Some, MatchOption, codes, length, pos, int_lt}
use Rattle.std.specs.Prelude.{false, true}
use Rattle.std.specs.Fmt.{signed_decimal}
use Rattle.ipc_model.specs.Numbering.{fault_number}
use Rattle.ipc_model.specs.declared.fault.Fault.{Fault}
use Rattle.ipc_model.specs.declared.fault.Fault.TheVariants.{BadMetadataLength, MetadataTooLong}
use Rattle.ipc_model.specs.declared.fault.Fault.TheVariants.{Truncated, BadBodyLength, BodyTooLong}
use Rattle.ipc_model.specs.declared.fault.WriteFault.{WriteFault}
use Rattle.ipc_model.specs.declared.limits.Limits.{Limits}
use Rattle.ipc_model.specs.declared.schema.Field.{Field}
use Rattle.ipc_meta.specs.declared.head.BatchHead.{BatchHead}
use Rattle.ipc_meta.specs.declared.head.Head.TheVariants as h
use Rattle.ipc_frame.specs.Pieces.{Wants, held_of}
use Rattle.ipc_frame.specs.declared.frame.Frame.{Frame}
use Rattle.ipc_frame.specs.declared.frame.Frame.TheVariants as f
use Rattle.ipc_column.specs.Dictionaries.{Dictionaries}
use Rattle.ipc_column.specs.Shapes.{buffer_count, node_count, shape_of}
use Rattle.ipc_stream_read.specs.Scopes.{in_scope}
use Rattle.ipc_stream_read.specs.Stream.{values_in_force}
use Rattle.ipc_stream_read.specs.declared.scope.Scope.{Scope}
use Rattle.ipc_dict_read.specs.ValuesColumns.{columns_for, dictionary_columns}
use Rattle.job_explain.specs.declared.message_record.MessageRecord.{MessageRecord}
use Rattle.job_explain.specs.ColumnLines.{NamesColumn, count_line, rows_line}
use Rattle.job_explain.specs.FieldPaths.{NamesField}
use Rattle.job_explain.specs.Formats.{format_line, format_words}
use Rattle.job_explain.specs.MessageLines.{body_line, end_line, limit_lines, limit_words}
use Rattle.job_explain.specs.MessageLines.{metadata_line}
use Rattle.job_explain.specs.Writes.{ExplainsWrite}

-- the line for the first message of a stream, of which these bytes are kept, by the number of the
-- fault: of F1 the format that the input looks like; of F13 to F22 the field that has the fault, by
-- the metadata, which follows the 8 bytes of the prefix; of any other nothing
pub record ExplainsFirst (limits : Limits) (kept : List ℕ) (fault : Fault) (out : List ℕ)
    : Type 0 where
  pub format : fault_number fault ≡ 1 → out ≡ format_line (format_words kept)
  pub field : 13 ≤ fault_number fault → fault_number fault ≤ 22
      → NamesField limits (drop 8 kept) fault out
  pub other : fault_number fault ≢ 1 → (fault_number fault < 13) ⊎ (22 < fault_number fault)
      → out ≡ []

-- the line for a batch of these fields, under these dictionaries, that was refused, by the number
-- of the fault: of F26 and F27 the numbers of nodes or buffers; of F28 the length of a batch if it
-- is above its limit; of any other F28 and of F29 to F34 the column that has the fault; of others
-- nothing
pub record ExplainsBatch (limits : Limits) (fault : Fault) (m : Dictionaries) (fields : List Field)
    (head : BatchHead) (body front out : List ℕ) : Type 0 where
  pub nodes : fault_number fault ≡ 26
      → out ≡ front ++ count_line (codes "nodes") (length head.nodes) (node_count (shape_of fields))
  pub buffers : fault_number fault ≡ 27 → out ≡ front
      ++ count_line (codes "buffers") (length head.buffers) (buffer_count (shape_of fields))
  pub rows : fault_number fault ≡ 28 → int_lt (pos limits.slots) head.length ≡ true
      → out ≡ front ++ rows_line head.length limits.slots
  pub column : 28 ≤ fault_number fault → fault_number fault ≤ 34
      → (fault_number fault ≡ 28 → int_lt (pos limits.slots) head.length ≡ false)
      → NamesColumn limits fault m fields head body front out
  pub other : (fault_number fault < 26) ⊎ (34 < fault_number fault) → out ≡ []

-- the words before the line for the values of a dictionary
abbrev pub dictionary_words : ℤ → List ℕ
dictionary_words id = codes "dictionary " ++ signed_decimal id ++ codes ": "

-- the line for a dictionary that no field names
abbrev pub unknown_line : ℤ → List ℕ
unknown_line id = codes "no field has dictionary " ++ signed_decimal id ++ codes "\n"

-- the line for a later message than the first, by what is in force and what is kept: a record batch
-- has the columns of the schema, and a dictionary batch the one column of its values, if a field
-- names the dictionary
abbrev pub ExplainsLater : Option Scope → Option Frame → Fault → List ℕ → Type 0
ExplainsLater (Some scope) (Some (f.Message meta (h.Batch head pairs) body)) fault out =
    ExplainsBatch scope.limits fault (values_in_force (in_scope scope).dictionaries)
    scope.schema.fields head body.items [] out
ExplainsLater (Some scope) (Some (f.Message meta (h.Dictionary id head) body)) fault out =
    MatchOption (columns_for (dictionary_columns scope.schema.fields) id) (out ≡ unknown_line id)
    (λ fields. ExplainsBatch scope.limits fault [] fields head body.items (dictionary_words id)
    out)
ExplainsLater scope last fault out = out ≡ []

-- the line for what the message with this number holds
abbrev pub ExplainsContent : MessageRecord → Fault → ℕ → List ℕ → Type 0
ExplainsContent kept fault zero out = ExplainsFirst kept.limits kept.front.items fault out
ExplainsContent kept fault (suc message) out = ExplainsLater kept.scope kept.last fault out

-- the lines for a refusal at the message with this number, by what is kept: of F2 and F3 the size
-- of the metadata, of F8 and F9 that of the body, with the limit that is exceeded; of F4 the number
-- of bytes that came, and of those before the next decision about the message; of any other fault
-- the line for what the message holds, and the limits that F17 to F19 exceed
abbrev pub ExplainsMessage : MessageRecord → Fault → ℕ → List ℕ → Type 0
ExplainsMessage kept BadMetadataLength message out = out ≡ metadata_line kept.front.items []
ExplainsMessage kept MetadataTooLong message out = out ≡ metadata_line kept.front.items
    (limit_words (codes "; --max-metadata") kept.limits.metadata)
ExplainsMessage kept Truncated message out = (wants : ℕ)
    × Wants kept.limits kept.frames.progress wants
    × (out ≡ end_line kept.count (held_of kept.frames.progress) wants)
ExplainsMessage kept BadBodyLength message out = out ≡ body_line (drop 8 kept.front.items) []
ExplainsMessage kept BodyTooLong message out = out ≡ body_line (drop 8 kept.front.items)
    (limit_words (codes "; --max-body") kept.limits.body)
ExplainsMessage kept fault message out = (path : List ℕ) × ExplainsContent kept fault message path
    × (out ≡ path ++ limit_lines kept.limits fault)

-- the lines for a refusal at the message with this number; none if nothing is kept
abbrev pub Explains : Option MessageRecord → Fault → ℕ → List ℕ → Type 0
Explains (Some kept) fault message out = ExplainsMessage kept fault message out
Explains None fault message out = out ≡ []

-- the lines that explain a fault of the writer of the stream's rows, by the schema that is known;
-- none if none is
abbrev pub ExplainsUnwritten : Option MessageRecord → WriteFault → List ℕ → Type 0
ExplainsUnwritten (Some kept) fault out =
    MatchOption kept.scope (out ≡ []) (λ scope. ExplainsWrite scope.schema.fields fault out)
ExplainsUnwritten None fault out = out ≡ []
