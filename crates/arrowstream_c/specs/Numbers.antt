-- The numbers by which C sees limits, events, layouts and buffers.
use Rattle.std.specs.Prelude.{◌≡◌, ◌<◌, ◌≤◌, ℕ, ℤ, pos, Bool, true, false, Option, Some, None}
use Rattle.ipc_model.specs.declared.layout.Layout.{Layout}
use Rattle.ipc_model.specs.declared.layout.Layout.TheVariants as l
use Rattle.ipc_model.specs.declared.limits.Limits.{Limits}
use Rattle.ipc_model.specs.declared.schema.Dictionary.{Dictionary}
use Rattle.ipc_model.specs.MaxLimits.{max_metadata, max_body, max_slots}
use Rattle.ipc_model.specs.MaxLimits.{max_fields, max_depth, max_text, max_pairs}
use Rattle.ipc_model.specs.Ranges.{width}
use Rattle.ipc_model.specs.Limits.{IsStandard, HaveLimitValues}
use Rattle.ipc_stream_read.specs.declared.end.End.{End}
use Rattle.ipc_stream_read.specs.declared.end.End.TheVariants as end
use Rattle.ipc_stream.specs.declared.canonical.CanonicalSize.{CanonicalSize}
use Rattle.ipc_stream_session.specs.declared.arrival.Arrival.{Arrival}
use Rattle.ipc_stream_session.specs.declared.arrival.Arrival.TheVariants as arrival
use Rattle.ipc_stream_session.specs.declared.buffer.BufferKind.{BufferKind}
use Rattle.ipc_stream_session.specs.declared.buffer.BufferKind.TheVariants as kind
use Rattle.ipc_stream_session.specs.declared.column.ColumnFacts.{ColumnFacts}
use Rattle.ipc_stream_session.specs.declared.field.FieldFacts.{FieldFacts}
use Rattle.ipc_stream_session.specs.declared.field.FieldText.{FieldText}
use Rattle.ipc_stream_session.specs.declared.field.FieldText.TheVariants as text
use Rattle.arrowstream_c.specs.Handles.{RefusesMisuse}
use Rattle.arrowstream_c.specs.declared.answers.Canonical.{Canonical}
use Rattle.arrowstream_c.specs.declared.answers.Column.{Column}
use Rattle.arrowstream_c.specs.declared.answers.FieldNumbers.{FieldNumbers}
use Rattle.arrowstream_c.specs.declared.answers.LayoutNumbers.{LayoutNumbers}
use Rattle.arrowstream_c.specs.declared.answers.ReadLimits.{ReadLimits}

-- the status of a call that finds nothing
abbrev pub absent : ℕ
absent = 64

-- the number of bytes of a struct of limits
abbrev pub limits_size : ℕ
limits_size = 64

-- the number of bytes of a progress
abbrev pub progress_size : ℕ
progress_size = 40

-- the number of bytes of a struct that describes a column
abbrev pub column_size : ℕ
column_size = 80

-- the number of bytes of a struct that describes a field
abbrev pub field_size : ℕ
field_size = 48

-- the number of bytes of a struct of the room that is taken
abbrev pub canonical_size : ℕ
canonical_size = 32

-- what a call does with a struct of the caller that has at least the size of this version, and what
-- it does with a smaller one
pub record BySize (size least : ℕ) (Large Small : Type 0) : Type 0 where
  pub large : least ≤ size → Large
  pub small : size < least → Small

-- the value, or the most that it may be
pub record Caps (value most result : ℕ) : Type 0 where
  pub below : value ≤ most → result ≡ value
  pub above : most ≤ value → result ≡ most

-- each limit is the one that was asked for, or its maximum
pub record AreCapped (asked : ReadLimits) (limits : Limits) : Type 0 where
  pub metadata : Caps asked.metadata max_metadata limits.metadata
  pub body : Caps asked.body max_body limits.body
  pub slots : Caps asked.slots max_slots limits.slots
  pub fields : Caps asked.fields max_fields limits.fields
  pub depth : Caps asked.depth max_depth limits.depth
  pub text : Caps asked.text max_text limits.text
  pub pairs : Caps asked.pairs max_pairs limits.pairs

-- the numbers are the standard limits
pub record AreStandard (out : ReadLimits) : Type 0 where
  pub limits : Limits
  pub standard : IsStandard limits
  pub values : HaveLimitValues limits out.metadata out.body out.slots out.fields out.depth out.text
      out.pairs

-- the limits are the standard ones if the struct has room for them
abbrev pub SetsStandard : ReadLimits → ReadLimits → ℕ → Type 0
SetsStandard old new status = BySize old.size limits_size
    ((status ≡ 0) × (new.size ≡ old.size) × AreStandard new) (RefusesMisuse old new status)

-- the number of what came
abbrev pub arrival_number : Arrival → ℕ
arrival_number arrival.Nothing = 0
arrival_number arrival.Schema = 1
arrival_number arrival.Batch = 2
arrival_number arrival.End = 3

-- the number of an end: of the end-of-stream mark, and of the end of the input
abbrev pub end_number : End → ℕ
end_number end.Mark = 3
end_number end.Closed = 4

-- the buffer of a number: of 0, 1 and 2 alone
pub record IsBuffer (number : ℕ) (found : Option BufferKind) : Type 0 where
  pub validity : number ≡ 0 → found ≡ Some kind.Validity
  pub offsets : number ≡ 1 → found ≡ Some kind.Offsets
  pub values : number ≡ 2 → found ≡ Some kind.Values
  pub none : 2 < number → found ≡ None

-- the text of a number: of 0 to 4 alone. The second number is that of a pair
pub record IsFieldText (number pair : ℕ) (found : Option FieldText) : Type 0 where
  pub name : number ≡ 0 → found ≡ Some text.Name
  pub format : number ≡ 1 → found ≡ Some text.Format
  pub values_format : number ≡ 2 → found ≡ Some text.ValuesFormat
  pub key : number ≡ 3 → found ≡ Some (text.Key pair)
  pub value : number ≡ 4 → found ≡ Some (text.Value pair)
  pub none : 4 < number → found ≡ None

-- 1 for true, 0 for false
abbrev pub bit_of : Bool → ℕ
bit_of true = 1
bit_of false = 0

-- a layout has these numbers
pub record HasNumbers (n : LayoutNumbers) (kind bits is_signed size : ℕ) (dictionary : ℤ) :
    Type 0 where
  pub kind_is : n.kind ≡ kind
  pub bits_is : n.bits ≡ bits
  pub is_signed_is : n.is_signed ≡ is_signed
  pub size_is : n.size ≡ size
  pub dictionary_is : n.dictionary ≡ dictionary

-- these are the numbers of a layout
abbrev pub IsLayout : Layout → LayoutNumbers → Type 0
IsLayout l.Null n = HasNumbers n 0 0 0 0 (pos 0)
IsLayout l.Bits n = HasNumbers n 1 0 0 0 (pos 0)
IsLayout (l.Numbers bits signed) n = HasNumbers n 2 (width bits) (bit_of signed) 0 (pos 0)
IsLayout (l.FixedBytes size) n = HasNumbers n 3 0 0 size (pos 0)
IsLayout (l.VariableBytes false) n = HasNumbers n 4 0 0 0 (pos 0)
IsLayout (l.VariableBytes true) n = HasNumbers n 5 0 0 0 (pos 0)
IsLayout l.Lists n = HasNumbers n 6 0 0 0 (pos 0)
IsLayout (l.FixedLists size) n = HasNumbers n 7 0 0 size (pos 0)
IsLayout l.Structs n = HasNumbers n 8 0 0 0 (pos 0)
IsLayout (l.Indices bits signed id) n = HasNumbers n 9 (width bits) (bit_of signed) 0 id

-- the numbers of a column are these facts, in a struct of this size
pub record Shows (facts : ColumnFacts) (size : ℕ) (c : Column) : Type 0 where
  pub size_is : c.size ≡ size
  pub layout : IsLayout facts.layout c.layout
  pub slots : c.slots ≡ facts.slots
  pub nulls : c.nulls ≡ facts.nulls
  pub children : c.children ≡ facts.children
  pub validity : c.validity ≡ facts.validity
  pub offsets : c.offsets ≡ facts.offsets
  pub values : c.values ≡ facts.values

-- the numbers of a dictionary's indices
pub record HasIndexNumbers (n : FieldNumbers) (bits is_signed is_ordered : ℕ) (dictionary : ℤ) :
    Type 0 where
  pub bits_are : n.index_bits ≡ bits
  pub is_signed_is : n.is_signed ≡ is_signed
  pub is_ordered_is : n.is_ordered ≡ is_ordered
  pub dictionary_is : n.dictionary ≡ dictionary

-- the numbers of a field's dictionary, or zeros if it has none
abbrev pub ShowsDictionary : Option Dictionary → FieldNumbers → Type 0
ShowsDictionary None n = HasIndexNumbers n 0 0 0 (pos 0)
ShowsDictionary (Some d) n =
    HasIndexNumbers n (width d.index.bits) (bit_of d.index.signed) (bit_of d.ordered) d.id

-- the numbers of a field are these facts, in a struct of this size
pub record ShowsField (facts : FieldFacts) (size : ℕ) (n : FieldNumbers) : Type 0 where
  pub size_is : n.size ≡ size
  pub nullable : n.is_nullable ≡ bit_of facts.nullable
  pub dictionary : ShowsDictionary facts.dictionary n
  pub children : n.children ≡ facts.children
  pub pairs : n.pairs ≡ facts.pairs

-- the numbers are the room that a batch takes, in a struct of this size
pub record ShowsRoom (room : CanonicalSize) (size : ℕ) (n : Canonical) : Type 0 where
  pub size_is : n.size ≡ size
  pub bytes : n.bytes ≡ room.bytes
  pub nodes : n.nodes ≡ room.nodes
  pub buffers : n.buffers ≡ room.buffers

-- the numbers are the room that a dictionary takes, or zeros if none was sent
abbrev pub ShowsSent : Option CanonicalSize → ℕ → Canonical → Type 0
ShowsSent (Some room) size n = ShowsRoom room size n
ShowsSent None size n = n ≡ record { size = size; bytes = 0; nodes = 0; buffers = 0 }
