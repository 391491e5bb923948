-- Bodies as lists of segments (Arrow Columnar Format, "RecordBatch message").
use Rattle.std.specs.Prelude.{◌≡◌, ℕ, ◌+◌, ◌<◌, ◌≤◌, List, [], ◌∷◌, ◌++◌, length, replicate, ◌⊎◌, ⊤}
use Rattle.ipc_model.specs.declared.limits.Limits.{Limits}
use Rattle.ipc_model.specs.declared.schema.Field.{Field}
use Rattle.ipc_model.specs.declared.value.Value.{Value}
use Rattle.ipc_column.specs.Shapes.{Shape}
use Rattle.ipc_encode.specs.declared.fault.PushFault.{PushFault}
use Rattle.ipc_encode.specs.declared.fault.PushFault.TheVariants as fault
use Rattle.ipc_encode.specs.declared.segments.Segment.{Segment}
use Rattle.ipc_encode.specs.declared.segments.Segment.TheVariants as segment
use Rattle.ipc_encode.specs.declared.segments.SegmentedParts.{SegmentedParts}
use Rattle.ipc_encode.specs.declared.segments.Draft.{Draft}
use Rattle.ipc_encode.specs.Buffers.{body_with, buffers_of, buffers_with, nodes_of}
use Rattle.ipc_encode.specs.Buffers.{padded_bytes, ranges_from, row_buffers_with, row_nodes}
use Rattle.ipc_encode.specs.Buffers.{SomeColumn}
use Rattle.ipc_encode.specs.Limits.{HasLongData, HasLongItems, HasLongNode}
use Rattle.ipc_encode.specs.Limits.{HasExcessData}
use Rattle.ipc_encode.specs.Numbers.{Numbering}
use Rattle.ipc_encode.specs.Writing.{AllStored}

-- the bytes of a segment
abbrev pub segment_bytes : Segment → List ℕ
segment_bytes (segment.Borrowed bytes) = bytes.now
segment_bytes (segment.Owned bytes) = bytes.items
segment_bytes (segment.Zeros count) = replicate count 0

-- the bytes of segments, one after another
abbrev pub bytes_of_segments : List Segment → List ℕ
bytes_of_segments [] = []
bytes_of_segments (one ∷ more) = segment_bytes one ++ bytes_of_segments more

-- the draft has no columns
pub record IsEmpty (draft : Draft) : Type 0 where
  pub nodes : draft.nodes.items ≡ []
  pub buffers : draft.buffers.items ≡ []
  pub body : bytes_of_segments draft.segments.items ≡ []
  pub len : draft.len ≡ 0

-- the parts are those of the draft
pub record ArePartsOf (draft : Draft) (parts : SegmentedParts) : Type 0 where
  pub nodes : parts.nodes ≡ draft.nodes.items
  pub buffers : parts.buffers ≡ draft.buffers.items
  pub body : bytes_of_segments parts.segments.items ≡ bytes_of_segments draft.segments.items
  pub len : parts.len ≡ draft.len

-- the draft has these buffers more, after those it had
pub record AddsBuffers (old new : Draft) (bs : List (List ℕ)) : Type 0 where
  pub buffers : new.buffers.items ≡ old.buffers.items ++ ranges_from old.len bs
  pub body : bytes_of_segments new.segments.items ≡ bytes_of_segments old.segments.items
      ++ padded_bytes bs
  pub len : new.len ≡ old.len + length (padded_bytes bs)

-- the draft has the nodes and the buffers of columns of this shape with these values more; they are
-- within the limits, and their texts are UTF-8
pub record AddsColumns (limits : Limits) (indices : Numbering) (shape : Shape)
    (given : ℕ → List Value) (old new : Draft) : Type 0 where
  pub nodes : new.nodes.items ≡ old.nodes.items ++ nodes_of shape given
  pub buffers : AddsBuffers old new (buffers_with indices shape given)
  pub few : ¬ HasLongNode limits.slots shape given
  pub short : ¬ SomeColumn HasExcessData shape given
  pub stores : AllStored shape given
  pub body : new.len ≤ limits.body

-- why a body of this many bytes is refused: it is too long, or memory ran out
abbrev pub IsBodyRefused : Limits → ℕ → PushFault → Type 0
IsBodyRefused limits len fault.TooLong = limits.body < len
IsBodyRefused limits len fault.TooMany = ⊥
IsBodyRefused limits len fault.OutOfMemory = ⊤
IsBodyRefused limits len fault.DictionaryFull = ⊥
IsBodyRefused limits len fault.Failed = ⊥

-- why columns of this shape with these values are not added to a body of `len` bytes: too many
-- slots or items of lists, more bytes than offsets can address or a body may have, or out of memory
abbrev pub AreRefusedAfter : Limits → ℕ → Shape → (ℕ → List Value) → PushFault → Type 0
AreRefusedAfter limits len shape given fault.TooLong = SomeColumn HasLongData shape given
    ⊎ (limits.body < len + length (padded_bytes (buffers_of shape given)))
AreRefusedAfter limits len shape given fault.TooMany =
    HasLongNode limits.slots shape given ⊎ SomeColumn HasLongItems shape given
AreRefusedAfter limits len shape given fault.OutOfMemory = ⊤
AreRefusedAfter limits len shape given fault.DictionaryFull = ⊥
AreRefusedAfter limits len shape given fault.Failed = ⊥

-- the parts are exactly these nodes and buffers, and their segments are the body, so equal rows
-- with equal indices give equal bytes
pub record AreSegmented (indices : Numbering) (fields : List Field) (rows : List (List Value))
    (parts : SegmentedParts) : Type 0 where
  pub nodes : parts.nodes ≡ row_nodes fields rows
  pub buffers : parts.buffers ≡ ranges_from 0 (row_buffers_with indices fields rows)
  pub body : bytes_of_segments parts.segments.items ≡ body_with indices fields rows
  pub len : parts.len ≡ length (body_with indices fields rows)
