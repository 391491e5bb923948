-- The content of the buffers of a column (Arrow Columnar Format, "Buffer Listing for Each Layout").
use Rattle.std.specs.Prelude.{ℕ}
use Rattle.ipc_model.specs.declared.schema.IntBits.{IntBits}

-- a value's bit in a bitmap: that the value is not null, or that it is true
pub data Flag : Type 0 where
  Valid : Flag
  True : Flag

-- what a value adds to its column's buffer of values: a number of some width, a fixed number of
-- bytes, or any number of bytes
pub data ValueSlot : Type 0 where
  Number : IntBits → ValueSlot
  Fixed : ℕ → ValueSlot
  Content : ValueSlot

-- what offsets count in a slot of variable length: bytes, or values of the one child
pub data OffsetUnit : Type 0 where
  Bytes : OffsetUnit
  Items : OffsetUnit

-- the content of one buffer: nothing, for an absent validity bitmap; one bit for each value; one
-- slot for each value; or the offsets of slots
pub data Piece : Type 0 where
  Absent : Piece
  Flags : Flag → Piece
  Slots : ValueSlot → Piece
  Offsets : OffsetUnit → Piece
