-- The bytes of a message's metadata or body that have come so far (Arrow Columnar Format,
-- "Encapsulated message format").
use Rattle.std.specs.Prelude.{◌≡◌, ℕ, List, take}
use Rattle.ipc_frame.specs.declared.partial_buffer.PartialBuffer.{PartialBuffer}

-- the bytes that have come: the first `len` of the buffer
abbrev pub filled_bytes : PartialBuffer → List ℕ
filled_bytes b = take b.len b.buffer.items

-- of two buffers one is kept: the one that is offered if `Taken` holds, or else the one that was
-- there
pub record KeepsOne (Taken : Type 0) (old new offered : ℕ) : Type 0 where
  pub taken : Taken → new ≡ offered
  pub left : (Taken → ⊥) → new ≡ old
