-- The bytes of buffers (Schema.fbs, Buffer).
use Rattle.std.specs.Prelude.{ℕ, List}
use Rattle.ipc_column.specs.declared.ranges.BufferRange.{BufferRange}
use Rattle.ipc_column.specs.Columns.{body_range}

-- the bytes in the range of a buffer
abbrev pub span_bytes : List ℕ → BufferRange → List ℕ
span_bytes body s = body_range body s.start s.len
