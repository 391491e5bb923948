-- What the clones of a batch share, as values in contracts.
use Rattle.std.specs.Prelude.{length, map}
use Rattle.ipc_column.specs.declared.batch.Shared.{Shared}
use Rattle.ipc_column.specs.Contents.{Contents}
use Rattle.ipc_column.specs.checks.Checks.{PassTests}
use Rattle.ipc_column.specs.Slots.{nested}
use Rattle.ipc_column.specs.Values.{rows_of}
use Rattle.ipc_column.specs.Views.{part_columns}

-- the contents of a shared batch: its rows, its columns over its body, the body with its length,
-- and the number of visited slots
abbrev pub contents_of : Shared → Contents
contents_of s = record {
  rows = rows_of (part_columns s.body.value.items s.parts.items) s.count;
  columns = length s.parts.items;
  slots = map (nested s.body.value.items) s.parts.items;
  body = s.body.value.items;
  body_len = length s.body.value.items;
  tests = s.slot_tests;
}

-- the columns of a shared batch have its number of rows and pass all tests
abbrev pub HasRows : Shared → Type 0
HasRows s = PassTests s.count (part_columns s.body.value.items s.parts.items)
