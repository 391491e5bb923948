use Rattle.std.proofs.Common.{◌≡◌, ◌+◌, ◌*◌}
use Rattle.ipc_meta.specs.Reading.{fields_read, field_read}
use Rattle.ipc_meta.proofs.Each.{from_ith}
use Rattle.ipc_meta.proofs.fields.+fields.Given as goal
use Rattle.ipc_meta.proofs.Each.{with_front}

abbrev pub decreases-read_fields : goal.decreases-read_fields
decreases-read_fields l = 2 * l.depth + 1

abbrev pub decreases-read_field : goal.decreases-read_field
decreases-read_field l = 2 * l.depth

abbrev pub invariant-read_fields-loop-i : goal.invariant-read_fields-loop-i
invariant-read_fields-loop-i l = record {
  range : l.i-end ≡ l.tables.len;
  read : with_front l.fields.items (from_ith (field_read l.depth) l.tables.bytes l.tables.at l.i l.tables.len l.budget)
      ≡ fields_read (field_read l.depth) l.table l.id l.fn.budget;
}
