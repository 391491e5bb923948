use Rattle.std.proofs.Common.{◌≡◌, ◌∙◌, ◌+◌, rules}
use Rattle.ipc_encode.specs.Columns.{values_length}
use Rattle.ipc_encode.proofs.Sizes.{counted_size, column_length}
use Rattle.ipc_encode.proofs.column.ColumnCounts.len.Goals as goal

pub returns : goal.returns
returns c = λ limits values h.
    let own = c.args.self in
    let all : c.pad8.result + c.pad8-2.result + c.pad8-3.result ≡ column_length c.args.layout own.slots own.nulls
    (values_length c.args.layout own.slots own.amount) = search rules in
    all ∙ counted_size limits c.args.layout values own h
