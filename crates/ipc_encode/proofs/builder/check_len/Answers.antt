use Rattle.std.proofs.Common.{refl, inr}
use Rattle.ipc_column.specs.Shapes.{shape_of}
use Rattle.ipc_encode.specs.Buffers.{row_columns}
use Rattle.ipc_encode.proofs.Held.{not_too_long}
use Rattle.ipc_encode.proofs.builder.check_len.Goals as goal

pub returns-in-Some-clause-within : goal.returns-in-Some-clause-within
returns-in-Some-clause-within c = λ known fields rows h.
    not_too_long known c.args.limits.now fields rows c.args.nodes.now _ h
    (c.in-Some.ensures.left known c.args.limits.now (shape_of fields) (row_columns rows) h)

pub returns-in-None-clause-refused : goal.returns-in-None-clause-refused
returns-in-None-clause-refused c = λ known fields rows h.
    (refl, inr (c.in-None.ensures.none known c.args.limits.now (shape_of fields) (row_columns rows) h refl))
