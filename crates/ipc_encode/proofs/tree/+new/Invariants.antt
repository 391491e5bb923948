use Rattle.std.proofs.Common.{[], take}
use Rattle.ipc_model.specs.declared.limits.Limits.{Limits}
use Rattle.ipc_column.specs.Shapes.{shape_of}
use Rattle.ipc_encode.specs.Built.{HoldColumns}
use Rattle.ipc_encode.specs.Numbers.{Numbering}
use Rattle.ipc_encode.proofs.tree.+new.Given as goal

abbrev pub invariant-new_nodes-loop-field : goal.invariant-new_nodes-loop-field
invariant-new_nodes-loop-field l = (known : Numbering) (limits : Limits)
    → HoldColumns known limits (shape_of (take l.field-index l.fields)) l.nodes.items (λ j. [])
