use Rattle.std.proofs.Common.{◌++◌, List, replicate}
use Rattle.ipc_model.specs.declared.layout.Layout.{Layout}
use Rattle.ipc_model.specs.declared.value.Value.{Value}
use Rattle.ipc_model.specs.declared.value.Value.TheVariants.{Null}
use Rattle.ipc_encode.specs.Built.{IsColumn}
use Rattle.ipc_encode.specs.Numbers.{known_indices}
use Rattle.ipc_encode.proofs.tree.append_own_nulls.Given as goal

-- the first nulls were appended
abbrev pub invariant-loop : goal.invariant-loop
invariant-loop g l = (layout : Layout) (values : List Value)
    → IsColumn (known_indices (g.I.IndexOf.index l.indices)) l.limits layout values l.fn.column
    → IsColumn (known_indices (g.I.IndexOf.index l.indices)) l.limits layout (values ++ replicate l.counter Null) l.column
