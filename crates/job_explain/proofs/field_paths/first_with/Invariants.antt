use Rattle.std.proofs.Common.{◌≡◌, ◌+◌, ◌*◌, ◌<◌, ℕ, Ok}
use Rattle.ipc_flat.specs.Views.{TableView, table_from}
use Rattle.job_explain.specs.FieldPaths.{field_alone, RefusedAs}
use Rattle.job_explain.proofs.field_paths.first_with.Given as goal

abbrev pub invariant-loop-i : goal.invariant-loop-i
invariant-loop-i l =
    (j : ℕ) (v : TableView) → j < l.i → table_from l.tables.bytes (l.tables.at + j * 4) ≡ Ok v → RefusedAs l.fault (field_alone l.limits v)
    → ⊥
