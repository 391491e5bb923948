-- A plan, as a value in contracts.
use Rattle.std.specs.Prelude.{ℕ, List, Option}
use Rattle.ipc_dict.specs.declared.entry.TallyEntry.{TallyEntry}

-- each dictionary's distinct values, and their indices among the values sent before; no indices if
-- the dictionary is sent with the batch
pub record PlanState : Type 0 where
  pub entries : List TallyEntry
  pub numbers : List (Option (List ℕ))
