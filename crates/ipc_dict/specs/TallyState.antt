-- A tally, as a value in contracts.
use Rattle.std.specs.Prelude.{Bool, List}
use Rattle.ipc_model.specs.declared.limits.Limits.{Limits}
use Rattle.ipc_model.specs.declared.schema.Field.{Field}
use Rattle.ipc_dict.specs.declared.entry.TallyEntry.{TallyEntry}

-- whether the tally has failed, the limits of each dictionary's message, the fields whose rows it
-- counts, the distinct values of each dictionary, and those from before the last row or batch that
-- was counted
pub record TallyState : Type 0 where
  pub failed : Bool
  pub limits : Limits
  pub fields : List Field
  pub entries : List TallyEntry
  pub before : List TallyEntry
