use Rattle.ipc_dict.proofs.ids.SchemaEntries as law
use Rattle.ipc_dict.proofs.schema_ids.entries_of_schema.Goals as goal

pub returns : goal.returns
returns c = law.are_of_schema
