use Rattle.job_command.proofs.SchemaFiles.{known, none_of}
use Rattle.job_command.proofs.schema_file.read_open.Goals as goal

pub returns-in-Ok-clause-read : goal.returns-in-Ok-clause-read
returns-in-Ok-clause-read g c = known _ _ _ _ c.in_ok-text.ensures.whole c.as_slice.ensures.value c.in-Ok.ensures.read

pub returns-in_default-clause-none : goal.returns-in_default-clause-none
returns-in_default-clause-none g c =
    none_of _ _ _ _ _ c.in_ok-text.ensures.works c.in_ok-text.ensures.whole c.as_slice.ensures.value
    c.in_default.not-OutOfMemory c.in-Err.ensures.refused
