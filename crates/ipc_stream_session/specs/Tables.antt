-- A table whose stream is being written.
use Rattle.std.specs.Prelude.{◌≡◌, ◌++◌, ⊤, ℕ, ℤ, List, [], Some, Result, Ok, Err, length, drop}
use Rattle.std.specs.Prelude.{min}
use Rattle.ipc_meta.specs.declared.head.BatchHead.{BatchHead}
use Rattle.ipc_model.specs.Answers.{UnlessOutOfMemory}
use Rattle.ipc_model.specs.declared.fault.Fault.{Fault}
use Rattle.ipc_model.specs.declared.fault.WriteFault.{WriteFault}
use Rattle.ipc_model.specs.declared.limits.Limits.{Limits}
use Rattle.ipc_model.specs.declared.schema.Schema.{Schema}
use Rattle.ipc_stream_read.specs.Scopes.{dictionaries_of}
use Rattle.ipc_stream_read.specs.Stream.{DictionaryInForce, InForce}
use Rattle.ipc_stream_read.specs.declared.scope.Scope.{Scope}
use Rattle.ipc_stream_read.specs.StreamStates.{RefusesValues, SetsValues}
use Rattle.ipc_stream.specs.Writer.{Writer, Finishes, FinishFails, StartFails}
use Rattle.ipc_stream.specs.Writer.{StartsWriter}

-- the writer of the stream, its limits, the schema that its rows have to fit, and the dictionaries
-- to which the indices of buffers refer, by their ids
pub record TableState : Type 0 where
  pub stream : Writer
  pub limits : Limits
  pub schema : Schema
  pub given : List (ℤ × DictionaryInForce)

-- the table of a writer and of what is in force for buffers
abbrev pub table_with : Writer → Scope → TableState
table_with stream scope = record {
  stream = stream;
  limits = scope.limits;
  schema = scope.schema;
  given = dictionaries_of scope.dictionaries.current;
}

-- what is in force for buffers: the schema, and the dictionaries that were given
abbrev pub in_force : TableState → InForce
in_force t = record { schema = t.schema; dictionaries = t.given }

-- the table when all bytes that were sent are taken
abbrev pub emptied : TableState → TableState
emptied t = record t { stream = record t.stream { written = Some []; failures = 0 } }

-- the table is open, and the message of its schema is written
pub record IsBegun (limits : Limits) (s : Schema) (t : TableState) : Type 0 where
  pub starts : StartsWriter limits s (Some []) 0 t.stream
  pub limits_are : t.limits ≡ limits
  pub schema_is : t.schema ≡ s
  pub none_given : t.given ≡ []

-- the values that a reader has of a head and a body are given for the dictionary with the id, or it
-- refuses them, and the table stays as it was
abbrev pub Gives : TableState → ℤ → BatchHead → List ℕ → TableState → Result ⊤ Fault → Type 0
Gives old id h body new (Ok x) = (o : InForce)
    × SetsValues old.limits (in_force old) o id h body (Ok tt)
    × (new ≡ record old { given = o.dictionaries })
Gives old id h body new (Err fault) =
    UnlessOutOfMemory fault (RefusesValues old.limits (in_force old) id h body fault)
    × (new ≡ old)

-- the first of the old bytes are at the beginning of the target, and the others remain: all are
-- moved, or those for which the target has room
pub record MovesBytes (old new target_old target_new : List ℕ) (count : ℕ) : Type 0 where
  pub moved : List ℕ
  pub size : length moved ≡ count
  pub counted : count ≡ min (length old) (length target_old)
  pub from_the_front : old ≡ moved ++ new
  pub copied : target_new ≡ moved ++ drop count target_old

-- the message of the schema was not sent whole, for this cause. These are the bytes that were sent
pub record StopsAtStart (limits : Limits) (s : Schema) (ready : List ℕ)
    (fault : WriteFault) : Type 0 where
  pub failures : ℕ
  pub fails : StartFails limits s (Some []) (Some ready) 0 failures fault

-- the end mark was sent, or not for this cause. These are all bytes of the stream that were sent
abbrev pub FinishesTable : TableState → List ℕ → Result ⊤ WriteFault → Type 0
FinishesTable t ready (Ok x) = (failures : ℕ) × Finishes t.stream (Some ready) (Some []) failures
FinishesTable t ready (Err fault) = (failures : ℕ)
    × FinishFails t.stream (Some ready) failures fault
