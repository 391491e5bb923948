-- What a dictionary that is given leaves of what is in force.
use Rattle.std.proofs.Common.{◌≡◌, ◌∙◌, refl, ap, ℕ, List, [], Some, Result, Ok, Err}
use Rattle.std.specs.Prelude.{ℤ, ⊤}
use Rattle.ipc_meta.specs.declared.head.BatchHead.{BatchHead}
use Rattle.ipc_meta.specs.declared.head.Head.TheVariants as head
use Rattle.ipc_model.specs.declared.fault.Fault.{Fault}
use Rattle.ipc_model.specs.declared.limits.Limits.{Limits}
use Rattle.ipc_model.specs.declared.schema.Schema.{Schema}
use Rattle.ipc_stream_read.specs.Scopes.{in_scope}
use Rattle.ipc_stream_read.specs.Stream.{DictionaryInForce, InForce, Step, dictionary_batch}
use Rattle.ipc_stream_read.specs.StreamStates.{SetsValues}
use Rattle.ipc_stream_read.specs.declared.scope.Scope.{Scope}
use Rattle.ipc_stream.specs.Writer.{Writer}
use Rattle.ipc_stream_session.specs.Tables.{Gives, TableState, table_with}

-- the message of a dictionary leaves the schema
pub same_schema : (limits : Limits) (o p : InForce) (id : ℤ) (b : BatchHead) (body : List ℕ)
    → Step limits (Some o) (head.Dictionary id b) body [] (Some p) → p.schema ≡ o.schema
same_schema limits o p id b body (dictionary_batch named rows) = refl

-- a table with these parts
abbrev parts : Writer → Limits → Schema → List (ℤ × DictionaryInForce) → TableState
parts stream limits schema given = record {
  stream = stream;
  limits = limits;
  schema = schema;
  given = given;
}

-- what a scope does with the values of a dictionary, the table of the scope does
pub given : (stream : Writer) (old new : Scope) (id : ℤ) (h : BatchHead) (body : List ℕ) (r : Result ⊤ Fault)
    → SetsValues old.limits (in_scope old) (in_scope new) id h body r → new.limits ≡ old.limits
    → Gives (table_with stream old) id h body (table_with stream new) r
given stream old new id h body (Ok x) sets limits = (
  in_scope new,
  sets,
  ap (λ l. parts stream l new.schema (in_scope new).dictionaries) limits
      ∙ ap (λ s. parts stream old.limits s (in_scope new).dictionaries)
      (same_schema old.limits (in_scope old) (in_scope new) id h body sets),
)
given stream old new id h body (Err fault) sets limits = (
  sets.1,
  ap (λ l. parts stream l new.schema (in_scope new).dictionaries) limits
      ∙ ap (λ (o : InForce). parts stream old.limits o.schema o.dictionaries) sets.0,
)
