-- A stream that has begun.
use Rattle.std.proofs.Common.{◌≡◌, refl, sym, subst, ℕ, List, Ok}
use Rattle.ipc_model.specs.declared.schema.Schema.{Schema}
use Rattle.ipc_text_json.specs.SchemaTexts.{StatesSchema}
use Rattle.ipc_stream_session.specs.Tables.{IsBegun, TableState}
use Rattle.ipc_stream_session.specs.Writes.{BeginsSession, BeginsAt}
use Rattle.ipc_stream_session.specs.declared.stage.Stage.{Stage}
use Rattle.ipc_stream_session.specs.declared.stage.Stage.TheVariants as stage
use Rattle.ipc_stream_session.specs.declared.write_session.WriteSession.{WriteSession}

-- a new session whose stream was started with the schema of the text has begun
pub begun : (text : List ℕ) (old : WriteSession) (s : Schema) (t : TableState) → old.stage ≡ stage.New → StatesSchema text s
    → IsBegun old.limits s t
    → BeginsSession text old (record old { stage = stage.Open t }) (Ok tt)
begun text old s t new states starts = subst (λ (at : Stage). BeginsAt at text old (record old { stage = stage.Open t }) (Ok tt))
    (sym new) (s, states, (t, starts, refl))
