-- What the messages of a stream put in force (Arrow Columnar Format, "IPC Streaming Format" and
-- "Dictionary Messages").
use Rattle.std.specs.Prelude.{◌≡◌, List, [], ℕ, Option, None, Some}
use Rattle.ipc_model.specs.declared.limits.Limits.{Limits}
use Rattle.ipc_meta.specs.declared.head.Head.{Head}
use Rattle.ipc_meta.specs.declared.head.Head.TheVariants as h
use Rattle.ipc_frame.specs.declared.frame.Frame.{Frame}
use Rattle.ipc_frame.specs.declared.frame.Frame.TheVariants as f
use Rattle.ipc_stream_read.specs.Scopes.{in_scope}
use Rattle.ipc_stream_read.specs.Stream.{Step, initial_state}
use Rattle.ipc_stream_read.specs.declared.scope.Scope.{Scope}

-- what was known, and is known after a message with this head and body: a schema puts itself in
-- force without dictionaries, a dictionary's message sets the dictionary, and a record batch
-- changes nothing
abbrev pub UpdatesScopeByMessage : Limits → Option Scope → Head → List ℕ → Option Scope → Type 0
UpdatesScopeByMessage limits old (h.Schema s) body (Some new) =
    (in_scope new ≡ initial_state s) × (new.limits ≡ limits)
UpdatesScopeByMessage limits old (h.Schema s) body None = ⊥
UpdatesScopeByMessage limits (Some old) (h.Dictionary id head) body (Some new) =
    Step old.limits (Some (in_scope old)) (h.Dictionary id head) body [] (Some (in_scope new))
    × (new.limits ≡ old.limits)
UpdatesScopeByMessage limits (Some old) (h.Dictionary id head) body None = ⊥
UpdatesScopeByMessage limits None (h.Dictionary id head) body new = new ≡ None
UpdatesScopeByMessage limits old (h.Batch head pairs) body new = new ≡ old

-- what was known, and is known after a frame, if there is one
abbrev pub UpdatesScope : Limits → Option Scope → Option Frame → Option Scope → Type 0
UpdatesScope limits old (Some (f.Message meta head body)) new =
    UpdatesScopeByMessage limits old head body.items new
UpdatesScope limits old (Some f.End) new = new ≡ old
UpdatesScope limits old None new = new ≡ old
