-- The stage of a stream, and the progress of its frames.
use Rattle.std.proofs.Common.{◌≡◌, ◌∙◌, refl, sym, ap, subst, Option, None, Some}
use Rattle.ipc_model.specs.declared.limits.Limits.{Limits}
use Rattle.ipc_frame.specs.Parts.{no_capacity}
use Rattle.ipc_frame.specs.Pieces.{Framing, Progress}
use Rattle.ipc_frame.specs.Pieces as frames
use Rattle.ipc_stream_read.specs.declared.end.End.{End}
use Rattle.ipc_stream_read.specs.Decoding.{progress_at}
use Rattle.ipc_stream_read.specs.Reader.{end_of, phase_of}
use Rattle.ipc_stream_read.specs.Scopes.{IsUnder}
use Rattle.ipc_stream_read.specs.StreamStates.{IsSound, stage_of}
use Rattle.ipc_stream_read.specs.declared.stream_state.StreamState.{StreamState}

-- the stage has the progress of the frames
pub progress_is : (p : Progress) (end : Option End) → progress_at (stage_of p end) ≡ p
progress_is (frames.taking z) end = refl
progress_is frames.ended None = refl
progress_is frames.ended (Some e) = refl
progress_is frames.refused end = refl

-- what is kept is what the frames keep
pub kept_is : (p : Progress) (end : Option End) → frames.held_of (progress_at (stage_of p end)) ≡ frames.held_of p
kept_is p end = ap frames.held_of (progress_is p end)

-- frames that were refused before the end are sound
pub refused_sound : (limits : Limits) (framing : Framing) (stream : StreamState) → framing.limits ≡ limits
    → framing.progress ≡ frames.refused → framing.room ≡ no_capacity → stream.end ≡ None → IsUnder limits stream.scope
    → IsSound framing stream
refused_sound limits framing stream same refused none unended under = record {
  under = subst (λ l. IsUnder l stream.scope) (sym same) under;
  ends = unended ∙ ap (λ p. end_of (phase_of (stage_of p stream.end))) (sym refused);
  let_go = subst (λ p. frames.DropsBuffers p framing.room) (sym refused) none;
}
