-- The first eight bytes of a message, behind which it takes memory.
use Rattle.std.proofs.Common.{ℕ, ◌<◌, List, [], ◌∷◌, ◌++◌, length, arith}
use Rattle.ipc_model.specs.declared.limits.Limits.{Limits}
use Rattle.ipc_meta.specs.declared.head.Head.{Head}
use Rattle.ipc_meta.specs.Heads.{HeadOf}
use Rattle.ipc_meta.proofs.Empty.{no_metadata}
use Rattle.ipc_frame.specs.Buffers.{filled_bytes}
use Rattle.ipc_frame.specs.Frames.{Encapsulates, IsSized}
use Rattle.ipc_frame.specs.Parts.{received_bytes, FitsExpectation, HasSize}
use Rattle.ipc_frame.specs.declared.partial_message.Expectation.{Expectation}
use Rattle.ipc_frame.specs.declared.partial_message.Expectation.TheVariants as expectation
use Rattle.ipc_frame.specs.declared.partial_message.PartialMessage.{PartialMessage}
use Rattle.ipc_frame.proofs.Exact.{begins_longer}

-- bytes with a size have it with more bytes behind them
pub sized_longer : {limits : Limits} → (z c : List ℕ) → IsSized limits z → IsSized limits (z ++ c)
sized_longer z c h = (h.0, h.1, begins_longer z c h.0 h.2)

-- metadata that states a head isn't empty
pub some_metadata : {limits : Limits} → (meta : List ℕ) (head : Head) (n : ℕ) → HeadOf limits meta head n → 0 < length meta
some_metadata [] head n h = absurd (no_metadata head n h)
some_metadata (b ∷ bs) head n h = omega arith

-- once the size is known, the bytes that came have it
pub sized_at : (limits : Limits) (p : PartialMessage) (a : Expectation) → HasSize a → FitsExpectation limits p a
    → IsSized limits (received_bytes p)
sized_at limits p expectation.Continuation has fits = absurd has
sized_at limits p expectation.Size has fits = absurd has
sized_at limits p (expectation.Metadata n) has fits =
    sized_longer p.start (filled_bytes p.meta ++ filled_bytes p.body) (n, fits.some, fits.begins)
sized_at limits p (expectation.Body n) has fits =
    sized_longer p.start (filled_bytes p.meta ++ filled_bytes p.body)
    (length (filled_bytes p.meta), some_metadata (filled_bytes p.meta) fits.head n fits.states, fits.begins)

-- bytes with a size have it with none behind them
pub sized_alone : {limits : Limits} → (z : List ℕ) → IsSized limits z → IsSized limits (z ++ [])
sized_alone z h = sized_longer z [] h

-- a message has a size
pub frame_sized : {limits : Limits} → (x m body : List ℕ) (g : Head) → Encapsulates limits x m g body → IsSized limits x
frame_sized x m body g f = (
  length m,
  some_metadata m g (length body) f.states,
  record { prefix = f.prefix; marked = f.marked; sized = f.sized; fits = f.fits },
)
