-- The bytes that are kept, and their number.
use Rattle.std.proofs.Common.{◌≡◌, ap, ◌+◌, ◌≤◌, ◌++◌, length, length-append, arith}
use Rattle.ipc_model.specs.declared.limits.Limits.{Limits}
use Rattle.ipc_frame.specs.Buffers.{filled_bytes}
use Rattle.ipc_frame.specs.Parts.{received_bytes}
use Rattle.ipc_frame.specs.Pieces.{MatchesPhase, held_of, progress_of}
use Rattle.ipc_frame.specs.declared.partial_message.FramePhase.{FramePhase}
use Rattle.ipc_frame.specs.declared.partial_message.FramePhase.TheVariants as phase
use Rattle.ipc_frame.specs.declared.partial_message.Expectation.TheVariants as expectation
use Rattle.ipc_frame.specs.declared.partial_message.PartialMessage.{PartialMessage}

lengths : (p : PartialMessage) → length (received_bytes p) ≡ length p.start + length (filled_bytes p.meta) + length (filled_bytes p.body)
lengths p = omega (
  arith,
  length-append p.start (filled_bytes p.meta ++ filled_bytes p.body),
  length-append (filled_bytes p.meta) (filled_bytes p.body),
)

-- the parts in front of a body have few bytes
pub front_fits : (limits : Limits) (p : PartialMessage) (s : FramePhase) → MatchesPhase limits p s
    → length p.start + length (filled_bytes p.meta) ≤ 268435464
front_fits limits p (phase.Reading expectation.Continuation) h = omega (arith, h.fits.few, ap length h.fits.no_metadata)
front_fits limits p (phase.Reading expectation.Size) h = omega (arith, h.fits.few, ap length h.fits.no_metadata)
front_fits limits p (phase.Reading (expectation.Metadata n)) h =
    omega (arith, h.fits.eight, h.fits.few, h.fits.begins.fits, limits.metadata_fits)
front_fits limits p (phase.Reading (expectation.Body n)) h = omega (arith, h.fits.eight, h.fits.begins.fits, limits.metadata_fits)
front_fits limits p phase.Ended h = omega (arith, ap length h.0, lengths p)
front_fits limits p phase.Refused h = omega (arith, ap length h.0, lengths p)

-- the bytes that are kept are counted
pub held_is : (limits : Limits) (p : PartialMessage) (s : FramePhase) → MatchesPhase limits p s
    → length p.start + length (filled_bytes p.meta) + length (filled_bytes p.body) ≡ held_of (progress_of p s)
held_is limits p (phase.Reading a) h = omega (arith, lengths p)
held_is limits p phase.Ended h = omega (arith, ap length h.0, lengths p)
held_is limits p phase.Refused h = omega (arith, ap length h.0, lengths p)

-- no more is kept than one message may have
pub held_bounded : (limits : Limits) (p : PartialMessage) (s : FramePhase) → MatchesPhase limits p s
    → length p.start + length (filled_bytes p.meta) + length (filled_bytes p.body) ≤ 8 + limits.metadata + limits.body
held_bounded limits p (phase.Reading expectation.Continuation) h =
    omega (arith, h.fits.few, ap length h.fits.no_metadata, ap length h.fits.no_body)
held_bounded limits p (phase.Reading expectation.Size) h =
    omega (arith, h.fits.few, ap length h.fits.no_metadata, ap length h.fits.no_body)
held_bounded limits p (phase.Reading (expectation.Metadata n)) h =
    omega (arith, h.fits.eight, h.fits.few, h.fits.begins.fits, ap length h.fits.no_body)
held_bounded limits p (phase.Reading (expectation.Body n)) h =
    omega (arith, h.fits.eight, h.fits.begins.fits, h.fits.few, h.fits.states.fits)
held_bounded limits p phase.Ended h = omega (arith, ap length h.0, lengths p)
held_bounded limits p phase.Refused h = omega (arith, ap length h.0, lengths p)
