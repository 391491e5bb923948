-- The bytes of a body, at the front of a buffer that may be longer.
use Rattle.std.proofs.Common.{◌≡◌, ◌∙◌, refl, sym, ap, subst, ℕ, ◌+◌, ◌-◌, ◌<◌, ◌≤◌, List, [], ◌∷◌, ◌++◌, Option, length, take, drop}
use Rattle.std.proofs.Common.{length-append, length-take, length-drop, arith}
use Rattle.std.proofs.lemmas.List.{take_at}
use Rattle.std.proofs.Math.Seq.{take-add}
use Rattle.ipc_model.specs.declared.limits.Limits.{Limits}
use Rattle.ipc_frame.specs.Buffers.{KeepsOne, filled_bytes}
use Rattle.ipc_frame.specs.Frames.{Begins, Pending}
use Rattle.ipc_frame.specs.Parts.{received_bytes, InMark, InSize, InMetadata, InBody, Undecided}
use Rattle.ipc_frame.specs.Pieces.{HasBody, progress_of, taking}
use Rattle.ipc_frame.specs.Pulled.{ReadsAfter, Comes}
use Rattle.ipc_frame.specs.declared.partial_buffer.PartialBuffer.{PartialBuffer}
use Rattle.ipc_frame.specs.declared.partial_message.FramePhase.{FramePhase}
use Rattle.ipc_frame.specs.declared.partial_message.FramePhase.TheVariants as phase
use Rattle.ipc_frame.specs.declared.partial_message.Expectation.{Expectation}
use Rattle.ipc_frame.specs.declared.partial_message.Expectation.TheVariants as expectation
use Rattle.ipc_frame.specs.declared.partial_message.PartialMessage.{PartialMessage}
use Rattle.ipc_frame.proofs.Exact.{begins_longer, begins_one}

-- what came behind the first bytes of a buffer, where it is written back whole
pub behind_whole : (a b : Option (List ℕ)) (items part buffer : List ℕ) (start size k : ℕ) → length buffer ≡ length items
    → size ≡ length items → part ≡ items → ReadsAfter a b part buffer start k
    → ReadsAfter a b items (take size (buffer ++ drop (length buffer) items)) start k
behind_whole a b items part buffer start size k same all is h =
    let whole : take size (buffer ++ drop (length buffer) items) ≡ buffer =
    take_at buffer (drop (length buffer) items) size (same ∙ sym all) in
    subst (λ z. ReadsAfter a b items z start k) (sym whole) (subst (λ z. ReadsAfter a b z buffer start k) is h)

-- what came behind the first bytes of a buffer came behind a body that has these
pub comes_in : (a b : Option (List ℕ)) (items buffer : List ℕ) (len room wanted k : ℕ) → k ≤ room → room ≤ wanted
    → ReadsAfter a b items buffer len k → Comes a b (take len items) (take (len + k) buffer) wanted k
comes_in a b items buffer len room wanted k few wants h = record {
  came = take k (drop len buffer);
  buffer = take-add len k buffer ∙ ap (λ z. z ++ take k (drop len buffer)) h.before;
  count = omega (arith, length-take k (drop len buffer), length-drop len buffer, h.fits);
  few = omega arith;
  bytes = h.bytes;
  at_end = h.at_end;
}

-- the same bytes in another buffer are as far
module _ (limits : Limits) (p : PartialMessage) (b : PartialBuffer) (same : filled_bytes b ≡ filled_bytes p.body) where
  abbrev pub with_body : PartialMessage
  with_body = record { start = p.start; meta = p.meta; body = b }

  pub same_bytes : received_bytes with_body ≡ received_bytes p
  same_bytes = ap (λ z. p.start ++ (filled_bytes p.meta ++ z)) same

  pub same_progress : (s : FramePhase) → progress_of with_body s ≡ progress_of p s
  same_progress (phase.Reading a) = ap taking same_bytes
  same_progress phase.Ended = refl
  same_progress phase.Refused = refl

  pending_there : (k : ℕ) → Pending limits (received_bytes p) k → Pending limits (received_bytes with_body) k
  pending_there k h = subst (λ z. Pending limits z k) (sym same_bytes) h

  pub sound_there : (a : Expectation) → Undecided limits p a → Undecided limits with_body a
  sound_there expectation.Continuation h = record {
    fits = subst (λ z. InMark p.start (filled_bytes p.meta) z) (sym same) h.fits;
    pending = pending_there _ h.pending;
  }
  sound_there expectation.Size h = record {
    fits = subst (λ z. InSize p.start (filled_bytes p.meta) z) (sym same) h.fits;
    pending = pending_there _ h.pending;
  }
  sound_there (expectation.Metadata n) h = record {
    fits = subst (λ z. InMetadata limits p.start (filled_bytes p.meta) z n) (sym same) h.fits;
    pending = pending_there _ h.pending;
  }
  sound_there (expectation.Body n) h = record {
    fits = subst (λ z. InBody limits p.start (filled_bytes p.meta) z n) (sym same) h.fits;
    pending = subst (λ j. Pending limits (received_bytes with_body) j) (ap (λ z. n - length z) (sym same)) (pending_there _ h.pending);
  }

-- ---- whether bytes of the body came

-- the first eight bytes and the metadata alone are no longer than stated
module _ (limits : Limits) (p : PartialMessage) where
  abbrev parts : length (received_bytes p) ≡ length p.start + (length (filled_bytes p.meta) + length (filled_bytes p.body))
  parts = omega (
    arith,
    length-append p.start (filled_bytes p.meta ++ filled_bytes p.body),
    length-append (filled_bytes p.meta) (filled_bytes p.body),
  )

  -- none came, and so the bytes have no part of a body
  pub no_body : (a : Expectation) → Undecided limits p a → filled_bytes p.body ≡ [] → HasBody limits (received_bytes p) → ⊥
  no_body expectation.Continuation h none b = omega (arith, parts, ap length none, ap length h.fits.no_metadata, h.fits.few, b.1.prefix)
  no_body expectation.Size h none b = omega (arith, parts, ap length none, ap length h.fits.no_metadata, h.fits.few, b.2)
  no_body (expectation.Metadata n) h none b =
      let begins : Begins limits (received_bytes p) n =
      begins_longer p.start (filled_bytes p.meta ++ filled_bytes p.body) n h.fits.begins in
      omega (arith, parts, ap length none, h.fits.eight, h.fits.few, b.2, begins_one (received_bytes p) b.0 n b.1 begins)
  no_body (expectation.Body n) h none b =
      let begins : Begins limits (received_bytes p) (length (filled_bytes p.meta)) =
      begins_longer p.start (filled_bytes p.meta ++ filled_bytes p.body) (length (filled_bytes p.meta)) h.fits.begins in
      omega (
        arith,
        parts,
        ap length none,
        h.fits.eight,
        b.2,
        begins_one (received_bytes p) b.0 (length (filled_bytes p.meta)) b.1 begins,
      )

  none_of : (b : List ℕ) → (0 < length b → ⊥) → b ≡ []
  none_of [] h = refl
  none_of (x ∷ xs) h = absurd (h (omega arith))

  -- the bytes have no part of a body, and so none came
  pub none_came : (a : Expectation) → Undecided limits p a → (HasBody limits (received_bytes p) → ⊥) → filled_bytes p.body ≡ []
  none_came expectation.Continuation h not = h.fits.no_body
  none_came expectation.Size h not = h.fits.no_body
  none_came (expectation.Metadata n) h not = h.fits.no_body
  none_came (expectation.Body n) h not = none_of (filled_bytes p.body) (λ some. not (
    length (filled_bytes p.meta),
    begins_longer p.start (filled_bytes p.meta ++ filled_bytes p.body) (length (filled_bytes p.meta)) h.fits.begins,
    omega (arith, parts, h.fits.eight, some),
  ))

  -- so a buffer is taken for the body exactly where it is taken for the bytes
  pub keeps_there : (a : Expectation) (old new offered : ℕ) → Undecided limits p a
      → KeepsOne ((filled_bytes p.body ≡ []) × (old < offered)) old new offered
      → KeepsOne ((HasBody limits (received_bytes p) → ⊥) × (old < offered)) old new offered
  keeps_there a old new offered h k = record {
    taken = λ t. k.taken (none_came a h t.0, t.1);
    left = λ not. k.left (λ t. not (no_body a h t.0, t.1));
  }
