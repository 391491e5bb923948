-- A piece that is fed part by part.
use Rattle.std.proofs.Common.{◌≡◌, ◌∙◌, refl, sym, ap, subst, ℕ, ◌+◌, ◌-◌, ◌≤◌, List, ◌++◌, length, take, drop, append_assoc}
use Rattle.std.proofs.Common.{length-take, arith, Option, Some, None, Result, Ok, Err, true, false}
use Rattle.std.specs.Prelude.{OnErr, OnOk}
use Rattle.std.specs.Result.{is_err}
use Rattle.std.proofs.lemmas.Bool.{false≢true}
use Rattle.std.proofs.lemmas.List.{take-append-drop, take_all}
use Rattle.std.proofs.Math.Seq.{take-add}
use Rattle.ipc_model.specs.declared.fault.Fault.{Fault}
use Rattle.ipc_model.specs.declared.limits.Limits.{Limits}
use Rattle.ipc_frame.specs.Frames.{IsSized, Pending}
use Rattle.ipc_frame.specs.Sees.{IsFrame, RefusesMessage}
use Rattle.ipc_frame.specs.Decisions.{RefusesNow}
use Rattle.ipc_frame.specs.Parts.{HasSize, received_bytes, bytes_needed, Undecided}
use Rattle.ipc_frame.specs.Pieces.{Concludes, FeedsFrames, MatchesPhase, Progress, TakesMemory, progress_of, taking, ended, refused}
use Rattle.ipc_frame.specs.declared.frame.Frame.{Frame}
use Rattle.ipc_frame.specs.declared.partial_message.PartialMessage.{PartialMessage}
use Rattle.ipc_frame.specs.declared.partial_message.Expectation.{Expectation}
use Rattle.ipc_frame.specs.declared.partial_message.FramePhase.{FramePhase}
use Rattle.ipc_frame.specs.declared.partial_message.FramePhase.TheVariants as phase
use Rattle.ipc_frame.proofs.Exact.{refuses_now}
use Rattle.ipc_frame.proofs.Sized.{sized_at, sized_longer}

-- what a call ensures, once its result was tested
pub ok_from : {T E P : Type 0} → (r : Result T E) → is_err r ≡ false → OnOk r P → P
ok_from (Ok x) e h = h
ok_from (Err x) e h = absurd (false≢true (sym e))

pub err_from : {T E P : Type 0} → (r : Result T E) → is_err r ≡ true → OnErr r P → P
err_from (Ok x) e h = absurd (false≢true e)
err_from (Err x) e h = h

-- where messages are awaited, more bytes are stored
abbrev pub fed_on : Progress → List ℕ → Progress
fed_on (taking z) x = taking (z ++ x)
fed_on ended x = ended
fed_on refused x = refused

-- a beginning of the piece was taken, and nothing is decided
pub record Feeding (limits : Limits) (old : Progress) (piece : List ℕ) (p : PartialMessage) (s : FramePhase) (taken : ℕ) : Type 0 where
  pub within : taken ≤ length piece
  pub sound : MatchesPhase limits p s
  pub progress : progress_of p s ≡ fed_on old (take taken piece)

-- what was stored before, where bytes are stored
stored : (old : Progress) (x z : List ℕ) → taking z ≡ fed_on old x → (w : List ℕ) × (old ≡ taking w) × (z ≡ w ++ x)
stored (taking w) x z is = (w, refl, cc)
stored ended x z is = absurd (cc)
stored refused x z is = absurd (cc)

module _ (limits : Limits) (old : Progress) (piece : List ℕ) (p : PartialMessage) (s : FramePhase) (taken : ℕ)
    (h : Feeding limits old piece p s taken) (a : Expectation) (reading : s ≡ phase.Reading a) where
  pub undecided : Undecided limits p a
  undecided = subst (MatchesPhase limits p) reading h.sound

  before : (w : List ℕ) × (old ≡ taking w) × (received_bytes p ≡ w ++ take taken piece)
  before = stored old (take taken piece) (received_bytes p) (ap (progress_of p) (sym reading) ∙ h.progress)

  feeds_here : (r : Result (ℕ × Option Frame) Fault) (new : Progress) → FeedsFrames limits (taking before.0) piece new r
      → FeedsFrames limits old piece new r
  feeds_here r new f = subst (λ q. FeedsFrames limits q piece new r) (sym before.1) f

  -- the whole piece was taken
  pub feeds_all : length piece ≤ taken → FeedsFrames limits old piece (progress_of p s) (Ok (taken, None))
  feeds_all done =
      let all : received_bytes p ≡ before.0 ++ piece = before.2 ∙ ap (λ z. before.0 ++ z) (take_all taken piece done) in
      feeds_here (Ok (taken, None)) (progress_of p s) (
        omega (arith, h.within),
        ap (progress_of p) reading ∙ ap taking all,
        (bytes_needed p a, subst (λ z. Pending limits z (bytes_needed p a)) all undecided.pending),
      )

  -- where memory runs out, the size of the metadata came
  pub feeds_sized : HasSize a → TakesMemory limits old piece
  feeds_sized has =
      let all : received_bytes p ++ drop taken piece ≡ before.0 ++ piece =
      ap (λ z. z ++ drop taken piece) before.2 ∙ (append_assoc before.0 (take taken piece) (drop taken piece)
      ∙ ap (λ z. before.0 ++ z) (take-append-drop taken piece)) in
      subst (λ q. TakesMemory limits q piece) (sym before.1) (subst (IsSized limits) all
      (sized_longer (received_bytes p) (drop taken piece) (sized_at limits p a has undecided.fits)))

  module _ (count : ℕ) (small : count ≤ bytes_needed p a) (fits : taken + count ≤ length piece) where
    abbrev part : List ℕ
    part = take (taken + count - taken) (drop taken piece)

    count_is : part ≡ take count (drop taken piece)
    count_is = let n : taken + count - taken ≡ count = omega arith in ap (λ k. take k (drop taken piece)) n

    -- what came is a beginning of the piece
    came : received_bytes p ++ part ≡ before.0 ++ take (taken + count) piece
    came =
        ap (λ z. received_bytes p ++ z) count_is ∙ (ap (λ z. z ++ take count (drop taken piece)) before.2
        ∙ (append_assoc before.0 (take taken piece) (take count (drop taken piece))
        ∙ ap (λ z. before.0 ++ z) (sym (take-add taken count piece))))

    module _ (z : List ℕ) (is : z ≡ received_bytes p ++ part) where
      pub feeds_more : (q : PartialMessage) (t : FramePhase) → MatchesPhase limits q t → Concludes limits z (progress_of q t) (Ok None)
          → Feeding limits old piece q t (taken + count)
      feeds_more q t sound k = record {
        within = fits;
        sound = sound;
        progress = k.0 ∙ (ap taking (is ∙ came) ∙ ap (λ q. fed_on q (take (taken + count) piece)) (sym before.1));
      }

      pub feeds_whole : (new : Progress) (frame : Frame) → Concludes limits z new (Ok (Some frame))
          → FeedsFrames limits old piece new (Ok (taken + count, Some frame))
      feeds_whole new frame k =
          feeds_here (Ok (taken + count, Some frame)) new (fits, k.0, subst (λ x. IsFrame limits x frame) (is ∙ came) k.1)

      pub feeds_refused : (new : Progress) (fault : Fault) → Concludes limits z new (Err fault)
          → FeedsFrames limits old piece new (Err fault)
      feeds_refused new fault k = feeds_here (Err fault) new (
        k.0,
        λ ne.
            let few : length part ≤ bytes_needed p a = omega (arith, ap length count_is, length-take count (drop taken piece), small) in
            let now = refuses_now limits (received_bytes p) part (bytes_needed p a) few undecided.pending fault
            (subst (λ x. RefusesMessage limits x fault) is (k.1 ne)) in
            (taken + count, fits, subst (λ x. RefusesNow limits x fault) came now),
      )
