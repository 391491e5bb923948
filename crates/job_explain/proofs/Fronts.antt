-- The first bytes of a message after a piece of it.
use Rattle.std.proofs.Common.{◌≡◌, ◌∙◌, ℕ, ◌+◌, ◌≤◌, zero, suc, List, [], ◌∷◌, ◌++◌, length, take, refl, ap, sym, subst, arith, Option}
use Rattle.std.proofs.Common.{None, Some, Result, Ok, Err, IfOk}
use Rattle.std.proofs.Math.Seq.{take-length, take-nil}
use Rattle.ipc_model.specs.declared.fault.Fault.{Fault}
use Rattle.ipc_model.specs.declared.limits.Limits.{Limits}
use Rattle.ipc_frame.specs.Pieces.{Progress, taking, ended, refused, FeedsFrames, progress_after}
use Rattle.ipc_frame.specs.declared.frame.Frame.{Frame}
use Rattle.ipc_frame.specs.declared.frame.Frame.TheVariants as f
use Rattle.job_explain.specs.Kept.{KeepsFed, front_of, kept_of}

take_longer : (n : ℕ) (z piece : List ℕ) → take n (take n z ++ piece) ≡ take n (z ++ piece)
take_longer zero z piece = refl
take_longer (suc n) [] piece = refl
take_longer (suc n) (x ∷ z) piece = ap (λ s. x ∷ s) (take_longer n z piece)

-- what is kept of an unfinished message after a piece of it
longer : (limits : Limits) (z piece kept after : List ℕ) (n : ℕ) → kept ≡ front_of limits z → n ≡ length piece
    → after ≡ front_of limits (kept ++ take n piece) → after ≡ front_of limits (z ++ piece)
longer limits z piece kept after n before all kept_now =
    let whole : take n piece ≡ piece = ap (λ k. take k piece) all ∙ take-length piece in
    kept_now ∙ ap (λ s. front_of limits (kept ++ s)) whole ∙ ap (λ s. front_of limits (s ++ piece)) before ∙ take_longer (8 +
    limits.metadata) z piece

-- nothing is kept before a message and after the end
fresh : (limits : Limits) (frame : Frame) (after : List ℕ) → after ≡ [] → after ≡ kept_of limits (progress_after frame) after
fresh limits (f.Message meta head body) after none = none ∙ sym (take-nil (8 + limits.metadata))
fresh limits f.End after none = none

-- the bytes that are kept are those of the message that is being read
pub front_after : (limits : Limits) (old new : Progress) (kept piece after : List ℕ) (last : Option Frame) (r : Result (ℕ × Option Frame)
    Fault)
    → kept ≡ kept_of limits old kept → FeedsFrames limits old piece new r → KeepsFed limits kept piece after last r
    → after ≡ kept_of limits new after
front_after limits (taking z) new kept piece after last (Ok (n, None)) before fed keeps =
    subst (λ p. after ≡ kept_of limits p after) (sym fed.1) (longer limits z piece kept after n before fed.0 keeps.0)
front_after limits (taking z) new kept piece after last (Ok (n, Some frame)) before fed keeps =
    subst (λ p. after ≡ kept_of limits p after) (sym fed.1) (fresh limits frame after keeps.0)
front_after limits (taking z) new kept piece after last (Err fault) before fed keeps =
    subst (λ p. after ≡ kept_of limits p after) (sym fed.0) refl
front_after limits ended new kept piece after last r before fed keeps =
    let k : KeepsFed limits kept piece after last (Ok (0, None)) = subst (λ x. KeepsFed limits kept piece after last x) fed.1 keeps in
    subst (λ p. after ≡ kept_of limits p after) (sym fed.0) (k.0 ∙ ap (λ s. front_of limits (s ++ [])) before ∙ take-nil (8 +
    limits.metadata))
front_after limits refused new kept piece after last r before fed keeps =
    subst (λ p. after ≡ kept_of limits p after) (sym fed.0) refl

-- at most the piece is taken
pub taken_few : (limits : Limits) (old new : Progress) (piece : List ℕ) (r : Result (ℕ × Option Frame) Fault)
    → FeedsFrames limits old piece new r
    → IfOk r (λ taken. taken.0 ≤ length piece)
taken_few limits (taking z) new piece (Ok (n, None)) fed = omega (arith, fed.0)
taken_few limits (taking z) new piece (Ok (n, Some frame)) fed = fed.0
taken_few limits (taking z) new piece (Err fault) fed = tt
taken_few limits ended new piece r fed = subst (λ x. IfOk x (λ taken. taken.0 ≤ length piece)) (sym fed.1) (omega arith)
taken_few limits refused new piece r fed = subst (λ x. IfOk x (λ taken. taken.0 ≤ length piece)) (sym fed.1) tt
