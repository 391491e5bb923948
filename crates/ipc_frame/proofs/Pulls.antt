-- What comes from a source to the parts of a message.
use Rattle.std.proofs.Common.{◌≡◌, ◌≢◌, ◌∙◌, refl, sym, ap, subst, ℕ, ◌≤◌, inl, inr, List, [], ◌++◌, Option, length, take}
use Rattle.std.proofs.Common.{arith, Result, Ok, Err, Some, None}
use Rattle.std.specs.Prelude.{MatchResult}
use Rattle.std.specs.Io.KnownBytes.{Keeps}
use Rattle.std.proofs.KnownBytes.{Consumes-nil, Consumes-kept}
use Rattle.std.proofs.lemmas.List.{take_all}
use Rattle.ipc_model.specs.declared.fault.Fault.{Fault}
use Rattle.ipc_model.specs.declared.fault.Fault.TheVariants.{Read}
use Rattle.ipc_model.specs.declared.limits.Limits.{Limits}
use Rattle.ipc_frame.specs.Frames.{Pending}
use Rattle.ipc_frame.specs.Sees.{IsFrame, RefusesMessage}
use Rattle.ipc_frame.specs.Decisions.{RefusesNow}
use Rattle.ipc_frame.specs.Failures.{IsOutside, UnlessOutside}
use Rattle.ipc_frame.specs.Parts.{received_bytes, bytes_needed, Undecided}
use Rattle.ipc_frame.specs.Pieces.{Concludes, FeedsFrames, Progress, taking, ended, refused}
use Rattle.ipc_frame.specs.Pulled.{Comes, EndsAt, GivesFrame, TakesFromSource}
use Rattle.ipc_frame.specs.Laws.{feed_result}
use Rattle.ipc_frame.specs.declared.frame.Frame.{Frame}
use Rattle.ipc_frame.specs.declared.partial_message.PartialMessage.{PartialMessage}
use Rattle.ipc_frame.specs.declared.partial_message.Expectation.{Expectation}
use Rattle.ipc_frame.proofs.Exact.{refuses_now}

unless_outside : (fault : Fault) (P : Type 0) → IsOutside fault → UnlessOutside fault P
unless_outside fault P (inl is) r m = absurd (r is)
unless_outside fault P (inr is) r m = absurd (m is)

-- nothing came
pub takes_lost : (limits : Limits) (a b : Option (List ℕ)) (p : PartialMessage) (w : Expectation) (fault : Fault) (new : Progress)
    → Undecided limits p w → Keeps a b → IsOutside fault → new ≡ refused
    → TakesFromSource limits a b (taking (received_bytes p)) new 0 (Err fault)
takes_lost limits a b p w fault new h kept why gone = record {
  came = [];
  counted = refl;
  bytes = Consumes-kept a a b [] (Consumes-nil a) kept;
  few = (bytes_needed p w, h.pending, omega arith);
  at_end = tt;
  gives = (gone, unless_outside fault _ why);
}

-- what came makes what its bytes say
module _ (limits : Limits) (a b : Option (List ℕ)) (p : PartialMessage) (w : Expectation) (z : List ℕ) (k : ℕ) (new : Progress)
    (h : Undecided limits p w) (c : Comes a b (received_bytes p) z (bytes_needed p w) k) where
  few : length c.came ≤ bytes_needed p w
  few = omega (arith, c.count, c.few)

  gives : (r : Result (Option Frame) Fault) → Concludes limits z new r → GivesFrame limits (taking (received_bytes p)) c.came new r
  gives (Ok None) g = (refl, g.0 ∙ ap taking c.buffer, (g.1.0, subst (λ x. Pending limits x g.1.0) c.buffer g.1.1))
  gives (Ok (Some frame)) g =
      let all : z ≡ received_bytes p ++ take (length c.came) c.came =
      c.buffer ∙ ap (λ x. received_bytes p ++ x) (sym (take_all (length c.came) c.came (omega arith))) in
      (omega arith, g.0, subst (λ x. IsFrame limits x frame) all g.1)
  gives (Err fault) g = (
    g.0,
    λ r m.
        refuses_now limits (received_bytes p) c.came (bytes_needed p w) few h.pending fault
        (subst (λ x. RefusesMessage limits x fault) c.buffer (g.1 m)),
  )

  ends : (r : Result (Option Frame) Fault) → EndsAt (taking (received_bytes p)) c.came b r
  ends (Ok None) = λ none. c.at_end (sym c.count ∙ ap length none)
  ends (Ok (Some frame)) = tt
  ends (Err fault) = tt

  pub takes_came : (r : Result (Option Frame) Fault) → Concludes limits z new r
      → TakesFromSource limits a b (taking (received_bytes p)) new k r
  takes_came r g = record {
    came = c.came;
    counted = c.count;
    bytes = c.bytes;
    few = (bytes_needed p w, h.pending, few);
    at_end = ends r;
    gives = gives r g;
  }

-- what is answered of the bytes that came is what is answered of a piece of them
pub pulled_as_fed : (limits : Limits) (before after : Progress) (came : List ℕ) (r : Result (Option Frame) Fault)
    → GivesFrame limits before came after r → MatchResult r (λ _. Unit {0}) (λ fault. fault ≢ Read)
    → FeedsFrames limits before came after (feed_result (length came) r)
pulled_as_fed limits before after came (Ok found) g worked = g
pulled_as_fed limits (taking z) after came (Err fault) g worked =
    let all : take (length came) came ≡ came = take_all (length came) came (omega arith) in
    (g.0, λ m. (length came, omega arith, subst (λ x. RefusesNow limits (z ++ x) fault) (sym all) (g.1 worked m)))
pulled_as_fed limits ended after came (Err fault) g worked = g
pulled_as_fed limits refused after came (Err fault) g worked = g
