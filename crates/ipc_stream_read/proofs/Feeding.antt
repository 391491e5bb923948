-- Calls of a decoder, one behind another.
use Rattle.std.proofs.Common.{◌≡◌, ◌∙◌, refl, sym, ap, subst, ℕ, ◌+◌, ◌-◌, ◌<◌, ◌≤◌, ◌⊎◌, inl, inr, List, [], ◌++◌, Option, Some}
use Rattle.std.proofs.Common.{None}
use Rattle.std.proofs.Common.{Result, Ok, Err, length, length-append, length-drop, length-take, append_assoc, take, drop, arith}
use Rattle.std.proofs.Math.Seq.{take-add}
use Rattle.std.proofs.lemmas.List.{take-append-drop}
use Rattle.ipc_model.specs.Answers.{UnlessOutOfMemory}
use Rattle.ipc_model.specs.declared.fault.Fault.{Fault}
use Rattle.ipc_model.specs.declared.limits.Limits.{Limits}
use Rattle.ipc_frame.specs.Frames.{end_of_stream, IsSized, Pending}
use Rattle.ipc_column.specs.Contents.{Contents}
use Rattle.ipc_stream_read.specs.declared.event.Event.{Event}
use Rattle.ipc_stream_read.specs.declared.event.Event.TheVariants as report
use Rattle.ipc_stream_read.specs.Counts.{messages_in}
use Rattle.ipc_stream_read.specs.Decoding.{Decoding, FeedsAt, FeedsOn, Feeds, Reaches, RefusesAt, ReportsEvent, ReportsLastEvent}
use Rattle.ipc_stream_read.specs.Decoding.{ReportsOneEvent, Waits}
use Rattle.ipc_frame.specs.Pieces.{held_of}
use Rattle.ipc_stream_read.specs.Decoding.{Stage, progress_at, taking}
use Rattle.ipc_stream_read.specs.Found.{batch_rows}
use Rattle.ipc_stream_read.specs.ReadBatches.{IsReadFrom}
use Rattle.ipc_stream_read.specs.Stream.{State, MessageEvent, schema, batch}
use Rattle.ipc_stream_read.specs.Verdicts.{DecisionPoint, Reached, Reason}
use Rattle.ipc_stream_read.proofs.Runs.{last_after, messages_after, run_then}
use Rattle.ipc_stream_read.proofs.Verdicts.{messages_reached, reached_then}

-- what is told by so many messages
abbrev CountedReach : Limits → State → List ℕ → List MessageEvent → State → List ℕ → ℕ → Type 0
CountedReach limits σ x es τ z n = (h : Reached limits σ x es τ z) × (messages_in h.run ≡ n)

abbrev CountedLast : Limits → State → List ℕ → MessageEvent → State → ℕ → Type 0
CountedLast limits σ x e τ n = (t : ReportsLastEvent limits σ x e τ) × (messages_in t.run ≡ n)

-- one way and then another
module _ (a b c : Decoding) (x z w : List ℕ) (same : b.limits ≡ a.limits) (p : Reaches a b x [] z) where
  pub reaches_then : (r : List ℕ) (es : List MessageEvent) → Reaches b c (z ++ w) es r → Reaches a c (x ++ w) es r
  reaches_then r es q =
      let n : ℕ = messages_in q.reached.run in
      let behind = subst (λ l. CountedReach l b.state (z ++ w) es c.state r n) same (q.reached, refl) in
      let joined = messages_reached a.state b.state c.state x z w r [] es p.reached behind.0 in
      record {
        reached = reached_then a.state b.state c.state x z w r [] es p.reached behind.0;
        counted = omega (arith, p.counted, q.counted, behind.1, joined);
      }

  one_then : (e : MessageEvent) → ReportsOneEvent b c (z ++ w) e → ReportsOneEvent a c (x ++ w) e
  one_then e q =
      let n : ℕ = messages_in q.last.run in
      let behind = subst (λ l. CountedLast l b.state (z ++ w) e c.state n) same (q.last, refl) in
      let joined = messages_after a.state b.state c.state p.reached.whole (z ++ w) e p.reached.run behind.0 in
      let bytes : p.reached.whole ++ (z ++ w) ≡ x ++ w =
      sym (append_assoc p.reached.whole z w) ∙ ap (λ y. y ++ w) (sym p.reached.joined) in
      let all = subst (λ y. CountedLast a.limits a.state y e c.state (messages_in p.reached.run + messages_in behind.0.run)) bytes
      (last_after a.state b.state c.state p.reached.whole (z ++ w) e p.reached.run behind.0, joined) in
      record { last = all.0; counted = omega (arith, p.counted, q.counted, behind.1, all.1); stage = q.stage }

  read_then : (found : Contents) → IsReadFrom b.limits b.state (z ++ w) found → IsReadFrom a.limits a.state (x ++ w) found
  read_then found q =
      let t = subst (λ l. IsReadFrom l b.state (z ++ w) found) same q in
      let bytes : x ++ w ≡ p.reached.whole ++ (z ++ w) =
      ap (λ y. y ++ w) p.reached.joined ∙ append_assoc p.reached.whole z w in
      record {
        silent = p.reached.whole ++ t.silent;
        message = t.message;
        joined = bytes ∙ (ap (λ y. p.reached.whole ++ y) t.joined ∙ sym (append_assoc p.reached.whole t.silent t.message));
        state = t.state;
        run = run_then a.state b.state t.state p.reached.whole t.silent [] [] p.reached.run t.run;
        metadata = t.metadata;
        head = t.head;
        body = t.body;
        frame = t.frame;
        checked = t.checked;
      }

  pub tells_then : (e : Event) → ReportsEvent b c (z ++ w) e → ReportsEvent a c (x ++ w) e
  tells_then report.Schema h = (h.0, one_then (schema h.0) h.1)
  tells_then (report.Batch found pairs) h = (one_then (batch (batch_rows (found, pairs))) h.0, read_then found h.1)
  tells_then report.End h = (reaches_then end_of_stream [] h.0, h.1, h.2)

  pub waits_then : Waits b c (z ++ w) → Waits a c (x ++ w)
  waits_then h = (h.0, reaches_then h.0 [] h.1, h.2, (h.3.0, subst (λ l. Pending l h.0 h.3.0) same h.3.1))

  pub refuses_then : (e : Fault) → RefusesAt b c (z ++ w) e → RefusesAt a c (x ++ w) e
  refuses_then e h = (
    h.0,
    reaches_then h.0 [] h.1,
    subst (λ l. UnlessOutOfMemory e ((d : DecisionPoint) × Reason l e d c.state h.0)) same h.2,
    λ out. subst (λ l. IsSized l h.0) same (h.3 out),
  )

-- the stored bytes with a beginning of the piece end with a message that reports no event
pub record FeedsSilent (old : Decoding) (piece : List ℕ) (n : ℕ) (new : Decoding) : Type 0 where
  pub kept : List ℕ
  pub stage : old.stage ≡ taking kept
  pub some : 0 < length (kept ++ take n piece)
  pub within : n ≤ length piece
  pub reaches : Reaches old new (kept ++ take n piece) [] []
  pub between : new.stage ≡ taking []

-- after it fewer bytes are stored and to be taken
pub silent_falls : (old new : Decoding) (piece : List ℕ) (k n : ℕ) → FeedsSilent old (drop k piece) n new
    → held_of (progress_at new.stage) + (length piece - (k + n)) < held_of (progress_at old.stage) + (length piece - k)
silent_falls old new piece k n h = omega (
  arith,
  ap (λ (s : Stage). held_of (progress_at s)) h.between,
  ap (λ (s : Stage). held_of (progress_at s)) h.stage,
  h.some,
  h.within,
  length-append h.kept (take n (drop k piece)),
  length-take n (drop k piece),
  length-drop k piece,
)

-- of a piece so many bytes were taken: none yet, or those through messages that tell nothing
pub record Feeding (old : Decoding) (piece : List ℕ) (taken : ℕ) (now : Decoding) : Type 0 where
  pub within : taken ≤ length piece
  pub same_limits : now.limits ≡ old.limits
  pub so_far : ((taken ≡ 0) × (now ≡ old))
      ⊎ ((z : List ℕ) × (old.stage ≡ taking z) × Reaches old now (z ++ take taken piece) [] [] × (now.stage ≡ taking []))

-- what is behind the bytes that were taken, with those before it
cut_bytes : (z piece : List ℕ) (k n : ℕ) → (z ++ take k piece) ++ take n (drop k piece) ≡ z ++ take (k + n) piece
cut_bytes z piece k n = append_assoc z (take k piece) (take n (drop k piece)) ∙ ap (λ y. z ++ y) (sym (take-add k n piece))

pub all_bytes : (z piece : List ℕ) (k : ℕ) → (z ++ take k piece) ++ drop k piece ≡ z ++ piece
all_bytes z piece k = append_assoc z (take k piece) (drop k piece) ∙ ap (λ y. z ++ y) (take-append-drop k piece)

-- what is answered of the rest of a piece, as an answer of the whole
abbrev Behind : ℕ → Result (ℕ × Option Event) Fault → Result (ℕ × Option Event) Fault
Behind k (Ok (n, found)) = Ok (k + n, found)
Behind k (Err fault) = Err fault

module _ (old now new : Decoding) (piece : List ℕ) (k : ℕ) (f : Feeding old piece k now) where
  module _ (z : List ℕ) (stage : old.stage ≡ taking z) (p : Reaches old now (z ++ take k piece) [] []) (between : now.stage ≡ taking [])
    where
      feeds_now : (r : Result (ℕ × Option Event) Fault) → Feeds now (drop k piece) new r → FeedsOn now [] (drop k piece) new r
      feeds_now r h = subst (λ s. FeedsAt now s (drop k piece) new r) between h

      feeds_old : (r : Result (ℕ × Option Event) Fault) → FeedsOn old z piece new r → Feeds old piece new r
      feeds_old r h = subst (λ s. FeedsAt old s piece new r) (sym stage) h

      on_then : (r : Result (ℕ × Option Event) Fault) → FeedsOn now [] (drop k piece) new r → FeedsOn old z piece new (Behind k r)
      on_then (Ok (n, None)) h = (
        omega (arith, h.0, length-drop k piece, f.within),
        subst (Waits old new) (all_bytes z piece k) (waits_then old now new (z ++ take k piece) [] (drop k piece) f.same_limits p h.1),
      )
      on_then (Ok (n, Some e)) h = (
        omega (arith, h.0, length-drop k piece, f.within),
        subst (λ y. ReportsEvent old new y e) (cut_bytes z piece k n)
            (tells_then old now new (z ++ take k piece) [] (take n (drop k piece)) f.same_limits p e h.1),
      )
      on_then (Err e) h = (
        h.0,
        (
          k + h.1.0,
          omega (arith, h.1.1, length-drop k piece, f.within),
          subst (λ y. RefusesAt old new y e) (cut_bytes z piece k h.1.0)
              (refuses_then old now new (z ++ take k piece) [] (take h.1.0 (drop k piece)) f.same_limits p e h.1.2),
        ),
      )

      feeds_then : (r : Result (ℕ × Option Event) Fault) → Feeds now (drop k piece) new r → Feeds old piece new (Behind k r)
      feeds_then r h = feeds_old (Behind k r) (on_then r (feeds_now r h))

  first_piece : (r : Result (ℕ × Option Event) Fault) → k ≡ 0 → Behind k r ≡ r
  first_piece (Ok (n, found)) none = ap (λ m. Ok (m, found)) (omega (arith, none))
  first_piece (Err e) none = refl

  -- what is answered of the rest is answered of the whole
  pub fed_then : (r : Result (ℕ × Option Event) Fault) → Feeds now (drop k piece) new r → Feeds old piece new (Behind k r)
  fed_then r h = by_cases f.so_far
    where
      by_cases : ((k ≡ 0) × (now ≡ old))
          ⊎ ((z : List ℕ) × (old.stage ≡ taking z) × Reaches old now (z ++ take k piece) [] [] × (now.stage ≡ taking []))
          → Feeds old piece new (Behind k r)
      by_cases (inl s) =
          subst (Feeds old piece new) (sym (first_piece r s.0))
          (subst (λ m. Feeds old (drop m piece) new r) s.0 (subst (λ d. Feeds d (drop k piece) new r) s.1 h))
      by_cases (inr s) = feeds_then s.0 s.1 s.2 s.3 r h

  -- a message that tells nothing is one more
  pub feeding_more : (n : ℕ) → new.limits ≡ now.limits → FeedsSilent now (drop k piece) n new → Feeding old piece (k + n) new
  feeding_more n same h = record {
    within = omega (arith, h.within, length-drop k piece, f.within);
    same_limits = same ∙ f.same_limits;
    so_far = inr (by_cases f.so_far);
  }
    where
      by_cases : ((k ≡ 0) × (now ≡ old))
          ⊎ ((z : List ℕ) × (old.stage ≡ taking z) × Reaches old now (z ++ take k piece) [] [] × (now.stage ≡ taking []))
          → (z : List ℕ) × (old.stage ≡ taking z) × Reaches old new (z ++ take (k + n) piece) [] [] × (new.stage ≡ taking [])
      by_cases (inl s) =
          let at : k + n ≡ n = omega (arith, s.0) in (
            h.kept,
            sym (ap (λ d. d.stage) s.1) ∙ h.stage,
            subst (λ m. Reaches old new (h.kept ++ take m piece) [] []) (sym at)
                (subst (λ m. Reaches old new (h.kept ++ take n (drop m piece)) [] []) s.0
                (subst (λ d. Reaches d new (h.kept ++ take n (drop k piece)) [] []) s.1 h.reaches)),
            h.between,
          )
      by_cases (inr s) =
          let none : [] ≡ h.kept = (let both : taking [] ≡ taking h.kept = sym s.3 ∙ h.stage in cc) in (
            s.0,
            s.1,
            subst (λ y. Reaches old new y [] []) (cut_bytes s.0 piece k n)
                (reaches_then old now new (s.0 ++ take k piece) [] (take n (drop k piece)) f.same_limits s.2 [] []
                (subst (λ y. Reaches now new (y ++ take n (drop k piece)) [] []) (sym none) h.reaches)),
            h.between,
          )
