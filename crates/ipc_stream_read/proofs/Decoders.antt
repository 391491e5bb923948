-- What the calls of a decoder say.
use Rattle.std.proofs.Common.{◌≡◌, ◌≢◌, ◌∙◌, refl, sym, ap, subst, ℕ, ◌-◌, ◌^◌, ◌≤◌, List, [], ◌∷◌, ◌++◌, Option, Some, None}
use Rattle.std.proofs.Common.{Result, Ok, Err, length, take, drop, arith}
use Rattle.std.specs.Prelude.{Bool, true, false, IfErr}
use Rattle.std.proofs.lemmas.List.{append-nil}
use Rattle.ipc_frame.proofs.Exact.{pending_none}
use Rattle.ipc_frame.proofs.Sized.{frame_sized, sized_longer}
use Rattle.ipc_frame.proofs.Undecided.{pending_frame}
use Rattle.std.proofs.Math.Seq.{take-length}
use Rattle.ipc_model.specs.Answers.{UnlessOutOfMemory}
use Rattle.ipc_model.specs.declared.fault.Fault.{Fault}
use Rattle.ipc_model.specs.declared.fault.Fault.TheVariants.{OutOfMemory}
use Rattle.ipc_model.specs.declared.limits.Limits.{Limits}
use Rattle.ipc_frame.specs.Frames.{IsSized, Pending}
use Rattle.ipc_frame.specs.Sees.{IsFrame}
use Rattle.ipc_frame.specs.Pieces.{Framing, Progress, progress_after}
use Rattle.ipc_frame.specs.Parts.{Capacity, no_capacity}
use Rattle.ipc_frame.specs.Pieces as frames
use Rattle.ipc_frame.specs.Pulled as pulled
use Rattle.ipc_frame.specs.declared.frame.Frame.{Frame}
use Rattle.ipc_frame.specs.declared.frame.Frame.TheVariants as f
use Rattle.ipc_stream_read.specs.declared.stream_state.StreamState.{StreamState}
use Rattle.ipc_stream_read.specs.declared.end.End.{End}
use Rattle.ipc_stream_read.specs.declared.end.End.TheVariants.{Closed, Mark}
use Rattle.ipc_stream_read.specs.declared.event.Event.{Event}
use Rattle.ipc_stream_read.specs.declared.event.Event.TheVariants as report
use Rattle.ipc_stream_read.specs.Counts.{count_up}
use Rattle.ipc_stream_read.specs.StreamStates.{Brings, IsMessageFrame, IsWellFormedFrame, Moves, decoding_of, stage_of}
use Rattle.ipc_stream_read.specs.Decoding.{Decoding, taking, over, refused, Reaches, Waits, ReportsEvent, RefusesAt, FeedsOn}
use Rattle.ipc_frame.specs.Failures.{FailsAs}
use Rattle.ipc_stream_read.specs.Decoding.{FeedsAt, Feeds, Gives, Draws, ReportsOneEvent, progress_at}
use Rattle.ipc_stream_read.specs.Scopes.{state_of}
use Rattle.ipc_stream_read.specs.Found.{batch_rows}
use Rattle.ipc_stream_read.specs.Stream.{State, MessageEvent, Run, done, schema, batch, IsMessage}
use Rattle.ipc_stream_read.specs.Verdicts.{DecisionPoint, Reason}
use Rattle.ipc_stream_read.proofs.Courses.{frame_well_formed, Brought, brought, early_reason, frame_reason, not_read, refused_stays}
use Rattle.ipc_stream_read.proofs.Feeding.{FeedsSilent, all_bytes}
use Rattle.ipc_stream_read.proofs.Rooms.{progress_is}
use Rattle.ipc_stream_read.proofs.Runs.{messages_none, messages_one, run_one}

-- want of memory, and any other fault
is_memory : Fault → Bool
is_memory OutOfMemory = true
is_memory _ = false

memory_only : (e : Fault) → is_memory e ≡ true → e ≡ OutOfMemory
unfolding is_memory
memory_only OutOfMemory h = refl
memory_only _ h = absurd (cc)

other_fault : (e : Fault) → is_memory e ≡ false → e ≢ OutOfMemory
unfolding is_memory
other_fault e h p = let q : true ≡ false = subst (λ x. is_memory x ≡ false) p h in cc

-- a message has a size
message_sized : (limits : Limits) (x : List ℕ) (frame : Frame) → IsFrame limits x frame → IsMessageFrame frame → IsSized limits x
message_sized limits x (f.Message meta head body) is message = frame_sized x meta.items body.items head is
message_sized limits x f.End is message = absurd message

-- how a decoder goes on after what a frame brought
abbrev Went : ℕ → Decoding → Option Event → Type 0
Went messages new (Some report.End) = (new.stage ≡ over Mark) × (new.messages ≡ messages)
Went messages new found = (new.stage ≡ taking []) × (new.messages ≡ count_up messages 1)

-- it does, where the frame was taken
went : (mid last : Framing) (c d : StreamState) (σ τ : State) (limits : Limits) (frame : Frame) (found : Option Event)
    → Brings limits σ frame τ (Ok found) → mid.progress ≡ progress_after frame → Moves mid last c d (Ok found)
    → Went c.messages (decoding_of last d) found
went mid last c d σ τ limits f.End None b p m = absurd b
went mid last c d σ τ limits f.End (Some report.Schema) b p m = absurd b
went mid last c d σ τ limits f.End (Some (report.Batch found pairs)) b p m = absurd b
went mid last c d σ τ limits f.End (Some report.End) b p m =
    (ap (λ f. stage_of f.progress d.end) m.0 ∙ (ap (λ q. stage_of q d.end) p ∙ ap (stage_of frames.ended) m.1.0), m.1.1)
went mid last c d σ τ limits (f.Message meta g body) None b p m =
    (ap (λ f. stage_of f.progress d.end) m.0 ∙ ap (λ q. stage_of q d.end) p, m.1.1)
went mid last c d σ τ limits (f.Message meta g body) (Some report.Schema) b p m =
    (ap (λ f. stage_of f.progress d.end) m.0 ∙ ap (λ q. stage_of q d.end) p, m.1.1)
went mid last c d σ τ limits (f.Message meta g body) (Some (report.Batch found pairs)) b p m =
    (ap (λ f. stage_of f.progress d.end) m.0 ∙ ap (λ q. stage_of q d.end) p, m.1.1)
went mid last c d σ τ limits (f.Message meta g body) (Some report.End) b p m = absurd b

-- from what was kept, with what is in force and counted as it was
module _ (old new : Decoding) (fits : old.messages ≤ 2 ^ 64 - 1) where
  -- no message is whole
  pub still : (z : List ℕ) → new.state ≡ old.state → new.messages ≡ old.messages → Reaches old new z [] z
  still z same count =
      let run : Run old.limits old.state [] [] new.state = subst (Run old.limits old.state [] []) (sym same) done in
      record {
        reached = record { whole = []; joined = refl; run = run };
        counted = omega (arith, count, fits, messages_none run refl);
      }

  -- all that came is undecided
  pub waits : (z : List ℕ) (k : ℕ) → new.state ≡ old.state → new.messages ≡ old.messages → new.stage ≡ taking z → Pending old.limits z k
      → Waits old new z
  waits z k same count stage undecided = (z, still z same count, stage, (k, undecided))

  one_told : (x : List ℕ) (e : MessageEvent) → IsMessage old.limits old.state x (e ∷ []) new.state
      → new.stage ≡ taking [] → new.messages ≡ count_up old.messages 1 → ReportsOneEvent old new x e
  one_told x e report stage count = record {
    last = record {
      silent = [];
      message = x;
      joined = refl;
      between = old.state;
      run = done;
      report = report;
    };
    counted = count;
    stage = stage;
  }

  -- a frame that is taken tells its event
  pub tells : (x : List ℕ) (e : Event) → Brought old.limits old.state new.state x (Some e) → Went old.messages new (Some e)
      → ReportsEvent old new x e
  tells x report.Schema b m = (b.0, one_told x (schema b.0) b.1 m.0 m.1)
  tells x (report.Batch found pairs) b m = (one_told x (batch (batch_rows (found, pairs))) b.0 m.0 m.1, b.1)
  tells x report.End b m = (subst (λ z. Reaches old new x [] z) b.0 (still x b.1 m.1), b.2, m.0)

  -- or tells nothing
  pub silent : (x : List ℕ) → Brought old.limits old.state new.state x None → Went old.messages new None → Reaches old new x [] []
  silent x b m = record {
    reached = record { whole = x; joined = sym (append-nil x); run = run_one b.frame b.step };
    counted = omega (arith, m.1, messages_one b.frame b.step);
  }

  -- what was taken is refused
  pub refuses : (z piece : List ℕ) (e : Fault) → new.state ≡ old.state → new.messages ≡ old.messages → new.stage ≡ refused
      → UnlessOutOfMemory e
      ((n : ℕ) × (n ≤ length piece) × ((d : DecisionPoint) × Reason old.limits e d old.state (z ++ take n piece)))
      → (e ≡ OutOfMemory → IsSized old.limits (z ++ piece)) → FeedsOn old z piece new (Err e)
  refuses z piece e same count stage reason sized = (
    stage,
    elim (is_memory e) as (λ b. is_memory e ≡ b
        → (n : ℕ) × (n ≤ length piece) × RefusesAt old new (z ++ take n piece) e) [
          | true ↦ λ h. (
            length piece,
            omega arith,
            (
              z ++ take (length piece) piece,
              still (z ++ take (length piece) piece) same count,
              (λ other. absurd (other (memory_only e h))),
              λ is. subst (λ y. IsSized old.limits (z ++ y)) (sym (take-length piece)) (sized is),
            ),
          )
          | false ↦ λ h. let why = reason (other_fault e h) in (
            why.0,
            why.1,
            (
              z ++ take why.0 piece,
              still (z ++ take why.0 piece) same count,
              (λ other. (why.2.0, subst (λ σ. Reason old.limits e why.2.0 σ (z ++ take why.0 piece)) (sym same) why.2.1)),
              λ is. absurd (other_fault e h is),
            ),
          )
        ] refl,
  )

-- ---- the calls

-- what the frames answered
abbrev count_in : Result (ℕ × Option Frame) Fault → ℕ
count_in (Ok r) = r.0
count_in (Err e) = 0

abbrev found_in : Result (ℕ × Option Frame) Fault → Option Frame
found_in (Ok r) = r.1
found_in (Err e) = None

ok_not_err : {r : ℕ × Option Frame} {e : Fault} → Ok r ≡ Err e → ⊥
ok_not_err is = absurd (cc)

err_same : {e f : Fault} (r : Result (ℕ × Option Frame) Fault) → r ≡ Err e → r ≡ Err f → e ≡ f
err_same r a b = cc

-- what the frames do with a piece, where they find this
pub feeds_at : (limits : Limits) (p q : Progress) (piece : List ℕ) (n : ℕ) (f g : Option Frame) → f ≡ g
    → frames.FeedsFrames limits p piece q (Ok (n, f)) → frames.FeedsFrames limits p piece q (Ok (n, g))
feeds_at limits p q piece n f g is h = subst (λ x. frames.FeedsFrames limits p piece q (Ok (n, x))) is h

-- what the frames take of a source, where they answer this
pub takes_at : (limits : Limits) (a b : Option (List ℕ)) (p q : Progress) (n : ℕ) (r s : Result (Option Frame) Fault) → r ≡ s
    → pulled.TakesFromSource limits a b p q n r → pulled.TakesFromSource limits a b p q n s
takes_at limits a b p q n r s is t = subst (pulled.TakesFromSource limits a b p q n) is t

-- a frame is found where bytes are kept
where_taking : (P : Progress → Type 0) (limits : Limits) (p q : Progress) (piece : List ℕ) (n : ℕ) (frame : Frame)
    → frames.FeedsFrames limits p piece q (Ok (n, Some frame))
    → ((z : List ℕ) → frames.FeedsFrames limits (frames.taking z) piece q (Ok (n, Some frame)) → P (frames.taking z)) → P p
where_taking P limits (frames.taking z) q piece n frame h then = then z h
where_taking P limits frames.ended q piece n frame h then = absurd (let bad : Some frame ≡ None = ap found_in h.1 in cc)
where_taking P limits frames.refused q piece n frame h then = absurd (ok_not_err h.1)

-- a schema that the frames bring keeps the rules
pub fed_well_formed : (limits others : Limits) (p q : Progress) (piece : List ℕ) (n : ℕ) (frame : Frame) → others ≡ limits
    → frames.FeedsFrames limits p piece q (Ok (n, Some frame)) → IsWellFormedFrame others frame
fed_well_formed limits others p q piece n frame same h =
    subst (λ l. IsWellFormedFrame l frame) (sym same) (where_taking (λ r. IsWellFormedFrame limits frame) limits p q piece n frame h
    (λ z f. frame_well_formed limits (z ++ take n piece) frame f.2))

-- the stage after the end
over_is : (end : Option End) → (e : End) × (stage_of frames.ended end ≡ over e)
over_is None = (Closed, refl)
over_is (Some e) = (e, refl)

-- a decoder, by the progress of its frames
module _ (limits : Limits) (room : Capacity) (c : StreamState) (fits : c.messages ≤ 2 ^ 64 - 1) where
  abbrev old : Progress → Decoding
  old p = decoding_of (record { limits = limits; progress = p; room = room }) c

  -- a call of the frames that brings no frame
  module _ (after : Framing) (same : after.limits ≡ limits) (let_go : frames.DropsBuffers after.progress after.room) where
    abbrev here : Decoding
    here = decoding_of after c

    -- after the end and after a refusal it changes nothing
    stays : (p : Progress) → after.progress ≡ p → room ≡ no_capacity → after.room ≡ no_capacity → here ≡ old p
    stays p is none gone =
        let now : after ≡ record { limits = limits; progress = p; room = room } =
        λ i. record { limits = same i; progress = is i; room = (gone ∙ sym none) i } in
        ap (λ f. decoding_of f c) now

    ended_stays : after.progress ≡ frames.ended → room ≡ no_capacity → here ≡ old frames.ended
    ended_stays is none = stays frames.ended is none (subst (λ p. frames.DropsBuffers p after.room) is let_go)

    refused_stay : after.progress ≡ frames.refused → room ≡ no_capacity → here ≡ old frames.refused
    refused_stay is none = stays frames.refused is none (subst (λ p. frames.DropsBuffers p after.room) is let_go)

    -- nothing is decided
    pub feeds_none : (p : Progress) (piece : List ℕ) (n : ℕ) → frames.DropsBuffers p room
        → frames.FeedsFrames limits p piece after.progress (Ok (n, None)) → Feeds (old p) piece here (Ok (n, None))
    feeds_none (frames.taking z) piece n drops h = (
      h.0,
      waits (old (frames.taking z)) here fits (z ++ piece) h.2.0 refl refl (ap (λ p. stage_of p c.end) h.1) h.2.1,
    )
    feeds_none frames.ended piece n drops h =
        subst (λ s. FeedsAt (old frames.ended) s piece here (Ok (n, None))) (sym (over_is c.end).1)
        (ended_stays h.0 drops, ap (λ k. Ok (k, None)) (ap count_in h.1))
    feeds_none frames.refused piece n drops h = absurd (ok_not_err h.1)

    -- what the frames refuse is refused
    pub feeds_refused : (p : Progress) (piece : List ℕ) (e : Fault) → frames.DropsBuffers p room
        → frames.FeedsFrames limits p piece after.progress (Err e) → (e ≡ OutOfMemory → frames.TakesMemory limits p piece)
        → Feeds (old p) piece here (Err e)
    feeds_refused (frames.taking z) piece e drops h memory =
        refuses (old (frames.taking z)) here fits z piece e refl refl (ap (λ p. stage_of p c.end) h.0)
        (λ other. let why = h.1 other in (why.0, why.1, early_reason limits (state_of c.scope) (z ++ take why.0 piece) e why.2)) memory
    feeds_refused frames.ended piece e drops h memory = absurd (ok_not_err (sym h.1))
    feeds_refused frames.refused piece e drops h memory = (refused_stay h.0 drops, ap Err (err_same (Err e) refl h.1))

    -- what comes from a source is kept
    pub draws_none : (p : Progress) (from to : Option (List ℕ)) (count : ℕ) → frames.DropsBuffers p room
        → pulled.TakesFromSource limits from to p after.progress count (Ok None) → Draws from to (old p) here count (Ok None)
    draws_none p from to count drops t = record {
      came = t.came;
      counted = t.counted;
      bytes = t.bytes;
      few = subst (λ q. pulled.IsFew limits q t.came) (sym (progress_is p c.end)) t.few;
      at_end = subst (λ q. pulled.EndsAt {T = Event} q t.came to (Ok None)) (sym (progress_is p c.end)) (end_at p t.came t.at_end);
      gives = feeds_none p t.came (length t.came) drops t.gives;
    }
      where
        end_at : (q : Progress) (came : List ℕ) → pulled.EndsAt {T = Frame} q came to (Ok None)
            → pulled.EndsAt {T = Event} q came to (Ok None)
        end_at (frames.taking z) came end = end
        end_at frames.ended came end = tt
        end_at frames.refused came end = tt

    refused_by : (p : Progress) (from to : Option (List ℕ)) (count : ℕ) (e : Fault) → frames.DropsBuffers p room
        → pulled.TakesFromSource limits from to p after.progress count (Err e)
        → (e ≡ OutOfMemory → frames.TakesMemory limits p []) → Draws from to (old p) here count (Err e)
    refused_by (frames.taking z) from to count e drops t memory = record {
      came = t.came;
      counted = t.counted;
      bytes = t.bytes;
      few = t.few;
      at_end = tt;
      gives = (
        ap (λ p. stage_of p c.end) t.gives.0,
        refl,
        refl,
        (λ a b. early_reason limits (state_of c.scope) (z ++ t.came) e (t.gives.1 a b)),
        λ out. sized_longer z t.came (subst (IsSized limits) (append-nil z) (memory out)),
      );
    }
    refused_by frames.ended from to count e drops t memory = absurd (ok_not_err (sym t.gives.1))
    refused_by frames.refused from to count e drops t memory = record {
      came = t.came;
      counted = t.counted;
      bytes = t.bytes;
      few = t.few;
      at_end = tt;
      gives = (refused_stay t.gives.0 drops, ap Err (err_same (Err e) refl t.gives.1));
    }

    -- or it is refused
    pub draws_refused : (p : Progress) (from to : Option (List ℕ)) (count : ℕ) (r : Result (Option Frame) Fault) (e : Fault) → r ≡ Err e
        → frames.DropsBuffers p room → pulled.TakesFromSource limits from to p after.progress count r
        → IfErr r (λ fault. fault ≡ OutOfMemory → frames.TakesMemory limits p []) → Draws from to (old p) here count (Err e)
    draws_refused p from to count r e is drops t memory = refused_by p from to count e drops
        (takes_at limits from to p after.progress count r (Err e) is t)
        (subst (λ q. IfErr q (λ fault. fault ≡ OutOfMemory → frames.TakesMemory limits p [])) is memory)

  -- a frame that the frames find, and what it brings
  module _ (mid last : Framing) (d : StreamState) (same : mid.limits ≡ limits) (frame : Frame) where
    abbrev new : Decoding
    new = decoding_of last d

    abbrev Bringing : Result (Option Event) Fault → Type 0
    Bringing r = Brings mid.limits (state_of c.scope) frame (state_of d.scope) r

    brings : (r : Result (Option Event) Fault) → Bringing r → Brings limits (state_of c.scope) frame (state_of d.scope) r
    brings r b = subst (λ l. Brings l (state_of c.scope) frame (state_of d.scope) r) same b

    on : (found : Option Event) → Bringing (Ok found) → mid.progress ≡ progress_after frame → Moves mid last c d (Ok found)
        → Went c.messages new found
    on found b at m = went mid last c d (state_of c.scope) (state_of d.scope) mid.limits frame found b at m

    -- a frame that is taken tells its event
    pub feeds_event : (p : Progress) (piece : List ℕ) (n : ℕ) (e : Event)
        → frames.FeedsFrames limits p piece mid.progress (Ok (n, Some frame)) → Bringing (Ok (Some e)) → Moves mid last c d (Ok (Some e))
        → Feeds (old p) piece new (Ok (n, Some e))
    feeds_event p piece n e h b m =
        where_taking (λ q. Feeds (old q) piece new (Ok (n, Some e))) limits p mid.progress piece n frame h (λ z f. (
          f.0,
          tells (old (frames.taking z)) new fits (z ++ take n piece) e
              (brought limits (state_of c.scope) (state_of d.scope) (z ++ take n piece) frame (Some e) f.2 (brings (Ok (Some e)) b))
              (on (Some e) b f.1 m),
        ))

    -- or tells nothing
    pub feeds_silent : (p : Progress) (piece : List ℕ) (n : ℕ) → frames.FeedsFrames limits p piece mid.progress (Ok (n, Some frame))
        → Bringing (Ok None) → Moves mid last c d (Ok None) → FeedsSilent (old p) piece n new
    feeds_silent p piece n h b m =
        where_taking (λ q. FeedsSilent (old q) piece n new) limits p mid.progress piece n frame h (λ z f.
        let one = brought limits (state_of c.scope) (state_of d.scope) (z ++ take n piece) frame None f.2 (brings (Ok None) b) in
        let w = on None b f.1 m in record {
          kept = z;
          stage = refl;
          some = omega (arith, one.frame.prefix);
          within = f.0;
          reaches = silent (old (frames.taking z)) new fits (z ++ take n piece) one w;
          between = w.0;
        })

    -- a frame that is refused is so at its last byte
    pub feeds_frame_refused : (p : Progress) (piece : List ℕ) (n : ℕ) (e : Fault)
        → frames.FeedsFrames limits p piece mid.progress (Ok (n, Some frame)) → Bringing (Err e) → Moves mid last c d (Err e)
        → (e ≡ OutOfMemory → IsMessageFrame frame) → Feeds (old p) piece new (Err e)
    feeds_frame_refused p piece n e h b m memory =
        where_taking (λ q. Feeds (old q) piece new (Err e)) limits p mid.progress piece n frame h (λ z f.
        refuses (old (frames.taking z)) new fits z piece e
        (refused_stays limits (state_of c.scope) (state_of d.scope) frame e (brings (Err e) b)) m.3 (ap (λ p. stage_of p d.end) m.0)
        (λ other. (
          n,
          f.0,
          frame_reason limits (state_of c.scope) (state_of d.scope) (z ++ take n piece) frame e f.2 (brings (Err e) b) other,
        ))
        (λ out. subst (IsSized limits) (all_bytes z piece n)
        (sized_longer (z ++ take n piece) (drop n piece) (message_sized limits (z ++ take n piece) frame f.2 (memory out)))))

    -- what a frame that came from a source brings is answered, and the source worked
    pub draws_frame : (p : Progress) (from to : Option (List ℕ)) (count : ℕ) (r : Result (Option Event) Fault)
        → pulled.TakesFromSource limits from to p mid.progress count (Ok (Some frame)) → Bringing r → Moves mid last c d r
        → IfErr r (λ fault. fault ≡ OutOfMemory → IsMessageFrame frame) → Draws from to (old p) new count r
    draws_frame p from to count r t b m memory =
        where_taking (λ q. pulled.IsFew limits q t.came → Draws from to (old q) new count r) limits p mid.progress t.came
        (length t.came) frame t.gives (λ z f few. record {
          came = t.came;
          counted = t.counted;
          bytes = t.bytes;
          few = few;
          at_end = ends z r (whole z f) few;
          gives = gives z r f b m memory;
        }) t.few
      where
        whole : (z : List ℕ) → frames.FeedsFrames limits (frames.taking z) t.came mid.progress (Ok (length t.came, Some frame))
            → IsFrame limits (z ++ t.came) frame
        whole z f = subst (λ y. IsFrame limits (z ++ y) frame) (take-length t.came) f.2

        ends : (z : List ℕ) (q : Result (Option Event) Fault) → IsFrame limits (z ++ t.came) frame
            → pulled.IsFew limits (frames.taking z) t.came → pulled.EndsAt (frames.taking z) t.came to q
        ends z (Ok None) is few = λ none. absurd (pending_frame z frame few.0 few.1
            (subst (λ y. IsFrame limits y frame) (ap (λ y. z ++ y) none ∙ append-nil z) is))
        ends z (Ok (Some e)) is few = tt
        ends z (Err e) is few = tt

        gives : (z : List ℕ) (q : Result (Option Event) Fault)
            → frames.FeedsFrames limits (frames.taking z) t.came mid.progress (Ok (length t.came, Some frame))
            → Bringing q → Moves mid last c d q → IfErr q (λ fault. fault ≡ OutOfMemory → IsMessageFrame frame)
            → Gives (old (frames.taking z)) (taking z) t.came new q
        gives z (Ok None) f b m memory =
            let one = brought limits (state_of c.scope) (state_of d.scope) (z ++ t.came) frame None (whole z f) (brings (Ok None) b) in
            let w = on None b f.1 m in
            (refl, ([], silent (old (frames.taking z)) new fits (z ++ t.came) one w, w.0, (4, pending_none)))
        gives z (Ok (Some e)) f b m memory = feeds_event (frames.taking z) t.came (length t.came) e f b m
        gives z (Err e) f b m memory = (
          ap (λ p. stage_of p d.end) m.0,
          refused_stays limits (state_of c.scope) (state_of d.scope) frame e (brings (Err e) b),
          m.3,
          (λ x y. frame_reason limits (state_of c.scope) (state_of d.scope) (z ++ t.came) frame e (whole z f) (brings (Err e) b) y),
          λ out. message_sized limits (z ++ t.came) frame (whole z f) (memory out),
        )

    pub draws_failures : (p : Progress) (from to : Option (List ℕ)) (count f0 f1 : ℕ) (r : Result (Option Event) Fault)
        (s : Result (Option Frame) Fault) → s ≡ Ok (Some frame) → pulled.TakesFromSource limits from to p mid.progress count s
        → Bringing r → pulled.FailsWhile p f0 f1 s → pulled.FailsWhile (progress_at (old p).stage) f0 f1 r
    draws_failures p from to count f0 f1 r s is taken b h =
        let t = takes_at limits from to p mid.progress count s (Ok (Some frame)) is taken in
        where_taking (λ q. pulled.FailsWhile {T = Option Frame} q f0 f1 (Ok (Some frame))
        → pulled.FailsWhile (progress_at (old q).stage) f0 f1 r) limits p mid.progress t.came
        (length t.came) frame t.gives (λ z f works. by_result r b works) (subst (pulled.FailsWhile p f0 f1) is h)
      where
        by_result : (q : Result (Option Event) Fault) → Bringing q → (f0 ≡ 0) × (f1 ≡ 0) → FailsAs f0 f1 q
        by_result (Ok event) b works = works
        by_result (Err e) b works = record {
          failed = λ read. absurd (not_read mid.limits (state_of c.scope) (state_of d.scope) frame e b read);
          stayed = λ other. works.1 ∙ sym works.0;
        }
