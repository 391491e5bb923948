-- Events that are pulled from a source.
use Rattle.std.proofs.Common.{◌≡◌, ◌≢◌, ◌∙◌, refl, sym, ap, subst, ℕ, ◌+◌, ◌-◌, ◌^◌, ◌<◌, ◌≤◌, ◌⊎◌, inl, inr, List, [], ◌++◌, Option}
use Rattle.std.proofs.Common.{Some, None}
use Rattle.std.proofs.Common.{Result, Ok, Err, length, length-append, arith}
use Rattle.std.specs.Prelude.{Bool, true, false, OnOk}
use Rattle.std.specs.Io.KnownBytes.{IsAtEnd}
use Rattle.std.proofs.KnownBytes.{Consumes-nil, Consumes-trans}
use Rattle.std.proofs.Math.Seq.{take-length}
use Rattle.std.proofs.lemmas.List.{append-nil, nil_from_length}
use Rattle.ipc_model.specs.declared.fault.Fault.{Fault}
use Rattle.ipc_model.specs.declared.fault.Fault.TheVariants.{OutOfMemory, Read, Truncated}
use Rattle.ipc_model.specs.declared.limits.Limits.{Limits}
use Rattle.ipc_frame.specs.Frames.{end_of_stream, IsSized, Pending}
use Rattle.ipc_frame.specs.Parts.{no_capacity}
use Rattle.ipc_frame.specs.Failures.{UnlessOutside}
use Rattle.ipc_frame.proofs.Exact.{pending_none}
use Rattle.ipc_frame.proofs.Undecided.{pending_one}
use Rattle.ipc_stream_read.specs.declared.end.End.{End}
use Rattle.ipc_stream_read.specs.declared.end.End.TheVariants.{Closed}
use Rattle.ipc_stream_read.specs.declared.event.Event.{Event}
use Rattle.ipc_stream_read.specs.declared.event.Event.TheVariants as report
use Rattle.ipc_stream_read.specs.Counts.{count_up}
use Rattle.ipc_stream_read.specs.Found.{batch_rows}
use Rattle.ipc_frame.specs.Pieces as frames
use Rattle.ipc_frame.specs.Pulled.{IsFew, EndsAt, FailsWhile}
use Rattle.ipc_stream_read.specs.Decoding.{Decoding, taking, over, Reaches, ReportsEvent, ReportsOneEvent, Gives, Draws, progress_at}
use Rattle.ipc_stream_read.specs.Decoding.{ClosesAt, at_stage, dictionary_bytes, refused}
use Rattle.ipc_stream_read.specs.Held.{HoldsWithin, IsWithin, KeepsWithin, as_fault}
use Rattle.ipc_stream_read.specs.declared.read_stop.ReadStop.{ReadStop}
use Rattle.ipc_stream_read.specs.declared.read_stop.ReadStop.TheVariants as stop
use Rattle.ipc_stream_read.specs.Reasons as reasons
use Rattle.ipc_stream_read.specs.Reasons.{EndsReading, IsOutside, IsUndecidedPrefix}
use Rattle.ipc_stream_read.specs.Stream.{State, MessageEvent, schema, batch}
use Rattle.ipc_stream_read.specs.Taken.{Takes, Pulls}
use Rattle.ipc_stream_read.specs.Verdicts.{DecisionPoint, Reason}
use Rattle.ipc_stream_read.proofs.Decoders.{still}
use Rattle.ipc_stream_read.proofs.Feeding.{reaches_then, tells_then}
use Rattle.ipc_stream_read.proofs.Held.{held_more, held_none}

-- what changed nothing of the source took no bytes
pub takes_none : (a : Option (List ℕ)) (n : ℕ) → n ≤ 2 ^ 64 - 1 → Takes a a n n []
takes_none a n fits = record { bytes = Consumes-nil a; counted = omega arith }

-- what two calls took one after the other is the bytes of the first and then those of the second
pub takes_then : (a b c : Option (List ℕ)) (n m k : ℕ) (x y : List ℕ) → Takes a b n m x → Takes b c m k y → Takes a c n k (x ++ y)
takes_then a b c n m k x y t u = record {
  bytes = Consumes-trans a b c x y t.bytes u.bytes;
  counted = omega (arith, t.counted, u.counted, length-append x y);
}

-- the source failed or memory ran out, or neither
is_outside : Fault → Bool
is_outside Read = true
is_outside OutOfMemory = true
is_outside _ = false

outside_only : (e : Fault) → is_outside e ≡ true → IsOutside e
unfolding is_outside
outside_only Read h = inl refl
outside_only OutOfMemory h = inr refl
outside_only _ h = absurd (cc)

not_outside : (e g : Fault) → is_outside e ≡ false → is_outside g ≡ true → e ≢ g
not_outside e g h t p = let q : true ≡ false = sym t ∙ (ap is_outside (sym p) ∙ h) in cc

-- why the bytes z that were kept and those that came are refused
breaks : (limits : Limits) (σ : State) (x : List ℕ) (left : Option (List ℕ)) (e : Fault) → IsUndecidedPrefix limits x
    → UnlessOutside e ((d : DecisionPoint) × Reason limits e d σ x) → EndsReading limits σ x left e
unfolding is_outside
breaks limits σ x left e wanted reason = elim (is_outside e) as (λ b. is_outside e ≡ b → EndsReading limits σ x left e) [
  | true ↦ λ h. reasons.aside (outside_only e h) wanted
  | false ↦ λ h. reasons.refused (reason (not_outside e Read h refl) (not_outside e OutOfMemory h refl)).1.0
] refl

-- an undecided beginning of what comes next was taken and is kept; never more than a maximum was held
pub record Pulling (most : Option ℕ) (old now : Option (List ℕ)) (bound_old bound failed_old failed count_old count : ℕ)
    (before decoder : Decoding) : Type 0
  where
    pub x : List ℕ
    pub z : List ℕ
    pub kept : decoder.stage ≡ taking z
    pub same_limits : decoder.limits ≡ before.limits
    pub reaches : Reaches before decoder x [] z
    pub undecided : (k : ℕ) × Pending before.limits z k
    pub takes : Takes old now count_old count x
    pub fewer : bound + length x ≤ bound_old
    pub same : failed ≡ failed_old
    pub held : HoldsWithin before.limits most before.state x

-- of which no byte came yet
pub pulls_none : (most : Option ℕ) (source : Option (List ℕ)) (b f n : ℕ) (d : Decoding) → n ≤ 2 ^ 64 - 1 → d.messages ≤ 2 ^ 64 - 1
    → d.stage ≡ taking [] → Pulling most source source b b f f n n d d
pulls_none most source b f n d fits counts between = record {
  x = [];
  z = [];
  kept = between;
  same_limits = refl;
  reaches = still d d counts [] refl refl;
  undecided = (4, pending_none);
  takes = takes_none source n fits;
  fewer = omega arith;
  same = refl;
  held = held_none d.limits most d.state;
}

module _ (most : Option ℕ) (old now : Option (List ℕ)) (b0 b1 f0 f1 n0 n1 : ℕ) (before decoder : Decoding)
    (p : Pulling most old now b0 b1 f0 f1 n0 n1 before decoder) where
  undecided_now : Pending decoder.limits p.z p.undecided.0
  undecided_now = subst (λ l. Pending l p.z p.undecided.0) (sym p.same_limits) p.undecided.1

  -- what a decoder has room for, it has for what is wanted next
  pub room_now : (T : Type 0) → ((z : List ℕ) (k : ℕ) → decoder.stage ≡ taking z → Pending decoder.limits z k → T
      → IsWithin most (dictionary_bytes decoder.state + length z + k)) → T
      → IsWithin most (dictionary_bytes decoder.state + length p.z + p.undecided.0)
  room_now T room holds = room p.z p.undecided.0 p.kept undecided_now holds

  pub no_room : (T : Type 0) → ((z : List ℕ) (k : ℕ) → decoder.stage ≡ taking z → Pending decoder.limits z k → T
      → IsWithin most (dictionary_bytes decoder.state + length z + k) → ⊥) → T
      → IsWithin most (dictionary_bytes decoder.state + length p.z + p.undecided.0) → ⊥
  no_room T room holds = room p.z p.undecided.0 p.kept undecided_now holds

-- what a stop or an event states of the bytes that were pulled
abbrev pub PullsWithin : Option ℕ → Option (List ℕ) → Option (List ℕ) → ℕ → ℕ → Decoding → Decoding → Result (Option Event) ReadStop
    → Type 0
PullsWithin most old new n0 n1 before after r =
    (pulls : Pulls old new n0 n1 before after (as_fault r))
    × KeepsWithin before.limits most before.state pulls.x (r ≡ Err stop.Held)

module _ (most : Option ℕ) (old now new : Option (List ℕ)) (b0 b1 f0 f1 n0 n1 n2 : ℕ) (before decoder after : Decoding) (count : ℕ)
    (r : Result (Option Event) Fault) (p : Pulling most old now b0 b1 f0 f1 n0 n1 before decoder)
    (t : Draws now new decoder after count r)
    (counted : n2 ≡ count_up n1 count) where
  takes_now : Takes old new n0 n2 (p.x ++ t.came)
  takes_now = takes_then old now new n0 n1 n2 p.x t.came p.takes
      (record { bytes = t.bytes; counted = counted ∙ ap (count_up n1) (sym t.counted) })

  gives_now : (s : Result (Option Event) Fault) → r ≡ s → Gives decoder (taking p.z) t.came after s
  gives_now s is = subst (λ q. Gives decoder (taking p.z) t.came after q) is (subst (λ q. Gives decoder q t.came after r) p.kept t.gives)

  wanted_now : IsUndecidedPrefix before.limits (p.z ++ t.came)
  wanted_now =
      let few = subst (λ q. IsFew decoder.limits (progress_at q) t.came) p.kept t.few in
      record {
        front = p.z;
        behind = t.came;
        wants = few.0;
        joined = refl;
        undecided = subst (λ l. Pending l p.z few.0) p.same_limits few.1;
        few = few.2;
      }

  -- what came may be held with what came before
  abbrev pub Room : Type 0
  Room = IsWithin most (dictionary_bytes decoder.state + length p.z + p.undecided.0)

  held_now : Room → HoldsWithin before.limits most before.state (p.x ++ t.came)
  held_now room =
      let few = subst (λ q. IsFew decoder.limits (progress_at q) t.came) p.kept t.few in
      let wanted = subst (λ l. Pending l p.z few.0) p.same_limits few.1 in
      let same = pending_one p.z few.0 p.undecided.0 wanted p.undecided.1 in
      held_more most before.state decoder.state p.x p.z t.came [] p.undecided.0 p.held p.reaches.reached room
      (omega (arith, few.2, same))

  told_now : (e : Event) → ReportsEvent decoder after (p.z ++ t.came) e → ReportsEvent before after (p.x ++ t.came) e
  told_now e h = tells_then before decoder after p.x p.z t.came p.same_limits p.reaches e h

  counts_fit : decoder.messages ≤ 2 ^ 64 - 1
  counts_fit = omega (arith, p.reaches.counted)

  -- an event that is told of what came is the next one
  pub pulled : (e : Event) → r ≡ Ok (Some e) → Pulls old new n0 n2 before after (Ok (Some e))
  pulled e is =
      let g = gives_now (Ok (Some e)) is in
      record {
        x = p.x ++ t.came;
        takes = takes_now;
        gives = told_now e (subst (λ y. ReportsEvent decoder after (p.z ++ y) e) (take-length t.came) g.1);
      }

  pub pulled_within : Room → (e : Event) → r ≡ Ok (Some e) → PullsWithin most old new n0 n2 before after (Ok (Some e))
  unfolding pulled
  pulled_within room e is = (pulled e is, record { within = held_now room; above = λ bad. absurd (cc) })

  -- a fault that is told of what came is answered
  pub pull_refused : (e : Fault) → r ≡ Err e → Pulls old new n0 n2 before after (Err e)
  pull_refused e is =
      let g = gives_now (Err e) is in
      let rest = p.z ++ t.came in
      let reason = subst (λ l. UnlessOutside e ((d : DecisionPoint) × Reason l e d decoder.state rest)) p.same_limits g.3 in
      record {
        x = p.x ++ t.came;
        takes = takes_now;
        gives = record {
          rest = rest;
          reaches = reaches_then before decoder after p.x p.z t.came p.same_limits p.reaches rest []
              (still decoder after counts_fit rest g.1 g.2);
          ends = breaks before.limits after.state rest new e wanted_now
              (subst (λ σ. UnlessOutside e ((d : DecisionPoint) × Reason before.limits e d σ rest)) (sym g.1) reason);
          memory = λ out. subst (λ l. IsSized l rest) p.same_limits (g.4 out);
          at = g.0;
        };
      }

  pub refused_within : Room → (e : Fault) → r ≡ Err e → PullsWithin most old new n0 n2 before after (Err (stop.Refused e))
  unfolding pull_refused
  refused_within room e is = (pull_refused e is, record { within = held_now room; above = λ bad. absurd (cc) })

  -- where nothing is decided, what came is kept
  pub pulls_more : Room → (b2 f2 : ℕ) → r ≡ Ok None → OnOk r (b2 + count ≤ b1) → FailsWhile (progress_at decoder.stage) f1 f2 r
      → after.limits ≡ decoder.limits → Pulling most old new b0 b2 f0 f2 n0 n2 before after
  pulls_more room b2 f2 is less fails limits =
      let g = (gives_now (Ok None) is).1 in
      let rest = g.0 in
      let fewer = subst (λ q. OnOk q (b2 + count ≤ b1)) is less in
      let works = subst (λ q. FailsWhile (frames.taking p.z) f1 f2 q) is (subst (λ q. FailsWhile (progress_at q) f1 f2 r) p.kept fails) in
      record {
        x = p.x ++ t.came;
        z = rest;
        kept = g.2;
        same_limits = limits ∙ p.same_limits;
        reaches = reaches_then before decoder after p.x p.z t.came p.same_limits p.reaches rest [] g.1;
        undecided = (g.3.0, subst (λ l. Pending l rest g.3.0) p.same_limits g.3.1);
        takes = takes_now;
        fewer = omega (arith, p.fewer, fewer, t.counted, length-append p.x t.came);
        same = works.1 ∙ (sym works.0 ∙ p.same);
        held = held_now room;
      }

-- ---- an event is some bytes

-- where the stream told something, bytes came
told_bytes : (before after : Decoding) (x : List ℕ) (event : MessageEvent) → ReportsOneEvent before after x event → 0 < length x
told_bytes before after x event h =
    omega (arith, h.last.report.frame.prefix, ap length h.last.joined, length-append h.last.silent h.last.message)

told_some : (before after : Decoding) (x : List ℕ) (e : Event) → ReportsEvent before after x e → 0 < length x
told_some before after x report.Schema h = told_bytes before after x (schema h.0) h.1
told_some before after x (report.Batch found pairs) h = told_bytes before after x (batch (batch_rows (found, pairs))) h.0
told_some before after x report.End h =
    omega (arith, ap length h.0.reached.joined, length-append h.0.reached.whole end_of_stream)

-- so the source has fewer left
pub fewer_left : (most : Option ℕ) (old now new : Option (List ℕ)) (b0 b1 b2 f0 f1 n0 n1 n2 : ℕ) (before decoder after : Decoding)
    (count : ℕ)
    (r : Result (Option Event) Fault) (p : Pulling most old now b0 b1 f0 f1 n0 n1 before decoder)
    (t : Draws now new decoder after count r)
    (counted : n2 ≡ count_up n1 count) (e : Event) → r ≡ Ok (Some e) → OnOk r (b2 + count ≤ b1) → b2 < b0
unfolding pulled
fewer_left most old now new b0 b1 b2 f0 f1 n0 n1 n2 before decoder after count r p t counted e is less =
    let all = pulled most old now new b0 b1 f0 f1 n0 n1 n2 before decoder after count r p t counted e is in
    let some = told_some before after (p.x ++ t.came) e all.gives in
    let fewer = subst (λ q. OnOk q (b2 + count ≤ b1)) is less in
    omega (arith, p.fewer, fewer, some, t.counted, length-append p.x t.came)

-- ---- the source is at its end

-- a decoder that was closed between two messages
abbrev closed_now : Decoding → Decoding
closed_now d = record { limits = d.limits; state = d.state; stage = over Closed; messages = d.messages; room = no_capacity }

module _ (most : Option ℕ) (old now : Option (List ℕ)) (b0 b1 f0 f1 n0 n1 : ℕ) (before decoder after : Decoding)
    (p : Pulling most old now b0 b1 f0 f1 n0 n1 before decoder) (at_end : IsAtEnd now) where
  closing : (r : Result End Fault) → ClosesAt decoder decoder.stage after r → ClosesAt decoder (taking p.z) after r
  closing r h = subst (λ s. ClosesAt decoder s after r) p.kept h

  -- inside a message, or before the schema
  pub pull_cut : (e : Fault) → ClosesAt decoder decoder.stage after (Err e) → Pulls old now n0 n1 before after (Err e)
  pull_cut e h =
      let c = closing (Err e) h in
      let reaches = subst (λ d. Reaches before d p.x [] p.z) (sym c.2)
      (record { reached = p.reaches.reached; counted = p.reaches.counted }) in
      record {
        x = p.x;
        takes = p.takes;
        gives = record {
          rest = p.z;
          reaches = reaches;
          ends = cut c.0 c.1 (ap (λ d. d.state) c.2);
          memory = λ out. let bad : Truncated ≡ OutOfMemory = sym c.1 ∙ out in absurd (cc);
          at = ap (λ d. d.stage) c.2;
        };
      }
    where
      cut : (p.z ≢ []) ⊎ (decoder.state ≡ None) → e ≡ Truncated → after.state ≡ decoder.state
          → EndsReading before.limits after.state p.z now e
      cut (inl some) is same = reasons.truncated p.undecided.0 is p.undecided.1 (inr some) at_end
      cut (inr none) is same = reasons.truncated p.undecided.0 is p.undecided.1 (inl (same ∙ none)) at_end

  pub cut_within : (e : Fault) → ClosesAt decoder decoder.stage after (Err e)
      → PullsWithin most old now n0 n1 before after (Err (stop.Refused e))
  unfolding pull_cut
  cut_within e h = (pull_cut e h, record { within = p.held; above = λ bad. absurd (cc) })

  -- between two messages
  pub pull_closed : (end : End) → ClosesAt decoder decoder.stage after (Ok end) → Pulls old now n0 n1 before after (Ok None)
  pull_closed end h =
      let c = closing (Ok end) h in
      let reaches = subst (λ d. Reaches before d p.x [] []) (sym c.3)
      (subst (λ z. Reaches before (closed_now decoder) p.x [] z) c.0
      (record { reached = p.reaches.reached; counted = p.reaches.counted })) in
      record {
        x = p.x;
        takes = p.takes;
        gives = record {
          rest = [];
          reaches = reaches;
          ends = (refl, (λ none. c.1 (sym (ap (λ d. d.state) c.3) ∙ none)), at_end);
          memory = tt;
          at = ap (λ d. d.stage) c.3;
        };
      }

  pub closed_within : (end : End) → ClosesAt decoder decoder.stage after (Ok end) → PullsWithin most old now n0 n1 before after (Ok None)
  unfolding pull_closed
  closed_within end h = (pull_closed end h, record { within = p.held; above = λ bad. absurd (cc) })

-- ---- more may not be held

-- an undecided beginning was taken, as where the source failed
pub held_stops : (most : Option ℕ) (old now : Option (List ℕ)) (b0 b1 f0 f1 n0 n1 : ℕ) (before decoder after : Decoding)
    (p : Pulling most old now b0 b1 f0 f1 n0 n1 before decoder) → after ≡ at_stage decoder refused
    → (IsWithin most (dictionary_bytes decoder.state + length p.z + p.undecided.0) → ⊥)
    → PullsWithin most old now n0 n1 before after (Err stop.Held)
held_stops most old now b0 b1 f0 f1 n0 n1 before decoder after p is above = (
  record {
    x = p.x;
    takes = p.takes;
    gives = record {
      rest = p.z;
      reaches = subst (λ d. Reaches before d p.x [] p.z) (sym is)
          (record { reached = p.reaches.reached; counted = p.reaches.counted });
      ends = reasons.aside (inl refl) (record {
        front = p.z;
        behind = [];
        wants = p.undecided.0;
        joined = sym (append-nil p.z);
        undecided = p.undecided.1;
        few = omega arith;
      });
      memory = λ out. absurd (cc);
      at = ap (λ d. d.stage) is;
    };
  },
  record {
    within = p.held;
    above = λ stops. record {
      events = [];
      state = decoder.state;
      rest = p.z;
      reached = p.reaches.reached;
      wants = p.undecided.0;
      undecided = p.undecided.1;
      above = above;
    };
  },
)

-- where no byte came, the source is at its end
pub none_came : (now new : Option (List ℕ)) (decoder after : Decoding) (count : ℕ) (r : Result (Option Event) Fault) (z : List ℕ)
    → Draws now new decoder after count r → decoder.stage ≡ taking z → r ≡ Ok None → count ≡ 0 → IsAtEnd new
none_came now new decoder after count r z t kept is none =
    subst (λ q. EndsAt (frames.taking z) t.came new q) is (subst (λ s. EndsAt (progress_at s) t.came new r) kept t.at_end)
    (nil_from_length t.came (t.counted ∙ none))
