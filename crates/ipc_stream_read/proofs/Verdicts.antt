-- One verdict, and any cut.
use Rattle.std.proofs.Common.{◌≡◌, ◌≢◌, ◌∙◌, refl, sym, ap, subst, ℕ, ◌+◌, inl, inr, List, [], ◌++◌, append_assoc, arith, None}
use Rattle.std.proofs.Common.{length, length-append, length-drop, drop}
use Rattle.std.proofs.lemmas.List.{append-nil, nil_from_length}
use Rattle.ipc_model.specs.declared.fault.Fault.{Fault}
use Rattle.ipc_model.specs.declared.limits.Limits.{Limits}
use Rattle.ipc_meta.specs.declared.head.Head.{Head}
use Rattle.ipc_meta.specs.declared.head.Head.TheVariants as h
use Rattle.ipc_meta.specs.Heads.{HeadOf}
use Rattle.ipc_meta.proofs.Empty.{no_metadata}
use Rattle.ipc_frame.specs.Frames.{end_of_stream, Encapsulates, Pending}
use Rattle.ipc_frame.specs.Sees.{RefusesStart, StatesNoHead}
use Rattle.ipc_frame.proofs.Undecided.{pending_one, pending_refused, pending_message, pending_frame}
use Rattle.ipc_frame.proofs.OneFrame.{no_frame_at_end}
use Rattle.ipc_frame.proofs.Decided.{start_not_end, no_head_not_end, pending_not_end, pending_not_frame, no_head_not_frame}
use Rattle.ipc_stream_read.specs.Stream.{State, MessageEvent, Step, Run, done, more as then}
use Rattle.ipc_stream_read.specs.Reasons.{Refuses, early, no_schema, second_schema, dictionary, no_values, no_rows}
use Rattle.ipc_stream_read.specs.Verdicts.{DecisionPoint, at_mark, at_size, at_metadata, at_body, FallsAt}
use Rattle.ipc_stream_read.specs.Verdicts.{Out, IsOutcome, Reached, Verdict, SameVerdict, OneVerdict, AnyCut}
use Rattle.ipc_stream_read.specs.Verdicts as out
use Rattle.ipc_stream_read.proofs.OneReading.{overlap}
use Rattle.ipc_stream_read.proofs.Reasons.{message_refused}
use Rattle.ipc_stream_read.specs.Counts.{messages_in}
use Rattle.ipc_stream_read.proofs.Runs.{messages_then, run_then}

-- ---- what is undecided is not refused

pub pending_refuses : {limits : Limits} → (σ : State) (z : List ℕ) (k : ℕ) (e : Fault) → Pending limits z k → Refuses limits σ z e → ⊥
pending_refuses σ z k e p (early (inl r)) = pending_refused z k e p (inl r.0)
pending_refuses σ z k e p (early (inr r)) = pending_refused z k e p (inr r.0)
pending_refuses σ z k e p (no_schema frame q none is other) = pending_frame z frame k p is
pending_refuses σ z k e p (second_schema o s m body q is frame) = pending_message z m body (h.Schema s) k p frame
pending_refuses σ z k e p (dictionary o id b m body q is none frame) = pending_message z m body (h.Dictionary id b) k p frame
pending_refuses σ z k e p (no_values o id b columns m body is found frame r) = pending_message z m body (h.Dictionary id b) k p frame
pending_refuses σ z k e p (no_rows o b pairs m body is frame r) = pending_message z m body (h.Batch b pairs) k p frame

-- ---- what ends is neither

eos_frame : {limits : Limits} → (z m body : List ℕ) (g : Head) → z ≡ end_of_stream → Encapsulates limits z m g body → ⊥
eos_frame z m body g is frame = no_frame_at_end z m body [] [] g frame (append-nil z ∙ is)

ended_refused : {limits : Limits} → (σ : State) (z : List ℕ) (e : Fault) → z ≡ end_of_stream → σ ≢ None → Refuses limits σ z e → ⊥
ended_refused {limits} σ z e is some (early (inl r)) = start_not_end limits [] e (subst (λ x. RefusesStart limits x e) is r.0)
ended_refused {limits} σ z e is some (early (inr r)) = no_head_not_end [] e (subst (λ x. StatesNoHead limits x e) is r.0)
ended_refused σ z e is some (no_schema frame q none i other) = some none
ended_refused σ z e is some (second_schema o s m body q i frame) = eos_frame z m body (h.Schema s) is frame
ended_refused σ z e is some (dictionary o id b m body q i none frame) = eos_frame z m body (h.Dictionary id b) is frame
ended_refused σ z e is some (no_values o id b columns m body i found frame r) = eos_frame z m body (h.Dictionary id b) is frame
ended_refused σ z e is some (no_rows o b pairs m body i frame r) = eos_frame z m body (h.Batch b pairs) is frame

-- ---- a message ends at one decision

whole_some : {limits : Limits} → (z m body : List ℕ) (g : Head) → Encapsulates limits z m g body → length z ≡ 8 → ⊥
whole_some {limits} z m body g frame long =
    let parts : length (drop 8 z) ≡ length m + length body = ap length frame.carried ∙ length-append m body in
    let none : m ≡ [] = nil_from_length m (omega (arith, parts, length-drop 8 z, long)) in
    no_metadata g (length body) (subst (λ x. HeadOf limits x g (length body)) none frame.states)

head_whole : {limits : Limits} → (z m body : List ℕ) (g : Head) (e : Fault) → StatesNoHead limits z e → Encapsulates limits z m g body → ⊥
head_whole {limits} z m body g e s frame =
    no_head_not_frame z m body [] g e frame (subst (λ x. StatesNoHead limits x e) (sym (append-nil z)) s)

-- a message ends at one decision
falls_one : (limits : Limits) (z : List ℕ) (c d : DecisionPoint) → FallsAt limits z c → FallsAt limits z d → c ≡ d
falls_one limits z at_mark at_mark a b = refl
falls_one limits z at_mark at_size a b = absurd (omega (arith, a, b))
falls_one limits z at_mark at_metadata a (e, s, b) = absurd (omega (arith, a, b))
falls_one limits z at_mark at_body a (m, body, g, frame) = absurd (omega (arith, a, frame.prefix))
falls_one limits z at_size at_mark a b = absurd (omega (arith, a, b))
falls_one limits z at_size at_size a b = refl
falls_one limits z at_size at_metadata a (e, s, b) = absurd (omega (arith, a, b, s.some))
falls_one limits z at_size at_body a (m, body, g, frame) = absurd (whole_some z m body g frame a)
falls_one limits z at_metadata at_mark (e, s, a) b = absurd (omega (arith, a, b))
falls_one limits z at_metadata at_size (e, s, a) b = absurd (omega (arith, a, b, s.some))
falls_one limits z at_metadata at_metadata a b = refl
falls_one limits z at_metadata at_body (e, s, a) (m, body, g, frame) = absurd (head_whole z m body g e s frame)
falls_one limits z at_body at_mark (m, body, g, frame) b = absurd (omega (arith, b, frame.prefix))
falls_one limits z at_body at_size (m, body, g, frame) b = absurd (whole_some z m body g frame b)
falls_one limits z at_body at_metadata (m, body, g, frame) (e, s, b) = absurd (head_whole z m body g e s frame)
falls_one limits z at_body at_body a b = refl

-- ---- one decision

decides_one : (limits : Limits) (σ : State) (z : List ℕ) (o p : Out) → IsOutcome limits σ z o → IsOutcome limits σ z p → o ≡ p
decides_one limits σ z (out.more j) (out.more k) a b = ap out.more (pending_one z j k a b)
decides_one limits σ z (out.more j) out.end a b = absurd (pending_not_end [] j (subst (λ x. Pending limits x j) b.0 a))
decides_one limits σ z (out.more j) (out.refused d) a b = absurd (pending_refuses σ z j b.0 a b.2.0)
decides_one limits σ z out.end (out.more k) a b = absurd (pending_not_end [] k (subst (λ x. Pending limits x k) a.0 b))
decides_one limits σ z out.end out.end a b = refl
decides_one limits σ z out.end (out.refused d) a b = absurd (ended_refused σ z b.0 a.0 a.1 b.2.0)
decides_one limits σ z (out.refused d) (out.more k) a b = absurd (pending_refuses σ z k a.0 b a.2.0)
decides_one limits σ z (out.refused d) out.end a b = absurd (ended_refused σ z a.0 b.0 b.1 a.2.0)
decides_one limits σ z (out.refused c) (out.refused d) a b = ap out.refused (falls_one _ z c d a.2.1 b.2.1)

-- where a message takes a step nothing is decided otherwise
decides_step : {limits : Limits} → (σ τ : State) (x m body u z : List ℕ) (g : Head) (es : List MessageEvent) (o : Out)
    → Encapsulates limits x m g body → Step limits σ g body es τ → x ++ u ≡ z → IsOutcome limits σ z o → ⊥
decides_step {limits} σ τ x m body u z g es (out.more k) frame step joined d =
    pending_not_frame x m body u g k frame (subst (λ y. Pending limits y k) (sym joined) d)
decides_step σ τ x m body u z g es out.end frame step joined d = no_frame_at_end x m body u [] g frame (joined ∙ d.0)
decides_step σ τ x m body u z g es (out.refused n) frame step joined d =
    d.1 (message_refused σ τ x m body u z [] g es frame step (joined ∙ sym (append-nil z)) d.0 d.2.0)

record SameReach (es fs : List MessageEvent) (o p : Out) (τ υ : State) (z w : List ℕ) : Type 0 where
  same_events : es ≡ fs
  same_out : o ≡ p
  same_state : τ ≡ υ
  same_rest : z ≡ w

-- nothing is decided where a run goes on
goes_on : {limits : Limits} → {σ τ : State} {x : List ℕ} {es : List MessageEvent} (z w : List ℕ) (o p : Out) → Run limits σ x es τ
    → IsOutcome limits σ z o → IsOutcome limits τ w p → z ≡ x ++ w → SameReach [] es o p σ τ z w
goes_on {limits} {σ = σ} z w o p done a b e = record {
  same_events = refl;
  same_out = decides_one limits σ z o p a (subst (λ x. IsOutcome limits σ x p) (sym e) b);
  same_state = refl;
  same_rest = e;
}
goes_on z w o p (then {σ = σ} {τ = τ} {x = x} {metadata = m} {body = body} {y = y} {h = g} {es = es} frame step rest) a b e =
    absurd (decides_step σ τ x m body (y ++ w) z g es o frame step (sym (append_assoc x y w) ∙ sym e) a)

reach_one : {limits : Limits} → {σ τ υ : State} {x y : List ℕ} {es fs : List MessageEvent} (z w : List ℕ) (o p : Out)
    → Run limits σ x es τ → Run limits σ y fs υ → IsOutcome limits τ z o → IsOutcome limits υ w p → x ++ z ≡ y ++ w
    → SameReach es fs o p τ υ z w
reach_one {es = es} {fs = fs} z w o p r q a b e = elim (overlap z w r q e) [
  | inl g ↦ let same = goes_on z w o p g.run a b g.rest in record {
    same_events = sym (g.told ∙ (ap (λ l. es ++ l) (sym same.same_events) ∙ append-nil es));
    same_out = same.same_out;
    same_state = same.same_state;
    same_rest = same.same_rest;
  }
  | inr g ↦ let same = goes_on w z p o g.run b a g.rest in record {
    same_events = g.told ∙ (ap (λ l. fs ++ l) (sym same.same_events) ∙ append-nil fs);
    same_out = sym same.same_out;
    same_state = sym same.same_state;
    same_rest = sym same.same_rest;
  }
]

-- ---- the laws

-- some bytes have one verdict
pub verdict_one : OneVerdict
verdict_one limits σ x es fs o p u v =
    let same = reach_one u.rest v.rest o p u.reached.run v.reached.run u.decides v.decides
    (sym u.reached.joined ∙ v.reached.joined) in
    record { same_events = same.same_events; same_out = same.same_out; same_state = same.same_state; same_rest = same.same_rest }

-- what was reached and what is reached from there is reached at once
pub reached_then : {limits : Limits} → (σ τ υ : State) (x z w r : List ℕ) (es fs : List MessageEvent) → Reached limits σ x es τ z
    → Reached limits τ (z ++ w) fs υ r → Reached limits σ (x ++ w) (es ++ fs) υ r
reached_then σ τ υ x z w r es fs a b = record {
  whole = a.whole ++ b.whole;
  joined = ap (λ y. y ++ w) a.joined ∙ (append_assoc a.whole z w ∙ (ap (λ y. a.whole ++ y) b.joined ∙ sym (append_assoc a.whole b.whole
      r)));
  run = run_then σ τ υ a.whole b.whole es fs a.run b.run;
}

-- which is as many messages as both are
pub messages_reached : {limits : Limits} → (σ τ υ : State) (x z w r : List ℕ) (es fs : List MessageEvent) (a : Reached limits σ x es τ z)
    (b : Reached limits τ (z ++ w) fs υ r)
    → messages_in (reached_then σ τ υ x z w r es fs a b).run ≡ messages_in a.run + messages_in b.run
unfolding reached_then
messages_reached σ τ υ x z w r es fs a b = messages_then σ τ υ a.whole b.whole es fs a.run b.run

-- a verdict goes on wherever the bytes are cut
pub cut_any : AnyCut
cut_any limits σ τ x z w es fs o r v = record {
  state = v.state;
  rest = v.rest;
  reached = reached_then σ τ v.state x z w v.rest es fs r v.reached;
  decides = v.decides;
}
