-- What is told of pieces is the verdict about their bytes.
use Rattle.std.proofs.Common.{◌≡◌, ◌∙◌, refl, sym, ap, subst, ℕ, inl, inr, List, [], ◌∷◌, ◌++◌, Some, None, Ok, Err, Result, Option}
use Rattle.std.proofs.Common.{append_assoc}
use Rattle.std.proofs.Common.{drop, take}
use Rattle.std.specs.List.{concat}
use Rattle.std.proofs.lemmas.List.{append-nil, append_cancel_left, take-append-drop}
use Rattle.ipc_model.specs.declared.fault.Fault.{Fault}
use Rattle.ipc_model.specs.declared.limits.Limits.{Limits}
use Rattle.ipc_model.specs.declared.table.Table.{Table}
use Rattle.ipc_stream_read.specs.declared.end.End.TheVariants.{Mark}
use Rattle.ipc_frame.specs.Frames.{end_of_stream, Pending}
use Rattle.ipc_frame.proofs.Decided.{pending_not_end, pending_not_frame}
use Rattle.ipc_frame.proofs.Exact.{pending_none}
use Rattle.ipc_stream_read.specs.declared.event.Event.{Event}
use Rattle.ipc_stream_read.specs.declared.event.Event.TheVariants as report
use Rattle.ipc_stream_read.specs.Decoding.{Decoding, FeedsAt, FeedsOn, ReportsEvent, ReportsOneEvent, taking}
use Rattle.ipc_stream_read.specs.PieceFeeds.{AnyPieces, AreReported, Call, EndsWithMark, GoesOn, HasRefusal, HasVerdict, LeavesBytes}
use Rattle.ipc_stream_read.specs.PieceFeeds.{RefusesByVerdict}
use Rattle.ipc_stream_read.specs.PieceFeeds.{TablePieces, ReportsVerdict, after_event, after_none, ended, fails, goes_on, kept, none}
use Rattle.ipc_stream_read.specs.Found.{batch_rows}
use Rattle.ipc_stream_read.specs.Stream.{Denotes, MessageEvent, Run, State, batch, done, events_of, more as then, schema}
use Rattle.ipc_stream_read.specs.Verdicts.{IsOutcome, Out, Reached, Reason, Verdict}
use Rattle.ipc_stream_read.specs.Verdicts as out
use Rattle.ipc_stream_read.proofs.OneReading.{at_eos, one_run, overlap, stops_there}
use Rattle.ipc_stream_read.proofs.Runs.{run_then, told_reached}

-- what a call does where these bytes are kept
feeds_on : (d e : Decoding) (z piece : List ℕ) (r : Result (ℕ × Option Event) Fault) → d.stage ≡ taking z → Call d piece e r
    → FeedsOn d z piece e r
feeds_on d e z piece r stage call = subst (λ s. FeedsAt d s piece e r) stage call.0

-- whole messages, and then what is known of the bytes behind them
reached_behind : {limits : Limits} → (σ τ υ : State) (whole x rest : List ℕ) (es fs : List MessageEvent) → Run limits σ whole es τ
    → Reached limits τ x fs υ rest → Reached limits σ (whole ++ x) (es ++ fs) υ rest
reached_behind σ τ υ whole x rest es fs run r = record {
  whole = whole ++ r.whole;
  joined = ap (λ y. whole ++ y) r.joined ∙ sym (append_assoc whole r.whole rest);
  run = run_then σ τ υ whole r.whole es fs run r.run;
}

verdict_behind : {limits : Limits} → (σ τ : State) (whole x : List ℕ) (es fs : List MessageEvent) (o : Out) → Run limits σ whole es τ
    → Verdict limits τ x fs o → Verdict limits σ (whole ++ x) (es ++ fs) o
verdict_behind σ τ whole x es fs o run v = record {
  state = v.state;
  rest = v.rest;
  reached = reached_behind σ τ v.state whole x v.rest es fs run v.reached;
  decides = v.decides;
}

-- the bytes that were kept, the piece and those behind it, cut behind a beginning of the piece
cut_at : (z piece behind : List ℕ) (n : ℕ) → z ++ (piece ++ behind) ≡ (z ++ take n piece) ++ (drop n piece ++ behind)
cut_at z piece behind n =
    ap (λ p. z ++ (p ++ behind)) (sym (take-append-drop n piece))
    ∙ (ap (λ p. z ++ p) (append_assoc (take n piece) (drop n piece) behind)
    ∙ sym (append_assoc z (take n piece) (drop n piece ++ behind)))

-- messages that are whole, and what is told behind them
module _ (d e : Decoding) (front behind left : List ℕ) (rest : List ℕ) (es : List MessageEvent)
    (h : Reached d.limits d.state front es e.state rest)
    (same : e.limits ≡ d.limits) (pieces : List (List ℕ)) (report : List Event) (v : HasVerdict e rest pieces report left) where
  all_joined : front ++ concat pieces ≡ (h.whole ++ v.x) ++ left
  all_joined =
      ap (λ y. y ++ concat pieces) h.joined
      ∙ (append_assoc h.whole rest (concat pieces)
      ∙ (ap (λ y. h.whole ++ y) v.joined ∙ sym (append_assoc h.whole v.x left)))

  all_verdict : Verdict d.limits d.state (h.whole ++ v.x) (es ++ v.events) v.out
  all_verdict =
      verdict_behind d.state e.state h.whole v.x es v.events v.out h.run
      (subst (λ l. Verdict l e.state v.x v.events v.out) same v.verdict)

-- one more event before others leaves the same bytes
leaves_on : (o : Out) (e : Event) (report : List Event) (left : List ℕ) → GoesOn e → LeavesBytes o report left
    → LeavesBytes o (e ∷ report) left
leaves_on (out.more k) e report left on h = h
leaves_on out.end report.Schema report left on h = h
leaves_on out.end (report.Batch found pairs) report left on h = h
leaves_on out.end report.End report left on h = absurd on
leaves_on (out.refused c) e report left on h = h

-- an event that is not the end is one of the stream
record Reported (d e : Decoding) (x : List ℕ) (event : Event) : Type 0 where
  told : MessageEvent
  one : ReportsOneEvent d e x told
  are : (report : List Event) (events : List MessageEvent) → AreReported report events → AreReported (event ∷ report) (told ∷ events)

reported : (d e : Decoding) (x : List ℕ) (event : Event) → GoesOn event → ReportsEvent d e x event → Reported d e x event
reported d e x report.Schema on h = record { told = schema h.0; one = h.1; are = λ report events a. a }
reported d e x (report.Batch found pairs) on h =
    record { told = batch (batch_rows (found, pairs)); one = h.0; are = λ report events a. (refl, a) }
reported d e x report.End on h = absurd on

-- after each call the rest goes on
told_pieces : ReportsVerdict
told_pieces d g z left k pieces events stage pending none = record {
  x = z;
  joined = refl;
  events = [];
  are_told = tt;
  out = out.more k;
  leaves = refl;
  verdict = record {
    state = d.state;
    rest = z;
    reached = record { whole = []; joined = refl; run = done };
    decides = pending;
  };
}
told_pieces d g z left k pieces events stage pending (kept {e = e} {piece = piece} {pieces = more} n call rest) =
    let f = feeds_on d e z piece (Ok (n, None)) stage call in
    let w = f.1 in
    let v = told_pieces e g w.0 left w.3.0 more events w.2 (subst (λ l. Pending l w.0 w.3.0) (sym call.1) w.3.1) rest in
    record {
      x = w.1.reached.whole ++ v.x;
      joined = sym (append_assoc z piece (concat more)) ∙ all_joined d e (z ++ piece) [] left w.0 [] w.1.reached call.1 more events v;
      events = v.events;
      are_told = v.are_told;
      out = v.out;
      leaves = v.leaves;
      verdict = all_verdict d e (z ++ piece) [] left w.0 [] w.1.reached call.1 more events v;
    }
told_pieces d g z left k pieces events stage pending
    (goes_on {e = e} {piece = piece} {pieces = more} {events = later} n {event = event} on call rest) =
    let f = reported d e (z ++ take n piece) event on (feeds_on d e z piece (Ok (n, Some event)) stage call).1 in
    let v = told_pieces e g [] left 4 (drop n piece ∷ more) later f.one.stage (subst (λ l. Pending l [] 4) (sym call.1) pending_none)
    rest in
    let h = told_reached d.state e.state (z ++ take n piece) f.told f.one.last in
    record {
      x = h.whole ++ v.x;
      joined = cut_at z piece (concat more) n
          ∙ all_joined d e (z ++ take n piece) [] left [] (f.told ∷ []) h call.1 (drop n piece ∷ more) later v;
      events = f.told ∷ v.events;
      are_told = f.are later v.events v.are_told;
      out = v.out;
      leaves = leaves_on v.out event later left on v.leaves;
      verdict = all_verdict d e (z ++ take n piece) [] left [] (f.told ∷ []) h call.1 (drop n piece ∷ more) later v;
    }
told_pieces d g z left k pieces events stage pending (ended {e = e} {piece = piece} {pieces = more} n call) =
    let f = (feeds_on d e z piece (Ok (n, Some report.End)) stage call).1 in
    record {
      x = z ++ take n piece;
      joined = cut_at z piece (concat more) n;
      events = [];
      are_told = (refl, refl);
      out = out.end;
      leaves = refl;
      verdict = record { state = e.state; rest = end_of_stream; reached = f.0.reached; decides = (refl, f.1) };
    }

-- messages that are whole, and what is refused behind them
module _ (d e : Decoding) (front rest : List ℕ) (es : List MessageEvent) (h : Reached d.limits d.state front es e.state rest)
    (same : e.limits ≡ d.limits) (pieces : List (List ℕ)) (report : List Event) (fault : Fault)
    (v : HasRefusal e rest pieces report fault)
    (z : List ℕ) (all : List (List ℕ)) (cut : z ++ concat all ≡ front ++ concat pieces) (tells : List Event)
    (are : AreReported tells (es ++ v.events)) where
  refused_behind : HasRefusal d z all tells fault
  refused_behind =
      let both = subst (λ l. (u : Verdict l e.state v.x v.events (out.refused v.decision)) × Reason l fault v.decision u.state u.rest) same
      (v.verdict, v.reason) in
      record {
        x = h.whole ++ v.x;
        behind = v.behind;
        joined = cut ∙ (ap (λ y. y ++ concat pieces) h.joined
            ∙ (append_assoc h.whole rest (concat pieces)
            ∙ (ap (λ y. h.whole ++ y) v.joined ∙ sym (append_assoc h.whole v.x v.behind))));
        events = es ++ v.events;
        are_told = are;
        decision = v.decision;
        verdict = record {
          state = both.0.state;
          rest = both.0.rest;
          reached = reached_behind d.state e.state both.0.state h.whole v.x both.0.rest es v.events h.run both.0.reached;
          decides = both.0.decides;
        };
        reason = both.1;
      }

-- the call that is refused is so for its verdict, and those before it go on
refused_pieces : RefusesByVerdict
refused_pieces d z k pieces events fault stage pending (fails {piece = piece} {pieces = more} e call) other =
    let f = (feeds_on d e z piece (Err fault) stage call).1 in
    let why = f.2.2 other in
    record {
      x = z ++ take f.0 piece;
      behind = drop f.0 piece ++ concat more;
      joined = cut_at z piece (concat more) f.0;
      events = [];
      are_told = tt;
      decision = why.0;
      verdict = record { state = e.state; rest = f.2.0; reached = f.2.1.reached; decides = (fault, other, why.1) };
      reason = why.1;
    }
refused_pieces d z k pieces events fault stage pending (after_none {e = e} {piece = piece} {pieces = more} n call rest) other =
    let w = (feeds_on d e z piece (Ok (n, None)) stage call).1 in
    let v = refused_pieces e w.0 w.3.0 more events fault w.2 (subst (λ l. Pending l w.0 w.3.0) (sym call.1) w.3.1) rest other in
    refused_behind d e (z ++ piece) w.0 [] w.1.reached call.1 more events fault v z (piece ∷ more)
    (sym (append_assoc z piece (concat more))) events v.are_told
refused_pieces d z k pieces events fault stage pending
    (after_event {e = e} {piece = piece} {pieces = more} {events = later} n {event = event} on call rest) other =
    let f = reported d e (z ++ take n piece) event on (feeds_on d e z piece (Ok (n, Some event)) stage call).1 in
    let v = refused_pieces e [] 4 (drop n piece ∷ more) later fault f.one.stage (subst (λ l. Pending l [] 4) (sym call.1) pending_none) rest
    other in
    let h = told_reached d.state e.state (z ++ take n piece) f.told f.one.last in
    refused_behind d e (z ++ take n piece) [] (f.told ∷ []) h call.1 (drop n piece ∷ more) later fault v z (piece ∷ more)
    (cut_at z piece (concat more) n) (event ∷ later) (f.are later v.events v.are_told)

-- both together
pub any_pieces : AnyPieces
any_pieces = (told_pieces, refused_pieces)

-- ---- a table with its mark

run_pending : {limits : Limits} → {σ τ : State} {x : List ℕ} {es : List MessageEvent} (w rest : List ℕ) (k : ℕ) → Run limits σ x es τ
    → rest ≡ x ++ (end_of_stream ++ w) → Pending limits rest k → ⊥
run_pending {limits} w rest k done is pending = pending_not_end w k (subst (λ z. Pending limits z k) is pending)
run_pending {limits} w rest k (then {x = x} {metadata = m} {body = body} {y = y} {h = g} frame step later) is pending =
    pending_not_frame x m body (y ++ (end_of_stream ++ w)) g k frame
    (subst (λ z. Pending limits z k) (is ∙ append_assoc x y (end_of_stream ++ w)) pending)

-- where messages end before the mark, no bytes with these at their front are undecided behind messages
stop_pending : {limits : Limits} → {σ τ υ : State} {y u : List ℕ} {es fs : List MessageEvent} (w rest : List ℕ) (k : ℕ)
    → Run limits σ y es τ → Run limits σ u fs υ → Pending limits rest k
    → y ++ (end_of_stream ++ w) ≡ u ++ rest → ⊥
stop_pending {limits} w rest k p q pending e = elim (overlap (end_of_stream ++ w) rest p q e) [
  | inl g ↦ pending_not_end w k (subst (λ z. Pending limits z k) (sym (stops_there g (at_eos w)).rest) pending)
  | inr g ↦ run_pending w rest k g.run g.rest pending
]

module _ (d : Decoding) (x w left : List ℕ) (t : Table) (pieces : List (List ℕ)) (report : List Event)
    (h : HasVerdict d [] pieces report left)
    (empty : d.state ≡ None) (denotes : Denotes d.limits x t Mark) (joined : concat pieces ≡ x ++ w) where
  run_told : Run d.limits d.state denotes.0 (events_of t) denotes.2.0
  run_told = subst (λ σ. Run d.limits σ denotes.0 (events_of t) denotes.2.0) (sym empty) denotes.2.1

  bytes : denotes.0 ++ (end_of_stream ++ w) ≡ h.verdict.reached.whole ++ (h.verdict.rest ++ left)
  bytes =
      sym (append_assoc denotes.0 end_of_stream w) ∙ (ap (λ y. y ++ w) (sym denotes.1) ∙ (sym joined ∙ (h.joined
      ∙ (ap (λ y. y ++ left) h.verdict.reached.joined ∙ append_assoc h.verdict.reached.whole h.verdict.rest left))))

  undecided : (k : ℕ) → left ≡ [] → Pending d.limits h.verdict.rest k → ⊥
  undecided k all p =
      stop_pending w h.verdict.rest k run_told h.verdict.reached.run p
      (bytes ∙ ap (λ l. h.verdict.reached.whole ++ l) (ap (λ l. h.verdict.rest ++ l) all ∙ append-nil h.verdict.rest))

  told_mark : h.verdict.rest ≡ end_of_stream → (h.events ≡ events_of t) × (left ≡ w)
  told_mark mark =
      let same = one_run (end_of_stream ++ w) (end_of_stream ++ left) run_told h.verdict.reached.run (at_eos w) (at_eos left)
      (bytes ∙ ap (λ r. h.verdict.reached.whole ++ (r ++ left)) mark) in
      (sym same.events, sym (append_cancel_left end_of_stream w left same.rest))

  by_out : (o : Out) → h.out ≡ o → (h.events ≡ events_of t) × (left ≡ w) × EndsWithMark report
  by_out (out.more k) is =
      absurd (undecided k (subst (λ o. LeavesBytes o report left) is h.leaves)
      (subst (λ o. IsOutcome d.limits h.verdict.state h.verdict.rest o)
      is
      h.verdict.decides))
  by_out out.end is =
      let all = told_mark (subst (λ o. IsOutcome d.limits h.verdict.state h.verdict.rest o) is h.verdict.decides).0 in
      (all.0, all.1, subst (λ o. LeavesBytes o report left) is h.leaves)
  by_out (out.refused c) is = absurd (subst (λ o. LeavesBytes o report left) is h.leaves)

-- a table and its mark are told as they are
pub table_pieces : TablePieces
table_pieces d g x w left t pieces report empty fresh denotes joined fed =
    let h = told_pieces d g [] left 4 pieces report fresh pending_none fed in
    let all = by_out d x w left t pieces report h empty denotes joined h.out refl in
    record { are_told = subst (AreReported report) all.0 h.are_told; ends = all.2; behind = all.1 }
