-- Runs of messages, one after another.
use Rattle.std.proofs.Common.{◌≡◌, ◌∙◌, refl, sym, ap, subst, ℕ, suc, ◌+◌, List, [], ◌∷◌, ◌++◌, length, Option, Result, Err, append_assoc}
use Rattle.std.proofs.Common.{arith, length-append}
use Rattle.std.proofs.lemmas.List.{append-nil}
use Rattle.ipc_model.specs.declared.fault.Fault.{Fault}
use Rattle.ipc_meta.specs.declared.head.Head.{Head}
use Rattle.ipc_frame.specs.Frames.{Encapsulates}
use Rattle.ipc_stream_read.specs.declared.end.End.{End}
use Rattle.ipc_stream_read.specs.Counts.{messages_in}
use Rattle.ipc_stream_read.specs.Decoding.{ReportsLastEvent}
use Rattle.ipc_stream_read.specs.Reasons.{Breaks, Reads}
use Rattle.ipc_stream_read.specs.Verdicts.{Reached}
use Rattle.ipc_stream_read.specs.Stream.{State, MessageEvent, Step, Run, done, more}
use Rattle.ipc_model.specs.declared.limits.Limits.{Limits}

-- a run of so many messages
abbrev Counted : Limits → State → List ℕ → List MessageEvent → State → ℕ → Type 0
Counted limits σ x es τ n = (r : Run limits σ x es τ) × (messages_in r ≡ n)

one_counted : {limits : Limits} → {σ τ : State} {x metadata body : List ℕ} {h : Head} {es : List MessageEvent}
    → Encapsulates limits x metadata h body → Step limits σ h body es τ → Counted limits σ x es τ 1
one_counted {limits} {σ} {τ} {x} {metadata} {body} {h} {es} frame step =
    subst (λ y. Counted limits σ y es τ 1) (append-nil x) (subst (λ fs. Counted limits σ (x ++ []) fs τ 1) (append-nil es)
    (more frame step done, refl))

-- one message
pub run_one : {limits : Limits} → {σ τ : State} {x metadata body : List ℕ} {h : Head} {es : List MessageEvent}
    → Encapsulates limits x metadata h body → Step limits σ h body es τ
    → Run limits σ x es τ
run_one frame step = (one_counted frame step).0

-- is one
pub messages_one : {limits : Limits} → {σ τ : State} {x metadata body : List ℕ} {h : Head} {es : List MessageEvent}
    (frame : Encapsulates limits x metadata h body) (step : Step limits σ h body es τ) → messages_in (run_one frame step) ≡ 1
unfolding run_one
messages_one frame step = (one_counted frame step).1

then_counted : {limits : Limits} → (σ τ υ : State) (x y : List ℕ) (es fs : List MessageEvent) (m : ℕ) (r : Run limits σ x es τ)
    → Counted limits τ y fs υ m → Counted limits σ (x ++ y) (es ++ fs) υ (messages_in r + m)
then_counted {limits} σ τ υ x y es fs m done q = (q.0, omega (arith, q.1))
then_counted {limits} σ τ υ x y es fs m
    (more {σ = a} {τ = b} {υ = c} {x = u} {y = v} {es = ds} {fs = gs} frame step rest) q =
    let tail = then_counted b c υ v y gs fs m rest q in
    let here : messages_in (more frame step tail.0) ≡ suc (messages_in rest) + m = omega (arith, tail.1) in
    subst (λ z. Counted limits σ z ((ds ++ gs) ++ fs) υ (suc (messages_in rest) + m)) (sym (append_assoc u v y))
    (subst (λ hs. Counted limits σ (u ++ (v ++ y)) hs υ (suc (messages_in rest) + m)) (sym (append_assoc ds gs fs))
    (more frame step tail.0, here))

-- messages and then others
pub run_then : {limits : Limits} → (σ τ υ : State) (x y : List ℕ) (es fs : List MessageEvent) → Run limits σ x es τ → Run limits τ y fs υ
    → Run limits σ (x ++ y) (es ++ fs) υ
run_then σ τ υ x y es fs r q = (then_counted σ τ υ x y es fs (messages_in q) r (q, refl)).0

-- are as many as both
pub messages_then : {limits : Limits} → (σ τ υ : State) (x y : List ℕ) (es fs : List MessageEvent) (r : Run limits σ x es τ)
    (q : Run limits τ y fs υ) → messages_in (run_then σ τ υ x y es fs r q) ≡ messages_in r + messages_in q
unfolding run_then
messages_then σ τ υ x y es fs r q = (then_counted σ τ υ x y es fs (messages_in q) r (q, refl)).1

-- no bytes are no message
pub messages_none : {limits : Limits} → {σ τ : State} {x : List ℕ} {es : List MessageEvent} (r : Run limits σ x es τ) → x ≡ []
    → messages_in r ≡ 0
messages_none done is = refl
messages_none (more {x = x} {y = y} frame step rest) is = absurd (omega (arith, frame.prefix, length-append x y, ap length is))

-- messages that tell nothing, and behind them one that tells an event
pub told_run : {limits : Limits} → (σ τ : State) (x : List ℕ) (e : MessageEvent) → ReportsLastEvent limits σ x e τ
    → Run limits σ x (e ∷ []) τ
told_run {limits} σ τ x e t =
    subst (λ y. Run limits σ y (e ∷ []) τ) (sym t.joined)
    (run_then σ t.between τ t.silent t.message [] (e ∷ []) t.run (run_one t.report.frame t.report.step))

pub told_reached : {limits : Limits} → (σ τ : State) (x : List ℕ) (e : MessageEvent) → ReportsLastEvent limits σ x e τ
    → Reached limits σ x (e ∷ []) τ []
told_reached σ τ x e t = record { whole = x; joined = sym (append-nil x); run = told_run σ τ x e t }

-- more messages that tell nothing before them
pub last_after : {limits : Limits} → (σ τ υ : State) (x y : List ℕ) (e : MessageEvent) → Run limits σ x [] τ
    → ReportsLastEvent limits τ y e υ → ReportsLastEvent limits σ (x ++ y) e υ
last_after σ τ υ x y e r t = record {
  silent = x ++ t.silent;
  message = t.message;
  joined = ap (λ z. x ++ z) t.joined ∙ sym (append_assoc x t.silent t.message);
  between = t.between;
  run = run_then σ τ t.between x t.silent [] [] r t.run;
  report = t.report;
}

pub messages_after : {limits : Limits} → (σ τ υ : State) (x y : List ℕ) (e : MessageEvent) (r : Run limits σ x [] τ)
    (t : ReportsLastEvent limits τ y e υ) → messages_in (last_after σ τ υ x y e r t).run ≡ messages_in r + messages_in t.run
unfolding last_after
messages_after σ τ υ x y e r t = messages_then σ τ t.between x t.silent [] [] r t.run

-- reading goes on behind a run
pub reads_after : {limits : Limits} → (σ τ : State) (x y : List ℕ) (left : Option (List ℕ)) (es fs : List MessageEvent)
    (r : Result End Fault)
    → Run limits σ x es τ
    → Reads limits τ y left fs r → Reads limits σ (x ++ y) left (es ++ fs) r
reads_after σ τ x y left es fs r run reads = record {
  state = reads.state;
  whole = x ++ reads.whole;
  rest = reads.rest;
  joined = ap (λ z. x ++ z) reads.joined ∙ sym (append_assoc x reads.whole reads.rest);
  run = run_then σ τ reads.state x reads.whole es fs run reads.run;
  ends = reads.ends;
}

-- and breaks off there
pub breaks_after : {limits : Limits} → (σ τ : State) (x y : List ℕ) (left : Option (List ℕ)) (es fs : List MessageEvent) (e : Fault)
    → Run limits σ x es τ
    → Breaks limits τ y left fs e → Breaks limits σ (x ++ y) left (es ++ fs) e
unfolding reads_after
breaks_after σ τ x y left es fs e run b = (reads_after σ τ x y left es fs (Err e) run b.0, b.1)
