-- What calls of a reader gave, and how many messages were read.
use Rattle.std.proofs.Common.{◌≡◌, ◌∙◌, refl, sym, ap, subst, ℕ, suc, ◌+◌, List, [], ◌∷◌, ◌++◌, Option, Some, None, Result, Ok, Err}
use Rattle.std.proofs.Common.{append_assoc, arith}
use Rattle.ipc_model.specs.declared.fault.Fault.{Fault}
use Rattle.ipc_model.specs.declared.limits.Limits.{Limits}
use Rattle.ipc_model.specs.declared.table.BatchRows.{BatchRows}
use Rattle.ipc_stream_read.specs.declared.end.End.{End}
use Rattle.ipc_stream_read.specs.Reader.{StreamPhase}
use Rattle.ipc_stream_read.specs.Reader.{Reading, Ended, Refused}
use Rattle.ipc_stream_read.specs.Counts.{count_up, messages_in}
use Rattle.ipc_stream_read.specs.Decoding.{ReportsLastEvent}
use Rattle.ipc_stream_read.specs.Found.{ReadRows, batch_rows}
use Rattle.ipc_stream_read.specs.Reader.{EndsAfter, LeadsTo, NextAnswer, Reader, in_force_of}
use Rattle.ipc_stream_read.specs.Reasons.{Reads}
use Rattle.ipc_stream_read.specs.Stream.{State, MessageEvent, batch, Run}
use Rattle.ipc_stream_read.proofs.Runs.{run_one, run_then, messages_one, messages_then}

-- a run of n messages
abbrev pub Counted : Limits → State → List ℕ → List MessageEvent → State → ℕ → Type 0
Counted limits σ x es τ n = (r : Run limits σ x es τ) × (messages_in r ≡ n)

-- a reading of n messages
abbrev pub ReadsCounted : Limits → State → List ℕ → Option (List ℕ) → List MessageEvent → Result End Fault → ℕ → Type 0
ReadsCounted limits σ x left es r n = (q : Reads limits σ x left es r) × (messages_in q.run ≡ n)

-- messages, and others after them, are as many as both
pub counted_then : {limits : Limits} → (σ τ υ : State) (x y : List ℕ) (es fs : List MessageEvent) (m n : ℕ) → Counted limits σ x es τ m
    → Counted limits τ y fs υ n → Counted limits σ (x ++ y) (es ++ fs) υ (m + n)
counted_then σ τ υ x y es fs m n run next =
    let both = messages_then σ τ υ x y es fs run.0 next.0 in
    (run_then σ τ υ x y es fs run.0 next.0, omega (arith, both, run.1, next.1))

-- also where reading ends after the others
pub reads_then : {limits : Limits} → (σ τ : State) (x y : List ℕ) (left : Option (List ℕ)) (es fs : List MessageEvent)
    (r : Result End Fault) (m n : ℕ)
    → Counted limits σ x es τ m → ReadsCounted limits τ y left fs r n → ReadsCounted limits σ (x ++ y) left (es ++ fs) r (m + n)
reads_then {limits} σ τ x y left es fs r m n run reads =
    let q = reads.0 in
    let all : Counted limits σ (x ++ q.whole) (es ++ fs) q.state (m + n) = counted_then σ τ q.state x q.whole es fs m n run (q.run, reads.1)
    in (
      record {
        state = q.state;
        whole = x ++ q.whole;
        rest = q.rest;
        joined = ap (λ z. x ++ z) q.joined ∙ sym (append_assoc x q.whole q.rest);
        run = all.0;
        ends = q.ends;
      },
      all.1,
    )

-- messages without an event, and one message with an event, are one more
told_counted : {limits : Limits} → (σ τ : State) (x : List ℕ) (e : MessageEvent) (t : ReportsLastEvent limits σ x e τ)
    → Counted limits σ x (e ∷ []) τ (suc (messages_in t.run))
told_counted {limits} σ τ x e t =
    let last = run_one t.report.frame t.report.step in
    let all = messages_then σ t.between τ t.silent t.message [] (e ∷ []) t.run last in
    let one = messages_one t.report.frame t.report.step in
    subst (λ y. Counted limits σ y (e ∷ []) τ (suc (messages_in t.run))) (sym t.joined)
    (run_then σ t.between τ t.silent t.message [] (e ∷ []) t.run last, omega (arith, all, one))

-- the messages of a batch that came, and how many they are
pub record Came (limits : Limits) (now new : Reader) (x : List ℕ) (rows : BatchRows) : Type 0 where
  pub count : ℕ
  pub run : Counted limits (Some (in_force_of now)) x (batch rows ∷ []) (Some (in_force_of new)) count
  pub messages : new.messages ≡ count_up now.messages count

pub came : (now new : Reader) (x : List ℕ) (rows : BatchRows) → LeadsTo now new x (batch rows) → Came now.limits now new x rows
came now new x rows h = record {
  count = suc (messages_in h.last.run);
  run = told_counted (Some (in_force_of now)) (Some (in_force_of new)) x (batch rows) h.last;
  messages = h.messages;
}

-- the last messages, after which reading ended
pub ends_counted : (now new : Reader) (x : List ℕ) (r : Result End Fault) (h : EndsAfter now new x r)
    → ReadsCounted now.limits (Some (in_force_of now)) x new.remaining [] r (messages_in h.run)
ends_counted now new x r h = (
  record {
    state = Some (in_force_of new);
    whole = h.whole;
    rest = h.rest;
    joined = h.joined;
    run = h.run;
    ends = h.ends;
  },
  refl,
)

-- what a call that gave a batch says, where the reader was reading
pub gave : (now new : Reader) (p q : StreamPhase) (x : List ℕ) (found : ReadRows) → p ≡ Reading → NextAnswer now new p x (Ok (Some found)) q
    → (q ≡ Reading) × LeadsTo now new x (batch (batch_rows found))
gave now new Reading Reading x found is h = (refl, h.0)
gave now new Reading (Ended e) x found is h = absurd h
gave now new Reading Refused x found is h = absurd h
gave now new (Ended e) q x found is h = absurd (cc)
gave now new Refused q x found is h = absurd (cc)

pub ended : (now new : Reader) (p q : StreamPhase) (x : List ℕ) → p ≡ Reading → NextAnswer now new p x (Ok None) q
    → (e : End) × EndsAfter now new x (Ok e) × (q ≡ Ended e)
ended now new Reading Reading x is h = absurd h
ended now new Reading (Ended e) x is h = (e, h, refl)
ended now new Reading Refused x is h = absurd h
ended now new (Ended e) q x is h = absurd (cc)
ended now new Refused q x is h = absurd (cc)

pub broke : (now new : Reader) (p q : StreamPhase) (x : List ℕ) (f : Fault) → p ≡ Reading → NextAnswer now new p x (Err f) q
    → EndsAfter now new x (Err f)
broke now new Reading Reading x f is h = absurd h
broke now new Reading (Ended e) x f is h = absurd h
broke now new Reading Refused x f is h = h
broke now new (Ended e) q x f is h = absurd (cc)
broke now new Refused q x f is h = absurd (cc)
