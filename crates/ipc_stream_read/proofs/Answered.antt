-- There is one answer to the bytes of a source.
use Rattle.std.proofs.Common.{◌≡◌, ◌∙◌, refl, sym, ap, subst, ℕ, inl, inr, List, [], ◌++◌, Option, Some, None, Result, Ok, Err}
use Rattle.std.proofs.Common.{append_assoc, arith}
use Rattle.std.specs.Prelude.{IfOk, MatchResult}
use Rattle.std.specs.Io.KnownBytes.{Consumes, IsAtEnd}
use Rattle.std.proofs.lemmas.List.{append-nil}
use Rattle.ipc_model.specs.declared.fault.Fault.{Fault}
use Rattle.ipc_model.specs.declared.fault.Fault.TheVariants.{OutOfMemory}
use Rattle.ipc_model.specs.declared.table.Table.{Table}
use Rattle.ipc_stream_read.specs.declared.end.End.{End}
use Rattle.ipc_stream_read.specs.declared.end.End.TheVariants.{Mark, Closed}
use Rattle.ipc_stream_read.specs.Failures.{FailsAs}
use Rattle.ipc_stream_read.specs.Stream.{MessageEvent, Run, events_of, Denotes}
use Rattle.ipc_stream_read.specs.Reasons.{IsOutside, Reads}
use Rattle.ipc_stream_read.specs.Taken.{TakesTable}
use Rattle.ipc_stream_read.proofs.Beginnings.{Holds, holds_closed, holds_marked}
use Rattle.ipc_stream_read.proofs.OneReading.{front_one, none_longer, table_same}
use Rattle.ipc_stream_read.proofs.Reasons.{run_told, run_breaks}
use Rattle.ipc_model.specs.declared.limits.Limits.{Limits}

-- what is read to an end denotes the table
denotes : {limits : Limits} → (x : List ℕ) (left : Option (List ℕ)) (t : Table) (e : End) → Reads limits None x left (events_of t) (Ok e)
    → Denotes limits x t e
denotes {limits} x left t Closed r = (
  r.state,
  subst (λ y. Run limits None y (events_of t) r.state)
      (sym (append-nil r.whole) ∙ (ap (λ y. r.whole ++ y) (sym r.ends.0) ∙ sym r.joined)) r.run,
)
denotes {limits} x left t Mark r = (r.whole, r.joined ∙ ap (λ y. r.whole ++ y) r.ends.0, (r.state, r.run))

at_end : {limits : Limits} → (x : List ℕ) (left : Option (List ℕ)) (es : List MessageEvent) (e : End) → Reads limits None x left es (Ok e)
    → e ≡ Closed → IsAtEnd left
at_end x left es Closed r is = r.ends.2
at_end x left es Mark r is = absurd (cc)

-- where a call answers a table, the bytes that it took of the source denote that table, up to that end
pub taken_denotes : {limits : Limits} → (old new : Option (List ℕ)) (r : Result (Table × End) Fault) → TakesTable limits old new r
    → IfOk r (λ a. (x : List ℕ) × Consumes old new x × Denotes limits x a.0 a.1 × (a.1 ≡ Closed → IsAtEnd new))
taken_denotes old new (Ok a) t = (t.x, t.bytes, denotes t.x new a.0 a.1 t.gives, at_end t.x new (events_of a.0) a.1 t.gives)
taken_denotes old new (Err e) t = tt

-- ---- nothing else is answered

-- this table and this end, unless memory runs out
abbrev pub Answers : Table → End → Result (Table × End) Fault → Type 0
Answers t end r = MatchResult r (λ a. (a.0 ≡ t) × (a.1 ≡ end)) (λ fault. fault ≡ OutOfMemory)

no_failure : (f0 f1 : ℕ) (e : Fault) → f1 ≡ 0 → FailsAs {T = Table × End} f0 f1 (Err e) → IsOutside e → e ≡ OutOfMemory
no_failure f0 f1 e none tells (inl read) = absurd (omega (arith, none, tells.failed read))
no_failure f0 f1 e none tells (inr memory) = memory

-- bytes that denote a table without a mark have no other reading
one_closed : {limits : Limits} → (x : List ℕ) (t : Table) → Denotes limits x t Closed → (y b : List ℕ) (u : Table) (e : End) → x ≡ y ++ b
    → Denotes limits y u e → (e ≡ Closed → b ≡ []) → (u ≡ t) × (e ≡ Closed)
one_closed {limits} x t d y b u Closed joined other all =
    let same : y ≡ x = sym (joined ∙ (ap (λ c. y ++ c) (all refl) ∙ append-nil y)) in
    (sym (table_same limits x t u Closed Closed d (subst (λ z. Denotes limits z u Closed) same other)).0, refl)
one_closed {limits} x t d y b u Mark joined other all =
    let none = none_longer y b u t Closed other (subst (λ z. Denotes limits z t Closed) joined d) in
    let same : y ≡ x = sym (joined ∙ (ap (λ c. y ++ c) none ∙ append-nil y)) in
    let one = table_same limits x t u Closed Mark d (subst (λ z. Denotes limits z u Mark) same other) in
    (sym one.0, sym one.1)

-- where the bytes z of a source hold a table, a call that took some of them answers this, unless memory runs out
answers : {limits : Limits} → (z : List ℕ) (old new : Option (List ℕ)) (t : Table) (end : End) (f0 f1 : ℕ) (r : Result (Table × End) Fault)
    → Holds limits z t
    → ((x b : List ℕ) (u : Table) (e : End) → z ≡ x ++ b → Denotes limits x u e → (e ≡ Closed → b ≡ []) → (u ≡ t) × (e ≡ end))
    → old ≡ Some z → TakesTable limits old new r → f1 ≡ 0 → FailsAs f0 f1 r → Answers t end r
answers {limits} z old None t end f0 f1 r holds one is h none fails = absurd (subst (λ i. Consumes i None h.x) is h.bytes)
answers {limits} z old (Some b) t end f0 f1 (Ok a) holds one is h none fails =
    one h.x b a.0 a.1 (subst (λ i. Consumes i (Some b) h.x) is h.bytes) (denotes h.x (Some b) a.0 a.1 h.gives)
    (at_end h.x (Some b) (events_of a.0) a.1 h.gives)
answers {limits} z old (Some b) t end f0 f1 (Err e) holds one is h none fails =
    let broken = h.gives.1 in
    let joined : holds.whole ++ holds.rest ≡ broken.whole ++ (broken.rest ++ b) =
    holds.joined ∙ (subst (λ i. Consumes i (Some b) h.x) is h.bytes
    ∙ (ap (λ y. y ++ b) broken.joined ∙ append_assoc broken.whole broken.rest b)) in
    no_failure f0 f1 e none fails (run_breaks holds.rest broken.rest b e holds.run broken.run
    (run_told holds.run (λ n. absurd (cc))) holds.stop broken.ends joined)

module _ {limits : Limits} (old new : Option (List ℕ)) (f0 f1 : ℕ) (r : Result (Table
    × End) Fault) (h : TakesTable limits old new r) (none : f1 ≡ 0)
    (fails : FailsAs f0 f1 r) where
  -- where bytes up to an end mark denote a table, the call answers that table, unless memory runs out
  pub answers_marked : (x rest : List ℕ) (t : Table) → old ≡ Some (x ++ rest)
      → Denotes limits x t Mark
      → Answers t Mark r
  answers_marked x rest t is d = answers (x ++ rest) old new t Mark f0 f1 r (holds_marked x rest t d)
      (λ y b u e joined other all. let one = front_one x y rest b t u e d other all joined in (one.0, one.1)) is h none fails

  -- where all bytes of the source denote a table, the call answers that table, unless memory runs out
  pub answers_closed : (x : List ℕ) (t : Table) → old ≡ Some x → Denotes limits x t Closed
      → Answers t Closed r
  answers_closed x t is d = answers x old new t Closed f0 f1 r (holds_closed x t d) (one_closed x t d) is h none fails
