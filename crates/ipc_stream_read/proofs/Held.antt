-- How many bytes a reader holds.
use Rattle.std.proofs.Common.{◌≡◌, ◌≢◌, ◌∙◌, refl, sym, ap, subst, ℕ, ◌+◌, ◌<◌, ◌≤◌, ℤ, inl, inr, List, [], ◌∷◌, ◌++◌}
use Rattle.std.proofs.Common.{length, length-append, length-drop, append_assoc, append-nil, arith, Option, Some, None}
use Rattle.std.proofs.lemmas.List.Sums.{sum_by-cons}
use Rattle.std.specs.List.{sum_by}
use Rattle.std.specs.Map.{values_of}
use Rattle.std.specs.Ordering.{int_cmp, match_ordering}
use Rattle.std.specs.declared.cmp.Ordering.TheVariants.{Less, Equal, Greater}
use Rattle.std.specs.BTreeMap.{insert_entry}
use Rattle.ipc_model.specs.declared.limits.Limits.{Limits}
use Rattle.ipc_meta.specs.declared.head.Head.{Head}
use Rattle.ipc_frame.specs.Frames.{Encapsulates, Pending, in_body, in_mark, in_metadata, in_size}
use Rattle.ipc_frame.proofs.Decided.{pending_not_frame}
use Rattle.ipc_dict_read.specs.InForce.{put}
use Rattle.ipc_stream_read.specs.Decoding.{dictionary_bytes}
use Rattle.ipc_stream_read.specs.Held.{HoldsWithin, IsWithin, KeepsWithin, WouldHold}
use Rattle.ipc_stream_read.specs.Stream.{DictionaryInForce, MessageEvent, Run, State, Step, done, more}
use Rattle.ipc_stream_read.specs.Stream.{dictionary_batch, record_batch, schema_message}
use Rattle.ipc_stream_read.specs.Verdicts.{Reached}
use Rattle.ipc_stream_read.proofs.OneReading.{overlap}
use Rattle.ipc_stream_read.proofs.Verdicts.{reached_then}

-- ---- the bytes of dictionaries

abbrev bytes_in : List (ℤ × DictionaryInForce) → ℕ
bytes_in m = sum_by (λ d. d.bytes) (values_of m)

bytes_cons : (e : ℤ × DictionaryInForce) (m : List (ℤ × DictionaryInForce)) → bytes_in (e ∷ m) ≡ e.1.bytes + bytes_in m
bytes_cons e m = sum_by-cons (λ (d : DictionaryInForce). d.bytes) e.1 (values_of m)

-- a dictionary that is set adds at most its own
put_bytes : (m : List (ℤ × DictionaryInForce)) (id : ℤ) (v : DictionaryInForce) → bytes_in (put m id v) ≤ bytes_in m + v.bytes
put_bytes [] id v = omega (arith, bytes_cons (id, v) [])
put_bytes (e ∷ es) id v =
    let later = put_bytes es id v in
    elim (int_cmp id e.0) as (λ o. bytes_in (match_ordering o ((id, v) ∷ e ∷ es) ((e.0, v) ∷ es) (e ∷ insert_entry int_cmp es id v))
    ≤ bytes_in (e ∷ es) + v.bytes) [
      | Less ↦ omega (arith, bytes_cons (id, v) (e ∷ es))
      | Equal ↦ omega (arith, bytes_cons (e.0, v) es, bytes_cons e es)
      | Greater ↦ omega (arith, bytes_cons e (insert_entry int_cmp es id v), bytes_cons e es, later)
    ]

step_bytes : {limits : Limits} → {σ τ : State} {g : Head} {body : List ℕ} {es : List MessageEvent} → Step limits σ g body es τ
    → dictionary_bytes τ ≤ dictionary_bytes σ + length body
step_bytes schema_message = omega arith
step_bytes (record_batch r) = omega arith
step_bytes (dictionary_batch {o = o} {id = id} found r) = put_bytes o.dictionaries id _

body_bytes : {limits : Limits} → (x m body : List ℕ) (g : Head) → Encapsulates limits x m g body → length body ≤ length x
body_bytes x m body g frame = omega (arith, ap length frame.carried, length-append m body, length-drop 8 x)

-- messages add at most their own bytes
run_bytes : {limits : Limits} → {σ τ : State} {x : List ℕ} {es : List MessageEvent} → Run limits σ x es τ
    → dictionary_bytes τ ≤ dictionary_bytes σ + length x
run_bytes done = omega arith
run_bytes (more {x = x} {metadata = m} {body = body} {y = y} {h = g} frame step rest) =
    omega (arith, step_bytes step, run_bytes rest, body_bytes x m body g frame, length-append x y)

-- ---- what is reached with more bytes

-- no message begins with an undecided beginning
stays : {limits : Limits} → {σ τ : State} {x : List ℕ} {es : List MessageEvent} (z w : List ℕ) (k : ℕ) → Run limits σ x es τ
    → Pending limits z k → z ≡ x ++ w → (σ ≡ τ) × (z ≡ w)
stays z w k done p e = (refl, e)
stays {limits} z w k (more {x = x} {metadata = m} {body = body} {y = y} {h = g} frame step rest) p e =
    absurd (pending_not_frame x m body (y ++ w) g k frame (subst (λ q. Pending limits q k) (e ∙ append_assoc x y w) p))

-- messages that lead from one state to another, of whose bytes and the rest these are made
record Leads (limits : Limits) (σ τ : State) (z rest : List ℕ) : Type 0 where
  pub whole : List ℕ
  pub events : List MessageEvent
  pub run : Run limits σ whole events τ
  pub joined : z ≡ whole ++ rest

-- it is reached from what was reached before
leads_on : {limits : Limits} → (σ τ υ : State) (x z c rest : List ℕ) (es fs : List MessageEvent) (k : ℕ) → Reached limits σ x es τ z
    → Reached limits σ (x ++ c) fs υ rest → Pending limits rest k → Leads limits τ υ (z ++ c) rest
leads_on {limits} σ τ υ x z c rest es fs k a b pending =
    let joined : a.whole ++ (z ++ c) ≡ b.whole ++ rest =
    sym (append_assoc a.whole z c) ∙ (ap (λ y. y ++ c) (sym a.joined) ∙ b.joined) in
    elim (overlap (z ++ c) rest a.run b.run joined) [
      | inl g ↦ record { whole = g.bytes; events = g.events; run = g.run; joined = g.rest }
      | inr g ↦
          let same = stays rest (z ++ c) k g.run pending g.rest in
          record {
            whole = [];
            events = [];
            run = subst (λ s. Run limits τ [] [] s) (sym same.0) done;
            joined = sym same.1;
          }
    ]

-- ---- beginnings

-- a beginning of two lists is one of the first, or the first and a beginning of the second
data Begins (x c y w : List ℕ) : Type 0 where
  short : (d : List ℕ) → x ≡ y ++ d → Begins x c y w
  long : (d : List ℕ) → y ≡ x ++ d → c ≡ d ++ w → Begins x c y w

begins : (x c y w : List ℕ) → x ++ c ≡ y ++ w → Begins x c y w
begins [] c y w e = long y refl e
begins (a ∷ x) c [] w e = short (a ∷ x) refl
begins (a ∷ x) c (b ∷ y) w e =
    let head : a ≡ b = cc in
    let tail : x ++ c ≡ y ++ w = cc in
    further (begins x c y w tail) head
  where
    further : Begins x c y w → a ≡ b → Begins (a ∷ x) c (b ∷ y) w
    further (short d is) head = short d (ap (λ z. a ∷ z) is ∙ ap (λ h. h ∷ (y ++ d)) head)
    further (long d is left) head = long d (ap (λ h. h ∷ y) (sym head) ∙ ap (λ z. a ∷ z) is) left

-- ---- what is held

pub within_less : (most : Option ℕ) (m n : ℕ) → m ≤ n → IsWithin most n → IsWithin most m
within_less None m n less h = tt
within_less (Some k) m n less h = omega (arith, less, h)

-- nothing came yet
pub held_none : (limits : Limits) (most : Option ℕ) (σ : State) → HoldsWithin limits most σ []
held_none limits most σ [] z rest events τ k is some reached pending = absurd (some refl)
held_none limits most σ (b ∷ y) z rest events τ k is some reached pending = absurd (cc)

-- where what came and what is wanted may be held, no more than what is wanted comes
pub held_more : {limits : Limits} → (most : Option ℕ) (σ τ : State) (x z c : List ℕ) (es : List MessageEvent) (k : ℕ)
    → HoldsWithin limits most σ x → Reached limits σ x es τ z → IsWithin most (dictionary_bytes τ + length z + k) → length c ≤ k
    → HoldsWithin limits most σ (x ++ c)
held_more {limits} most σ τ x z c es k h a room few = λ y w rest events υ j is some reached pending.
    by_place y w rest events υ j some reached pending (begins x c y w is)
  where
    by_place : (y w rest : List ℕ) (events : List MessageEvent) (υ : State) (j : ℕ) → y ≢ [] → Reached limits σ y events υ rest
        → Pending limits rest j → Begins x c y w → IsWithin most (dictionary_bytes υ + length rest)
    by_place y w rest events υ j some reached pending (short d is) = h y d rest events υ j is some reached pending
    by_place y w rest events υ j some reached pending (long d is left) =
        let here = subst (λ b. Reached limits σ b events υ rest) is reached in
        let g = leads_on σ τ υ x z d rest es events j a here pending in
        within_less most (dictionary_bytes υ + length rest) (dictionary_bytes τ + length z + k)
        (omega (
          arith,
          run_bytes g.run,
          ap length g.joined,
          length-append z d,
          length-append g.whole rest,
          ap length left,
          length-append d w,
          few,
        )) room

-- what comes after messages
pub held_then : {limits : Limits} → (most : Option ℕ) (σ τ : State) (x c : List ℕ) (es : List MessageEvent)
    → HoldsWithin limits most σ x → Run limits σ x es τ → HoldsWithin limits most τ c → HoldsWithin limits most σ (x ++ c)
held_then {limits} most σ τ x c es h run later = λ y w rest events υ j is some reached pending.
    by_place y w rest events υ j some reached pending (begins x c y w is)
  where
    by_place : (y w rest : List ℕ) (events : List MessageEvent) (υ : State) (j : ℕ) → y ≢ [] → Reached limits σ y events υ rest
        → Pending limits rest j → Begins x c y w → IsWithin most (dictionary_bytes υ + length rest)
    by_place y w rest events υ j some reached pending (short d is) = h y d rest events υ j is some reached pending
    by_place y w rest events υ j some reached pending (long [] is left) =
        h y [] rest events υ j (sym is' ∙ sym (append-nil y)) some reached pending
      where
        is' : y ≡ x
        is' = is ∙ append-nil x
    by_place y w rest events υ j some reached pending (long (b ∷ d) is left) =
        let here = subst (λ q. Reached limits σ q events υ rest) is reached in
        let whole : Reached limits σ x es τ [] = record { whole = x; joined = sym (append-nil x); run = run } in
        let g = leads_on σ τ υ x [] (b ∷ d) rest es events j whole here pending in
        later (b ∷ d) w rest g.events υ j left (λ none. absurd (cc)) (record { whole = g.whole; joined = g.joined; run = g.run }) pending

-- more would be held after messages too
pub would_then : {limits : Limits} → (most : Option ℕ) (σ τ : State) (x c : List ℕ) (es : List MessageEvent) → Run limits σ x es τ
    → WouldHold limits most τ c → WouldHold limits most σ (x ++ c)
would_then {limits} most σ τ x c es run w =
    let whole : Reached limits σ x es τ [] = record { whole = x; joined = sym (append-nil x); run = run } in
    record {
      events = es ++ w.events;
      state = w.state;
      rest = w.rest;
      reached = reached_then σ τ w.state x [] c w.rest es w.events whole w.reached;
      wants = w.wants;
      undecided = w.undecided;
      above = w.above;
    }

pub keeps_then : {limits : Limits} → (most : Option ℕ) (σ τ : State) (x c : List ℕ) (es : List MessageEvent) (stopped : Type 0)
    → HoldsWithin limits most σ x → Run limits σ x es τ → KeepsWithin limits most τ c stopped
    → KeepsWithin limits most σ (x ++ c) stopped
keeps_then most σ τ x c es stopped h run keeps = record {
  within = held_then most σ τ x c es h run keeps.within;
  above = λ s. would_then most σ τ x c es run (keeps.above s);
}

-- ---- the room for what is wanted

pub pending_some : {limits : Limits} → (z : List ℕ) (k : ℕ) → Pending limits z k → 0 < k
pending_some z k (in_mark some e) = some
pending_some z k (in_size some e l w) = some
pending_some z k (in_metadata some e b) = some
pending_some z k (in_body some e b whole states) = some
