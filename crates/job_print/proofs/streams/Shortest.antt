-- Messages end with the message of their last event, and no shorter beginning of them reports the same events.
use Rattle.std.proofs.Common.{◌≡◌, ◌∙◌, refl, sym, ap, subst, ℕ, ℤ, List, [], ◌∷◌, ◌++◌, length, map, Some, None, append_assoc, arith}
use Rattle.std.specs.Prelude.{◌≢◌}
use Rattle.std.proofs.Common.{length-append}
use Rattle.std.proofs.lemmas.List.{append-nil, append_cancel_left, nil_from_length}
use Rattle.std.specs.BTreeMap.{insert_entry}
use Rattle.std.specs.Ordering.{int_cmp, match_ordering}
use Rattle.std.specs.declared.cmp.Ordering.TheVariants.{Less, Equal, Greater}
use Rattle.ipc_frame.specs.Frames.{Encapsulates}
use Rattle.ipc_meta.specs.declared.head.Head.{Head}
use Rattle.ipc_column.specs.Values.{first_of}
use Rattle.ipc_model.specs.declared.limits.Limits.{Limits}
use Rattle.ipc_model.specs.declared.schema.Schema.{Schema}
use Rattle.ipc_frame.proofs.OneFrame.{frame_one}
use Rattle.ipc_stream_read.specs.Decoding.{ReportsLastEvent}
use Rattle.ipc_stream_read.specs.Stream.{DictionaryInForce, InForce, State, MessageEvent, schema, Step, schema_message, record_batch}
use Rattle.ipc_stream_read.specs.Stream.{dictionary_batch}
use Rattle.ipc_stream_read.specs.Stream.{Run, done, more, IsMessage}
use Rattle.ipc_stream_read.proofs.OneReading.{step_one}
use Rattle.ipc_stream_read.proofs.Runs.{run_then}
use Rattle.ipc_dict_read.specs.InForce.{put}
use Rattle.job_print.specs.Streams.{AreShortest}

-- of two messages with the same beginning the bytes, what follows them, the events and the state after them are the same
pub one_message : {limits : Limits} → {σ τ υ : State} {x y m n body other : List ℕ} {g h : Head} {es fs : List MessageEvent} (a b : List ℕ)
    → Encapsulates limits x m g body → Step limits σ g body es τ → Encapsulates limits y n h other → Step limits σ h other fs υ
    → x ++ a ≡ y ++ b → (x ≡ y) × (a ≡ b) × (es ≡ fs) × (τ ≡ υ)
one_message {limits} {σ = σ} {υ = υ} {x = x} {y = y} {m = m} {n = n} {body = body} {other = other} {g = g} {h = h} {fs = fs} a b f p k q e =
    let same = frame_one x y m n body other a b g h f k e in
    let step = step_one p (subst (λ z. Step limits σ z body fs υ) (sym same.same_head)
    (subst (λ z. Step limits σ h z fs υ) (sym same.same_body) q)) in
    (same.same_bytes, same.same_rest, step.0, step.1)

-- messages over the same bytes of which one reports the events of the other and more: they go on after those
record GoesOn (limits : Limits) (x y : List ℕ) (τ υ : State) (events : List MessageEvent) : Type 0 where
  pub rest : List ℕ
  pub joined : y ≡ x ++ rest
  pub run : Run limits τ rest events υ

run_on : {limits : Limits} → {σ τ υ : State} {x y : List ℕ} {es gs : List MessageEvent} (a b : List ℕ) (fs : List MessageEvent)
    → Run limits σ x es τ → Run limits σ y gs υ → gs ≡ es ++ fs → fs ≢ [] → x ++ a ≡ y ++ b → GoesOn limits x y τ υ fs
run_on {limits} {σ = σ} {υ = υ} {y = y} a b fs done q is some e =
    record { rest = y; joined = refl; run = subst (λ gs. Run limits σ y gs υ) is q }
run_on a b fs (more {es = es} {fs = hs} f p q) done is some e = absurd (some (nil_from_length fs (omega (
  arith,
  ap length is,
  length-append (es ++ hs) fs,
))))
run_on {limits} a b fs (more {x = x} {y = y} {es = es} {fs = hs} f p q)
    (more {υ = υ'} {x = x'} {y = y'} {es = es'} {fs = hs'} f' p' q') is some e =
    let one = one_message (y ++ a) (y' ++ b) f p f' p' (sym (append_assoc x y a) ∙ (e ∙ append_assoc x' y' b)) in
    let events : hs' ≡ hs ++ fs =
    append_cancel_left es' hs' (hs ++ fs) (is ∙ (append_assoc es hs fs ∙ ap (λ l. l ++ (hs ++ fs)) one.2)) in
    let on = run_on a b fs q (subst (λ z. Run limits z y' hs' υ') (sym one.3) q') events some one.1 in
    let joined = ap (λ l. x' ++ l) on.joined ∙ (ap (λ l. l ++ (y ++ on.rest)) (sym one.0) ∙ sym (append_assoc x y on.rest)) in
    record { rest = on.rest; joined = joined; run = on.run }

-- messages whose events begin with those of one message begin with that message
message_on : {limits : Limits} → {σ τ υ : State} {x y : List ℕ} {es gs : List MessageEvent} (a b : List ℕ) (fs : List MessageEvent)
    → IsMessage limits σ x es τ → es ≢ [] → Run limits σ y gs υ → gs ≡ es ++ fs → x ++ a ≡ y ++ b → GoesOn limits x y τ υ fs
message_on {es = es} a b fs one some done is e = absurd (some (nil_from_length es (omega (arith, ap length is, length-append es fs))))
message_on {limits} {τ = τ} a b fs message some (more {υ = υ'} {x = x'} {y = y'} {es = es'} {fs = hs'} f' p' q') is e =
    let one = one_message a (y' ++ b) message.frame message.step f' p' (e ∙ append_assoc x' y' b) in
    let events : hs' ≡ fs = append_cancel_left es' hs' fs (is ∙ ap (λ l. l ++ fs) one.2) in
    let run = subst (λ gs. Run limits τ y' gs υ') events (subst (λ z. Run limits z y' hs' υ') (sym one.3) q') in
    record { rest = y'; joined = ap (λ l. l ++ y') (sym one.0); run = run }

nothing_after : (x u v : List ℕ) → x ++ [] ≡ (x ++ u) ++ v → v ≡ []
nothing_after x u v e = nil_from_length v (omega (
  arith,
  ap length e,
  length-append x ([]),
  length-append (x ++ u) v,
  length-append x u,
))

-- no messages are shorter than none
pub none_shorter : {limits : Limits} → (σ : State) → AreShortest limits σ [] []
none_shorter σ = λ y z τ is run. nil_from_length z (omega (arith, ap length is, length-append y z))

-- messages that end with the one of their last event
pub last_shortest : {limits : Limits} → (σ τ υ : State) (x y : List ℕ) (es : List MessageEvent) (e : MessageEvent) → Run limits σ x es τ
    → ReportsLastEvent limits τ y e υ → AreShortest limits σ (x ++ y) (es ++ e ∷ [])
last_shortest {limits} σ τ υ x y es e run t = λ u v ω is other.
    let front : Run limits σ (x ++ t.silent) es t.between =
    subst (λ l. Run limits σ (x ++ t.silent) l t.between) (append-nil es) (run_then σ τ t.between x t.silent es [] run t.run) in
    let all : (x ++ t.silent) ++ t.message ≡ u ++ v =
    append_assoc x t.silent t.message ∙ (ap (λ l. x ++ l) (sym t.joined) ∙ is) in
    let on = run_on t.message v (e ∷ []) front other refl (λ none. absurd (cc)) all in
    let left : t.message ≡ on.rest ++ v = append_cancel_left (x ++ t.silent) t.message (on.rest ++ v)
    (all ∙ (ap (λ l. l ++ v) on.joined ∙ append_assoc (x ++ t.silent) on.rest v)) in
    let last = message_on [] v [] t.report (λ none. absurd (cc)) on.run (sym (append-nil (e ∷ []))) (append-nil t.message ∙ left) in
    nothing_after t.message last.rest v (append-nil t.message ∙ (left ∙ ap (λ l. l ++ v) last.joined))

-- a dictionary that was set stays in force
HasDictionary : State → Type 0
HasDictionary None = ⊥
HasDictionary (Some o) = o.dictionaries ≢ []

some_put : (d : List (ℤ × DictionaryInForce)) (id : ℤ) (v : DictionaryInForce) → put d id v ≢ []
some_put [] id v = λ none. absurd (cc)
some_put (e ∷ es) id v =
    elim (int_cmp id e.0) as (λ o. match_ordering o ((id, v) ∷ e ∷ es) ((e.0, v) ∷ es) (e ∷ insert_entry int_cmp es id v) ≢ [])
    [ Less ↦ λ none. absurd (cc) | Equal ↦ λ none. absurd (cc) | Greater ↦ λ none. absurd (cc) ]

stays_set : {limits : Limits} → {σ τ : State} {x : List ℕ} {es : List MessageEvent} → Run limits σ x es τ → HasDictionary σ
    → HasDictionary τ
unfolding HasDictionary
stays_set done has = has
stays_set (more f schema_message q) has = absurd has
stays_set (more f (record_batch r) q) has = stays_set q has
stays_set (more f (dictionary_batch {o = o} {id = id} {body = body} {rows = rows} found r) q) has =
    stays_set q (some_put o.dictionaries id (record { values = map first_of rows; bytes = length body }))

-- messages without an event set dictionaries
silent_none : {limits : Limits} → {σ τ : State} {x : List ℕ} {es : List MessageEvent} → Run limits σ x es τ → es ≡ []
    → (HasDictionary τ → ⊥) → x ≡ []
unfolding HasDictionary
silent_none done silent none = refl
silent_none (more f schema_message q) silent none = absurd (cc)
silent_none (more f (record_batch r) q) silent none = absurd (cc)
silent_none (more f (dictionary_batch {o = o} {id = id} {body = body} {rows = rows} found r) q) silent none =
    absurd (none (stays_set q (some_put o.dictionaries id (record { values = map first_of rows; bytes = length body }))))

-- no bytes are no message
same_state : {limits : Limits} → {σ τ : State} {x : List ℕ} {es : List MessageEvent} → Run limits σ x es τ → x ≡ [] → σ ≡ τ
same_state done is = refl
same_state (more {x = x} {y = y} f p q) is = absurd (omega (arith, f.prefix, length-append x y, ap length is))

-- what is read of a stream before its first batch is one message, where no dictionary is in force
one_opens : {limits : Limits} → {σ τ : State} {x : List ℕ} {es : List MessageEvent} → Run limits σ x es τ → (s : Schema) (p : InForce)
    → σ ≡ None → τ ≡ Some p → es ≡ schema s ∷ [] → p.dictionaries ≡ [] → IsMessage limits None x (schema s ∷ []) (Some p)
unfolding HasDictionary
one_opens done s p from to events none = absurd (cc)
one_opens {limits} (more {υ = υ} {x = x} {metadata = m} {body = body} {y = y} {h = g} {fs = fs} f (schema_message {s = t}) q) s p from to
    events none =
    let silent : fs ≡ [] = cc in
    let head : schema t ≡ schema s = cc in
    let same : t ≡ s = cc in
    let bare : HasDictionary υ → ⊥ = λ has. subst HasDictionary to has none in
    let empty = silent_none q silent bare in
    let state = same_state q empty ∙ to in
    record {
      metadata = m;
      head = g;
      body = body;
      frame = subst (λ z. Encapsulates limits z m g body) (sym (append-nil x) ∙ ap (λ z. x ++ z) (sym empty)) f;
      step = subst (λ z. Step limits None g body (schema z ∷ []) (Some p)) same
          (subst (λ z. Step limits None g body (schema t ∷ []) z) state schema_message);
    }
one_opens (more f (record_batch r) q) s p from to events none = absurd (cc)
one_opens (more f (dictionary_batch found r) q) s p from to events none = absurd (cc)

-- the message of a schema, and the shortest messages after it
pub opened_shortest : {limits : Limits} → (s : Schema) (p : InForce) (x y : List ℕ) (es : List MessageEvent)
    → Run limits None x (schema s ∷ []) (Some p) → p.dictionaries ≡ [] → AreShortest limits (Some p) y es
    → AreShortest limits None (x ++ y) (schema s ∷ es)
opened_shortest s p x y es run none shortest = λ u v ω is other.
    let one = one_opens run s p refl refl refl none in
    let on = message_on y v es one (λ empty. absurd (cc)) other refl is in
    let left : y ≡ on.rest ++ v =
    append_cancel_left x y (on.rest ++ v) (is ∙ (ap (λ l. l ++ v) on.joined ∙ append_assoc x on.rest v)) in
    shortest on.rest v ω left on.run
