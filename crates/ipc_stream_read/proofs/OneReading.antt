-- Each stream has one reading.
use Rattle.std.proofs.Common.{◌≡◌, ◌∙◌, refl, sym, ap, subst, ℕ, ◌⊎◌, inl, inr, List, [], ◌∷◌, ◌++◌, length, map, append_assoc, Some}
use Rattle.std.proofs.Common.{length-append, arith}
use Rattle.std.proofs.lemmas.List.{append-nil, append_cancel_left, append_cancel_right}
use Rattle.ipc_model.specs.declared.table.BatchRows.{BatchRows}
use Rattle.ipc_model.specs.declared.table.Table.{Table}
use Rattle.ipc_meta.specs.declared.head.Head.{Head}
use Rattle.ipc_frame.specs.Frames.{end_of_stream, Encapsulates}
use Rattle.ipc_frame.proofs.OneFrame.{frame_one, no_frame_at_end}
use Rattle.ipc_model.specs.declared.value.Value.{Value}
use Rattle.ipc_column.specs.Rows.{Rows}
use Rattle.ipc_column.proofs.Laws.{one_list}
use Rattle.ipc_stream_read.specs.declared.end.End.{End}
use Rattle.ipc_stream_read.specs.declared.end.End.TheVariants.{Mark, Closed}
use Rattle.ipc_stream_read.specs.Stream.{State, MessageEvent, schema, batch, Step, schema_message, record_batch, dictionary_batch, Run}
use Rattle.ipc_stream_read.specs.Stream.{done, more, events_of, Denotes}
use Rattle.ipc_stream_read.specs.Stream.{set_dictionary}
use Rattle.ipc_model.specs.declared.limits.Limits.{Limits}

-- a message tells one list of events at most, and leaves one state
pub step_one : {limits : Limits} → {σ τ υ : State} {g : Head} {body : List ℕ} {es fs : List MessageEvent} → Step limits σ g body es τ
    → Step limits σ g body fs υ
    → (es ≡ fs) × (τ ≡ υ)
step_one schema_message schema_message = (refl, refl)
step_one (record_batch {pairs = pairs} r) (record_batch q) =
    (ap (λ rows. batch (record { pairs = pairs; rows = rows }) ∷ []) (one_list _ _ _ _ _ _ _ _ r q), refl)
step_one {limits} (dictionary_batch {o = o} {id = id} {b = b} {body = body} {columns = columns} {rows = rows} found r)
    (dictionary_batch {columns = others} {rows = others_rows} known q) =
    let same : columns ≡ others = (let both : Some columns ≡ Some others = sym found ∙ known in cc) in
    let here : Rows limits [] columns b body others_rows = subst (λ c. Rows limits [] c b body others_rows) (sym same) q in
    (refl, ap (λ (z : List (List Value)). Some (set_dictionary o id z (length body))) (one_list _ _ _ _ _ _ _ _ r here))

-- where a run of messages may stop: at the end, or before the end mark
abbrev pub IsStop : List ℕ → Type 0
IsStop a = (a ≡ []) ⊎ ((c : List ℕ) × (a ≡ end_of_stream ++ c))

-- no message begins where a run stops
pub frame_stop : {limits : Limits} → (x m body u a : List ℕ) (g : Head) → Encapsulates limits x m g body → x ++ u ≡ a → IsStop a → ⊥
frame_stop x m body u a g f e (inl none) = omega (arith, f.prefix, length-append x u, ap length e, ap length none)
frame_stop x m body u a g f e (inr (c, is)) = no_frame_at_end x m body u c g f (e ∙ is)

-- of two runs over the same bytes the second goes on with these messages where the first ends
pub record GoesOn (limits : Limits) (σ τ : State) (es fs : List MessageEvent) (a b : List ℕ) : Type 0 where
  pub bytes : List ℕ
  pub events : List MessageEvent
  pub run : Run limits σ bytes events τ
  pub rest : a ≡ bytes ++ b
  pub told : fs ≡ es ++ events

-- of two runs over the same bytes one goes on where the other ends
pub overlap : {limits : Limits} → {σ τ υ : State} {x y : List ℕ} {es fs : List MessageEvent} (a b : List ℕ) → Run limits σ x es τ
    → Run limits σ y fs υ → x ++ a ≡ y ++ b → GoesOn limits τ υ es fs a b ⊎ GoesOn limits υ τ fs es b a
overlap {y = y} {fs = fs} a b done q e = inl (record { bytes = y; events = fs; run = q; rest = e; told = refl })
overlap {limits} a b (more {x = x} {y = y} {es = es} {fs = fs} f p q) done e =
    inr (record { bytes = x ++ y; events = es ++ fs; run = more f p q; rest = sym e; told = refl })
overlap {limits} a b (more {σ = σ} {τ = τ} {υ = υ} {x = x} {metadata = m} {body = body} {y = y} {h = g} {es = es} {fs = fs} f p q)
    (more {τ = τ'} {υ = υ'} {x = x'} {metadata = m'} {body = body'} {y = y'} {h = g'} {es = es'} {fs = fs'} f' p' q') e =
    let same = frame_one x x' m m' body body' (y ++ a) (y' ++ b) g g' f f' (sym (append_assoc x y a) ∙ (e ∙ append_assoc x' y' b)) in
    let other : Step limits σ g body es' τ' = subst (λ z. Step limits σ z body es' τ') (sym same.same_head)
    (subst (λ z. Step limits σ g' z es' τ') (sym same.same_body) p') in
    let step = step_one p other in
    let later = overlap a b q (subst (λ z. Run limits z y' fs' υ') (sym step.1) q') same.same_rest in
    elim later [
      | inl k ↦ inl (record {
        bytes = k.bytes;
        events = k.events;
        run = k.run;
        rest = k.rest;
        told =
            ap (λ l. es' ++ l) k.told ∙ (sym (append_assoc es' fs k.events) ∙ ap (λ l. (l ++ fs) ++ k.events) (sym step.0));
      })
      | inr k ↦ inr (record {
        bytes = k.bytes;
        events = k.events;
        run = k.run;
        rest = k.rest;
        told =
            ap (λ l. l ++ fs) step.0 ∙ (ap (λ l. es' ++ l) k.told ∙ sym (append_assoc es' fs' k.events));
      })
    ]

-- two runs tell the same events and leave the same rest and the same state
pub record SameEnd (σ τ : State) (a b : List ℕ) (es fs : List MessageEvent) : Type 0 where
  pub rest : a ≡ b
  pub events : es ≡ fs
  pub state : σ ≡ τ

no_more : {limits : Limits} → {σ τ : State} {x : List ℕ} {ds : List MessageEvent} (a b : List ℕ) → Run limits σ x ds τ → a ≡ x ++ b
    → IsStop a → SameEnd σ τ a b ds []
no_more a b done rest stop = record { rest = rest; events = refl; state = refl }
no_more a b (more {x = x} {metadata = m} {body = body} {y = y} {h = h} f p q) rest stop =
    absurd (frame_stop x m body (y ++ b) a h f (sym (append_assoc x y b) ∙ sym rest) stop)

-- no run goes on where the other may stop
pub stops_there : {limits : Limits} → {σ τ : State} {es fs : List MessageEvent} {a b : List ℕ} → GoesOn limits σ τ es fs a b → IsStop a
    → SameEnd σ τ a b es fs
stops_there {es = es} {a = a} {b = b} g stop =
    let same = no_more a b g.run g.rest stop in
    record { rest = same.rest; events = sym (g.told ∙ (ap (λ l. es ++ l) same.events ∙ append-nil es)); state = same.state }

-- two runs of messages over the same bytes are the same bytes, tell the same events and leave the same rest
pub record SameRun (x y a b : List ℕ) (es fs : List MessageEvent) : Type 0 where
  pub bytes : x ≡ y
  pub rest : a ≡ b
  pub events : es ≡ fs

-- of the messages from a state on there is one run at most up to where it may stop
pub one_run : {limits : Limits} → {σ τ υ : State} {x y : List ℕ} {es fs : List MessageEvent} (a b : List ℕ) → Run limits σ x es τ
    → Run limits σ y fs υ → IsStop a → IsStop b → x ++ a ≡ y ++ b → SameRun x y a b es fs
one_run {x = x} {y = y} {es = es} {fs = fs} a b r q s t e = elim (overlap a b r q e) [
  | inl g ↦ let same = stops_there g s in by_rest same.rest same.events
  | inr g ↦ let same = stops_there g t in by_rest (sym same.rest) (sym same.events)
]
  where
    by_rest : a ≡ b → es ≡ fs → SameRun x y a b es fs
    by_rest rest events = record {
      bytes = append_cancel_right x y b (ap (λ l. x ++ l) (sym rest) ∙ e);
      rest = rest;
      events = events;
    }

-- events tell the table
batches_same : (xs ys : List BatchRows) → map batch xs ≡ map batch ys → xs ≡ ys
batches_same [] [] e = refl
batches_same [] (y ∷ ys) e = absurd (cc)
batches_same (x ∷ xs) [] e = absurd (cc)
batches_same (x ∷ xs) (y ∷ ys) e =
    let head : batch x ≡ batch y = cc in
    let one : x ≡ y = cc in
    let tail : map batch xs ≡ map batch ys = cc in
    let rest = batches_same xs ys tail in
    cc

-- tables that tell the same events are one
pub events_same : (t u : Table) → events_of t ≡ events_of u → t ≡ u
events_same t u e =
    let head : schema t.schema ≡ schema u.schema = cc in
    let one : t.schema ≡ u.schema = cc in
    let tail : map batch t.batches ≡ map batch u.batches = cc in
    let rest = batches_same t.batches u.batches tail in
    λ i. record { schema = one i; batches = rest i }

-- a run may stop before the end mark
pub at_eos : (c : List ℕ) → IsStop (end_of_stream ++ c)
at_eos c = inr (c, refl)

-- bytes denote one table at most, and one end
pub table_same : (limits : Limits) (x : List ℕ) (t u : Table) (d e : End) → Denotes limits x t d → Denotes limits x u e → (t ≡ u) × (d ≡ e)
table_same limits x t u Closed Closed r q =
    let same = one_run [] [] r.1 q.1 (inl refl) (inl refl) refl in
    (events_same t u same.events, refl)
table_same limits x t u Mark Mark r q =
    let same = one_run end_of_stream end_of_stream r.2.1 q.2.1 (at_eos []) (at_eos []) (sym r.1 ∙ q.1) in
    (events_same t u same.events, refl)
table_same limits x t u Mark Closed r q =
    let same = one_run end_of_stream [] r.2.1 q.1 (at_eos []) (inl refl) (sym r.1 ∙ sym (append-nil x)) in
    let bad : end_of_stream ≡ [] = same.rest in absurd (cc)
table_same limits x t u Closed Mark r q =
    let same = one_run [] end_of_stream r.1 q.2.1 (inl refl) (at_eos []) (append-nil x ∙ q.1) in
    let bad : [] ≡ end_of_stream = same.rest in absurd (cc)

-- bytes that denote a table up to its end mark denote none with more bytes behind the mark
pub none_longer : {limits : Limits} → (x w : List ℕ) (t u : Table) (e : End) → Denotes limits x t Mark → Denotes limits (x ++ w) u e
    → w ≡ []
none_longer x w t u Closed r q =
    let all : r.0 ++ (end_of_stream ++ w) ≡ (x ++ w) ++ [] =
    sym (append_assoc r.0 end_of_stream w) ∙ (ap (λ z. z ++ w) (sym r.1) ∙ sym (append-nil (x ++ w))) in
    let same = one_run (end_of_stream ++ w) [] r.2.1 q.1 (at_eos w) (inl refl) all in
    let bad : end_of_stream ++ w ≡ [] = same.rest in absurd (cc)
none_longer x w t u Mark r q =
    let all : r.0 ++ (end_of_stream ++ w) ≡ q.0 ++ end_of_stream = sym (append_assoc r.0 end_of_stream w)
    ∙ (ap (λ z. z ++ w) (sym r.1) ∙ q.1) in
    let same = one_run (end_of_stream ++ w) end_of_stream r.2.1 q.2.1 (at_eos w) (at_eos []) all in
    append_cancel_left end_of_stream w [] (same.rest ∙ sym (append-nil end_of_stream))

-- a stream with a mark and bytes behind it are read in one way
pub front_one : {limits : Limits} → (x y rest left : List ℕ) (t u : Table) (e : End) → Denotes limits x t Mark → Denotes limits y u e
    → (e ≡ Closed → left ≡ [])
    → x ++ rest ≡ y ++ left → (u ≡ t) × (e ≡ Mark) × (left ≡ rest)
front_one x y rest left t u Mark d e all joined =
    let runs : d.0 ++ (end_of_stream ++ rest) ≡ e.0 ++ (end_of_stream ++ left) =
    sym (append_assoc d.0 end_of_stream rest) ∙ (ap (λ z. z ++ rest) (sym d.1)
    ∙ (joined ∙ (ap (λ z. z ++ left) e.1 ∙ append_assoc e.0 end_of_stream left))) in
    let same = one_run (end_of_stream ++ rest) (end_of_stream ++ left) d.2.1 e.2.1 (at_eos rest) (at_eos left) runs in
    (events_same u t (sym same.events), refl, append_cancel_left end_of_stream left rest (sym same.rest))
front_one x y rest left t u Closed d e all joined =
    let none = all refl in
    let runs : d.0 ++ (end_of_stream ++ rest) ≡ y ++ [] =
    sym (append_assoc d.0 end_of_stream rest) ∙ (ap (λ z. z ++ rest) (sym d.1) ∙ (joined ∙ ap (λ z. y ++ z) none)) in
    let same = one_run (end_of_stream ++ rest) [] d.2.1 e.1 (at_eos rest) (inl refl) runs in
    let bad : end_of_stream ++ rest ≡ [] = same.rest in absurd (cc)
