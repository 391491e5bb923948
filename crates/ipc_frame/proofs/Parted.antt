-- From the parts of a message to what its bytes say.
use Rattle.std.proofs.Common.{◌≡◌, ◌∙◌, refl, sym, ap, subst, ℕ, ◌+◌, ◌-◌, ◌<◌, ◌≤◌, inr, List, [], ◌++◌, length, take, drop}
use Rattle.std.proofs.Common.{length-append, arith}
use Rattle.std.specs.Prelude.{slice_range, pos}
use Rattle.std.proofs.lemmas.List.{append-nil, take_all, take_at, drop_at}
use Rattle.ipc_scalar.specs.Bytes.{int32}
use Rattle.ipc_model.specs.declared.fault.Fault.{Fault}
use Rattle.ipc_model.specs.declared.limits.Limits.{Limits}
use Rattle.ipc_meta.specs.declared.head.Head.{Head}
use Rattle.ipc_meta.specs.Causes.{Cause}
use Rattle.ipc_meta.specs.Heads.{HeadOf}
use Rattle.ipc_frame.specs.Buffers.{filled_bytes}
use Rattle.ipc_frame.specs.Frames.{end_of_stream, Encapsulates, Begins, Pending, in_metadata, in_body}
use Rattle.ipc_frame.specs.Sees.{RefusesMessage}
use Rattle.ipc_frame.specs.Parts.{received_bytes, InSize, InMetadata, InBody, Undecided}
use Rattle.ipc_frame.specs.declared.partial_message.PartialMessage.{PartialMessage}
use Rattle.ipc_frame.specs.declared.partial_message.Expectation.TheVariants as expectation
use Rattle.ipc_frame.proofs.Decided.{eos_of}
use Rattle.ipc_frame.proofs.Exact.{begins_longer}

-- ---- three lists, of which the first has eight bytes

module _ (limits : Limits) (s m b : List ℕ) (eight : length s ≡ 8) where
  behind_start : drop 8 (s ++ (m ++ b)) ≡ m ++ b
  behind_start = drop_at s (m ++ b) 8 eight

  long : length (s ++ (m ++ b)) ≡ 8 + length m + length b
  long = omega (arith, eight, length-append s (m ++ b), length-append m b)

  metadata_part : (n : ℕ) → n ≡ length m → slice_range (s ++ (m ++ b)) 8 (8 + n) ≡ m
  metadata_part n is =
      let size : 8 + n - 8 ≡ n = omega arith in
      ap (λ k. take k (drop 8 (s ++ (m ++ b)))) size ∙ (ap (take n) behind_start ∙ take_at m b n (sym is))

  whole_frame : (head : Head) → Begins limits s (length m) → HeadOf limits m head (length b) → Encapsulates limits (s ++ (m ++ b)) m head b
  whole_frame head begins states =
      let all = begins_longer s (m ++ b) (length m) begins in
      record { prefix = all.prefix; marked = all.marked; sized = all.sized; carried = behind_start; fits = all.fits; states = states }

  no_head : (n : ℕ) (fault : Fault) → n ≡ length m → 0 < n → Begins limits s n
      → ((head : Head) (k : ℕ) → HeadOf limits m head k → ⊥)
      → Cause limits m fault → RefusesMessage limits (s ++ (m ++ b)) fault
  no_head n fault is some begins none cause =
      let part = metadata_part n is in
      inr (record {
        size = n;
        begins = begins_longer s (m ++ b) n begins;
        some = some;
        whole = omega (arith, long, is);
        none = λ head k states. none head k (subst (λ x. HeadOf limits x head k) part states);
        cause = subst (λ x. Cause limits x fault) (sym part) cause;
      })

  awaits_metadata : (n k : ℕ) → Begins limits s n → b ≡ [] → 0 < k → length m + k ≡ n → Pending limits (s ++ (m ++ b)) k
  awaits_metadata n k begins none some is =
      in_metadata {n = n} some (omega (arith, long, ap length none)) (begins_longer s (m ++ b) n begins)

  awaits_body : (n k : ℕ) (head : Head) → Begins limits s (length m) → HeadOf limits m head n → 0 < k
      → length b + k ≡ n → Pending limits (s ++ (m ++ b)) k
  awaits_body n k head begins states some is =
      in_body {n = length m} {m = n} {head = head} some (omega (arith, long)) (begins_longer s (m ++ b) (length m) begins)
      (omega (arith, long)) (subst (λ x. HeadOf limits x head n) (sym (metadata_part (length m) refl)) states)

-- ---- the first eight bytes

alone : (p : PartialMessage) → (filled_bytes p.meta) ≡ [] → filled_bytes p.body ≡ [] → received_bytes p ≡ p.start
alone p a b = ap (λ z. p.start ++ (z ++ filled_bytes p.body)) a ∙ (ap (λ z. p.start ++ z) b ∙ append-nil p.start)

module _ (limits : Limits) (p : PartialMessage) (h : InSize p.start (filled_bytes p.meta) (filled_bytes p.body)) where
  module _ (whole : 8 ≤ length p.start) where
    begins : (n : ℕ) → int32 p.start 4 ≡ pos n → n ≤ limits.metadata → Begins limits p.start n
    begins n is fits = record { prefix = whole; marked = h.marked; sized = is; fits = fits }

    -- a size of 0 is the end mark's
    pub ends : int32 p.start 4 ≡ pos 0 → received_bytes p ≡ end_of_stream
    ends none =
        alone p h.no_metadata h.no_body ∙ (sym (take_all 8 p.start h.few)
        ∙ eos_of {limits = limits} p.start (begins 0 none (omega arith)))

    pub sized : (n : ℕ) → int32 p.start 4 ≡ pos n → n ≤ limits.metadata → 0 < n → Undecided limits p (expectation.Metadata n)
    sized n is fits some =
        let none : length (filled_bytes p.meta) ≡ 0 = ap length h.no_metadata in
        let eight : length p.start ≡ 8 = omega (arith, whole, h.few) in
        let size = begins n is fits in
        record {
          fits = record { eight = eight; begins = size; some = some; few = omega (arith, none); no_body = h.no_body };
          pending = awaits_metadata limits _ _ _ eight n _ size h.no_body (omega (arith, none)) (omega (arith, none));
        }

-- ---- the metadata

module _ (limits : Limits) (p : PartialMessage) (n : ℕ) (h : InMetadata limits p.start (filled_bytes p.meta) (filled_bytes p.body) n) where
  pub metadata_short : length (filled_bytes p.meta) < n → Undecided limits p (expectation.Metadata n)
  metadata_short short = record {
    fits = h;
    pending = awaits_metadata limits _ _ _ h.eight n _ h.begins h.no_body (omega arith) (omega arith);
  }

  module _ (whole : n ≤ length (filled_bytes p.meta)) where
    all : n ≡ length (filled_bytes p.meta)
    all = omega (arith, h.few)

    here : Begins limits p.start (length (filled_bytes p.meta))
    here = subst (λ j. Begins limits p.start j) all h.begins

    none : length (filled_bytes p.body) ≡ 0
    none = ap length h.no_body

    pub stated : (k : ℕ) (head : Head) → HeadOf limits (filled_bytes p.meta) head k → 0 < k
        → Undecided limits p (expectation.Body k)
    stated k head states some = record {
      fits = record { eight = h.eight; begins = here; head = head; states = states; few = omega (arith, none) };
      pending = awaits_body limits _ _ _ h.eight k _ head here states (omega (arith, none)) (omega (arith, none));
    }

    pub empty_body : (head : Head) → HeadOf limits (filled_bytes p.meta) head 0
        → Encapsulates limits (received_bytes p) (filled_bytes p.meta) head (filled_bytes p.body)
    empty_body head states =
        whole_frame limits _ _ _ h.eight head here (subst (λ j. HeadOf limits (filled_bytes p.meta) head j) (sym none) states)

    pub refused_metadata : (fault : Fault) → ((head : Head) (k : ℕ) → HeadOf limits (filled_bytes p.meta) head k → ⊥)
        → Cause limits (filled_bytes p.meta) fault → RefusesMessage limits (received_bytes p) fault
    refused_metadata fault states cause = no_head limits _ _ _ h.eight n fault all h.some h.begins states cause

-- ---- the body

module _ (limits : Limits) (p : PartialMessage) (n : ℕ) (h : InBody limits p.start (filled_bytes p.meta) (filled_bytes p.body) n) where
  pub body_short : length (filled_bytes p.body) < n → Undecided limits p (expectation.Body n)
  body_short short = record {
    fits = h;
    pending = awaits_body limits _ _ _ h.eight n _ h.head h.begins h.states (omega arith) (omega arith);
  }

  pub whole_body : (k : ℕ) (head : Head) → n ≤ length (filled_bytes p.body) → HeadOf limits (filled_bytes p.meta) head k → k ≡ n
      → Encapsulates limits (received_bytes p) (filled_bytes p.meta) head (filled_bytes p.body)
  whole_body k head whole states same =
      let all : k ≡ length (filled_bytes p.body) = omega (arith, h.few) in
      whole_frame limits _ _ _ h.eight head h.begins (subst (λ j. HeadOf limits (filled_bytes p.meta) head j) all states)

-- ---- no byte
