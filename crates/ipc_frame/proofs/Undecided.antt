-- What is undecided is undecided in one way, and not decided.
use Rattle.std.proofs.Common.{◌≡◌, sym, subst, ℕ, ◌+◌, inl, inr, List, [], arith}
use Rattle.std.specs.Prelude.{slice_range, pos, true, int_lt}
use Rattle.std.proofs.lemmas.List.{append-nil}
use Rattle.std.proofs.lemmas.Bool.Decides.{nat_tests}
use Rattle.ipc_model.specs.declared.fault.Fault.{Fault}
use Rattle.ipc_model.specs.declared.fault.Fault.TheVariants.{NotContinued, BadMetadataLength, MetadataTooLong}
use Rattle.ipc_model.specs.declared.limits.Limits.{Limits}
use Rattle.ipc_meta.specs.declared.head.Head.{Head}
use Rattle.ipc_meta.specs.Heads.{HeadOf}
use Rattle.ipc_meta.proofs.Unique.{head_same}
use Rattle.ipc_frame.specs.Frames.{Encapsulates, Begins, Pending, in_mark, in_size, in_metadata, in_body}
use Rattle.ipc_frame.specs.Sees.{IsFrame, RefusesStart, StatesNoHead, RefusesMessage}
use Rattle.ipc_frame.specs.declared.frame.Frame.{Frame}
use Rattle.ipc_frame.specs.declared.frame.Frame.TheVariants as f
use Rattle.ipc_frame.proofs.Decided.{pending_not_end, pending_not_frame}
use Rattle.ipc_frame.proofs.Exact.{begins_one}

-- ---- the next decision is one

stated_one : {limits : Limits} → (z : List ℕ) (n m a b : ℕ) (g k : Head) → n ≡ m → HeadOf limits (slice_range z 8 (8 + n)) g a
    → HeadOf limits (slice_range z 8 (8 + m)) k b → a ≡ b
stated_one {limits} z n m a b g k same p q =
    (head_same (slice_range z 8 (8 + m)) g k a b (subst (λ i. HeadOf limits (slice_range z 8 (8 + i)) g a) same p) q).1

-- an undecided beginning of a message lacks one number of bytes
pub pending_one : {limits : Limits} → (z : List ℕ) (j k : ℕ) → Pending limits z j → Pending limits z k → j ≡ k
pending_one z j k (in_mark s e) (in_mark t d) = omega (arith, e, d)
pending_one z j k (in_mark s e) (in_size t d l m) = omega (arith, e, d)
pending_one z j k (in_mark s e) (in_metadata t d b) = omega (arith, e, b.prefix)
pending_one z j k (in_mark s e) (in_body t d b l w) = omega (arith, e, b.prefix)
pending_one z j k (in_size s e l m) (in_mark t d) = omega (arith, e, d)
pending_one z j k (in_size s e l m) (in_size t d a b) = omega (arith, e, d)
pending_one z j k (in_size s e l m) (in_metadata t d b) = omega (arith, e, b.prefix)
pending_one z j k (in_size s e l m) (in_body t d b a w) = omega (arith, e, b.prefix)
pending_one z j k (in_metadata s e b) (in_mark t d) = omega (arith, d, b.prefix)
pending_one z j k (in_metadata s e b) (in_size t d l m) = omega (arith, d, b.prefix)
pending_one z j k (in_metadata {n = n} s e b) (in_metadata {n = m} t d a) = omega (arith, e, d, begins_one z n m b a)
pending_one z j k (in_metadata {n = n} s e b) (in_body {n = m} t d a l w) = omega (arith, e, l, begins_one z n m b a)
pending_one z j k (in_body s e b l w) (in_mark t d) = omega (arith, d, b.prefix)
pending_one z j k (in_body s e b l w) (in_size t d a m) = omega (arith, d, b.prefix)
pending_one z j k (in_body {n = n} s e b l w) (in_metadata {n = m} t d a) = omega (arith, d, l, begins_one z n m b a)
pending_one z j k (in_body {n = n} {m = a} {head = g} s e b l w) (in_body {n = m} {m = c} {head = q} t d i y v) =
    let same = begins_one z n m b i in
    omega (arith, e, d, same, stated_one z n m a c g q same w v)

-- ---- what is undecided is not decided

begins_start : {limits : Limits} → (z : List ℕ) (n : ℕ) (e : Fault) → Begins limits z n → RefusesStart limits z e → ⊥
begins_start z n NotContinued b r = r.1 b.marked
begins_start z n BadMetadataLength b r = let bad : int_lt (pos n) (pos 0) ≡ true = subst (λ x. int_lt x (pos 0) ≡ true) b.sized r.2 in
    grind (arith, nat_tests)
begins_start {limits} z n MetadataTooLong b r =
    let bad : int_lt (pos limits.metadata) (pos n) ≡ true = subst (λ x. int_lt (pos limits.metadata) x ≡ true) b.sized r.2 in
    let fits = b.fits in grind (arith, nat_tests)
begins_start z n _ b r = r

pending_start : {limits : Limits} → (z : List ℕ) (k : ℕ) (e : Fault) → Pending limits z k → RefusesStart limits z e → ⊥
pending_start z k NotContinued (in_mark s e) r = omega (arith, e, s, r.0)
pending_start z k BadMetadataLength (in_mark s e) r = omega (arith, e, s, r.0)
pending_start z k MetadataTooLong (in_mark s e) r = omega (arith, e, s, r.0)
pending_start z k NotContinued (in_size s e l m) r = r.1 m
pending_start z k BadMetadataLength (in_size s e l m) r = omega (arith, e, s, r.0)
pending_start z k MetadataTooLong (in_size s e l m) r = omega (arith, e, s, r.0)
pending_start z k c (in_metadata {n = n} s e b) r = begins_start z n c b r
pending_start z k c (in_body {n = n} s e b l w) r = begins_start z n c b r
pending_start z k _ p r = absurd r

pending_head : {limits : Limits} → (z : List ℕ) (k : ℕ) (e : Fault) → Pending limits z k → StatesNoHead limits z e → ⊥
pending_head z k c (in_mark s e) r = omega (arith, e, s, r.whole)
pending_head z k c (in_size s e l m) r = omega (arith, e, s, r.whole)
pending_head z k c (in_metadata {n = n} s e b) r = omega (arith, e, s, r.whole, begins_one z n r.size b r.begins)
pending_head {limits} z k c (in_body {n = n} {m = m} {head = g} s e b l w) r =
    r.none g m (subst (λ i. HeadOf limits (slice_range z 8 (8 + i)) g m) (begins_one z n r.size b r.begins) w)

-- an undecided beginning of a message is not refused
pub pending_refused : {limits : Limits} → (z : List ℕ) (k : ℕ) (e : Fault) → Pending limits z k → RefusesMessage limits z e → ⊥
pending_refused z k e p (inl r) = pending_start z k e p r
pending_refused z k e p (inr r) = pending_head z k e p r

-- an undecided beginning of a message is no message
pub pending_message : {limits : Limits} → (z m body : List ℕ) (g : Head) (k : ℕ) → Pending limits z k → Encapsulates limits z m g body → ⊥
pending_message {limits} z m body g k p frame =
    pending_not_frame z m body [] g k frame (subst (λ x. Pending limits x k) (sym (append-nil z)) p)

-- an undecided beginning of a message is no frame
pub pending_frame : {limits : Limits} → (z : List ℕ) (frame : Frame) (k : ℕ) → Pending limits z k → IsFrame limits z frame → ⊥
pending_frame {limits} z f.End k p is = pending_not_end [] k (subst (λ x. Pending limits x k) is p)
pending_frame z (f.Message meta g body) k p is = pending_message z meta.items body.items g k p is
