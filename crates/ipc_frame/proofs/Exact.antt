-- What no more bytes than were wanted can show.
use Rattle.std.proofs.Common.{◌≡◌, ◌∙◌, refl, sym, subst, ap, ℕ, ◌+◌, ◌-◌, ◌≤◌, inl, inr, List, [], ◌++◌, length, take, drop}
use Rattle.std.proofs.Common.{length-append, length-drop, arith}
use Rattle.std.specs.Prelude.{slice_range, pos, true, int_lt}
use Rattle.std.proofs.lemmas.List.{take-append-le, drop-append-le}
use Rattle.std.proofs.lemmas.Bool.Decides.{nat_tests}
use Rattle.ipc_scalar.specs.Bytes.{int32}
use Rattle.ipc_model.specs.declared.fault.Fault.{Fault}
use Rattle.ipc_model.specs.declared.fault.Fault.TheVariants.{NotContinued, BadMetadataLength, MetadataTooLong}
use Rattle.ipc_model.specs.declared.limits.Limits.{Limits}
use Rattle.ipc_meta.specs.Causes.{Cause}
use Rattle.ipc_meta.specs.Heads.{HeadOf}
use Rattle.ipc_frame.specs.Frames.{continuation_marker, Begins, Pending, in_mark, in_size, in_metadata, in_body}
use Rattle.ipc_frame.specs.Sees.{RefusesStart, StatesNoHead, RefusesMessage}
use Rattle.ipc_frame.specs.Decisions.{start_decision, RefusesNow}
use Rattle.ipc_frame.proofs.OneFrame.{front_number}

-- ---- what holds of a beginning holds with more bytes behind it

-- a mark stays with more bytes behind it
pub mark_longer : (z c : List ℕ) → 4 ≤ length z → take 4 z ≡ continuation_marker → take 4 (z ++ c) ≡ continuation_marker
mark_longer z c long is = take-append-le 4 z c long ∙ is

-- a mark and a size stay with more bytes behind them
pub begins_longer : {limits : Limits} → (z c : List ℕ) (n : ℕ) → Begins limits z n → Begins limits (z ++ c) n
begins_longer z c n b = record {
  prefix = omega (arith, b.prefix, length-append z c);
  marked = mark_longer z c (omega (arith, b.prefix)) b.marked;
  sized = front_number z c b.prefix ∙ b.sized;
  fits = b.fits;
}

metadata_longer : (z c : List ℕ) (n : ℕ) → 8 + n ≤ length z → slice_range (z ++ c) 8 (8 + n) ≡ slice_range z 8 (8 + n)
metadata_longer z c n whole =
    let fits : 8 + n - 8 ≤ length (drop 8 z) = omega (arith, length-drop 8 z) in
    ap (take (8 + n - 8)) (drop-append-le 8 z c (omega arith)) ∙ take-append-le (8 + n - 8) (drop 8 z) c fits

-- bytes that are refused for their start are refused for it whatever comes behind them
pub start_longer : (limits : Limits) (z c : List ℕ) (e : Fault) → RefusesStart limits z e → RefusesStart limits (z ++ c) e
start_longer limits z c NotContinued r = (omega (arith, r.0, length-append z c), λ m. r.1 (sym (take-append-le 4 z c r.0) ∙ m))
start_longer limits z c BadMetadataLength r = (
  omega (arith, r.0, length-append z c),
  mark_longer z c (omega (arith, r.0)) r.1,
  subst (λ x. int_lt x (pos 0) ≡ true) (sym (front_number z c r.0)) r.2,
)
start_longer limits z c MetadataTooLong r = (
  omega (arith, r.0, length-append z c),
  mark_longer z c (omega (arith, r.0)) r.1,
  subst (λ x. int_lt (pos limits.metadata) x ≡ true) (sym (front_number z c r.0)) r.2,
)
start_longer limits z c _ r = absurd r

-- bytes that are refused for metadata without a head are refused for it whatever comes behind them
pub no_head_longer : {limits : Limits} → (z c : List ℕ) (e : Fault) → StatesNoHead limits z e → StatesNoHead limits (z ++ c) e
no_head_longer {limits} z c e s = record {
  size = s.size;
  begins = begins_longer z c s.size s.begins;
  some = s.some;
  whole = omega (arith, s.whole, length-append z c);
  none = λ head m states. s.none head m (subst (λ x. HeadOf limits x head m) (metadata_longer z c s.size s.whole) states);
  cause = subst (λ x. Cause limits x e) (sym (metadata_longer z c s.size s.whole)) s.cause;
}

-- ---- no more than the bytes wanted

-- a size is one
pub begins_one : {limits : Limits} → (z : List ℕ) (n m : ℕ) → Begins limits z n → Begins limits z m → n ≡ m
begins_one z n m b d = let sizes : pos n ≡ pos m = sym b.sized ∙ d.sized in cc

module _ (limits : Limits) (z c : List ℕ) (k : ℕ) (few : length c ≤ k) where
  long : length (z ++ c) ≤ length z + k
  long = omega (arith, few, length-append z c)

  not_negative : (j : ℕ) → Begins limits z j → int_lt (int32 (z ++ c) 4) (pos 0) ≡ true → ⊥
  not_negative j b r = let bad : int_lt (pos j) (pos 0) ≡ true =
      subst (λ x. int_lt x (pos 0) ≡ true) (begins_longer z c j b).sized r in grind (arith, nat_tests)

  not_longer : (j : ℕ) → Begins limits z j → int_lt (pos limits.metadata) (int32 (z ++ c) 4) ≡ true → ⊥
  not_longer j b r = let bad : int_lt (pos limits.metadata) (pos j) ≡ true =
      subst (λ x. int_lt (pos limits.metadata) x ≡ true) (begins_longer z c j b).sized r in let fits = b.fits in grind (arith, nat_tests)

  start_exact : Pending limits z k → (e : Fault) → RefusesStart limits (z ++ c) e → length (z ++ c) ≡ start_decision e
  start_exact (in_mark some e) NotContinued r = omega (arith, long, r.0)
  start_exact (in_size some e l w) NotContinued r = absurd (r.1 (mark_longer z c l w))
  start_exact (in_metadata {n = j} some e b) NotContinued r = absurd (r.1 (begins_longer z c j b).marked)
  start_exact (in_body {n = j} some e b whole states) NotContinued r = absurd (r.1 (begins_longer z c j b).marked)
  start_exact (in_mark some e) BadMetadataLength r = omega (arith, long, r.0)
  start_exact (in_size some e l w) BadMetadataLength r = omega (arith, long, r.0)
  start_exact (in_metadata {n = j} some e b) BadMetadataLength r = absurd (not_negative j b r.2)
  start_exact (in_body {n = j} some e b whole states) BadMetadataLength r = absurd (not_negative j b r.2)
  start_exact (in_mark some e) MetadataTooLong r = omega (arith, long, r.0)
  start_exact (in_size some e l w) MetadataTooLong r = omega (arith, long, r.0)
  start_exact (in_metadata {n = j} some e b) MetadataTooLong r = absurd (not_longer j b r.2)
  start_exact (in_body {n = j} some e b whole states) MetadataTooLong r = absurd (not_longer j b r.2)
  start_exact p _ r = absurd r

  no_head_exact : (fault : Fault) → Pending limits z k → (s : StatesNoHead limits (z ++ c) fault) → length (z ++ c) ≡ 8 + s.size
  no_head_exact fault (in_mark some e) s = omega (arith, long, s.whole, s.some)
  no_head_exact fault (in_size some e l w) s = omega (arith, long, s.whole, s.some)
  no_head_exact fault (in_metadata {n = j} some e b) s =
      omega (arith, long, s.whole, begins_one (z ++ c) j s.size (begins_longer z c j b) s.begins)
  no_head_exact fault (in_body {n = j} {m = q} {head = h} some e b whole states) s =
      let same = begins_one (z ++ c) j s.size (begins_longer z c j b) s.begins in
      let here : HeadOf limits (slice_range (z ++ c) 8 (8 + j)) h q =
      subst (λ x. HeadOf limits x h q) (sym (metadata_longer z c j whole)) states in
      absurd (s.none h q (subst (λ i. HeadOf limits (slice_range (z ++ c) 8 (8 + i)) h q) same here))

  -- what is refused behind an undecided beginning, with at most the bytes that were wanted, is refused at its last byte
  pub refuses_now : Pending limits z k → (e : Fault) → RefusesMessage limits (z ++ c) e → RefusesNow limits (z ++ c) e
  refuses_now p e (inl r) = inl (r, start_exact p e r)
  refuses_now p e (inr s) = inr (s, no_head_exact e p s)

-- no bytes, of which four decide
pub pending_none : {limits : Limits} → Pending limits [] 4
pending_none = in_mark (omega arith) refl
