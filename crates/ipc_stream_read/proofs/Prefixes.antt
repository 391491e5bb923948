-- A whole message is an undecided beginning, followed by the bytes up to the next decision.
use Rattle.std.proofs.Common.{◌≡◌, ◌∙◌, refl, sym, ap, subst, ℕ, ◌+◌, ◌-◌, ◌<◌, ◌≤◌, List, [], ◌∷◌, ◌++◌, length, take, drop}
use Rattle.std.proofs.Common.{append_assoc, length-append, arith}
use Rattle.std.specs.Prelude.{slice_range}
use Rattle.std.proofs.lemmas.List.{drop_at, length-take-le, take-append-drop, take-append-le, take_all}
use Rattle.ipc_model.specs.declared.limits.Limits.{Limits}
use Rattle.ipc_meta.specs.declared.head.Head.{Head}
use Rattle.ipc_meta.specs.Heads.{HeadOf}
use Rattle.ipc_frame.specs.Frames.{Begins, Encapsulates, in_body, in_metadata}
use Rattle.ipc_frame.proofs.Exact.{begins_longer}
use Rattle.ipc_frame.proofs.OneFrame.{front_number}
use Rattle.ipc_frame.proofs.Sized.{some_metadata}
use Rattle.ipc_stream_read.specs.Reasons.{IsUndecidedPrefix}

-- the first bytes of what begins so begin so too
begins_front : {limits : Limits} → (z c : List ℕ) (n : ℕ) → 8 ≤ length z → Begins limits (z ++ c) n → Begins limits z n
begins_front z c n long b = record {
  prefix = long;
  marked = sym (take-append-le 4 z c (omega (arith, long))) ∙ b.marked;
  sized = sym (front_number z c long) ∙ b.sized;
  fits = b.fits;
}

module _ {limits : Limits} (x metadata body : List ℕ) (head : Head) (frame : Encapsulates limits x metadata head body) where
  eight : length (take 8 x) ≡ 8
  eight = length-take-le 8 x frame.prefix

  begins : Begins limits (take 8 x) (length metadata)
  begins =
      begins_front (take 8 x) (drop 8 x) (length metadata) (omega (arith, eight))
      (subst (λ z. Begins limits z (length metadata)) (sym (take-append-drop 8 x))
      (record { prefix = frame.prefix; marked = frame.marked; sized = frame.sized; fits = frame.fits }))

  -- without a body it ends with its metadata
  to_metadata : body ≡ [] → IsUndecidedPrefix limits x
  to_metadata none = record {
    front = take 8 x;
    behind = drop 8 x;
    wants = length metadata;
    joined = sym (take-append-drop 8 x);
    undecided = in_metadata {n = length metadata} (some_metadata metadata head (length body) frame.states) (omega (arith, eight)) begins;
    few = omega (arith, ap length frame.carried, length-append metadata body, ap length none);
  }

  metadata_part : slice_range (take 8 x ++ metadata) 8 (8 + length metadata) ≡ metadata
  metadata_part =
      let fits : length metadata ≤ 8 + length metadata - 8 = omega arith in
      ap (take (8 + length metadata - 8)) (drop_at (take 8 x) metadata 8 eight) ∙ take_all (8 + length metadata - 8) metadata fits

  -- and else with its body
  to_body : 0 < length body → IsUndecidedPrefix limits x
  to_body some = record {
    front = take 8 x ++ metadata;
    behind = body;
    wants = length body;
    joined = sym (take-append-drop 8 x) ∙ (ap (λ z. take 8 x ++ z) frame.carried ∙ sym (append_assoc (take 8 x) metadata body));
    undecided = in_body {n = length metadata} {m = length body} {head = head} some
        (omega (arith, eight, length-append (take 8 x) metadata)) (begins_longer (take 8 x) metadata (length metadata) begins)
        (omega (arith, eight, length-append (take 8 x) metadata))
        (subst (λ z. HeadOf limits z head (length body)) (sym metadata_part) frame.states);
    few = omega arith;
  }

  -- a message is so
  pub undecided_frame : IsUndecidedPrefix limits x
  undecided_frame = by_body body refl
    where
      by_body : (b : List ℕ) → body ≡ b → IsUndecidedPrefix limits x
      by_body [] is = to_metadata is
      by_body (b ∷ bs) is = to_body (omega (arith, ap length is))
