-- The first of some bytes went out to a sink.
use Rattle.std.proofs.Common.{◌≡◌, ◌∙◌, sym, subst, ℕ, ◌+◌, ◌-◌, ◌<◌, ◌≤◌}
use Rattle.std.proofs.Common.{List, length, take, drop, Option, length-drop, arith}
use Rattle.std.specs.Io.KnownBytes.{Appends}
use Rattle.std.proofs.KnownBytes.{Appends-trans}
use Rattle.std.proofs.Math.Seq.{take-add}
use Rattle.std.proofs.lemmas.List.{take_rest}

-- the first of the bytes went out, by calls that succeeded
pub record SentSome (old now : Option (List ℕ)) (failures_old failures_now : ℕ) (bytes : List ℕ) (sent : ℕ) : Type 0 where
  pub inside : sent ≤ length bytes
  pub appended : Appends old now (take sent bytes)
  pub same : failures_now ≡ failures_old
  pub works : 0 < sent → failures_now ≡ 0

-- the next k of them went out
pub sent_more : (old now new : Option (List ℕ)) (f0 f1 f2 : ℕ) (bytes : List ℕ) (sent k : ℕ) → SentSome old now f0 f1 bytes sent
    → k ≤ length (take (length bytes - sent) (drop sent bytes))
    → Appends now new (take k (take (length bytes - sent) (drop sent bytes))) → (f1 ≡ 0) × (f2 ≡ 0)
    → SentSome old new f0 f2 bytes (sent + k)
sent_more old now new f0 f1 f2 bytes sent k i few more counts =
    let rest = take_rest bytes sent in
    let fits : k ≤ length (drop sent bytes) = subst (λ (z : List ℕ). k ≤ length z) rest few in
    let appended = subst (λ (z : List ℕ). Appends now new (take k z)) rest more in
    record {
      inside = omega (arith, fits, length-drop sent bytes, i.inside);
      appended = subst (λ (z : List ℕ). Appends old new z) (sym (take-add sent k bytes))
          (Appends-trans old now new (take sent bytes) (take k (drop sent bytes)) i.appended appended);
      same = counts.1 ∙ (sym counts.0 ∙ i.same);
      works = λ some. counts.1;
    }
