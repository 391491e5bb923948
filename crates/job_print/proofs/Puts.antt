-- Text that was put, part by part.
use Rattle.std.proofs.Common.{◌≡◌, ◌∙◌, refl, sym, ap, subst, ℕ, ◌+◌, ◌≤◌, List, [], ◌++◌, length, take, drop, Option, Some, None}
use Rattle.std.proofs.Common.{append_assoc, append-nil, take-append-drop, arith, length-append, length-drop}
use Rattle.std.specs.Io.KnownBytes.{Appends}
use Rattle.job_print.specs.declared.line_buffer.PrintFault.{PrintFault}
use Rattle.job_print.specs.declared.line_buffer.PrintFault.TheVariants.{Write, OutOfMemory}
use Rattle.job_print.specs.Output.{Output, output, AppendsText, Puts, PutFails}

grows_none : (w : Option (List ℕ)) (kept : List ℕ) → AppendsText w kept w kept []
grows_none None kept = tt
grows_none (Some xs) kept = sym (append-nil (xs ++ kept))

-- one text and then another
pub grows_then : (a b c : Option (List ℕ)) (k0 k1 k2 t u : List ℕ) → AppendsText a k0 b k1 t → AppendsText b k1 c k2 u
    → AppendsText a k0 c k2 (t ++ u)
grows_then None b c k0 k1 k2 t u p q = tt
grows_then (Some xs) None c k0 k1 k2 t u p q = absurd p
grows_then (Some xs) (Some ys) None k0 k1 k2 t u p q = absurd q
grows_then (Some xs) (Some ys) (Some zs) k0 k1 k2 t u p q = q ∙ (ap (λ (l : List ℕ). l ++ u) p ∙ append_assoc (xs ++ k0) t u)

-- with more after what is kept, that was put too
pub grows_more : (a b : Option (List ℕ)) (k0 k1 t u : List ℕ) → AppendsText a k0 b k1 t → AppendsText a k0 b (k1 ++ u) (t ++ u)
grows_more None b k0 k1 t u p = tt
grows_more (Some xs) None k0 k1 t u p = absurd p
grows_more (Some xs) (Some ys) k0 k1 t u p = sym (append_assoc ys k1 u) ∙ (ap (λ (l : List ℕ). l ++ u) p ∙ append_assoc (xs ++ k0) t u)

grows_kept : (w : Option (List ℕ)) (k0 k1 t : List ℕ) → k1 ≡ k0 ++ t → AppendsText w k0 w k1 t
grows_kept None k0 k1 t e = tt
grows_kept (Some xs) k0 k1 t e = ap (λ (l : List ℕ). xs ++ l) e ∙ sym (append_assoc xs k0 t)

-- nothing was put
pub puts_none : (o : Output) → Puts o o []
puts_none o = record { bytes = grows_none o.written o.kept; few = omega (arith, length-append o.kept []); stayed = refl }

-- one text and then another
pub puts_then : (a b c : Output) (t u : List ℕ) → Puts a b t → Puts b c u → Puts a c (t ++ u)
puts_then a b c t u p q = record {
  bytes = grows_then a.written b.written c.written a.kept b.kept c.kept t u p.bytes q.bytes;
  few = omega (arith, p.few, q.few, length-append a.kept t, length-append b.kept u, length-append t u, length-append a.kept (t ++ u));
  stayed = q.stayed ∙ p.stayed;
}

-- a text was put, and a second one was not
pub puts_not_then : (a b : Output) (w : Option (List ℕ)) (n : ℕ) (t u : List ℕ) (e : PrintFault) → Puts a b t → PutFails b w n u e
    → PutFails a w n (t ++ u) e
puts_not_then a b w n t u e p q = record {
  behind = q.behind;
  bytes = grows_then a.written b.written w a.kept b.kept q.behind t u p.bytes q.bytes;
  few = omega (arith, p.few, q.few, length-append a.kept t, length-append b.kept u, length-append t u, length-append a.kept (t ++ u));
  failed = q.failed;
  stayed = λ other. q.stayed other ∙ p.stayed;
}

-- what was not put wasn't put with more after it
pub puts_not_more : (a : Output) (w : Option (List ℕ)) (n : ℕ) (t u : List ℕ) (e : PrintFault) → PutFails a w n t e
    → PutFails a w n (t ++ u) e
puts_not_more a w n t u e q = record {
  behind = q.behind ++ u;
  bytes = grows_more a.written w a.kept q.behind t u q.bytes;
  few = omega (
    arith,
    q.few,
    length-append q.behind u,
    length-append a.kept t,
    length-append t u,
    length-append a.kept (t ++ u),
  );
  failed = q.failed;
  stayed = q.stayed;
}

-- where the front of a text was not put, the whole text was not
pub puts_not_front : (a : Output) (w : Option (List ℕ)) (n : ℕ) (t u whole : List ℕ) (e : PrintFault) → whole ≡ t ++ u → PutFails a w n t e
    → PutFails a w n whole e
puts_not_front a w n t u whole e is q = subst (λ (x : List ℕ). PutFails a w n x e) (sym is) (puts_not_more a w n t u e q)

-- a text that is kept
pub puts_kept : (w : Option (List ℕ)) (n : ℕ) (k0 k1 t : List ℕ) → k1 ≡ k0 ++ t → Puts (output w n k0) (output w n k1) t
puts_kept w n k0 k1 t e = record { bytes = grows_kept w k0 k1 t e; few = omega (arith, ap length e); stayed = refl }

-- memory ran out before any of it was put
pub puts_never : (o : Output) (t : List ℕ) → PutFails o o.written o.failures t OutOfMemory
puts_never o t = record {
  behind = o.kept ++ t;
  bytes = subst (λ (x : List ℕ). AppendsText o.written o.kept o.written (o.kept ++ t) x) refl
      (grows_more o.written o.written o.kept o.kept [] t (grows_none o.written o.kept));
  few = omega arith;
  failed = λ is. absurd (cc);
  stayed = λ other. refl;
}

-- ---- sending

grows_sent : (a b : Option (List ℕ)) (bytes : List ℕ) (sent : ℕ) → Appends a b (take sent bytes)
    → AppendsText a bytes b (drop sent bytes) []
grows_sent None b bytes sent p = tt
grows_sent (Some xs) None bytes sent p = absurd p
grows_sent (Some xs) (Some ys) bytes sent p =
    ap (λ (l : List ℕ). l ++ drop sent bytes) p ∙ (append_assoc xs (take sent bytes) (drop sent bytes)
    ∙ (ap (λ (l : List ℕ). xs ++ l) (take-append-drop sent bytes) ∙ sym (append-nil (xs ++ bytes))))

-- the sink failed after a beginning of the bytes
pub sent_cut : (old new : Option (List ℕ)) (f0 f1 : ℕ) (bytes : List ℕ) → (n : ℕ) × Appends old new (take n bytes) → f1 ≡ 1
    → PutFails (output old f0 bytes) new f1 [] Write
sent_cut old new f0 f1 bytes (n, appended) failed = record {
  behind = drop n bytes;
  bytes = grows_sent old new bytes n appended;
  few = omega (arith, length-drop n bytes, length-append bytes []);
  failed = λ is. failed;
  stayed = λ other. absurd (other refl);
}

-- ---- how much of a text that was not put is not written

-- the text was not put, and at most this many of its bytes, and of those that were kept, are not written
abbrev pub Missing : Output → Option (List ℕ) → ℕ → List ℕ → PrintFault → ℕ → Type 0
Missing a w n t e k = (q : PutFails a w n t e) × (length q.behind ≤ k)

-- where nothing was kept, no more than the text is missing
pub missing_all : (a : Output) (w : Option (List ℕ)) (n : ℕ) (t : List ℕ) (e : PrintFault) → a.kept ≡ [] → PutFails a w n t e
    → Missing a w n t e (length t)
missing_all a w n t e none q = (q, omega (arith, q.few, ap length none, length-append a.kept t))

-- what is missing of a second text, where the first one was put
pub missing_then : (a b : Output) (w : Option (List ℕ)) (n : ℕ) (t u : List ℕ) (e : PrintFault) (k : ℕ) → Puts a b t → Missing b w n u e k
    → Missing a w n (t ++ u) e k
unfolding puts_not_then
missing_then a b w n t u e k p q = (puts_not_then a b w n t u e p q.0, q.1)

-- what is missing of a text and of more after it
pub missing_more : (a : Output) (w : Option (List ℕ)) (n : ℕ) (t u : List ℕ) (e : PrintFault) (k : ℕ) → Missing a w n t e k
    → Missing a w n (t ++ u) e (k + length u)
unfolding puts_not_more
missing_more a w n t u e k q = (puts_not_more a w n t u e q.0, omega (arith, q.1, length-append q.0.behind u))

-- and of an equal text
pub missing_at : (a : Output) (w : Option (List ℕ)) (n : ℕ) (t u : List ℕ) (e : PrintFault) (k : ℕ) → t ≡ u → Missing a w n t e k
    → Missing a w n u e k
missing_at a w n t u e k is q = subst (λ (x : List ℕ). Missing a w n x e k) is q
