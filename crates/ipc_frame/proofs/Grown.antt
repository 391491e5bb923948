-- The room of buffers, which grows as bytes come.
use Rattle.std.proofs.Common.{◌≡◌, ap, ℕ, ◌≤◌, List, ◌++◌, length, length-append, arith, Option, Some, None, Result, Ok}
use Rattle.std.proofs.Common.{Err}
use Rattle.std.specs.Prelude.{IfSome, MatchResult}
use Rattle.ipc_model.specs.declared.fault.Fault.{Fault}
use Rattle.ipc_model.specs.declared.limits.Limits.{Limits}
use Rattle.ipc_frame.specs.Parts.{Capacity, GrowsWithBytes, no_capacity}
use Rattle.ipc_frame.specs.Pieces.{Concludes, Progress, held_of}
use Rattle.ipc_frame.specs.declared.frame.Frame.{Frame}

-- room that stays
pub grows_same : (a : Capacity) (n : ℕ) → GrowsWithBytes a a n
grows_same a n = record { metadata = omega arith; body = omega arith }

-- no room
pub grows_none : (a b : Capacity) (n : ℕ) → b ≡ no_capacity → GrowsWithBytes a b n
grows_none a b n none = record {
  metadata = omega (arith, ap (λ c. c.metadata) none);
  body = omega (arith, ap (λ c. c.body) none);
}

-- room grows on, as more bytes come
pub grows_on : (a b c : Capacity) (j k : ℕ) → j ≤ k → GrowsWithBytes a b j → GrowsWithBytes b c k → GrowsWithBytes a c k
grows_on a b c j k more g h = record {
  metadata = omega (arith, more, g.metadata, h.metadata);
  body = omega (arith, more, g.body, h.body);
}

-- bytes with more behind them are no fewer
pub no_fewer : (z x c : List ℕ) → z ≡ x ++ c → length x ≤ length z
no_fewer z x c is = omega (arith, ap length is, length-append x c)

-- what was decided leaves the room that it found, or none
pub grows_concluded : (limits : Limits) (old mid new : Capacity) (z : List ℕ) (q : Progress) (r : Result (Option Frame) Fault)
    → GrowsWithBytes old mid (length z) → GrowsWithBytes mid new 0 → Concludes limits z q r
    → MatchResult r (λ found. IfSome found (λ _. new ≡ no_capacity)) (λ _. new ≡ no_capacity) → GrowsWithBytes old new (held_of q)
grows_concluded limits old mid new z q (Ok None) g h k moved = rw k.0 (record {
  metadata = omega (arith, g.metadata, h.metadata);
  body = omega (arith, g.body, h.body);
})
grows_concluded limits old mid new z q (Ok (Some frame)) g h k moved = grows_none _ _ _ moved
grows_concluded limits old mid new z q (Err fault) g h k moved = grows_none _ _ _ moved
