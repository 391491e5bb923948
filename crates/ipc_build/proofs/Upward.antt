-- What begins somewhere ends no earlier, and at a multiple of 4 if it begins at one.
use Rattle.std.proofs.Common.{◌≡◌, ℕ, ◌+◌, ◌*◌, ◌%◌, ◌≤◌, arith}
use Rattle.ipc_build.specs.Trees.{Content, Tree, none, field}
use Rattle.ipc_build.specs.Trees as k
use Rattle.ipc_build.specs.Layout.{targets_end, target_end, inline_end, members}

-- q is no earlier than p, and a multiple of 4 if p is one
pub record Up (p q : ℕ) : Type 0 where
  pub more : p ≤ q
  pub even : p % 4 ≡ 0 → q % 4 ≡ 0

target_up : (content : Content) (f : Tree) (g : ℕ → ℕ) → ((p : ℕ) → Up p (g p)) → (p : ℕ) → Up p (target_end content f g p)
target_up (k.byte x) f g h p = record { more = omega arith; even = λ e. e }
target_up (k.signed w z) f g h p = record { more = omega arith; even = λ e. e }
target_up (k.string s) f g h p = record { more = omega arith; even = λ e. omega arith }
target_up (k.pairs xs) f g h p = record { more = omega arith; even = λ e. omega arith }
target_up k.table f g h p = let u = h (inline_end f p) in record { more = omega (arith, u.more); even = λ e. u.even (omega arith) }
target_up k.tables f g h p = let u = h (p + 4 + 4 * members f) in record { more = omega (arith, u.more); even = λ e. u.even (omega arith) }

-- what fields point to ends no earlier than it begins, and keeps to multiples of 4
pub ends_up : (f : Tree) (p : ℕ) → Up p (targets_end f p)
unfolding targets_end
ends_up none p = record { more = omega arith; even = λ e. e }
ends_up (field n content inner rest) p =
    let u = target_up content inner (targets_end inner) (λ q. ends_up inner q) p in
    let w = ends_up rest (target_end content inner (targets_end inner) p) in
    record { more = omega (arith, u.more, w.more); even = λ e. w.even (u.even e) }

-- what one field points to ends no earlier than it begins, and keeps to multiples of 4
pub target_ends_up : (content : Content) (f : Tree) (p : ℕ) → Up p (target_end content f (targets_end f) p)
target_ends_up content f p = target_up content f (targets_end f) (λ q. ends_up f q) p
