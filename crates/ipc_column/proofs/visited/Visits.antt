-- No more slots are visited than the nodes have.
use Rattle.std.proofs.Common.{◌≡◌, refl, ℕ, zero, suc, ◌+◌, ◌*◌, ◌<◌, ◌≤◌, Bool, true, false, cond, List, [], ◌∷◌, length, drop, get_or}
use Rattle.std.proofs.Common.{arith, add-one, drop-cons}
use Rattle.std.specs.Prelude.{◌^◌, ℤ, pos, negsuc, unsigned_abs}
use Rattle.std.proofs.lemmas.Bool.{and_parts, leb-true}
use Rattle.ipc_meta.specs.declared.head.BatchHead.{BatchHead}
use Rattle.ipc_column.specs.Dictionaries.{Dictionaries}
use Rattle.ipc_column.specs.checks.Rules.{has_slot_visits, visits_in, count_or_zero, total_slots}
use Rattle.ipc_column.specs.Shapes.{Shape, bare, field, assigned_columns, column_at, node_count, buffer_count, node_at}
use Rattle.ipc_column.specs.checks.Checks.{all, is_node, is_slot_count}
use Rattle.ipc_model.specs.Layouts.{own_buffers}
use Rattle.ipc_model.specs.declared.limits.Limits.{Limits}

all_at : {X : Type 0} (f : X → Bool) (xs : List X) (i : ℕ) (d : X) → all f xs ≡ true → i < length xs → f (get_or xs i d) ≡ true
all_at f [] i d h l = absurd (omega arith)
all_at f (x ∷ xs) zero d h l = (and_parts _ _ h).0
all_at f (x ∷ xs) (suc i) d h l = all_at f xs i d (and_parts _ _ h).1 (omega arith)

count_is : (limits : Limits) (z : ℤ) → is_slot_count limits z ≡ true → unsigned_abs z ≡ count_or_zero z
count_is limits (pos n) h = refl
count_is limits (negsuc n) h = absurd (cc)

count-lt : (limits : Limits) (z : ℤ) → is_slot_count limits z ≡ true → count_or_zero z < 2 ^ 31
count-lt limits (pos n) h = let most = leb-true n limits.slots (and_parts _ _ h).1 in omega (arith, most)
count-lt limits (negsuc n) h = absurd (cc)

-- the slots of nodes from one on
slots_from : (nodes : List (ℤ × ℤ)) (n : ℕ) → n < length nodes
    → total_slots (drop n nodes) ≡ count_or_zero (get_or nodes n (pos 0, pos 0)).0 + total_slots (drop (n + 1) nodes)
slots_from nodes n l = rw (drop-cons nodes n (pos 0, pos 0), add-one) refl

own_most : (b : Bool) (n : ℕ) → cond b n 0 ≤ n
own_most true n = omega arith
own_most false n = omega arith

visits_cut : (limits : Limits) (m : Dictionaries) (s : Shape) (head : BatchHead) (body : List ℕ) (n b : ℕ)
    → all (is_node limits) head.nodes ≡ true
    → n + node_count s ≤ length head.nodes
    → visits_in (assigned_columns m s head body n b) + total_slots (drop (n + node_count s) head.nodes) ≤ total_slots (drop n head.nodes)
unfolding assigned_columns node_count
visits_cut limits m bare head body n b h l = let e : n + 0 ≡ n = omega arith in rw e (omega arith)
visits_cut limits m (field layout children rest) head body n b h l =
    let here = slots_from head.nodes n (omega arith) in
    let node = (and_parts _ _ (all_at (is_node limits) head.nodes n (pos 0, pos 0) h (omega arith))).0 in
    let own = own_most (has_slot_visits (column_at m layout head body n b) (assigned_columns m children head body (n + 1)
    (b + own_buffers layout)))
    (unsigned_abs (node_at head n).0) in
    let count = count_is limits (node_at head n).0 node in
    let below = visits_cut limits m children head body (n + 1) (b + own_buffers layout) h (omega arith) in
    let after = visits_cut limits m rest head body (n + 1 + node_count children) (b + own_buffers layout + buffer_count children) h
    (omega arith)
    in
    let end : n + (1 + node_count children + node_count rest) ≡ n + 1 + node_count children + node_count rest = omega arith in
    rw end (omega (arith, here, own, count, below, after))

-- the slots of the nodes
pub visits_most : (limits : Limits) (m : Dictionaries) (s : Shape) (head : BatchHead) (body : List ℕ)
    → all (is_node limits) head.nodes ≡ true
    → node_count s ≤ length head.nodes
    → visits_in (assigned_columns m s head body 0 0) ≤ total_slots head.nodes
visits_most limits m s head body h l = omega (arith, visits_cut limits m s head body 0 0 h (omega arith))

-- nodes have at most 2^31 slots each
pub slots_most : (limits : Limits) (nodes : List (ℤ × ℤ)) → all (is_node limits) nodes ≡ true → total_slots nodes ≤ 2 ^ 31 * length nodes
slots_most limits [] h = omega arith
slots_most limits (node ∷ nodes) h =
    let p = and_parts _ _ h in
    let few = count-lt limits node.0 (and_parts _ _ p.0).0 in
    let rest = slots_most limits nodes p.1 in
    omega (arith, few, rest)
