-- The nodes and buffers of columns one after another.
use Rattle.std.proofs.Common.{◌≡◌, ◌∙◌, refl, sym, ap, ℕ, ℤ, zero, suc, ◌+◌, ◌-◌, ◌*◌}
use Rattle.std.proofs.Common.{◌≤◌, ◌<◌, ◌^◌, inl, inr, subst, List, [], ◌∷◌, length, take, drop, arith}
use Rattle.std.proofs.lemmas.Bool.Decides.{leb_tells}
use Rattle.ipc_model.specs.Entries.{entries}
use Rattle.ipc_model.specs.declared.limits.Limits.{Limits}
use Rattle.ipc_model.specs.declared.schema.Field.{Field}
use Rattle.ipc_meta.specs.declared.head.BatchHead.{BatchHead}
use Rattle.ipc_column.specs.Shapes.{buffer_count, node_count, shape_of}
use Rattle.ipc_column.proofs.Entries.{nodes_are_entries}
use Rattle.ipc_column.proofs.Fields.{buffers_most}
use Rattle.job_explain.specs.ColumnsAlone.{buffers_before, column, column_head, nodes_before, sublist}

one_column : (fs : List Field) (i : ℕ) → column fs i ≡ take 1 (drop i fs)
one_column fs i =
    let one : (i + 1) - i ≡ 1 = omega arith in
    ap (λ n. take n (drop i fs)) one

nodes_next : (fs : List Field) (i : ℕ)
    → node_count (shape_of (take (suc i) fs)) ≡ node_count (shape_of (take i fs)) + node_count (shape_of (take 1 (drop i fs)))
unfolding node_count
nodes_next [] zero = refl
nodes_next [] (suc i) = refl
nodes_next (f ∷ fs) zero = omega arith
nodes_next (f ∷ fs) (suc i) = omega (arith, nodes_next fs i)

buffers_next : (fs : List Field) (i : ℕ)
    → buffer_count (shape_of (take (suc i) fs)) ≡ buffer_count (shape_of (take i fs)) + buffer_count (shape_of (take 1 (drop i fs)))
unfolding buffer_count
buffers_next [] zero = refl
buffers_next [] (suc i) = refl
buffers_next (f ∷ fs) zero = omega arith
buffers_next (f ∷ fs) (suc i) = omega (arith, buffers_next fs i)

-- the nodes and buffers of a column follow those of the columns before it
pub nodes_step : (fs : List Field) (i : ℕ) → nodes_before fs (i + 1) ≡ nodes_before fs i + node_count (shape_of (column fs i))
nodes_step fs i =
    let next : i + 1 ≡ suc i = omega arith in
    ap (λ n. node_count (shape_of (take n fs))) next ∙ nodes_next fs i
    ∙ ap (λ (c : List Field). nodes_before fs i + node_count (shape_of c)) (sym (one_column fs i))

pub buffers_step : (fs : List Field) (i : ℕ)
    → buffers_before fs (i + 1) ≡ buffers_before fs i + buffer_count (shape_of (column fs i))
buffers_step fs i =
    let next : i + 1 ≡ suc i = omega arith in
    ap (λ n. buffer_count (shape_of (take n fs))) next ∙ buffers_next fs i
    ∙ ap (λ (c : List Field). buffers_before fs i + buffer_count (shape_of c)) (sym (one_column fs i))

-- some columns have no more nodes and buffers than all
pub nodes_most : (fs : List Field) (i : ℕ) → nodes_before fs i ≤ node_count (shape_of fs)
unfolding node_count
nodes_most [] zero = omega arith
nodes_most [] (suc i) = omega arith
nodes_most (f ∷ fs) zero = omega arith
nodes_most (f ∷ fs) (suc i) = omega (arith, nodes_most fs i)

pub buffers_before_most : (fs : List Field) (i : ℕ) → buffers_before fs i ≤ buffer_count (shape_of fs)
unfolding buffer_count
buffers_before_most [] zero = omega arith
buffers_before_most [] (suc i) = omega arith
buffers_before_most (f ∷ fs) zero = omega arith
buffers_before_most (f ∷ fs) (suc i) = omega (arith, buffers_before_most fs i)

-- one column is no more fields than all are
pub column_few : (fs : List Field) (i most : ℕ) → length (entries fs) ≤ most → length (entries (column fs i)) ≤ most
column_few fs i most few =
    omega (arith, nodes_are_entries fs, nodes_are_entries (column fs i), nodes_step fs i, nodes_most fs (i + 1), few)

-- fields within the limits have few nodes and buffers
pub nodes_few : (limits : Limits) (fs : List Field) → length (entries fs) ≤ limits.fields → node_count (shape_of fs) ≤ 2 ^ 20
nodes_few limits fs few = omega (arith, nodes_are_entries fs, few, limits.fields_fit)

pub buffers_few : (limits : Limits) (fs : List Field) → length (entries fs) ≤ limits.fields
    → buffer_count (shape_of fs) ≤ 3 * 2 ^ 20
buffers_few limits fs few = omega (arith, nodes_few limits fs few, buffers_most (shape_of fs))

-- no columns have no nodes and no buffers
pub nodes_none : (fs : List Field) → 0 ≡ nodes_before fs 0
unfolding node_count
nodes_none fs = refl

pub buffers_none : (fs : List Field) → 0 ≡ buffers_before fs 0
unfolding buffer_count
buffers_none fs = refl

-- the metadata of a batch of one column, whose nodes and buffers are between these places
pub head_of_column : (fs : List Field) (head : BatchHead) (i a b next_a next_b : ℕ) (nodes buffers : List (ℤ × ℤ))
    → a ≡ nodes_before fs i → b ≡ buffers_before fs i
    → next_a ≡ a + node_count (shape_of (column fs i)) → next_b ≡ b + buffer_count (shape_of (column fs i))
    → nodes ≡ sublist head.nodes a next_a → buffers ≡ sublist head.buffers b next_b
    → column_head fs head i ≡ record { length = head.length; nodes = nodes; buffers = buffers }
head_of_column fs head i a b next_a next_b nodes buffers ea eb na nb en fb =
    let end_a : next_a ≡ nodes_before fs (i + 1) =
    na ∙ ap (λ n. n + node_count (shape_of (column fs i))) ea ∙ sym (nodes_step fs i) in
    let end_b : next_b ≡ buffers_before fs (i + 1) =
    nb ∙ ap (λ n. n + buffer_count (shape_of (column fs i))) eb ∙ sym (buffers_step fs i) in
    let all_nodes : sublist head.nodes (nodes_before fs i) (nodes_before fs (i + 1)) ≡ nodes =
    ap (λ x. sublist head.nodes x (nodes_before fs (i + 1))) (sym ea) ∙ ap (λ y. sublist head.nodes a y) (sym end_a) ∙ sym en in
    let all_buffers : sublist head.buffers (buffers_before fs i) (buffers_before fs (i + 1)) ≡ buffers =
    ap (λ x. sublist head.buffers x (buffers_before fs (i + 1))) (sym eb) ∙ ap (λ y. sublist head.buffers b y) (sym end_b) ∙ sym fb in
    let made : List (ℤ × ℤ) → List (ℤ × ℤ) → BatchHead = λ n m. record { length = head.length; nodes = n; buffers = m } in
    ap (λ n. made n (sublist head.buffers (buffers_before fs i) (buffers_before fs (i + 1)))) all_nodes ∙ ap (λ m. made nodes m) all_buffers

-- what holds below a number, and of the number, holds below the next one
pub next_too : (P : ℕ → Type 0) (i : ℕ) → ((j : ℕ) → j < i → P j) → P i → (j : ℕ) → j < i + 1 → P j
next_too P i all here j less = elim (leb_tells (suc j) i) [
  | inl below ↦ all j below.1
  | inr above ↦ let same : i ≡ j = omega (arith, above.1, less) in subst P same here
]
