-- Columns that are written, cut out of the body again.
use Rattle.std.proofs.Common.{◌≡◌, ◌∙◌, refl, ap, ℕ, suc, ◌+◌, ◌-◌, ◌<◌, List, [], ◌∷◌, ◌++◌, length, get_or, length-append, arith}
use Rattle.std.specs.Prelude.{ℤ, pos, unsigned_abs}
use Rattle.std.proofs.lemmas.List.{get_or-append_right}
use Rattle.std.proofs.Math.ListN.{get_or-append}
use Rattle.ipc_model.specs.declared.value.Value.{Value}
use Rattle.ipc_meta.specs.declared.head.BatchHead.{BatchHead}
use Rattle.ipc_model.specs.declared.layout.Layout.{Layout}
use Rattle.ipc_model.specs.declared.layout.Layout.TheVariants as l
use Rattle.ipc_model.specs.Layouts.{own_buffers}
use Rattle.ipc_column.specs.Columns.{Columns, none, column, EachTop}
use Rattle.ipc_column.specs.Shapes.{Shape, bare, field, node_count, buffer_count, node_at, buffer_at, column_at, assigned_columns}
use Rattle.ipc_encode.specs.Buffers.{column_buffers, column_nulls, child_values, nodes_of, buffers_with, written_values}
use Rattle.ipc_encode.specs.Numbers.{Numbering}
use Rattle.ipc_column.specs.Dictionaries.{Dictionaries, values_for}
use Rattle.ipc_encode.proofs.Indexed.{validity_same}
use Rattle.ipc_encode.proofs.ReadbackParts.{column_of}

-- the columns of a shape with these values, as they are written
abbrev pub written : Dictionaries → Numbering → Shape → (ℕ → List Value) → Columns
written m known bare given = none
written m known (field l children rest) given =
    column (column_of m known l (given 0)) (written m known children (child_values l (given 0))) (written m known rest (λ j. given (suc j)))

-- what holds of the number of values of each column holds of the slots that are written
pub slots_written : (m : Dictionaries) (known : Numbering) (P : ℕ → Type 0) (s : Shape) (given : ℕ → List Value)
    → ((j : ℕ) → P (length (given j)))
    → EachTop (λ c. P c.slots) (written m known s given)
slots_written m known P bare given h = tt
slots_written m known P (field l children rest) given h = (h 0, slots_written m known P rest (λ j. given (suc j)) (λ j. h (suc j)))

-- ---- how many there are

-- as many buffers are written for a column as its layout has
pub own_length : (l : Layout) (vs : List Value) → length (column_buffers l vs) ≡ own_buffers l
own_length l.Null vs = refl
own_length _ vs = refl

-- a node is written for each field, children included
pub nodes_length : (s : Shape) (given : ℕ → List Value) → length (nodes_of s given) ≡ node_count s
unfolding node_count
nodes_length bare given = refl
nodes_length (field l children rest) given =
    let inner = nodes_length children (child_values l (given 0)) in
    let others = nodes_length rest (λ j. given (suc j)) in
    omega (arith, inner, others, length-append (nodes_of children (child_values l (given 0))) (nodes_of rest (λ j. given (suc j))))

-- the buffers of each field are written, children included
pub buffers_length : (known : Numbering) (s : Shape) (given : ℕ → List Value) → length (buffers_with known s given) ≡ buffer_count s
unfolding buffer_count
buffers_length known bare given = refl
buffers_length known (field l children rest) given =
    let inner = buffers_length known children (child_values l (given 0)) in
    let others = buffers_length known rest (λ j. given (suc j)) in
    let behind = buffers_with known children (child_values l (given 0)) ++ buffers_with known rest (λ j. given (suc j)) in
    let parts = length-append (buffers_with known children (child_values l (given 0))) (buffers_with known rest (λ j. given (suc j))) in
    let whole = length-append (column_buffers l (written_values known l (given 0))) behind in
    omega (arith, inner, others, parts, whole, own_length l (written_values known l (given 0)))

-- ---- where they stand

-- from the n-th on stand these
abbrev pub StandAt : {A : Type 0} → (ℕ → A) → A → ℕ → List A → Type 0
StandAt at d n xs = (k : ℕ) → k < length xs → at (n + k) ≡ get_or xs k d

-- the first of those that stand there
pub stand_front : {A : Type 0} → (at : ℕ → A) (d : A) (n : ℕ) (xs ys : List A) → StandAt at d n (xs ++ ys) → StandAt at d n xs
stand_front at d n xs ys h = λ k inside. h k (omega (arith, inside, length-append xs ys)) ∙ get_or-append xs ys d k inside

-- those behind the first
pub stand_behind : {A : Type 0} → (at : ℕ → A) (d : A) (n m size : ℕ) (xs ys : List A) → length xs ≡ size → m ≡ n + size
    → StandAt at d n (xs ++ ys) → StandAt at d m ys
stand_behind at d n m size xs ys e from h = λ k inside.
    ap at (let z : m + k ≡ n + (size + k) = omega (arith, from) in z)
    ∙ (h (size + k) (omega (arith, inside, e, length-append xs ys))
    ∙ (get_or-append_right xs ys size (size + k) d e (omega arith)
    ∙ ap (λ (q : ℕ). get_or ys q d) (let z : size + k - size ≡ k = omega arith in z)))

-- the nodes of a batch from the n-th on are these
abbrev pub NodesAt : BatchHead → ℕ → List (ℤ × ℤ) → Type 0
NodesAt head n ns = StandAt (node_at head) (pos 0, pos 0) n ns

-- the buffers of a batch from the n-th on have these bytes
abbrev pub BuffersAt : BatchHead → List ℕ → ℕ → List (List ℕ) → Type 0
BuffersAt head body n bs = StandAt (buffer_at head body) [] n bs

-- a column whose node and buffers were written is cut out of the body again
pub column_back : (ds : Dictionaries) (known : Numbering) (l : Layout) (vs : List Value) (head : BatchHead) (body : List ℕ) (n m : ℕ)
    → node_at head n ≡ (pos (length vs), pos (column_nulls l vs)) → BuffersAt head body m (column_buffers l (written_values known l vs))
    → column_at ds l head body n m ≡ column_of ds known l vs
column_back ds known l.Null vs head body n m e h =
    λ i. record {
      layout = l.Null;
      slots = unsigned_abs (e i).0;
      nulls = unsigned_abs
          (e i).1;
      validity = [];
      offsets = [];
      values = [];
      dictionary = [];
    }
column_back ds known l.Lists vs head body n m e h =
    let first = ap (λ (k : ℕ). buffer_at head body k) (let z : m ≡ m + 0 = omega arith in z) ∙ h 0 (omega arith) in
    let second = h 1 (omega arith) in
    λ i. record {
      layout = l.Lists;
      slots = unsigned_abs (e i).0;
      nulls = unsigned_abs (e i).1;
      validity = first i;
      offsets = second i;
      values = [];
      dictionary = [];
    }
column_back ds known l.Structs vs head body n m e h =
    let first = ap (λ (k : ℕ). buffer_at head body k) (let z : m ≡ m + 0 = omega arith in z) ∙ h 0 (omega arith) in
    λ i. record {
      layout = l.Structs;
      slots = unsigned_abs (e i).0;
      nulls = unsigned_abs (e i).1;
      validity = first i;
      offsets = [];
      values = [];
      dictionary = [];
    }
column_back ds known (l.FixedLists size) vs head body n m e h =
    let first = ap (λ (k : ℕ). buffer_at head body k) (let z : m ≡ m + 0 = omega arith in z) ∙ h 0 (omega arith) in
    λ i. record {
      layout = l.FixedLists size;
      slots = unsigned_abs (e i).0;
      nulls = unsigned_abs (e i).1;
      validity = first i;
      offsets = [];
      values = [];
      dictionary = [];
    }
column_back ds known l.Bits vs head body n m e h =
    let first = ap (λ (k : ℕ). buffer_at head body k) (let z : m ≡ m + 0 = omega arith in z) ∙ h 0 (omega arith) in
    let second = h 1 (omega arith) in
    λ i. record {
      layout = l.Bits;
      slots = unsigned_abs (e i).0;
      nulls = unsigned_abs (e i).1;
      validity = first i;
      offsets = [];
      values = second i;
      dictionary = [];
    }
column_back ds known (l.Numbers bits signed) vs head body n m e h =
    let first = ap (λ (k : ℕ). buffer_at head body k) (let z : m ≡ m + 0 = omega arith in z) ∙ h 0 (omega arith) in
    let second = h 1 (omega arith) in
    λ i. record {
      layout = l.Numbers bits signed;
      slots = unsigned_abs (e i).0;
      nulls = unsigned_abs (e i).1;
      validity = first i;
      offsets = [];
      values = second i;
      dictionary = [];
    }
column_back ds known (l.Indices bits signed id) vs head body n m e h =
    let first = ap (λ (k : ℕ). buffer_at head body k) (let z : m ≡ m + 0 = omega arith in z) ∙ h 0 (omega arith) in
    let valid = first ∙ validity_same (known id) vs in
    let second = h 1 (omega arith) in
    λ i. record {
      layout = l.Indices bits signed id;
      slots = unsigned_abs (e i).0;
      nulls = unsigned_abs (e i).1;
      validity = valid i;
      offsets = [];
      values = second i;
      dictionary = values_for ds id;
    }
column_back ds known (l.FixedBytes width) vs head body n m e h =
    let first = ap (λ (k : ℕ). buffer_at head body k) (let z : m ≡ m + 0 = omega arith in z) ∙ h 0 (omega arith) in
    let second = h 1 (omega arith) in
    λ i. record {
      layout = l.FixedBytes width;
      slots = unsigned_abs (e i).0;
      nulls = unsigned_abs (e i).1;
      validity = first i;
      offsets = [];
      values = second i;
      dictionary = [];
    }
column_back ds known (l.VariableBytes utf8) vs head body n m e h =
    let first = ap (λ (k : ℕ). buffer_at head body k) (let z : m ≡ m + 0 = omega arith in z) ∙ h 0 (omega arith) in
    let second = h 1 (omega arith) in
    let third = h 2 (omega arith) in
    λ i. record {
      layout = l.VariableBytes utf8;
      slots = unsigned_abs (e i).0;
      nulls = unsigned_abs (e i).1;
      validity = first i;
      offsets = second i;
      values = third i;
      dictionary = [];
    }

-- the columns whose nodes and buffers were written are cut out of the body again
pub cut_back : (ds : Dictionaries) (known : Numbering) (s : Shape) (given : ℕ → List Value) (head : BatchHead) (body : List ℕ)
    (n m : ℕ) → NodesAt head n (nodes_of s given)
    → BuffersAt head body m (buffers_with known s given) → assigned_columns ds s head body n m ≡ written ds known s given
unfolding assigned_columns
cut_back ds known bare given head body n m ns bs = refl
cut_back ds known (field l children rest) given head body n m ns bs =
    let vs = given 0 in
    let own = column_buffers l (written_values known l vs) in
    let inner_nodes = nodes_of children (child_values l vs) in
    let inner_buffers = buffers_with known children (child_values l vs) in
    let other_nodes = nodes_of rest (λ j. given (suc j)) in
    let other_buffers = buffers_with known rest (λ j. given (suc j)) in
    let nodes = node_at head in
    let buffers = buffer_at head body in
    let node : node_at head n ≡ (pos (length vs), pos (column_nulls l vs)) =
    ap nodes (let z : n ≡ n + 0 = omega arith in z) ∙ ns 0 (omega arith) in
    let later_nodes : NodesAt head (n + 1) (inner_nodes ++ other_nodes) =
    stand_behind nodes (pos 0, pos 0) n (n + 1) 1 ((pos (length vs), pos (column_nulls l vs)) ∷ []) (inner_nodes ++ other_nodes)
    refl refl ns in
    let later_buffers : BuffersAt head body (m + own_buffers l) (inner_buffers ++ other_buffers) =
    stand_behind buffers [] m (m + own_buffers l) (own_buffers l) own (inner_buffers ++ other_buffers)
    (own_length l (written_values known l vs)) refl bs in
    let first = column_back ds known l vs head body n m node (stand_front buffers [] m own (inner_buffers ++ other_buffers) bs) in
    let inner = cut_back ds known children (child_values l vs) head body (n + 1) (m + own_buffers l)
    (stand_front nodes (pos 0, pos 0) (n + 1) inner_nodes other_nodes later_nodes)
    (stand_front buffers [] (m + own_buffers l) inner_buffers other_buffers later_buffers) in
    let others = cut_back ds known rest (λ j. given (suc j)) head body (n + 1 + node_count children)
    (m + own_buffers l + buffer_count children)
    (stand_behind nodes (pos 0, pos 0) (n + 1) (n + 1 + node_count children) (node_count children) inner_nodes other_nodes
    (nodes_length children (child_values l vs)) refl later_nodes)
    (stand_behind buffers [] (m + own_buffers l) (m + own_buffers l + buffer_count children) (buffer_count children) inner_buffers
    other_buffers (buffers_length known children (child_values l vs)) refl later_buffers) in
    λ i. column (first i) (inner i) (others i)
