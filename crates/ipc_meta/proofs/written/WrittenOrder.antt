-- In each table that is written the fields' numbers ascend, and how much room the tables take.
use Rattle.std.proofs.Common.{◌≡◌, refl, sym, subst, ℕ, ◌+◌, ◌*◌, ◌≤◌, ◌<◌, Bool, List, [], ◌∷◌, map, length, arith}
use Rattle.std.proofs.lemmas.List.{length-replicate}
use Rattle.std.specs.Prelude.{ℤ, pos, Option, None, Some}
use Rattle.std.specs.List.{AllByRecursion}
use Rattle.ipc_model.specs.declared.schema.DataType.{DataType}
use Rattle.ipc_model.specs.declared.schema.DataType.TheVariants as t
use Rattle.ipc_model.specs.declared.schema.IntBits.{IntBits}
use Rattle.ipc_model.specs.declared.schema.Dictionary.{Dictionary}
use Rattle.ipc_model.specs.declared.schema.Field.{Field, roll-Field, ind-Field, fold-roll-Field, map-Field}
use Rattle.ipc_model.specs.declared.schema.Field.TheOpen.{Field-F}
use Rattle.ipc_model.specs.declared.schema.Schema.{Schema}
use Rattle.ipc_build.specs.Trees.{Tree, tables_of}
use Rattle.ipc_build.specs.Layout.{entry_count, members}
use Rattle.ipc_build.specs.Ascends.{fields, elements, Ascends}
use Rattle.ipc_build.specs.Room.{room, targets_room}
use Rattle.ipc_meta.specs.declared.head.BatchHead.{BatchHead}
use Rattle.ipc_model.specs.Entries.{pair_text}
use Rattle.ipc_meta.specs.Rooms.{schema_room, head_room, zeros, batch_room, dictionary_head_room, dictionary_room}
use Rattle.ipc_meta.specs.Written.{pair_tree, with_pairs, with_tables, int_tree, type_tree, dictionary_tree, with_dictionary, field_step}
use Rattle.ipc_meta.specs.Written.{field_tree, schema_tree, batch_tree, message_tree, schema_message, batch_message}
use Rattle.ipc_meta.specs.Written.{dictionary_batch_tree, dictionary_message}

abbrev InOrder : Tree → Type 0
InOrder f = Ascends (fields 0) f

elements_in_order : {X : Type 0} (tree : X → Tree) (xs : List X) → AllByRecursion (λ x. InOrder (tree x)) xs
    → Ascends elements (tables_of (map tree xs))
unfolding Ascends
elements_in_order tree [] h = tt
elements_in_order tree (x ∷ xs) h = (refl, h.0, elements_in_order tree xs h.1)

pair_in_order : (p : List ℕ × List ℕ) → InOrder (pair_tree p)
unfolding Ascends
pair_in_order p = (omega arith, omega arith, tt, (omega arith, omega arith, tt, tt))

pairs_in_order : (ps : List (List ℕ × List ℕ)) → AllByRecursion (λ p. InOrder (pair_tree p)) ps
pairs_in_order [] = tt
pairs_in_order (p ∷ ps) = (pair_in_order p, pairs_in_order ps)

with_pairs_in_order : (n k : ℕ) (ps : List (List ℕ × List ℕ)) → n ≤ k → k < 16 → Ascends (fields n) (with_pairs k ps)
unfolding Ascends
with_pairs_in_order n k [] low high = tt
with_pairs_in_order n k (p ∷ ps) low high = (low, high, elements_in_order pair_tree (p ∷ ps) (pairs_in_order (p ∷ ps)), tt)

int_in_order : (bits : IntBits) (signed : Bool) → InOrder (int_tree bits signed)
unfolding Ascends
int_in_order bits signed = (omega arith, omega arith, tt, (omega arith, omega arith, tt, tt))

type_in_order : (κ : DataType) → InOrder (type_tree κ)
unfolding Ascends
type_in_order t.Null = tt
type_in_order t.Bool = tt
type_in_order (t.Int bits signed) = int_in_order bits signed
type_in_order t.Binary = tt
type_in_order t.Utf8 = tt
type_in_order (t.FixedSizeBinary n) = (omega arith, omega arith, tt, tt)
type_in_order (t.Date unit) = (omega arith, omega arith, tt, tt)
type_in_order (t.Timestamp unit None) = (omega arith, omega arith, tt, tt)
type_in_order (t.Timestamp unit (Some zone)) = (omega arith, omega arith, tt, (omega arith, omega arith, tt, tt))
type_in_order (t.Time unit) = (omega arith, omega arith, tt, (omega arith, omega arith, tt, tt))
type_in_order (t.Duration unit) = (omega arith, omega arith, tt, tt)
type_in_order (t.FixedSizeList n) = (omega arith, omega arith, tt, tt)
type_in_order t.List = tt
type_in_order t.Struct = tt

dictionary_in_order : (d : Dictionary) → InOrder (dictionary_tree d)
unfolding Ascends
dictionary_in_order d = (
  omega arith,
  omega arith,
  tt,
  (omega arith, omega arith, int_in_order d.index.bits d.index.signed, (omega arith, omega arith, tt, tt)),
)

with_dictionary_in_order : (o : Option Dictionary) (cs : List Tree) (ps : List (List ℕ × List ℕ)) → Ascends elements (tables_of cs)
    → Ascends (fields 4) (with_dictionary o (with_tables 5 cs (with_pairs 6 ps)))
unfolding Ascends
with_dictionary_in_order None cs ps h = (omega arith, omega arith, h, with_pairs_in_order 6 6 ps (omega arith) (omega arith))
with_dictionary_in_order (Some d) cs ps h =
    (omega arith, omega arith, dictionary_in_order d, (omega arith, omega arith, h, with_pairs_in_order 6 6 ps (omega arith) (omega arith)))

abbrev Shown : Type 0
Shown = (f : Field) × InOrder (field_tree f)

all_in_order : (cs : List Shown) → AllByRecursion (λ f. InOrder (field_tree f)) (map (λ c. c.0) cs)
all_in_order [] = tt
all_in_order (c ∷ cs) = (c.1, all_in_order cs)

field_layer : (y : Field-F Shown) → InOrder (field_tree (roll-Field (map-Field Shown Field (λ c. c.0) y)))
unfolding Ascends
field_layer y =
    let z : Field-F Field = map-Field Shown Field (λ c. c.0) y in
    let inner = elements_in_order field_tree z.children (all_in_order y.children) in
    subst (λ (f : Tree). Ascends (fields 0) f) (sym (fold-roll-Field Tree field_step z)) (
      omega arith,
      omega arith,
      tt,
      (
        omega arith,
        omega arith,
        tt,
        (
          omega arith,
          omega arith,
          tt,
          (
            omega arith,
            omega arith,
            type_in_order z.kind,
            with_dictionary_in_order z.dictionary (map field_tree z.children) z.metadata inner,
          ),
        ),
      ),
    )

field_in_order : (f : Field) → InOrder (field_tree f)
field_in_order = ind-Field (λ f. InOrder (field_tree f)) (λ x y is. subst (λ z. InOrder (field_tree (roll-Field z))) is (field_layer y))

fields_in_order : (fs : List Field) → AllByRecursion (λ f. InOrder (field_tree f)) fs
fields_in_order [] = tt
fields_in_order (f ∷ fs) = (field_in_order f, fields_in_order fs)

message_in_order : (code m : ℕ) (header : Tree) (ps : List (List ℕ × List ℕ)) → InOrder header → InOrder (message_tree code header m ps)
unfolding Ascends
message_in_order code m header ps h = (
  omega arith,
  omega arith,
  tt,
  (
    omega arith,
    omega arith,
    tt,
    (omega arith, omega arith, h, (omega arith, omega arith, tt, with_pairs_in_order 4 4 ps (omega arith) (omega arith))),
  ),
)

schema_in_order : (s : Schema) → InOrder (schema_tree s)
unfolding Ascends
schema_in_order s = (
  omega arith,
  omega arith,
  elements_in_order field_tree s.fields (fields_in_order s.fields),
  with_pairs_in_order 2 2 s.metadata (omega arith) (omega arith),
)

batch_in_order : (b : BatchHead) → InOrder (batch_tree b)
unfolding Ascends
batch_in_order b = (omega arith, omega arith, tt, (omega arith, omega arith, tt, (omega arith, omega arith, tt, tt)))

dictionary_batch_in_order : (id : ℤ) (b : BatchHead) → InOrder (dictionary_batch_tree id b)
unfolding Ascends
dictionary_batch_in_order id b =
    (omega arith, omega arith, tt, (omega arith, omega arith, batch_in_order b, (omega arith, omega arith, tt, tt)))

-- in each table of a schema's message the numbers of the fields ascend
pub schema_ascends : (s : Schema) (code m : ℕ) (ps : List (List ℕ × List ℕ)) (f g : Tree) → g ≡ message_tree code f m ps
    → f ≡ schema_tree s → Ascends (fields 0) g
schema_ascends s code m ps f g e h = subst (λ (x : Tree). InOrder x) (sym e)
    (subst (λ (x : Tree). InOrder (message_tree code x m ps)) (sym h) (message_in_order code m (schema_tree s) ps (schema_in_order s)))

-- in each table of a batch's message the numbers of the fields ascend
pub batch_ascends : (b : BatchHead) (ps : List (List ℕ × List ℕ)) (m : ℕ) (f g : Tree) → g ≡ message_tree 3 f m ps → f ≡ batch_tree b
    → Ascends (fields 0) g
batch_ascends b ps m f g e h = subst (λ (x : Tree). InOrder x) (sym e)
    (subst (λ (x : Tree). InOrder (message_tree 3 x m ps)) (sym h) (message_in_order 3 m (batch_tree b) ps (batch_in_order b)))

-- in each table of a dictionary batch's message the numbers of the fields ascend
pub dictionary_ascends : (id : ℤ) (b : BatchHead) (m : ℕ) (f : Tree) → f ≡ dictionary_message id b m → Ascends (fields 0) f
dictionary_ascends id b m f e =
    subst (λ (x : Tree). InOrder x) (sym e) (message_in_order 2 m (dictionary_batch_tree id b) [] (dictionary_batch_in_order id b))

-- ---- room

-- the room that pairs add to a message
abbrev pub pairs_room : List (List ℕ × List ℕ) → ℕ
pairs_room [] = 0
pairs_room (p ∷ ps) = 22 + 64 * length (p ∷ ps) + pair_text (p ∷ ps)

pair_members : (ps : List (List ℕ × List ℕ)) → members (tables_of (map pair_tree ps)) ≡ length ps
unfolding members
pair_members [] = refl
pair_members (p ∷ ps) = let rest = pair_members ps in omega (arith, rest)

-- the tables of the pairs, each with its key and its value
tables_room : (ps : List (List ℕ × List ℕ)) → targets_room (tables_of (map pair_tree ps)) ≡ 60 * length ps + pair_text ps
unfolding targets_room entry_count
tables_room [] = refl
tables_room (p ∷ ps) = let rest = tables_room ps in omega (arith, rest)

-- in numbers: 158, 16 for each node and each buffer, and the room of the pairs
pub head_counts : (b : BatchHead) (ps : List (List ℕ × List ℕ)) (m : ℕ)
    → head_room b ps m ≡ 158 + 16 * length b.nodes + 16 * length b.buffers + pairs_room ps
unfolding targets_room entry_count members head_room
head_counts b [] m = omega arith
head_counts b (p ∷ ps) m =
    let rest = tables_room ps in
    let count = pair_members ps in
    omega (arith, rest, count)

-- the room of a batch's message is 158 bytes, 16 for each node and each buffer, and the room of the pairs
pub batch_counts : (nodes buffers : ℕ) (ps : List (List ℕ × List ℕ))
    → batch_room nodes buffers ps ≡ 158 + 16 * nodes + 16 * buffers + pairs_room ps
unfolding batch_room
batch_counts nodes buffers ps =
    let n = length-replicate {A = ℤ × ℤ} nodes (pos 0, pos 0) in
    let b = length-replicate {A = ℤ × ℤ} buffers (pos 0, pos 0) in
    let h = head_counts (record { length = pos 0; nodes = zeros nodes; buffers = zeros buffers }) ps 0 in
    omega (arith, h, n, b)

-- the room of a batch's message depends on its pairs and on the numbers of its nodes and buffers alone
pub batch_needs : (b : BatchHead) (ps : List (List ℕ × List ℕ)) (m : ℕ)
    → head_room b ps m ≡ batch_room (length b.nodes) (length b.buffers) ps
batch_needs b ps m = let h = head_counts b ps m in let c = batch_counts (length b.nodes) (length b.buffers) ps in omega (arith, h, c)

-- in numbers: 212, and 16 for each node and each buffer
pub dictionary_head_counts : (id : ℤ) (b : BatchHead) (m : ℕ)
    → dictionary_head_room id b m ≡ 212 + 16 * length b.nodes + 16 * length b.buffers
unfolding targets_room entry_count members dictionary_head_room
dictionary_head_counts id b m = omega arith

-- the room of a dictionary batch's message is 212 bytes, and 16 for each node and each buffer
pub dictionary_counts : (nodes buffers : ℕ) → dictionary_room nodes buffers ≡ 212 + 16 * nodes + 16 * buffers
unfolding dictionary_room
dictionary_counts nodes buffers =
    let n = length-replicate {A = ℤ × ℤ} nodes (pos 0, pos 0) in
    let b = length-replicate {A = ℤ × ℤ} buffers (pos 0, pos 0) in
    let h = dictionary_head_counts (pos 0) (record { length = pos 0; nodes = zeros nodes; buffers = zeros buffers }) 0 in
    omega (arith, h, n, b)

-- the room of a dictionary batch's message depends on the numbers of its nodes and buffers alone
pub dictionary_needs : (id : ℤ) (b : BatchHead) (m : ℕ)
    → dictionary_head_room id b m ≡ dictionary_room (length b.nodes) (length b.buffers)
dictionary_needs id b m =
    let h = dictionary_head_counts id b m in
    let c = dictionary_counts (length b.nodes) (length b.buffers) in
    omega (arith, h, c)

-- the room of a dictionary batch's message is that of its tree
pub dictionary_room_opens : (id : ℤ) (b : BatchHead) (m : ℕ) → room (dictionary_message id b m) ≡ dictionary_head_room id b m
unfolding dictionary_head_room
dictionary_room_opens id b m = refl

-- the room of a batch's message is that of its tree
pub batch_room_opens : (b : BatchHead) (ps : List (List ℕ × List ℕ)) (m : ℕ) → room (batch_message b ps m) ≡ head_room b ps m
unfolding head_room
batch_room_opens b ps m = refl

-- the room of a schema's message is that of its tree
pub schema_needs : (s : Schema) → room (schema_message s) ≡ schema_room s
unfolding schema_room
schema_needs s = refl
