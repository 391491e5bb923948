-- The same metadata states one thing at most.
use Rattle.std.proofs.Common.{◌≡◌, ◌∙◌, refl, sym, ap, subst, ℕ, List, arith}
use Rattle.std.specs.Prelude.{pos, ℤ, Option, None, Some, Result, Ok, Err}
use Rattle.ipc_scalar.specs.Bytes.{byte, int64}
use Rattle.ipc_flat.specs.declared.fault.FlatFault.{FlatFault}
use Rattle.ipc_flat.specs.Views.{TableView, table_from, scalar, field}
use Rattle.ipc_model.specs.Answers.{Fails}
use Rattle.ipc_model.specs.declared.fault.Fault.{Fault}
use Rattle.ipc_model.specs.declared.fault.Fault.TheVariants.{OutOfMemory}
use Rattle.ipc_model.specs.declared.schema.Schema.{Schema}
use Rattle.ipc_model.specs.WellFormed.{WellFormed}
use Rattle.ipc_model.specs.Refusals.{reader_fault}
use Rattle.ipc_model.specs.declared.check.SchemaFault.{SchemaFault}
use Rattle.ipc_model.specs.declared.check.SchemaFault.TheVariants as check
use Rattle.ipc_model.specs.declared.schema.Field.{Field}
use Rattle.ipc_meta.specs.declared.budget.Budget.{Budget}
use Rattle.ipc_meta.specs.declared.head.BatchHead.{BatchHead}
use Rattle.ipc_meta.specs.declared.head.Head.{Head}
use Rattle.ipc_meta.specs.declared.head.Head.TheVariants as head
use Rattle.ipc_meta.specs.Fields.{SchemaAt}
use Rattle.ipc_meta.specs.Heads.{BatchAt, DictionaryAt, PairsAt, HeaderAt, HeadOf}
use Rattle.ipc_meta.specs.Reading.{batch_read, pairs_read, fields_read, field_read}
use Rattle.ipc_meta.proofs.Binds.{ok_same}
use Rattle.ipc_meta.proofs.Sound.{left_parts}
use Rattle.ipc_meta.proofs.Complete.{budget, schema_complete, batch_complete, batch_pairs_complete}
use Rattle.ipc_model.specs.declared.limits.Limits.{Limits}

some_or : {X : Type 0} → X → Option X → X
some_or d None = d
some_or d (Some x) = x

some_same : {X : Type 0} (x y : X) (o p : Option X) → o ≡ Some x → p ≡ Some y → o ≡ p → x ≡ y
unfolding some_or
some_same x y o p h k e = ap (some_or x) (sym h ∙ (e ∙ k))

-- the table in a field
pub table_same : (r : Result (Option TableView) FlatFault) (t u : TableView) → r ≡ Ok (Some t) → r ≡ Ok (Some u) → t ≡ u
table_same r t u h k = some_same t u (Some t) (Some u) refl refl (ok_same r (Some t) (Some u) h k)

-- a Schema table states one schema at most
pub schema_same : {limits : Limits} → (t : TableView) (s z : Schema) → SchemaAt limits t s → SchemaAt limits t z → s ≡ z
schema_same t s z h k =
    let a = schema_complete t s h in
    let b = schema_complete t z k in
    let ps = left_parts s.metadata z.metadata a.mid b.mid (sym a.pairs ∙ b.pairs) in
    let at : Ok (s.fields, a.after) ≡ Ok (z.fields, b.after) = sym a.fields ∙ rw ps.1 b.fields in
    let fs = left_parts s.fields z.fields a.after b.after at in
    λ i. record { fields = fs.0 i; metadata = ps.0 i }

-- a RecordBatch table states one batch's head at most
pub batch_one : (t : TableView) (a b : BatchHead) → BatchAt t a → BatchAt t b → a ≡ b
batch_one t a b h k = ok_same (batch_read t) a b (batch_complete t a h) (batch_complete t b k)

-- a DictionaryBatch table states one id and one batch's head at most
pub dictionary_same : (t : TableView) (i j : ℤ) (a b : BatchHead) → DictionaryAt t i a → DictionaryAt t j b → (i ≡ j) × (a ≡ b)
dictionary_same t i j a b h k =
    let tables = table_same (field t 1 table_from) h.values.0 k.values.0 h.values.1 k.values.1 in (
      ok_same (scalar t 0 8 int64 (pos 0)) i j h.named k.named,
      batch_one k.values.0 a b (subst (λ u. BatchAt u a) tables h.values.2) k.values.2,
    )

-- the code of a head
abbrev pub code_of : Head → ℕ
code_of (head.Schema s) = 1
code_of (head.Dictionary id batch) = 2
code_of (head.Batch batch pairs) = 3

-- the table of a header, and what stands beside it in the root table, state this head
abbrev pub Stated : Limits → TableView → TableView → Head → Type 0
Stated limits root t (head.Schema s) = SchemaAt limits t s
Stated limits root t (head.Dictionary id batch) = DictionaryAt t id batch
Stated limits root t (head.Batch batch pairs) = BatchAt t batch × PairsAt limits root pairs

-- a message whose header states a head has the head's code, and a table that states it
pub header_parts : (limits : Limits) (root : TableView) (h : Head) → HeaderAt limits root h
    → (scalar root 1 1 byte 0 ≡ Ok (code_of h)) × ((t : TableView) × (field root 2 table_from ≡ Ok (Some t)) × Stated limits root t h)
header_parts limits root (head.Schema s) a = a
header_parts limits root (head.Dictionary id batch) a = a
header_parts limits root (head.Batch batch pairs) a = (a.0.0, (a.0.1.0, a.0.1.1, (a.0.1.2, a.1)))

-- a record batch's message has one list of pairs at most
pub pairs_same : {limits : Limits} → (root : TableView) (ps qs : List (List ℕ × List ℕ)) → PairsAt limits root ps → PairsAt limits root qs
    → ps ≡ qs
pairs_same root ps qs a b =
    let x = batch_pairs_complete root ps a in
    let y = batch_pairs_complete root qs b in
    (left_parts ps qs x.0 y.0 (sym x.1 ∙ y.1)).0

-- a header's table states one head at most of the same code
pub stated_same : (limits : Limits) (root t : TableView) (g h : Head) → code_of g ≡ code_of h → Stated limits root t g
    → Stated limits root t h → g ≡ h
stated_same limits root t (head.Schema s) (head.Schema z) e a b = ap head.Schema (schema_same t s z a b)
stated_same limits root t (head.Dictionary i x) (head.Dictionary j y) e a b = let p = dictionary_same t i j x y a b in rw (p.0, p.1) refl
stated_same limits root t (head.Batch x p) (head.Batch y q) e a b = rw (batch_one t x y a.0 b.0, pairs_same root p q a.1 b.1) refl
stated_same limits root t (head.Schema s) (head.Dictionary j y) e a b = absurd (omega (arith, e))
stated_same limits root t (head.Schema s) (head.Batch y q) e a b = absurd (omega (arith, e))
stated_same limits root t (head.Dictionary i x) (head.Schema z) e a b = absurd (omega (arith, e))
stated_same limits root t (head.Dictionary i x) (head.Batch y q) e a b = absurd (omega (arith, e))
stated_same limits root t (head.Batch x p) (head.Schema z) e a b = absurd (omega (arith, e))
stated_same limits root t (head.Batch x p) (head.Dictionary j y) e a b = absurd (omega (arith, e))

-- a message's root table states one head at most
pub header_same : (limits : Limits) (root : TableView) (g h : Head) → HeaderAt limits root g → HeaderAt limits root h → g ≡ h
header_same limits root g h a b =
    let p = header_parts limits root g a in
    let q = header_parts limits root h b in
    let tables = table_same (field root 2 table_from) p.1.0 q.1.0 p.1.1 q.1.1 in
    stated_same limits root q.1.0 g h (ok_same (scalar root 1 1 byte 0) (code_of g) (code_of h) p.0 q.0)
    (subst (λ u. Stated limits root u g) tables p.1.2) q.1.2

nat_of : ℤ → ℕ
nat_of (pos n) = n
nat_of _ = 0

pos_same : (m n : ℕ) → pos m ≡ pos n → m ≡ n
unfolding nat_of
pos_same m n h = ap nat_of h

-- metadata states one head and one length of a body at most
pub head_same : {limits : Limits} → (metadata : List ℕ) (g h : Head) (m n : ℕ) → HeadOf limits metadata g m → HeadOf limits metadata h n
    → (g ≡ h) × (m ≡ n)
head_same {limits} metadata g h m n a b =
    let roots = ok_same (table_from metadata 0) a.root b.root a.stands b.stands in
    let body : scalar b.root 3 8 int64 (pos 0) ≡ Ok (pos m) = subst (λ r. scalar r 3 8 int64 (pos 0) ≡ Ok (pos m)) roots a.body in (
      header_same limits b.root g h (subst (λ r. HeaderAt limits r g) roots a.header) b.header,
      pos_same m n (ok_same (scalar b.root 3 8 int64 (pos 0)) (pos m) (pos n) body b.body),
    )

-- ---- where a part is refused that is stated, memory ran out

-- what the definition reads is refused for lack of memory alone
pub refused : {X Y : Type 0} (e : Fault) (r : Result Y Fault) (y : Y) (x : X) → r ≡ Ok y → Fails e r → Fails e (Ok x)
refused e r y x is h = λ ne. let bad : Ok y ≡ Err e = sym is ∙ h ne in absurd (cc)

abbrev pub pair : ℤ → BatchHead → Result (ℤ × BatchHead) Fault
pair id batch = Ok (id, batch)

refused_pair : {X : Type 0} (e : Fault) (id : ℤ) (batch : BatchHead) (x : X) → Fails e (pair id batch) → Fails e (Ok x)
refused_pair e id batch x h = λ ne. let bad : pair id batch ≡ Err e = h ne in absurd (cc)

-- a fault that can't be another one than lack of memory is lack of memory
pub only_memory : (e : Fault) → ((e ≡ OutOfMemory → ⊥) → ⊥) → e ≡ OutOfMemory
only_memory OutOfMemory h = refl
only_memory _ h = absurd (h (λ q. cc))

-- where the table of a dictionary batch is refused, the message states no head unless memory ran out
pub dictionary_refused : (limits : Limits) (root t : TableView) (e : Fault) (h : Head) → scalar root 1 1 byte 0 ≡ Ok 2
    → field root 2 table_from ≡ Ok (Some t)
    → ((id : ℤ) (batch : BatchHead) → DictionaryAt t id batch → Fails e (pair id batch)) → HeaderAt limits root h → Fails e (Ok h)
dictionary_refused limits root t e (head.Schema s) c f bad a = absurd (omega (arith, ok_same (scalar root 1 1 byte 0) 1 2 a.0 c))
dictionary_refused limits root t e (head.Batch batch ps) c f bad a =
    absurd (omega (arith, ok_same (scalar root 1 1 byte 0) 3 2 a.0.0 c))
dictionary_refused limits root t e (head.Dictionary id batch) c f bad a =
    let tables = table_same (field root 2 table_from) a.1.0 t a.1.1 f in
    refused_pair e id batch (head.Dictionary id batch) (bad id batch (subst (λ u. DictionaryAt u id batch) tables a.1.2))

abbrev pub with_pairs : BatchHead → List (List ℕ × List ℕ) → Result (BatchHead × List (List ℕ × List ℕ)) Fault
with_pairs batch ps = Ok (batch, ps)

-- where the table of a record batch is refused or the pairs of its message, the message states no head unless memory ran out
pub record_batch_refused : (limits : Limits) (root t : TableView) (e : Fault) (h : Head) → scalar root 1 1 byte 0 ≡ Ok 3
    → field root 2 table_from ≡ Ok (Some t)
    → ((batch : BatchHead) (ps : List (List ℕ × List ℕ)) → BatchAt t batch → PairsAt limits root ps → Fails e (with_pairs batch ps))
    → HeaderAt limits root h → Fails e (Ok h)
record_batch_refused limits root t e (head.Schema s) c f bad a = absurd (omega (arith, ok_same (scalar root 1 1 byte 0) 1 3 a.0 c))
record_batch_refused limits root t e (head.Dictionary id batch) c f bad a =
    absurd (omega (arith, ok_same (scalar root 1 1 byte 0) 2 3 a.0 c))
record_batch_refused limits root t e (head.Batch batch ps) c f bad a =
    let tables = table_same (field root 2 table_from) a.0.1.0 t a.0.1.1 f in
    refused e (with_pairs batch ps) (batch, ps) (head.Batch batch ps) refl
    (bad batch ps (subst (λ u. BatchAt u batch) tables a.0.1.2) a.1)

-- where the table of a schema is refused, the message states no head unless memory ran out
pub schema_refused : {limits : Limits} → (root t : TableView) (e : Fault) (h : Head) → scalar root 1 1 byte 0 ≡ Ok 1
    → field root 2 table_from ≡ Ok (Some t)
    → ((s : Schema) → SchemaAt limits t s → Fails e (Ok s)) → HeaderAt limits root h → Fails e (Ok h)
schema_refused {limits} root t e (head.Dictionary id batch) c f bad a = absurd (omega (arith, ok_same (scalar root 1 1 byte 0) 2 1 a.0 c))
schema_refused {limits} root t e (head.Batch batch ps) c f bad a =
    absurd (omega (arith, ok_same (scalar root 1 1 byte 0) 3 1 a.0.0 c))
schema_refused {limits} root t e (head.Schema s) c f bad a =
    let tables = table_same (field root 2 table_from) a.1.0 t a.1.1 f in
    refused e (Ok s) s (head.Schema s) refl (bad s (subst (λ u. SchemaAt limits u s) tables a.1.2))

-- where the fields of a Schema table are refused, it states no schema unless memory ran out
pub fields_refused : {limits : Limits} → (t : TableView) (s : Schema) (e : Fault) (ps : List (List ℕ × List ℕ)) (l : Budget)
    → SchemaAt limits t s
    → pairs_read t 2 (budget limits.fields limits.text limits.pairs) ≡ Ok (ps, l)
    → Fails e (fields_read (field_read limits.depth) t 1 l) → Fails e (Ok s)
fields_refused {limits} t s e ps l h p bad =
    let a = schema_complete t s h in
    let same = left_parts s.metadata ps a.mid l (sym a.pairs ∙ p) in
    refused e (fields_read (field_read limits.depth) t 1 l) (s.fields, a.after) s
    (subst (λ z. fields_read (field_read limits.depth) t 1 z ≡ Ok (s.fields, a.after)) same.1 a.fields) bad

abbrev schema_of : List Field → List (List ℕ × List ℕ) → Schema
schema_of fs ps = record { fields = fs; metadata = ps }

-- where the schema that was read is not well formed, its table states no schema unless memory ran out
pub check_refused : {limits : Limits} → (t : TableView) (s : Schema) (e : SchemaFault) (fs : List Field) (ps : List (List ℕ
    × List ℕ)) (l m : Budget)
    → SchemaAt limits t s
    → pairs_read t 2 (budget limits.fields limits.text limits.pairs) ≡ Ok (ps, l) → fields_read (field_read limits.depth) t 1 l ≡ Ok (fs, m)
    → ((e ≡ check.OutOfMemory → ⊥) → WellFormed limits (schema_of fs ps) → ⊥) → Fails (reader_fault e) (Ok s)
check_refused {limits} t s e fs ps l m h p q bad =
    let a = schema_complete t s h in
    let x = left_parts s.metadata ps a.mid l (sym a.pairs ∙ p) in
    let read : fields_read (field_read limits.depth) t 1 l ≡ Ok (s.fields, a.after) =
    subst (λ z. fields_read (field_read limits.depth) t 1 z ≡ Ok (s.fields, a.after)) x.1 a.fields in
    let y = left_parts s.fields fs a.after m (sym read ∙ q) in
    let same : s ≡ schema_of fs ps = λ i. record { fields = y.0 i; metadata = x.0 i } in
    λ ne. absurd (bad (λ is. ne (ap reader_fault is)) (subst (WellFormed limits) same h.well_formed))

-- where the values of a dictionary batch are refused, its table states no batch unless memory ran out
pub values_refused : (t d : TableView) (id : ℤ) (batch : BatchHead) (e : Fault) → DictionaryAt t id batch
    → field t 1 table_from ≡ Ok (Some d) → Fails e (batch_read d) → Fails e (pair id batch)
values_refused t d id batch e h f bad =
    let tables = table_same (field t 1 table_from) h.values.0 d h.values.1 f in
    λ ne. let none : Ok batch ≡ Err e =
    sym (batch_complete d batch (subst (λ u. BatchAt u batch) tables h.values.2)) ∙ bad ne in absurd (cc)
