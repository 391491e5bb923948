-- Each test says what the standard asks.
use Rattle.std.proofs.Common.{◌≡◌, refl, ap, ℕ, zero, suc, ◌+◌, ◌*◌, ◌/◌, ◌<◌, ◌≤◌, Bool, true, false, cond, not, List, length, arith}
use Rattle.std.proofs.Common.{le-leb}
use Rattle.std.specs.Prelude.{◌&&◌, ◌||◌, ◌==◌, nat_le, ℤ, ◌+ℤ◌, pos, negsuc, int_le, ◌≤ℤ◌, ◌<ℤ◌, unsigned_abs, T, ⊤}
use Rattle.std.specs.Bool.{Decides}
use Rattle.std.specs.List.{All}
use Rattle.std.proofs.lemmas.Bool.{and_parts, and_from, ne_eqb, leb-true}
use Rattle.std.proofs.lemmas.Bool.Decides.{nat_tests, Decides-eqb, Decides-and, Decides-at, Decides-like, Decides-by_and}
use Rattle.std.proofs.lemmas.Int.{ints}
use Rattle.ipc_model.specs.declared.schema.Field.{Field}
use Rattle.ipc_meta.specs.declared.head.BatchHead.{BatchHead}
use Rattle.ipc_model.specs.declared.layout.Layout.{Layout}
use Rattle.ipc_model.specs.declared.layout.Layout.TheVariants as l
use Rattle.ipc_model.specs.Layouts.{number_bytes, has_validity}
use Rattle.ipc_model.specs.declared.fault.Fault.{Fault}
use Rattle.ipc_model.specs.declared.fault.Fault.TheVariants as fault
use Rattle.ipc_column.specs.Columns.{Column, Columns, none, column, Each, EachTop, every, every_top}
use Rattle.ipc_column.specs.Shapes.{shape_of, field_columns}
use Rattle.ipc_column.specs.checks.Rules.{HasNodes, HasBuffers, HasLengths, HasRanges, HasBytes, HasTexts, IsSlotCount}
use Rattle.ipc_column.specs.checks.Rules.{IsFieldNode, IsWithinBody, HoldValues, HoldOffsets, IsLongEnough, CountsNulls, AreOffsets}
use Rattle.ipc_column.specs.checks.Rules.{HasOffsets, HasWholeBitmap}
use Rattle.ipc_column.specs.checks.Rules.{HasUtf8Texts, HasLongChildren, HoldsIndices, HasIndices}
use Rattle.ipc_column.specs.Dictionaries.{Dictionaries}
use Rattle.ipc_column.specs.checks.Checks.{is_slot_count, is_node, is_within_body, all, all_below, holds_values, holds_offsets}
use Rattle.ipc_column.specs.checks.Checks.{is_ascending_at}
use Rattle.ipc_column.specs.checks.Checks.{are_ascending, in_order, passes, top_passes, fits, have_slots, children_have_slots}
use Rattle.ipc_column.specs.Values.{offset, offset_position}
use Rattle.ipc_column.proofs.Below.{below_from, decides_below}
use Rattle.ipc_column.proofs.visited.Shown.{of_good, of_indexed, of_when}
use Rattle.ipc_column.proofs.lending.Slices.{above}
use Rattle.ipc_model.specs.declared.limits.Limits.{Limits}

-- ---- numbers

of_test : (b : Bool) → Decides b (T b)
of_test true = (λ e. tt, λ t. refl)
of_test false = (λ e. absurd (cc), λ t. absurd t)

of_le : (a b : ℤ) → Decides (int_le a b) (a ≤ℤ b)
of_le a b = Decides-like (int_le a b) (λ t. record { le = t }) (λ h. h.le) (of_test (int_le a b))

-- the test of a number of slots decides whether it is from 0 to the most slots
pub of_slot_count : {limits : Limits} → (z : ℤ) → Decides (is_slot_count limits z) (IsSlotCount limits z)
of_slot_count {limits} z =
    Decides-like (is_slot_count limits z) (λ p. record { from = p.0; to = p.1 }) (λ h. (h.from, h.to))
    (Decides-and _ _ (of_le (pos 0) z) (of_le z (pos limits.slots)))

of_node : {limits : Limits} → (n : ℤ × ℤ) → Decides (is_node limits n) (IsFieldNode limits n)
of_node {limits} n =
    Decides-like (is_node limits n) (λ p. record { slots = p.0; nulls_from = p.1.0; nulls_to = p.1.1 })
    (λ h. (h.slots, (h.nulls_from, h.nulls_to)))
    (Decides-and _ _ (of_slot_count n.0) (Decides-and _ _ (of_le (pos 0) n.1) (of_le n.1 n.0)))

-- the test of two numbers decides whether the first is at most the second
pub of_bound : (least most : ℕ) → Decides (nat_le least most) (least ≤ most)
of_bound least most = (λ e. leb-true least most e, λ h. le-leb least most h)

-- a bound that counts only where there is something
of_least : (n least most : ℕ) → Decides (n == 0 || nat_le least most) (0 < n → least ≤ most)
of_least n least most = (λ e l. grind (arith, nat_tests), λ h. grind (arith, nat_tests))

-- the end of a range
of_end : (size : ℕ) (a b : ℤ) → pos 0 ≤ℤ a → pos 0 ≤ℤ b
    → Decides (unsigned_abs b == 0 || nat_le (unsigned_abs a + unsigned_abs b) size) (pos 0 <ℤ b → (a +ℤ b) ≤ℤ pos size)
of_end size (pos m) (pos n) h k =
    Decides-like _
    (λ f l. let g : m + n ≤ size = f (omega (arith, ints, l)) in omega (arith, ints, g))
    (λ f l. let g : (pos m +ℤ pos n) ≤ℤ pos size = f (omega (arith, ints, l)) in omega (arith, ints, g))
    (of_least n (m + n) size)
of_end size (negsuc m) b h k = absurd (omega (arith, ints))
of_end size a (negsuc n) h k = absurd (omega (arith, ints))

of_range : (size : ℕ) (r : ℤ × ℤ) → Decides (is_within_body size r) (IsWithinBody size r)
of_range size r = (
  λ e.
      let p = and_parts _ _ e in
      let q = and_parts _ _ p.1 in
      let a = (of_le (pos 0) r.0).0 p.0 in
      let b = (of_le (pos 0) r.1).0 q.0 in
      record { offset = a; bytes = b; within = (of_end size r.0 r.1 a b).0 q.1 },
  λ h. and_from _ _ ((of_le (pos 0) r.0).1 h.offset)
      (and_from _ _ ((of_le (pos 0) r.1).1 h.bytes) ((of_end size r.0 r.1 h.offset h.bytes).1 h.within)),
)

-- the test of the nodes decides whether each has a length, and a null count that is at most the length
pub of_nodes : {limits : Limits} → (nodes : List (ℤ × ℤ)) → Decides (all (is_node limits) nodes) (All (IsFieldNode limits) nodes)
of_nodes {limits} nodes = Decides-by_and (is_node limits) (IsFieldNode limits) (all (is_node limits)) of_node refl (λ _ _. refl) nodes

-- ---- columns

of_values : (l : Layout) (n bytes : ℕ) → Decides (holds_values l n bytes) (HoldValues l n bytes)
of_values l.Bits n bytes = of_bound ((n + 7) / 8) bytes
of_values (l.Numbers bits signed) n bytes = of_bound (number_bytes bits * n) bytes
of_values (l.FixedBytes width) n bytes = of_bound (width * n) bytes
of_values (l.Indices bits signed id) n bytes = of_bound (number_bytes bits * n) bytes
of_values _ n bytes = (λ e. tt, λ h. refl)

-- a test of what there is, where there is something
pub of_some : {P : Type 0} (n : ℕ) (b : Bool) → Decides b P → Decides (n == 0 || b) (0 < n → P)
of_some zero b d = (λ e l. absurd (omega arith), λ h. refl)
of_some (suc n) b d =
    let some : (suc n == 0) ≡ false = ne_eqb (suc n) 0 (omega arith) in
    Decides-at _ b (rw some refl) (Decides-like b (λ f l. f) (λ h. h (omega arith)) d)

of_offsets_bytes : (l : Layout) (n bytes : ℕ) → Decides (holds_offsets l n bytes) (HoldOffsets l n bytes)
of_offsets_bytes (l.VariableBytes utf8) n bytes = of_some n _ (of_bound (4 * (n + 1)) bytes)
of_offsets_bytes l.Lists n bytes = of_some n _ (of_bound (4 * (n + 1)) bytes)
of_offsets_bytes _ n bytes = (λ e. tt, λ h. refl)

pub of_bytes : (c : Column) (children : Columns) → Decides (passes fault.BufferTooShort c children) (IsLongEnough c)
of_bytes c children =
    Decides-like (passes fault.BufferTooShort c children) (λ p. record { bitmap = p.0; values = p.1.0; offsets = p.1.1 })
    (λ h. (h.bitmap, (h.values, h.offsets)))
    (Decides-and _ _ (of_least (length c.validity) _ (length c.validity))
    (Decides-and _ _ (of_values c.layout c.slots (length c.values)) (of_offsets_bytes c.layout c.slots (length c.offsets))))

of_nulls : (nulls bytes least clear : ℕ)
    → Decides (not (bytes == 0 || nat_le least bytes) || (nulls == cond (bytes == 0) 0 clear))
    ((0 < bytes → least ≤ bytes → nulls ≡ clear) × (bytes ≡ 0 → nulls ≡ 0))
of_nulls nulls zero least clear = Decides-like (nulls == 0) (λ e. (λ l m. absurd (omega arith), λ z. e)) (λ h. h.1 refl)
    (Decides-eqb nulls 0)
of_nulls nulls (suc bytes) least clear =
    let some : (suc bytes == 0) ≡ false = ne_eqb (suc bytes) 0 (omega arith) in
    Decides-at _ (not (nat_le least (suc bytes)) || (nulls == clear)) (rw some refl)
    (Decides-like _ (λ f. (λ l m. f m, λ z. absurd (omega arith))) (λ h. h.0 (omega arith))
    (of_when _ _ (of_bound least (suc bytes)) (Decides-eqb nulls clear)))

-- the null count of a column whose bitmap is whole
abbrev pub CountsIfWhole : Column → Columns → Type 0
CountsIfWhole c children = HasWholeBitmap c → CountsNulls c

of_null_count : (c : Column) (children : Columns) → Decides (passes fault.BadNullCount c children) (CountsIfWhole c children)
of_null_count c children =
    Decides-like (passes fault.BadNullCount c children)
    (λ f whole. record { with_bitmap = λ v some. (f v).0 some (whole some); without_bitmap = λ v. (f v).1 })
    (λ h v. (
      (λ some long. (h (λ _. long)).with_bitmap v some),
      λ none. (h (λ some. absurd (omega (arith, some, none)))).without_bitmap v none,
    ))
    (of_when (has_validity c.layout) _ (λ e. e, λ e. e) (of_nulls c.nulls (length c.validity) _ _))

-- a number that isn't negative is its absolute value
of_last : (z : ℤ) (size : ℕ) → int_le (pos 0) z ≡ true → Decides (nat_le (unsigned_abs z) size) (z ≤ℤ pos size)
of_last (pos m) size h = of_le (pos m) (pos size)
of_last (negsuc m) size h = absurd (cc)

-- offsets in order
of_ascending : (o : List ℕ) (n size : ℕ) → Decides (are_ascending o n size) (AreOffsets o n (λ end. end ≤ℤ pos size))
of_ascending o n size = (
  λ e.
      let p = and_parts (int_le (pos 0) (offset o 0)) (all_below (is_ascending_at o) n && nat_le (offset_position o n) size) e in
      let q = and_parts (all_below (is_ascending_at o) n) (nat_le (offset_position o n) size) p.1 in
      record {
        from = (of_le (pos 0) (offset o 0)).0 p.0;
        order = (of_ascending_at o n).0 q.0;
        to = (of_last (offset o n) size (above o n n p.0 q.0 (omega arith))).0 q.1;
      },
  λ h.
      let from = (of_le (pos 0) (offset o 0)).1 h.from in
      let order = (of_ascending_at o n).1 h.order in
      and_from _ _ from (and_from _ _ order ((of_last (offset o n) size (above o n n from order (omega arith))).1 h.to)),
)
  where
    of_ascending_at : (o : List ℕ) (n : ℕ) → Decides (all_below (is_ascending_at o) n) ((i : ℕ) → i < n → offset o i ≤ℤ offset o (i + 1))
    of_ascending_at o n = decides_below (is_ascending_at o) (λ i. offset o i ≤ℤ offset o (i + 1))
        (λ i. of_le (offset o i) (offset o (i + 1))) n

pub of_each_top : (test : Column → Bool) (P : Column → Type 0) → ((c : Column) → Decides (test c) (P c)) → (cs : Columns)
    → Decides (every_top test cs) (EachTop P cs)
of_each_top test P d none = (λ e. tt, λ h. refl)
of_each_top test P d (column c children rest) = Decides-and _ _ (d c) (of_each_top test P d rest)

pub of_have_slots : (n : ℕ) (cs : Columns) → Decides (have_slots n cs) (EachTop (λ c. n ≤ c.slots) cs)
of_have_slots n cs = of_each_top (λ c. nat_le n c.slots) (λ c. n ≤ c.slots) (λ c. of_bound n c.slots) cs

-- offsets into the slots of a child
of_lists : (o : List ℕ) (n : ℕ) (cs : Columns) → Decides (are_ascending o n (offset_position o n) && have_slots (offset_position o n) cs)
    (AreOffsets o n (λ end. EachTop (λ c. end ≤ℤ pos c.slots) cs))
of_lists o n cs = (
  λ e.
      let p = and_parts (are_ascending o n (offset_position o n)) (have_slots (offset_position o n) cs) e in
      let h = (of_ascending o n (offset_position o n)).0 p.0 in
      record { from = h.from; order = h.order; to = (ends p.0).0 p.1 },
  λ h.
      let both : are_ascending o n (offset_position o n) ≡ true = (of_ascending o n (offset_position o n)).1 (record {
        from = h.from;
        order = h.order;
        to = last h.from h.order;
      }) in
      and_from _ _ both ((ends both).1 h.to),
)
  where
    last : pos 0 ≤ℤ offset o 0 → ((i : ℕ) → i < n → offset o i ≤ℤ offset o (i + 1)) → offset o n ≤ℤ pos (offset_position o n)
    last from order =
        let start = (of_le (pos 0) (offset o 0)).1 from in
        let rise : all_below (is_ascending_at o) n ≡ true = below_from (is_ascending_at o) n
        (λ i l. (of_le (offset o i) (offset o (i + 1))).1 (order i l)) in
        (of_last (offset o n) (offset_position o n) (above o n n start rise (omega arith))).0
        (le-leb (offset_position o n) (offset_position o n) (omega arith))

    ends : are_ascending o n (offset_position o n) ≡ true → Decides (have_slots (offset_position o n) cs)
        (EachTop (λ c. offset o n ≤ℤ pos c.slots) cs)
    ends h =
        let p = and_parts (int_le (pos 0) (offset o 0)) (all_below (is_ascending_at o) n
        && nat_le (offset_position o n) (offset_position o n)) h in
        let q = and_parts (all_below (is_ascending_at o) n) (nat_le (offset_position o n) (offset_position o n)) p.1 in
        of_each_top (λ c. nat_le (offset_position o n) c.slots) (λ c. offset o n ≤ℤ pos c.slots)
        (λ c. of_last (offset o n) c.slots (above o n n p.0 q.0 (omega arith))) cs

pub of_order : (l : Layout) (n : ℕ) (o : List ℕ) (size : ℕ) (cs : Columns)
    → Decides (in_order l n o size cs) (HoldOffsets l n (length o) → HasOffsets l n o size cs)
of_order (l.VariableBytes utf8) n o size cs = Decides-like _ (λ f whole some. f some (whole some)) (λ h some long. h (λ _. long) some)
    (of_some n _ (of_when _ _ (of_bound (4 * (n + 1)) (length o)) (of_ascending o n size)))
of_order l.Lists n o size cs = Decides-like _ (λ f whole some. f some (whole some)) (λ h some long. h (λ _. long) some)
    (of_some n _ (of_when _ _ (of_bound (4 * (n + 1)) (length o)) (of_lists o n cs)))
of_order _ n o size cs = (λ e whole. tt, λ h. refl)

-- the offsets of a column that has all of them
abbrev pub OrderIfWhole : Column → Columns → Type 0
OrderIfWhole c children = HoldOffsets c.layout c.slots (length c.offsets)
    → HasOffsets c.layout c.slots c.offsets (length c.values) children

pub of_long : (l : Layout) (n : ℕ) (cs : Columns) → Decides (children_have_slots l n cs) (HasLongChildren l n cs)
of_long l.Structs n cs = of_have_slots n cs
of_long (l.FixedLists size) n cs = of_have_slots (size * n) cs
of_long _ n cs = (λ e. tt, λ h. refl)

of_each : (test : Column → Columns → Bool) (P : Column → Columns → Type 0)
    → ((c : Column) (children : Columns) → Decides (test c children) (P c children)) → (cs : Columns)
    → Decides (every test cs) (Each P cs)
of_each test P d none = (λ e. tt, λ h. refl)
of_each test P d (column c children rest) = Decides-and _ _ (d c children) (Decides-and _ _ (of_each test P d children)
    (of_each test P d rest))

-- what follows of each column, at every level
each_from : (P Q R : Column → Columns → Type 0) → ((c : Column) (children : Columns) → P c children → Q c children → R c children)
    → (cs : Columns) → Each P cs → Each Q cs → Each R cs
each_from P Q R f none p q = tt
each_from P Q R f (column c children rest) p q =
    (f c children p.0 q.0, (each_from P Q R f children p.1.0 q.1.0, each_from P Q R f rest p.1.1 q.1.1))

-- null counts and offsets are right where the buffers are long enough
module _ (cs : Columns) where
  pub counts_long : Each (λ c children. IsLongEnough c) cs → Each CountsIfWhole cs → Each (λ c children. CountsNulls c) cs
  counts_long = each_from (λ c children. IsLongEnough c) CountsIfWhole (λ c children. CountsNulls c) (λ c children long h. h long.bitmap) cs

  pub order_long : Each (λ c children. IsLongEnough c) cs → Each OrderIfWhole cs
      → Each (λ c children. HasOffsets c.layout c.slots c.offsets (length c.values) children) cs
  order_long = each_from (λ c children. IsLongEnough c) OrderIfWhole
      (λ c children. HasOffsets c.layout c.slots c.offsets (length c.values) children) (λ c children long h. h long.offsets) cs

  pub counts_whole : Each (λ c children. CountsNulls c) cs → Each CountsIfWhole cs
  counts_whole h = each_from (λ c children. CountsNulls c) (λ c children. CountsNulls c) CountsIfWhole (λ c children h g whole. h) cs h h

  pub order_whole : Each (λ c children. HasOffsets c.layout c.slots c.offsets (length c.values) children) cs → Each OrderIfWhole cs
  order_whole h = each_from (λ c children. HasOffsets c.layout c.slots c.offsets (length c.values) children)
      (λ c children. HasOffsets c.layout c.slots c.offsets (length c.values) children) OrderIfWhole (λ c children h g whole. h) cs h h

-- ---- the parts

-- all columns pass a test that asks nothing
pub every_true : (cs : Columns) → every (λ c children. true) cs ≡ true
every_true none = refl
every_true (column c children rest) = rw (every_true children, every_true rest) refl

-- all top columns pass a test that asks nothing
pub every_top_true : (cs : Columns) → every_top (λ c. true) cs ≡ true
every_top_true none = refl
every_top_true (column c children rest) = every_top_true rest

of_slots : (z : ℤ) → pos 0 ≤ℤ z → (n : ℕ) → Decides (n == unsigned_abs z) (pos n ≡ z)
of_slots (pos m) h n = Decides-like (n == m) (λ e. ap pos e) (λ e. ap unsigned_abs e) (Decides-eqb n m)
of_slots (negsuc m) h n = absurd (omega (arith, ints, h))

-- what is asked, by the cause that is answered where it doesn't hold
abbrev pub Asked : Limits → Fault → Dictionaries → List Field → BatchHead → List ℕ → Type 0
Asked limits fault.WrongNodeCount m fields head body = HasNodes fields head
Asked limits fault.WrongBufferCount m fields head body = HasBuffers fields head
Asked limits fault.BadNode m fields head body = HasLengths limits m fields head body
Asked limits fault.BufferOutOfBody m fields head body = HasRanges head body
Asked limits fault.BufferTooShort m fields head body = HasBytes m fields head body
Asked limits fault.BadNullCount m fields head body = Each CountsIfWhole (field_columns m fields head body)
Asked limits fault.BadOffsets m fields head body = Each OrderIfWhole (field_columns m fields head body)
Asked limits fault.ValueNotUtf8 m fields head body = HasTexts m fields head body
Asked limits fault.BadIndex m fields head body = HasIndices m fields head body
Asked limits _ m fields head body = ⊤

of_nothing : (cs : Columns) → Decides (every_top (λ c. true) cs && true) ⊤
of_nothing cs = (λ e. tt, λ h. and_from _ _ (every_top_true cs) refl)

-- columns of which nothing is asked pass
pub nothing_asked : (cs : Columns) → (true && (every (λ c children. true) cs && (every_top (λ c. true) cs && true))) ≡ true
nothing_asked cs = and_from _ _ refl (and_from _ _ (every_true cs) (and_from _ _ (every_top_true cs) refl))

of_head : (test : Bool) (P : Type 0) (cs : Columns) → Decides test P
    → Decides (test && (every (λ c children. true) cs && (every_top (λ c. true) cs && true))) P
of_head test P cs d = Decides-like _ (λ p. p.0) (λ h. (h, (every_true cs, tt)))
    (Decides-and _ _ d (Decides-and _ _ (λ e. e, λ e. e) (of_nothing cs)))

of_columns : (test : Column → Columns → Bool) (P : Column → Columns → Type 0) (cs : Columns)
    → ((c : Column) (children : Columns) → Decides (test c children) (P c children))
    → Decides (true && (every test cs && (every_top (λ c. true) cs && true))) (Each P cs)
of_columns test P cs d = Decides-like _ (λ p. p.0) (λ h. (h, tt)) (Decides-and _ _ (of_each test P d cs) (of_nothing cs))

of_visible : (test : Bool) (P : Type 0) (cs : Columns) → Decides test P
    → Decides (true && (every (λ c children. true) cs && (every_top (λ c. true) cs && test))) P
of_visible test P cs d = Decides-like _ (λ p. p.1.1) (λ h. (every_true cs, (every_top_true cs, h)))
    (Decides-and _ _ (λ e. e, λ e. e) (Decides-and _ _ (λ e. e, λ e. e) d))

of_lengths : {limits : Limits} → (m : Dictionaries) (fields : List Field) (head : BatchHead) (body : List ℕ)
    → Decides (fits limits m (shape_of fields) head body fault.BadNode) (HasLengths limits m fields head body)
of_lengths {limits} m fields head body =
    let cs = field_columns m fields head body in
    let n = unsigned_abs head.length in
    let top : Column → Bool = top_passes fault.BadNode n in
    let below = of_each (passes fault.BadNode) (λ c children. HasLongChildren c.layout c.slots children)
    (λ c children. of_long c.layout c.slots children) cs in
    let nodes = of_nodes head.nodes in (
      λ e.
          let p = and_parts (is_slot_count limits head.length && all (is_node limits) head.nodes) (every (passes fault.BadNode) cs
          && (every_top top cs && true)) e in
          let q = and_parts (is_slot_count limits head.length) (all (is_node limits) head.nodes) p.0 in
          let r = and_parts (every (passes fault.BadNode) cs) (every_top top cs && true) p.1 in
          let t = and_parts (every_top top cs) true r.1 in
          let batch = (of_slot_count head.length).0 q.0 in
          record {
            batch = batch;
            nodes = nodes.0 q.1;
            columns = (of_each_top top (λ c. pos c.slots ≡ head.length) (λ c. of_slots head.length batch.from c.slots) cs).0 t.0;
            children = below.0 r.0;
          },
      λ h.
          and_from (is_slot_count limits head.length && all (is_node limits) head.nodes) (every (passes fault.BadNode) cs
          && (every_top top cs && true))
          (and_from _ _ ((of_slot_count head.length).1 h.batch) (nodes.1 h.nodes))
          (and_from _ _ (below.1 h.children) (and_from _ _ ((of_each_top top (λ c. pos c.slots ≡ head.length)
          (λ c. of_slots head.length h.batch.from c.slots) cs).1 h.columns) refl)),
    )

of_rows : (test : Bool) (P : ℕ → Type 0) (n : ℕ) → Decides test ((i : ℕ) → 0 ≤ i → i < n → P i) → Decides test ((i : ℕ) → i < n → P i)
of_rows test P n d = Decides-like test (λ h i l. h i (omega arith) l) (λ h i z l. h i l) d

-- the test of the buffers' ranges decides whether each lies in the body
pub of_ranges : (head : BatchHead) (body : List ℕ) → Decides (all (is_within_body (length body)) head.buffers) (HasRanges head body)
of_ranges head body = Decides-by_and (is_within_body (length body)) (IsWithinBody (length body)) (all (is_within_body (length body)))
    (of_range (length body)) refl (λ _ _. refl) head.buffers

-- the test of each cause decides whether what the standard asks there holds
pub decides : (limits : Limits) (why : Fault) (m : Dictionaries) (fields : List Field) (head : BatchHead) (body : List ℕ)
    → Decides (fits limits m (shape_of fields) head body why) (Asked limits why m fields head body)
decides limits fault.WrongNodeCount m fields head body = of_head _ _ (field_columns m fields head body) (Decides-eqb _ _)
decides limits fault.WrongBufferCount m fields head body = of_head _ _ (field_columns m fields head body) (Decides-eqb _ _)
decides limits fault.BadNode m fields head body = of_lengths m fields head body
decides limits fault.BufferOutOfBody m fields head body = of_head _ _ (field_columns m fields head body) (of_ranges head body)
decides limits fault.BufferTooShort m fields head body = of_columns _ _ (field_columns m fields head body) of_bytes
decides limits fault.BadNullCount m fields head body = of_columns _ _ (field_columns m fields head body) of_null_count
decides limits fault.BadOffsets m fields head body =
    of_columns _ _ (field_columns m fields head body) (λ c children. of_order c.layout c.slots c.offsets (length c.values) children)
decides limits fault.ValueNotUtf8 m fields head body = of_visible _ _ (field_columns m fields head body)
    (of_rows _ (HasUtf8Texts (field_columns m fields head body)) (unsigned_abs head.length)
    (of_good (field_columns m fields head body) 0 (unsigned_abs head.length)))
decides limits fault.BadIndex m fields head body = of_visible _ _ (field_columns m fields head body)
    (of_rows _ (HoldsIndices (field_columns m fields head body)) (unsigned_abs head.length)
    (of_indexed (field_columns m fields head body) 0 (unsigned_abs head.length)))
decides limits _ m fields head body = of_head true ⊤ (field_columns m fields head body) (λ e. tt, λ h. refl)

-- a length that isn't negative is its absolute value
pub length_is : {limits : Limits} → (z : ℤ) → IsSlotCount limits z → z ≡ pos (unsigned_abs z)
length_is (pos n) h = refl
length_is (negsuc n) h = absurd (omega (arith, ints, h.from))
