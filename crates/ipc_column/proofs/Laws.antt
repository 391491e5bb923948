-- The relation and the tests agree: rows are one, and a refusal leaves none.
use Rattle.std.proofs.Common.{◌≡◌, ◌∙◌, refl, sym, ap, subst, List, [], ℕ, ◌<◌, true, false, length, get_or, Result, Ok, Err}
use Rattle.std.proofs.lemmas.Bool.{false≢true}
use Rattle.std.specs.Prelude.{Bool, ◌&&◌, IfOk, IfErr, IsErrAnd, MatchResult, pos, unsigned_abs, slice_index_or}
use Rattle.std.proofs.lemmas.List.{ext_get_or}
use Rattle.std.proofs.lemmas.Bool.{and_from, and_left, and_parts, and_right, eqb-true}
use Rattle.std.proofs.lemmas.Bool.Decides.{not_from_Decides}
use Rattle.ipc_model.specs.declared.fault.Fault.{Fault}
use Rattle.ipc_model.specs.declared.fault.Fault.TheVariants as fault
use Rattle.ipc_model.specs.declared.schema.Field.{Field}
use Rattle.ipc_model.specs.declared.value.Value.{Value}
use Rattle.ipc_meta.specs.declared.head.BatchHead.{BatchHead}
use Rattle.ipc_column.specs.Contents.{Contents}
use Rattle.ipc_column.specs.Columns.{Column, Columns, every, every_top}
use Rattle.ipc_column.specs.Shapes.{Shape, shape_of, field_columns, assigned_columns}
use Rattle.ipc_column.specs.Values.{row, rows_of}
use Rattle.ipc_column.specs.checks.Checks.{fits, head_passes, all, is_slot_count, is_node, CountsHold, AreCountsRight, PassTests, Passing}
use Rattle.ipc_column.specs.checks.Checks.{Failing}
use Rattle.ipc_column.specs.checks.Checks.{HeadHolds, passes, all_pass, is_shown}
use Rattle.ipc_column.specs.Rows.{Rows, RefusesParts, IsOneList, HasCounts, HasParts}
use Rattle.ipc_column.specs.Dictionaries.{Dictionaries}
use Rattle.ipc_column.proofs.Cells.{rows_length, rows_at}
use Rattle.ipc_column.proofs.Rules.{decides, length_is, of_nodes, of_ranges, of_slot_count, every_top_true, nothing_asked}
use Rattle.ipc_column.proofs.Rules.{counts_long, counts_whole, order_long, order_whole}
use Rattle.ipc_model.specs.declared.limits.Limits.{Limits}

-- the rows of columns, by index
rows_values : (rows : List (List Value)) (m : Dictionaries) (fields : List Field) (head : BatchHead) (body : List ℕ) (n : ℕ)
    → rows ≡ rows_of (field_columns m fields head body) n
    → (i : ℕ) → i < length rows → slice_index_or rows i [] ≡ row (field_columns m fields head body) i
rows_values rows m fields head body n e i l =
    let size : length rows ≡ n = ap (λ (x : List (List Value)). length x) e ∙ rows_length (field_columns m fields head body) n in
    ap (λ (x : List (List Value)). get_or x i []) e ∙ rows_at (field_columns m fields head body) n i [] (rw size at l)

-- the rows found where every test passes are the rows of the parts
pub rows_from : {limits : Limits} → (m : Dictionaries) (fields : List Field) (head : BatchHead) (body : List ℕ) (rows : List (List Value))
    → Passing limits m (shape_of fields) head body rows → Rows limits m fields head body rows
rows_from {limits} m fields head body rows p =
    let lengths = (decides limits fault.BadNode m fields head body).0 (p.sound fault.BadNode) in
    let bytes = (decides limits fault.BufferTooShort m fields head body).0 (p.sound fault.BufferTooShort) in
    let cs = field_columns m fields head body in
    record {
      nodes = (decides limits fault.WrongNodeCount m fields head body).0 (p.sound fault.WrongNodeCount);
      buffers = (decides limits fault.WrongBufferCount m fields head body).0 (p.sound fault.WrongBufferCount);
      lengths = lengths;
      ranges = (decides limits fault.BufferOutOfBody m fields head body).0 (p.sound fault.BufferOutOfBody);
      bytes = bytes;
      null_counts = counts_long cs bytes ((decides limits fault.BadNullCount m fields head body).0 (p.sound fault.BadNullCount));
      order = order_long cs bytes ((decides limits fault.BadOffsets m fields head body).0 (p.sound fault.BadOffsets));
      texts = (decides limits fault.ValueNotUtf8 m fields head body).0 (p.sound fault.ValueNotUtf8);
      indices = (decides limits fault.BadIndex m fields head body).0 (p.sound fault.BadIndex);
      count = length_is head.length lengths.batch
          ∙ ap (λ (n : ℕ). pos n) (sym (ap (λ (x : List (List Value)). length x) p.values
          ∙ rows_length (field_columns m fields head body) (unsigned_abs head.length)));
      values = rows_values rows m fields head body (unsigned_abs head.length) p.values;
    }

rows_are : {limits : Limits} → (m : Dictionaries) (fields : List Field) (head : BatchHead) (body : List ℕ) (rows : List (List Value))
    → Rows limits m fields head body rows
    → rows ≡ rows_of (field_columns m fields head body) (length rows)
rows_are m fields head body rows w =
    ext_get_or [] rows (rows_of (field_columns m fields head body) (length rows)) (sym (rows_length (field_columns m fields head body)
    (length rows)))
    (λ i l. w.values i l ∙ sym (rows_at (field_columns m fields head body) (length rows) i [] l))

-- the parts of a batch give one list of rows at most
pub one_list : IsOneList
one_list limits others m fields head body rows more a b =
    let size : length rows ≡ length more = ap unsigned_abs (sym a.count ∙ b.count) in
    rows_are m fields head body rows a ∙ (ap (rows_of (field_columns m fields head body)) size ∙ sym (rows_are m fields head body more b))

has_counts : {limits : Limits} → (fields : List Field) (head : BatchHead) (body : List ℕ)
    → CountsHold limits (shape_of fields) head (length body)
    → HasCounts fields head
has_counts fields head body h = record { nodes = eqb-true _ _ h.nodes; buffers = eqb-true _ _ h.buffers }

has_parts : {limits : Limits} → (fields : List Field) (head : BatchHead) (body : List ℕ) → HeadHolds limits (shape_of fields) head body
    → HasParts limits fields head body
has_parts {limits} fields head body h =
    let own = and_parts (is_slot_count limits head.length) (all (is_node limits) head.nodes) (h fault.BadNode) in
    record {
      counts = has_counts {limits = limits} fields head body (record {
        nodes = h fault.WrongNodeCount;
        buffers =
            h fault.WrongBufferCount;
      });
      batch = (of_slot_count head.length).0 own.0;
      bounds = (of_nodes head.nodes).0 own.1;
      ranges = (of_ranges head body).0 (h fault.BufferOutOfBody);
    }

-- a fault whose test fails is true of the parts
pub refuses_from : (limits : Limits) (f : Fault) (m : Dictionaries) (fields : List Field) (head : BatchHead) (body : List ℕ)
    → Failing limits f m (shape_of fields) head body
    → RefusesParts limits f m fields head body
refuses_from limits fault.WrongNodeCount m fields head body r = not_from_Decides _
    (decides limits fault.WrongNodeCount m fields head body) r
refuses_from limits fault.WrongBufferCount m fields head body r = not_from_Decides _
    (decides limits fault.WrongBufferCount m fields head body)
    r
refuses_from limits fault.BadNode m fields head body r =
    (has_counts fields head body r.0, not_from_Decides _ (decides limits fault.BadNode m fields head body) r.1)
refuses_from limits fault.BufferOutOfBody m fields head body r =
    (has_counts fields head body r.0, not_from_Decides _ (decides limits fault.BufferOutOfBody m fields head body) r.1)
refuses_from limits fault.BufferTooShort m fields head body r =
    (has_parts fields head body r.0, not_from_Decides _ (decides limits fault.BufferTooShort m fields head body) r.1)
refuses_from limits fault.BadNullCount m fields head body r =
    (has_parts fields head body r.0, not_from_Decides _ (decides limits fault.BadNullCount m fields head body) r.1)
refuses_from limits fault.BadOffsets m fields head body r =
    (has_parts fields head body r.0, not_from_Decides _ (decides limits fault.BadOffsets m fields head body) r.1)
refuses_from limits fault.ValueNotUtf8 m fields head body r =
    let bytes = (decides limits fault.BufferTooShort m fields head body).0 r.1.0 in (
      has_parts fields head body r.0,
      (
        bytes,
        order_long (field_columns m fields head body) bytes ((decides limits fault.BadOffsets m fields head body).0 r.1.1),
        not_from_Decides _ (decides limits fault.ValueNotUtf8 m fields head body) r.1.2,
      ),
    )
refuses_from limits fault.BadIndex m fields head body r =
    let bytes = (decides limits fault.BufferTooShort m fields head body).0 r.1.0 in (
      has_parts fields head body r.0,
      (
        bytes,
        order_long (field_columns m fields head body) bytes ((decides limits fault.BadOffsets m fields head body).0 r.1.1),
        not_from_Decides _ (decides limits fault.BadIndex m fields head body) r.1.2,
      ),
    )
refuses_from limits fault.OutOfMemory m fields head body r = tt
refuses_from limits _ m fields head body r = absurd r

-- and then there are no rows
pub no_rows : {limits : Limits} → (f : Fault) (m : Dictionaries) (fields : List Field) (head : BatchHead) (body : List ℕ) (rows : List
    (List Value))
    → RefusesParts limits f m fields head body → Rows limits m fields head body rows → f ≡ fault.OutOfMemory
no_rows fault.OutOfMemory m fields head body rows r w = refl
no_rows fault.WrongNodeCount m fields head body rows r w = absurd (r w.nodes)
no_rows fault.WrongBufferCount m fields head body rows r w = absurd (r w.buffers)
no_rows fault.BadNode m fields head body rows r w = absurd (r.1 w.lengths)
no_rows fault.BufferOutOfBody m fields head body rows r w = absurd (r.1 w.ranges)
no_rows fault.BufferTooShort m fields head body rows r w = absurd (r.1 w.bytes)
no_rows fault.BadNullCount m fields head body rows r w = absurd (r.1 (counts_whole (field_columns m fields head body) w.null_counts))
no_rows fault.BadOffsets m fields head body rows r w = absurd (r.1 (order_whole (field_columns m fields head body) w.order))
no_rows fault.ValueNotUtf8 m fields head body rows r w = absurd (r.1.2 w.texts)
no_rows fault.BadIndex m fields head body rows r w = absurd (r.1.2 w.indices)
no_rows _ m fields head body rows r w = absurd r

-- where parts give rows, the call that reads them answers those rows, unless memory ran out
pub only_rows : {limits : Limits} → (m : Dictionaries) (fields : List Field) (head : BatchHead) (body : List ℕ) (r : Result Contents Fault)
    → IfOk r (λ b. Rows limits m fields head body b.rows) → IfErr r (λ f. RefusesParts limits f m fields head body)
    → (rows : List (List Value)) → Rows limits m fields head body rows → MatchResult r (λ b. b.rows ≡ rows) (λ f. f ≡ fault.OutOfMemory)
only_rows {limits} m fields head body (Ok b) a r rows w = one_list limits limits m fields head body b.rows rows a w
only_rows {limits} m fields head body (Err f) a r rows w = no_rows f m fields head body rows r w

-- where the call answers what passes every test, it answers the rows of the parts
pub ok_rows : (limits : Limits) (m : Dictionaries) (fields : List Field) (head : BatchHead) (body : List ℕ) (r : Result Contents Fault)
    → IfOk r (λ b. Passing limits m (shape_of fields) head body b.rows) → IfOk r (λ b. Rows limits m fields head body b.rows)
ok_rows limits m fields head body (Ok b) h = rows_from m fields head body b.rows h
ok_rows limits m fields head body (Err f) h = h

-- where the call answers a fault whose test fails, that fault is true of the parts
pub err_refuses : (limits : Limits) (m : Dictionaries) (fields : List Field) (head : BatchHead) (body : List ℕ) (r : Result Contents Fault)
    → IfErr r (λ f. Failing limits f m (shape_of fields) head body) → IfErr r (λ f. RefusesParts limits f m fields head body)
err_refuses limits m fields head body (Ok b) h = h
err_refuses limits m fields head body (Err f) h = refuses_from limits f m fields head body h

-- what the passes found, of the columns that were cut
pub passing : {limits : Limits} → (m : Dictionaries) (shape : Shape) (head : BatchHead) (body : List ℕ) (n : ℕ) (cs : Columns)
    → n ≡ unsigned_abs head.length
    → cs ≡ assigned_columns m shape head body 0 0
    → ((why : Fault) → head_passes limits why shape head (length body) ≡ true) → PassTests n cs
    → Passing limits m shape head body (rows_of cs n)
passing m shape head body n cs en ec h p = record {
  sound = λ why. and_from _ _ (h why) (rw (en, ec) at (p why));
  values = rw (en, ec) refl;
}

-- what a refused head says
pub head_failing : (limits : Limits) (why : Fault) (m : Dictionaries) (shape : Shape) (head : BatchHead) (body : List ℕ)
    → head_passes limits why shape head (length body) ≡ false
    → AreCountsRight limits why shape head (length body) → Failing limits why m shape head body
head_failing limits fault.WrongNodeCount m shape head body h n = and_left _ _ h
head_failing limits fault.WrongBufferCount m shape head body h n = and_left _ _ h
head_failing limits fault.BadNode m shape head body h n = (n, and_left _ _ h)
head_failing limits fault.BufferOutOfBody m shape head body h n = (n, and_left _ _ h)
head_failing limits _ m shape head body h n = absurd (cc)

-- what refused columns say
pub columns_failing : (limits : Limits) (why : Fault) (m : Dictionaries) (shape : Shape) (head : BatchHead) (body : List ℕ) (n : ℕ)
    (cs : Columns)
    → n ≡ unsigned_abs head.length
    → cs ≡ assigned_columns m shape head body 0 0
    → HeadHolds limits shape head body → all_pass why n cs ≡ false → (is_shown why ≡ true → (other : Fault)
    → every (passes other) cs ≡ true)
    → Failing limits why m shape head body
columns_failing limits why m shape head body n cs en ec h f t =
    of_cause why (and_right (head_passes limits why shape head (length body)) _ (rw (en, ec) at f)) (λ e other. rw ec at (t e other))
  where
    counts : CountsHold limits shape head (length body)
    counts = record { nodes = h fault.WrongNodeCount; buffers = h fault.WrongBufferCount }

    holds : (test : Column → Columns → Bool) → every test (assigned_columns m shape head body 0 0) ≡ true
        → (true && (every test (assigned_columns m shape head body 0 0) && (every_top (λ c. true) (assigned_columns m shape head body 0 0)
        && true))) ≡ true
    holds test e = and_from (every test (assigned_columns m shape head body 0 0)) _ e
        (and_from _ _ (every_top_true (assigned_columns m shape head body 0 0)) refl)

    of_cause : (why : Fault) → fits limits m shape head body why ≡ false
        → (is_shown why ≡ true → (other : Fault) → every (passes other) (assigned_columns m shape head body 0 0) ≡ true)
        → Failing limits why m shape head body
    of_cause fault.WrongNodeCount e s = e
    of_cause fault.WrongBufferCount e s = e
    of_cause fault.BadNode e s = (counts, e)
    of_cause fault.BufferOutOfBody e s = (counts, e)
    of_cause fault.BufferTooShort e s = (h, e)
    of_cause fault.BadNullCount e s = (h, e)
    of_cause fault.BadOffsets e s = (h, e)
    of_cause fault.ValueNotUtf8 e s = (
      h,
      (
        holds (passes fault.BufferTooShort) (s refl fault.BufferTooShort),
        holds (passes fault.BadOffsets) (s refl fault.BadOffsets),
        e,
      ),
    )
    of_cause fault.BadIndex e s = (
      h,
      (
        holds (passes fault.BufferTooShort) (s refl fault.BufferTooShort),
        holds (passes fault.BadOffsets) (s refl fault.BadOffsets),
        e,
      ),
    )
    of_cause fault.OutOfMemory e s = tt
    of_cause _ e s = absurd (false≢true (sym e ∙ nothing_asked (assigned_columns m shape head body 0 0)))

-- an exit with the fault of a cause
pub exits : (limits : Limits) (r : Result Contents Fault) (f : Fault) (m : Dictionaries) (shape : Shape) (head : BatchHead) (body : List ℕ)
    → IsErrAnd r (λ e. e ≡ f)
    → Failing limits f m shape head body → IfErr r (λ e. Failing limits e m shape head body)
exits limits (Ok b) f m shape head body e h = absurd e
exits limits (Err d) f m shape head body e h = subst (λ (x : Fault). Failing limits x m shape head body) (sym e) h

-- and no batch
pub no_batch : (limits : Limits) (m : Dictionaries) (fields : List Field) (head : BatchHead) (body : List ℕ) (r : Result Contents Fault)
    (f : Fault) → IsErrAnd r (λ e. e ≡ f) → IfOk r (λ b. Rows limits m fields head body b.rows)
no_batch limits m fields head body (Ok b) f e = absurd e
no_batch limits m fields head body (Err d) f e = tt
