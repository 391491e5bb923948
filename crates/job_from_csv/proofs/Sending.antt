-- Rows gathered in batches, and batches sent.
use Rattle.std.proofs.Common.{◌≡◌, ◌⊎◌, ◌∙◌, refl, sym, ap, subst, ℕ, ◌<◌, inl, inr, List, [], ◌∷◌, ◌++◌, length}
use Rattle.std.proofs.Common.{Option, append_assoc, arith, get_or, length-append}
use Rattle.std.specs.Prelude.{flat_map, Ok, true}
use Rattle.std.specs.List.{AllByRecursion}
use Rattle.std.proofs.KnownBytes.{Appends-trans}
use Rattle.std.proofs.lemmas.List.{append-nil}
use Rattle.std.proofs.lemmas.List.Concat.{flat_map-append}
use Rattle.ipc_model.specs.declared.fault.WriteFault.TheVariants as w
use Rattle.ipc_model.specs.declared.limits.Limits.{Limits}
use Rattle.ipc_model.specs.declared.schema.Field.{Field}
use Rattle.ipc_model.specs.declared.schema.Schema.{Schema}
use Rattle.ipc_model.specs.declared.table.BatchRows.{BatchRows}
use Rattle.ipc_model.specs.declared.value.Value.{Value}
use Rattle.ipc_stream.specs.Dictionaries.{SendsBatch, SendsTable, kept_after, kept_at_start}
use Rattle.ipc_stream.specs.OpenStreams.{OpenStreamState}
use Rattle.ipc_stream.specs.Writer.{LeavesBatch, StartsWriter, Writer}
use Rattle.ipc_stream.specs.Writing.{AcceptsBatch, AcceptsSchema, RefusesBatch, Sent}
use Rattle.ipc_stream.proofs.Chains.{kept_then, schema_sends, table_more}
use Rattle.job_from_csv.specs.Batches.{AreBatched, AreFull, AreLimitsFor, IsFull, batch_of, in_bytes, in_rows, last_batch}
use Rattle.job_from_csv.specs.Conversion.{table_of_batches}
use Rattle.job_from_csv.specs.declared.batch_size.BatchSize.{BatchSize}
use Rattle.ipc_text_csv.specs.Records.{EachRecordReadsAs}
use Rattle.ipc_text_csv.specs.RowReaders.{FindsRow}
use Rattle.job_from_csv.specs.Steps.{BeginsConversion, Came, IsOut}
use Rattle.ipc_text_csv.specs.declared.row_reader.RowReader.{RowReader}
use Rattle.ipc_text_csv.specs.declared.dialect.Dialect.{Dialect}

-- ---- lists

-- what holds of all and of one more holds of these
pub all_push : {X : Type 0} (P : X → Type 0) (xs : List X) (x : X) → AllByRecursion P xs → P x → AllByRecursion P (xs ++ x ∷ [])
all_push P [] x all one = (one, tt)
all_push P (y ∷ xs) x all one = (all.0, all_push P xs x all.1 one)

-- the records but for the last read as the rows but for the last
pub each_front : (d : Dialect) (fields : List Field) (records : List (List (List ℕ))) (rows : List (List Value)) (texts : List (List ℕ))
    (row : List Value) → EachRecordReadsAs d fields (records ++ texts ∷ []) (rows ++ row ∷ []) → EachRecordReadsAs d fields records rows
each_front d fields [] [] texts row each = tt
each_front d fields [] (r ∷ []) texts row each = absurd each.1
each_front d fields [] (r ∷ q ∷ rows) texts row each = absurd each.1
each_front d fields (t ∷ []) [] texts row each = absurd each.1
each_front d fields (t ∷ u ∷ records) [] texts row each = absurd each.1
each_front d fields (t ∷ records) (r ∷ rows) texts row each = (each.0, each_front d fields records rows texts row each.1)

-- ---- the messages that are out

-- behind its start a writer has sent the schema, and no batch
pub starts_out : (size : BatchSize) (s : Schema) (old : Option (List ℕ)) (failures : ℕ) (writer : Writer) {limits : _}
    → AreLimitsFor size limits → StartsWriter limits s old failures writer → IsOut size s [] old failures writer
starts_out size s old failures writer {limits} within starts = record {
  within = subst (AreLimitsFor size) (sym starts.same_limits) within;
  same_schema = starts.same_schema;
  works = starts.works;
  sent = subst (λ l. Sent (SendsTable l (table_of_batches s [])) old writer.written failures writer.failures) (sym starts.same_limits)
      (record {
        x = starts.sent.x;
        whole = schema_sends limits s starts.sent.x starts.sent.whole;
        bytes = starts.sent.bytes;
        worked = starts.sent.worked;
        works = starts.sent.works;
      });
  kept = starts.nothing_kept;
  accepts_schema = subst (λ l. AcceptsSchema l s) (sym starts.same_limits) starts.accepts;
  accepts = tt;
}

module _ (size : BatchSize) (s : Schema) (batches : List BatchRows) (old : Option (List ℕ)) (failures : ℕ) (writer new : Writer)
    (out : IsOut size s batches old failures writer) (b : BatchRows) where
  -- what is true of the schema of the writer and of what it sent is true of these batches'
  pub as_out : (P : OpenStreamState → Type 0) → P (record {
    limits = writer.limits;
    schema = writer.schema;
    kept = writer.kept;
    seed =
        writer.seed;
  })
      → P (record { limits = writer.limits; schema = s; kept = kept_after s.fields (kept_at_start s) batches; seed = writer.seed })
  as_out P h = subst P (λ i. record { limits = writer.limits; schema = out.same_schema i; kept = out.kept i; seed = writer.seed }) h

  sent_more : Sent (SendsBatch writer.limits s (kept_after s.fields (kept_at_start s) batches) b) writer.written new.written writer.failures
      new.failures → Sent (SendsTable writer.limits (table_of_batches s (batches ++ b ∷ []))) old new.written failures new.failures
  sent_more sent = record {
    x = out.sent.x ++ sent.x;
    whole = table_more writer.limits s batches b out.sent.x sent.x out.sent.whole sent.whole;
    bytes = Appends-trans old writer.written new.written out.sent.x sent.x out.sent.bytes sent.bytes;
    worked = out.sent.worked;
    works = sent.works;
  }

  -- a batch that was sent is one batch more that is out
  pub batch_out : LeavesBatch writer b new (Ok tt) → AcceptsBatch writer.limits writer.schema b
      → IsOut size s (batches ++ b ∷ []) old failures new
  batch_out leaves accepts =
      let (worked, sent, same_schema, same_limits, works, kept, same_seed) = leaves in
      let first = as_out (λ z. Sent (SendsBatch z.limits z.schema z.kept b) writer.written new.written writer.failures new.failures) sent in
      let fits = as_out (λ z. AcceptsBatch z.limits z.schema b) accepts in
      let kept_here = as_out (λ z. new.kept ≡ kept_after z.schema.fields z.kept (b ∷ [])) kept in
      record {
        within = subst (AreLimitsFor size) (sym same_limits) out.within;
        same_schema = same_schema ∙ out.same_schema;
        works = works;
        sent = subst (λ l. Sent (SendsTable l (table_of_batches s (batches ++ b ∷ []))) old new.written failures new.failures)
            (sym same_limits)
            (sent_more first);
        kept = kept_here ∙ sym (kept_then s.fields (kept_at_start s) batches (b ∷ []));
        accepts_schema = subst (λ l. AcceptsSchema l s) (sym same_limits) out.accepts_schema;
        accepts = subst (λ l. AllByRecursion (AcceptsBatch l s) (batches ++ b ∷ [])) (sym same_limits)
            (all_push (AcceptsBatch writer.limits s) batches b out.accepts fits);
      }

-- where the rows that are left over are accepted as a batch, all batches are
pub all_accepted : (P : BatchRows → Type 0) (batches : List BatchRows) (left : List (List Value)) → AllByRecursion P batches
    → (0 < length left → P (batch_of left)) → AllByRecursion P (batches ++ last_batch left)
all_accepted P batches [] all one = subst (AllByRecursion P) (sym (append-nil batches)) all
all_accepted P batches (row ∷ left) all one = all_push P batches (batch_of (row ∷ left)) all (one (omega arith))

-- ---- batches that are full before the rows that come next

-- the rows of batches and of one batch more
joined_more : (batches : List BatchRows) (rows next : List (List Value))
    → flat_map (λ b. b.rows) batches ++ (rows ++ next) ≡ flat_map (λ b. b.rows) (batches ++ batch_of rows ∷ []) ++ next
joined_more batches rows next =
    let before = flat_map (λ b. b.rows) batches in
    sym (append_assoc before rows next)
    ∙ ap (λ z. z ++ next) (sym (flat_map-append (λ b. b.rows) batches (batch_of rows ∷ []) ∙ ap (λ z. before ++ z) (append-nil rows)))

-- a batch without pairs is that of its rows
as_batch : (b : BatchRows) → b.pairs ≡ [] → b ≡ batch_of b.rows
as_batch b bare = λ i. record { pairs = bare i; rows = b.rows }

-- where rows are left over they are the last batch
pub last_is : (left : List (List Value)) → 0 < length left → last_batch left ≡ batch_of left ∷ []
last_is [] some = absurd (omega (arith, some))
last_is (r ∷ left) some = refl

module _ (limits : Limits) (s : Schema) (size : BatchSize) where
  -- a batch stays full where more rows come at the end
  full_then : (rows next more : List (List Value)) → IsFull limits s size rows next → IsFull limits s size rows (next ++ more)
  full_then rows next more (in_rows full) = in_rows full
  full_then rows next more (in_bytes bytes some few row rest is long) =
      in_bytes bytes some few row (rest ++ more) (ap (λ z. z ++ more) is) long

  are_full_then : (batches : List BatchRows) (left more : List (List Value)) → AreFull limits s size batches left
      → AreFull limits s size batches (left ++ more)
  are_full_then [] left more full = tt
  are_full_then (b ∷ batches) left more (bare, here, rest) = (
    bare,
    subst (IsFull limits s size b.rows) (append_assoc (flat_map (λ c. c.rows) batches) left more)
        (full_then b.rows (flat_map (λ c. c.rows) batches ++ left) more here),
    are_full_then batches left more rest,
  )

  -- the first of the rows that come next are one full batch more
  are_full_more : (batches : List BatchRows) (rows next : List (List Value)) → AreFull limits s size batches (rows ++ next)
      → IsFull limits s size rows next → AreFull limits s size (batches ++ batch_of rows ∷ []) next
  are_full_more [] rows next full last = (refl, last, tt)
  are_full_more (b ∷ batches) rows next (bare, here, rest) last = (
    bare,
    subst (IsFull limits s size b.rows) (joined_more batches rows next) here,
    are_full_more batches rows next rest last,
  )

  -- ---- the rows without the last one

  -- without the last of the rows that come next a batch is full, or that row alone comes next
  full_front : (rows next : List (List Value)) (row : List Value) → IsFull limits s size rows (next ++ row ∷ [])
      → IsFull limits s size rows next ⊎ ((next ≡ []) × (0 < length rows) × (length rows < size.rows))
  full_front rows next row (in_rows full) = inl (in_rows full)
  full_front rows [] row (in_bytes bytes some few first rest is long) = inr (refl, some, few)
  full_front rows (x ∷ next) row (in_bytes bytes some few first rest is long) =
      let same : first ≡ x = sym (ap (λ rs. get_or rs 0 x) is) in
      inl (in_bytes bytes some few x next refl
      (subst (λ z. RefusesBatch limits s (batch_of (rows ++ z ∷ [])) w.TooLong) same long))

  -- full batches have rows
  none_joined : 0 < size.rows → (batches : List BatchRows) (left next : List (List Value)) → AreFull limits s size batches next
      → flat_map (λ b. b.rows) batches ++ left ≡ [] → batches ++ last_batch left ≡ []
  none_joined some [] left next full none = ap last_batch none
  none_joined some (b ∷ batches) left next (bare, here, rest) none =
      let whole = ap length none in
      let all = length-append (b.rows ++ flat_map (λ c. c.rows) batches) left in
      let own = length-append b.rows (flat_map (λ c. c.rows) batches) in
      absurd (none_full here (omega (arith, whole, all, own)))
    where
      none_full : {next : List (List Value)} → IsFull limits s size b.rows next → ¬ (length b.rows ≡ 0)
      none_full (in_rows full) = λ is. omega (arith, some, full, is)
      none_full (in_bytes bytes has few row rest is long) = λ none. omega (arith, has, none)

  -- the rows without the last one fill some batches, and make the same table
  abbrev pub WithoutLast : List BatchRows → List (List Value) → Type 0
  WithoutLast batches left = (fewer : List BatchRows) × (rest : List (List Value)) × AreFull limits s size fewer rest
      × (length rest < size.rows) × (flat_map (λ b. b.rows) fewer ++ rest ≡ flat_map (λ b. b.rows) batches ++ left)
      × (fewer ++ last_batch rest ≡ batches ++ last_batch left)

  pub without_last : 0 < size.rows → (batches : List BatchRows) (left : List (List Value)) (row : List Value) → length left < size.rows
      → AreFull limits s size batches (left ++ row ∷ []) → WithoutLast batches left
  without_last some [] left row few full = ([], left, tt, few, refl, refl)
  without_last some (b ∷ batches) left row few (bare, here, after) =
      let before = flat_map (λ c. c.rows) batches in
      one (without_last some batches left row few after)
      (full_front b.rows (before ++ left) row (subst (IsFull limits s size b.rows) (sym (append_assoc before left (row ∷ []))) here))
    where
      one : WithoutLast batches left → IsFull limits s size b.rows (flat_map (λ c. c.rows) batches ++ left)
          ⊎ ((flat_map (λ c. c.rows) batches ++ left ≡ []) × (0 < length b.rows) × (length b.rows < size.rows))
          → WithoutLast (b ∷ batches) left
      one (fewer, rest, full, less, joined, same) (inl own) = (
        b ∷ fewer,
        rest,
        (bare, subst (IsFull limits s size b.rows) (sym joined) own, full),
        less,
        append_assoc b.rows (flat_map (λ c. c.rows) fewer) rest
            ∙ (ap (λ z. b.rows ++ z) joined ∙ sym (append_assoc b.rows (flat_map (λ c. c.rows) batches) left)),
        ap (λ z. b ∷ z) same,
      )
      one smaller (inr (none, has, less)) = (
        [],
        b.rows,
        tt,
        less,
        sym (append_assoc b.rows (flat_map (λ c. c.rows) batches) left ∙ (ap (λ z. b.rows ++ z) none ∙ append-nil b.rows)),
        last_is b.rows has ∙ (λ i. sym (as_batch b bare) i ∷ sym (none_joined some batches left (left ++ row ∷ []) after none) i),
      )

-- ---- the records so far

module _ (d : Dialect) {R : Type 0} (remaining : R → Option (List ℕ)) (input : Option (List ℕ)) (s : Schema) (size : BatchSize) (old :
    Option (List ℕ))
    (failures : ℕ) (now : RowReader R) (writer : Writer) where
  -- at first none was read
  pub came_none : BeginsConversion d remaining input s size old failures now writer
      → Came d remaining input s size old failures now writer []
  came_none begins = record {
    records = [];
    rows = [];
    read = begins.0;
    batches = [];
    full = tt;
    joined = refl;
    out = begins.1;
  }

  module _ (left : List (List Value)) (came : Came d remaining input s size old failures now writer left) where
    -- one record more, whose row is kept
    pub came_more : (new : RowReader R) → FindsRow d remaining input s came.records came.rows new true
        → Came d remaining input s size old failures new writer (left ++ new.row ∷ [])
    came_more new finds = record {
      records = came.records ++ finds.0 ∷ [];
      rows = came.rows ++ new.row ∷ [];
      read = finds.1;
      batches = came.batches;
      full = are_full_then writer.limits s size came.batches left (new.row ∷ []) came.full;
      joined = sym (append_assoc (flat_map (λ b. b.rows) came.batches) left (new.row ∷ [])) ∙ ap (λ z. z ++ new.row ∷ []) came.joined;
      out = came.out;
    }

    -- where fewer rows are left than a batch has, the rows fill the batches that are out
    unfoldable pub came_fill : length left < size.rows → AreBatched d writer.limits s size came.records came.batches left
    came_fill few = record {
      flat = came.read.flat;
      rows = came.rows;
      read = came.read.read;
      fill = record { full = came.full; few = few; joined = came.joined };
    }

    -- where the first of the rows that are left are a full batch, and others come next
    module _ (rows next : List (List Value)) (is : left ≡ rows ++ next) (full : IsFull writer.limits s size rows next) where
      pub filled : AreFull writer.limits s size (came.batches ++ batch_of rows ∷ []) next
      filled = are_full_more writer.limits s size came.batches rows next
          (subst (AreFull writer.limits s size came.batches) is came.full) full

      pub filled_joined : flat_map (λ b. b.rows) (came.batches ++ batch_of rows ∷ []) ++ next ≡ came.rows
      filled_joined = sym (joined_more came.batches rows next)
          ∙ (ap (λ z. flat_map (λ b. b.rows) came.batches ++ z) (sym is) ∙ came.joined)

      -- the rows fill one batch more
      unfoldable pub came_filled : length next < size.rows
          → AreBatched d writer.limits s size came.records (came.batches ++ batch_of rows ∷ []) next
      came_filled few = record {
        flat = came.read.flat;
        rows = came.rows;
        read = came.read.read;
        fill = record { full = filled; few = few; joined = filled_joined };
      }

      -- the full batch went out
      pub came_sent : (new : Writer) → LeavesBatch writer (batch_of rows) new (Ok tt)
          → AcceptsBatch writer.limits writer.schema (batch_of rows) → Came d remaining input s size old failures now new next
      came_sent new leaves accepts = record {
        records = came.records;
        rows = came.rows;
        read = came.read;
        batches = came.batches ++ batch_of rows ∷ [];
        full = subst (λ l. AreFull l s size (came.batches ++ batch_of rows ∷ []) next) (sym (same_limits leaves)) filled;
        joined = filled_joined;
        out = batch_out size s came.batches old failures writer new came.out (batch_of rows) leaves accepts;
      }
        where
          same_limits : LeavesBatch writer (batch_of rows) new (Ok tt) → new.limits ≡ writer.limits
          same_limits (worked, sent, same_schema, same, works, kept, same_seed) = same

  -- without the last record, the table is the same but for its row
  pub came_before : 0 < size.rows → (left : List (List Value)) (row : List Value) (came : Came d remaining input s size old failures now
      writer (left ++ row ∷ [])) → length left < size.rows → (before : List (List (List ℕ))) (texts : List (List ℕ))
      → came.records ≡ before ++ texts ∷ [] → (fewer : List BatchRows) × (rest : List (List Value))
      × AreBatched d writer.limits s size before fewer rest × (fewer ++ last_batch rest ≡ came.batches ++ last_batch left)
  came_before some left row came few before texts is =
      let (fewer, rest, full, less, joined, same) = without_last writer.limits s size some came.batches left row few came.full in
      let rows : came.rows ≡ (flat_map (λ b. b.rows) came.batches ++ left) ++ row ∷ [] =
      sym came.joined ∙ sym (append_assoc (flat_map (λ b. b.rows) came.batches) left (row ∷ [])) in (
        fewer,
        rest,
        record {
          flat = came.read.flat;
          rows = flat_map (λ b. b.rows) came.batches ++ left;
          read = each_front d s.fields before (flat_map (λ b. b.rows) came.batches ++ left) texts row
              (subst (λ z. EachRecordReadsAs d s.fields (before ++ texts ∷ []) z) rows
              (subst (λ z. EachRecordReadsAs d s.fields z came.rows) is came.read.read));
          fill = record { full = full; few = less; joined = joined };
        },
        same,
      )
