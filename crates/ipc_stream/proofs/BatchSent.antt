-- The messages of a batch: those of the dictionaries that it needs, and its own.
use Rattle.std.proofs.Common.{◌≡◌, ◌∙◌, refl, sym, ap, subst, ℕ, zero, suc, ◌<◌, ◌≤◌, Bool, true}
use Rattle.std.proofs.Common.{false, cond, ℤ, List, [], ◌∷◌, ◌++◌, length, get_or}
use Rattle.std.proofs.Common.{Option, Some, None, int_eq, arith}
use Rattle.std.specs.List.{AllByRecursion, Contains}
use Rattle.std.proofs.lemmas.Bool.Decides.{Decides-int_eq}
use Rattle.ipc_model.specs.Fits.{RowFits}
use Rattle.ipc_model.specs.WellFormed.{WellFormed}
use Rattle.ipc_model.specs.declared.limits.Limits.{Limits}
use Rattle.ipc_model.specs.declared.schema.Field.{Field}
use Rattle.ipc_model.specs.declared.schema.Schema.{Schema}
use Rattle.ipc_model.specs.declared.table.BatchRows.{BatchRows}
use Rattle.ipc_model.specs.declared.value.Value.{Value}
use Rattle.ipc_column.specs.Dictionaries.{Dictionaries}
use Rattle.ipc_column.specs.Rows.{HasCounts}
use Rattle.ipc_column.specs.Shapes.{shape_of}
use Rattle.ipc_encode.specs.declared.segments.SegmentedParts.{SegmentedParts}
use Rattle.ipc_encode.specs.Segments.{AreSegmented}
use Rattle.ipc_encode.specs.Buffers.{row_columns, row_buffers_with}
use Rattle.ipc_encode.specs.ColumnSizes.{as_rows}
use Rattle.ipc_encode.specs.Indices.{FindsRows}
use Rattle.ipc_encode.specs.Numbers.{Numbering}
use Rattle.ipc_encode.proofs.Cutting.{buffers_length, nodes_length}
use Rattle.ipc_encode.proofs.Ranges.{ranges_length}
use Rattle.ipc_dict_read.specs.InForce.{at}
use Rattle.ipc_dict_read.specs.ValuesColumns.{columns_for, dictionary_columns}
use Rattle.ipc_dict.specs.declared.entry.TallyEntry.{TallyEntry}
use Rattle.ipc_dict.specs.declared.kept.KeptEntry.{KeptEntry}
use Rattle.ipc_dict.specs.Distinct.{is_among, with_distinct, with_all_distinct}
use Rattle.ipc_dict.specs.Noting.{AllFit, of_id}
use Rattle.ipc_dict.specs.Pairs.{rows_pairs}
use Rattle.ipc_dict.specs.Planning.{AllSettled, after_all, sends_of, sent_for}
use Rattle.ipc_dict.specs.SchemaIds.{ids_of, kept_ids, tally_ids, empty_entries}
use Rattle.ipc_dict.specs.Sending.{AreCounted, batch_values, sent_after, tally_of_rows}
use Rattle.ipc_dict.specs.Within.{AllShort, AllWithin, dictionary_room_of}
use Rattle.ipc_dict.proofs.ids.Ids.{same_ids}
use Rattle.ipc_dict.proofs.pairs.PairsFit.{column_fine, column_leaf, pair_fits}
use Rattle.ipc_dict.proofs.Sending.{counted_after, needed_is, sent_is, tallied_ids, tallied_unique, tallied_values}
use Rattle.ipc_stream_read.specs.Stream.{InForce, IsMessage, Run, batch, values_in_force}
use Rattle.ipc_stream_read.proofs.Runs.{run_one, run_then}
use Rattle.ipc_stream.specs.declared.message.Message.{Message}
use Rattle.ipc_stream.specs.Dictionaries.{DictionaryMessages, IsInForce, SendsBatch, DenotesBatches, sets_none, sets_more}
use Rattle.ipc_stream.specs.Messages.{SetDictionaries, SetsDictionary, all_bytes}
use Rattle.ipc_stream.specs.OpenStreams.{CanBeSent}
use Rattle.ipc_stream.specs.Parts.{DenotesRows}
use Rattle.ipc_stream.proofs.InForce.{sent_run}

-- ---- lists

-- what holds of each element holds of one
pub all_item : {X : Type 0} (P : X → Type 0) (xs : List X) (i : ℕ) (x : X) → i < length xs → x ≡ get_or xs i x → AllByRecursion P xs → P x
all_item P [] i x inside is all = absurd (omega (arith, inside))
all_item P (y ∷ xs) zero x inside is all = subst P (sym is) all.0
all_item P (y ∷ xs) (suc i) x inside is all = all_item P xs i x (omega (arith, inside)) is all.1

-- one dictionary's message more
pub set_push : (limits : Limits) (s : Schema) (sends : List (ℤ × List (List Value))) (ms : List Message)
    (send : ℤ × List (List Value)) (m : Message) → SetDictionaries limits s sends ms → SetsDictionary limits s send.0 send.1 m
    → SetDictionaries limits s (sends ++ send ∷ []) (ms ++ m ∷ [])
set_push limits s [] [] send m h one = (one, tt)
set_push limits s [] (x ∷ ms) send m h one = absurd h
set_push limits s (y ∷ sends) [] send m h one = absurd h
set_push limits s (y ∷ sends) (x ∷ ms) send m h one = (h.0, set_push limits s sends ms send m h.1 one)

-- the messages of dictionaries are one for each
set_messages : (limits : Limits) (s : Schema) (sends : List (ℤ × List (List Value))) (ms : List Message) → SetDictionaries limits s sends ms
    → DictionaryMessages limits s sends (all_bytes ms)
set_messages limits s [] [] h = sets_none
set_messages limits s [] (m ∷ ms) h = absurd h
set_messages limits s (y ∷ sends) [] h = absurd h
set_messages limits s (y ∷ sends) (m ∷ ms) h = sets_more h.0 (set_messages limits s sends ms h.1)

-- ---- what can be sent

-- the same of the same column
pub sent_as : (limits : Limits) (s : Schema) (send : ℤ × List (List Value)) (can : CanBeSent limits s send) (row_columns : List Field)
    → columns_for (dictionary_columns s.fields) send.0 ≡ Some row_columns → row_columns ≡ can.columns
sent_as limits s send can row_columns named = let same : Some row_columns ≡ Some can.columns = sym named ∙ can.named in cc

module _ (limits : Limits) (s : Schema) (rows : List (List Value)) (well : WellFormed limits s)
    (fit : AllByRecursion (RowFits s.fields) rows) where
  -- a value that the rows have for an id fits its column
  abbrev HasPair : ℤ → Value → Type 0
  HasPair id v = Contains (rows_pairs s.fields rows) (id, v)

  of_id_pairs : (id : ℤ) (ps : List (ℤ × Value)) → ((p : ℤ × Value) → Contains ps p → Contains (rows_pairs s.fields rows) p)
      → AllByRecursion (HasPair id) (of_id id ps)
  of_id_pairs id [] among = tt
  of_id_pairs id (p ∷ ps) among =
      by (of_id_pairs id ps (λ q there. among q (suc there.0, omega (arith, there.1), there.2))) (int_eq p.0 id) refl
    where
      by : AllByRecursion (HasPair id) (of_id id ps) → (b : Bool) → int_eq p.0 id ≡ b
          → AllByRecursion (HasPair id) (cond b (p.1 ∷ of_id id ps) (of_id id ps))
      by rest false e = rest
      by rest true e = (
        subst (λ z. HasPair z p.1) ((Decides-int_eq p.0 id).0 e) (among p (zero, omega arith, refl)),
        rest,
      )

  seen_pairs : (id : ℤ) (xs vs : List Value) → AllByRecursion (HasPair id) xs → AllByRecursion (HasPair id) vs
      → AllByRecursion (HasPair id) (with_all_distinct xs vs)
  seen_pairs id xs [] h k = h
  seen_pairs id xs (v ∷ vs) h k = seen_pairs id (with_distinct xs v) vs (by (is_among xs v)) k.1
    where
      last : (ys : List Value) → AllByRecursion (HasPair id) ys → AllByRecursion (HasPair id) (ys ++ v ∷ [])
      last [] h = (k.0, tt)
      last (y ∷ ys) h = (h.0, last ys h.1)

      by : (b : Bool) → AllByRecursion (HasPair id) (cond b xs (xs ++ v ∷ []))
      by true = h
      by false = last xs h

  values_fit : (id : ℤ) (row_columns : List Field) (vs : List Value) → columns_for (dictionary_columns s.fields) id ≡ Some row_columns
      → AllByRecursion (HasPair id) vs → AllByRecursion (RowFits row_columns) (as_rows vs)
  values_fit id row_columns [] named h = tt
  values_fit id row_columns (v ∷ vs) named h = (
    pair_fits limits s rows id v row_columns well fit h.0 named,
    values_fit id row_columns vs named h.1,
  )

  all_can : (es : List TallyEntry) (os : List (Option (List ℕ))) → AllByRecursion (λ e. e.values ≡ batch_values s.fields rows e.id) es
      → AllWithin limits s.fields es → AllShort limits s.fields es → AllByRecursion (CanBeSent limits s) (sends_of es os)
  all_can [] os each within short = tt
  all_can (e ∷ es) [] each within short = tt
  all_can (e ∷ es) (Some to ∷ os) each within short = all_can es os each.1 within.1 short.1
  all_can (e ∷ es) (None ∷ os) each within short =
      let row_columns = within.0.0 in
      let named = within.0.1.0 in
      let leaf = column_leaf limits s e.id row_columns well named in
      let same : Some short.0.0 ≡ Some row_columns = sym short.0.1.0 ∙ named in
      let one : short.0.0 ≡ row_columns = cc in
      let pairs = seen_pairs e.id [] (of_id e.id (rows_pairs s.fields rows)) tt
      (of_id_pairs e.id (rows_pairs s.fields rows) (λ p there. there)) in (
        record {
          columns = row_columns;
          named = named;
          one = (leaf.0, leaf.1.0, leaf.1.1.0);
          fine = column_fine limits s e.id row_columns well named;
          fit = values_fit e.id row_columns e.values named (subst (AllByRecursion (HasPair e.id)) (sym each.0) pairs);
          within = within.0.1.1;
          short = subst (λ cs. dictionary_room_of cs ≤ limits.metadata) one short.0.1.1;
        },
        all_can es os each.1 within.1 short.1,
      )

  -- each dictionary that a plan sends can be
  pub plan_can : (os : List (Option (List ℕ))) → AllWithin limits s.fields (tally_of_rows s.fields rows)
      → AllShort limits s.fields (tally_of_rows s.fields rows) → AllByRecursion (CanBeSent limits s)
      (sends_of (tally_of_rows s.fields rows) os)
  plan_can os within short = all_can (tally_of_rows s.fields rows) os (tallied_values s.fields rows) within short

-- what is short of the entries without values is short of those with some
short_same : (limits : Limits) (fields : List Field) (es fs : List TallyEntry) → tally_ids es ≡ tally_ids fs → AllShort limits fields es
    → AllShort limits fields fs
short_same limits fields [] [] same h = tt
short_same limits fields [] (f ∷ fs) same h = absurd cc
short_same limits fields (e ∷ es) [] same h = absurd cc
short_same limits fields (e ∷ es) (f ∷ fs) same h =
    let id : e.id ≡ f.id = cc in
    let rest : tally_ids es ≡ tally_ids fs = cc in
    ((h.0.0, (ap (columns_for (dictionary_columns fields)) (sym id) ∙ h.0.1.0, h.0.1.1)), short_same limits fields es fs rest h.1)

pub short_tallied : (limits : Limits) (fields : List Field) (rows : List (List Value)) → AllShort limits fields (empty_entries fields)
    → AllShort limits fields (tally_of_rows fields rows)
short_tallied limits fields rows h = short_same limits fields (empty_entries fields) (tally_of_rows fields rows)
    (sym (tallied_ids fields rows)) h

-- ---- all messages

module _ (limits : Limits) (s : Schema) (b : BatchRows) (kept : List KeptEntry) (os : List (Option (List ℕ))) (known : Numbering)
    (ms : List Message) (own : List ℕ) where
  -- what the indices find, where this is in force
  abbrev Tells : Type 0
  Tells = (ds : Dictionaries) → FindsRows ds known s.fields b.rows → DenotesRows limits ds s b own

  -- the indices find their values in what is in force once the batch was sent
  abbrev pub FindsSent : Type 0
  FindsSent = (ds : Dictionaries) → ((id : ℤ) → at ds id ≡ sent_for (after_all kept (tally_of_rows s.fields b.rows) os) id)
      → AreCounted s.fields (after_all kept (tally_of_rows s.fields b.rows) os) → FindsRows ds known s.fields b.rows

  -- the batch is told where its dictionaries are in force
  tells_own : AreCounted s.fields (sent_after s.fields b.rows kept) → kept_ids kept ≡ ids_of s.fields
      → AllSettled kept (tally_of_rows s.fields b.rows) os → FindsSent → Tells → (o : InForce)
      → IsInForce s (sent_after s.fields b.rows kept) o → IsMessage limits (Some o) own (batch b ∷ []) (Some o)
  tells_own counted ids settled finds tells o in_force =
      let after = sent_is s.fields b.rows kept os ids settled in
      let found = finds (values_in_force o.dictionaries) (λ id. in_force.values_are id ∙ ap (λ k. sent_for k id) (sym after))
      (subst (AreCounted s.fields) (sym after) counted) in
      tells (values_in_force o.dictionaries) found o in_force.schema_is refl

  -- the messages of its dictionaries bring it there
  sets_first : kept_ids kept ≡ ids_of s.fields → AllSettled kept (tally_of_rows s.fields b.rows) os
      → SetDictionaries limits s (sends_of (tally_of_rows s.fields b.rows) os) ms → (o : InForce) → IsInForce s kept o
      → (τ : InForce) × (IsInForce s (sent_after s.fields b.rows kept) τ × Run limits (Some o) (all_bytes ms) [] (Some τ))
  sets_first ids settled sets o in_force =
      let entries = tally_of_rows s.fields b.rows in
      let after = sent_is s.fields b.rows kept os ids settled in
      let first = sent_run limits s kept entries os ms o in_force.schema_is in_force.values_are
      (same_ids kept entries (ids ∙ sym (tallied_ids s.fields b.rows))) (tallied_unique s.fields b.rows) sets in (
        first.0,
        (
          record {
            schema_is = first.1.0;
            values_are = λ id. first.1.1.0 id ∙ ap (λ k. sent_for k id) after;
          },
          first.1.1.1,
        ),
      )

  both_told : ((o : InForce) → IsInForce s kept o
      → (τ : InForce) × (IsInForce s (sent_after s.fields b.rows kept) τ × Run limits (Some o) (all_bytes ms) [] (Some τ)))
      → ((o : InForce) → IsInForce s (sent_after s.fields b.rows kept) o
      → IsMessage limits (Some o) own (batch b ∷ []) (Some o)) → DenotesBatches limits s kept (b ∷ []) (all_bytes ms ++ own)
  both_told sets tells o in_force =
      let first = sets o in_force in
      let τ = first.0 in
      let report = tells τ first.1.0 in (
        τ,
        (
          first.1.0,
          run_then (Some o) (Some τ) (Some τ) (all_bytes ms) own [] (batch b ∷ []) first.1.1 (run_one report.frame report.step),
        ),
      )

  -- the messages of a plan's dictionaries, and behind them one that tells the batch where they are in force
  pub batch_sent : AllFit (tally_of_rows s.fields b.rows) → AreCounted s.fields kept → kept_ids kept ≡ ids_of s.fields
      → AllSettled kept (tally_of_rows s.fields b.rows) os → FindsSent
      → SetDictionaries limits s (sends_of (tally_of_rows s.fields b.rows) os) ms → Tells → SendsBatch limits s kept b (all_bytes ms ++ own)
  batch_sent fit counted ids settled finds sets tells =
      let report = tells_own (counted_after s.fields b.rows kept fit counted) ids settled finds tells in
      record {
        dictionaries = all_bytes ms;
        own = own;
        bytes = refl;
        set = subst (λ sends. DictionaryMessages limits s sends (all_bytes ms)) (needed_is s.fields b.rows kept os ids settled)
            (set_messages limits s (sends_of (tally_of_rows s.fields b.rows) os) ms sets);
        report = report;
        in_turn = both_told (sets_first ids settled sets) report;
      }

-- ---- parts

-- so have parts whose body is a list of segments
pub segmented_counts : (indices : Numbering) (fields : List Field) (rows : List (List Value)) (z : ℤ) (parts : SegmentedParts)
    → AreSegmented indices fields rows parts → HasCounts fields (record { length = z; nodes = parts.nodes; buffers = parts.buffers })
segmented_counts indices fields rows z parts laid = record {
  nodes = ap length laid.nodes ∙ nodes_length (shape_of fields) (row_columns rows);
  buffers = ap length laid.buffers ∙ ranges_length (row_buffers_with indices fields rows) 0
      ∙ buffers_length indices (shape_of fields) (row_columns rows);
}
