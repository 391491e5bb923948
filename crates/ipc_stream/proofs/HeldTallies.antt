-- The distinct values of rows that are pushed one by one.
use Rattle.std.proofs.Common.{◌≡◌, ◌∙◌, refl, sym, ap, subst, ℕ, false, true, List, []}
use Rattle.std.proofs.Common.{◌∷◌, ◌++◌, append_assoc, Option, Some, None, IsSome, inl, inr}
use Rattle.std.proofs.Common.{true≢false}
use Rattle.std.specs.Prelude.{ℤ, ◌⊎◌}
use Rattle.std.specs.List.{AllByRecursion}
use Rattle.std.proofs.lemmas.List.{append-nil}
use Rattle.ipc_model.specs.Entries.{entries}
use Rattle.ipc_model.specs.WellFormed.{IsFieldWellFormed}
use Rattle.ipc_model.specs.declared.fault.WriteFault.{WriteFault}
use Rattle.ipc_model.specs.declared.fault.WriteFault.TheVariants as w
use Rattle.ipc_model.specs.declared.limits.Limits.{Limits}
use Rattle.ipc_model.specs.declared.schema.Field.{Field}
use Rattle.ipc_model.specs.declared.schema.Schema.{Schema}
use Rattle.ipc_model.specs.declared.table.BatchRows.{BatchRows}
use Rattle.ipc_model.specs.declared.value.Value.{Value}
use Rattle.ipc_encode.specs.declared.builder.Builder.{Builder}
use Rattle.ipc_encode.specs.Built.{StoresRows}
use Rattle.ipc_encode.specs.Faults.{write_fault}
use Rattle.ipc_encode.specs.declared.fault.PushFault.{PushFault}
use Rattle.ipc_encode.specs.declared.fault.PushFault.TheVariants as push
use Rattle.ipc_encode.specs.Indices.{AgreeOn}
use Rattle.ipc_encode.specs.Numbers.{number_or, known_indices}
use Rattle.ipc_encode.proofs.Agreeing.{holds_agreeing}
use Rattle.ipc_dict.specs.declared.entry.TallyEntry.{TallyEntry}
use Rattle.ipc_dict.specs.Noting.{IsIndexOverflow, note_all, place_of_value}
use Rattle.ipc_dict.specs.Pairs.{Pairs, row_pairs, rows_pairs}
use Rattle.ipc_dict.specs.SchemaIds.{empty_entries}
use Rattle.ipc_dict.specs.Sending.{tally_of_rows}
use Rattle.ipc_dict.specs.TallyState.{TallyState}
use Rattle.ipc_dict.specs.Within.{IsOfLimits, IsOverLimit}
use Rattle.ipc_dict.proofs.pairs.Covered.{covered}
use Rattle.ipc_dict.proofs.pairs.CoveredIndices.{pair_placed}
use Rattle.ipc_dict.proofs.Notes.{note_all-append}
use Rattle.ipc_dict.proofs.Places.{keeps_places}
use Rattle.ipc_stream.specs.PendingBatches.{HasCounted, RefusesPending, with_row}
use Rattle.ipc_stream.specs.Writing.{long_values, many_values}

-- the pairs of rows and of one more
pairs_end : (fields : List Field) (rows : List (List Value)) (row : List Value)
    → rows_pairs fields (rows ++ row ∷ []) ≡ rows_pairs fields rows ++ row_pairs fields row
pairs_end fields [] row = append-nil (row_pairs fields row)
pairs_end fields (r ∷ rows) row =
    ap (λ ps. row_pairs fields r ++ ps) (pairs_end fields rows row)
    ∙ sym (append_assoc (row_pairs fields r) (rows_pairs fields rows) (row_pairs fields row))

-- what is tallied with one row more
pub tallied_next : (fields : List Field) (rows : List (List Value)) (row : List Value)
    → tally_of_rows fields (rows ++ row ∷ []) ≡ note_all (tally_of_rows fields rows) (row_pairs fields row)
tallied_next fields rows row =
    ap (note_all (empty_entries fields)) (pairs_end fields rows row)
    ∙ note_all-append (empty_entries fields) (rows_pairs fields rows) (row_pairs fields row)

-- each value of the rows keeps the index that it got, whatever is noted after them
same_place : (fields : List Field) (rows all : List (List Value)) (ps : Pairs)
    → tally_of_rows fields all ≡ note_all (tally_of_rows fields rows) ps
    → (id : ℤ) (v : Value) (o : Option ℕ) → place_of_value (tally_of_rows fields rows) id v ≡ o → IsSome o
    → known_indices (place_of_value (tally_of_rows fields rows)) id v ≡ known_indices (place_of_value (tally_of_rows fields all)) id v
same_place fields rows all ps next id v None e some = absurd (true≢false (sym some))
same_place fields rows all ps next id v (Some i) e some =
    let now : place_of_value (tally_of_rows fields all) id v ≡ Some i =
    ap (λ t. place_of_value t id v) next ∙ keeps_places (tally_of_rows fields rows) ps id v i e in
    ap (λ o. number_or o 0) (e ∙ sym now)

places_agree : (limits : Limits) (fields : List Field) (rows all : List (List Value)) (ps : Pairs)
    → tally_of_rows fields all ≡ note_all (tally_of_rows fields rows) ps → AllByRecursion (IsFieldWellFormed limits) (entries fields)
    → AgreeOn (known_indices (place_of_value (tally_of_rows fields rows))) (known_indices (place_of_value (tally_of_rows fields all)))
    fields rows
places_agree limits fields rows all ps next fine =
    covered (λ bits signed id value. known_indices (place_of_value (tally_of_rows fields rows)) id value
    ≡ known_indices (place_of_value (tally_of_rows fields all)) id value)
    limits fields rows fine
    (λ d v named pair. same_place fields rows all ps next d.id v (place_of_value (tally_of_rows fields rows) d.id v) refl
    (pair_placed fields (rows_pairs fields rows) d v named pair))

-- and had it before
places_agreed : (limits : Limits) (fields : List Field) (rows all : List (List Value)) (ps : Pairs)
    → tally_of_rows fields all ≡ note_all (tally_of_rows fields rows) ps → AllByRecursion (IsFieldWellFormed limits) (entries fields)
    → AgreeOn (known_indices (place_of_value (tally_of_rows fields all))) (known_indices (place_of_value (tally_of_rows fields rows)))
    fields rows
places_agreed limits fields rows all ps next fine =
    covered (λ bits signed id value. known_indices (place_of_value (tally_of_rows fields all)) id value
    ≡ known_indices (place_of_value (tally_of_rows fields rows)) id value)
    limits fields rows fine
    (λ d v named pair. sym (same_place fields rows all ps next d.id v (place_of_value (tally_of_rows fields rows) d.id v) refl
    (pair_placed fields (rows_pairs fields rows) d v named pair)))

-- so that a builder holds the same rows under the indices with what is noted behind them
rows_behind : (limits : Limits) (fields : List Field) (rows all : List (List Value)) (ps : Pairs) (builder : Builder)
    → tally_of_rows fields all ≡ note_all (tally_of_rows fields rows) ps → AllByRecursion (IsFieldWellFormed limits) (entries fields)
    → StoresRows (known_indices (place_of_value (tally_of_rows fields rows))) limits fields rows builder
    → StoresRows (known_indices (place_of_value (tally_of_rows fields all))) limits fields rows builder
rows_behind limits fields rows all ps builder next fine =
    holds_agreeing (known_indices (place_of_value (tally_of_rows fields rows))) (known_indices (place_of_value (tally_of_rows fields all)))
    limits fields rows builder
    (places_agree limits fields rows all ps next fine)

-- with one row more
pub rows_kept : (limits : Limits) (fields : List Field) (rows : List (List Value)) (row : List Value) (builder : Builder)
    → AllByRecursion (IsFieldWellFormed limits) (entries fields)
    → StoresRows (known_indices (place_of_value (tally_of_rows fields rows))) limits fields rows builder
    → StoresRows (known_indices (place_of_value (tally_of_rows fields (rows ++ row ∷ [])))) limits fields rows builder
rows_kept limits fields rows row builder =
    rows_behind limits fields rows (rows ++ row ∷ []) (row_pairs fields row) builder (tallied_next fields rows row)

-- and without it
pub rows_cut : (limits : Limits) (fields : List Field) (rows : List (List Value)) (row : List Value) (builder : Builder)
    → AllByRecursion (IsFieldWellFormed limits) (entries fields)
    → StoresRows (known_indices (place_of_value (tally_of_rows fields (rows ++ row ∷ [])))) limits fields rows builder
    → StoresRows (known_indices (place_of_value (tally_of_rows fields rows))) limits fields rows builder
rows_cut limits fields rows row builder fine =
    holds_agreeing (known_indices (place_of_value (tally_of_rows fields (rows ++ row ∷ []))))
    (known_indices (place_of_value (tally_of_rows fields rows))) limits fields rows builder
    (places_agreed limits fields rows (rows ++ row ∷ []) (row_pairs fields row) (tallied_next fields rows row) fine)

-- a tally that noted a row has counted one row more
pub tally_next : (limits : Limits) (fields : List Field) (rows : List (List Value)) (row : List Value) (old new : TallyState)
    → HasCounted limits fields rows old
    → new ≡ record old { entries = note_all old.entries (row_pairs old.fields row); before = old.entries }
    → HasCounted limits fields (rows ++ row ∷ []) new
tally_next limits fields rows row old new held noted = record {
  works = ap (λ (t : TallyState). t.failed) noted ∙ held.works;
  same_limits = ap (λ (t : TallyState). t.limits) noted ∙ held.same_limits;
  same_fields = ap (λ (t : TallyState). t.fields) noted ∙ held.same_fields;
  counted = ap (λ (t : TallyState). t.entries) noted ∙ (λ i. note_all (held.counted i) (row_pairs (held.same_fields i) row))
      ∙ sym (tallied_next fields rows row);
}

-- and is as before once the row is cut
pub tally_cut : (limits : Limits) (fields : List Field) (rows : List (List Value)) (row : List Value) (old noted new : TallyState)
    → HasCounted limits fields rows old
    → noted ≡ record old { entries = note_all old.entries (row_pairs old.fields row); before = old.entries }
    → new ≡ record noted { entries = noted.before } → HasCounted limits fields rows new
tally_cut limits fields rows row old noted new held is cut = record {
  works = ap (λ (t : TallyState). t.failed) cut ∙ (ap (λ (t : TallyState). t.failed) is ∙ held.works);
  same_limits = ap (λ (t : TallyState). t.limits) cut ∙ (ap (λ (t : TallyState). t.limits) is ∙ held.same_limits);
  same_fields = ap (λ (t : TallyState). t.fields) cut ∙ (ap (λ (t : TallyState). t.fields) is ∙ held.same_fields);
  counted = ap (λ (t : TallyState). t.entries) cut ∙ (ap (λ (t : TallyState). t.before) is ∙ held.counted);
}

-- why a row isn't noted is why the batch with it is refused
pub note_refused : (limits : Limits) (s : Schema) (b : BatchRows) (row : List Value) (old : TallyState) (fault : WriteFault)
    → HasCounted limits s.fields b.rows old
    → (fault ≡ w.DictionaryFull → IsIndexOverflow (note_all old.entries (row_pairs old.fields row)))
    → (IsOfLimits fault → IsOverLimit old.limits old.fields (note_all old.entries (row_pairs old.fields row)) fault)
    → (fault ≡ w.Failed → old.failed ≡ true)
    → ((fault ≡ w.DictionaryFull) ⊎ IsOfLimits fault) ⊎ ((fault ≡ w.OutOfMemory) ⊎ (fault ≡ w.Failed))
    → RefusesPending limits s (with_row b row) false fault
note_refused limits s b row old fault same full over before only = by fault full over before only
  where
    now : (P : Limits → List Field → List TallyEntry → Type 0) → P old.limits old.fields (note_all old.entries (row_pairs old.fields row))
        → P limits s.fields (tally_of_rows s.fields (b.rows ++ row ∷ []))
    now P h = subst (λ es. P limits s.fields es) (sym (tallied_next s.fields b.rows row))
        (subst (λ (l : Limits). P l s.fields (note_all (tally_of_rows s.fields b.rows) (row_pairs s.fields row))) same.same_limits
        (subst (λ (fs : List Field). P old.limits fs (note_all (tally_of_rows s.fields b.rows) (row_pairs fs row))) same.same_fields
        (subst (λ (es : List TallyEntry). P old.limits old.fields (note_all es (row_pairs old.fields row))) same.counted h)))

    by : (f : WriteFault) → (f ≡ w.DictionaryFull → IsIndexOverflow (note_all old.entries (row_pairs old.fields row)))
        → (IsOfLimits f → IsOverLimit old.limits old.fields (note_all old.entries (row_pairs old.fields row)) f)
        → (f ≡ w.Failed → old.failed ≡ true)
        → ((f ≡ w.DictionaryFull) ⊎ IsOfLimits f) ⊎ ((f ≡ w.OutOfMemory) ⊎ (f ≡ w.Failed))
        → RefusesPending limits s (with_row b row) false f
    by w.TooLong full over before only = long_values (now (λ l fs es. IsOverLimit l fs es w.TooLong) (over (inl refl)))
    by w.TooManyRows full over before only = many_values (now (λ l fs es. IsOverLimit l fs es w.TooManyRows) (over (inr refl)))
    by w.DictionaryFull full over before only = now (λ l fs es. IsIndexOverflow es) (full refl)
    by w.OutOfMemory full over before only = tt
    by w.Failed full over before only = sym same.works ∙ before refl
    by w.Write full over before (inl (inl e)) = absurd cc
    by w.Write full over before (inl (inr (inl e))) = absurd cc
    by w.Write full over before (inl (inr (inr e))) = absurd cc
    by w.Write full over before (inr (inl e)) = absurd cc
    by w.Write full over before (inr (inr e)) = absurd cc
    by w.BadSchema full over before (inl (inl e)) = absurd cc
    by w.BadSchema full over before (inl (inr (inl e))) = absurd cc
    by w.BadSchema full over before (inl (inr (inr e))) = absurd cc
    by w.BadSchema full over before (inr (inl e)) = absurd cc
    by w.BadSchema full over before (inr (inr e)) = absurd cc
    by (w.Row number cause) full over before (inl (inl e)) = absurd cc
    by (w.Row number cause) full over before (inl (inr (inl e))) = absurd cc
    by (w.Row number cause) full over before (inl (inr (inr e))) = absurd cc
    by (w.Row number cause) full over before (inr (inl e)) = absurd cc
    by (w.Row number cause) full over before (inr (inr e)) = absurd cc

memory_is : (fault : PushFault) → write_fault fault ≡ w.OutOfMemory → fault ≡ push.OutOfMemory
memory_is push.TooLong e = absurd cc
memory_is push.TooMany e = absurd cc
memory_is push.DictionaryFull e = absurd cc
memory_is push.OutOfMemory e = refl
memory_is push.Failed e = absurd cc

-- a tally that counted a row and one that refused it differ only in what was before
counted_still : (limits : Limits) (fields : List Field) (rows : List (List Value)) (old new : TallyState)
    → HasCounted limits fields rows old → new ≡ record old { before = old.entries } → HasCounted limits fields rows new
counted_still limits fields rows old new held same = record {
  works = ap (λ (t : TallyState). t.failed) same ∙ held.works;
  same_limits = ap (λ (t : TallyState). t.limits) same ∙ held.same_limits;
  same_fields = ap (λ (t : TallyState). t.fields) same ∙ held.same_fields;
  counted = ap (λ (t : TallyState). t.entries) same ∙ held.counted;
}

-- a tally that works has counted the same rows, unless memory for a value ran out
pub note_keeps : (limits : Limits) (fields : List Field) (rows : List (List Value)) (old new : TallyState) (fault : PushFault)
    → HasCounted limits fields rows old → (write_fault fault ≡ w.DictionaryFull → new ≡ record old { before = old.entries })
    → (IsOfLimits (write_fault fault) → new ≡ record old { before = old.entries }) → (write_fault fault ≡ w.Failed → old.failed ≡ true)
    → ((write_fault fault ≡ w.DictionaryFull) ⊎ IsOfLimits (write_fault fault))
    ⊎ ((write_fault fault ≡ w.OutOfMemory) ⊎ (write_fault fault ≡ w.Failed))
    → (fault ≡ push.OutOfMemory → ⊥) → HasCounted limits fields rows new
note_keeps limits fields rows old new fault held full over failed (inl (inl e)) other =
    counted_still limits fields rows old new held (full e)
note_keeps limits fields rows old new fault held full over failed (inl (inr e)) other =
    counted_still limits fields rows old new held (over e)
note_keeps limits fields rows old new fault held full over failed (inr (inl e)) other = absurd (other (memory_is fault e))
note_keeps limits fields rows old new fault held full over failed (inr (inr e)) other = absurd (true≢false (sym (failed e) ∙ held.works))
