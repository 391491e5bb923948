-- The columns of dictionaries, as values come.
use Rattle.std.proofs.Common.{◌≡◌, ◌∙◌, refl, sym, ap, subst, ℕ, zero, suc, ◌<◌, ℤ, inl, inr, true, false, cond, arith}
use Rattle.std.proofs.Common.{List, [], ◌∷◌, ◌++◌, length, take, drop, get_or}
use Rattle.std.specs.Prelude.{◌⊎◌}
use Rattle.std.specs.Ordering.{int_eq}
use Rattle.std.proofs.Math.Seq.{take-append_seam}
use Rattle.std.proofs.lemmas.List.{map-append, take-append-drop}
use Rattle.ipc_model.specs.declared.fault.WriteFault.{WriteFault}
use Rattle.ipc_model.specs.declared.fault.WriteFault.TheVariants as w
use Rattle.ipc_model.specs.declared.limits.Limits.{Limits}
use Rattle.ipc_model.specs.declared.schema.Field.{Field}
use Rattle.ipc_model.specs.declared.value.Value.{Value}
use Rattle.ipc_encode.specs.declared.column_sizes.ColumnSizes.{ColumnSizes}
use Rattle.ipc_encode.specs.ColumnSizes.{as_rows, CountsRows}
use Rattle.ipc_encode.specs.Limits.{AreRowsRefused}
use Rattle.ipc_encode.proofs.Growing.{refused_more}
use Rattle.ipc_dict.specs.declared.entry.TallyEntry.{TallyEntry}
use Rattle.ipc_dict.specs.Distinct.{is_among}
use Rattle.ipc_dict.specs.declared.columns.EntryColumns.{EntryColumns}
use Rattle.ipc_dict.specs.EntryColumns.{AllCounted, AreEntriesCounted, IsEntryCounted}
use Rattle.ipc_dict.specs.Noting.{note_entry, note_one, note_all, AllGrow, truncated_tally, tally_lengths}
use Rattle.ipc_dict.specs.Within.{AllWithin, IsEntryOver, IsOfLimits, IsOverLimit}
use Rattle.ipc_dict.proofs.Notes.{cut_back, note_all-append}

-- the rows of the first so many values, and of those behind them
rows_split : (m : ℕ) (vs : List Value) → as_rows (take m vs) ++ as_rows (drop m vs) ≡ as_rows vs
rows_split m vs = sym (map-append (λ v. v ∷ []) (take m vs) (drop m vs)) ∙ ap (λ (ws : List Value). as_rows ws) (take-append-drop m vs)

module _ (limits : Limits) (fields : List Field) where
  -- ---- side by side

  pub counted_push : (es : List TallyEntry) (cs : List ColumnSizes) (e : TallyEntry) (c : ColumnSizes) → AllCounted limits fields es cs
      → IsEntryCounted limits fields e c → AllCounted limits fields (es ++ e ∷ []) (cs ++ c ∷ [])
  counted_push [] [] e c h k = (k, tt)
  counted_push [] (d ∷ cs) e c h k = absurd h
  counted_push (x ∷ es) [] e c h k = absurd h
  counted_push (x ∷ es) (d ∷ cs) e c h k = (h.0, counted_push es cs e c h.1 k)

  pub counted_length : (es : List TallyEntry) (cs : List ColumnSizes) → AllCounted limits fields es cs → length cs ≡ length es
  counted_length [] [] h = refl
  counted_length [] (d ∷ cs) h = absurd h
  counted_length (x ∷ es) [] h = absurd h
  counted_length (x ∷ es) (d ∷ cs) h = ap (λ (n : ℕ). suc n) (counted_length es cs h.1)

  -- one of the columns that count the first so many values
  pub counted_at : (ms : List ℕ) (es : List TallyEntry) (cs : List ColumnSizes) (i m : ℕ) (e : TallyEntry) (c : ColumnSizes)
      → i < length ms → i < length es → i < length cs → e ≡ get_or es i e → c ≡ get_or cs i c
      → AllCounted limits fields (truncated_tally ms es) cs → IsEntryCounted limits fields
      (record e { values = take (get_or ms i m) e.values }) c
  counted_at [] es cs i m e c a b d q r h = absurd (omega arith)
  counted_at (n ∷ ms) [] cs i m e c a b d q r h = absurd (omega arith)
  counted_at (n ∷ ms) (x ∷ es) [] i m e c a b d q r h = absurd (omega arith)
  counted_at (n ∷ ms) (x ∷ es) (y ∷ cs) zero m e c a b d q r h =
      subst (λ (z : TallyEntry). IsEntryCounted limits fields (record z { values = take n z.values }) c) (sym q)
      (subst (λ (z : ColumnSizes). IsEntryCounted limits fields (record x { values = take n x.values }) z) (sym r) h.0)
  counted_at (n ∷ ms) (x ∷ es) (y ∷ cs) (suc i) m e c a b d q r h =
      counted_at ms es cs i m e c (omega arith) (omega arith) (omega arith) q r h.1

  -- ---- the values behind them

  pub counted_more : (m : ℕ) (e : TallyEntry) (c d : ColumnSizes)
      → ((columns : List Field) (rows : List (List Value)) → CountsRows limits columns rows c
      → CountsRows limits columns (rows ++ as_rows (drop m e.values)) d)
      → IsEntryCounted limits fields (record e { values = take m e.values }) c → IsEntryCounted limits fields e d
  counted_more m e c d more h = (
    h.0,
    (
      h.1.0,
      subst (λ (rows : List (List Value)). CountsRows limits h.0 rows d) (rows_split m e.values)
          (more h.0 (as_rows (take m e.values)) h.1.1),
    ),
  )

  -- a refusal that isn't one for memory is one for the limits
  of_limits : (columns : List Field) (rows : List (List Value)) (fault : WriteFault) → AreRowsRefused limits columns rows fault
      → (fault ≡ w.OutOfMemory → ⊥) → IsOfLimits fault
  of_limits columns rows w.TooLong h other = inl refl
  of_limits columns rows w.TooManyRows h other = inr refl
  of_limits columns rows w.OutOfMemory h other = absurd (other refl)
  of_limits columns rows _ h other = absurd h

  pub entry_over : (m : ℕ) (e : TallyEntry) (c : ColumnSizes) (fault : WriteFault)
      → ((columns : List Field) (rows : List (List Value)) → CountsRows limits columns rows c
      → AreRowsRefused limits columns (rows ++ as_rows (drop m e.values)) fault × (fault ≡ w.OutOfMemory → ⊥))
      → IsEntryCounted limits fields (record e { values = take m e.values }) c → IsEntryOver limits fields e fault
  entry_over m e c fault refused h =
      let r = refused h.0 (as_rows (take m e.values)) h.1.1 in
      let all = subst (λ (rows : List (List Value)). AreRowsRefused limits h.0 rows fault) (rows_split m e.values) r.0 in
      (h.0, (h.1.0, (all, of_limits h.0 (as_rows e.values) fault all r.1)))

  pub over_at : (es : List TallyEntry) (i : ℕ) (e : TallyEntry) (fault : WriteFault) → i < length es → e ≡ get_or es i e
      → IsEntryOver limits fields e fault → IsOverLimit limits fields es fault
  over_at [] i e fault l at h = absurd (omega arith)
  over_at (x ∷ es) zero e fault l at h = inl (subst (λ (y : TallyEntry). IsEntryOver limits fields y fault) at h)
  over_at (x ∷ es) (suc i) e fault l at h = inr (over_at es i e fault (omega arith) at h)

  -- what is over the limits says so by its fault
  pub says_limits : (es : List TallyEntry) (fault : WriteFault) → IsOverLimit limits fields es fault → IsOfLimits fault
  says_limits [] fault h = absurd h
  says_limits (e ∷ es) fault (inl over) = over.1.1.1
  says_limits (e ∷ es) fault (inr later) = says_limits es fault later

  -- ---- all of them

  -- columns that are counted are within the limits
  pub all_within : (es : List TallyEntry) (cs : List ColumnSizes) → AllCounted limits fields es cs → AllWithin limits fields es
  all_within [] cs h = tt
  all_within (x ∷ es) [] h = absurd h
  all_within (x ∷ es) (d ∷ cs) h = ((h.0.0, (h.0.1.0, h.0.1.1.within)), all_within es cs h.1)

  over-entry : (e : TallyEntry) (v : Value) (fault : WriteFault) → IsEntryOver limits fields e fault
      → IsEntryOver limits fields (note_entry v e) fault
  over-entry e v fault h =
      elim (is_among e.values v) as (λ b. IsEntryOver limits fields (record e { values = cond b e.values (e.values ++ v ∷ []) }) fault) [
        | true ↦ h
        | false ↦ (
          h.0,
          (
            h.1.0,
            (
              subst (λ (rows : List (List Value)). AreRowsRefused limits h.0 rows fault)
                  (sym (map-append (λ x. x ∷ []) e.values (v ∷ [])))
                  (refused_more limits h.0 (as_rows e.values) (as_rows (v ∷ [])) fault h.1.1.0),
              h.1.1.1,
            ),
          ),
        )
      ]

  over-one : (t : List TallyEntry) (id : ℤ) (v : Value) (fault : WriteFault) → IsOverLimit limits fields t fault
      → IsOverLimit limits fields (note_one t id v) fault
  over-one [] id v fault h = h
  over-one (e ∷ es) id v fault h =
      elim (int_eq e.id id) as (λ b. IsOverLimit limits fields (cond b (note_entry v e ∷ es) (e ∷ note_one es id v)) fault) [
        | true ↦ elim h [ inl over ↦ inl (over-entry e v fault over) | inr rest ↦ inr rest ]
        | false ↦ elim h [ inl over ↦ inl over | inr rest ↦ inr (over-one es id v fault rest) ]
      ]

  over-all : (t : List TallyEntry) (ps : List (ℤ × Value)) (fault : WriteFault) → IsOverLimit limits fields t fault
      → IsOverLimit limits fields (note_all t ps) fault
  over-all t [] fault h = h
  over-all t (p ∷ ps) fault h = over-all (note_one t p.0 p.1) ps fault (over-one t p.0 p.1 fault h)

  -- what is over the limits once stays so, whatever is noted behind it
  pub over_append : (t : List TallyEntry) (ps qs : List (ℤ × Value)) (fault : WriteFault) → IsOverLimit limits fields (note_all t ps) fault
      → IsOverLimit limits fields (note_all t (ps ++ qs)) fault
  over_append t ps qs fault h =
      subst (λ (u : List TallyEntry). IsOverLimit limits fields u fault) (sym (note_all-append t ps qs))
      (over-all (note_all t ps) qs fault h)

  -- pairs behind which others are left
  pub over_step : (t u : List TallyEntry) (all left one rest : List (ℤ × Value)) (fault : WriteFault) → note_all u left ≡ note_all t all
      → left ≡ one ++ rest → IsOverLimit limits fields (note_all u one) fault → IsOverLimit limits fields (note_all t all) fault
  over_step t u all left one rest fault inv split h =
      subst (λ (x : List TallyEntry). IsOverLimit limits fields x fault) inv
      (subst (λ (ps : List (ℤ × Value)). IsOverLimit limits fields (note_all u ps) fault) (sym split) (over_append u one rest fault h))

  -- entries without values that are over the limits already
  pub over_first : (t : List TallyEntry) (ps : List (ℤ × Value)) (fault : WriteFault)
      → (fault ≡ w.TooLong → IsOverLimit limits fields t fault) → (fault ≡ w.TooLong) ⊎ (fault ≡ w.OutOfMemory) → IsOfLimits fault
      → IsOverLimit limits fields (note_all t ps) fault
  over_first t ps fault over only (inl long) = over-all t ps fault (over long)
  over_first t ps fault over (inl long) (inr many) = over-all t ps fault (over long)
  over_first t ps fault over (inr memory) (inr many) = absurd cc

-- entries that were written back over as many are these entries
pub written_back : {X : Type 0} (new old : List X) (n : ℕ) → n ≡ length new → take n (new ++ drop (length new) old) ≡ new
written_back new old n len =
    ap (λ (k : ℕ). take k (new ++ drop (length new) old)) len ∙ take-append_seam new (drop (length new) old)

-- ---- the columns of a tally

pub grow_length : (t u : List TallyEntry) → AllGrow t u → length u ≡ length t
grow_length [] [] h = refl
grow_length [] (f ∷ fs) h = absurd h
grow_length (e ∷ es) [] h = absurd h
grow_length (e ∷ es) (f ∷ fs) h = ap (λ (n : ℕ). suc n) (grow_length es fs h.1)

module _ (fields : List Field) where
  -- columns of entries are those of what these grew to, up to their marks
  pub up_to_marks : (ms : List ℕ) (t u : List TallyEntry) (columns : EntryColumns) → ms ≡ tally_lengths t → AllGrow t u
      → AreEntriesCounted fields t columns → AreEntriesCounted fields (truncated_tally ms u) columns
  up_to_marks ms t u columns is grows h =
      subst (λ (es : List TallyEntry). AreEntriesCounted fields es columns) (sym
      (ap (λ (ks : List ℕ). truncated_tally ks u) is ∙ cut_back t u grows)) h

  -- the counts from before are kept in `next`
  pub counts_before : (es : List TallyEntry) (old new : EntryColumns) → new.limits ≡ old.limits → new.next.items ≡ old.sizes.items
      → AreEntriesCounted fields es old → AllCounted new.limits fields es new.next.items
  counts_before es old new limits kept h =
      subst (λ (l : Limits). AllCounted l fields es new.next.items) (sym limits)
      (subst (λ (cs : List ColumnSizes). AllCounted old.limits fields es cs) (sym kept) h.counted)

  -- there are as many as entries, also where these grew
  pub many_columns : (t u : List TallyEntry) (columns : EntryColumns) → AllGrow t u → AreEntriesCounted fields t columns
      → length columns.sizes.items ≡ length u
  many_columns t u columns grows h =
      counted_length columns.limits fields t columns.sizes.items h.counted ∙ sym (grow_length t u grows)

  pub counted_within : (es : List TallyEntry) (columns : EntryColumns) → AreEntriesCounted fields es columns
      → AllWithin columns.limits fields es
  counted_within es columns h = all_within columns.limits fields es columns.sizes.items h.counted

  -- the same of entries that were written back, of which there are as many as before
  pub within_again : (fs : List Field) (new old : List TallyEntry) (n : ℕ) (columns : EntryColumns) → fs ≡ fields → n ≡ length new
      → AreEntriesCounted fs new columns → AllWithin columns.limits fields (take n (new ++ drop (length new) old))
  within_again fs new old n columns same len h =
      subst (λ (es : List TallyEntry). AllWithin columns.limits fields es) (sym (written_back new old n len))
      (counted_within new columns (subst (λ (xs : List Field). AreEntriesCounted xs new columns) same h))
