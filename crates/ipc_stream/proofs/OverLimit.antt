-- The values of dictionaries that are too long or too many.
use Rattle.std.proofs.Common.{◌≡◌, ◌∙◌, refl, sym, ap, subst, ◌<◌, inl, inr, ℤ, List, [], ◌∷◌, ◌++◌, Option, Some, append_assoc, arith}
use Rattle.ipc_model.specs.declared.fault.WriteFault.{WriteFault}
use Rattle.ipc_model.specs.declared.fault.WriteFault.TheVariants as w
use Rattle.ipc_model.specs.declared.limits.Limits.{Limits}
use Rattle.ipc_model.specs.declared.schema.Field.{Field}
use Rattle.ipc_model.specs.declared.schema.Schema.{Schema}
use Rattle.ipc_model.specs.declared.value.Value.{Value}
use Rattle.ipc_encode.specs.ColumnSizes.{as_rows}
use Rattle.ipc_encode.specs.Limits.{AreRowsRefused}
use Rattle.ipc_dict_read.specs.ValuesColumns.{columns_for, dictionary_columns}
use Rattle.ipc_dict.specs.declared.entry.TallyEntry.{TallyEntry}
use Rattle.ipc_dict.specs.Noting.{AllFit, IsIndexOverflow, note_all}
use Rattle.ipc_dict.specs.Pairs.{row_pairs, rows_pairs}
use Rattle.ipc_dict.specs.SchemaIds.{tally_ids, nothing_sent, empty_entries}
use Rattle.ipc_dict.specs.Sending.{tally_of_rows}
use Rattle.ipc_dict.specs.Within.{AllShort, AllWithin, HasLongMessage, HaveShortMessages, IsOfLimits, IsOverLimit, IsSomeLong}
use Rattle.ipc_dict.specs.Within.{dictionary_room_of}
use Rattle.ipc_dict.proofs.EntryColumns.{over_append}
use Rattle.ipc_dict.proofs.Notes.{full-append}
use Rattle.ipc_stream.specs.Dictionaries.{kept_at_start}
use Rattle.ipc_stream.proofs.WithinLimits.{memory_alone}

-- ---- what is within the limits isn't over them

-- the column that an id is read by is one
one_column : (o : Option (List Field)) (a b : List Field) → o ≡ Some a → o ≡ Some b → a ≡ b
one_column o a b here there =
    let both : Some a ≡ Some b = sym here ∙ there in
    cc

-- want of memory says nothing of lengths
memory_other : (fault : WriteFault) → fault ≡ w.OutOfMemory → IsOfLimits fault → ⊥
memory_other fault is (inl long) = absurd cc
memory_other fault is (inr many) = absurd cc

-- values within the limits aren't over them
pub over_not : (limits : Limits) (fields : List Field) (entries : List TallyEntry) (fault : WriteFault)
    → AllWithin limits fields entries → IsOverLimit limits fields entries fault → ⊥
over_not limits fields [] fault within over = over
over_not limits fields (e ∷ es) fault within (inl here) =
    let same = one_column (columns_for (dictionary_columns fields) e.id) here.0 within.0.0 here.1.0 within.0.1.0 in
    let memory = memory_alone limits within.0.0 (as_rows e.values) fault within.0.1.1
    (subst (λ columns. AreRowsRefused limits columns (as_rows e.values) fault) same here.1.1.0) in
    memory_other fault memory here.1.1.1
over_not limits fields (e ∷ es) fault within (inr later) = over_not limits fields es fault within.1 later

-- values that are counted are not too many
pub full_not : (entries : List TallyEntry) → AllFit entries → IsIndexOverflow entries → ⊥
full_not [] fit full = full
full_not (e ∷ es) fit (inl here) = absurd (omega (arith, here, fit.0))
full_not (e ∷ es) fit (inr later) = full_not es fit.1 later

long_none : (limits : Limits) (fields : List Field) (entries : List TallyEntry) → AllShort limits fields entries
    → IsSomeLong limits fields entries → ⊥
long_none limits fields [] short long = long
long_none limits fields (e ∷ es) short (inl here) =
    let same = one_column (columns_for (dictionary_columns fields) e.id) here.0 short.0.0 here.1.0 short.0.1.0 in
    let over : limits.metadata < dictionary_room_of short.0.0 =
    subst (λ columns. limits.metadata < dictionary_room_of columns) same here.1.1 in
    absurd (omega (arith, over, short.0.1.1))
long_none limits fields (e ∷ es) short (inr later) = long_none limits fields es short.1 later

-- metadata within the limits isn't over them
pub long_not : (limits : Limits) (fields : List Field) → HaveShortMessages limits fields → HasLongMessage limits fields → ⊥
long_not limits fields short long = long_none limits fields (empty_entries fields) short long

-- ---- what is over the limits stays so with more rows

pairs_then : (fields : List Field) (rows more : List (List Value))
    → rows_pairs fields (rows ++ more) ≡ rows_pairs fields rows ++ rows_pairs fields more
pairs_then fields [] more = refl
pairs_then fields (row ∷ rows) more =
    ap (λ ps. row_pairs fields row ++ ps) (pairs_then fields rows more)
    ∙ sym (append_assoc (row_pairs fields row) (rows_pairs fields rows) (rows_pairs fields more))

-- values of rows that are over the limits are so with those of more rows
pub over_more : (limits : Limits) (fields : List Field) (rows more : List (List Value)) (fault : WriteFault)
    → IsOverLimit limits fields (tally_of_rows fields rows) fault → IsOverLimit limits fields (tally_of_rows fields (rows ++ more)) fault
over_more limits fields rows more fault over =
    subst (λ ps. IsOverLimit limits fields (note_all (empty_entries fields) ps) fault) (sym (pairs_then fields rows more))
    (over_append limits fields (empty_entries fields) (rows_pairs fields rows) (rows_pairs fields more) fault over)

-- more values than an index counts are so with those of more rows
pub full_more : (fields : List Field) (rows more : List (List Value)) → IsIndexOverflow (tally_of_rows fields rows)
    → IsIndexOverflow (tally_of_rows fields (rows ++ more))
full_more fields rows more full =
    subst (λ ps. IsIndexOverflow (note_all (empty_entries fields) ps)) (sym (pairs_then fields rows more))
    (full-append (empty_entries fields) (rows_pairs fields rows) (rows_pairs fields more) full)

-- ---- a schema that names no dictionary

none_unused : (es : List TallyEntry) → nothing_sent (tally_ids es) ≡ [] → es ≡ []
none_unused [] none = refl
none_unused (e ∷ es) none = absurd cc

none_noted : (ps : List (ℤ × Value)) → note_all [] ps ≡ []
none_noted [] = refl
none_noted (p ∷ ps) = none_noted ps

none_tallied : (s : Schema) (rows : List (List Value)) → kept_at_start s ≡ [] → tally_of_rows s.fields rows ≡ []
none_tallied s rows none =
    ap (λ es. note_all es (rows_pairs s.fields rows)) (none_unused (empty_entries s.fields) none) ∙ none_noted (rows_pairs s.fields rows)

-- no dictionary has too many values
pub none_full : (s : Schema) (rows : List (List Value)) → kept_at_start s ≡ [] → IsIndexOverflow (tally_of_rows s.fields rows) → ⊥
none_full s rows none full = subst IsIndexOverflow (none_tallied s rows none) full

-- nor ones that are over the limits
pub none_over : (limits : Limits) (s : Schema) (rows : List (List Value)) (fault : WriteFault) → kept_at_start s ≡ []
    → IsOverLimit limits s.fields (tally_of_rows s.fields rows) fault → ⊥
none_over limits s rows fault none over =
    subst (λ es. IsOverLimit limits s.fields es fault) (none_tallied s rows none) over
