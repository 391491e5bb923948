-- Rows that are pushed one by one.
use Rattle.std.proofs.Common.{◌≡◌, ◌∙◌, refl, sym, subst, ℕ, ◌++◌, List, [], ◌∷◌, length, length-append, Result, Ok, Err}
use Rattle.std.proofs.Common.{false, inl, inr, arith}
use Rattle.std.specs.Prelude.{IsOk, IfErr, MatchResult, ◌⊎◌}
use Rattle.std.specs.List.{AllByRecursion}
use Rattle.std.proofs.Math.Seq.{get_or-append_seam, take-append_seam}
use Rattle.ipc_model.specs.Fits.{RowFits}
use Rattle.ipc_model.specs.Refusals.{refusal_of}
use Rattle.ipc_model.specs.RowFaults.{row_faults, verdict}
use Rattle.ipc_model.specs.declared.fault.WriteFault.{WriteFault}
use Rattle.ipc_model.specs.declared.fault.WriteFault.TheVariants as w
use Rattle.ipc_model.specs.declared.limits.Limits.{Limits}
use Rattle.ipc_model.specs.declared.rows.RowFault.{RowFault}
use Rattle.ipc_model.specs.declared.schema.Field.{Field}
use Rattle.ipc_model.specs.declared.schema.Schema.{Schema}
use Rattle.ipc_model.specs.declared.table.BatchRows.{BatchRows}
use Rattle.ipc_model.specs.declared.value.Value.{Value}
use Rattle.ipc_encode.specs.Limits.{AreRowsRefused, IsWithin}
use Rattle.ipc_encode.specs.Built.{StoresRows}
use Rattle.ipc_encode.specs.Numbers.{known_indices}
use Rattle.ipc_dict.specs.Noting.{AllFit, place_of_value}
use Rattle.ipc_dict.specs.declared.entry.TallyEntry.{TallyEntry}
use Rattle.ipc_dict.specs.Sending.{tally_of_rows}
use Rattle.ipc_dict.specs.Within.{AllWithin}
use Rattle.ipc_stream.specs.declared.pending_batch.PendingBatch.{PendingBatch}
use Rattle.ipc_stream.specs.Writing.{AcceptsBatch, AreMismatches, long_columns, long_metadata, many_slots, other_pairs}
use Rattle.ipc_stream.specs.Writing.{RefusesBatch}
use Rattle.ipc_stream.specs.Parts.{AcceptsPairs, RefusesPairs}
use Rattle.ipc_stream.specs.PendingBatches.{HasCounted, HoldsBatch, RefusesPending, no_rows, with_row}
use Rattle.ipc_stream.proofs.MessagesWritten.{all_last, misfit}

-- a row behind those that fit, which doesn't, is the first of the batch that doesn't
pub misfit_last : (fields : List Field) (rows : List (List Value)) (row : List Value) (cause : RowFault) (r : Result Unit RowFault)
    (fault : WriteFault) → AllByRecursion (RowFits fields) rows → (RowFits fields row → IsOk r) → r ≡ verdict (row_faults fields row)
    → r ≡ Err cause → fault ≡ refusal_of cause (length rows) → AreMismatches fields (rows ++ row ∷ []) fault
misfit_last fields rows row cause r fault fit fits judged failed known_indices =
    let count = length-append rows (row ∷ []) in
    misfit fields (rows ++ row ∷ []) (length rows) row cause r fault (omega (arith, count)) (sym (get_or-append_seam rows row [] row))
    (subst (AllByRecursion (RowFits fields)) (sym (take-append_seam rows (row ∷ []))) fit) fits judged failed known_indices

-- a row that is too long or one too many is refused with the batch that it would be in
pub refused_row : (limits : Limits) (s : Schema) (b : BatchRows) (row : List Value) (fault : WriteFault)
    → AreRowsRefused limits s.fields (b.rows ++ row ∷ []) fault → RefusesPending limits s (with_row b row) false fault
refused_row limits s b row w.TooLong h = long_columns h
refused_row limits s b row w.TooManyRows h = many_slots h
refused_row limits s b row w.OutOfMemory h = tt
refused_row limits s b row w.BadSchema h = absurd h
refused_row limits s b row (w.Row number fault) h = absurd h
refused_row limits s b row w.DictionaryFull h = absurd h
refused_row limits s b row w.Write h = absurd h
refused_row limits s b row w.Failed h = absurd h

-- a batch with a row more that fits and is within the limits, as its dictionaries are, is held
pub held_row : (limits : Limits) (s : Schema) (b : BatchRows) (row : List Value) (old new : PendingBatch)
    → HoldsBatch limits s b old → RowFits s.fields row → IsWithin limits s.fields (b.rows ++ row ∷ [])
    → HasCounted limits s.fields (b.rows ++ row ∷ []) new.tally
    → AllFit new.tally.entries → AllWithin new.tally.limits new.tally.fields new.tally.entries
    → StoresRows (known_indices (place_of_value new.tally.entries)) limits s.fields (b.rows ++ row ∷ []) new.builder → new.pairs ≡ old.pairs
    → HoldsBatch limits s (with_row b row) new
held_row limits s b row old new held fits within tally fit short rows same = record {
  tally = tally;
  rows = subst (λ (es : List TallyEntry). StoresRows (known_indices (place_of_value es)) limits s.fields (b.rows ++ row ∷ []) new.builder)
      tally.counted rows;
  pairs = same ∙ held.pairs;
  accepted = record {
    fit = all_last (RowFits s.fields) b.rows row held.accepted.fit fits;
    within = record {
      lengths = within;
      dictionaries = record {
        counted = subst AllFit tally.counted fit;
        lengths = subst (λ (l : Limits). AllWithin l s.fields (tally_of_rows s.fields (b.rows ++ row ∷ []))) tally.same_limits
            (subst (λ (fs : List Field). AllWithin new.tally.limits fs (tally_of_rows s.fields (b.rows ++ row ∷ []))) tally.same_fields
            (subst (AllWithin new.tally.limits new.tally.fields) tally.counted short));
        short_messages = held.accepted.within.dictionaries.short_messages;
      };
      short_metadata = held.accepted.within.short_metadata;
      allowed_pairs = held.accepted.within.allowed_pairs;
    };
  };
}

-- a batch that is held is refused only for a sink that failed, or out of memory
pub judged_sent : (limits : Limits) (s : Schema) (b : BatchRows) (r : Result Unit WriteFault) → AcceptsBatch limits s b
    → IfErr r (λ fault. (fault ≡ w.Write) ⊎ (fault ≡ w.OutOfMemory))
    → MatchResult r (λ x. AcceptsBatch limits s b) (λ fault. RefusesBatch limits s b fault)
judged_sent limits s b (Ok x) accepts only = accepts
judged_sent limits s b (Err w.Write) accepts only = accepts
judged_sent limits s b (Err w.OutOfMemory) accepts only = tt
judged_sent limits s b (Err w.BadSchema) accepts (inl e) = cc
judged_sent limits s b (Err w.BadSchema) accepts (inr e) = cc
judged_sent limits s b (Err (w.Row number cause)) accepts (inl e) = cc
judged_sent limits s b (Err (w.Row number cause)) accepts (inr e) = cc
judged_sent limits s b (Err w.TooLong) accepts (inl e) = cc
judged_sent limits s b (Err w.TooLong) accepts (inr e) = cc
judged_sent limits s b (Err w.DictionaryFull) accepts (inl e) = cc
judged_sent limits s b (Err w.DictionaryFull) accepts (inr e) = cc
judged_sent limits s b (Err w.TooManyRows) accepts (inl e) = cc
judged_sent limits s b (Err w.TooManyRows) accepts (inr e) = cc
judged_sent limits s b (Err w.Failed) accepts (inl e) = cc
judged_sent limits s b (Err w.Failed) accepts (inr e) = cc

-- ---- a batch without rows

-- what is told of its pairs is told of it
pub refused_pairs : (limits : Limits) (s : Schema) (pairs : List (List ℕ × List ℕ)) (fault : WriteFault)
    → RefusesPairs limits s pairs fault → RefusesPending limits s (no_rows pairs) false fault
refused_pairs limits s pairs w.TooLong (inl long) = long_metadata long
refused_pairs limits s pairs w.TooLong (inr other) = other_pairs other
refused_pairs limits s pairs w.OutOfMemory h = tt
refused_pairs limits s pairs w.BadSchema h = absurd h
refused_pairs limits s pairs (w.Row number cause) h = absurd h
refused_pairs limits s pairs w.DictionaryFull h = absurd h
refused_pairs limits s pairs w.TooManyRows h = absurd h
refused_pairs limits s pairs w.Write h = absurd h
refused_pairs limits s pairs w.Failed h = absurd h

-- pairs that are within the limits aren't refused
pub accepted_pairs : {T : Type 0} (limits : Limits) (s : Schema) (b : BatchRows) (r : Result T WriteFault) → AcceptsBatch limits s b
    → MatchResult r (λ x. AcceptsPairs limits s b.pairs) (λ fault. RefusesPairs limits s b.pairs fault)
    → IfErr r (λ fault. fault ≡ w.OutOfMemory)
accepted_pairs limits s b (Ok x) accepts judged = tt
accepted_pairs limits s b (Err w.TooLong) accepts (inl long) =
    let short = accepts.within.short_metadata in absurd (omega (arith, long, short))
accepted_pairs limits s b (Err w.TooLong) accepts (inr other) = absurd (other accepts.within.allowed_pairs)
accepted_pairs limits s b (Err w.OutOfMemory) accepts judged = refl
accepted_pairs limits s b (Err w.BadSchema) accepts judged = absurd judged
accepted_pairs limits s b (Err (w.Row number cause)) accepts judged = absurd judged
accepted_pairs limits s b (Err w.DictionaryFull) accepts judged = absurd judged
accepted_pairs limits s b (Err w.TooManyRows) accepts judged = absurd judged
accepted_pairs limits s b (Err w.Write) accepts judged = absurd judged
accepted_pairs limits s b (Err w.Failed) accepts judged = absurd judged
