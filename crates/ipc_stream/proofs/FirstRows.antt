-- What is refused of a batch's first rows is refused of the batch.
use Rattle.std.proofs.Common.{◌≡◌, ◌∙◌, sym, ap, subst, ℕ, List, [], ◌++◌, take, drop}
use Rattle.std.proofs.Common.{arith, false, length-append}
use Rattle.std.specs.Prelude.{slice_index_or}
use Rattle.std.specs.List.{AllByRecursion}
use Rattle.std.proofs.lemmas.List.{take-append-le, take-append-drop}
use Rattle.std.proofs.Math.ListN.{get_or-append}
use Rattle.ipc_model.specs.Fits.{RowFits}
use Rattle.ipc_model.specs.RowFaults.{row_faults, verdict}
use Rattle.ipc_model.specs.declared.fault.WriteFault.{WriteFault}
use Rattle.ipc_model.specs.declared.fault.WriteFault.TheVariants as w
use Rattle.ipc_model.specs.declared.limits.Limits.{Limits}
use Rattle.ipc_model.specs.declared.schema.Field.{Field}
use Rattle.ipc_model.specs.declared.schema.Schema.{Schema}
use Rattle.ipc_model.specs.declared.value.Value.{Value}
use Rattle.ipc_encode.proofs.Growing.{refused_more}
use Rattle.ipc_stream.specs.Writing.{RefusesBatch, AreMismatches, long_columns, long_message, long_metadata, long_values, many_slots}
use Rattle.ipc_stream.specs.Writing.{many_values}
use Rattle.ipc_stream.specs.Writing.{other_pairs}
use Rattle.ipc_stream.specs.PendingBatches.{RefusesPending}
use Rattle.ipc_stream.proofs.OverLimit.{full_more, over_more}

-- the first row that doesn't fit is the first one of more rows
misfits_more : (fields : List Field) (rows more : List (List Value)) (fault : WriteFault) → AreMismatches fields rows fault
    → AreMismatches fields (rows ++ more) fault
misfits_more fields rows more fault m =
    let inside = m.inside in
    let count = length-append rows more in
    let same : slice_index_or (rows ++ more) m.number [] ≡ slice_index_or rows m.number [] = get_or-append rows more [] m.number inside in
    record {
      number = m.number;
      inside = omega (arith, inside, count);
      before = subst (λ (rs : List (List Value)). AllByRecursion (RowFits fields) rs)
          (sym (take-append-le m.number rows more (omega (arith, inside)))) m.before;
      misfit = subst (λ (row : List Value). RowFits fields row → ⊥) (sym same) m.misfit;
      cause = m.cause;
      first = ap (λ (row : List Value). verdict (row_faults fields row)) same ∙ m.first;
      report = m.report;
    }

-- what a batch that isn't sent is refused for is a cause of refusing it with more rows
refused_with_more : (limits : Limits) (s : Schema) (pairs : List (List ℕ × List ℕ)) (rows more : List (List Value)) (fault : WriteFault)
    → RefusesPending limits s (record { pairs = pairs; rows = rows }) false fault
    → RefusesBatch limits s (record { pairs = pairs; rows = rows ++ more }) fault
refused_with_more limits s pairs rows more w.TooLong (long_columns h) = long_columns (refused_more limits s.fields rows more w.TooLong h)
refused_with_more limits s pairs rows more w.TooLong (long_metadata h) = long_metadata h
refused_with_more limits s pairs rows more w.TooLong (other_pairs h) = other_pairs h
refused_with_more limits s pairs rows more w.TooLong (long_values h) = long_values (over_more limits s.fields rows more w.TooLong h)
refused_with_more limits s pairs rows more w.TooLong (long_message h) = long_message h
refused_with_more limits s pairs rows more w.TooManyRows (many_slots h) =
    many_slots (refused_more limits s.fields rows more w.TooManyRows h)
refused_with_more limits s pairs rows more w.TooManyRows (many_values h) =
    many_values (over_more limits s.fields rows more w.TooManyRows h)
refused_with_more limits s pairs rows more w.OutOfMemory h = tt
refused_with_more limits s pairs rows more w.Write h = absurd h
refused_with_more limits s pairs rows more w.Failed h = cc
refused_with_more limits s pairs rows more w.BadSchema h = misfits_more s.fields rows more w.BadSchema h
refused_with_more limits s pairs rows more (w.Row number cause) h = misfits_more s.fields rows more (w.Row number cause) h
refused_with_more limits s pairs rows more w.DictionaryFull h = full_more s.fields rows more h

-- what the first rows of a batch are refused for is a cause of refusing it
pub refused_at_first : (limits : Limits) (s : Schema) (pairs : List (List ℕ × List ℕ)) (rows : List (List Value)) (i : ℕ)
    (fault : WriteFault) → RefusesPending limits s (record { pairs = pairs; rows = take i rows }) false fault
    → RefusesBatch limits s (record { pairs = pairs; rows = rows }) fault
refused_at_first limits s pairs rows i fault h =
    subst (λ (rs : List (List Value)). RefusesBatch limits s (record { pairs = pairs; rows = rs }) fault) (take-append-drop i rows)
    (refused_with_more limits s pairs (take i rows) (drop i rows) fault h)
