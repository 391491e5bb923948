-- Why a batch whose columns are written is refused.
use Rattle.std.proofs.Common.{◌≡◌, ◌∙◌, refl, sym, subst, ℕ, List, [], inl, inr, Result, Ok, Err, IfOk, IfErr}
use Rattle.std.specs.Prelude.{◌⊎◌}
use Rattle.std.specs.List.{AllByRecursion}
use Rattle.ipc_model.specs.Fits.{RowFits}
use Rattle.ipc_model.specs.declared.fault.WriteFault.{WriteFault}
use Rattle.ipc_model.specs.declared.fault.WriteFault.TheVariants as w
use Rattle.ipc_model.specs.declared.limits.Limits.{Limits}
use Rattle.ipc_model.specs.declared.schema.Schema.{Schema}
use Rattle.ipc_model.specs.declared.table.BatchRows.{BatchRows}
use Rattle.ipc_model.specs.declared.value.Value.{Value}
use Rattle.ipc_encode.specs.Limits.{AreRowsRefused, IsWithin}
use Rattle.ipc_dict.specs.Noting.{IsIndexOverflow}
use Rattle.ipc_dict.specs.Sending.{tally_of_rows}
use Rattle.ipc_dict.specs.Within.{IsOfLimits, IsOverLimit}
use Rattle.ipc_stream.specs.Canonical.{RefusesRows}
use Rattle.ipc_stream.specs.Dictionaries.{AreDictionariesWithin}
use Rattle.ipc_stream.specs.Parts.{AcceptsPairs, RefusesPairs}
use Rattle.ipc_stream.specs.PendingBatches.{with_rows}
use Rattle.ipc_stream.specs.Writing.{AcceptsBatch, AreMismatches, RefusesBatch, long_columns, long_metadata, long_values, many_slots}
use Rattle.ipc_stream.specs.Writing.{many_values}
use Rattle.ipc_stream.specs.Writing.{other_pairs}

module _ (limits : Limits) (s : Schema) (b : BatchRows) where
  -- its columns are too long
  pub lengths_refused : (fault : WriteFault) → AreRowsRefused limits s.fields b.rows fault → RefusesBatch limits s b fault
  lengths_refused w.TooLong h = long_columns h
  lengths_refused w.TooManyRows h = many_slots h
  lengths_refused w.OutOfMemory h = tt
  lengths_refused w.BadSchema h = absurd h
  lengths_refused (w.Row number cause) h = absurd h
  lengths_refused w.DictionaryFull h = absurd h
  lengths_refused w.Write h = absurd h
  lengths_refused w.Failed h = absurd h

  -- so are its pairs
  pub pairs_refused : (fault : WriteFault) → RefusesPairs limits s b.pairs fault → RefusesBatch limits s b fault
  pairs_refused w.TooLong (inl long) = long_metadata long
  pairs_refused w.TooLong (inr other) = other_pairs other
  pairs_refused w.OutOfMemory h = tt
  pairs_refused w.BadSchema h = absurd h
  pairs_refused (w.Row number cause) h = absurd h
  pairs_refused w.DictionaryFull h = absurd h
  pairs_refused w.TooManyRows h = absurd h
  pairs_refused w.Write h = absurd h
  pairs_refused w.Failed h = absurd h

  -- a row does not fit, or memory ran out
  pub rows_refused : (fault : WriteFault) → (fault ≡ w.OutOfMemory) ⊎ AreMismatches s.fields b.rows fault → RefusesBatch limits s b fault
  rows_refused fault (inl e) = subst (λ (f : WriteFault). RefusesBatch limits s b f) (sym e) tt
  rows_refused fault (inr h) =
      subst (λ (f : WriteFault). RefusesBatch limits s b f) (sym h.report)
      (subst (λ (f : WriteFault). AreMismatches s.fields b.rows f) h.report h)

  -- the dictionaries have too many or too long values, or memory ran out
  pub values_refused : (fault : WriteFault) → (fault ≡ w.DictionaryFull → IsIndexOverflow (tally_of_rows s.fields b.rows))
      → (IsOfLimits fault → IsOverLimit limits s.fields (tally_of_rows s.fields b.rows) fault)
      → ((fault ≡ w.DictionaryFull) ⊎ IsOfLimits fault) ⊎ (fault ≡ w.OutOfMemory) → RefusesBatch limits s b fault
  values_refused fault full over (inl (inl e)) = subst (λ (f : WriteFault). RefusesBatch limits s b f) (sym e) (full e)
  values_refused fault full over (inl (inr (inl e))) =
      subst (λ (f : WriteFault). RefusesBatch limits s b f) (sym e)
      (long_values (subst (λ (f : WriteFault). IsOverLimit limits s.fields (tally_of_rows s.fields b.rows) f) e (over (inl e))))
  values_refused fault full over (inl (inr (inr e))) =
      subst (λ (f : WriteFault). RefusesBatch limits s b f) (sym e)
      (many_values (subst (λ (f : WriteFault). IsOverLimit limits s.fields (tally_of_rows s.fields b.rows) f) e (over (inr e))))
  values_refused fault full over (inr e) = subst (λ (f : WriteFault). RefusesBatch limits s b f) (sym e) tt

  -- ---- none of these is a sink that failed

  pub rows_unsent : (fault : WriteFault) → (fault ≡ w.OutOfMemory) ⊎ AreMismatches s.fields b.rows fault → fault ≡ w.Write → ⊥
  rows_unsent fault (inl e) is = absurd (let both = sym e ∙ is in cc)
  rows_unsent fault (inr h) is = absurd (let both = sym h.report ∙ is in cc)

  pub values_unsent : (fault : WriteFault) → ((fault ≡ w.DictionaryFull) ⊎ IsOfLimits fault) ⊎ (fault ≡ w.OutOfMemory)
      → fault ≡ w.Write → ⊥
  values_unsent fault (inl (inl e)) is = absurd (let both = sym e ∙ is in cc)
  values_unsent fault (inl (inr (inl e))) is = absurd (let both = sym e ∙ is in cc)
  values_unsent fault (inl (inr (inr e))) is = absurd (let both = sym e ∙ is in cc)
  values_unsent fault (inr e) is = absurd (let both = sym e ∙ is in cc)

-- ---- whatever the pairs

module _ (limits : Limits) (s : Schema) (rows : List (List Value)) where
  -- each batch with these rows is refused, and the sink did not fail
  pub all_refused : (fault : WriteFault) → (fault ≡ w.Write → ⊥)
      → ((pairs : List (List ℕ × List ℕ)) → RefusesBatch limits s (with_rows pairs rows) fault) → RefusesRows limits s rows fault
  all_refused w.TooLong unsent h = h
  all_refused w.TooManyRows unsent h = h
  all_refused w.OutOfMemory unsent h = h
  all_refused w.BadSchema unsent h = h
  all_refused (w.Row number cause) unsent h = h
  all_refused w.DictionaryFull unsent h = h
  all_refused w.Write unsent h = absurd (unsent refl)
  all_refused w.Failed unsent h = absurd (let is = (h []).report in cc)

  -- their columns are too long
  pub lengths_all_refused : (fault : WriteFault) → AreRowsRefused limits s.fields rows fault → RefusesRows limits s rows fault
  lengths_all_refused fault h = all_refused fault (λ e. subst (λ (f : WriteFault). AreRowsRefused limits s.fields rows f) e h)
      (λ pairs. lengths_refused limits s (with_rows pairs rows) fault h)

-- ---- what three clauses say of one result

pub if_three : {T E : Type 0} {P Q R S : T → Type 0} (r : Result T E) → IfOk r P → IfOk r Q → IfOk r R
    → ((x : T) → P x → Q x → R x → S x) → IfOk r S
if_three (Ok x) p q h f = f x p q h
if_three (Err e) p q h f = tt

pub refused_three : {T E : Type 0} {P Q R S : E → Type 0} (r : Result T E) → IfErr r P → IfErr r Q → IfErr r R
    → ((e : E) → P e → Q e → R e → S e) → IfErr r S
refused_three (Ok x) p q h f = tt
refused_three (Err e) p q h f = f e p q h

-- ---- a batch that is accepted

pub accepted : (limits : Limits) (s : Schema) (pairs : List (List ℕ × List ℕ)) (rows : List (List Value))
    → AllByRecursion (RowFits s.fields) rows → AreDictionariesWithin limits s.fields rows → IsWithin limits s.fields rows
    → AcceptsPairs limits s pairs → AcceptsBatch limits s (with_rows pairs rows)
accepted limits s pairs rows fit dictionaries lengths metadata = record {
  fit = fit;
  within = record {
    lengths = lengths;
    dictionaries = dictionaries;
    short_metadata = metadata.short_metadata;
    allowed_pairs = metadata.allowed_pairs;
  };
}
