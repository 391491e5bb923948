-- What a tally is after values were counted, or were not.
use Rattle.std.proofs.Common.{◌≡◌, ◌∙◌, sym, ap, subst, inl, inr, true, false, true≢false, ℕ, List, [], Ok, Err}
use Rattle.std.specs.Prelude.{◌⊎◌}
use Rattle.ipc_model.specs.declared.fault.WriteFault.{WriteFault}
use Rattle.ipc_model.specs.declared.fault.WriteFault.TheVariants as w
use Rattle.ipc_model.specs.declared.schema.Field.{Field}
use Rattle.ipc_encode.specs.declared.fault.PushFault.{PushFault}
use Rattle.ipc_encode.specs.Faults.{write_fault}
use Rattle.ipc_dict.specs.declared.entry.TallyEntry.{TallyEntry}
use Rattle.ipc_dict.specs.Noting.{note_all, truncated_tally, AllFit, IsIndexOverflow}
use Rattle.ipc_dict.specs.NotesPairs.{NotesPairs}
use Rattle.ipc_dict.specs.Pairs.{Pairs}
use Rattle.ipc_dict.specs.SchemaIds.{tally_ids}
use Rattle.ipc_dict.specs.TallyState.{TallyState}
use Rattle.ipc_dict.specs.Within.{AllWithin, IsOfLimits, IsOverLimit}
use Rattle.ipc_dict.proofs.Notes.{cut_nothing, none_noted}
use Rattle.ipc_dict.proofs.Rows.{ids_note_all}

-- a column past the limits is no full dictionary
pub limits_not_full : (fault : WriteFault) → IsOfLimits fault → fault ≡ w.DictionaryFull → ⊥
limits_not_full fault (inl e) full = absurd (let both = sym e ∙ full in cc)
limits_not_full fault (inr e) full = absurd (let both = sym e ∙ full in cc)

-- a tally without entries is as before with values noted
pub none_counted : (inside t : TallyState) → inside ≡ t → (marks : List ℕ) (es : List TallyEntry) → inside.entries ≡ es
    → inside.before ≡ truncated_tally marks es → (ps : Pairs) → t.entries ≡ []
    → t ≡ record t { entries = note_all t.entries ps; before = t.entries }
none_counted inside t view marks es held before ps none =
    let empty : es ≡ [] = sym held ∙ ap (λ (s : TallyState). s.entries) view ∙ none in
    let same : t.entries ≡ note_all t.entries ps = none ∙ sym (none_noted ps) ∙ ap (λ es. note_all es ps) (sym none) in
    let nothing : t.before ≡ [] =
    ap (λ (s : TallyState). s.before) (sym view) ∙ before ∙ ap (truncated_tally marks) empty ∙ cut_nothing marks in
    λ i. record t { entries = same i; before = (nothing ∙ sym none) i }

-- a call on a tally hands its entries and its fields to another
module _ (tally old : TallyState) (view : old ≡ tally) (pairs : List Field → Pairs) (es : List TallyEntry) (fs : List Field)
    (entries : es ≡ old.entries) (given : fs ≡ old.fields) where
  all_pairs : note_all es (pairs fs) ≡ note_all old.entries (pairs old.fields)
  all_pairs i = note_all (entries i) (pairs (given i))

  -- the tally works, and keeps its limits and fields
  module _ (new : TallyState) (works : old.failed ≡ false) (limits : new.limits ≡ old.limits) (fields : new.fields ≡ old.fields)
      (within : AllWithin new.limits new.fields new.entries) (before : new.before ≡ es) where
    -- all values were counted
    pub counted_pairs : new.failed ≡ false → new.entries ≡ note_all es (pairs fs) → AllFit new.entries
        → NotesPairs tally (pairs tally.fields) new (Ok tt)
    counted_pairs failed counted fits =
        let all = counted ∙ all_pairs in
        subst (λ (t : TallyState). NotesPairs t (pairs t.fields) new (Ok tt)) view (record {
          noted = λ i.
              record {
                failed = (failed ∙ sym works) i;
                limits = limits i;
                fields = fields i;
                entries = all i;
                before = (before ∙ entries) i;
              };
          fields = fields;
          limits = limits;
          ids = ap tally_ids all ∙ ids_note_all old.entries (pairs old.fields);
          fits = fits;
          within = within;
          unchanged = tt;
          as_before = tt;
          full = tt;
          over = tt;
          failed = tt;
          refused = λ is. absurd (true≢false (sym is ∙ works));
          still_failed = λ is. absurd (true≢false (sym is ∙ works));
          before = tt;
          only = tt;
        })

    causes : (f : WriteFault) → ((f ≡ w.DictionaryFull) ⊎ IsOfLimits f) ⊎ (f ≡ w.OutOfMemory)
        → ((f ≡ w.DictionaryFull) ⊎ IsOfLimits f) ⊎ ((f ≡ w.OutOfMemory) ⊎ (f ≡ w.Failed))
    causes f (inl one) = inl one
    causes f (inr memory) = inr (inl memory)

    -- no value was counted
    pub refused_pairs : (fault : PushFault) → new.entries ≡ es → AllFit old.entries
        → (write_fault fault ≡ w.OutOfMemory → new.failed ≡ true)
        → (((write_fault fault ≡ w.DictionaryFull) ⊎ IsOfLimits (write_fault fault)) → new.failed ≡ false)
        → (write_fault fault ≡ w.DictionaryFull → IsIndexOverflow (note_all es (pairs fs)))
        → (IsOfLimits (write_fault fault) → IsOverLimit old.limits fs (note_all es (pairs fs)) (write_fault fault))
        → ((write_fault fault ≡ w.DictionaryFull) ⊎ IsOfLimits (write_fault fault)) ⊎ (write_fault fault ≡ w.OutOfMemory)
        → (write_fault fault ≡ w.Failed → ⊥) → NotesPairs tally (pairs tally.fields) new (Err fault)
    refused_pairs fault kept fits memory works_on full over cause not_failed =
        let same = kept ∙ entries in
        let back : new.failed ≡ false → new ≡ record old { before = old.entries } = λ failed i.
        record { failed = (failed ∙ sym works) i; limits = limits i; fields = fields i; entries = same i; before = (before ∙ entries) i } in
        subst (λ (t : TallyState). NotesPairs t (pairs t.fields) new (Err fault)) view (record {
          noted = tt;
          fields = fields;
          limits = limits;
          ids = ap tally_ids same;
          fits = subst AllFit (sym same) fits;
          within = within;
          unchanged = λ is. back (works_on (inl is));
          as_before = λ is. back (works_on (inr is));
          full = λ is. subst IsIndexOverflow all_pairs (full is);
          over = λ is.
              subst (λ (all : List TallyEntry). IsOverLimit old.limits old.fields all (write_fault fault)) all_pairs
              (subst (λ (l : List Field). IsOverLimit old.limits l (note_all es (pairs fs)) (write_fault fault)) given (over is));
          failed = memory;
          refused = λ is. absurd (true≢false (sym is ∙ works));
          still_failed = λ is. absurd (true≢false (sym is ∙ works));
          before = λ is. absurd (not_failed is);
          only = causes (write_fault fault) cause;
        })
