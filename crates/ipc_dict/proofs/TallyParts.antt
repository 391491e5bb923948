-- The parts of a tally whose last values are cut.
use Rattle.std.proofs.Common.{◌≡◌, ◌∙◌, sym, ap, subst, inl, inr, ℕ, List}
use Rattle.ipc_model.specs.declared.schema.Field.{Field}
use Rattle.ipc_dict.specs.declared.columns.EntryColumns.{EntryColumns}
use Rattle.ipc_dict.specs.declared.entry.TallyEntry.{TallyEntry}
use Rattle.ipc_dict.specs.EntryColumns.{AllCounted}
use Rattle.ipc_dict.specs.Noting.{tally_lengths, truncated_tally}
use Rattle.ipc_dict.specs.TallyParts.{AreOneTally, CanBeCut}
use Rattle.ipc_dict.proofs.Notes.{cut_bounds, cut_fits, cut_length, cut_twice}

module _ (fields : List Field) (es : List TallyEntry) (marks : List ℕ) (columns : EntryColumns) where
  -- where values came since, the counts from before them are kept
  kept : CanBeCut fields es marks columns → (tally_lengths es ≡ marks → ⊥)
      → AllCounted columns.limits fields (truncated_tally marks es) columns.next.items
  kept (inl none) some = absurd (some none)
  kept (inr counted) some = counted

  -- what is left of the entries, with these counts, is a tally
  pub cut_tally : AreOneTally fields es marks columns → (tally_lengths es ≡ marks → ⊥) → (left : List TallyEntry) (new : EntryColumns)
      → left ≡ truncated_tally marks es → new ≡ record columns { sizes = columns.next; next = columns.sizes }
      → AreOneTally fields left marks new
  cut_tally one some left new is counts =
      subst (λ (xs : List TallyEntry). AreOneTally fields xs marks new) (sym is)
      (subst (λ (cs : EntryColumns). AreOneTally fields (truncated_tally marks es) marks cs) (sym counts) (record {
        bounds = cut_bounds marks es ∙ one.bounds;
        fits = cut_fits marks es one.fits;
        counted = record { counted = kept one.can_be_cut some; room = sym one.counted.room };
        parallel = one.parallel ∙ sym (cut_length marks es);
        marked = ap tally_lengths (cut_twice marks es) ∙ one.marked;
        can_be_cut = inl one.marked;
      }))
