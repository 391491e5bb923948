use Rattle.std.proofs.Common.{◌≡◌, ◌∙◌, false, inl, sym, ap, subst, length, List}
use Rattle.std.proofs.lemmas.List.{length-map}
use Rattle.ipc_model.specs.declared.limits.Limits.{Limits}
use Rattle.ipc_model.specs.declared.schema.Field.{Field}
use Rattle.ipc_dict.specs.declared.entry.TallyEntry.{TallyEntry}
use Rattle.ipc_dict.specs.declared.columns.EntryColumns.{EntryColumns}
use Rattle.ipc_dict.specs.EntryColumns.{AreEntriesCounted}
use Rattle.ipc_dict.specs.Noting.{AllFit, tally_lengths, truncated_tally}
use Rattle.ipc_dict.specs.SchemaIds.{tally_bounds, empty_entries}
use Rattle.ipc_dict.specs.Within.{AllWithin}
use Rattle.ipc_dict.proofs.EntryColumns.{counted_within}
use Rattle.ipc_dict.proofs.Notes.{cut_all}
use Rattle.ipc_dict.proofs.ids.SchemaIds.{fit-unused}
use Rattle.ipc_dict.proofs.tally.Tally.new.Goals as goal

-- columns that count entries, where these are seen in another way
counted : (fields : List Field) (seen es : List TallyEntry) (columns : EntryColumns) → seen ≡ es → AreEntriesCounted fields seen columns
    → AreEntriesCounted fields es columns
counted fields seen es columns same h = subst (λ (xs : List TallyEntry). AreEntriesCounted fields xs columns) same h

pub invariant_of-result : goal.invariant_of-result
invariant_of-result c =
    let columns = c.in_ok-columns.columns in
    let es = c.in_ok-entries.entries.items in
    let copied = c.in_ok-fields.ensures.cases.1 (λ x y h. h) in
    let all = counted c.args.schema.now.fields _ es columns c.deref-2.ensures.value c.in_ok-columns.ensures.counted in
    let lengths = c.in_ok-marks.ensures ∙ ap tally_lengths c.deref.ensures.value in
    record {
      bounds = ap tally_bounds c.in_ok-entries.ensures ∙ ap (λ (fs : List Field). tally_bounds (empty_entries fs))
          (c.as_slice.ensures ∙ sym copied);
      fits = subst AllFit (sym c.in_ok-entries.ensures) (fit-unused _);
      counted = subst (λ (fs : List Field). AreEntriesCounted fs es columns) (sym copied) all;
      parallel = ap length lengths ∙ length-map es (λ (e : TallyEntry). length e.values);
      marked = ap tally_lengths (ap (λ ms. truncated_tally ms es) lengths ∙ cut_all es) ∙ sym lengths;
      can_be_cut = inl (sym lengths);
    }

pub returns-clause-fresh : goal.returns-clause-fresh
returns-clause-fresh c =
    let es = c.in_ok-entries.entries.items in
    let copied = c.in_ok-fields.ensures.cases.1 (λ x y h. h) in
    let empty : es ≡ empty_entries c.args.schema.now.fields = c.in_ok-entries.ensures ∙ ap empty_entries c.as_slice.ensures in
    let lengths = c.in_ok-marks.ensures ∙ ap tally_lengths c.deref.ensures.value in
    let before = ap (λ ms. truncated_tally ms es) lengths ∙ cut_all es ∙ empty in
    λ i. record { failed = false; limits = c.in_ok-columns.ensures.limits i; fields = copied i; entries = empty i; before = before i }

pub returns-clause-within : goal.returns-clause-within
returns-clause-within c =
    let fields = c.args.schema.now.fields in
    let columns = c.in_ok-columns.columns in
    let es = c.in_ok-entries.entries.items in
    let all = counted fields _ es columns c.deref-2.ensures.value c.in_ok-columns.ensures.counted in
    subst (λ (limits : Limits). AllWithin limits fields es) c.in_ok-columns.ensures.limits (counted_within fields es columns all)
