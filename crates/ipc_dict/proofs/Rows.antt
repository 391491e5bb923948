-- The rows of a batch, one after another.
use Rattle.std.proofs.Common.{◌≡◌, ℕ, zero, suc, arith, ◌+◌, ◌<◌, ◌≤◌, true, false, cond, ℤ, List, [], ◌∷◌, ◌++◌, length, get_or, drop}
use Rattle.std.proofs.Common.{refl, ap, ◌∙◌, add-one, drop-cons, int_eq}
use Rattle.ipc_model.specs.declared.schema.Field.{Field}
use Rattle.ipc_model.specs.declared.value.Value.{Value}
use Rattle.ipc_dict.specs.declared.entry.TallyEntry.{TallyEntry}
use Rattle.ipc_dict.specs.Noting.{note_entry, note_one, note_all}
use Rattle.ipc_dict.specs.Pairs.{row_pairs, rows_pairs}
use Rattle.ipc_dict.specs.SchemaIds.{tally_bounds, tally_ids, empty_entries}
use Rattle.ipc_dict.specs.Counted.{HoldsRows}
use Rattle.ipc_dict.proofs.ids.OneId.{holds_distinct}
use Rattle.ipc_dict.proofs.ids.SchemaIds.{unused-noted_for}
use Rattle.ipc_dict.specs.Distinct.{with_all_distinct}
use Rattle.ipc_dict.specs.Noting.{of_id}

pub rows-step : (fs : List Field) (rs : List (List Value)) (i : ℕ) (r : List Value) → i < length rs → r ≡ get_or rs i r
    → rows_pairs fs (drop i rs) ≡ row_pairs fs r ++ rows_pairs fs (drop (i + 1) rs)
rows-step fs rs i r h at = rw (add-one, drop-cons rs i r h, ← at) refl

pub rows-end : (fs : List Field) (rs : List (List Value)) (i : ℕ) → length rs ≤ i → rows_pairs fs (drop i rs) ≡ []
rows-end fs [] zero h = refl
rows-end fs [] (suc i) h = refl
rows-end fs (r ∷ rs) zero h = absurd (omega (arith, h))
rows-end fs (r ∷ rs) (suc i) h = rows-end fs rs i (omega (arith, h))

ids-note_one : (t : List TallyEntry) (id : ℤ) (v : Value) → tally_ids (note_one t id v) ≡ tally_ids t
ids-note_one [] id v = refl
ids-note_one (e ∷ es) id v =
    elim (int_eq e.id id) as (λ b. tally_ids (cond b (note_entry v e ∷ es) (e ∷ note_one es id v)) ≡ e.id ∷ tally_ids es)
    [ true ↦ refl | false ↦ ap (λ l. e.id ∷ l) (ids-note_one es id v) ]

-- values change no id
pub ids_note_all : (t : List TallyEntry) (ps : List (ℤ × Value)) → tally_ids (note_all t ps) ≡ tally_ids t
ids_note_all t [] = refl
ids_note_all t (p ∷ ps) = ids_note_all (note_one t p.0 p.1) ps ∙ ids-note_one t p.0 p.1

bounds-note_one : (t : List TallyEntry) (id : ℤ) (v : Value) → tally_bounds (note_one t id v) ≡ tally_bounds t
bounds-note_one [] id v = refl
bounds-note_one (e ∷ es) id v =
    elim (int_eq e.id id) as (λ b. tally_bounds (cond b (note_entry v e ∷ es) (e ∷ note_one es id v)) ≡ (e.id, e.limit) ∷ tally_bounds es)
    [ true ↦ refl | false ↦ ap (λ l. (e.id, e.limit) ∷ l) (bounds-note_one es id v) ]

-- nor how many values a dictionary may have
pub bounds_note_all : (t : List TallyEntry) (ps : List (ℤ × Value)) → tally_bounds (note_all t ps) ≡ tally_bounds t
bounds_note_all t [] = refl
bounds_note_all t (p ∷ ps) = bounds_note_all (note_one t p.0 p.1) ps ∙ bounds-note_one t p.0 p.1

-- what was counted of the rows are their distinct values
pub holds_rows : (fields : List Field) (rows : List (List Value))
    → HoldsRows fields rows (note_all (empty_entries fields) (rows_pairs fields rows))
holds_rows fields rows id =
    holds_distinct (empty_entries fields) (rows_pairs fields rows) id
    ∙ unused-noted_for fields id (λ xs. with_all_distinct xs (of_id id (rows_pairs fields rows)))
