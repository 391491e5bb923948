use Rattle.std.proofs.Common.{◌≡◌, ◌<◌, ◌∙◌, ℕ, ℤ, true, false, List, length, sym, subst, ap, set, get_or, int_eq, w64}
use Rattle.std.proofs.lemmas.Result.{err_from_is_err_and}
use Rattle.std.proofs.lemmas.Int.{to_z-of_z}
use Rattle.ipc_model.specs.declared.value.Value.{Value}
use Rattle.ipc_dict.specs.declared.entry.TallyEntry.{TallyEntry}
use Rattle.ipc_dict.specs.Noting.{note_one, note_entry, IsIndexOverflow}
use Rattle.ipc_dict.proofs.Notes.{set-note_one, absent-note_one, all_grow_same, all_grow-set, all_fit-set, full-set}
use Rattle.ipc_dict.proofs.entry.note_one.Goals as goal

pub returns-in_default-clause-noted : goal.returns-in_default-clause-noted
returns-in_default-clause-noted c =
    let t = c.args.entries.now in
    let same = to_z-of_z w64 c.args.id c.ranges.id in
    sym (absent-note_one c.args.id c.args.value.now t
    (λ k d h. ap (λ z. int_eq (get_or t k d).id z) (sym same) ∙ c.in_default.ensures.absent k d h))

pub returns-in_default-clause-grows : goal.returns-in_default-clause-grows
returns-in_default-clause-grows c = all_grow_same c.args.entries.now

-- what the entries are once the one that was found has one value more
became : (t : List TallyEntry) (id z : ℤ) (v : Value) (i : ℕ) (x y : TallyEntry) → z ≡ id → i < length t
    → ((d : TallyEntry) → i < length t → int_eq (get_or t i d).id z ≡ true)
    → ((k : ℕ) (d : TallyEntry) → k < i → int_eq (get_or t k d).id z ≡ false) → x ≡ get_or t i x → y ≡ note_entry v (get_or t i x)
    → set t i y ≡ note_one t id v
became t id z v i x y same within found before is h =
    ap (set t i) (h ∙ ap (note_entry v) (sym is))
    ∙ set-note_one id v t i x within (ap (λ w. int_eq (get_or t i x).id w) (sym same) ∙ found x within)
    (λ k l. ap (λ w. int_eq (get_or t k x).id w) (sym same) ∙ before k x l) is

pub returns-in_err-place-clause-full : goal.returns-in_err-place-clause-full
returns-in_err-place-clause-full c =
    let p = err_from_is_err_and c.from_residual.result c.from_residual.ensures.1 in
    rw (p.1, p.2) (λ e. let q = c.in_err-place.ensures.full e in
    subst IsIndexOverflow (became c.args.entries.now c.args.id _ c.args.value.now c.in-Some.at c.index-entries-at.result
    c.note_in.new.entry (to_z-of_z w64 c.args.id c.ranges.id) c.in-Some.ensures.within c.in-Some.ensures.finds c.in-Some.ensures.before
    c.index-entries-at.is q.0)
    (full-set c.args.entries.now c.in-Some.at c.note_in.new.entry c.in-Some.ensures.within q.1))

pub returns-in_err-place-clause-grows : goal.returns-in_err-place-clause-grows
returns-in_err-place-clause-grows c =
    let x = c.index-entries-at.result in
    all_grow-set c.args.entries.now c.in-Some.at (get_or c.args.entries.now c.in-Some.at x) c.note_in.new.entry
    (ap (get_or c.args.entries.now c.in-Some.at) c.index-entries-at.is) c.note_in.ensures.grows

pub returns-clause-noted : goal.returns-clause-noted
returns-clause-noted c =
    became c.args.entries.now c.args.id _ c.args.value.now c.in-Some.at c.index-entries-at.result
    c.note_in.new.entry (to_z-of_z w64 c.args.id c.ranges.id) c.in-Some.ensures.within c.in-Some.ensures.finds c.in-Some.ensures.before
    c.index-entries-at.is c.in_ok-place.ensures.noted

pub returns-clause-fits : goal.returns-clause-fits
returns-clause-fits c = λ h.
    let x = c.index-entries-at.result in
    all_fit-set c.args.entries.now c.in-Some.at (get_or c.args.entries.now c.in-Some.at x) c.note_in.new.entry
    (ap (get_or c.args.entries.now c.in-Some.at) c.index-entries-at.is) c.in_ok-place.ensures.fits h

pub returns-clause-grows : goal.returns-clause-grows
returns-clause-grows c =
    let x = c.index-entries-at.result in
    all_grow-set c.args.entries.now c.in-Some.at (get_or c.args.entries.now c.in-Some.at x) c.note_in.new.entry
    (ap (get_or c.args.entries.now c.in-Some.at) c.index-entries-at.is) c.note_in.ensures.grows
