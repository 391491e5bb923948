use Rattle.std.proofs.Common.{◌≡◌, ◌∙◌, sym, ap, length, arith}
use Rattle.ipc_dict.specs.Noting.{tally_lengths, truncated_tally}
use Rattle.ipc_dict.specs.TallyState.{TallyState}
use Rattle.ipc_dict.specs.declared.columns.EntryColumns.{EntryColumns}
use Rattle.ipc_dict.proofs.EntryColumns.{written_back}
use Rattle.ipc_dict.proofs.Notes.{cut_all, cut_twice}
use Rattle.ipc_dict.proofs.TallyParts.{cut_tally}
use Rattle.ipc_dict.proofs.tally.Tally.cut.Goals as goal

pub invariant_of-self : goal.invariant_of-self
invariant_of-self c =
    let inside = c.self.inside in
    let es = c.restore.new.entries in
    let count : inside.entries.len ≡ length es = omega (arith, c.restore.auto.entries, c.deref_mut.ensures.len) in
    let is = written_back es inside.entries.items inside.entries.len count ∙ c.restore.ensures
    ∙ (λ i. truncated_tally (c.deref-then-have_new_values.ensures.value i) (c.deref_mut.ensures.value i)) in
    cut_tally inside.fields inside.entries.items inside.marks.items inside.columns c.self.invariant
    (λ same. c.have_new_values.ensures.some c.if-have_new_values.true
    (ap tally_lengths c.deref.ensures.value ∙ same ∙ sym c.deref-2.ensures.value))
    _ c.take_back.new.self is c.take_back.ensures

pub returns-then-have_new_values : goal.returns-then-have_new_values
returns-then-have_new_values c =
    let inside = c.self.inside in
    let marks = inside.marks.items in
    let es = c.restore.new.entries in
    let count : inside.entries.len ≡ length es = omega (arith, c.restore.auto.entries, c.deref_mut.ensures.len) in
    let is = written_back es inside.entries.items inside.entries.len count ∙ c.restore.ensures
    ∙ (λ i. truncated_tally (c.deref-then-have_new_values.ensures.value i) (c.deref_mut.ensures.value i)) in
    let before = ap (truncated_tally marks) is ∙ cut_twice marks inside.entries.items in
    let limits = ap (λ (cs : EntryColumns). cs.limits) c.take_back.ensures in
    (λ i. record { failed = inside.failed; limits = limits i; fields = inside.fields; entries = is i; before = before i })
    ∙ ap (λ (t : TallyState). record t { entries = t.before }) c.self.view_is

-- nothing came since
pub returns-else-have_new_values : goal.returns-else-have_new_values
returns-else-have_new_values c =
    let inside = c.self.inside in
    let es = inside.entries.items in
    let none = ap tally_lengths (sym c.deref.ensures.value) ∙ c.have_new_values.ensures.none c.if-have_new_values.false
    ∙ c.deref-2.ensures.value in
    let same : es ≡ truncated_tally inside.marks.items es = sym (cut_all es) ∙ ap (λ ms. truncated_tally ms es) none in
    sym c.self.view_is
    ∙ (λ i. record {
      failed = inside.failed;
      limits = inside.columns.limits;
      fields = inside.fields;
      entries = same i;
      before = truncated_tally inside.marks.items es;
    })
    ∙ ap (λ (t : TallyState). record t { entries = t.before }) c.self.view_is
