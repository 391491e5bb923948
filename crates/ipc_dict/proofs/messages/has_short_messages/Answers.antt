use Rattle.std.proofs.Common.{◌≡◌, ◌<◌, ◌∙◌, sym, ap, subst, Some, List, get_or, length, arith}
use Rattle.std.proofs.lemmas.List.{take_more}
use Rattle.ipc_dict_read.specs.ValuesColumns.{Listed, columns_for}
use Rattle.ipc_dict.specs.declared.entry.TallyEntry.{TallyEntry}
use Rattle.ipc_dict.specs.SchemaIds.{empty_entries}
use Rattle.ipc_dict.proofs.DictionaryColumns.{fresh_at}
use Rattle.ipc_dict.proofs.ShortMessages.{short_push, long_at}
use Rattle.ipc_dict.proofs.messages.has_short_messages.Goals as goal

pub is_short-requires : goal.is_short-requires
is_short-requires c =
    let fields = c.args.schema.now.fields in
    let es = c.deref-entry-items.result.now in
    let e = c.entry-item.result in
    let same : es ≡ empty_entries fields = c.deref-entry-items.ensures.value ∙ c.in_ok-entries.ensures
    ∙ ap empty_entries c.as_slice.ensures in
    let f = fresh_at fields es c.loop-entry.entry-index e same (omega arith) c.entry-item.is in
    (f.0.0, (subst (λ (cs : Listed). columns_for cs e.id ≡ Some f.0.0) (sym c.requires) f.0.1.0, f.0.1.1))

pub returns-then-not-is_short-clause-long : goal.returns-then-not-is_short-clause-long
returns-then-not-is_short-clause-long c =
    let limits = c.args.limits.now in
    let fields = c.args.schema.now.fields in
    let es = c.deref-entry-items.result.now in
    let i = c.loop-entry.entry-index in
    let e = c.entry-item.result in
    let same : es ≡ empty_entries fields = c.deref-entry-items.ensures.value ∙ c.in_ok-entries.ensures
    ∙ ap empty_entries c.as_slice.ensures in
    let f = fresh_at fields es i e same (omega arith) c.entry-item.is in
    let long = c.is_short.ensures.long f.0.0 (subst (λ (cs : Listed). columns_for cs e.id ≡ Some f.0.0) (sym c.requires) f.0.1.0)
    c.if-not-is_short.true in
    λ no. long_at limits fields (empty_entries fields) i e f.0.0 (subst (λ (us : List TallyEntry). i < length us) same (omega arith))
    (c.entry-item.is ∙ ap (λ (us : List TallyEntry). get_or us i e) same) f.0.1.0 long

pub loop-entry-preserved : goal.loop-entry-preserved
loop-entry-preserved c =
    let limits = c.args.limits.now in
    let fields = c.args.schema.now.fields in
    let es = c.deref-entry-items.result.now in
    let i = c.loop-entry.entry-index in
    let e = c.entry-item.result in
    let same : es ≡ empty_entries fields = c.deref-entry-items.ensures.value ∙ c.in_ok-entries.ensures
    ∙ ap empty_entries c.as_slice.ensures in
    let f = fresh_at fields es i e same (omega arith) c.entry-item.is in
    let short = c.is_short.ensures.short f.0.0 (subst (λ (cs : Listed). columns_for cs e.id ≡ Some f.0.0) (sym c.requires) f.0.1.0)
    c.if-not-is_short.false in
    let is : e ≡ get_or (empty_entries fields) i e = c.entry-item.is ∙ ap (λ (us : List TallyEntry). get_or us i e) same in
    rw (take_more (empty_entries fields) i e (subst (λ (us : List TallyEntry). i < length us) same (omega arith)), ← is)
    (short_push limits fields _ e f.0.0 c.loop-entry.invariant f.0.1.0 short)
