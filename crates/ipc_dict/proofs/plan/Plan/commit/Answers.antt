use Rattle.std.proofs.Common.{arith, ℕ, ◌≡◌, ◌∙◌, ◌++◌, sym, ap, subst, take, drop, length}
use Rattle.std.proofs.Math.Seq.{take-append_seam}
use Rattle.ipc_dict.specs.PlanState.{PlanState}
use Rattle.ipc_dict.specs.SchemaIds.{kept_ids, tally_ids}
use Rattle.ipc_dict.specs.Sending.{AreAddressed, AreCounted}
use Rattle.ipc_dict.proofs.ids.Ids.{ids_after_all}
use Rattle.ipc_dict.proofs.Sending.{counted_plan}
use Rattle.ipc_dict.proofs.plan.Plan.commit.Goals as goal

pub returns-clause-ids : goal.returns-clause-ids
returns-clause-ids c =
    let new = c.commit.new.kept in
    let len : c.kept.inside.entries.len ≡ length new = omega (arith, c.commit.auto.kept, c.deref_mut-2.ensures.len) in
    let whole = ap (λ (n : ℕ). take n (new ++ drop (length new) c.kept.inside.entries.items)) len
    ∙ take-append_seam new (drop (length new) c.kept.inside.entries.items) in
    ap kept_ids (whole ∙ c.commit.ensures) ∙ ids_after_all c.deref_mut-2.result.now c.deref_mut.result.now c.deref.result.now
    ∙ ap kept_ids (c.deref_mut-2.ensures.value ∙ c.kept.view_is)

pub returns-clause-counted : goal.returns-clause-counted
returns-clause-counted c = λ fields ids values before.
    let new = c.commit.new.kept in
    let kept = c.deref_mut-2.result.now in
    let entries = c.deref_mut.result.now in
    let len : c.kept.inside.entries.len ≡ length new = omega (arith, c.commit.auto.kept, c.deref_mut-2.ensures.len) in
    let whole = ap (λ (n : ℕ). take n (new ++ drop (length new) c.kept.inside.entries.items)) len
    ∙ take-append_seam new (drop (length new) c.kept.inside.entries.items) in
    let old = c.deref_mut-2.ensures.value ∙ c.kept.view_is in
    let plan = c.deref_mut.ensures.value ∙ ap (λ (p : PlanState). p.entries) c.self.view_is in
    subst (AreCounted fields) (sym (whole ∙ c.commit.ensures))
    (counted_plan fields kept entries c.deref.result.now (ap kept_ids old ∙ ids ∙ ap tally_ids (sym plan))
    (subst (AreAddressed fields) (sym plan) values) (subst (AreCounted fields) (sym old) before))
