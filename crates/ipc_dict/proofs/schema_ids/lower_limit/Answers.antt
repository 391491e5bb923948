use Rattle.std.proofs.Common.{◌≡◌, ◌∙◌, ap, set, get_or, ℕ}
use Rattle.std.specs.Prelude.{min}
use Rattle.ipc_dict.specs.SchemaIds.{index_capacity}
use Rattle.ipc_dict.proofs.ids.SchemaIds.{absent-with_field, set-with_field}
use Rattle.ipc_dict.proofs.schema_ids.lower_limit.Goals as goal

pub returns-in_default-clause-absent : goal.returns-in_default-clause-absent
returns-in_default-clause-absent c = λ h. absent-with_field c.args.dictionary.now c.args.entries.now c.in_default.ensures.absent

pub returns-clause-finds : goal.returns-clause-finds
returns-clause-finds c = λ h.
    let t = c.args.entries.now in
    let at = c.in-Some.at in
    let x = get_or t at c.index-entries-at.result in
    let limit : c.min-entry.result ≡ min x.limit (index_capacity c.args.dictionary.now) = c.min-entry.ensures
    ∙ ap (min x.limit) c.requires in
    ap (λ (n : ℕ). set t at (record x { limit = n })) limit
    ∙ set-with_field c.args.dictionary.now t at x c.in-Some.ensures.within
    (c.in-Some.ensures.finds x c.in-Some.ensures.within) (λ k h. c.in-Some.ensures.before k x h)
    (ap (get_or t at) c.index-entries-at.is)
