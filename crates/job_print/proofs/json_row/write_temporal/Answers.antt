use Rattle.std.proofs.Common.{◌∙◌, ◌++◌, [], ◌∷◌, List, ℕ, ap, refl, rules, sym, option_map, take_at, w64}
use Rattle.std.proofs.lemmas.Int.{to_z-of_z}
use Rattle.ipc_text_temporal.specs.Temporals.{temporal_text}
use Rattle.job_print.proofs.texts.MomentTexts.{shown_moment, shown_number}
use Rattle.job_print.proofs.json_row.write_temporal.Goals as goal

pub returns-then-put_temporal : goal.returns-then-put_temporal
returns-then-put_temporal c =
    let h = rw (c.if-put_temporal.true, to_z-of_z w64 c.args.number (search rules)) at c.put_temporal.ensures.text in
    c.put-then-put_temporal.ensures.text
    ∙ shown_moment _ _ (temporal_text c.args.kind.now c.args.number) c.args.number h.1 (rw c.put.ensures.text at h.0)

pub returns-else-put_temporal : goal.returns-else-put_temporal
returns-else-put_temporal c =
    let z = to_z-of_z w64 c.args.number (search rules) in
    let h = rw (c.if-put_temporal.false, z) at c.put_temporal.ensures.text in
    let start = take_at c.args.out.now.text (34 ∷ []) _ refl in
    let text = rw (c.truncate.ensures.text, h.1, c.put.ensures.text, c.len-start.ensures, start, z) at c.write_plain_number.ensures in
    shown_number [] _ c.args.out.now.text (temporal_text c.args.kind.now c.args.number) c.args.number
    (ap (option_map (λ (m : List ℕ). [] ++ m)) (sym h.0)) text
