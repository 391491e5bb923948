use Rattle.std.proofs.Common.{◌≡◌, ◌∙◌, ◌++◌, ap, rules, length, take, drop, Some, w64, take-take}
use Rattle.std.proofs.lemmas.List.{take-append-le}
use Rattle.std.proofs.lemmas.Int.{to_z-of_z}
use Rattle.job_print.proofs.text_buffer.TextBuffer.put_temporal.Goals as goal

pub returns-in-Some-clause-text : goal.returns-in-Some-clause-text
returns-in-Some-clause-text c =
    let z = to_z-of_z w64 c.args.number (search rules) in
    let end = c.in-Some.end in
    let new = c.put_temporal.new.text in
    let kept : take end (take c.self.inside.bytes.len (new ++ drop (length new) c.self.inside.bytes.items)) ≡ take end new =
    take-take end c.self.inside.bytes.len _ (search rules) ∙ take-append-le end new _ (search rules) in
    let before : take c.self.inside.len c.deref_mut.result.now ≡ c.args.self.now.text = search rules in
    (ap Some kept ∙ (rw (c.in-Some.is, z, before) at c.put_temporal.ensures.text), rw z at c.put_temporal.ensures.plain)
