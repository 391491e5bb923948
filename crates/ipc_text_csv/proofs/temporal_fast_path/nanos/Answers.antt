use Rattle.std.proofs.Common.{arith}
use Rattle.ipc_text_csv.proofs.InstantTexts.{nine_digits}
use Rattle.ipc_text_csv.proofs.temporal_fast_path.nanos.Goals as goal

pub returns-clause-text : goal.returns-clause-text
returns-clause-text c =
    let p = c.if-first-gt999.false in
    let q = c.if-second-gt999.false in
    let r = c.if-third-gt999.false in
    let a = c.three_at-first.ensures in
    let b = c.three_at-second.ensures in
    let d = c.three_at-third.ensures in
    nine_digits c.args.text.now c.three_at-first.result c.three_at-second.result c.three_at-third.result c.from.result c.if-text-ne10.false
    (omega arith) (omega arith) (omega arith) c.from.ensures c.if-text-ne46.false (a.first (omega arith)) (a.second (omega arith))
    (a.third (omega arith)) (b.first (omega arith)) (b.second (omega arith)) (b.third (omega arith)) (d.first (omega arith))
    (d.second (omega arith)) (d.third (omega arith))
