use Rattle.std.proofs.Common.{add-one, ap}
use Rattle.std.specs.Prelude.{Ok}
use Rattle.ipc_text_json.proofs.FirstBad.{one_more}
use Rattle.ipc_text_json.proofs.schema_errors.first_bad.Goals as goal

pub loop-number-preserved : goal.loop-number-preserved
loop-number-preserved c =
    let field = c.in_ok-part.ensures.none (ap Ok c.in_default.is) in
    rw add-one (one_more c.args.entries.now c.loop-number.number c.index-entries-number.result c.loop-number-test.true
    c.index-entries-number.is field c.loop-number.invariant)
