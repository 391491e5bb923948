use Rattle.std.proofs.Common.{◌≡◌, Some, ap, FitsSigned, w64}
use Rattle.std.proofs.lemmas.Int.{to_z-of_z}
use Rattle.ipc_text_csv.proofs.InstantTexts.{one_day}
use Rattle.ipc_text_csv.proofs.temporal_fast_path.read_day.Goals as goal

pub returns-in-Some-clause-all : goal.returns-in-Some-clause-all
returns-in-Some-clause-all c z e =
    let n : c.in-Some.number ≡ z = one_day c.in-Some.number z c.args.text.now c.in-Some.ensures.text e in
    let fits : FitsSigned w64 c.in-Some.number = c.in-Some.ensures.fits in
    simp to_z-of_z (ap Some n)
