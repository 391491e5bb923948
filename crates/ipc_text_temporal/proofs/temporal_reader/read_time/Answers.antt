use Rattle.std.proofs.Common.{◌≡◌, ◌∙◌, [], ap, sym, pos, Some, to_z, arith}
use Rattle.std.specs.Int.{w64}
use Rattle.std.proofs.lemmas.Int.{to_z_pos}
use Rattle.ipc_text_temporal.specs.Temporals.{time_text}
use Rattle.ipc_text_temporal.proofs.Taken.{taken}
use Rattle.ipc_text_temporal.proofs.Times.{time_of}
use Rattle.ipc_text_temporal.proofs.temporal_reader.read_time.Goals as goal

pub returns-in_err-units-clause-all : goal.returns-in_err-units-clause-all
returns-in_err-units-clause-all c z e =
    let t = time_of c.args.unit z c.args.text.now e in
    let f = c.in_err-units.ensures.all t.number [] t.within t.text_is in absurd cc

pub returns-clause-all : goal.returns-clause-all
returns-clause-all c z e =
    let t = time_of c.args.unit z c.args.text.now e in
    let h = taken (c.in_ok-units.ensures.all t.number [] t.within t.text_is) in
    let small = c.in_ok-units.ensures.small in
    let n : to_z w64 c.in_ok-units.units ≡ z = to_z_pos w64 c.in_ok-units.units (omega arith) ∙ ap pos h.0 ∙ sym t.is in
    c.if_canonical.ensures.all (c.time_text.ensures.text ∙ ap (time_text c.args.unit) n ∙ e) ∙ ap Some n
