use Rattle.std.proofs.Common.{◌∙◌, sym, ap, rules, FitsSigned, w8, w64, to_z}
use Rattle.std.proofs.lemmas.Int.{to_z-of_z}
use Rattle.ipc_column.proofs.lending.Widths.{byte_is}
use Rattle.ipc_column.proofs.fixed.signed_at.Goals as goal

pub returns-in-B8 : goal.returns-in-B8
returns-in-B8 c =
    let whole : FitsSigned w64 c.from.result = search rules in
    let small : FitsSigned w8 c.cast_signed.result = search rules in
    rw c.in-B8.is
    (to_z-of_z w64 c.from.result whole ∙ (c.from.ensures
    ∙ (to_z-of_z w8 c.cast_signed.result small ∙ (c.cast_signed.ensures ∙ ap (to_z w8) (sym (byte_is c.args.values.now c.args.slot))))))
