use Rattle.std.proofs.Common.{◌≡◌, ◌∙◌, FitsSigned, Some, ap, sym, w64}
use Rattle.std.proofs.lemmas.Fmt.{signed_decimal_injective}
use Rattle.std.proofs.lemmas.Int.{to_z-of_z}
use Rattle.ipc_text_csv.proofs.reader.read_decimal.Goals as goal

pub returns-in-Some-clause-all : goal.returns-in-Some-clause-all
returns-in-Some-clause-all c = λ z f e.
    let n : c.in-Some.number ≡ z = signed_decimal_injective c.in-Some.number z c.in-Some.ensures.fits.sfits f.sfits
    (c.in-Some.ensures.only ∙ sym e) in
    let fits : FitsSigned w64 c.in-Some.number = rw n f in
    simp to_z-of_z (ap Some n)
