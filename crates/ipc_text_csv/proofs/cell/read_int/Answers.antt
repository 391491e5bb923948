use Rattle.std.proofs.Common.{◌≡◌, ◌∙◌, Some, FitsSigned, sym, ap, rules, w64}
use Rattle.std.proofs.lemmas.Fmt.{parse-signed_decimal}
use Rattle.std.proofs.lemmas.Int.{to_z-of_z}
use Rattle.std.specs.Fmt.{signed_decimal}
use Rattle.ipc_text_csv.proofs.cell.read_int.Goals as goal

pub returns-in_default-clause-all : goal.returns-in_default-clause-all
returns-in_default-clause-all c = λ z f e.
    let r = parse-signed_decimal w64 z _ c.parse.result f f.sfits (sym e) c.parse.ensures.value.0 in absurd (c.in_default.not-Ok z r)

pub returns-then-eq-clause-all : goal.returns-then-eq-clause-all
returns-then-eq-clause-all c = λ z f e.
    let r = parse-signed_decimal w64 z _ c.parse.result f f.sfits (sym e) c.parse.ensures.value.0 in
    let is = c.in-Ok.is in
    let n : c.in-Ok.number ≡ z = cc in
    let fits : FitsSigned w64 c.in-Ok.number = rw n f in
    simp to_z-of_z (ap Some n)

pub returns-else-eq-clause-all : goal.returns-else-eq-clause-all
returns-else-eq-clause-all c = λ z f e.
    let r = parse-signed_decimal w64 z _ c.parse.result f f.sfits (sym e) c.parse.ensures.value.0 in
    let is = c.in-Ok.is in
    let n : c.in-Ok.number ≡ z = cc in
    let fits : FitsSigned w64 c.in-Ok.number = rw n f in
    let shown : c.format.result.now ≡ signed_decimal c.in-Ok.number = simp to_z-of_z at c.format.ensures.text in
    let same : c.format.result.now ≡ c.args.text.now = shown ∙ ap signed_decimal n ∙ e in
    let no = c.if-eq.ensures in
    absurd (search (rules, same, no))
