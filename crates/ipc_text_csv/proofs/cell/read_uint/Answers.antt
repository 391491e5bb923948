use Rattle.std.proofs.Common.{◌≡◌, ◌∙◌, Some, sym, ap, rules, decimal}
use Rattle.std.proofs.lemmas.Fmt.{parse-decimal}
use Rattle.ipc_text_csv.proofs.cell.read_uint.Goals as goal

pub returns-in_default-clause-all : goal.returns-in_default-clause-all
returns-in_default-clause-all c = λ n f e.
    let r = parse-decimal 64 n _ c.parse.result f f (sym e) c.parse.ensures.value.0 in absurd (c.in_default.not-Ok n r)

pub returns-then-eq-clause-all : goal.returns-then-eq-clause-all
returns-then-eq-clause-all c = λ n f e.
    let r = parse-decimal 64 n _ c.parse.result f f (sym e) c.parse.ensures.value.0 in
    let is = c.in-Ok.is in
    let same : c.in-Ok.count ≡ n = cc in
    ap Some same

pub returns-else-eq-clause-all : goal.returns-else-eq-clause-all
returns-else-eq-clause-all c = λ n f e.
    let r = parse-decimal 64 n _ c.parse.result f f (sym e) c.parse.ensures.value.0 in
    let is = c.in-Ok.is in
    let same : c.in-Ok.count ≡ n = cc in
    let shown : c.format.result.now ≡ decimal c.in-Ok.count = c.format.ensures.text in
    let both : c.format.result.now ≡ c.args.text.now = shown ∙ ap decimal same ∙ e in
    let no = c.if-eq.ensures in
    absurd (search (rules, both, no))
