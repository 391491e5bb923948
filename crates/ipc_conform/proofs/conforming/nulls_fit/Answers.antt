use Rattle.std.proofs.Common.{◌∙◌, sym, ap, arith}
use Rattle.std.proofs.lemmas.Bool.{false≢true}
use Rattle.std.specs.Prelude.{not}
use Rattle.ipc_conform.proofs.conforming.nulls_fit.Goals as goal

pub returns-in-None : goal.returns-in-None
returns-in-None c = λ yes i m valid null. absurd (false≢true (sym (c.has_no_null.ensures yes i m) ∙ null))

pub returns-in-Some : goal.returns-in-Some
returns-in-Some c = λ yes i m valid null.
    absurd (false≢true (sym (ap not (c.valid_are_among.ensures yes i (omega (arith, m, c.len.ensures)) valid))
    ∙ (c.in-Some.ensures.marks.each i m ∙ null)))
