use Rattle.std.proofs.Common.{◌∙◌, Some, ap, arith, decimal, subst, sym}
use Rattle.std.specs.Str.{IsUtf8}
use Rattle.std.proofs.lemmas.Fmt.{IsAscii-decimal, decimal_injective}
use Rattle.std.proofs.lemmas.Str.{IsUtf8-from_ascii}
use Rattle.ipc_text_csv.proofs.reader.read_count.Goals as goal

pub returns-in-Err-clause-all : goal.returns-in-Err-clause-all
returns-in-Err-clause-all c n h e =
    absurd (c.in-Err.ensures.cases.0 (subst IsUtf8 e (IsUtf8-from_ascii (decimal n) (IsAscii-decimal n h))))

pub returns-in-Some-clause-all : goal.returns-in-Some-clause-all
returns-in-Some-clause-all c = λ n h e.
    ap Some (decimal_injective c.in-Some.count n (omega (arith, c.in-Some.ensures.small)) h (c.in-Some.ensures.only ∙ sym e))
