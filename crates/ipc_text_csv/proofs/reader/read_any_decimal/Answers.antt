use Rattle.std.proofs.Common.{subst}
use Rattle.std.specs.Fmt.{signed_decimal}
use Rattle.std.specs.Str.{IsUtf8}
use Rattle.itoa.proofs.Decimal.{IsAscii-signed_decimal}
use Rattle.std.proofs.lemmas.Str.{IsUtf8-from_ascii}
use Rattle.ipc_text_csv.proofs.reader.read_any_decimal.Goals as goal

pub returns-in-Err-clause-all : goal.returns-in-Err-clause-all
returns-in-Err-clause-all c z f e =
    absurd (c.in-Err.ensures.cases.0 (subst IsUtf8 e (IsUtf8-from_ascii (signed_decimal z) (IsAscii-signed_decimal z f))))
