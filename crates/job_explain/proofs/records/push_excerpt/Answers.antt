use Rattle.std.proofs.Common.{inr, refl, sym, take}
use Rattle.std.proofs.lemmas.List.{take_min}
use Rattle.std.proofs.lemmas.Result.{on_ok_weaker}
use Rattle.hex.specs.Hex.{encode_lower}
use Rattle.job_explain.proofs.records.push_excerpt.Goals as goal

pub returns-in-Err : goal.returns-in-Err
returns-in-Err c = on_ok_weaker c.push_digits.result (λ appended. (
  encode_lower (take 40 c.args.field.now),
  inr (c.in-Err.ensures.cases.0, refl),
  rw (sym (take_min 40 c.args.field.now)) (rw c.min.ensures at appended),
)) c.push_digits.ensures.ok
