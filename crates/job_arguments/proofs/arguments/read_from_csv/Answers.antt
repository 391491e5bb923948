use Rattle.std.proofs.Common.{rules, refl}
use Rattle.job_arguments.specs.Arguments.{HasWrongValue}
use Rattle.job_arguments.proofs.LineWords.{no_text, text_found, value_wrong, wrong_for}
use Rattle.job_arguments.proofs.arguments.read_from_csv.Goals as goal

pub returns-in_default-clause-refused : goal.returns-in_default-clause-refused
returns-in_default-clause-refused c =
    wrong_for _ c.wrong.ensures (HasWrongValue.path refl (no_text _ _ _ c.get_str.ensures (search rules)))

pub returns-in_default-number_option-clause-refused : goal.returns-in_default-number_option-clause-refused
returns-in_default-number_option-clause-refused c =
    wrong_for _ c.wrong-in_default-number_option.ensures (HasWrongValue.size refl (c.number_option.ensures.none (search rules)))

pub returns-in_err-read_count-clause-refused : goal.returns-in_err-read_count-clause-refused
returns-in_err-read_count-clause-refused c =
    value_wrong _ _ _ c.from_residual-in_err-read_count.result (λ h. HasWrongValue.bytes refl h)
    c.from_residual-in_err-read_count.ensures.1 c.in_err-read_count.ensures.refused

pub returns-clause-asked : goal.returns-clause-asked
returns-clause-asked c = (
  refl,
  text_found _ _ _ _ c.get_str.ensures (search rules),
  c.in-Some-number_option.ensures.some,
  c.in_ok-read_count.ensures.asked,
  c.in_ok-read_dialect.ensures.asked,
  c.has_flag.ensures,
)
