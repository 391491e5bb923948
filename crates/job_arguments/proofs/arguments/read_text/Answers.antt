use Rattle.std.proofs.Common.{rules}
use Rattle.job_arguments.proofs.LineWords.{no_text, text_found}
use Rattle.job_arguments.proofs.arguments.read_text.Goals as goal

pub returns-in_ok-from_str-in-Some : goal.returns-in_ok-from_str-in-Some
returns-in_ok-from_str-in-Some c = record { asked = text_found _ _ _ _ c.get_str.ensures (search rules) }

pub returns-in-None : goal.returns-in-None
returns-in-None c = record { asked = no_text _ _ _ c.get_str.ensures (search rules) }
