use Rattle.std.proofs.Common.{rules, ◌≡◌, ◌∙◌, sym, Option, Some, None}
use Rattle.clap.specs.Words.{Text}
use Rattle.job_arguments.proofs.LineWords.{no_text, text_found, wrong_for}
use Rattle.job_arguments.proofs.arguments.read_count.Goals as goal

pub returns-in_default-clause-asked : goal.returns-in_default-clause-asked
returns-in_default-clause-asked c = no_text _ _ _ c.get_str.ensures (search rules)

pub returns-in-None-clause-refused : goal.returns-in-None-clause-refused
returns-in-None-clause-refused c =
    let found = text_found _ _ c.in-Some._text.now _ c.get_str.ensures (search rules) in
    wrong_for _ c.wrong.ensures (
      (λ none. let bad : ◌≡◌ {A = Option Text} (Some c.in-Some._text.now) None = sym found ∙ none in absurd cc),
      c.number_option.ensures.none c.in-None.is,
    )
