use Rattle.std.proofs.Common.{◌≡◌, ◌∙◌, ap, rules, inl, inr, ◌++◌, List, ℕ, true, codes}
use Rattle.job_arguments.proofs.LineWords.{no_text, text_found, wrong_for}
use Rattle.job_arguments.proofs.arguments.read_label.Goals as goal

pub returns-in_default-clause-asked : goal.returns-in_default-clause-asked
returns-in_default-clause-asked c = inl (no_text _ _ _ c.get_str.ensures (search rules), c.new.ensures.bytes)

pub returns-then-not-is_label-clause-refused : goal.returns-then-not-is_label-clause-refused
returns-then-not-is_label-clause-refused c = wrong_for _ c.wrong.ensures (
  c.in-Some.name.now,
  text_found _ _ _ _ c.get_str.ensures (search rules),
  λ is. let bad : c.is_label.result ≡ true = c.is_label.ensures.1 is in absurd cc,
)

pub returns-clause-asked : goal.returns-clause-asked
returns-clause-asked c = inr (
  c.in-Some.name.now,
  text_found _ _ _ _ c.get_str.ensures (search rules),
  c.is_label.ensures.0 (search rules),
  c.in_ok-push_str.ensures.bytes ∙ ap (λ (l : List ℕ). l ++ codes ": ") c.in_ok-label.ensures.ok,
)
