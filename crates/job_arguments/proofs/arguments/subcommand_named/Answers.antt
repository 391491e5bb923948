use Rattle.std.proofs.Common.{◌≡◌, ◌∙◌, sym, subst, refl, inr, ⊎_elim, Option, Some, None}
use Rattle.std.proofs.lemmas.Option.{same_Some}
use Rattle.clap.specs.Words.{Text}
use Rattle.job_arguments.specs.Arguments.{IsNoSubcommand}
use Rattle.job_arguments.proofs.LineWords.{second_word}
use Rattle.job_arguments.proofs.arguments.subcommand_named.Goals as goal

pub returns-in_default : goal.returns-in_default
returns-in_default c = inr (
  refl,
  λ word given.
      let bad : ◌≡◌ {A = Option Text} None (Some word) = sym (second_word _ _ _ c.get.ensures.lookup c.in_default.is) ∙ given in absurd cc,
)

pub returns-in_default-as_str : goal.returns-in_default-as_str
returns-in_default-as_str c = inr (
  refl,
  λ second given.
      let same = same_Some _ _ (sym (second_word _ _ _ c.get.ensures.lookup c.in-Some.is) ∙ given) in
      let none = c.in_default-as_str in
      subst (λ (t : Text). IsNoSubcommand t) (c.as_str.ensures.value ∙ same)
      (⊎_elim none.not-check (⊎_elim none.not-show (⊎_elim none.not-text none.not-rewrite)), none.not-text-2),
)
