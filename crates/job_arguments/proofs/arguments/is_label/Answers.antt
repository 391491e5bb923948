use Rattle.std.proofs.Common.{◌≡◌, ◌≢◌, ◌∙◌, sym, ap, rules, refl, ℕ, List, [], length}
use Rattle.std.proofs.lemmas.Bool.Decides.{nat_tests}
use Rattle.std.proofs.lemmas.Iterator.{YieldsList-from_chars}
use Rattle.std.proofs.lemmas.Iterator.Search.{any_from_yields_List}
use Rattle.std.specs.Char.{is_control}
use Rattle.std.specs.List.{list_any}
use Rattle.std.specs.Prelude.{◌==◌, Bool, false, true, IsFalse, IsTrue, not}
use Rattle.std.specs.Str.{chars}
use Rattle.job_arguments.proofs.arguments.is_label.Goals as goal

-- what the answer of a test says of a text that is not empty
decided : (name : List ℕ) (r any : Bool) → r ≡ any → name ≢ [] → (IsTrue (not r) → (name ≢ []) × IsFalse any)
    × ((name ≢ []) × IsFalse any → IsTrue (not r))
decided name true any same full = (λ (h : false ≡ true). absurd cc, λ h. let bad : true ≡ false = same ∙ h.1 in absurd cc)
decided name false any same full = (λ h. (full, sym same), λ h. refl)

pub returns-then-not-is_empty : goal.returns-then-not-is_empty
returns-then-not-is_empty c =
    let any : c.any.result ≡ list_any is_control (chars c.args.name.now) =
    any_from_yields_List is_control _ _ c.any.result c.any.ensures.ran (YieldsList-from_chars c.args.name.now c.utf8.name cc)
    (λ x b q k. search (rules, nat_tests)) in
    decided _ _ _ any (λ empty.
    let bad : false ≡ true = c.if-not-is_empty.ensures ∙ ap (λ (l : List ℕ). length l == 0) empty in absurd cc)
