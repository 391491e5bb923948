use Rattle.std.proofs.Common.{rules, ◌≡◌, ◌∙◌, sym, ap, subst, slice_index, Option, Some, None, ℕ, inl, inr, length, arith}
use Rattle.std.specs.Prelude.{string_bytes}
use Rattle.std.proofs.lemmas.Option.{same_Some}
use Rattle.clap.specs.Words.{Text}
use Rattle.ipc_text_csv.specs.Dialects.{IsDialect}
use Rattle.job_arguments.specs.Arguments.{IsDelimiter}
use Rattle.job_arguments.proofs.LineWords.{no_text, text_found, wrong_for}
use Rattle.job_arguments.proofs.arguments.read_dialect.Goals as goal

-- a text names one delimiter
one_delimiter : (text : Text) (one two : ℕ) → IsDelimiter text one → IsDelimiter text two → one ≡ two
one_delimiter text one two (inl is) (inl same) = ap (λ (t : Text). slice_index t 0) (sym is ∙ same)
one_delimiter text one two (inl is) (inr same) = absurd (omega (arith, ap (λ (t : Text). length t) (sym is ∙ same.0)))
one_delimiter text one two (inr is) (inl same) = absurd (omega (arith, ap (λ (t : Text). length t) (sym is.0 ∙ same)))
one_delimiter text one two (inr is) (inr same) = is.1 ∙ sym same.1

pub returns-in_default-clause-refused : goal.returns-in_default-clause-refused
returns-in_default-clause-refused c = wrong_for _ c.wrong.ensures
    (λ text null byte one names two is.
    let bad : ◌≡◌ {A = Option Text} None (Some _) = sym (no_text _ _ _ c.get_str.ensures (search rules)) ∙ one in absurd cc)

pub returns-in_default-get_str-clause-refused : goal.returns-in_default-get_str-clause-refused
returns-in_default-get_str-clause-refused c = wrong_for _ c.wrong-in_default-get_str.ensures
    (λ text null byte one names two is.
    let bad : ◌≡◌ {A = Option Text} None (Some _) = sym (no_text _ _ _ c.get_str-2.ensures (search rules)) ∙ two in absurd cc)

pub returns-in_default-delimiter_of-clause-refused : goal.returns-in_default-delimiter_of-clause-refused
returns-in_default-delimiter_of-clause-refused c = wrong_for _ c.wrong-in_default-delimiter_of.ensures
    (λ text null byte one names two is.
    let same = same_Some _ _ (sym one ∙ text_found _ _ _ _ c.get_str.ensures (search rules)) in
    absurd (c.delimiter_of.ensures.none c.in_default-delimiter_of.is byte (subst (λ (t : Text). IsDelimiter t byte) same names)))

pub returns-in-Some-new-clause-asked : goal.returns-in-Some-new-clause-asked
returns-in-Some-new-clause-asked c =
    let found = text_found _ _ _ _ c.get_str.ensures (search rules) in
    let null_found = text_found _ _ _ _ c.get_str-2.ensures (search rules) in
    let same = c.in-Some-new.ensures.same in
    record {
      text = c.in-Some.delimiter.now;
      given = found;
      delimiter = subst (λ b. IsDelimiter c.in-Some.delimiter.now b) (sym same.0) c.in-Some-delimiter_of.ensures.some;
      null = null_found ∙ ap (λ (t : Text). Some t) (sym (same.1 ∙ c.in_ok-null.ensures.ok));
    }

pub returns-in-None-clause-refused : goal.returns-in-None-clause-refused
returns-in-None-clause-refused c = wrong_for _ c.wrong-in-None.ensures
    (λ text null byte one names two is.
    let found = text_found _ _ _ _ c.get_str.ensures (search rules) in
    let null_found = text_found _ _ _ _ c.get_str-2.ensures (search rules) in
    let same_byte = one_delimiter _ _ _ (subst (λ (t : Text). IsDelimiter t byte) (same_Some _ _ (sym one ∙ found)) names)
    c.in-Some-delimiter_of.ensures.some in
    let same_null = same_Some _ _ (sym two ∙ null_found) ∙ sym c.in_ok-null.ensures.ok in
    c.new.ensures.none c.in-None.is (subst (λ b. IsDialect b (string_bytes c.in_ok-null.null)) same_byte (subst (λ t. IsDialect byte t)
    same_null is)))
