-- What is read of the words of a command line.
use Rattle.std.proofs.Common.{◌≡◌, ◌∙◌, sym, ap, subst, refl, ℕ, List, [], Option, Some, None, Result, Ok, Err, ◌<◌, ◌≤◌, ◌^◌, arith}
use Rattle.std.proofs.Common.{◌⊎◌, ⊎_elim, inl, inr, true, false, slice_index, ap₂, ◌||◌, is_some}
use Rattle.std.proofs.lemmas.Option.{slice_get-map, slice_get_past, slice_get_read}
use Rattle.std.specs.Borrow.{Bor}
use Rattle.std.specs.Prelude.{Bool, IfErr, String, codes, map, option_map, slice_get, string_bytes, unwrap_or}
use Rattle.std.specs.Slice.{IsItemAt}
use Rattle.std.specs.Result.{IsErrAnd}
use Rattle.std.specs.Str.Parse.{ParsesBool, ParsesUnsigned}
use Rattle.clap.specs.Words.{FailsBy, HasKind, HasMatchesOf, IsParsedFrom, app_of, first_value, kind_of, one_of, subcommand_rows_of}
use Rattle.clap.specs.Words.{IsAmong, ReadsOne, Row, Text, fault_of, first_of, found_of, is_simple, is_simple_and_free, one_text}
use Rattle.clap.specs.Words.{AddsArg, AddsSubcommand, App, Rule, rows_of, rule_of, subcommand_of, with_rule, with_subcommand}
use Rattle.clap.specs.declared.builder.arg.Arg.{Arg}
use Rattle.clap.specs.declared.builder.command.Command.{Command}
use Rattle.clap.specs.declared.builder.command.Command.TheViews.{out-Command}
use Rattle.clap.specs.declared.error.Error.{Error}
use Rattle.clap.specs.declared.error.kind.ErrorKind.{ErrorKind}
use Rattle.clap.specs.declared.error.kind.ErrorKind.TheVariants as kind
use Rattle.clap.proofs.OnLiterals.{clap_on_literals}
use Rattle.clap.specs.declared.parser.matches.ArgMatches.{ArgMatches}
use Rattle.clap.specs.declared.parser.matches.ArgMatches.TheViews.{out-ArgMatches}
use Rattle.clap.proofs.WalkLemmas.{first_value-rows, one_text-rows}
use Rattle.job_arguments.specs.CommandLine.{arrowstream}
use Rattle.job_arguments.specs.Arguments.{Asks, AsksNoJob, HasFlag, HasNumber, HasWrongValue, IsCommand}
use Rattle.job_arguments.specs.Arguments.{IsFound, IsUsageOf, IsWrong, IsWrongFor, IsWrongFound, LacksNumber}
use Rattle.job_arguments.specs.declared.arguments.Invocation.{Invocation}
use Rattle.job_arguments.specs.declared.arguments.Usage.{Usage}
use Rattle.job_arguments.specs.declared.arguments.Usage.TheVariants as usage

module _ {E : Type 0} (G : List ℕ → Result ℕ E → Type 0) (only : (u : List ℕ) (x : Result ℕ E) → G u x → ParsesUnsigned 64 10 u x)
    (m : ArgMatches) (name : Text) (least greatest : ℕ) where
  -- a number that is read of an option, and is in its range, is its number
  pub some_number : (n : ℕ) → (one_text (found_of m) name ≡ None → Some n ≡ None)
      → ((t : List ℕ) → one_text (found_of m) name ≡ Some t → ReadsOne G t (Some n)) → least ≤ n → n ≤ greatest
      → HasNumber name least greatest (rows_of (found_of m)) n
  some_number n none value above below = go (one_text (found_of m) name) refl
    where
      go : (o : Option Text) → one_text (found_of m) name ≡ o → HasNumber name least greatest (rows_of (found_of m)) n
      go None e =
          let bad : Some n ≡ None = none e in
          absurd cc
      go (Some t) e =
          let p = only t (Ok n) (value t e) in
          record {
            text = t;
            text_is = sym (one_text-rows (found_of m) name) ∙ e;
            numeral = p.0.0;
            value = p.1;
            least_is = above;
            greatest_is = below;
          }

  -- where none is read there is none
  pub no_number : greatest < 2 ^ 64 → ((t : List ℕ) → one_text (found_of m) name ≡ Some t → ReadsOne G t None)
      → LacksNumber name least greatest (rows_of (found_of m))
  no_number fits value n h =
      let e = value h.text (one_text-rows (found_of m) name ∙ h.text_is) in
      let small : n < 2 ^ 64 = omega (arith, h.greatest_is, fits) in
      only h.text (Err e.0) e.1 (h.numeral, subst (λ x. x < 2 ^ 64) h.value small)

  -- nor where one is read that is out of range
  pub other_number : (k : ℕ) → ((t : List ℕ) → one_text (found_of m) name ≡ Some t → ReadsOne G t (Some k))
      → (least ≤ k → k ≤ greatest → ⊥) → LacksNumber name least greatest (rows_of (found_of m))
  other_number k value outside n h =
      let p = only h.text (Ok k) (value h.text (one_text-rows (found_of m) name ∙ h.text_is)) in
      let same : n ≡ k = h.value ∙ sym p.1 in
      outside (subst (λ x. least ≤ x) same h.least_is) (subst (λ x. x ≤ greatest) same h.greatest_is)

-- a usage that says why the words are wrong
pub wrong_for : {cause : Type 0} (why : Usage) → IsWrong why → cause → IsWrongFor cause why
wrong_for (usage.Help text) wrong is = wrong
wrong_for (usage.Wrong text) wrong is = is
wrong_for usage.OutOfMemory wrong is = tt

-- also for a cause that follows
pub wrong_more : {cause more : Type 0} (why : Usage) → (cause → more) → IsWrongFor cause why → IsWrongFor more why
wrong_more (usage.Help text) follows wrong = wrong
wrong_more (usage.Wrong text) follows wrong = follows wrong
wrong_more usage.OutOfMemory follows wrong = tt

-- an error of one of the kinds gives the usage of words that are no job
pub usage_told : (words : List Text) (fault : ErrorKind) (why : Usage) → IsUsageOf words fault why
    → (fault ≡ kind.OutOfMemory) ⊎ IsAmong fault (fault_of arrowstream words) → AsksNoJob words why
usage_told words fault (usage.Help text) is among = ⊎_elim
    (λ e. ⊎_elim (λ h. let bad : kind.OutOfMemory ≡ kind.DisplayHelp = sym e ∙ h in absurd cc)
    (λ h. let bad : kind.OutOfMemory ≡ kind.DisplayVersion = sym e ∙ h in absurd cc) is)
    (λ a. ⊎_elim (λ h. inl (subst (λ k. IsAmong k (fault_of arrowstream words)) h a))
    (λ h. inr (subst (λ k. IsAmong k (fault_of arrowstream words)) h a)) is) among
usage_told words fault (usage.Wrong text) is among =
    ⊎_elim (λ e. absurd (is.2 e)) (λ a. inl (fault, a, is.0, is.1, is.3)) among
usage_told words fault usage.OutOfMemory is among = tt

-- where the words are taken, a subcommand was found, and a value of it is wrong, the words ask for no job
pub wrong_words : (words : List Text) (found : Option (Text × List Row)) (why : Usage) → fault_of arrowstream words ≡ []
    → found ≡ subcommand_of arrowstream words → is_some found ≡ true → IsWrongFor (IsWrongFound found) why → AsksNoJob words why
wrong_words words found (usage.Help text) taken same some wrong = absurd wrong
wrong_words words found (usage.Wrong text) taken same some wrong = ⊎_elim
    (λ none. let bad : is_some found ≡ false = ap (λ (o : Option (Text × List Row)). is_some o) none in absurd cc)
    (λ h. inr (record { taken = taken; name = h.0; rows = h.1; entered = sym same ∙ h.2; wrong = h.3 })) wrong
wrong_words words found usage.OutOfMemory taken same some wrong = tt

-- and where one does, they ask for that
pub asked_words : (words : List Text) (found : Option (Text × List Row)) (asked : Invocation) → fault_of arrowstream words ≡ []
    → found ≡ subcommand_of arrowstream words → IsFound found asked → Asks words asked
asked_words words found asked taken same h =
    record { taken = taken; name = h.0; rows = h.1; entered = sym same ∙ h.2; is = h.3 }

-- the command line is one of which `clap` says what it takes
pub line_is_simple : is_simple arrowstream ≡ true
unfolding clap_on_literals
line_is_simple = refl

pub line_is_free : is_simple_and_free arrowstream ≡ true
unfolding clap_on_literals
line_is_free = refl

-- `Command::arg` and `Command::subcommand`, as `clap` sees them
pub added_arg : (top : App) (rule : Rule) (old : Command) (a : Arg) (new : Command) → IsCommand top old → rule_of a ≡ rule
    → a.global ≡ false → AddsArg old a new → IsCommand (with_rule top rule) new
added_arg top rule old a new is same own h = (
  h.shape own ∙ ap₂ with_rule is.0 same,
  h.globals ∙ ap₂ (λ x y. x || y) is.1 own,
)

pub added_subcommand : (top below : App) (old sub new : Command) → IsCommand top old → IsCommand below sub → AddsSubcommand old sub new
    → IsCommand (with_subcommand top below.top) new
added_subcommand top below old sub new is under h = (
  h.shape under.1 ∙ ap₂ with_subcommand is.0 (ap (λ (a : App). a.top) under.0),
  h.globals ∙ ap₂ (λ x y. x || y) is.1 under.1,
)

-- where the parse of the program's command line succeeds, `clap` finds no fault
pub failed_by : (words : List Text) (c : Command) {m : ArgMatches} → IsCommand arrowstream c → (r : Result ArgMatches Error) → r ≡ Ok m
    → (is_simple_and_free (app_of c) ≡ true → FailsBy (fault_of (app_of c) words) r) → fault_of arrowstream words ≡ []
failed_by words c is (Ok m) same kinds =
    subst (λ a. fault_of a words ≡ []) is.0 (kinds (ap is_simple_and_free is.0 ∙ line_is_free))
failed_by words c is (Err e) same kinds = absurd cc

-- where it fails, memory ran out or it finds one of this kind
pub refused_by : (words : List Text) (c : Command) {e : Error} → IsCommand arrowstream c → (r : Result ArgMatches Error) → r ≡ Err e
    → (is_simple_and_free (app_of c) ≡ true → FailsBy (fault_of (app_of c) words) r)
    → (kind_of e ≡ kind.OutOfMemory) ⊎ IsAmong (kind_of e) (fault_of arrowstream words)
refused_by words c {e} is (Ok m) same kinds = absurd cc
refused_by words c {e} is (Err x) same kinds =
    let this : x ≡ e = err_is x e same in
    subst (λ y. (kind_of y ≡ kind.OutOfMemory) ⊎ IsAmong (kind_of y) (fault_of arrowstream words)) this
    (subst (λ a. HasKind (fault_of a words) x) is.0 (kinds (ap is_simple_and_free is.0 ∙ line_is_free)))
  where
    err_is : (x y : Error) → (let r : Result ArgMatches Error = Err x in r) ≡ Err y → x ≡ y
    err_is x y h = cc

-- a usage that says that the words are wrong is also one for a value that is none of its option's
pub value_wrong : {cause T : Type 0} (name : Text) (rows : List Row) (why : Usage) (r : Result T Usage)
    → (cause → HasWrongValue name rows)
    → IsErrAnd r (λ y. y ≡ why) → IsWrongFor cause why → IfErr r (IsWrongFor (HasWrongValue name rows))
value_wrong name rows why (Ok j) follows same wrong = absurd same
value_wrong name rows why (Err e) follows same wrong =
    subst (IsWrongFor (HasWrongValue name rows)) (sym same) (wrong_more why follows wrong)

-- the subcommand that was found is the one that the words name
pub found_by : (words : List Text) (c : Command) (m : ArgMatches) → IsCommand arrowstream c → HasMatchesOf (app_of c) words m
    → subcommand_rows_of m ≡ subcommand_of arrowstream words
found_by words c m is has = (has (ap is_simple is.0 ∙ line_is_simple)).1 ∙ ap (λ a. subcommand_of a words) is.0

-- the text that is read of an option is the one that was found
pub text_found : (m : ArgMatches) (name text : Text) (o : Option Text) → o ≡ first_value (found_of m) name → o ≡ Some text
    → first_of name (rows_of (found_of m)) ≡ Some text
text_found m name text o is read = sym (first_value-rows (found_of m) name) ∙ sym is ∙ read

-- and where none is read, none was found
pub no_text : (m : ArgMatches) (name : Text) (o : Option Text) → o ≡ first_value (found_of m) name → o ≡ None
    → first_of name (rows_of (found_of m)) ≡ None
no_text m name o is read = sym (first_value-rows (found_of m) name) ∙ sym is ∙ read

-- the parse enters a subcommand, since the program needs one
pub some_found : (c : Command) (m : ArgMatches) → IsCommand arrowstream c → IsParsedFrom c m → is_some (subcommand_rows_of m) ≡ true
some_found c m is parsed =
    let local : (out-Command parsed.built).has_globals ≡ false = parsed.from.globals ∙ is.1 in
    let needed : (out-Command parsed.built).subcommand_required ≡ true =
    parsed.from.needs_subcommand ∙ ap (λ (a : App). a.top.subcommand_required) is.0 in
    go _ (out-ArgMatches m).subcommand ((parsed.parsed local).checked.subcommand needed)
  where
    go : {A B : Type 0} (f : A → B) (o : Option A) → is_some o ≡ true → is_some (option_map f o) ≡ true
    go f None h = h
    go f (Some x) h = refl

module _ (E : Type 0) (m : ArgMatches) (name : Text) where
  -- whether a flag is read as `true`
  pub flag_read : (o : Option Bool) → (one_text (found_of m) name ≡ None → o ≡ None)
      → ((t : List ℕ) → one_text (found_of m) name ≡ Some t → ReadsOne (ParsesBool {E = E}) t o)
      → HasFlag name (rows_of (found_of m)) (unwrap_or o false)
  flag_read None none value = (
    λ given.
        let bad : false ≡ true = given in absurd cc,
    λ e.
        let h = value (codes "true") (one_text-rows (found_of m) name ∙ e) in absurd (h.1.0 refl),
  )
  flag_read (Some true) none value = (λ _. go (one_text (found_of m) name) refl, λ _. refl)
    where
      go : (o : Option Text) → one_text (found_of m) name ≡ o → one_of name (rows_of (found_of m)) ≡ Some (codes "true")
      go None e =
          let bad : Some true ≡ None = none e in
          absurd cc
      go (Some t) e = sym (one_text-rows (found_of m) name) ∙ e ∙ ap (λ (u : Text). Some u) (value t e)
  flag_read (Some false) none value = (
    λ given.
        let bad : false ≡ true = given in absurd cc,
    λ e.
        let h : codes "true" ≡ codes "false" = value (codes "true") (one_text-rows (found_of m) name ∙ e) in
        let first : 116 ≡ 102 = ap (λ t. slice_index t 0) h in
        absurd (omega (arith, first)),
  )

  pub flag_is : (o : Option Bool) (b : Bool) → b ≡ unwrap_or o false → (one_text (found_of m) name ≡ None → o ≡ None)
      → ((t : List ℕ) → one_text (found_of m) name ≡ Some t → ReadsOne (ParsesBool {E = E}) t o)
      → HasFlag name (rows_of (found_of m)) b
  flag_is o b is none value = subst (λ x. HasFlag name (rows_of (found_of m)) x) (sym is) (flag_read o none value)

-- the second word, as it was looked up
pub second_word : {Z : Type 0} (words : List (String Z)) (r o : Option (Bor (String Z))) → IsItemAt words 1 r → r ≡ o
    → slice_get (map string_bytes words) 1 ≡ option_map (λ w. string_bytes w.now) o
second_word words r None h is = slice_get-map string_bytes words 1
    ∙ ap (λ o. option_map string_bytes o) (slice_get_past words 1 (subst (λ o. IsItemAt words 1 o) is h).3)
second_word words r (Some w) h is =
    let there = subst (λ o. IsItemAt words 1 o) is h in
    slice_get-map string_bytes words 1 ∙ ap (λ o. option_map string_bytes o) (slice_get_read words _ 1 w.now refl there.3.0 there.1)
