use Rattle.std.proofs.lemmas.Result.{IfOk-weaker, IfErr-weaker}
use Rattle.std.specs.Prelude.{map, string_bytes}
use Rattle.job_arguments.proofs.LineWords.{asked_words, failed_by, found_by, refused_by, some_found, usage_told, wrong_words}
use Rattle.job_arguments.proofs.arguments.read.Goals as goal

pub returns-in-Ok-clause-asked : goal.returns-in-Ok-clause-asked
returns-in-Ok-clause-asked c =
    let words = map string_bytes c.args.words.now in
    let taken = failed_by words c.in_ok-command.command c.in_ok-command.ensures c.try_get_matches_from.result c.in-Ok.is
    c.try_get_matches_from.ensures.kinds in
    let same = found_by words c.in_ok-command.command c.in-Ok.matches c.in_ok-command.ensures c.in-Ok.ensures.matches in
    IfOk-weaker c.invocation_of.result _ _ (λ j h. asked_words words _ j taken same h) c.invocation_of.ensures.asked

pub returns-in-Ok-clause-refused : goal.returns-in-Ok-clause-refused
returns-in-Ok-clause-refused c =
    let words = map string_bytes c.args.words.now in
    let taken = failed_by words c.in_ok-command.command c.in_ok-command.ensures c.try_get_matches_from.result c.in-Ok.is
    c.try_get_matches_from.ensures.kinds in
    let same = found_by words c.in_ok-command.command c.in-Ok.matches c.in_ok-command.ensures c.in-Ok.ensures.matches in
    let some = some_found c.in_ok-command.command c.in-Ok.matches c.in_ok-command.ensures c.in-Ok.ensures.parsed in
    IfErr-weaker c.invocation_of.result _ _ (λ why h. wrong_words words _ why taken same some h) c.invocation_of.ensures.refused

pub returns-in-Err-clause-refused : goal.returns-in-Err-clause-refused
returns-in-Err-clause-refused c =
    let words = map string_bytes c.args.words.now in
    usage_told words _ _ c.usage_of.ensures
    (refused_by words c.in_ok-command.command c.in_ok-command.ensures c.try_get_matches_from.result c.in-Err.is
    c.try_get_matches_from.ensures.kinds)
