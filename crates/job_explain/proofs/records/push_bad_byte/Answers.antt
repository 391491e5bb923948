use Rattle.std.proofs.Common.{◌∙◌, ◌++◌, append-nil, ap, sym}
use Rattle.std.proofs.lemmas.Str.{is_utf8-from_IsUtf8}
use Rattle.std.proofs.lemmas.Result.{on_ok_weaker}
use Rattle.job_explain.specs.Records.{place_words}
use Rattle.job_explain.proofs.RefusedRecords.{not_utf8}
use Rattle.job_explain.proofs.records.push_bad_byte.Goals as goal

pub returns-in-Ok : goal.returns-in-Ok
returns-in-Ok c = record {
  ok = rw (is_utf8-from_IsUtf8 c.args.field.now c.in-Ok.ensures.cases.1) (sym (append-nil c.args.out.now.items));
}

pub returns-in-Err : goal.returns-in-Err
returns-in-Err c = record {
  ok =
      rw (not_utf8 c.args.field.now c.in-Err.ensures.cases.0)
      (on_ok_weaker c.push_place.result
      (λ appended. appended ∙ ap (λ place. c.args.out.now.items ++ place_words place) (c.valid_up_to.ensures ∙ c.in-Err.ensures.valid_len))
      c.push_place.ensures.ok);
}
