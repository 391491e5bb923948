use Rattle.std.proofs.Common.{◌∙◌, sym, refl}
use Rattle.ipc_text_csv.proofs.Records.{ended}
use Rattle.job_print.proofs.texts.RecordEnds.{end_blank, end_other}
use Rattle.job_print.proofs.csv_fields.put_end.Goals as goal

pub returns-then-len-start : goal.returns-then-len-start
returns-then-len-start c delimiter =
    let blank = end_blank c.args.start c.args.out.now.text (sym c.len-len.ensures ∙ c.if-len-start.true) in
    ended delimiter c.args.start c.args.out.now.text _ (rw (c.put.ensures.text, c.reserve.ensures.text, blank) refl)

pub returns : goal.returns
returns c delimiter =
    let other = end_other c.args.start c.args.out.now.text (λ e. c.if-len-start.false (c.len-len.ensures ∙ e)) in
    ended delimiter c.args.start c.args.out.now.text _ (rw (c.put-2.ensures.text, c.reserve.ensures.text, other) refl)
