use Rattle.std.proofs.Common.{◌≡◌, ◌∙◌, ◌||◌, [], ◌∷◌, true, refl, sym}
use Rattle.csv.specs.Writing.{needs_quotes}
use Rattle.ipc_text_csv.specs.Dialects.{writer}
use Rattle.job_print.proofs.texts.Quotes.{backslash_quoted}
use Rattle.job_print.proofs.csv_fields.put_backslashed.Goals.{then-needs_quotes-via-then-needs_quotes}
use Rattle.job_print.proofs.csv_fields.put_backslashed.Goals.{then-needs_quotes-via-else-needs_quotes+then-needs_quotes-2}
use Rattle.job_print.proofs.csv_fields.put_backslashed.Goals as goal

pub returns-then-needs_quotes : goal.returns-then-needs_quotes
returns-then-needs_quotes c =
    let cfg = writer c.args.delimiter in
    let needs : (needs_quotes cfg (92 ∷ []) || needs_quotes cfg c.args.chars.now) ≡ true = elim c.then-needs_quotes.branch [
      | then-needs_quotes-via-then-needs_quotes w ↦ let e = sym c.needs_quotes.ensures ∙ w.if-needs_quotes.true in rw e refl
      | then-needs_quotes-via-else-needs_quotes+then-needs_quotes-2 w ↦
          let e = sym c.needs_quotes.ensures ∙ w.if-needs_quotes.false in
          let f = sym w.needs_quotes-else-needs_quotes.ensures ∙ w.if-needs_quotes-2.true in rw (e, f) refl
    ] in
    rw (← (backslash_quoted c.args.delimiter c.args.out.now.text c.args.chars.now needs)) c.put_quoted.ensures
