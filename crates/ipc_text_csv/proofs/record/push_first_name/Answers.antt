use Rattle.std.proofs.Common.{◌∙◌, sym}
use Rattle.ipc_text_csv.proofs.Quoted.{escaped_alike}
use Rattle.ipc_text_csv.proofs.record.push_first_name.Goals as goal

pub returns-then-starts_with : goal.returns-then-starts_with
returns-then-starts_with c =
    let mark = sym c.starts_with.ensures.value ∙ c.if-starts_with.true in
    rw (mark, escaped_alike c.args.dialect.delimiter c.args.name.now) c.push_quoted.ensures
