use Rattle.std.proofs.Common.{append_assoc, refl}
use Rattle.ipc_text_csv.proofs.Quoted.{escaped_both}
use Rattle.ipc_text_csv.proofs.record.push_quoted.Goals as goal

pub returns : goal.returns
returns c =
    rw (
      escaped_both c.args.front.now c.args.field.now,
      c.in_ok-push-2.ensures.items,
      c.in_ok-push_escaped-2.ensures,
      c.in_ok-push_escaped.ensures,
      c.in_ok-push.ensures.items,
    )
    (simp append_assoc refl)
