use Rattle.std.proofs.Common.{◌++◌, arith, codes, rules, slice_index}
use Rattle.std.specs.Fmt.{decimal}
use Rattle.std.proofs.KnownBytes.{Appends-trans}
use Rattle.job_command.proofs.SentLines.{first_step, next_step}
use Rattle.job_command.proofs.stop_line.send_field_path.Goals as goal

pub loop-number-init : goal.loop-number-init
loop-number-init g c = (
  codes " " ++ decimal c.in-Some.first.now,
  Appends-trans _ _ _ _ _ c.in_ok-send.ensures.sent c.in_ok-send_number.ensures.sent,
  first_step _ _ _ (search rules),
  search rules,
)

pub loop-number-preserved : goal.loop-number-preserved
loop-number-preserved g c =
    let now = c.loop-number.invariant in
    let rest = c.in-Some.rest.now in
    let i = c.loop-number.number-index in (
      (now.0 ++ codes ".") ++ decimal (slice_index rest i),
      Appends-trans _ _ _ _ _ (Appends-trans _ _ _ _ _ now.1 c.in_ok-send-2.ensures.sent) c.in_ok-send_number-2.ensures.sent,
      next_step now.0 _ rest i (omega arith) now.2,
      search rules,
    )
