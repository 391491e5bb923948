use Rattle.std.proofs.Common.{◌∙◌, rules}
use Rattle.job_print.proofs.line_buffer.LineBuffer.put_line.Goals as goal

pub returns-in-Err : goal.returns-in-Err
returns-in-Err c = (
  c.in-Err.ensures.refused (search rules),
  rw (c.len-start.ensures, c.self.view_is) at c.truncate.ensures.text
      ∙ (rw c.self.view_is at (c.in-Err.ensures.front (search rules))),
)
