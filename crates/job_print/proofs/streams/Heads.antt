-- A batch's rows after its head.
use Rattle.std.proofs.Common.{ℕ, List, [], Option, Some, None, Result, Ok, Err}
use Rattle.ipc_model.specs.declared.schema.Field.{Field}
use Rattle.ipc_model.specs.declared.value.Value.{Value}
use Rattle.ipc_text_temporal.specs.declared.fault.TextFault.{TextFault}
use Rattle.job_print.specs.declared.form.Form.{Form}
use Rattle.job_print.specs.declared.line_buffer.PrintFault.{PrintFault}
use Rattle.job_print.specs.Output.{Output, output, Puts}
use Rattle.job_print.specs.Streams.{PutsRows}
use Rattle.job_print.proofs.Puts.{puts_then, puts_not_then}

-- rows that were put after a head were put with it
pub rows_behind : (form : Form) (fields : List Field) (head : List ℕ) (rows : List (List Value)) (a b : Output) (w : Option (List ℕ))
    (n : ℕ) (k : List ℕ) (r : Result (Option TextFault) PrintFault) → Puts a b head → PutsRows form fields [] rows b w n k r
    → PutsRows form fields head rows a w n k r
rows_behind form fields head rows a b w n k (Ok None) p q = (q.0, puts_then a b (output w n k) head _ p q.1)
rows_behind form fields head rows a b w n k (Ok (Some fault)) p q = (q.0, q.1, puts_then a b (output w n k) head _ p q.2)
rows_behind form fields head rows a b w n k (Err e) p q = puts_not_then a b w n head _ e p q
