-- The line of a fault that isn't out of memory.
use Rattle.std.specs.Prelude.{◌≡◌, ◌≢◌, ℕ, ◌++◌, codes}
use Rattle.std.proofs.Common.{refl, append_assoc}
use Rattle.std.specs.Fmt.{decimal}
use Rattle.ipc_model.specs.Texts.{fault_text, stop_line}
use Rattle.ipc_model.specs.declared.fault.Fault.{Fault}
use Rattle.ipc_model.specs.declared.fault.Fault.TheVariants as f

-- the line of a fault other than lack of memory is the fault's text and the number of its message
pub stop_line_else : (fault : Fault) (message : ℕ) → fault ≢ f.OutOfMemory
    → stop_line fault message ≡ fault_text fault ++ (codes " at message " ++ decimal message)
stop_line_else f.OutOfMemory message other = absurd (other refl)
stop_line_else fault message other = append_assoc (fault_text fault) (codes " at message ") (decimal message)
