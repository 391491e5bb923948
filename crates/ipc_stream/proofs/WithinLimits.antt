-- Rows within the limits, and why rows are refused.
use Rattle.std.proofs.Common.{◌≡◌, refl, List}
use Rattle.ipc_model.specs.declared.fault.WriteFault.{WriteFault}
use Rattle.ipc_model.specs.declared.fault.WriteFault.TheVariants as w
use Rattle.ipc_model.specs.declared.limits.Limits.{Limits}
use Rattle.ipc_model.specs.declared.schema.Field.{Field}
use Rattle.ipc_model.specs.declared.value.Value.{Value}
use Rattle.ipc_encode.specs.Limits.{AreRowsRefused, IsWithin}

-- rows within the limits are refused for memory alone
pub memory_alone : (limits : Limits) (fields : List Field) (rows : List (List Value)) (fault : WriteFault) → IsWithin limits fields rows
    → AreRowsRefused limits fields rows fault → fault ≡ w.OutOfMemory
memory_alone limits fields rows w.TooLong within h = absurd (within.short h)
memory_alone limits fields rows w.TooManyRows within h = absurd (within.few h)
memory_alone limits fields rows w.OutOfMemory within h = refl
memory_alone limits fields rows w.BadSchema within h = absurd h
memory_alone limits fields rows (w.Row number cause) within h = absurd h
memory_alone limits fields rows w.DictionaryFull within h = absurd h
memory_alone limits fields rows w.Write within h = absurd h
memory_alone limits fields rows w.Failed within h = absurd h
