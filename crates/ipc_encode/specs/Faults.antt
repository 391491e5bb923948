-- Why a row is not taken, as a fault of the writer.
use Rattle.ipc_model.specs.declared.fault.WriteFault.{WriteFault}
use Rattle.ipc_model.specs.declared.fault.WriteFault.TheVariants as w
use Rattle.ipc_encode.specs.declared.fault.PushFault.{PushFault}
use Rattle.ipc_encode.specs.declared.fault.PushFault.TheVariants as p

-- the writer's fault for a value that was not taken: too much data, too many slots, a full
-- dictionary, a refused growth, or an earlier failure
abbrev pub write_fault : PushFault → WriteFault
write_fault p.TooLong = w.TooLong
write_fault p.TooMany = w.TooManyRows
write_fault p.DictionaryFull = w.DictionaryFull
write_fault p.OutOfMemory = w.OutOfMemory
write_fault p.Failed = w.Failed
