-- The text that is printed for a fault of the FlatBuffers format.
use Rattle.std.specs.Prelude.{ℕ, List, codes}
use Rattle.ipc_flat.specs.declared.fault.FlatFault.{FlatFault}
use Rattle.ipc_flat.specs.declared.fault.FlatFault.TheVariants as f

-- the text that is printed for each fault of the FlatBuffers format
abbrev pub flat_fault_text : FlatFault → List ℕ
flat_fault_text f.OffsetZero = codes "offset 0"
flat_fault_text f.OutOfBounds = codes "out of bounds"
flat_fault_text f.BadVtable = codes "bad vtable"
flat_fault_text f.NotUtf8 = codes "text is not UTF-8"
