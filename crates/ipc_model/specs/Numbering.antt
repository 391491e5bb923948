-- The number and the name of each refusal, and the exit status of a program that stops for it.
use Rattle.std.specs.Prelude.{ℕ, List, codes}
use Rattle.ipc_model.specs.declared.fault.Fault.{Fault}
use Rattle.ipc_model.specs.declared.fault.Fault.TheVariants as f
use Rattle.ipc_model.specs.declared.fault.WriteFault.{WriteFault}
use Rattle.ipc_model.specs.declared.fault.WriteFault.TheVariants as w
use Rattle.ipc_model.specs.declared.rows.RowCause.{RowCause}
use Rattle.ipc_model.specs.declared.rows.RowCause.TheVariants as c

-- the number that follows the letter F
abbrev pub fault_number : Fault → ℕ
fault_number f.NotContinued = 1
fault_number f.BadMetadataLength = 2
fault_number f.MetadataTooLong = 3
fault_number f.Truncated = 4
fault_number f.BadFlat = 5
fault_number f.BadVersion = 6
fault_number f.BadHeader = 7
fault_number f.BadBodyLength = 8
fault_number f.BodyTooLong = 9
fault_number f.MissingSchema = 10
fault_number f.SecondSchema = 11
fault_number f.BigEndian = 12
fault_number (f.UnsupportedType code) = 13
fault_number f.BadType = 14
fault_number f.BadChildren = 15
fault_number f.NameNotUtf8 = 16
fault_number f.TooManyFields = 17
fault_number f.TooDeep = 18
fault_number f.TooMuchText = 19
fault_number f.DictionaryConflict = 20
fault_number f.NestedDictionary = 21
fault_number f.BadIndexType = 22
fault_number f.Compressed = 23
fault_number f.DeltaDictionary = 24
fault_number f.UnknownDictionary = 25
fault_number f.WrongNodeCount = 26
fault_number f.WrongBufferCount = 27
fault_number f.BadNode = 28
fault_number f.BufferOutOfBody = 29
fault_number f.BufferTooShort = 30
fault_number f.BadNullCount = 31
fault_number f.BadOffsets = 32
fault_number f.ValueNotUtf8 = 33
fault_number f.BadIndex = 34
fault_number f.Failed = 35
fault_number f.Read = 36
fault_number f.OutOfMemory = 37

-- the name that follows the number
abbrev pub fault_name : Fault → List ℕ
fault_name f.NotContinued = codes "NotContinued"
fault_name f.BadMetadataLength = codes "BadMetadataLength"
fault_name f.MetadataTooLong = codes "MetadataTooLong"
fault_name f.Truncated = codes "Truncated"
fault_name f.BadFlat = codes "BadFlat"
fault_name f.BadVersion = codes "BadVersion"
fault_name f.BadHeader = codes "BadHeader"
fault_name f.BadBodyLength = codes "BadBodyLength"
fault_name f.BodyTooLong = codes "BodyTooLong"
fault_name f.MissingSchema = codes "MissingSchema"
fault_name f.SecondSchema = codes "SecondSchema"
fault_name f.BigEndian = codes "BigEndian"
fault_name (f.UnsupportedType code) = codes "UnsupportedType"
fault_name f.BadType = codes "BadType"
fault_name f.BadChildren = codes "BadChildren"
fault_name f.NameNotUtf8 = codes "NameNotUtf8"
fault_name f.TooManyFields = codes "TooManyFields"
fault_name f.TooDeep = codes "TooDeep"
fault_name f.TooMuchText = codes "TooMuchText"
fault_name f.DictionaryConflict = codes "DictionaryConflict"
fault_name f.NestedDictionary = codes "NestedDictionary"
fault_name f.BadIndexType = codes "BadIndexType"
fault_name f.Compressed = codes "Compressed"
fault_name f.DeltaDictionary = codes "DeltaDictionary"
fault_name f.UnknownDictionary = codes "UnknownDictionary"
fault_name f.WrongNodeCount = codes "WrongNodeCount"
fault_name f.WrongBufferCount = codes "WrongBufferCount"
fault_name f.BadNode = codes "BadNode"
fault_name f.BufferOutOfBody = codes "BufferOutOfBody"
fault_name f.BufferTooShort = codes "BufferTooShort"
fault_name f.BadNullCount = codes "BadNullCount"
fault_name f.BadOffsets = codes "BadOffsets"
fault_name f.ValueNotUtf8 = codes "ValueNotUtf8"
fault_name f.BadIndex = codes "BadIndex"
fault_name f.Failed = codes "Failed"
fault_name f.Read = codes "Read"
fault_name f.OutOfMemory = codes "OutOfMemory"

-- the exit status: 4 if memory ran out, 3 if the source failed, else 1
abbrev pub fault_status : Fault → ℕ
fault_status f.OutOfMemory = 4
fault_status f.Read = 3
fault_status fault = 1

-- the number that follows the letter W, for a row that does not fit
abbrev pub cause_number : RowCause → ℕ
cause_number c.RowWidth = 2
cause_number c.WrongKind = 3
cause_number c.OutOfRange = 4
cause_number c.NullNotAllowed = 5

-- the name that follows the number, for a row that does not fit
abbrev pub cause_name : RowCause → List ℕ
cause_name c.RowWidth = codes "RowWidth"
cause_name c.WrongKind = codes "WrongKind"
cause_name c.OutOfRange = codes "OutOfRange"
cause_name c.NullNotAllowed = codes "NullNotAllowed"

-- the number that follows the letter W
abbrev pub write_fault_number : WriteFault → ℕ
write_fault_number (w.Row row fault) = cause_number fault.cause
write_fault_number w.BadSchema = 1
write_fault_number w.TooLong = 6
write_fault_number w.DictionaryFull = 7
write_fault_number w.TooManyRows = 8
write_fault_number w.Write = 9
write_fault_number w.Failed = 10
write_fault_number w.OutOfMemory = 11

-- the name that follows the number
abbrev pub write_fault_name : WriteFault → List ℕ
write_fault_name (w.Row row fault) = cause_name fault.cause
write_fault_name w.BadSchema = codes "BadSchema"
write_fault_name w.TooLong = codes "TooLong"
write_fault_name w.DictionaryFull = codes "DictionaryFull"
write_fault_name w.TooManyRows = codes "TooManyRows"
write_fault_name w.Write = codes "Write"
write_fault_name w.Failed = codes "Failed"
write_fault_name w.OutOfMemory = codes "OutOfMemory"

-- the exit status: 4 if memory ran out, 3 if the sink failed, else 1
abbrev pub write_fault_status : WriteFault → ℕ
write_fault_status w.OutOfMemory = 4
write_fault_status w.Write = 3
write_fault_status fault = 1
