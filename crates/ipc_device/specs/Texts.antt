-- The text that is printed for a failed device.
use Rattle.std.specs.Prelude.{ℕ, List, codes}
use Rattle.ipc_device.specs.declared.failed.Failed.{Failed}

-- the text for a failed call of a source or a sink
abbrev pub failed_text : Failed → List ℕ
failed_text failed = codes "the device failed"
