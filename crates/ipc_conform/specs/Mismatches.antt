-- Which row of a batch does not fit its fields (Schema.fbs, union Type and table Field).
use Rattle.std.specs.Prelude.{◌≡◌, ℕ, ◌<◌, List, [], length, take, slice_index_or, Err}
use Rattle.std.specs.List.{AllByRecursion}
use Rattle.ipc_model.specs.Fits.{RowFits}
use Rattle.ipc_model.specs.Refusals.{refusal_of}
use Rattle.ipc_model.specs.RowFaults.{row_faults, verdict}
use Rattle.ipc_model.specs.declared.fault.WriteFault.{WriteFault}
use Rattle.ipc_model.specs.declared.rows.RowFault.{RowFault}
use Rattle.ipc_model.specs.declared.schema.Field.{Field}
use Rattle.ipc_model.specs.declared.value.Value.{Value}

-- the rows before this number fit the fields, and the row with this number does not; the fault
-- names it and its first cause
pub record AreMismatches (fields : List Field) (rows : List (List Value))
    (fault : WriteFault) : Type 0 where
  pub number : ℕ
  pub inside : number < length rows
  pub before : AllByRecursion (RowFits fields) (take number rows)
  pub misfit : ¬ RowFits fields (slice_index_or rows number [])
  pub cause : RowFault
  pub first : verdict (row_faults fields (slice_index_or rows number [])) ≡ Err cause
  pub report : fault ≡ refusal_of cause number
