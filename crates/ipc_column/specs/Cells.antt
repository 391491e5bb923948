-- The values of cells (Arrow Columnar Format, "Physical Memory Layout").
use Rattle.ipc_model.specs.declared.value.Value.{Value}
use Rattle.ipc_model.specs.declared.value.Value.TheVariants as v
use Rattle.ipc_column.specs.declared.cell.Cell.{Cell}
use Rattle.ipc_column.specs.declared.cell.Cell.TheVariants as cell

-- the value of a cell
abbrev pub cell_value : Cell → Value
cell_value cell.Null = v.Null
cell_value (cell.Bool truth) = v.Bool truth
cell_value (cell.Int number) = v.Int number
cell_value (cell.UInt number) = v.UInt number
cell_value (cell.Bytes bytes) = v.Bytes bytes.now
cell_value (cell.Text text) = v.Text text.now
cell_value (cell.List values) = v.List values
cell_value (cell.Struct values) = v.Struct values
