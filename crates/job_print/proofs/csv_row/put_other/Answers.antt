use Rattle.std.proofs.Common.{take}
use Rattle.ipc_column.specs.declared.slot_view.Slot.TheVariants as slot
use Rattle.job_print.proofs.texts.SlotTexts.{slot_csv}
use Rattle.job_print.proofs.csv_row.put_other.Goals as goal

pub returns-in-Text : goal.returns-in-Text
returns-in-Text c =
    rw (slot_csv _ _ c.args.tree.now _ (slot.Text (record c.in-Text.bytes { now = take c.in-Text.len c.in-Text.bytes.now }))
    (rw c.in-Text.is at c.entry_at.ensures).1) c.put_front_field.ensures

pub returns-in-Null : goal.returns-in-Null
returns-in-Null c = rw (slot_csv _ _ c.args.tree.now _ slot.Null (rw c.in-Null.is at c.entry_at.ensures)) c.put_null.ensures
