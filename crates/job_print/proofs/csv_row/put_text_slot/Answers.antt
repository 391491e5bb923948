use Rattle.std.proofs.Common.{take}
use Rattle.ipc_column.specs.declared.slot_view.Slot.TheVariants as slot
use Rattle.job_print.proofs.texts.SlotTexts.{slot_csv}
use Rattle.job_print.proofs.csv_row.put_text_slot.Goals as goal

pub returns-in-Some : goal.returns-in-Some
returns-in-Some c =
    rw (slot_csv _ _ c.args.tree.now _ (slot.Text (record c.in-Some.bytes { now = take c.in-Some.len c.in-Some.bytes.now }))
    (rw c.in-Some.is at c.text_at.ensures.value)) c.put_front_field.ensures

pub returns-in-None : goal.returns-in-None
returns-in-None c = rw (slot_csv _ _ c.args.tree.now _ slot.Null (rw c.in-None.is at c.text_at.ensures.value)) c.put_null.ensures
