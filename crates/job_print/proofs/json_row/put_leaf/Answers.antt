use Rattle.std.proofs.Common.{rules, w64}
use Rattle.std.proofs.lemmas.Int.{to_z-of_z}
use Rattle.ipc_column.specs.declared.slot_view.Slot.TheVariants as slot
use Rattle.job_print.proofs.texts.SlotTexts.{slot_json}
use Rattle.job_print.proofs.json_row.put_leaf.Goals as goal

pub returns-in-Int : goal.returns-in-Int
returns-in-Int c =
    rw (slot_json _ _ c.args.column.now _ (slot.Int c.in-Int.number) (rw c.in-Int.is at c.requires.value))
    (rw (to_z-of_z w64 c.in-Int.number (search rules)) at c.put_int.ensures)

pub returns-in-Bool : goal.returns-in-Bool
returns-in-Bool c =
    rw (slot_json _ _ c.args.column.now _ (slot.Bool c.in-Bool.truth) (rw c.in-Bool.is at c.requires.value)) c.put_bool.ensures

pub returns-in-Bytes : goal.returns-in-Bytes
returns-in-Bytes c =
    rw (slot_json _ _ c.args.column.now _ (slot.Bytes c.in-Bytes.bytes) (rw c.in-Bytes.is at c.requires.value)) c.put_bytes.ensures

pub returns-in-Null : goal.returns-in-Null
returns-in-Null c = rw (slot_json _ _ c.args.column.now _ slot.Null (rw c.in-Null.is at c.requires.value)) c.put_null.ensures
