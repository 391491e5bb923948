use Rattle.std.proofs.Common.{rules, ap, Some, w64}
use Rattle.std.proofs.lemmas.Int.{to_z-of_z}
use Rattle.ipc_column.specs.declared.slot_view.Slot.TheVariants as slot
use Rattle.job_print.proofs.texts.SlotTexts.{slot_csv}
use Rattle.job_print.proofs.csv_row.put_leaf.Goals as goal

pub returns-in-Int : goal.returns-in-Int
returns-in-Int c =
    rw (slot_csv _ _ c.args.tree.now _ (slot.Int c.in-Int.number) (rw c.in-Int.is at c.requires.value))
    (rw (to_z-of_z w64 c.in-Int.number (search rules)) at c.put_int.ensures c.args.dialect.now)

pub returns-in-Bool : goal.returns-in-Bool
returns-in-Bool c =
    rw (slot_csv _ _ c.args.tree.now _ (slot.Bool c.in-Bool.truth) (rw c.in-Bool.is at c.requires.value))
    (ap Some (c.put_bool.ensures c.args.dialect.now))

pub returns-in-Bytes : goal.returns-in-Bytes
returns-in-Bytes c =
    rw (slot_csv _ _ c.args.tree.now _ (slot.Bytes c.in-Bytes.bytes) (rw c.in-Bytes.is at c.requires.value)) c.put_bytes_field.ensures

pub returns-in-Null : goal.returns-in-Null
returns-in-Null c = rw (slot_csv _ _ c.args.tree.now _ slot.Null (rw c.in-Null.is at c.requires.value)) c.put_null.ensures
