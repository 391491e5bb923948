use Rattle.job_print.proofs.json_row.put_cell.Goals as goal

pub returns-in-Utf8 : goal.returns-in-Utf8
returns-in-Utf8 c = c.put_text_slot.ensures c.args.shape c.args.field.now
