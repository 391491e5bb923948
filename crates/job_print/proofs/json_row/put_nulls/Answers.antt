use Rattle.std.proofs.Common.{arith, replicate}
use Rattle.std.specs.Prelude.{nat_lt}
use Rattle.ipc_model.specs.declared.value.Value.TheVariants as v
use Rattle.ipc_text_json.specs.RowJson.{cell_json}
use Rattle.job_print.proofs.texts.CellTexts.{item_written}
use Rattle.job_print.proofs.texts.SlotTexts.{json_null, later_next, repeated_at}
use Rattle.job_print.proofs.json_row.put_nulls.Goals as goal

pub loop-number-preserved : goal.loop-number-preserved
loop-number-preserved c = record {
  text = λ shape field. rw (later_next c.loop-number.number)
      (item_written (cell_json shape field) (replicate c.args.count v.Null) c.loop-number.number v.Null
      (nat_lt 0 c.loop-number.number) _ _ _
      (repeated_at v.Null c.args.count c.loop-number.number (omega arith)) (c.loop-number.invariant.text shape field)
      (rw (json_null shape field) (rw c.in_ok-start_item.ensures.text at c.put_null.ensures)));
}
