use Rattle.std.proofs.Common.{arith, rules}
use Rattle.ipc_text_json.proofs.ValueTokens.{each_from, value_written}
use Rattle.ipc_text_json.proofs.row.+cell.Goals as goal

pub put_values-loop-number-preserved : goal.put_values-loop-number-preserved
put_values-loop-number-preserved t c =
    let i = c.loop-number.invariant in
    let rest = each_from c.args.shape c.args.fields.now c.args.values.now c.loop-number.number c.index-fields-number.result
    c.in-Some.value.now (omega arith) (search rules) c.index-fields-number.is (search rules) in
    let named = rw c.as_str.ensures at c.in_ok-put_name.ensures.ok in
    record {
      tokens = value_written _ _ _ _ _ _ _ (rw rest at i.tokens) named c.in_ok-put_cell.ensures.ok;
      before = search rules;
    }
