use Rattle.std.proofs.Common.{◌∙◌, arith}
use Rattle.std.proofs.lemmas.List.{length-set}
use Rattle.ipc_text_csv.proofs.HexPairs.{tells_more}
use Rattle.ipc_text_csv.proofs.hexadecimal.values_of.Goals as goal

pub loop-i-preserved : goal.loop-i-preserved
loop-i-preserved c = record {
  long = length-set c.loop-i.values c.loop-i.i _ ∙ c.loop-i.invariant.long;
  digit = tells_more c.args.text.now c.loop-i.values c.loop-i.i c.digit_value.result (omega (arith, c.loop-i.invariant.long))
      (record { digit = c.digit_value.ensures.digit; none = c.digit_value.ensures.none }) c.loop-i.invariant.digit;
}
