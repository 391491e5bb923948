use Rattle.std.proofs.Common.{◌∙◌, arith}
use Rattle.std.proofs.lemmas.List.{length-set}
use Rattle.ipc_text_csv.proofs.HexPairs.{decoded_more, decoded_bytes, decoded_never}
use Rattle.ipc_text_csv.proofs.hexadecimal.decode_each.Goals as goal

pub loop-i-preserved : goal.loop-i-preserved
loop-i-preserved c = record {
  room = length-set c.loop-i.bytes c.loop-i.i _ ∙ c.loop-i.invariant.room;
  decoded = rw c.are_values-good.ensures (decoded_more c.args.text.now c.loop-i.bytes c.loop-i.i c.digit_value-high.result
      c.digit_value-low.result (omega (arith, c.requires, c.loop-i.invariant.room)) (omega (arith, c.loop-i.invariant.room))
      (record { digit = c.digit_value-high.ensures.digit; none = c.digit_value-high.ensures.none })
      (record { digit = c.digit_value-low.ensures.digit; none = c.digit_value-low.ensures.none }) c.loop-i.good
      c.loop-i.invariant.decoded);
}

pub returns-clause-bytes : goal.returns-clause-bytes
returns-clause-bytes c e =
    decoded_bytes c.args.text.now c.loop-i.bytes c.loop-i.i c.loop-i.good (omega arith) (omega (arith, c.loop-i.invariant.room))
    c.loop-i.invariant.decoded e

pub returns-clause-none : goal.returns-clause-none
returns-clause-none c e =
    decoded_never c.args.text.now c.loop-i.bytes c.loop-i.i c.loop-i.good (omega arith) (omega (arith, c.loop-i.invariant.room))
    c.loop-i.invariant.decoded e
