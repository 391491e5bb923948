use Rattle.std.proofs.Common.{◌≡◌, ◌∙◌, ◌+◌, ◌*◌, arith, length}
use Rattle.std.proofs.lemmas.List.{length-set}
use Rattle.ipc_text_csv.proofs.HexPairs.{decoded_more, decoded_bytes}
use Rattle.ipc_text_csv.proofs.hexadecimal.decode_sixteen.Goals as goal

pub loop-i-preserved : goal.loop-i-preserved
loop-i-preserved c =
    let digit = c.values_of-values.ensures.digit in
    let none = c.values_of-values.ensures.none in
    let i = c.loop-i.i in
    record {
      room = length-set c.loop-i.bytes i _ ∙ c.loop-i.invariant.room;
      decoded = rw c.are_values-good.ensures (decoded_more c.args.text.now c.loop-i.bytes i _ _ (omega arith)
          (omega (arith, c.loop-i.invariant.room))
          (record { digit = digit (2 * i) (omega arith); none = none (2 * i) (omega arith) })
          (record { digit = digit (2 * i + 1) (omega arith); none = none (2 * i + 1) (omega arith) })
          c.loop-i.good c.loop-i.invariant.decoded);
    }

pub returns-clause-bytes : goal.returns-clause-bytes
returns-clause-bytes c e =
    let pairs : length c.args.text.now ≡ 2 * length c.loop-i.bytes = omega (arith, c.loop-i.invariant.room) in
    decoded_bytes c.args.text.now c.loop-i.bytes c.loop-i.i c.loop-i.good (omega (arith, c.loop-i.invariant.room)) pairs
    c.loop-i.invariant.decoded e
