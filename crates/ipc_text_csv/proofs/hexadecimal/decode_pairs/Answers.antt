use Rattle.std.proofs.Common.{◌∙◌, arith}
use Rattle.ipc_text_csv.proofs.HexApart.{begun_more}
use Rattle.ipc_text_csv.proofs.hexadecimal.decode_pairs.Goals as goal

pub loop-first-preserved : goal.loop-first-preserved
loop-first-preserved c =
    let parts = c.in-Some.ensures.cases in
    record {
      place = omega (arith, parts.2, c.loop-first.invariant.place);
      room = c.put_sixteen.ensures.room ∙ c.loop-first.invariant.room;
      begun = begun_more c.args.text.now _ _ _ c.in-Some.first.now c.loop-first.rest.now c.in-Some.more.now c.loop-first.good _
          parts.0 parts.1 (omega (arith, c.requires, c.loop-first.invariant.place)) (omega (arith, parts.2))
          c.put_sixteen.ensures.bytes c.decode_sixteen-are_digits.ensures.bytes c.decode_sixteen-are_digits.ensures.none
          c.loop-first.invariant.begun;
    }
