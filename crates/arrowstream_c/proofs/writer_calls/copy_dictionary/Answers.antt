use Rattle.std.proofs.Common.{refl, arith, w64}
use Rattle.std.proofs.lemmas.Int.{to_z-of_z}
use Rattle.arrowstream_c.proofs.writer_calls.copy_dictionary.Goals as goal

pub returns-then-out-lt-CANONICAL_SIZE : goal.returns-then-out-lt-CANONICAL_SIZE
returns-then-out-lt-CANONICAL_SIZE c = record {
  large = λ h. absurd (omega (arith, h, c.if-out-lt-CANONICAL_SIZE.true));
  small = λ h. (refl, ((refl, refl), refl, refl));
}

pub returns-in-Ok : goal.returns-in-Ok
returns-in-Ok c = record {
  large = λ h.
      let copied = rw (to_z-of_z w64 c.args.id c.ranges.id) at c.copy_dictionary.ensures in
      (c.copy_dictionary.result, copied, rw c.in-Ok.is (refl, c.of_sent.ensures));
  small = λ h. absurd (omega (arith, h, c.if-out-lt-CANONICAL_SIZE.false));
}

pub returns-in-Err : goal.returns-in-Err
returns-in-Err c = record {
  large = λ h.
      let copied = rw (to_z-of_z w64 c.args.id c.ranges.id) at c.copy_dictionary.ensures in
      (c.copy_dictionary.result, copied, rw c.in-Err.is (refl, refl));
  small = λ h. absurd (omega (arith, h, c.if-out-lt-CANONICAL_SIZE.false));
}
