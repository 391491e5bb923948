use Rattle.std.proofs.Common.{refl, arith}
use Rattle.arrowstream_c.proofs.writer_calls.copy_canonical.Goals as goal

pub returns-then-out-lt-CANONICAL_SIZE : goal.returns-then-out-lt-CANONICAL_SIZE
returns-then-out-lt-CANONICAL_SIZE c = (
  refl,
  record {
    large = λ h. absurd (omega (arith, h, c.if-out-lt-CANONICAL_SIZE.true));
    small = λ h. (refl, ((refl, refl), refl, refl));
  },
)

pub returns-in-Ok : goal.returns-in-Ok
returns-in-Ok c = (
  refl,
  record {
    large = λ h. (c.copy_canonical.result, c.copy_canonical.ensures, rw c.in-Ok.is (refl, c.of.ensures));
    small = λ h. absurd (omega (arith, h, c.if-out-lt-CANONICAL_SIZE.false));
  },
)

pub returns-in-Err : goal.returns-in-Err
returns-in-Err c = (
  refl,
  record {
    large = λ h. (c.copy_canonical.result, c.copy_canonical.ensures, rw c.in-Err.is (refl, refl));
    small = λ h. absurd (omega (arith, h, c.if-out-lt-CANONICAL_SIZE.false));
  },
)
