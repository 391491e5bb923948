use Rattle.std.proofs.Common.{◌≡◌, ◌∙◌, ◌+◌, ap, subst, length, take, get_or, decimal, arith}
use Rattle.std.specs.Str.Parse.{AllDigits, digits_value}
use Rattle.std.proofs.Math.Seq.{take-length}
use Rattle.std.proofs.lemmas.Fmt.{decimal-digits_value}
use Rattle.std.proofs.lemmas.Int.Digits.{digits_value_more}
use Rattle.std.proofs.lemmas.Str.{digit_value_digit}
use Rattle.std.proofs.lemmas.Str.Parse.{numerals_by_value, tells_digits}
use Rattle.ipc_text_csv.proofs.ShortDigits.{one_more, short_below}
use Rattle.ipc_text_csv.proofs.digits.read_short.Goals as goal

pub overflow_mul-number : goal.overflow_mul-number
overflow_mul-number c =
    let few = c.are_short_digits.ensures c.if-not-are_short_digits.false in
    let below = short_below c.args.digits.now c.loop-digit.digit-index c.loop-digit.invariant.0 (omega (arith, c.loop-digit-test.true))
    few.1 in
    omega (arith, below, c.loop-digit.invariant.1)

pub overflow_add-number : goal.overflow_add-number
overflow_add-number c =
    let few = c.are_short_digits.ensures c.if-not-are_short_digits.false in
    let below = short_below c.args.digits.now c.loop-digit.digit-index c.loop-digit.invariant.0 (omega (arith, c.loop-digit-test.true))
    few.1 in
    omega (arith, below, c.loop-digit.invariant.1)

pub loop-digit-preserved : goal.loop-digit-preserved
loop-digit-preserved c =
    let i = c.loop-digit.digit-index in
    let more = digits_value_more 10 c.args.digits.now i c.loop-digit-test.true in
    let byte : get_or c.args.digits.now i 0 ≡ 48 + c.value_of-value.result = c.value_of-value.ensures (omega arith) in
    let digit = digit_value_digit (get_or c.args.digits.now i 0) (omega arith, omega arith) in (
      one_more c.args.digits.now i c.loop-digit.invariant.0 c.loop-digit-test.true (omega (arith, digit, byte)),
      omega (arith, more, digit, byte, c.loop-digit.invariant.1),
    )

pub returns-clause-only : goal.returns-clause-only
returns-clause-only c =
    let few = c.are_short_digits.ensures c.if-not-are_short_digits.false in
    let below = short_below c.args.digits.now c.loop-digit.digit-index c.loop-digit.invariant.0 c.loop-digit.auto.digit-index-end few.1 in
    let end : c.loop-digit.digit-index ≡ length c.args.digits.now = omega
    (arith, c.loop-digit-test.false, c.loop-digit.auto.digit-index-end) in
    let whole : take c.loop-digit.digit-index c.args.digits.now ≡ c.args.digits.now =
    ap (λ n. take n c.args.digits.now) end ∙ take-length c.args.digits.now in
    let is : c.loop-digit.number ≡ digits_value 10 c.args.digits.now = c.loop-digit.invariant.1 ∙ ap (digits_value 10) whole in
    ap decimal is ∙ decimal-digits_value (numerals_by_value _ tells_digits) c.args.digits.now
    (subst (AllDigits 10) whole c.loop-digit.invariant.0) few.0 few.2 (omega (arith, below, is, c.loop-digit.invariant.1))

pub returns-clause-small : goal.returns-clause-small
returns-clause-small c =
    let few = c.are_short_digits.ensures c.if-not-are_short_digits.false in
    let below = short_below c.args.digits.now c.loop-digit.digit-index c.loop-digit.invariant.0 c.loop-digit.auto.digit-index-end few.1 in
    omega (arith, below, c.loop-digit.invariant.1)
