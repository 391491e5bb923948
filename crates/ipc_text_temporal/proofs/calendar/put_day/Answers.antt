use Rattle.std.proofs.Common.{◌≡◌, ◌∙◌, sym, false, arith, FitsSigned, w16, w64, pos, neg_ℤ, ◌≤ℤ◌}
use Rattle.std.specs.Prelude.{int_lt}
use Rattle.std.proofs.lemmas.Int.{to_z-of_z, ints}
use Rattle.jiff_core.proofs.SignedLemmas.{signed_arith}
use Rattle.ipc_text_temporal.proofs.Days.{same_day, printed}
use Rattle.ipc_text_temporal.proofs.Placed.{day_placed}
use Rattle.ipc_text_temporal.proofs.calendar.put_day.Goals as goal

pub returns-clause-text : goal.returns-clause-text
returns-clause-text c =
    let fits : FitsSigned w64 c.args.day = c.ranges.day in
    let e = simp to_z-of_z at c.date_of-date.ensures in
    let early = simp to_z-of_z at c.is_too_early.ensures in
    let late = simp to_z-of_z at c.is_too_late.ensures in
    let low : int_lt c.args.day (neg_ℤ (pos 719_162)) ≡ false = sym early ∙ c.if-is_too_early.false in
    let high : int_lt (pos 2_932_896) c.args.day ≡ false = sym late ∙ c.if-is_too_late.false in
    let first : neg_ℤ (pos 719_162) ≤ℤ c.args.day = grind (arith, ints) in
    let last : c.args.day ≤ℤ pos 2_932_896 = grind (arith, ints) in
    let s = same_day c.date_of-date.result c.args.day first (omega (arith, signed_arith)) e in
    let f16 : FitsSigned w16 c.date_of-date.result.year = let y = s.year in let four = s.four in omega (arith, signed_arith) in
    let abs = simp to_z-of_z at c.unsigned_abs.ensures.value in
    day_placed c.args.at _ _ _ _ _ _ _ _ _ c.date_of-date.result _ (omega (arith, c.requires))
    c.put_four_digits.ensures.text c.put_byte.ensures.text c.put_two_digits.ensures.text c.put_byte-2.ensures.text
    c.put_two_digits-2.ensures.text (c.from.ensures ∙ abs) c.from-2.ensures c.from-3.ensures
    (printed c.date_of-date.result c.args.day low high s)
