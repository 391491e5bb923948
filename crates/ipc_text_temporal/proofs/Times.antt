-- Which times have a text.
use Rattle.std.proofs.Common.{◌≡◌, ℕ, ℤ, pos, negsuc, ◌<◌, ◌≤ℤ◌, ◌<ℤ◌, List, Some, None, refl, arith, inl, inr, if◌then◌else◌, ◌++◌, []}
use Rattle.std.proofs.Common.{sym, ◌∙◌}
use Rattle.std.proofs.lemmas.List.{append-nil}
use Rattle.std.specs.Prelude.{int_lt, IsSome, ◌↔◌, unsigned_abs}
use Rattle.std.proofs.lemmas.Bool.{cases_Bool}
use Rattle.std.proofs.lemmas.Int.{ints}
use Rattle.ipc_model.specs.Ranges.{ticks_in_a_day, IsTimeOfDay}
use Rattle.ipc_model.specs.declared.schema.TimeUnit.{TimeUnit}
use Rattle.ipc_text_temporal.specs.Temporals.{time_of_day, time_text}
use Rattle.ipc_text_temporal.proofs.Taken.{left}

some_within : (low high z : ℤ) (text : List ℕ)
    → IsSome (if int_lt z low then None else if int_lt z high then Some text else None) ↔ ((low ≤ℤ z) × (z <ℤ high))
some_within low high z text = elim (cases_Bool (int_lt z low)) [
  | inl below ↦ rw below (λ h. cc h, λ h. let p = h.0 in absurd (grind (arith, ints)))
  | inr above ↦ elim (cases_Bool (int_lt z high)) [
    | inl inside ↦ rw (above, inside) (λ h. (grind (arith, ints), grind (arith, ints)), λ h. refl)
    | inr over ↦ rw (above, over) (λ h. cc h, λ h. let q = h.1 in absurd (grind (arith, ints)))
  ]
]

-- a number of units has a text exactly where it is a time of day
pub time_has_text : (unit : TimeUnit) (z : ℤ) → IsSome (time_text unit z) ↔ IsTimeOfDay unit z
time_has_text unit z = some_within (pos 0) (pos (ticks_in_a_day unit)) z (time_of_day unit (unsigned_abs z))

-- what has the text of a time is a time of day
pub record IsTime (unit : TimeUnit) (z : ℤ) (text : List ℕ) : Type 0 where
  pub number : ℕ
  pub is : z ≡ pos number
  pub within : number < ticks_in_a_day unit
  pub text_is : text ≡ time_of_day unit number ++ []

time_is : (unit : TimeUnit) (z : ℤ) (text : List ℕ) → pos 0 ≤ℤ z → z <ℤ pos (ticks_in_a_day unit)
    → time_of_day unit (unsigned_abs z) ≡ text → IsTime unit z text
time_is unit (pos n) text low high e = record
    { number = n; is = refl; within = omega (arith, ints); text_is = sym e ∙ sym (append-nil (time_of_day unit n)) }
time_is unit (negsuc n) text low high e = absurd (omega (arith, ints))

-- where a number has the text of a time, it is one
pub time_of : (unit : TimeUnit) (z : ℤ) (text : List ℕ) → time_text unit z ≡ Some text → IsTime unit z text
time_of unit z text e = elim (cases_Bool (int_lt z (pos 0))) [
  | inl below ↦ absurd (let f = rw below at e in cc)
  | inr above ↦ elim (cases_Bool (int_lt z (pos (ticks_in_a_day unit)))) [
    | inl inside ↦ let f = rw (above, inside) at e in time_is unit z text (grind (arith, ints)) (grind (arith, ints)) (left f)
    | inr over ↦ absurd (let f = rw (above, over) at e in cc)
  ]
]
