-- Which numbers have the text of a date or of a point in time.
use Rattle.std.proofs.Common.{◌≡◌, ℕ, ℤ, pos, ◌<◌, ◌+ℤ◌, ◌*ℤ◌, List, ◌∷◌, ◌++◌, Option, Some, None, refl, sym, ◌∙◌, arith, inl, inr}
use Rattle.std.proofs.Common.{append_assoc, unsigned_abs}
use Rattle.std.specs.Prelude.{option_map}
use Rattle.std.specs.Int.{int_div_euclid, int_rem_euclid}
use Rattle.std.specs.Ordering.{int_eq}
use Rattle.std.proofs.lemmas.Bool.{cases_Bool}
use Rattle.std.proofs.lemmas.Bool.Decides.{Decides-int_eq}
use Rattle.jiff_core.proofs.SignedLemmas.{signed_arith}
use Rattle.ipc_model.specs.Ranges.{ticks_in_a_day}
use Rattle.ipc_model.specs.declared.schema.DateUnit.{DateUnit}
use Rattle.ipc_model.specs.declared.schema.DateUnit.TheVariants as d
use Rattle.ipc_model.specs.declared.schema.TimeUnit.{TimeUnit}
use Rattle.ipc_model.specs.declared.schema.TimeUnit.TheVariants as u
use Rattle.ipc_text_temporal.specs.Calendar.{day_text}
use Rattle.ipc_text_temporal.specs.Temporals.{date_text, date_of_day, timestamp_text, time_of_day, zone_text}
use Rattle.ipc_text_temporal.proofs.Taken.{left}

-- what has the text of a date is the number of a day with that text
pub record IsDate (unit : DateUnit) (z : ℤ) (text : List ℕ) : Type 0 where
  pub day : ℤ
  pub text_is : day_text day ≡ Some text
  pub number : date_of_day unit day ≡ z

-- where a number has the text of a date, it is one
pub date_of : (unit : DateUnit) (z : ℤ) (text : List ℕ) → date_text unit z ≡ Some text → IsDate unit z text
date_of d.Day z text e = record { day = z; text_is = e; number = refl }
date_of d.Millisecond z text e = elim (cases_Bool (int_eq (int_rem_euclid z (pos 86_400_000)) (pos 0))) [
  | inl whole ↦ record {
    day = int_div_euclid z (pos 86_400_000);
    text_is = rw whole at e;
    number =
        let r = (Decides-int_eq (int_rem_euclid z (pos 86_400_000)) (pos 0)).0 whole in omega (arith, signed_arith);
  }
  | inr part ↦ absurd (let f = rw part at e in cc)
]

-- what has the text of a point in time is so many days and a time of day
pub record IsTimestamp (unit : TimeUnit) (z : ℤ) (text : List ℕ) : Type 0 where
  pub day : ℤ
  pub front : List ℕ
  pub units : ℕ
  pub behind : List ℕ
  pub front_is : day_text day ≡ Some front
  pub within : units < ticks_in_a_day unit
  pub text_is : text ≡ front ++ (84 ∷ (time_of_day unit units ++ behind))
  pub number : day *ℤ pos (ticks_in_a_day unit) +ℤ pos units ≡ z

-- a number of units is so many whole days and a time of day
pub split : (unit : TimeUnit) (z : ℤ)
    → (unsigned_abs (int_rem_euclid z (pos (ticks_in_a_day unit))) < ticks_in_a_day unit)
    × (int_div_euclid z (pos (ticks_in_a_day unit)) *ℤ pos (ticks_in_a_day unit)
    +ℤ pos (unsigned_abs (int_rem_euclid z (pos (ticks_in_a_day unit)))) ≡ z)
split u.Second z = (omega (arith, signed_arith), omega (arith, signed_arith))
split u.Millisecond z = (omega (arith, signed_arith), omega (arith, signed_arith))
split u.Microsecond z = (omega (arith, signed_arith), omega (arith, signed_arith))
split u.Nanosecond z = (omega (arith, signed_arith), omega (arith, signed_arith))

mapped : {A B : Type 0} (f : A → B) (o : Option A) (b : B) → option_map f o ≡ Some b → (a : A) × (o ≡ Some a) × (f a ≡ b)
mapped f None b e = absurd cc
mapped f (Some a) b e = (a, refl, left e)

-- where a number has the text of a point in time, it is one
pub timestamp_of : (unit : TimeUnit) (timezone : Option (List ℕ)) (z : ℤ) (text : List ℕ) → timestamp_text unit timezone z ≡ Some text
    → IsTimestamp unit z text
timestamp_of unit timezone z text e =
    let m = mapped _ _ text e in
    let s = split unit z in
    record {
      day = int_div_euclid z (pos (ticks_in_a_day unit));
      front = m.0;
      units = unsigned_abs (int_rem_euclid z (pos (ticks_in_a_day unit)));
      behind = zone_text timezone;
      front_is = m.1;
      within = s.0;
      text_is = sym m.2 ∙ append_assoc m.0 _ (zone_text timezone);
      number = s.1;
    }
