-- Chains results that are a value or a fault.
use Rattle.std.specs.Prelude.{Result, Ok, Err, Option, None, Some, Bool, if◌then◌else◌}

-- f applied to the value; a fault is passed on
infixl 10 ◌>>=◌
abbrev pub ◌>>=◌ : {A B E : Type 0} → Result A E → (A → Result B E) → Result B E
(Ok x) >>= f = f x
(Err e) >>= f = Err e

-- x if the test holds, and the fault if it fails
abbrev pub ok_if : {A E : Type 0} → Bool → E → A → Result A E
ok_if test fault x = if test then Ok x else Err fault

-- f applied to a value that is present; an absent one stays absent
abbrev pub where_some : {A B E : Type 0} → (A → Result B E) → Option A → Result (Option B) E
where_some f None = Ok None
where_some f (Some x) = f x >>= λ y. Ok (Some y)
