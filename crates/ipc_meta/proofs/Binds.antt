-- Steps of a reading, one after another.
use Rattle.std.proofs.Common.{◌≡◌, ◌∙◌, refl, sym, ap, Bool, true, false}
use Rattle.std.specs.Prelude.{Option, None, Some, Result, Ok, Err, if◌then◌else◌}
use Rattle.ipc_flat.specs.declared.fault.FlatFault.{FlatFault}
use Rattle.ipc_flat.specs.Faulty.{◌>>=◌}
use Rattle.ipc_model.specs.declared.fault.Fault.{Fault}
use Rattle.ipc_meta.specs.FlatFaults.{map_fault}
use Rattle.ipc_meta.specs.Tables.{ok_or}

-- where two steps together give an answer, the first gives one, and of it the second gives that answer
pub bind_ok : {A B : Type 0} (r : Result A Fault) (f : A → Result B Fault) (y : B) → (r >>= f) ≡ Ok y → (x : A) × (r ≡ Ok x) × (f x ≡ Ok y)
bind_ok (Ok x) f y h = (x, refl, h)
bind_ok (Err e) f y h = absurd (cc)

-- what is answered once FlatBuffers faults have the names of the reader's is what was answered before
pub lift_ok : {A : Type 0} (r : Result A FlatFault) (x : A) → map_fault r ≡ Ok x → r ≡ Ok x
lift_ok (Ok y) x h = cc
lift_ok (Err e) x h = absurd (cc)

value_or : {X E : Type 0} → X → Result X E → X
value_or d (Ok x) = x
value_or d (Err e) = d

-- an answer has one value
pub ok_same : {X E : Type 0} (r : Result X E) (x y : X) → r ≡ Ok x → r ≡ Ok y → x ≡ y
unfolding value_or
ok_same r x y h k = ap (value_or x) (sym h ∙ k)

-- one of two cases
pub choose : {X P : Type 0} (c : Bool) (x y z : X) → (if c then x else y) ≡ z → (c ≡ true → x ≡ z → P) → (c ≡ false → y ≡ z → P) → P
choose true x y z h this other = this refl h
choose false x y z h this other = other refl h

-- a value that is answered in the place of a fault is there
pub ok_or_ok : {X : Type 0} (d : Fault) (o : Option X) (x : X) → ok_or d o ≡ Ok x → o ≡ Some x
ok_or_ok d None x h = absurd (cc)
ok_or_ok d (Some y) x h = cc
