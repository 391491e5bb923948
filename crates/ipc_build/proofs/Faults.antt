-- A value is no fault, and out of memory is no tree that is too large.
use Rattle.std.proofs.Common.{◌≡◌, subst, sym, ◌∙◌}
use Rattle.std.specs.Prelude.{Result, Ok, Err, ⊤}
use Rattle.ipc_build.specs.declared.fault.BuildFault.{BuildFault}
use Rattle.ipc_build.specs.declared.fault.BuildFault.TheVariants.{TooLarge, OutOfMemory}

abbrev IsValue : {T : Type 0} → Result T BuildFault → Type 0
IsValue (Ok x) = ⊤
IsValue (Err e) = ⊥

-- a value is no fault
pub not_an_error : {T : Type 0} {x : T} {e : BuildFault} → Ok x ≡ Err e → ⊥
not_an_error h = subst IsValue h tt

abbrev IsMemory : {T : Type 0} → Result T BuildFault → Type 0
IsMemory (Ok x) = ⊥
IsMemory (Err TooLarge) = ⊥
IsMemory (Err OutOfMemory) = ⊤

-- a result that is out of memory is not one of too large a tree
pub other_fault : {T : Type 0} {r s : Result T BuildFault} → r ≡ Err OutOfMemory → s ≡ Err TooLarge → r ≡ s → ⊥
other_fault e f h = subst IsMemory (sym e ∙ (h ∙ f)) tt
