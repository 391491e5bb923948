-- A handle that C gives: null, or a value in a block of its own.
use Rattle.std.proofs.Common.{refl, ℕ, List, ◌∷◌}
use Rattle.std.specs.Prelude.{Option, Some, None}
use Rattle.std.specs.Box.Ownership.{box_owns}
use Rattle.std.specs.declared.alloc.Global.{Global}
use Rattle.std.specs.contracts.impls.GlobalAllocator.TheImpl.{ghosts}
use Rattle.std.proofs.GlobalToken.{dealloc_token-Testable}
use seplogic.Ra.Ura.{Ura}
use mir.Raw.{raw as bare}
use base.Fraction.{full_share}
use base.Fml.{Fml}
use base.Logic.{ent, via, fst∗, snd∗, never, guard, guard_i}
use contract.Monad.{fact_use}
use types.Kit.{‵, Item, Goal, Seq, given, ◌$◌, use1, learn, fpick, feq_l, regoal}
use types.Logic.{Logic, sem}
use denote.Memory.{lone}
use denote.RattleType.{RattleType}
use denote.RawPtr.{Ptr, Testable, block_ptr, null_ptr, in_a_block, lies_at}
use Rattle.arrowstream_c.specs.Handles.{held_or_null}

-- whoever owns a block may compare its pointer with null
pub tested : {M : Type 1} {𝓤 : Ura M} (𝓛 : Logic 𝓤) (R : RattleType) (h : Global) (p : Ptr) (x : R.Denot)
    → ent 𝓤 (sem 𝓛 (box_owns (ghosts.dealloc_token h) R p x)) (guard 𝓤 (Testable p) (sem 𝓛 (box_owns (ghosts.dealloc_token h) R p x)))
tested {𝓤 = 𝓤} 𝓛 R h p x =
    let right : Fml = ghosts.dealloc_token h (bare (lone R.mir)) p in
    fact_use 𝓤 (Testable p)
    (via 𝓤 (sem 𝓛 right) (snd∗ 𝓤 (sem 𝓛 (lies_at R full_share p x)) (sem 𝓛 right)) (dealloc_token-Testable 𝓛 h (bare (lone R.mir)) p))
    (guard_i 𝓤 (Testable p) (sem 𝓛 (box_owns (ghosts.dealloc_token h) R p x)))

-- a step: the handle is null and there is no value, or it is the block of the value
pub on_handle : {M : Type 1} {𝓤 : Ura M} {𝓛 : Logic 𝓤} {K : Type 0} {Γ : List (Item 𝓤)} → K → (R : RattleType) (p : Ptr)
    (x : Option R.Denot) (G : Ptr → Option R.Denot → Goal 𝓤 𝓛.H) → Seq K 𝓛 Γ (G null_ptr None)
    → ((b o : ℕ) (y : R.Denot) (h : Global) → Testable (block_ptr b o)
    → Seq K 𝓛 (‵ (box_owns (ghosts.dealloc_token h) R (block_ptr b o) y) ∷ Γ) (G (block_ptr b o) (Some y)))
    → Seq K 𝓛 (‵ (held_or_null R p x) ∷ Γ) (G p x)
on_handle t R p None G none some = feq_l t (λ e. regoal t (λ q. G q None) e refl $ none)
on_handle {𝓤 = 𝓤} {𝓛 = 𝓛} t R p (Some y) G none some =
    fpick t (λ h. in_a_block t p (λ q. box_owns (ghosts.dealloc_token h) R q y)
    (fst∗ 𝓤 (never 𝓤) (sem 𝓛 (ghosts.dealloc_token h (bare (lone R.mir)) null_ptr))) (λ b o e.
    regoal t (λ q. G q (Some y)) e refl $
    use1 𝓛 (given (Testable (block_ptr b o)) (‵ (box_owns (ghosts.dealloc_token h) R (block_ptr b o) y))) (tested 𝓛 R h (block_ptr b o) y) $
    learn t (λ may. some b o y h may)))
