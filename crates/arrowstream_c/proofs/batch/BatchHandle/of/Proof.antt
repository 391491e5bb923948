-- `of` gives what the block owns to a handle.
use Rattle.std.proofs.Common.{◌++◌, List, [], ◌∷◌, refl, lit<, w32}
use Rattle.std.specs.Prelude.{Some}
use Rattle.std.proofs.raw_atomic.Walks.{proved}
use Rattle.std.proofs.alloc.Calls.{Goes-blank}
use Rattle.std.specs.Box.Ownership.{box_owns}
use Rattle.std.specs.declared.alloc.Global.{Global}
use Rattle.std.specs.contracts.alloc.Global as global
use Rattle.std.specs.contracts.impls.GlobalAllocator.TheImpl.{ghosts}
use Rattle.std.proofs.alloc.Global.TheLaws as global_laws
use base.Logic.{fst∗, never}
use base.Fml.{ftrue}
use mir.Raw.{raw as bare}
use mir.Val.{Val, vptr, vint, vstruct, vcons, vnil}
use contract.Running.{tables}
use prog.Wp.{WpFn}
use types.Logic.{sem}
use types.Kit.{‵, ◌⊛◌, prop, ◌$◌, ◌∵◌, !, qed, done, move, keep, split, join, fsplit, fjoin, fpack, feq_i, regoal, suffices, group}
use types.Part.{agg, whole, sub}
use types.Run.{enter, of_opd, lit, fld, no_more, and_then, stop, returns}
use types.ByLocal.{alloc_all, pass_all, free_all, look_at, get, get_in, sets}
use denote.Builtin.{u32}
use denote.Memory.{lone}
use denote.Param.Laws.{Told}
use denote.Plain.{uint_Makes}
use denote.RattleType.{RattleType, owns, Valss}
use denote.RawPtr.{Ptr, RawPtr, block_ptr, null_ptr, in_a_block}
use denote.Signature.{plain}
use denote.Steps.{nothing, owned}
use denote.Struct.Struct.{within}
use denote.Struct.Owning.{shape}
use denote.Struct.OwningLaws.{Lowered}
use denote.Triple.Walked.{Stays, walk_of, says, stay_dropped, ends_at}
use Rattle.ipc_stream_session.specs.contracts.batch.ReadBatch as held
use Rattle.ipc_stream_session.proofs.batch.ReadBatch.TheLaws as held_laws
use Rattle.arrowstream_c.specs.contracts.batch.BatchHandle as handle
use Rattle.arrowstream_c.specs.contracts.block.Block as block
use Rattle.arrowstream_c.proofs.block.Block.TheLaws as laws
use Rattle.arrowstream_c.specs.contracts.batch.BatchHandle.of as f
use Rattle.arrowstream_c.proofs.batch.BatchHandle.of.Statement.{statement}
use Rattle.arrowstream_c.proofs.batch.BatchHandle.of.Code as code

abbrev R : RattleType
R = held.the_row

abbrev P : RattleType
P = block.the_row R global.the_row ghosts

abbrev told : Told global.the_row
told = record { val = global_laws.lowers.lowered; tells = global_laws.lowers.val_is }

abbrev lowers : Lowered (block.the_type R global.the_row ghosts)
lowers = laws.lowers R global.the_row ghosts held_laws.the_row_laws global_laws.the_row_laws told

abbrev stayed : Stays f.ended.signature.params f.ended.kept
stayed = (stay_dropped (plain (λ _. P)) f.ended.kept.0, tt)

pub of_spec : {M : Type 1} → statement M
of_spec 𝓤 𝓛 𝓜 𝓡 wired =
    let c = f.clauses 𝓛 𝓜.mem 𝓡.returns in let W = walk_of 𝓛 f.ended stayed c in
    let 𝓣 = tables 𝓤 𝓛.H 𝓜 𝓡 𝓡.env in
    proved 𝓛 f.ended stayed c 𝓜 𝓡 (Goes-blank 𝓛 0 (plain (λ _. P)) f.ended.kept.0 (λ κs x g. tt), tt)
    f.Key.name code.function (code.unfolded 𝓤 𝓛.H 𝓜 𝓡 wired)
    (λ κs. ((λ d. lowers.lowered d ∷ []), tt)) (λ κs. (lowers.val_is, tt)) (λ κs qs bounds a _ are.
    let x : P.Denot = a.0 in let words : P.Denot → List Val = λ d. lowers.lowered d ∷ [] in
    let y : W.Ghost = ((κs, qs, bounds, a, (words x, tt)), tt) in
    qed 𝓛 ((‵ ftrue ⊛ ‵ (owns (P ∷ []) a (words x, tt))) ∷ ‵ ftrue ∷ []) ∵
    split ! $ move ! (1 ∷ []) $ fsplit ! $ fsplit ! $ move ! (1 ∷ []) $
    in_a_block ! x.ptr (λ p. box_owns (ghosts.dealloc_token x.alloc) R p x.value)
    (fst∗ 𝓤 (never 𝓤) (sem 𝓛 (ghosts.dealloc_token x.alloc (bare (lone R.mir)) null_ptr))) (λ b o e.
    regoal ! (λ (p : Ptr). prop (WpFn 𝓤 𝓛.H 𝓣.C 𝓣.Λ code.function (words (record x { ptr = p }) ++ []) (W.post y))) e refl $
    enter ! _ _ _ _ _ $ alloc_all ! (λ l. pass_all ! refl ((tt, (tt, (((tt, tt), tt), tt))), tt) $
    sets ! (of_opd ! (get_in ! (fld ! refl (stop !)) (sub ! 0 refl (whole !)))) refl (tt, tt) $
    sets ! (of_opd ! (get ! refl)) refl (tt, tt) $
    sets ! (agg ! (and_then ! (get ! refl) (and_then ! (lit ! tt) (no_more !)))) refl (tt, (tt, (record { fits = lit< tt }, tt))) $
    returns ! (look_at ! 0 refl) $ free_all ! refl $ keep ! (0 ∷ []) $
    fpack ! Global (λ g. box_owns (ghosts.dealloc_token g) R (block_ptr b o) x.value) x.alloc $
    let v = vstruct (vcons (vptr b o) (vcons (vint w32 0) vnil)) in
    let h : handle.the_row.Denot = record { at = block_ptr b o; status = 0; held = Some x.value } in
    nothing ! $ owned ! u32 _ (uint_Makes 𝓛 w32) 0 _ (refl, lit< tt) $ fjoin ! $
    feq_i ! (List Val) (vptr b o ∷ []) (vptr b o ∷ []) refl $ fjoin ! $
    feq_i ! (List Val) (v ∷ []) (v ∷ []) refl $ fjoin ! $
    fpack ! (Valss (RawPtr ∷ u32 ∷ [])) (within (shape handle.the_type) (block_ptr b o, (0, tt)) (v ∷ []))
    (vptr b o ∷ [], (vint w32 0 ∷ [], tt)) $ fjoin ! $
    suffices ! _ (ends_at 𝓛 f.ended stayed c y v h (tt, tt) (tt, tt)) $ says ! (refl, refl) $
    nothing ! $ nothing ! $ join ! $ nothing ! $ group ! 3 $ done !)))
