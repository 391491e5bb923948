-- `arrowstream_batch_free` makes a block of the pointer, and passes it to `free_batch`.
use Rattle.std.proofs.Common.{◌++◌, List, [], ◌∷◌, refl, ap, lit<}
use Rattle.std.proofs.raw_atomic.Walks.{proved}
use Rattle.std.proofs.alloc.Calls.{Goes-blank}
use Rattle.std.specs.Prelude.{Option, Some, None}
use Rattle.std.specs.declared.alloc.Global.{Global}
use Rattle.std.specs.contracts.alloc.Global as global
use Rattle.std.specs.contracts.impls.GlobalAllocator.TheImpl.{ghosts}
use Rattle.std.proofs.alloc.Global.TheLaws as global_laws
use base.Logic.{id⊢}
use base.Fml.{ftrue}
use mir.Val.{Val, vptr, vunit}
use contract.Running.{tables}
use prog.Wp.{WpFn}
use types.Kit.{‵, raw, at_ret, ◌⊛◌, some, later, prop, ◌$◌, ◌∵◌, !, qed, done, move, keep, drop, use1, use2, split, join, fsplit, fjoin}
use types.Kit.{fpack, feq_i, feq_l, pick, await, suffices, group}
use types.Part.{agg}
use types.Run.{enter, of_opd, lit, bin, first, branches, skips, exec, returns_within, unit_lit, no_more, and_then, returns}
use types.ByLocal.{alloc_all, pass_all, free_all, look_at, get, sets, lands_as, env}
use denote.Builtin.{unit}
use denote.Param.Laws.{Told}
use denote.RattleType.{RattleType, owns, Valss}
use denote.RawPtr.{Ptr, RawPtr, block_ptr, null_ptr, rawptr_vals, rawptr_Tells, tests_null}
use denote.Signature.{plain}
use denote.Steps.{nothing, only}
use denote.Struct.Struct.{within}
use denote.Struct.Owning.{shape}
use denote.Struct.OwningLaws.{Lowered}
use denote.Triple.Call.{calls_at}
use denote.Triple.Clauses.{lasts}
use denote.Triple.Spec.{triple_of}
use denote.Triple.Table.{framed}
use denote.Triple.Walked.{Stays, walk_of, stay_dropped, ends_at}
use Rattle.ipc_stream_session.specs.contracts.batch.ReadBatch as held
use Rattle.ipc_stream_session.proofs.batch.ReadBatch.TheLaws as held_laws
use Rattle.arrowstream_c.specs.Handles.{held_or_null}
use Rattle.arrowstream_c.specs.contracts.block.Block as block
use Rattle.arrowstream_c.proofs.block.Block.TheLaws as laws
use Rattle.arrowstream_c.proofs.Handles.{on_handle}
use Rattle.arrowstream_c.specs.contracts.arrowstream_batch_free as f
use Rattle.arrowstream_c.proofs.arrowstream_batch_free.Statement.{statement}
use Rattle.arrowstream_c.proofs.arrowstream_batch_free.Code as code
use Rattle.arrowstream_c.specs.contracts.batch_calls.free_batch as g
use Rattle.arrowstream_c.proofs.batch_calls.free_batch.Met.{met}

abbrev R : RattleType
R = held.the_row

abbrev P : RattleType
P = block.the_row R global.the_row ghosts

abbrev told : Told global.the_row
told = record { val = global_laws.lowers.lowered; tells = global_laws.lowers.val_is }

abbrev lowers : Lowered (block.the_type R global.the_row ghosts)
lowers = laws.lowers R global.the_row ghosts held_laws.the_row_laws global_laws.the_row_laws told

abbrev stayed : Stays f.ended.signature.params f.ended.kept
stayed = (stay_dropped (plain (λ _. global.the_row)) f.ended.kept.0, (stay_dropped (plain (λ _. RawPtr)) f.ended.kept.1.0, tt))

pub arrowstream_batch_free_spec : {M : Type 1} → statement M
arrowstream_batch_free_spec 𝓤 𝓛 𝓜 𝓡 wired =
    let c = f.clauses 𝓛 𝓜.mem 𝓡.returns in let W = walk_of 𝓛 f.ended stayed c in
    let 𝓣 = tables 𝓤 𝓛.H 𝓜 𝓡 𝓡.env in
    proved 𝓛 f.ended stayed c 𝓜 𝓡 (
      Goes-blank 𝓛 0 (plain (λ _. global.the_row)) f.ended.kept.0 (λ κs x g. tt),
      (
        Goes-blank 𝓛 0 (plain (λ _. RawPtr)) f.ended.kept.1.0
            (λ κs x g. tt),
        tt,
      ),
    )
    f.Key.name code.function (code.unfolded 𝓤 𝓛.H 𝓜 𝓡 wired)
    (λ κs. ((λ d. told.val d ∷ []), (rawptr_vals, tt))) (λ κs. (told.tells, (rawptr_Tells, tt))) (λ κs qs bounds a x are.
    let alloc : Global = a.0 in
    let words : Ptr → List Val × (List Val × Unit {0}) = λ p. (told.val alloc ∷ [], (rawptr_vals p, tt)) in
    let y : Ptr → Option R.Denot → W.Ghost = λ p x. ((κs, qs, bounds, (alloc, (p, tt)), words p), x) in
    qed 𝓛 ((‵ ftrue ⊛ ‵ (owns (global.the_row ∷ RawPtr ∷ []) a (words a.1.0))) ∷ ‵ (held_or_null R a.1.0 x) ∷ []) ∵
    move ! (1 ∷ []) $ on_handle ! R a.1.0 x
    (λ p x. prop (WpFn 𝓤 𝓛.H 𝓣.C 𝓣.Λ code.function (told.val alloc ∷ (rawptr_vals p ++ [])) (W.post (y p x))))
    (drop ! $
    enter ! _ _ _ _ _ $ alloc_all ! (λ l. pass_all ! refl ((tt, ((tt, tt), tt)), ((tt, record { fits = lit< tt }), tt)) $
    sets ! (bin ! (get ! refl) (lit ! tt) (tests_null null_ptr (lit< tt))) refl (tt, tt) $
    first ! $ branches ! (get ! refl)
    (λ t. sets ! (of_opd ! (unit_lit !)) refl (tt, tt) $
    returns_within ! (W.post (y null_ptr None)) refl (look_at ! 0 refl) $ free_all ! refl $
    suffices ! _ (ends_at 𝓛 f.ended stayed c (y null_ptr None) vunit tt (tt, (tt, tt)) (tt, (tt, tt))) $
    nothing ! $ feq_i ! (List Val) (vunit ∷ []) (vunit ∷ []) refl $ nothing ! $ nothing ! $ join ! $ nothing ! $ join ! $ nothing ! $
    group ! 3 $
    done !)
    (λ t. absurd t)))
    (λ b o x h may.
    move ! (1 ∷ []) $ split ! $ move ! (1 ∷ []) $ fsplit ! $ keep ! (0 ∷ 3 ∷ []) $
    -- [the handle of the allocator; the value, and the right to free it]
    enter ! _ _ _ _ _ $ alloc_all ! (λ l. pass_all ! refl ((tt, ((tt, tt), tt)), ((tt, tt), tt)) $
    sets ! (bin ! (get ! refl) (lit ! tt) (tests_null (block_ptr b o) may)) refl (tt, tt) $
    first ! $ branches ! (get ! refl) (λ t. absurd t) (λ t. skips ! $
    exec ! 𝓣.C 𝓣.Λ (env code.Mir.locals l) code.Mir.t-3 (at_ret _ (W.post (y (block_ptr b o) (Some x)))) $
    sets ! (of_opd ! (get ! refl)) refl (tt, tt) $
    sets ! (agg ! (and_then ! (get ! refl) (and_then ! (get ! refl) (no_more !)))) refl (tt, (tt, (((tt, tt), tt), tt))) $
    let d : P.Denot = record { ptr = block_ptr b o; alloc = alloc; value = x } in let v = lowers.lowered d in
    let G = triple_of 𝓛 g.signature (g.spec 𝓛 𝓜.mem 𝓡.returns) in
    let z : G.Ghost = ((tt, tt, tt, (d, tt), (v ∷ [], tt)), tt) in
    nothing ! $ move ! (1 ∷ 0 ∷ []) $ fjoin ! $ feq_i ! (List Val) (vptr b o ∷ []) (vptr b o ∷ []) refl $ fjoin ! $
    feq_i ! (List Val) (v ∷ []) (v ∷ []) refl $ fjoin ! $
    fpack ! (Valss (RawPtr ∷ global.the_row ∷ [])) (within (shape (block.the_type R global.the_row ghosts)) (block_ptr b o, (alloc, tt))
    (v ∷ []))
    (vptr b o ∷ [], (told.val alloc ∷ [], tt)) $ fjoin ! $
    nothing ! $ move ! (1 ∷ 0 ∷ []) $ join ! $ nothing ! $ join ! $ nothing ! $ move ! (1 ∷ 0 ∷ []) $ use2 𝓛 (raw (G.pre z)) (id⊢ 𝓤 _) $
    calls_at ! (framed 𝓤 𝓛.H 𝓜 (tables 𝓤 𝓛.H 𝓜 𝓡 𝓡.env)) G (met 𝓤 𝓛 𝓜 𝓡 (code.calls-arrowstream_c::batch_calls::free_batch 𝓡.env wired)) z
    (and_then ! (get ! refl) (no_more !)) (λ v'.
    use1 𝓛 (later (some (λ (r : Unit {0}). (‵ ftrue ⊛ ‵ (unit.own_val r (v' ∷ []))) ⊛
    some (λ (ws : Unit {0} × Unit {0}). ‵ (lasts g.ended z.0.0 z.0.3 ws) ⊛ ‵ ftrue)))) (id⊢ 𝓤 _) $
    await ! tt $ pick ! (λ r. split ! $ split ! $ drop ! $ feq_l ! (λ is_unit. pick ! (λ ws. split ! $ drop ! $
    lands_as ! (ap only is_unit) refl (tt, tt) $ sets ! (of_opd ! (unit_lit !)) refl (tt, tt) $
    returns ! (look_at ! 0 refl) $ free_all ! refl $
    suffices ! _ (ends_at 𝓛 f.ended stayed c (y (block_ptr b o) (Some x)) vunit tt (tt, (tt, tt)) (tt, (tt, tt))) $
    feq_i ! (List Val) (vunit ∷ []) (vunit ∷ []) refl $ nothing ! $ nothing ! $ join ! $ nothing ! $ join ! $ nothing ! $ group ! 3 $
    done !))))))))
