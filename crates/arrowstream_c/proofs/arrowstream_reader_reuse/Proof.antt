-- `arrowstream_reader_reuse` lends the reader to `reuse`, and has it back. The block of the batch does not come back: `reuse` takes it, or
-- at a null reader `arrowstream_batch_free` does.
use Rattle.std.proofs.Common.{◌++◌, List, [], ◌∷◌, refl, ap, lit<, MutBor}
use Rattle.std.proofs.raw_atomic.Walks.{proved}
use Rattle.std.proofs.alloc.Calls.{Goes-blank}
use Rattle.std.specs.Prelude.{Option, Some, None, ⊤}
use Rattle.std.specs.Box.Ownership.{box_owns}
use Rattle.std.specs.declared.alloc.Global.{Global}
use Rattle.std.specs.contracts.alloc.Global as global
use Rattle.std.specs.contracts.impls.GlobalAllocator.TheImpl.{ghosts}
use Rattle.std.proofs.alloc.Global.TheLaws as global_laws
use base.Fraction.{full_share}
use base.Logic.{id⊢, sep}
use base.Fml.{GName, ftrue, flft, flent}
use mir.Syntax.{named}
use mir.Val.{Val, vptr, vunit}
use contract.Monad.{fact}
use contract.Running.{tables}
use prog.Wp.{WpFn}
use types.Logic.{sem}
use types.SemTy.{Body}
use types.Kit.{‵, raw, at_ret, ◌⊛◌, some, later, prop, ◌$◌, ◌∵◌, !, qed, done, move, keep, drop, use1, use2, use3, split, join, fsplit}
use types.Kit.{fjoin}
use types.Kit.{fpack, feq_i, feq_l, pick, await, suffices, group, frame, show}
use types.Part.{agg}
use types.Run.{enter, of_opd, lit, bin, first, branches, skips, exec, returns_within, unit_lit, no_more, and_then, returns, addr, stop}
use types.ByLocal.{alloc_all, pass_all, free_all, look_at, get, through, sets, lands_as, env}
use types.Tokens.{lft_new, lft_end}
use denote.Builtin.{unit}
use denote.Lend.{lends_ref, ref_back}
use denote.Memory.{mem, part_at}
use denote.Param.Laws.{Told}
use denote.RattleType.{RattleType, owns, Valss}
use denote.RawPtr.{Ptr, RawPtr, block_ptr, null_ptr, rawptr_vals, rawptr_Tells, rawptr_Lawful, tests_null}
use denote.Ref.{MutRef, mut_vals}
use denote.Signature.{plain}
use denote.Steps.{nothing, only, heard}
use denote.Struct.Struct.{within}
use denote.Struct.Owning.{shape}
use denote.Struct.OwningLaws.{Lowered}
use denote.Triple.Call.{calls_at}
use denote.Triple.Clauses.{lasts}
use denote.Triple.Spec.{triple_of}
use denote.Triple.Table.{framed}
use denote.Triple.Walked.{Stays, walk_of, says, stay_dropped, ends_at}
use Rattle.ipc_stream_session.specs.contracts.session.ReadSession as held
use Rattle.ipc_stream_session.specs.contracts.batch.ReadBatch as given
use Rattle.ipc_stream_session.proofs.batch.ReadBatch.TheLaws as given_laws
use Rattle.arrowstream_c.specs.Handles.{OfHandle, held_or_null}
use Rattle.ipc_stream_session.specs.Sessions as sessions
use Rattle.arrowstream_c.specs.Calls.{TakesBack}
use Rattle.arrowstream_c.specs.contracts.block.Block as block
use Rattle.arrowstream_c.proofs.block.Block.TheLaws as laws
use Rattle.arrowstream_c.proofs.Handles.{on_handle}
use Rattle.arrowstream_c.specs.contracts.arrowstream_reader_reuse as f
use Rattle.arrowstream_c.proofs.arrowstream_reader_reuse.Statement.{statement}
use Rattle.arrowstream_c.proofs.arrowstream_reader_reuse.Code as code
use Rattle.arrowstream_c.specs.contracts.reader_calls.reuse as g
use Rattle.arrowstream_c.proofs.reader_calls.reuse.Met.{met}
use Rattle.arrowstream_c.specs.contracts.arrowstream_batch_free as free
use Rattle.arrowstream_c.proofs.arrowstream_batch_free.Met.{met as free_met}

abbrev R : RattleType
R = held.the_row

abbrev S : RattleType
S = given.the_row

abbrev P : RattleType
P = block.the_row S global.the_row ghosts

abbrev told : Told global.the_row
told = record { val = global_laws.lowers.lowered; tells = global_laws.lowers.val_is }

abbrev lowers : Lowered (block.the_type S global.the_row ghosts)
lowers = laws.lowers S global.the_row ghosts given_laws.the_row_laws global_laws.the_row_laws told

abbrev stayed : Stays f.ended.signature.params f.ended.kept
stayed = (
  stay_dropped (plain (λ _. global.the_row)) f.ended.kept.0,
  (stay_dropped (plain (λ _. RawPtr)) f.ended.kept.1.0, (stay_dropped (plain (λ _. RawPtr)) f.ended.kept.1.1.0, tt)),
)

pub arrowstream_reader_reuse_spec : {M : Type 1} → statement M
arrowstream_reader_reuse_spec 𝓤 𝓛 𝓜 𝓡 wired =
    let c = f.clauses 𝓛 𝓜.mem 𝓡.returns in let W = walk_of 𝓛 f.ended stayed c in
    let 𝓣 = tables 𝓤 𝓛.H 𝓜 𝓡 𝓡.env in
    proved 𝓛 f.ended stayed c 𝓜 𝓡 (
      Goes-blank 𝓛 0 (plain (λ _. global.the_row)) f.ended.kept.0 (λ κs x g. tt),
      (
        Goes-blank 𝓛 0 (plain (λ _. RawPtr)) f.ended.kept.1.0 (λ κs x g. tt),
        (Goes-blank 𝓛 0 (plain (λ _. RawPtr)) f.ended.kept.1.1.0 (λ κs x g. tt), tt),
      ),
    )
    f.Key.name code.function (code.unfolded 𝓤 𝓛.H 𝓜 𝓡 wired)
    (λ κs. ((λ d. told.val d ∷ []), (rawptr_vals, (rawptr_vals, tt)))) (λ κs. (told.tells, (rawptr_Tells, (rawptr_Tells, tt))))
    (λ κs qs bounds a x are.
    let alloc : Global = a.0 in
    let words : Ptr → Ptr → List Val × (List Val × (List Val × Unit {0})) = λ p q.
    (told.val alloc ∷ [], (rawptr_vals p, (rawptr_vals q, tt))) in
    let y : Ptr → Option R.Denot → Ptr → Option S.Denot → W.Ghost = λ p x q z.
    ((κs, qs, bounds, (alloc, (p, (q, tt))), words p q), (x, z)) in
    qed 𝓛 ((‵ ftrue ⊛ ‵ (owns (global.the_row ∷ RawPtr ∷ RawPtr ∷ []) a (words a.1.0 a.1.1.0))) ∷
    (‵ (held_or_null R a.1.0 x.0) ⊛ ‵ (held_or_null S a.1.1.0 x.1)) ∷ []) ∵
    move ! (1 ∷ []) $ split ! $ on_handle ! R a.1.0 x.0
    (λ p x₁. prop (WpFn 𝓤 𝓛.H 𝓣.C 𝓣.Λ code.function (told.val alloc ∷ (rawptr_vals p ++ (rawptr_vals a.1.1.0 ++ [])))
    (W.post (y p x₁ a.1.1.0 x.1))))
    (move ! (1 ∷ []) $ split ! $ move ! (1 ∷ []) $ fsplit ! $ keep ! (0 ∷ 3 ∷ []) $
    -- [the handle of the allocator; the batch, or null]
    enter ! _ _ _ _ _ $ alloc_all ! (λ l.
    pass_all ! refl ((tt, ((tt, tt), tt)), ((tt, record { fits = lit< tt }), (((rawptr_Lawful 𝓛).typed a.1.1.0 _ refl).0, tt))) $
    sets ! (bin ! (get ! refl) (lit ! tt) (tests_null null_ptr (lit< tt))) refl (tt, tt) $
    first ! $ branches ! (get ! refl)
    (λ t.
    let F = triple_of 𝓛 free.signature (free.spec 𝓛 𝓜.mem 𝓡.returns) in
    let z : F.Ghost = ((tt, tt, tt, (alloc, (a.1.1.0, tt)), (told.val alloc ∷ [], (rawptr_vals a.1.1.0, tt))), x.1) in
    nothing ! $ feq_i ! (List Val) (rawptr_vals a.1.1.0) (rawptr_vals a.1.1.0) refl $ join ! $ move ! (1 ∷ 0 ∷ []) $ join ! $ nothing ! $
    join ! $ use2 𝓛 (raw (F.pre z)) (id⊢ 𝓤 _) $
    calls_at ! (framed 𝓤 𝓛.H 𝓜 (tables 𝓤 𝓛.H 𝓜 𝓡 𝓡.env)) F (free_met 𝓤 𝓛 𝓜 𝓡 (code.calls-arrowstream_c::arrowstream_batch_free 𝓡.env wired))
    z
    (and_then ! (get ! refl) (and_then ! (get ! refl) (no_more !))) (λ v'.
    use1 𝓛 (later (some (λ (r : Unit {0}). (‵ ftrue ⊛ ‵ (unit.own_val r (v' ∷ []))) ⊛
    some (λ (ws : Unit {0} × (Unit {0} × Unit {0})). ‵ (lasts free.ended z.0.0 z.0.3 ws) ⊛ ‵ ftrue)))) (id⊢ 𝓤 _) $
    await ! tt $ pick ! (λ r. split ! $ split ! $ drop ! $ feq_l ! (λ is_unit. pick ! (λ ws. split ! $ drop ! $
    lands_as ! (ap only is_unit) refl (tt, tt) $ sets ! (of_opd ! (unit_lit !)) refl (tt, tt) $
    returns_within ! (W.post (y null_ptr None a.1.1.0 x.1)) refl (look_at ! 0 refl) $ free_all ! refl $ keep ! [] $
    suffices ! _ (ends_at 𝓛 f.ended stayed c (y null_ptr None a.1.1.0 x.1) vunit tt (tt, (tt, (tt, tt))) (tt, (tt, (tt, tt)))) $
    feq_i ! (List Val) (vunit ∷ []) (vunit ∷ []) refl $ nothing ! $ nothing ! $ join ! $ nothing ! $ join ! $ nothing ! $ join ! $
    nothing ! $
    group ! 3 $ frame ! $
    show ! (λ (is : Option R.Denot). sep 𝓤 (sem 𝓛 (held_or_null R null_ptr is))
    (fact 𝓤 (OfHandle (TakesBack x.1) ⊤ None is))) None $
    says ! tt $ feq_i ! Ptr null_ptr null_ptr refl $ done !)))))
    (λ t. absurd t)))
    (λ b o z h may. fsplit ! $ move ! (2 ∷ []) $ on_handle ! S a.1.1.0 x.1
    (λ q x₂. prop (WpFn 𝓤 𝓛.H 𝓣.C 𝓣.Λ code.function (told.val alloc ∷ (rawptr_vals (block_ptr b o) ++ (rawptr_vals q ++ [])))
    (W.post (y (block_ptr b o) (Some z) q x₂))))
    (move ! (2 ∷ []) $ drop ! $
    -- [the reader; the right to free it]
    enter ! _ _ _ _ _ $ alloc_all ! (λ l.
    pass_all ! refl ((tt, ((tt, tt), tt)), ((tt, tt), ((tt, record { fits = lit< tt }), tt))) $
    sets ! (bin ! (get ! refl) (lit ! tt) (tests_null (block_ptr b o) may)) refl (tt, tt) $
    first ! $ branches ! (get ! refl) (λ t. absurd t) (λ t. skips ! $
    exec ! 𝓣.C 𝓣.Λ (env code.Mir.locals l) code.Mir.t-3
    (at_ret (env code.Mir.locals l) (W.post (y (block_ptr b o) (Some z) null_ptr None))) $
    sets ! (bin ! (get ! refl) (lit ! tt) (tests_null null_ptr (lit< tt))) refl (tt, tt) $
    first ! $ branches ! (get ! refl)
    (λ t. sets ! (of_opd ! (unit_lit !)) refl (tt, tt) $
    returns_within ! (W.post (y (block_ptr b o) (Some z) null_ptr None)) refl (look_at ! 0 refl) $ free_all ! refl $
    suffices ! _
    (ends_at 𝓛 f.ended stayed c (y (block_ptr b o) (Some z) null_ptr None) vunit tt (tt, (tt, (tt, tt))) (tt, (tt, (tt, tt)))) $
    feq_i ! (List Val) (vunit ∷ []) (vunit ∷ []) refl $ nothing ! $ nothing ! $ join ! $ nothing ! $ join ! $ nothing ! $ join ! $
    nothing ! $
    group ! 3 $ frame ! $
    show ! (λ (is : Option R.Denot). sep 𝓤 (sem 𝓛 (held_or_null R (block_ptr b o) is))
    (fact 𝓤 (OfHandle (TakesBack None) ⊤ (Some z) is))) (Some z) $
    says ! refl $ fjoin ! $ fpack ! Global (λ d. box_owns (ghosts.dealloc_token d) R (block_ptr b o) z) h $ done !)
    (λ t. absurd t))))
    (λ b₂ o₂ z₂ k may₂.
    move ! (3 ∷ []) $ split ! $ move ! (1 ∷ []) $ fsplit ! $ keep ! (0 ∷ 3 ∷ 4 ∷ 5 ∷ []) $
    -- [the handle of the allocator; the batch, and the right to free it; the reader; the right to free it]
    enter ! _ _ _ _ _ $ alloc_all ! (λ l. pass_all ! refl ((tt, ((tt, tt), tt)), ((tt, tt), ((tt, tt), tt))) $
    sets ! (bin ! (get ! refl) (lit ! tt) (tests_null (block_ptr b o) may)) refl (tt, tt) $
    first ! $ branches ! (get ! refl) (λ t. absurd t) (λ t. skips ! $
    exec ! 𝓣.C 𝓣.Λ (env code.Mir.locals l) code.Mir.t-3
    (at_ret (env code.Mir.locals l) (W.post (y (block_ptr b o) (Some z) (block_ptr b₂ o₂) (Some z₂)))) $
    sets ! (bin ! (get ! refl) (lit ! tt) (tests_null (block_ptr b₂ o₂) may₂)) refl (tt, tt) $
    first ! $ branches ! (get ! refl) (λ t. absurd t) (λ t. skips ! $
    exec ! 𝓣.C 𝓣.Λ (env code.Mir.locals l) code.Mir.t-5
    (at_ret (env code.Mir.locals l) (W.post (y (block_ptr b o) (Some z) (block_ptr b₂ o₂) (Some z₂)))) $
    sets ! (of_opd ! (get ! refl)) refl (tt, tt) $
    sets ! (addr ! (through ! refl (stop !))) refl (tt, tt) $
    sets ! (of_opd ! (get ! refl)) refl (tt, tt) $
    sets ! (agg ! (and_then ! (get ! refl) (and_then ! (get ! refl) (no_more !)))) refl (tt, (tt, (((tt, tt), tt), tt))) $
    lft_new ! tt (λ α. let κ₁ = α ∷ [] in move ! (3 ∷ []) $
    use1 𝓛 (later (some (λ (γ : GName). ‵ ((MutRef (named 0) κ₁ R).own_val (record { ref_ptr = (b, o); ghost_name = γ; now = z }) (vptr b
    o ∷ [])) ⊛
    ‵ (flent κ₁ (Body (mem R) b o γ)))))
    (lends_ref 𝓛 R (named 0) κ₁ z b o) $ await ! tt $ pick ! (λ γ. split ! $
    -- [the loan; the lender's part; the token of κ₁; the handle of the allocator; the batch; the right to free the reader]
    let d : P.Denot = record { ptr = block_ptr b₂ o₂; alloc = alloc; value = z₂ } in let v = lowers.lowered d in
    let G = triple_of 𝓛 g.signature (g.spec 𝓛 𝓜.mem 𝓡.returns) in
    let lent : MutBor R.Denot = record { ref_ptr = (b, o); ghost_name = γ; now = z } in
    let g₀ : G.Ghost = (((κ₁, tt), (full_share, tt), tt, (lent, (d, tt)), (mut_vals lent, (v ∷ [], tt))), tt) in
    move ! (3 ∷ 4 ∷ []) $
    nothing ! $ move ! (1 ∷ 0 ∷ []) $ fjoin ! $ feq_i ! (List Val) (vptr b₂ o₂ ∷ []) (vptr b₂ o₂ ∷ []) refl $ fjoin ! $
    feq_i ! (List Val) (v ∷ []) (v ∷ []) refl $ fjoin ! $
    fpack ! (Valss (RawPtr ∷ global.the_row ∷ [])) (within (shape (block.the_type S global.the_row ghosts)) (block_ptr b₂ o₂, (alloc, tt))
    (v ∷ []))
    (vptr b₂ o₂ ∷ [], (told.val alloc ∷ [], tt)) $ fjoin ! $
    -- [the block; the loan; the lender's part; the token of κ₁; the right to free the reader]
    nothing ! $ move ! (1 ∷ 0 ∷ []) $ join ! $ move ! (1 ∷ 0 ∷ []) $ join ! $ nothing ! $ move ! (3 ∷ 0 ∷ []) $ join ! $ join ! $
    nothing ! $ move ! (1 ∷ 0 ∷ []) $ use2 𝓛 (raw (G.pre g₀)) (id⊢ 𝓤 _) $
    calls_at ! (framed 𝓤 𝓛.H 𝓜 (tables 𝓤 𝓛.H 𝓜 𝓡 𝓡.env)) G (met 𝓤 𝓛 𝓜 𝓡 (code.calls-arrowstream_c::reader_calls::reuse 𝓡.env wired)) g₀
    (and_then ! (get ! refl) (and_then ! (get ! refl) (no_more !))) (λ v'.
    use1 𝓛 (later (some (λ (r : Unit {0}). ((‵ (flft κ₁ full_share) ⊛ ‵ ftrue) ⊛ ‵ (unit.own_val r (v' ∷ []))) ⊛
    some (λ (ws : R.Denot × (Unit {0} × Unit {0})). ‵ (lasts g.ended g₀.0.0 g₀.0.3 ws) ⊛ raw (fact 𝓤 (sessions.TakesBack z ws.0))))))
    (id⊢ 𝓤 _) $
    await ! tt $ pick ! (λ r. split ! $ split ! $ split ! $ lft_end ! tt $ move ! (3 ∷ []) $
    pick ! (λ ws. split ! $ move ! (1 ∷ []) $ heard ! _ (λ made. fsplit ! $ fsplit ! $
    -- [the last reader; its borrow; what is left; κ₁ is over; true; the result; the lender's part; the right to free the reader]
    move ! (3 ∷ 6 ∷ 0 ∷ []) $ use3 𝓛 (later (‵ (part_at R full_share ws.0 b o))) (ref_back 𝓛 R κ₁ γ ws.0 b o) $ await ! tt $
    -- [the reader; its borrow; what is left; true; the result; the right to free the reader]
    move ! (4 ∷ []) $ feq_l ! (λ is_unit.
    lands_as ! (ap only is_unit) refl (tt, tt) $ sets ! (of_opd ! (unit_lit !)) refl (tt, tt) $
    returns ! (look_at ! 0 refl) $ free_all ! refl $ keep ! (0 ∷ 4 ∷ []) $
    suffices ! _ (ends_at 𝓛 f.ended stayed c (y (block_ptr b o) (Some z) (block_ptr b₂ o₂) (Some z₂)) vunit tt (tt, (tt, (tt, tt)))
    (tt, (tt, (tt, tt)))) $
    feq_i ! (List Val) (vunit ∷ []) (vunit ∷ []) refl $ nothing ! $ nothing ! $ join ! $ nothing ! $ join ! $ nothing ! $ join ! $
    nothing ! $
    group ! 3 $ frame ! $
    show ! (λ (is : Option R.Denot). sep 𝓤 (sem 𝓛 (held_or_null R (block_ptr b o) is))
    (fact 𝓤 (OfHandle (TakesBack (Some z₂)) ⊤ (Some z) is))) (Some ws.0) $
    says ! made $ fjoin ! $ fpack ! Global (λ d. box_owns (ghosts.dealloc_token d) R (block_ptr b o) ws.0) h $ done !)))))))))))))
