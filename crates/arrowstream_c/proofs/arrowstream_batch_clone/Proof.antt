-- `arrowstream_batch_clone` lends what the pointer leads to, has it back, and writes the pointer of what was made.
use Rattle.std.proofs.Common.{◌≡◌, ◌++◌, List, [], ◌∷◌, refl, ap, subst, lit<, MutBor, w32}
use Rattle.std.specs.Prelude.{Option, Some, None}
use Rattle.std.proofs.raw_atomic.Walks.{proved}
use Rattle.std.proofs.alloc.Calls.{Goes-blank}
use Rattle.std.specs.Box.Ownership.{box_owns}
use Rattle.std.specs.declared.alloc.Global.{Global}
use Rattle.std.specs.contracts.alloc.Global as global
use Rattle.std.specs.contracts.impls.GlobalAllocator.TheImpl.{ghosts}
use Rattle.std.proofs.alloc.Global.TheLaws as global_laws
use base.Fraction.{full_share}
use base.Logic.{id⊢, sep, ex}
use base.Fml.{GName, ftrue, flft, flent}
use lib.Dec.{T}
use mir.Syntax.{named}
use mir.Val.{Val, vptr, vnull, vint, has_ty, WT}
use contract.Monad.{fact}
use contract.Running.{tables}
use prog.Wp.{WpFn}
use types.Logic.{sem}
use types.SemTy.{Body}
use types.Kit.{‵, raw, ◌⊛◌, some, later, prop, ◌$◌, ◌∵◌, !, qed, done, move, keep, drop, use1, use2, use3, split, join, fsplit}
use types.Kit.{at_ret, fsplit3, fjoin, fjoin3, fpack, feq_i, feq_l, pick, await, rewrite, suffices, group, frame, show}
use types.Part.{whole, sub}
use types.Run.{enter, of_opd, lit, bin, addr, fld, store, assigns}
use types.Run.{no_more, and_then, stop, first, branches, skips, exec, returns, returns_within}
use types.ByLocal.{alloc_all, pass_all, free_all, look_at, get, get_in, through, sets, lands_as, env}
use types.Tokens.{lft_new, lft_end}
use denote.Builtin.{u32}
use denote.Laws.{Is, shows}
use denote.Lend.{lends_ref, ref_back}
use denote.Memory.{mem, part_at, lone, cell_at}
use denote.Param.Laws.{Told}
use denote.Plain.{uint_Makes}
use denote.RattleType.{RattleType}
use denote.RawPtr.{Ptr, RawPtr, block_ptr, null_ptr, ptr_val, tests_null, rawptr_vals, rawptr_Tells, rawptr_Lawful}
use denote.Ref.{MutRef, mut_vals, mut_Tells}
use denote.Signature.{plain}
use denote.Steps.{nothing, only, owned, peeks, opens, closes, heard}
use denote.Struct.OwningLaws.{Lowered}
use denote.Triple.Call.{calls_at}
use denote.Triple.Clauses.{lasts}
use denote.Triple.Spec.{triple_of}
use denote.Triple.Table.{framed}
use denote.Triple.Walked.{Stays, walk_of, says, stay_dropped, stay_ref, Goes-ref, ends_at}
use Rattle.ipc_stream_session.specs.contracts.batch.ReadBatch as held
use Rattle.arrowstream_c.specs.Handles.{OfHandle, held_or_null, misuse}
use Rattle.arrowstream_c.specs.Calls.{ClonesBatch}
use Rattle.arrowstream_c.specs.contracts.batch.BatchHandle as handle
use Rattle.arrowstream_c.proofs.batch.BatchHandle.TheLaws as handle_laws
use Rattle.arrowstream_c.proofs.Handles.{on_handle}
use Rattle.arrowstream_c.specs.contracts.arrowstream_batch_clone as f
use Rattle.arrowstream_c.proofs.arrowstream_batch_clone.Statement.{statement}
use Rattle.arrowstream_c.proofs.arrowstream_batch_clone.Code as code
use Rattle.arrowstream_c.specs.contracts.batch_calls.share as g
use Rattle.arrowstream_c.proofs.batch_calls.share.Met.{met}

abbrev R : RattleType
R = held.the_row

abbrev told : Told global.the_row
told = record { val = global_laws.lowers.lowered; tells = global_laws.lowers.val_is }

abbrev H : RattleType
H = handle.the_row

abbrev lowers : Lowered handle.the_type
lowers = handle_laws.lowers

abbrev stayed : Stays f.ended.signature.params f.ended.kept
stayed = (
  stay_dropped (plain (λ _. global.the_row)) f.ended.kept.0,
  (stay_dropped (plain (λ _. RawPtr)) f.ended.kept.1.0, (stay_ref (0 ∷ []) tt (plain (λ _. RawPtr)), tt)),
)

pub arrowstream_batch_clone_spec : {M : Type 1} → statement M
arrowstream_batch_clone_spec 𝓤 𝓛 𝓜 𝓡 wired =
    let c = f.clauses 𝓛 𝓜.mem 𝓡.returns in let W = walk_of 𝓛 f.ended stayed c in
    let 𝓣 = tables 𝓤 𝓛.H 𝓜 𝓡 𝓡.env in
    proved 𝓛 f.ended stayed c 𝓜 𝓡 (
      Goes-blank 𝓛 1 (plain (λ _. global.the_row)) f.ended.kept.0 (λ κs x g. tt),
      (Goes-blank 𝓛 1 (plain (λ _. RawPtr)) f.ended.kept.1.0 (λ κs x g. tt), (Goes-ref 𝓛 1 0 tt (plain (λ _. RawPtr)), tt)),
    )
    f.Key.name code.function (code.unfolded 𝓤 𝓛.H 𝓜 𝓡 wired)
    (λ κs. ((λ d. told.val d ∷ []), (rawptr_vals, (mut_vals, tt))))
    (λ κs. (told.tells, (rawptr_Tells, (mut_Tells (named 0) κs.0 RawPtr, tt)))) (λ κs qs bounds a x are.
    let alloc : Global = a.0 in let κ = κs.0 in let q = qs.0 in let out = a.1.1.0 in
    let ob = out.ref_ptr.0 in let oo = out.ref_ptr.1 in let vs = mut_vals out in
    let words : Ptr → List Val × (List Val × (List Val × Unit {0})) = λ p. (told.val alloc ∷ [], (rawptr_vals p, (vs, tt))) in
    let y : Ptr → Option R.Denot → W.Ghost = λ p x. ((κs, qs, bounds, (alloc, (p, (out, tt))), words p), x) in
    qed 𝓛 (((‵ (flft κ q) ⊛ ‵ ftrue) ⊛ (‵ (global.the_row.own_val alloc (told.val alloc ∷ [])) ⊛ (‵ (RawPtr.own_val a.1.0 (rawptr_vals
    a.1.0)) ⊛
    (‵ ((MutRef (named 0) κ RawPtr).own_val out vs) ⊛ ‵ ftrue)))) ∷ ‵ (held_or_null R a.1.0 x) ∷ []) ∵
    move ! (1 ∷ []) $ on_handle ! R a.1.0 x
    (λ p x. prop (WpFn 𝓤 𝓛.H 𝓣.C 𝓣.Λ code.function (told.val alloc ∷ (rawptr_vals p ++ (vs ++ []))) (W.post (y p x))))
    (split ! $ split ! $ move ! (2 ∷ []) $ split ! $ move ! (1 ∷ []) $ split ! $ drop ! $ split ! $ keep ! (3 ∷ 0 ∷ []) $
    -- [the token of out; out]
    enter ! _ _ _ _ _ $ alloc_all ! (λ l.
    pass_all ! refl ((tt, ((tt, tt), tt)), ((tt, record { fits = lit< tt }), ((tt, tt), tt))) $
    sets ! (bin ! (get ! refl) (lit ! tt) (tests_null null_ptr (lit< tt))) refl (tt, tt) $
    first ! $ branches ! (get ! refl)
    (λ t. move ! (1 ∷ 0 ∷ []) $ fsplit3 ! $ move ! (1 ∷ 2 ∷ 3 ∷ []) $ opens ! tt RawPtr ob oo (λ us. move ! (1 ∷ []) $ feq_l ! (λ eq.
    rewrite ! 0 (λ (old : List Val). ‵ (cell_at full_share RawPtr.mir old ob oo)) eq refl $
    assigns ! (of_opd ! (lit ! tt)) (through ! refl (stop !)) (store ! 0 refl (tt, record { fits = lit< tt })) $
    sets ! (of_opd ! (lit ! tt)) refl (tt, record { fits = lit< tt }) $
    feq_i ! (List Val) (vnull ∷ []) (vnull ∷ []) refl $ move ! (1 ∷ 0 ∷ []) $ closes ! tt RawPtr null_ptr (vnull ∷ []) ob oo $
    -- [two parts of out; its token; its first part]
    returns_within ! (W.post (y null_ptr None)) refl (look_at ! 0 refl) $ free_all ! refl $ keep ! (3 ∷ 0 ∷ 1 ∷ 2 ∷ []) $ fjoin3 ! $
    suffices ! _ (ends_at 𝓛 f.ended stayed c (y null_ptr None) (vint w32 65) 65 (tt, (tt, (null_ptr, tt))) (tt, (tt, (tt, tt)))) $
    nothing ! $ move ! (1 ∷ 0 ∷ []) $ join ! $ nothing ! $ join ! $ nothing ! $ join ! $ nothing ! $ move ! (2 ∷ 0 ∷ []) $ join ! $
    owned ! u32 _ (uint_Makes 𝓛 w32) 65 _ (refl, lit< tt) $ move ! (1 ∷ 2 ∷ 0 ∷ []) $ group ! 3 $ frame ! $
    show ! (λ (is : Option R.Denot). ex 𝓤 (λ (found : Option R.Denot). sep 𝓤 (sem 𝓛 (held_or_null R null_ptr is))
    (sep 𝓤 (sem 𝓛 (held_or_null R null_ptr found)) (fact 𝓤 (OfHandle (λ was is. ClonesBatch was is found 65)
    ((found ≡ None) × (65 ≡ misuse)) None is))))) None $
    show ! (λ (found : Option R.Denot). sep 𝓤 (sem 𝓛 (held_or_null R null_ptr None))
    (sep 𝓤 (sem 𝓛 (held_or_null R null_ptr found)) (fact 𝓤 (OfHandle (λ was is. ClonesBatch was is found 65)
    ((found ≡ None) × (65 ≡ misuse)) None None)))) None $
    feq_i ! Ptr null_ptr null_ptr refl $ frame ! $ says ! (refl, refl) $ feq_i ! Ptr null_ptr null_ptr refl $ done !)))
    (λ t. absurd t)))
    (λ b o x h may.
    fsplit ! $ move ! (2 ∷ []) $ split ! $ split ! $ move ! (2 ∷ []) $ split ! $ move ! (1 ∷ []) $ split ! $ drop ! $ split ! $
    keep ! (3 ∷ 0 ∷ 2 ∷ 5 ∷ 6 ∷ []) $
    -- [the token of out; out; the handle of the allocator; the value; the right to free it]
    enter ! _ _ _ _ _ $ alloc_all ! (λ l. pass_all ! refl ((tt, ((tt, tt), tt)), ((tt, tt), ((tt, tt), tt))) $
    sets ! (bin ! (get ! refl) (lit ! tt) (tests_null (block_ptr b o) may)) refl (tt, tt) $
    first ! $ branches ! (get ! refl) (λ t. absurd t) (λ t. skips ! $
    exec ! 𝓣.C 𝓣.Λ (env code.Mir.locals l) code.Mir.t-3 (at_ret _ (W.post (y (block_ptr b o) (Some x)))) $
    sets ! (of_opd ! (get ! refl)) refl (tt, tt) $ sets ! (addr ! (through ! refl (stop !))) refl (tt, tt) $
    lft_new ! tt (λ α. let κ' = α ∷ [] in move ! (4 ∷ []) $
    use1 𝓛 (later (some (λ (γ : GName). ‵ ((MutRef (named 0) κ' R).own_val (record { ref_ptr = (b, o); ghost_name = γ; now = x }) (vptr b
    o ∷ [])) ⊛
    ‵ (flent κ' (Body (mem R) b o γ)))))
    (lends_ref 𝓛 R (named 0) κ' x b o) $ await ! tt $ pick ! (λ γ. split ! $
    -- [the loan; the lender's part; the token of κ'; the token of out; out; the handle of the allocator; the right to free]
    let G = triple_of 𝓛 g.signature (g.spec 𝓛 𝓜.mem 𝓡.returns) in
    let lent : MutBor R.Denot = record { ref_ptr = (b, o); ghost_name = γ; now = x } in
    let z : G.Ghost = (((κ', tt), (full_share, tt), tt, (alloc, (lent, tt)), (told.val alloc ∷ [], (mut_vals lent, tt))), tt) in
    nothing ! $ move ! (1 ∷ 0 ∷ []) $ join ! $ move ! (5 ∷ 0 ∷ []) $ join ! $ nothing ! $ move ! (3 ∷ 0 ∷ []) $ join ! $ join ! $
    nothing ! $ move ! (1 ∷ 0 ∷ []) $ use2 𝓛 (raw (G.pre z)) (id⊢ 𝓤 _) $
    calls_at ! (framed 𝓤 𝓛.H 𝓜 (tables 𝓤 𝓛.H 𝓜 𝓡 𝓡.env)) G (met 𝓤 𝓛 𝓜 𝓡 (code.calls-arrowstream_c::batch_calls::share 𝓡.env wired)) z
    (and_then ! (get ! refl) (and_then ! (get ! refl) (no_more !))) (λ v.
    use1 𝓛 (later (some (λ (r : H.Denot). ((‵ (flft κ' full_share) ⊛ ‵ ftrue) ⊛ ‵ (H.own_val r (v ∷ []))) ⊛
    some (λ (ws : Unit {0} × (R.Denot × Unit {0})). ‵ (lasts g.ended z.0.0 z.0.3 ws) ⊛
    raw (fact 𝓤 (ClonesBatch x ws.1.0 r.held r.status)))))) (id⊢ 𝓤 _) $
    await ! tt $ pick ! (λ r. split ! $ split ! $ split ! $ lft_end ! tt $ move ! (3 ∷ []) $
    pick ! (λ ws. split ! $ move ! (1 ∷ []) $ heard ! _ (λ made. fsplit ! $ drop ! $ fsplit ! $ fsplit ! $
    -- [the last value; its borrow; true; κ' is over; true; what was made; the lender's part; the token of out; out; the right to free]
    move ! (3 ∷ 6 ∷ 0 ∷ []) $ use3 𝓛 (later (‵ (part_at R full_share ws.1.0 b o))) (ref_back 𝓛 R κ' γ ws.1.0 b o) $ await ! tt $ move !
    (4 ∷ []) $
    peeks ! H (Is H) (shows 𝓛 H) r (v ∷ []) (λ is.
    let low = lowers.lowered r in let e : v ≡ low = ap only (lowers.val_is r (v ∷ []) is) in
    let good = subst (λ (u : Val). T (has_ty (lone H.mir) u) × WT u) e ((handle_laws.the_row_laws.lawful 𝓛).typed r (v ∷ []) is).0 in
    let ptr_good = ((rawptr_Lawful 𝓛).typed r.at (ptr_val r.at ∷ []) refl).0 in
    let below = good.1.1.0.fits in
    lands_as ! e refl good $ fsplit ! $ drop ! $
    -- [what the new pointer owns; the value; its borrow; true; true; the token of out; out; the right to free]
    sets ! (of_opd ! (get_in ! (fld ! refl (stop !)) (sub ! 0 refl (whole !)))) refl ptr_good $
    sets ! (of_opd ! (get_in ! (fld ! refl (stop !)) (sub ! 1 refl (whole !)))) refl (tt, record { fits = below }) $
    move ! (6 ∷ 5 ∷ []) $ fsplit3 ! $ move ! (1 ∷ 2 ∷ 3 ∷ []) $ opens ! tt RawPtr ob oo (λ us. move ! (1 ∷ []) $ feq_l ! (λ eq.
    rewrite ! 0 (λ (old : List Val). ‵ (cell_at full_share RawPtr.mir old ob oo)) eq refl $
    assigns ! (of_opd ! (get ! refl)) (through ! refl (stop !)) (store ! 0 refl ptr_good) $
    sets ! (of_opd ! (get ! refl)) refl (tt, record { fits = below }) $
    feq_i ! (List Val) (ptr_val r.at ∷ []) (ptr_val r.at ∷ []) refl $ move ! (1 ∷ 0 ∷ []) $ closes ! tt RawPtr r.at (ptr_val r.at ∷ [])
    ob oo $
    -- [two parts of out; its token; its first part; what the new pointer owns; the value; ..; the right to free]
    returns ! (look_at ! 0 refl) $ free_all ! refl $ keep ! (3 ∷ 0 ∷ 1 ∷ 2 ∷ 4 ∷ 5 ∷ 9 ∷ []) $ fjoin3 ! $
    suffices ! _ (ends_at 𝓛 f.ended stayed c (y (block_ptr b o) (Some x)) (vint w32 r.status) r.status (tt, (tt, (r.at, tt)))
    (tt, (tt, (tt, tt)))) $
    nothing ! $ move ! (1 ∷ 0 ∷ []) $ join ! $ nothing ! $ join ! $ nothing ! $ join ! $ nothing ! $ move ! (2 ∷ 0 ∷ []) $ join ! $
    owned ! u32 _ (uint_Makes 𝓛 w32) r.status _ (refl, below) $ move ! (1 ∷ 2 ∷ 0 ∷ []) $ group ! 3 $ frame ! $
    -- [what the new pointer owns; the value; the right to free]
    show ! (λ (is : Option R.Denot). ex 𝓤 (λ (found : Option R.Denot). sep 𝓤 (sem 𝓛 (held_or_null R (block_ptr b o) is))
    (sep 𝓤 (sem 𝓛 (held_or_null R r.at found)) (fact 𝓤 (OfHandle (λ was is. ClonesBatch was is found r.status)
    ((found ≡ None) × (r.status ≡ misuse)) (Some x) is)))))
    (Some ws.1.0) $
    show ! (λ (found : Option R.Denot). sep 𝓤 (sem 𝓛 (held_or_null R (block_ptr b o) (Some ws.1.0)))
    (sep 𝓤 (sem 𝓛 (held_or_null R r.at found)) (fact 𝓤 (OfHandle (λ was is. ClonesBatch was is found r.status)
    ((found ≡ None) × (r.status ≡ misuse)) (Some x) (Some ws.1.0))))) r.held $
    move ! (1 ∷ 2 ∷ []) $ fjoin ! $ fpack ! Global (λ d. box_owns (ghosts.dealloc_token d) R (block_ptr b o) ws.1.0) h $ frame ! $ says !
    made $ done !)))))))))))))
