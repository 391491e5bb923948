-- `arrowstream_writer_open` writes the pointer of what `fresh` made.
use Rattle.std.proofs.Common.{◌≡◌, ℕ, zero, suc, List, [], ◌∷◌, refl, ap, subst}
use Rattle.std.specs.Prelude.{Option}
use Rattle.std.proofs.raw_atomic.Walks.{proved}
use Rattle.std.proofs.alloc.Calls.{Goes-blank}
use Rattle.std.specs.declared.alloc.Global.{Global}
use Rattle.std.specs.contracts.alloc.Global as global
use Rattle.std.proofs.alloc.Global.TheLaws as global_laws
use base.Fraction.{full_share}
use base.Logic.{id⊢, sep}
use base.Fml.{ftrue, flft}
use lib.Dec.{T}
use mir.Syntax.{named}
use mir.Val.{Val, vunit, has_ty, WT}
use contract.Monad.{fact}
use contract.Running.{tables}
use types.Logic.{sem}
use types.Kit.{‵, raw, ◌⊛◌, some, later, ◌$◌, ◌∵◌, !, qed, done, move, keep, drop, use1, use2, split, join, fsplit, fsplit3}
use types.Kit.{fjoin3, feq_i, feq_l, pick, await, rewrite, suffices, group, frame, show}
use types.Part.{whole, sub}
use types.Run.{enter, of_opd, unit_lit, fld, store, assigns, no_more, and_then, stop, returns}
use types.ByLocal.{alloc_all, pass_all, free_all, look_at, get, get_in, through, sets, lands_as}
use denote.Builtin.{u8}
use denote.Exit.{yes}
use denote.Laws.{Is, shows}
use denote.Memory.{lone, cell_at}
use denote.Param.Laws.{Told}
use denote.RattleType.{RattleType}
use denote.RawPtr.{RawPtr, ptr_val, rawptr_Lawful}
use denote.Ref.{MutRef, ShrRef, mut_vals, mut_Tells, shr_vals, shr_Tells}
use denote.Signature.{plain, Slot}
use denote.Steps.{nothing, only, peeks, opens, closes, heard}
use denote.Struct.OwningLaws.{Lowered}
use denote.Triple.Call.{calls_at}
use denote.Triple.Clauses.{lasts}
use denote.Triple.Spec.{triple_of}
use denote.Triple.Table.{framed}
use denote.Triple.Walked.{Stays, walk_of, says, stay_dropped, Goes-dropped, stay_ref, Goes-ref, ends_at}
use Rattle.ipc_stream_session.specs.contracts.write_session.WriteSession as held
use Rattle.arrowstream_c.specs.contracts.writer.WriterHandle as handle
use Rattle.arrowstream_c.proofs.writer.WriterHandle.TheLaws as handle_laws
use Rattle.arrowstream_c.specs.contracts.answers.ReadLimits as parameter
use Rattle.arrowstream_c.specs.Handles.{held_or_null}
use Rattle.arrowstream_c.specs.WriterCalls.{OpensWriter}
use Rattle.arrowstream_c.specs.contracts.arrowstream_writer_open as f
use Rattle.arrowstream_c.proofs.arrowstream_writer_open.Statement.{statement}
use Rattle.arrowstream_c.proofs.arrowstream_writer_open.Code as code
use Rattle.arrowstream_c.specs.contracts.writer.WriterHandle.fresh as g
use Rattle.arrowstream_c.proofs.writer.WriterHandle.fresh.Met.{met}

abbrev told : Told global.the_row
told = record { val = global_laws.lowers.lowered; tells = global_laws.lowers.val_is }

abbrev R : RattleType
R = held.the_row

abbrev H : RattleType
H = handle.the_row

abbrev V : RattleType
V = parameter.the_row

abbrev lowers : Lowered handle.the_type
lowers = handle_laws.lowers

abbrev slot_at : {n : ℕ} → ℕ → List (Slot n) → Slot n
slot_at k [] = plain (λ _. u8)
slot_at zero (s ∷ ss) = s
slot_at (suc k) (s ∷ ss) = slot_at k ss

abbrev stayed : Stays f.ended.signature.params f.ended.kept
stayed = (
  stay_dropped (plain (λ _. global.the_row)) f.ended.kept.0,
  (stay_dropped (slot_at 1 f.signature.params) yes, (stay_ref (1 ∷ []) tt (plain (λ _. RawPtr)), tt)),
)

pub arrowstream_writer_open_spec : {M : Type 1} → statement M
arrowstream_writer_open_spec 𝓤 𝓛 𝓜 𝓡 wired =
    let c = f.clauses 𝓛 𝓜.mem 𝓡.returns in let W = walk_of 𝓛 f.ended stayed c in
    proved 𝓛 f.ended stayed c 𝓜 𝓡 (
      Goes-blank 𝓛 2 (plain (λ _. global.the_row)) f.ended.kept.0 (λ κs x g. tt),
      (Goes-dropped 𝓛 2 (slot_at 1 f.signature.params) yes (λ κs x w. refl), (Goes-ref 𝓛 2 1 tt (plain (λ _. RawPtr)), tt)),
    )
    f.Key.name code.function (code.unfolded 𝓤 𝓛.H 𝓜 𝓡 wired)
    (λ κs. ((λ d. told.val d ∷ []), (shr_vals, (mut_vals, tt))))
    (λ κs. (told.tells, (shr_Tells (named 0) κs.0 V, (mut_Tells (named 1) κs.1.0 RawPtr, tt)))) (λ κs qs bounds a _ are.
    let alloc : Global = a.0 in let asked = a.1.0 in let out = a.1.1.0 in let κ = κs.1.0 in let q = qs.1.0 in
    let b = out.ref_ptr.0 in let o = out.ref_ptr.1 in let vs = mut_vals out in
    let y : W.Ghost = ((κs, qs, bounds, a, (told.val alloc ∷ [], (shr_vals asked, (vs, tt)))), tt) in
    qed 𝓛 (((‵ (flft κs.0 qs.0) ⊛ (‵ (flft κ q) ⊛ ‵ ftrue)) ⊛ (‵ (global.the_row.own_val alloc (told.val alloc ∷ [])) ⊛
    (‵ ((ShrRef (named 0) κs.0 V).own_val asked (shr_vals asked)) ⊛ (‵ ((MutRef (named 1) κ RawPtr).own_val out vs) ⊛ ‵ ftrue)))) ∷ ‵
    ftrue ∷ []) ∵
    split ! $ split ! $ move ! (1 ∷ []) $ split ! $ move ! (3 ∷ []) $ split ! $ move ! (1 ∷ []) $ split ! $ move ! (1 ∷ []) $ split ! $
    keep ! (3 ∷ 2 ∷ 6 ∷ 0 ∷ 4 ∷ []) $
    -- [the handle of the allocator; the limits; their token; out; its token]
    enter ! _ _ _ _ _ $ alloc_all ! (λ l. pass_all ! refl ((tt, ((tt, tt), tt)), ((tt, tt), ((tt, tt), tt))) $
    let G = triple_of 𝓛 g.signature (g.spec 𝓛 𝓜.mem 𝓡.returns) in
    let z : G.Ghost = (((κs.0, tt), (qs.0, tt), tt, (alloc, (asked, tt)), (told.val alloc ∷ [], (shr_vals asked, tt))), tt) in
    nothing ! $ move ! (2 ∷ 0 ∷ []) $ join ! $ move ! (1 ∷ 0 ∷ []) $ join ! $ nothing ! $ move ! (2 ∷ 0 ∷ []) $ join ! $ join ! $
    nothing ! $ move ! (1 ∷ 0 ∷ []) $ use2 𝓛 (raw (G.pre z)) (id⊢ 𝓤 _) $
    calls_at ! (framed 𝓤 𝓛.H 𝓜 (tables 𝓤 𝓛.H 𝓜 𝓡 𝓡.env)) G (met 𝓤 𝓛 𝓜 𝓡 (code.calls-arrowstream_c::writer::WriterHandle::fresh 𝓡.env
    wired)) z
    (and_then ! (get ! refl) (and_then ! (get ! refl) (no_more !))) (λ v.
    use1 𝓛 (later (some (λ (r : H.Denot). ((‵ (flft κs.0 qs.0) ⊛ ‵ ftrue) ⊛ ‵ (H.own_val r (v ∷ []))) ⊛
    some (λ (ws : Unit {0} × (Unit {0} × Unit {0})). ‵ (lasts g.ended z.0.0 z.0.3 ws) ⊛ raw (fact 𝓤 (OpensWriter asked.now r.held))))))
    (id⊢ 𝓤
    _) $
    await ! tt $ pick ! (λ r. split ! $ split ! $ move ! (2 ∷ []) $ pick ! (λ ws. split ! $ drop ! $ heard ! _ (λ made. move ! (1 ∷ []) $
    -- [what was made; the token of the limits; out; its token]
    peeks ! H (Is H) (shows 𝓛 H) r (v ∷ []) (λ is.
    let low = lowers.lowered r in let e : v ≡ low = ap only (lowers.val_is r (v ∷ []) is) in
    let good = subst (λ (u : Val). T (has_ty (lone H.mir) u) × WT u) e ((handle_laws.the_row_laws.lawful 𝓛).typed r (v ∷ []) is).0 in
    let ptr_good = ((rawptr_Lawful 𝓛).typed r.at (ptr_val r.at ∷ []) refl).0 in
    lands_as ! e refl good $ fsplit ! $ drop ! $ move ! (2 ∷ []) $
    -- [out; what the pointer owns; the token of the limits; the token of out]
    sets ! (of_opd ! (get_in ! (fld ! refl (stop !)) (sub ! 0 refl (whole !)))) refl ptr_good $
    fsplit3 ! $ move ! (1 ∷ 2 ∷ 5 ∷ []) $ opens ! tt RawPtr b o (λ us. move ! (1 ∷ []) $ feq_l ! (λ eq.
    rewrite ! 0 (λ (old : List Val). ‵ (cell_at full_share RawPtr.mir old b o)) eq refl $
    assigns ! (of_opd ! (get ! refl)) (through ! refl (stop !)) (store ! 0 refl ptr_good) $
    sets ! (of_opd ! (unit_lit !)) refl (tt, tt) $
    feq_i ! (List Val) (ptr_val r.at ∷ []) (ptr_val r.at ∷ []) refl $ move ! (1 ∷ 0 ∷ []) $ closes ! tt RawPtr r.at (ptr_val r.at ∷ []) b
    o $
    -- [two parts of out; its token; its first part; what the pointer owns; the token of the limits]
    returns ! (look_at ! 0 refl) $ free_all ! refl $ keep ! (3 ∷ 0 ∷ 1 ∷ 2 ∷ 4 ∷ 5 ∷ []) $ fjoin3 ! $
    suffices ! _ (ends_at 𝓛 f.ended stayed c y vunit tt (tt, (tt, (r.at, tt))) (tt, (tt, (tt, tt)))) $
    nothing ! $ move ! (1 ∷ 0 ∷ []) $ join ! $ nothing ! $ join ! $ nothing ! $ join ! $
    move ! (3 ∷ []) $ split ! $ move ! (3 ∷ 1 ∷ []) $ join ! $ move ! (1 ∷ 0 ∷ []) $ join ! $
    feq_i ! (List Val) (vunit ∷ []) (vunit ∷ []) refl $ move ! (1 ∷ 2 ∷ 0 ∷ []) $ group ! 3 $
    frame ! $ show ! (λ (made : Option R.Denot). sep 𝓤 (sem 𝓛 (held_or_null R r.at made)) (fact 𝓤 (OpensWriter asked.now made))) r.held $
    says ! made $ done !)))))))))
