-- `out_of` passes the box to `into_raw_with_allocator`; the block owns what it returns.
use mathlib.Core.Path.{◌≡◌, refl, sym, subst, ap, ◌∙◌}
use mathlib.Core.List.{List, [], ◌∷◌, ◌++◌}
use mir.Syntax.{Fn, Args, a_type, dcons, dnil}
use mir.MapTy.{inst_fn}
use mir.Raw.{raw as bare}
use mir.Val.{Val, vstruct, of_list}
use base.Logic.{ent, id⊢, never, fst∗}
use base.Fml.{ftrue, fsep, flft}
use contract.BorrowLft.{◌⊑◌}
use contract.Monad.{fact}
use contract.Running.{tables}
use prog.Wp.{WpFn}
use types.Logic.{sem}
use types.Kit.{Item, ⋆, ‵, raw, ◌⊛◌, some, later, ◌$◌, ◌∵◌, !, qed, by, move, drop, use1, join, split, split3, pick, rewrite}
use types.Kit.{fsplit, fjoin, fpick, feq_l, suffices, await, done}
use types.Part.{whole, sub, agg}
use types.Run.{stop, fld, no_more, and_then, of_opd, returns, enter}
use types.ByLocal.{alloc_all, pass_all, free_all, look_at, get, get_in, sets, lands_as}
use denote.RattleType.{RattleType}
use denote.Exit.{no}
use denote.Param.{bounded}
use denote.RawPtr.{Ptr, RawPtr, block_ptr, null_ptr, ptr_val, in_a_block}
use denote.Signature.{plain}
use denote.Steps.{heard, nothing, only}
use denote.Struct.Tuple.{Tuple}
use denote.Triple.Call.{calls_at}
use denote.Triple.Clauses.{Ended}
use denote.Triple.Spec.{triple_of}
use denote.Triple.Statement.{Contract}
use denote.Triple.Table.{framed}
use denote.Triple.Walked.{says, Stays, stay_dropped, walk_of, ends_at}
use Rattle.std.proofs.raw_atomic.Walks.{proved_at}
use Rattle.std.proofs.alloc.Calls.{token, handle_tells, Goes-blank}
use Rattle.std.proofs.BoxSteps.Form.{Bx, τ, R, P, B, word, box_typed}
use Rattle.std.proofs.BoxSteps.Steps.{box_out, box_in}
use Rattle.std.specs.Box.Ownership.{box_owns}
use Rattle.std.specs.contracts.boxed.Box.into_raw_with_allocator as g
use Rattle.std.proofs.boxed.Box.into_raw_with_allocator.Met.{met}
use Rattle.arrowstream_c.specs.contracts.block.Block as block
use Rattle.arrowstream_c.specs.contracts.block.Block.out_of as f
use Rattle.arrowstream_c.proofs.block.Block.out_of.Statement.{statement}
use Rattle.arrowstream_c.proofs.block.Block.out_of.Code as code

pub out_of_spec : {M : Type 1} → statement M
out_of_spec 𝓤 𝓛 𝓜 𝓡 wired X Z LX LZ members table drops forgets allocator dropped glue =
    let E : Bx = record { row = X; laws = LX; al = record { row = Z; laws = LZ; g = members; d = table; drops = drops } } in
    let args : Args = bounded (a_type ∷ a_type ∷ []) (X, (Z, tt)) (dcons table (dcons drops (dcons forgets dnil))) in
    let body : Fn = inst_fn args code.function in
    let ended : Ended = f.ended X Z members table drops forgets in
    let stayed : Stays ended.signature.params ended.kept = (stay_dropped (plain (λ _. B E)) no, tt) in
    let c = f.clauses X Z members table drops forgets 𝓛 𝓜.mem 𝓡.returns in
    let Made : RattleType = block.the_row (R E) (P E) members in
    let 𝓣 = tables 𝓤 𝓛.H 𝓜 𝓡 𝓡.env in
    let G : Contract 𝓤 =
    triple_of 𝓛 (g.signature X Z members table drops forgets) (g.spec X Z members table drops forgets 𝓛 𝓜.mem 𝓡.returns) in
    proved_at 𝓛 ended stayed c 𝓜 𝓡 (Goes-blank 𝓛 2 (plain (λ _. B E)) no (λ κs x w. tt), tt)
    (f.Key.name args) body (code.unfolded 𝓤 𝓛.H 𝓜 𝓡 wired (X, (Z, tt)) table drops forgets) (λ y are.
    let κs = y.0.0 in let qs = y.0.1 in let box = y.0.3.0 in let alloc = box.alloc in
    let post = (walk_of 𝓛 ended stayed c).post y in
    let tokens : Item 𝓤 = ‵ (flft κs.0 qs.0) ⊛ ‵ (flft κs.1.0 qs.1.0) ⊛ ‵ ftrue in
    let lives : Item 𝓤 = raw (fact 𝓤 (κs.0 ⊑ X.lives)) ⊛ raw (fact 𝓤 (κs.1.0 ⊑ Z.lives)) ⊛ ‵ ftrue in
    qed 𝓛 ((tokens ⊛ ‵ (fsep ((B E).own_val box y.0.4.0) ftrue)) ∷ lives ∷ []) ∵ split ! $ move ! (1 ∷ []) $ fsplit ! $
    box_out E ! box y.0.4.0 (λ b o bits e ws typed. box_in E ! box b o box.value e refl $
    let w = word E bits b o in let good = box_typed E bits b o typed in
    let z : G.Ghost = ((κs, qs, tt, (box, tt), (w ∷ [], tt)), tt) in
    let Γ : List (Item 𝓤) = ‵ ((B E).own_val box (w ∷ [])) ∷ ‵ ftrue ∷ tokens ∷ lives ∷ [] in
    by ! (subst (λ (us : List Val). ent 𝓤 (⋆ 𝓛 Γ) (WpFn 𝓤 𝓛.H 𝓣.C 𝓣.Λ body (us ++ []) post)) (sym ws)
    (qed 𝓛 Γ ∵ enter ! 𝓣.C 𝓣.Λ body (w ∷ []) _ $ alloc_all ! (λ ls. pass_all ! refl (good, tt) $
    sets ! (of_opd ! (get ! refl)) refl good $
    fjoin ! $ move ! (1 ∷ 0 ∷ []) $ join ! $ join ! $ use1 𝓛 (raw (G.pre z)) (id⊢ 𝓤 _) $
    calls_at ! (framed 𝓤 𝓛.H 𝓜 𝓣) G
    (met 𝓤 𝓛 𝓜 𝓡 (code.calls-std_alloc::boxed::Box::into_raw_with_allocator 𝓡.env wired) X Z LX LZ members table drops forgets allocator
    dropped glue) z (and_then ! (get ! refl) (no_more !)) (λ u.
    use1 𝓛 (later (some (λ (r : Ptr × Z.Denot). (tokens ⊛ ‵ ((Tuple (RawPtr ∷ P E ∷ [])).own_val r (u ∷ []))) ⊛
    some (λ (_ : (Unit {0} × (Unit {0} × Unit {0})) × Unit {0}). ‵ (fsep (fsep ftrue (fsep ftrue ftrue)) ftrue) ⊛
    (raw (fact 𝓤 (r.1 ≡ alloc)) ⊛ ‵ (box_owns (token E.al alloc) (R E) r.0 box.value)))))) (id⊢ 𝓤 _) $
    await ! tt $ pick ! (λ r. split ! $ move ! (1 ∷ []) $ pick ! (λ _. split3 ! $ drop ! $ heard ! (r.1 ≡ alloc) (λ same.
    -- the pointer is that of a block
    in_a_block ! r.0 (λ p. box_owns (token E.al alloc) (R E) p box.value)
    (fst∗ 𝓤 (never 𝓤) (sem 𝓛 (token E.al alloc (bare (τ E)) null_ptr))) (λ b' o' e'. move ! (1 ∷ []) $ split ! $ move ! (1 ∷ []) $
    -- the two members of the pair that was returned
    fpick ! (λ vss. fsplit ! $ feq_l ! (λ eu. fsplit ! $ feq_l ! (λ ep. fsplit ! $
    rewrite ! 0 (λ (s : Z.Denot). ‵ (Z.own_val s vss.1.0)) same refl $ handle_tells E.al ! alloc vss.1.0 (λ found eh typed'.
    let good' = box_typed E found b' o' typed' in
    let made : Made.Denot = record { ptr = block_ptr b' o'; alloc = alloc; value = box.value } in
    lands_as ! (ap only (eu ∙ (λ j. vstruct (of_list ((ep ∙ ap (λ (p : Ptr). ptr_val p ∷ []) e') j ++ (eh j ++ []))) ∷ []))) refl good' $
    sets ! (of_opd ! (get_in ! (fld ! refl (stop !)) (sub ! 0 refl (whole !)))) refl (tt, tt) $
    sets ! (of_opd ! (get_in ! (fld ! refl (stop !)) (sub ! 1 refl (whole !)))) refl typed' $
    sets ! (of_opd ! (get ! refl)) refl typed' $
    sets ! (agg ! (and_then ! (get ! refl) (and_then ! (get ! refl) (no_more !)))) refl good' $
    returns ! (look_at ! 0 refl) $ free_all ! refl $
    -- [the allocator; true; the tokens; the value, and the right to free it]
    move ! (3 ∷ []) $ fsplit ! $ box_in E ! (record { ptr = block_ptr b' o'; alloc = alloc; value = box.value }) b' o' box.value refl refl $
    use1 𝓛 (‵ (Made.own_val made (word E found b' o' ∷ []))) (id⊢ 𝓤 _) $ move ! (1 ∷ []) $ drop ! $
    suffices ! _ (ends_at 𝓛 ended stayed c y (word E found b' o') made ((tt, (tt, tt)), tt) (tt, tt)) $ says ! refl $
    nothing ! $ nothing ! $ fjoin ! $ join ! $ move ! (1 ∷ 0 ∷ []) $ join ! $ done !))))))))))))))
