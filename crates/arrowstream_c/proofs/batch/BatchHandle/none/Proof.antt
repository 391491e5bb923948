-- `none` owns nothing.
use Rattle.std.proofs.Common.{List, [], ◌∷◌, refl, lit<, w32}
use Rattle.std.specs.Prelude.{None}
use Rattle.std.proofs.raw_atomic.Walks.{proved}
use base.Fml.{ftrue}
use mir.Val.{Val, vstruct, vcons, vnil, vnull, vint}
use types.Kit.{‵, ◌⊛◌, ◌$◌, ◌∵◌, !, qed, done, drop, fjoin, fpack, feq_i, suffices, group, join}
use types.Part.{agg}
use types.Run.{enter, lit, no_more, and_then, returns}
use types.ByLocal.{alloc_all, pass_all, free_all, look_at, get, sets}
use denote.Builtin.{u32}
use denote.Exit.{yes}
use denote.Plain.{uint_vals, uint_Tells, uint_Makes}
use denote.RattleType.{owns, Valss}
use denote.RawPtr.{Ptr, RawPtr, null_ptr}
use denote.Signature.{plain}
use denote.Steps.{nothing, owned}
use denote.Struct.Struct.{within}
use denote.Struct.Owning.{shape}
use denote.Triple.Walked.{Stays, walk_of, says, stay_dropped, Goes-dropped, ends_at}
use Rattle.arrowstream_c.specs.contracts.batch.BatchHandle as handle
use Rattle.arrowstream_c.specs.contracts.batch.BatchHandle.none as f
use Rattle.arrowstream_c.proofs.batch.BatchHandle.none.Statement.{statement}
use Rattle.arrowstream_c.proofs.batch.BatchHandle.none.Code as code

abbrev stayed : Stays f.ended.signature.params f.ended.kept
stayed = (stay_dropped (plain (λ _. u32)) yes, tt)

pub none_spec : {M : Type 1} → statement M
none_spec 𝓤 𝓛 𝓜 𝓡 wired =
    let c = f.clauses 𝓛 𝓜.mem 𝓡.returns in let W = walk_of 𝓛 f.ended stayed c in
    proved 𝓛 f.ended stayed c 𝓜 𝓡 (Goes-dropped 𝓛 0 (plain (λ _. u32)) yes (λ κs x w. refl), tt)
    f.Key.name code.function (code.unfolded 𝓤 𝓛.H 𝓜 𝓡 wired)
    (λ κs. (uint_vals w32, tt)) (λ κs. (uint_Tells w32, tt)) (λ κs qs bounds a _ are.
    let s = a.0 in let below = are.0.1 in let y : W.Ghost = ((κs, qs, bounds, a, (uint_vals w32 s, tt)), tt) in
    qed 𝓛 ((‵ ftrue ⊛ ‵ (owns (u32 ∷ []) a (uint_vals w32 s, tt))) ∷ ‵ ftrue ∷ []) ∵ enter ! _ _ _ _ _ $ alloc_all ! (λ l.
    pass_all ! refl ((tt, record { fits = below }), tt) $
    sets ! (agg ! (and_then ! (lit ! tt) (and_then ! (get ! refl) (no_more !)))) refl
    (tt, (record { fits = lit< tt }, (record { fits = below }, tt))) $
    returns ! (look_at ! 0 refl) $ free_all ! refl $ drop ! $ drop ! $
    let v = vstruct (vcons vnull (vcons (vint w32 s) vnil)) in
    let h : handle.the_row.Denot = record { at = null_ptr; status = s; held = None } in
    feq_i ! Ptr null_ptr null_ptr refl $
    nothing ! $ owned ! u32 _ (uint_Makes 𝓛 w32) s _ (refl, below) $ fjoin ! $
    feq_i ! (List Val) (vnull ∷ []) (vnull ∷ []) refl $ fjoin ! $ feq_i ! (List Val) (v ∷ []) (v ∷ [])
    refl $ fjoin ! $
    fpack ! (Valss (RawPtr ∷ u32 ∷ [])) (within (shape handle.the_type) (null_ptr, (s, tt)) (v ∷ [])) (vnull ∷ [], (vint w32 s ∷ [], tt)) $
    fjoin ! $
    suffices ! _ (ends_at 𝓛 f.ended stayed c y v h (tt, tt) (tt, tt)) $ says ! (refl, refl) $ nothing ! $ nothing ! $ join ! $ nothing ! $
    group ! 3 $ done !))
