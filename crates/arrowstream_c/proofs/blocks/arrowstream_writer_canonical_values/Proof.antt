-- `arrowstream_writer_canonical_values` lends what the pointer leads to to `copy_dictionary`, and has it back. Null is answered by
-- `no_copy`.
use Rattle.std.proofs.Common.{ℕ, zero, suc, ◌++◌, List, [], ◌∷◌, refl, lit<, MutBor, w32, w64}
use Rattle.std.proofs.raw_atomic.Walks.{proved}
use Rattle.std.specs.Prelude.{◌≡◌, ℤ, Option, Some, None}
use Rattle.std.specs.Box.Ownership.{box_owns}
use Rattle.std.specs.declared.alloc.Global.{Global}
use Rattle.std.specs.contracts.impls.GlobalAllocator.TheImpl.{ghosts}
use base.Fraction.{full_share}
use base.Logic.{id⊢, sep, ex}
use base.Fml.{GName, ftrue, flft, flent}
use mir.Syntax.{named}
use mir.Val.{Val, vptr}
use contract.Monad.{fact}
use contract.Running.{tables}
use prog.Wp.{WpFn}
use types.Logic.{sem}
use types.SemTy.{Body}
use types.Kit.{‵, raw, ◌⊛◌, some, later, prop, ◌$◌, ◌∵◌, !, qed, done, move, keep, drop, use1, use2, use3, split, join, fsplit}
use types.Kit.{at_ret, feq_i, feq_l, fjoin, fpack, pick, await, suffices, group, frame, show}
use types.Part.{agg, whole, sub}
use types.Run.{enter, of_opd, lit, bin, first, branches, skips, exec, returns_within, addr, fld, hop, from}
use types.Run.{no_more, and_then, stop, returns}
use types.ByLocal.{alloc_all, pass_all, free_all, look_at, look_in_at, get, get_in, through, sets, lands_as, env}
use types.Tokens.{lft_new, lft_end}
use denote.Builtin.{u8, u32, i64}
use denote.Exit.{yes}
use denote.Laws.{Is, shows}
use denote.Lend.{lends_ref, ref_back}
use denote.Memory.{mem, part_at}
use denote.Plain.{uint_Lawful}
use denote.RattleType.{RattleType, owns}
use denote.RawPtr.{Ptr, RawPtr, block_ptr, null_ptr, tests_null, rawptr_vals, rawptr_Tells}
use denote.Ref.{MutRef, mut_vals, mut_Tells}
use denote.Slice.{MutSlice, mut_slice_vals, mut_slice_Tells}
use denote.Signature.{plain}
use denote.Signed.{sint_vals, sint_Tells, sint_Lawful}
use denote.Steps.{nothing, peeks, heard}
use denote.Triple.Call.{calls_at}
use denote.Triple.Clauses.{lasts}
use denote.Triple.Spec.{triple_of}
use denote.Triple.Table.{framed}
use denote.Triple.Walked.{Stays, walk_of, says, stay_dropped, Goes-dropped, gave_ref, Goes-gave_ref, gave_slice, Goes-gave_slice, ends_at}
use Rattle.ipc_stream_session.specs.contracts.write_session.WriteSession as held
use Rattle.arrowstream_c.specs.contracts.answers.Canonical as answer
use Rattle.arrowstream_c.specs.AtNull.{CopiesNothing}
use Rattle.arrowstream_c.specs.Handles.{OfHandle, held_or_null}
use Rattle.arrowstream_c.specs.WriterCalls.{CopiesDictionary}
use Rattle.arrowstream_c.proofs.Handles.{on_handle}
use Rattle.arrowstream_c.specs.contracts.blocks.arrowstream_writer_canonical_values as f
use Rattle.arrowstream_c.proofs.blocks.arrowstream_writer_canonical_values.Statement.{statement}
use Rattle.arrowstream_c.proofs.blocks.arrowstream_writer_canonical_values.Code as code
use Rattle.arrowstream_c.specs.contracts.writer_calls.copy_dictionary as g
use Rattle.arrowstream_c.proofs.writer_calls.copy_dictionary.Met.{met}
use Rattle.arrowstream_c.specs.contracts.at_null.no_copy as n
use Rattle.arrowstream_c.proofs.at_null.no_copy.Met.{met as met₀}

abbrev R : RattleType
R = held.the_row

abbrev V : RattleType
V = answer.the_row

-- what the call answers of the value at the handle, with what it leaves
abbrev Answers : ℤ → List ℕ → List ℕ → List ℤ → List ℤ → V.Denot → V.Denot → ℕ → Option R.Denot → Option R.Denot → Type 0
Answers id bytes_old bytes_new numbers_old numbers_new old new r was is =
    OfHandle (λ w i. CopiesDictionary w id i bytes_old bytes_new numbers_old numbers_new old new r)
    (CopiesNothing bytes_old bytes_new numbers_old numbers_new old new r) was is

abbrev stayed : Stays f.ended.signature.params f.ended.kept
stayed = (
  stay_dropped (plain (λ _. RawPtr)) yes,
  (
    stay_dropped (plain (λ _. i64)) yes,
    (gave_slice (0 ∷ []) tt (plain (λ _. u8)), (gave_slice (1 ∷ []) tt (plain (λ _. i64)), (gave_ref (2 ∷ []) tt (plain (λ _. V)), tt))),
  ),
)

pub arrowstream_writer_canonical_values_spec : {M : Type 1} → statement M
arrowstream_writer_canonical_values_spec 𝓤 𝓛 𝓜 𝓡 wired =
    let c = f.clauses 𝓛 𝓜.mem 𝓡.returns in let W = walk_of 𝓛 f.ended stayed c in
    let 𝓣 = tables 𝓤 𝓛.H 𝓜 𝓡 𝓡.env in
    proved 𝓛 f.ended stayed c 𝓜 𝓡 (
      Goes-dropped 𝓛 3 (plain (λ _. RawPtr)) yes (λ κs x w. refl),
      (
        Goes-dropped 𝓛 3 (plain (λ _. i64)) yes (λ κs x w. refl),
        (
          Goes-gave_slice 𝓛 3 0 tt (plain (λ _. u8)),
          (Goes-gave_slice 𝓛 3 1 tt (plain (λ _. i64)), (Goes-gave_ref 𝓛 3 2 tt (plain (λ _. V)), tt)),
        ),
      ),
    )
    f.Key.name code.function (code.unfolded 𝓤 𝓛.H 𝓜 𝓡 wired)
    (λ κs. (rawptr_vals, (sint_vals w64, (mut_slice_vals, (mut_slice_vals, (mut_vals, tt)))))) (λ κs. (
      rawptr_Tells,
      (
        sint_Tells w64,
        (
          mut_slice_Tells (named 0) κs.0 u8,
          (mut_slice_Tells (named 1) κs.1.0 i64, (mut_Tells (named 2) κs.1.1.0 V, tt)),
        ),
      ),
    )) (λ κs qs bounds a x are.
    let a1 = a.1.0 in let a2 = a.1.1.0 in let a3 = a.1.1.1.0 in let a4 = a.1.1.1.1.0 in
    let words : Ptr → (List Val × (List Val × (List Val × (List Val × (List Val × Unit {0}))))) = λ p. (
      rawptr_vals p,
      (sint_vals w64 a1, (mut_slice_vals a2, (mut_slice_vals a3, (mut_vals a4, tt)))),
    ) in
    let y : Ptr → Option R.Denot → W.Ghost = λ p x. ((κs, qs, bounds, (p, (a1, (a2, (a3, (a4, tt))))), words p), x) in
    let toks = (‵ (flft κs.0 qs.0) ⊛ (‵ (flft κs.1.0 qs.1.0) ⊛ (‵ (flft κs.1.1.0 qs.1.1.0) ⊛ ‵ ftrue))) in
    let G₀ = triple_of 𝓛 n.signature (n.spec 𝓛 𝓜.mem 𝓡.returns) in
    let z₀ : G₀.Ghost = ((κs, qs, tt, (a2, (a3, (a4, tt))), (mut_slice_vals a2, (mut_slice_vals a3, (mut_vals a4, tt)))), tt) in
    qed 𝓛 ((toks ⊛ ‵ (owns (RawPtr ∷ i64 ∷ MutSlice (named 0) κs.0 u8 ∷ MutSlice (named 1) κs.1.0 i64 ∷ MutRef (named 2) κs.1.1.0 V ∷ [])
    a (words a.0))) ∷ ‵ (held_or_null R a.0 x) ∷ [])
    ∵ move ! (1 ∷ []) $ on_handle ! R a.0 x
    (λ p x. prop (WpFn 𝓤 𝓛.H 𝓣.C 𝓣.Λ code.function (rawptr_vals p ++ (sint_vals w64 a1 ++ (mut_slice_vals a2 ++ (mut_slice_vals a3 ++
    (mut_vals a4 ++ []))))) (W.post (y p x))))
    (split ! $ move ! (1 ∷ []) $ fsplit ! $ drop ! $ fsplit ! $ drop ! $ move ! (1 ∷ []) $
    -- [the tokens; the other arguments]
    enter ! _ _ _ _ _ $ alloc_all ! (λ l.
    pass_all ! refl (
      (tt, record { fits = lit< tt }),
      (
        ((sint_Lawful 𝓛 w64).typed a1 _ are.1.0).0,
        (
          (tt, (tt, (record { fits = are.1.1.0.0.1.0 }, tt))),
          ((tt, (tt, (record { fits = are.1.1.1.0.0.1.0 }, tt))), ((tt, tt), tt)),
        ),
      ),
    ) $
    sets ! (bin ! (get ! refl) (lit ! tt) (tests_null null_ptr (lit< tt))) refl (tt, tt) $
    first ! $ branches ! (get ! refl)
    (λ t.
    sets ! (addr ! (from ! (fld ! refl (hop ! (look_in_at ! 3 (sub ! 0 refl (whole !))) (stop !))))) refl (tt, tt) $
    sets ! (agg ! (and_then ! (get ! refl) (and_then ! (get_in ! (fld ! refl (stop !)) (sub ! 1 refl (whole !))) (no_more !)))) refl (
      tt,
      (tt, (record { fits = are.1.1.0.0.1.0 }, tt)),
    ) $
    sets ! (addr ! (from ! (fld ! refl (hop ! (look_in_at ! 4 (sub ! 0 refl (whole !))) (stop !))))) refl (tt, tt) $
    sets ! (agg ! (and_then ! (get ! refl) (and_then ! (get_in ! (fld ! refl (stop !)) (sub ! 1 refl (whole !))) (no_more !)))) refl (
      tt,
      (tt, (record { fits = are.1.1.1.0.0.1.0 }, tt)),
    ) $
    sets ! (addr ! (through ! refl (stop !))) refl (tt, tt) $
    join ! $ nothing ! $ move ! (1 ∷ 0 ∷ []) $ use2 𝓛 (raw (G₀.pre z₀)) (id⊢ 𝓤 _) $
    calls_at ! (framed 𝓤 𝓛.H 𝓜 (tables 𝓤 𝓛.H 𝓜 𝓡 𝓡.env)) G₀ (met₀ 𝓤 𝓛 𝓜 𝓡 (code.calls-arrowstream_c::at_null::no_copy 𝓡.env
    wired)) z₀
    (and_then ! (get ! refl) (and_then ! (get ! refl) (and_then ! (get ! refl) (no_more !)))) (λ v.
    use1 𝓛 (later (some (λ (r : ℕ). (toks ⊛ ‵ (u32.own_val r (v ∷ []))) ⊛
    some (λ (vs : (List ℕ × (List ℤ × (V.Denot × Unit {0})))). ‵ (lasts n.ended z₀.0.0 z₀.0.3 vs) ⊛
    raw (fact 𝓤 (CopiesNothing a2.now vs.0 a3.now vs.1.0 a4.now vs.1.1.0 r)))))) (id⊢ 𝓤 _) $
    await ! tt $ pick ! (λ r. split ! $ split ! $ move ! (2 ∷ []) $ pick ! (λ vs. split ! $ move ! (1 ∷ []) $ heard ! _ (λ told.
    -- [what is left of the others; the tokens; the result]
    move ! (2 ∷ []) $ peeks ! u32 (Is u32) (shows 𝓛 u32) r (v ∷ []) (λ is. lands_as ! refl refl ((uint_Lawful 𝓛 w32).typed r _ is).0 $
    returns_within ! (W.post (y null_ptr None)) refl (look_at ! 0 refl) $ free_all ! refl $
    keep ! (1 ∷ 2 ∷ 0 ∷ []) $
    fsplit ! $ fsplit ! $ fsplit ! $ move ! (1 ∷ []) $ feq_l ! (λ same₁. fjoin ! $ move ! (1 ∷ []) $
    fsplit ! $ fsplit ! $ fsplit ! $ move ! (1 ∷ []) $ feq_l ! (λ same₂. fjoin ! $ fjoin ! $ move ! (1 ∷ 0 ∷ []) $ fjoin ! $
    suffices ! _ (ends_at 𝓛 f.ended stayed c (y null_ptr None) v r (tt, (tt, (vs.0, (vs.1.0, (vs.1.1.0, tt)))))
    (tt, (tt, (same₁, (same₂, (tt, tt)))))) $
    nothing ! $ join ! $ nothing ! $ join ! $ move ! (1 ∷ 0 ∷ []) $ group ! 3 $ frame ! $
    show ! (λ (is : Option R.Denot). sep 𝓤 (sem 𝓛 (held_or_null R null_ptr is))
    (fact 𝓤 (Answers a1 a2.now vs.0 a3.now vs.1.0 a4.now vs.1.1.0 r None is))) None $
    says ! told $ feq_i ! Ptr null_ptr null_ptr refl $ done !))))))))
    (λ t. absurd t)))
    (λ b o x h may.
    fsplit ! $ move ! (2 ∷ []) $ split ! $ move ! (1 ∷ []) $ fsplit ! $ drop ! $
    -- [the other arguments; the tokens; the writer; the right to free it]
    enter ! _ _ _ _ _ $ alloc_all ! (λ l. pass_all ! refl (
      (tt, tt),
      (
        ((sint_Lawful 𝓛 w64).typed a1 _ are.1.0).0,
        (
          (tt, (tt, (record { fits = are.1.1.0.0.1.0 }, tt))),
          ((tt, (tt, (record { fits = are.1.1.1.0.0.1.0 }, tt))), ((tt, tt), tt)),
        ),
      ),
    ) $
    sets ! (bin ! (get ! refl) (lit ! tt) (tests_null (block_ptr b o) may)) refl (tt, tt) $
    first ! $ branches ! (get ! refl) (λ t. absurd t) (λ t. skips ! $
    exec ! 𝓣.C 𝓣.Λ (env code.Mir.locals l) code.Mir.t-3 (at_ret _ (W.post (y (block_ptr b o) (Some x)))) $
    sets ! (of_opd ! (get ! refl)) refl (tt, tt) $
    sets ! (addr ! (through ! refl (stop !))) refl (tt, tt) $
    sets ! (addr ! (from ! (fld ! refl (hop ! (look_in_at ! 3 (sub ! 0 refl (whole !))) (stop !))))) refl (tt, tt) $
    sets ! (agg ! (and_then ! (get ! refl) (and_then ! (get_in ! (fld ! refl (stop !)) (sub ! 1 refl (whole !))) (no_more !)))) refl (
      tt,
      (tt, (record { fits = are.1.1.0.0.1.0 }, tt)),
    ) $
    sets ! (addr ! (from ! (fld ! refl (hop ! (look_in_at ! 4 (sub ! 0 refl (whole !))) (stop !))))) refl (tt, tt) $
    sets ! (agg ! (and_then ! (get ! refl) (and_then ! (get_in ! (fld ! refl (stop !)) (sub ! 1 refl (whole !))) (no_more !)))) refl (
      tt,
      (tt, (record { fits = are.1.1.1.0.0.1.0 }, tt)),
    ) $
    sets ! (addr ! (through ! refl (stop !))) refl (tt, tt) $
    lft_new ! tt (λ α. let κ' = α ∷ [] in move ! (3 ∷ []) $
    use1 𝓛 (later (some (λ (γ : GName). ‵ ((MutRef (named 0) κ' R).own_val (record { ref_ptr = (b, o); ghost_name = γ; now = x }) (vptr b
    o ∷ [])) ⊛
    ‵ (flent κ' (Body (mem R) b o γ)))))
    (lends_ref 𝓛 R (named 0) κ' x b o) $ await ! tt $ pick ! (λ γ. split ! $
    -- [the loan; the lender's part; the token of κ'; the other arguments; the tokens; the right to free]
    let G = triple_of 𝓛 g.signature (g.spec 𝓛 𝓜.mem 𝓡.returns) in
    let lent : MutBor R.Denot = record { ref_ptr = (b, o); ghost_name = γ; now = x } in
    let z : G.Ghost = (
      (
        (κ', κs),
        (full_share, qs),
        tt,
        (lent, (a1, (a2, (a3, (a4, tt))))),
        (mut_vals lent, (sint_vals w64 a1, (mut_slice_vals a2, (mut_slice_vals a3, (mut_vals a4, tt))))),
      ),
      tt,
    ) in
    move ! (0 ∷ 3 ∷ []) $ join ! $ move ! (2 ∷ 3 ∷ []) $ join ! $ join ! $ nothing ! $ move ! (1 ∷ 0 ∷ []) $ use2 𝓛 (raw (G.pre z)) (id⊢
    𝓤 _) $
    calls_at ! (framed 𝓤 𝓛.H 𝓜 (tables 𝓤 𝓛.H 𝓜 𝓡 𝓡.env)) G (met 𝓤 𝓛 𝓜 𝓡 (code.calls-arrowstream_c::writer_calls::copy_dictionary 𝓡.env
    wired)) z
    (and_then ! (get ! refl) (and_then ! (get ! refl) (and_then ! (get ! refl) (and_then ! (get ! refl) (and_then ! (get ! refl) (no_more
    !)))))) (λ v.
    use1 𝓛 (later (some (λ (r : ℕ). ((‵ (flft κ' full_share) ⊛ toks) ⊛ ‵ (u32.own_val r (v ∷ []))) ⊛
    some (λ (ws : (R.Denot × (Unit {0} × (List ℕ × (List ℤ × (V.Denot × Unit {0})))))). ‵ (lasts g.ended z.0.0 z.0.3 ws) ⊛ raw (fact 𝓤
    (CopiesDictionary x a1 ws.0 a2.now ws.1.1.0 a3.now ws.1.1.1.0 a4.now ws.1.1.1.1.0 r)))))) (id⊢ 𝓤 _) $
    await ! tt $ pick ! (λ r. split ! $ split ! $ split ! $ lft_end ! tt $ move ! (3 ∷ []) $
    pick ! (λ ws. split ! $ move ! (1 ∷ []) $ heard ! _ (λ told. fsplit ! $ fsplit ! $
    -- [the last writer; its borrow; what is left of the others; κ' is over; the tokens; the result; the lender's part; the right to free]
    move ! (3 ∷ 6 ∷ 0 ∷ []) $ use3 𝓛 (later (‵ (part_at R full_share ws.0 b o))) (ref_back 𝓛 R κ' γ ws.0 b o) $ await ! tt $
    -- [the writer; its borrow; what is left of the others; the tokens; the result; the right to free]
    move ! (4 ∷ []) $ peeks ! u32 (Is u32) (shows 𝓛 u32) r (v ∷ []) (λ is. lands_as ! refl refl ((uint_Lawful 𝓛 w32).typed r _ is).0 $
    returns ! (look_at ! 0 refl) $ free_all ! refl $ keep ! (3 ∷ 4 ∷ 0 ∷ 1 ∷ 5 ∷ []) $
    -- [what is left of the others; the tokens; the result; the writer; the right to free]
    fsplit ! $ move ! (1 ∷ []) $
    fsplit ! $ fsplit ! $ fsplit ! $ move ! (1 ∷ []) $ feq_l ! (λ same₁. fjoin ! $ move ! (1 ∷ []) $
    fsplit ! $ fsplit ! $ fsplit ! $ move ! (1 ∷ []) $ feq_l ! (λ same₂. fjoin ! $ fjoin ! $ move ! (1 ∷ 0 ∷ []) $ fjoin ! $
    move ! (1 ∷ 0 ∷ []) $ fjoin ! $ move ! (1 ∷ 0 ∷ []) $
    -- [the tokens; what is left of the others; the result; the writer; the right to free]
    suffices ! _ (ends_at 𝓛 f.ended stayed c (y (block_ptr b o) (Some x)) v r (
      tt,
      (tt, (ws.1.1.0, (ws.1.1.1.0, (ws.1.1.1.1.0, tt)))),
    )
    (tt, (tt, (same₁, (same₂, (tt, tt)))))) $
    nothing ! $ move ! (0 ∷ 2 ∷ []) $ join ! $ move ! (1 ∷ 0 ∷ []) $ group ! 3 $
    frame ! $ show ! (λ (is : Option R.Denot). sep 𝓤 (sem 𝓛 (held_or_null R (block_ptr b o) is))
    (fact 𝓤 (Answers a1 a2.now ws.1.1.0 a3.now ws.1.1.1.0 a4.now ws.1.1.1.1.0 r (Some x) is))) (Some ws.0) $
    says ! told $
    fjoin ! $ fpack ! Global (λ d. box_owns (ghosts.dealloc_token d) R (block_ptr b o) ws.0) h $ done !)))))))))))))
