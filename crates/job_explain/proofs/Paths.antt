-- The words for the path to a field.
use Rattle.std.proofs.Common.{◌≡◌, ◌∙◌, inl, inr, ap, append_assoc, Result, Ok, Err, OnOk, ℕ, zero, suc, ◌-◌, ◌<◌, List, ◌++◌, codes, refl}
use Rattle.std.proofs.Common.{sym, subst, arith}
use Rattle.std.specs.Fmt.{decimal}
use Rattle.ipc_flat.specs.Views.{TableView}
use Rattle.ipc_model.specs.declared.fault.Fault.{Fault}
use Rattle.ipc_model.specs.declared.limits.Limits.{Limits}
use Rattle.ipc_meta.specs.Tables.{text_at}
use Rattle.job_explain.specs.FieldPaths.{FirstWith, NoneWith, NamesBelow, end_words, name_words}

-- the path ends at the last level that is looked at
pub names_deepest : (limits : Limits) (fault : Fault) (depth : ℕ) (t : TableView) → depth ≡ 0
    → NamesBelow limits fault depth t (end_words fault t)
names_deepest limits fault zero t e = refl
names_deepest limits fault (suc depth) t e = absurd (omega arith)

-- the path ends where no child has the fault
pub names_here : (limits : Limits) (fault : Fault) (depth : ℕ) (t : TableView) → NoneWith limits fault t 5
    → NamesBelow limits fault depth t (end_words fault t)
names_here limits fault zero t none = refl
names_here limits fault (suc depth) t none = inl (none, refl)

-- the path goes on at a child that has the fault
pub names_child : (limits : Limits) (fault : Fault) (depth deeper i : ℕ) (t u : TableView) (below : List ℕ) → depth ≡ suc deeper
    → FirstWith limits fault t 5 i u
    → NamesBelow limits fault deeper u below
    → NamesBelow limits fault depth t (codes ", child " ++ decimal i ++ name_words (text_at u 0) ++ below)
names_child limits fault depth deeper i t u below e first rest =
    subst (λ d. NamesBelow limits fault d t (codes ", child " ++ decimal i ++ name_words (text_at u 0) ++ below)) (sym e) (inr (
      i,
      u,
      below,
      first,
      rest,
      refl,
    ))

-- a call that appended the words below a child has appended the path
pub child_told : {E : Type 0} (limits : Limits) (fault : Fault) (depth i : ℕ) (t u : TableView) (old mid new : List ℕ)
    (res : Result Unit E) → 0 < depth
    → FirstWith limits fault t 5 i u → mid ≡ old ++ (codes ", child " ++ decimal i ++ name_words (text_at u 0))
    → OnOk res ((below : List ℕ) × NamesBelow limits fault (depth - 1) u below × (new ≡ mid ++ below))
    → OnOk res ((below : List ℕ) × NamesBelow limits fault depth t below × (new ≡ old ++ below))
child_told limits fault depth i t u old mid new (Ok x) some first m (below, names, e) = (
  codes ", child " ++ decimal i ++ name_words (text_at u 0) ++ below,
  names_child limits fault depth (depth - 1) i t u below (omega arith) first names,
  e ∙ ap (λ s. s ++ below) m ∙ append_assoc old (codes ", child " ++ decimal i ++ name_words (text_at u 0)) below,
)
child_told limits fault depth i t u old mid new (Err f) some first m h = tt

-- a call that appended the type has appended the path that ends here
pub end_told : {E : Type 0} (limits : Limits) (fault : Fault) (depth : ℕ) (t : TableView) (old new : List ℕ) (res : Result Unit E)
    → NamesBelow limits fault depth t (end_words fault t)
    → OnOk res (new ≡ old ++ (end_words fault t))
    → OnOk res ((below : List ℕ) × NamesBelow limits fault depth t below × (new ≡ old ++ below))
end_told limits fault depth t old new (Ok x) names e = (end_words fault t, names, e)
end_told limits fault depth t old new (Err f) names e = tt
