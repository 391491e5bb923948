use Rattle.std.proofs.Common.{◌≡◌, [], inl, inr, List, ℕ, subst, sym}
use Rattle.std.specs.Prelude.{◌⊎◌, Err, IfOk, IfSome, Ok, Result}
use Rattle.std.specs.Result.{result_ok}
use Rattle.std.proofs.lemmas.Result.{IfOk-weaker}
use Rattle.job_command.specs.Lines.{ExplainsStop}
use Rattle.job_explain.specs.Schemas.{ExplainsSchema}
use Rattle.job_command.proofs.running.lines_of.Goals as goal

-- what holds of the value of a result holds of the value that `ok` returns
told_if_ok : {V F : Type 0} (r : Result V F) (P : V → Type 0) → IfOk r P → IfSome (result_ok r) P
told_if_ok (Ok v) P h = h
told_if_ok (Err e) P h = tt

pub returns-in-SchemaText : goal.returns-in-SchemaText
returns-in-SchemaText g c =
    let report = IfOk-weaker c.explain_schema.result _ (λ out. (out.items ≡ []) ⊎ ExplainsStop c.args.stop.now out.items)
    (λ out either. elim either [
      | inl none ↦ inl none.0
      | inr line ↦ inr (rw c.in-SchemaText.is
          (subst (λ (text : List ℕ). ExplainsSchema text out.items) c.as_slice.ensures.value line))
    ]) c.explain_schema.ensures.explains in
    subst (λ o. IfSome o (λ out. (out.items ≡ []) ⊎ ExplainsStop c.args.stop.now out.items)) (sym c.ok-in-SchemaText.ensures.value)
    (told_if_ok c.explain_schema.result (λ out. (out.items ≡ []) ⊎ ExplainsStop c.args.stop.now out.items) report)
