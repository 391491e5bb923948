use Rattle.std.proofs.Common.{◌≡◌, ◌∙◌, ◌++◌, ℕ, List, Result, Ok, Err, ap, append_assoc, codes}
use Rattle.std.specs.Prelude.{OnOk}
use Rattle.ipc_model.specs.Numbering.{fault_name, fault_number}
use Rattle.ipc_model.specs.Texts.{label}
use Rattle.job_explain.proofs.schemas.push_refusal.Goals as goal

label_pushed : {T E : Type 0} (r : Result T E) (old mid new words name known : List ℕ) (number n : ℕ) → mid ≡ old ++ words
    → number ≡ n → name ≡ known → OnOk r (new ≡ mid ++ label (codes "F") number name)
    → OnOk r (new ≡ old ++ (words ++ label (codes "F") n known))
label_pushed (Ok x) old mid new words name known number n before same_number same_name h =
    h ∙ ap (λ front. front ++ label (codes "F") number name) before ∙ append_assoc old words (label (codes "F") number name)
    ∙ (λ i. old ++ (words ++ label (codes "F") (same_number i) (same_name i)))
label_pushed (Err e) old mid new words name known number n before same_number same_name h = tt

pub returns : goal.returns
returns c =
    label_pushed c.push_label.result _ _ _ (codes "the schema is refused: ") _ _ _ _ c.in_ok-extend_from_slice.ensures.items
    (c.number.ensures ∙ ap fault_number c.from-fault.ensures) (c.name.ensures ∙ ap fault_name c.from-fault.ensures) c.push_label.ensures
