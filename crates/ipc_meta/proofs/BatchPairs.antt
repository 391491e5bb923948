-- What reading the pairs of a record batch's message answers.
use Rattle.std.proofs.Common.{ap, ℕ, List, arith}
use Rattle.std.specs.Prelude.{Result, Ok, Err, IfOk, IfErr}
use Rattle.ipc_flat.specs.Views.{TableView}
use Rattle.ipc_model.specs.Answers.{UnlessOutOfMemory, AnswersUnlessOutOfMemory}
use Rattle.ipc_model.specs.declared.fault.Fault.{Fault}
use Rattle.ipc_model.specs.declared.limits.Limits.{Limits}
use Rattle.ipc_meta.specs.declared.budget.Budget.{Budget}
use Rattle.ipc_meta.specs.Causes.{Cause}
use Rattle.ipc_meta.specs.Heads.{PairsAt}
use Rattle.ipc_meta.specs.Reached.{HasTable, batch_message}
use Rattle.ipc_meta.specs.Reading.{pairs_read}
use Rattle.ipc_meta.specs.Totals.{message_pairs}
use Rattle.ipc_meta.proofs.Complete.{batch_pairs_complete, budget}
use Rattle.ipc_meta.proofs.refused.RefusedFields.{batch_pairs_refused}
use Rattle.ipc_meta.proofs.Sound.{pairs_sound}
use Rattle.ipc_meta.proofs.Spent.{pairs_taken}
use Rattle.ipc_meta.proofs.Unique.{pairs_same, refused}

-- what was read with what is left afterwards, or the fault
abbrev pub IsRead : Limits → TableView → Budget → Result (List (List ℕ × List ℕ)) Fault → Type 0
IsRead limits root after r = AnswersUnlessOutOfMemory (λ ps. (ps, after)) r
    (pairs_read root message_pairs (budget 0 limits.text limits.pairs))

-- the pairs that were read are those that the message states
pub batch_pairs_found : (limits : Limits) (root : TableView) (after : Budget) (r : Result (List (List ℕ × List ℕ)) Fault)
    → IsRead limits root after r → IfOk r (λ ps. PairsAt limits root ps)
batch_pairs_found limits root after (Ok ps) h =
    let taken = pairs_taken root message_pairs _ after ps h in
    let text = taken.text in
    let pairs = taken.pairs in
    record {
      stated = pairs_sound root message_pairs _ after ps h;
      allowed = record { little_text = omega (arith, text); few_pairs = omega (arith, pairs) };
    }
batch_pairs_found limits root after (Err e) h = tt

-- no other pairs are stated, and where the message states some they are read unless memory ran out
pub batch_pairs_only : (limits : Limits) (root : TableView) (after : Budget) (r : Result (List (List ℕ × List ℕ)) Fault)
    → IsRead limits root after r → (ps : List (List ℕ × List ℕ)) → PairsAt limits root ps → AnswersUnlessOutOfMemory (λ y. y) r (Ok ps)
batch_pairs_only limits root after (Ok qs) h ps at = ap Ok (pairs_same root ps qs at (batch_pairs_found limits root after (Ok qs) h))
batch_pairs_only limits root after (Err e) h ps at =
    let read = batch_pairs_complete root ps at in
    refused e (pairs_read root message_pairs (budget 0 limits.text limits.pairs)) (ps, read.0) ps read.1 h

-- where they are refused, the fault's cause is true of the metadata
pub batch_pairs_told : (limits : Limits) (root : TableView) (after : Budget) (r : Result (List (List ℕ × List ℕ)) Fault)
    → IsRead limits root after r
    → IfErr r (λ f. (b : List ℕ) → HasTable b batch_message root → UnlessOutOfMemory f (Cause limits b f))
batch_pairs_told limits root after (Ok ps) h = tt
batch_pairs_told limits root after (Err e) h = λ b has ne. batch_pairs_refused limits b root e has (h ne)
