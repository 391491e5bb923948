use Rattle.std.proofs.Common.{◌∙◌, sym, ap, rules, FitsSigned}
use Rattle.std.specs.Int.{w64}
use Rattle.std.proofs.lemmas.Int.{to_z-of_z}
use Rattle.std.specs.Prelude.{Ok}
use Rattle.ipc_meta.specs.FlatFaults.{map_fault}
use Rattle.ipc_meta.proofs.Sound.{batch_sound}
use Rattle.ipc_meta.proofs.Unique.{dictionary_same, values_refused}
use Rattle.std.proofs.lemmas.Result.{err_from_is_err_and}
use Rattle.std.specs.Prelude.{pos}
use Rattle.ipc_scalar.specs.Bytes.{int64}
use Rattle.ipc_meta.specs.Reached.{dictionary_batch, id, is_delta, values, of_values}
use Rattle.ipc_meta.proofs.refused.Refused.{bad_number, bad_flag, bad_table, batch_refused}
use Rattle.ipc_meta.proofs.batches.read_dictionary_batch.Goals as goal
use Rattle.ipc_meta.proofs.Binds.{lift_ok}

pub returns-in_ok-read_batch-in-Some-clause-finds : goal.returns-in_ok-read_batch-in-Some-clause-finds
returns-in_ok-read_batch-in-Some-clause-finds c = record {
  named =
      let fits : FitsSigned w64 c.in_ok-id.id = search rules in
      lift_ok _ _ (ap map_fault (sym c.scalar_i64.ensures) ∙ sym c.in_ok-id.ensures) ∙ ap Ok (sym (to_z-of_z w64 c.in_ok-id.id fits));
  values = (
    c.in-Some.values,
    lift_ok _ _ (ap map_fault (sym c.table.ensures) ∙ (sym c.in_ok-map_fault.ensures ∙ ap Ok c.in-Some.is)),
    batch_sound _ _ c.in_ok-read_batch-in-Some.ensures,
  );
  whole = sym c.in_ok-read_flag.ensures ∙ ap Ok c.if-branch.false;
}

pub returns-in_ok-read_batch-in-Some-clause-only : goal.returns-in_ok-read_batch-in-Some-clause-only
returns-in_ok-read_batch-in-Some-clause-only c = λ id batch h.
    let same = dictionary_same _ id _ batch _ h (returns-in_ok-read_batch-in-Some-clause-finds c) in
    λ i. Ok (same.0 i, same.1 i)

pub returns-in_err-read_batch-in-Some-clause-only : goal.returns-in_err-read_batch-in-Some-clause-only
returns-in_err-read_batch-in-Some-clause-only c = λ id batch h.
    let p = err_from_is_err_and c.from_residual-in_err-read_batch-in-Some.result c.from_residual-in_err-read_batch-in-Some.ensures.1 in
    rw (p.1, p.2) (values_refused _ _ id batch _ h
    (lift_ok _ _ (ap map_fault (sym c.table.ensures) ∙ (sym c.in_ok-map_fault.ensures ∙ ap Ok c.in-Some.is)))
    c.in_err-read_batch-in-Some.ensures)

pub returns-in_err-id-clause-refused : goal.returns-in_err-id-clause-refused
returns-in_err-id-clause-refused c =
    let p = err_from_is_err_and c.from_residual.result c.from_residual.ensures.1 in
    rw (p.1, p.2) (λ limits b has ne. bad_number limits b dictionary_batch _ 0 8 int64 (pos 0) _ has id
    (ap map_fault (sym c.scalar_i64.ensures) ∙ sym c.in_err-id.ensures))

pub returns-in_err-read_flag-clause-refused : goal.returns-in_err-read_flag-clause-refused
returns-in_err-read_flag-clause-refused c =
    let p = err_from_is_err_and c.from_residual-in_err-read_flag.result c.from_residual-in_err-read_flag.ensures.1 in
    rw (p.1, p.2) (λ limits b has ne. bad_flag limits b dictionary_batch _ 2 _ has is_delta (sym c.in_err-read_flag.ensures))

pub returns-in_err-map_fault-clause-refused : goal.returns-in_err-map_fault-clause-refused
returns-in_err-map_fault-clause-refused c =
    let p = err_from_is_err_and c.from_residual-in_err-map_fault.result c.from_residual-in_err-map_fault.ensures.1 in
    rw (p.1, p.2) (λ limits b has ne. bad_table limits b dictionary_batch _ 1 _ has values (ap map_fault (sym c.table.ensures)
    ∙ sym c.in_err-map_fault.ensures))

pub returns-in_err-read_batch-in-Some-clause-refused : goal.returns-in_err-read_batch-in-Some-clause-refused
returns-in_err-read_batch-in-Some-clause-refused c =
    let p = err_from_is_err_and c.from_residual-in_err-read_batch-in-Some.result c.from_residual-in_err-read_batch-in-Some.ensures.1 in
    let inner = lift_ok _ _ (ap map_fault (sym c.table.ensures) ∙ (sym c.in_ok-map_fault.ensures ∙ ap Ok c.in-Some.is)) in
    rw (p.1, p.2) (λ limits b has ne. batch_refused limits b _ _ (of_values has inner) (c.in_err-read_batch-in-Some.ensures ne))
