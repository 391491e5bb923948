use Rattle.std.proofs.Common.{sym, subst, [], List, arith}
use Rattle.std.proofs.lemmas.Result.{err_from_is_err_and}
use Rattle.ipc_model.specs.declared.schema.Field.{Field}
use Rattle.ipc_model.specs.Entries.{entries}
use Rattle.ipc_model.specs.WellFormed.{IsFieldWellFormed}
use Rattle.std.specs.List.{AllByRecursion}
use Rattle.ipc_column.specs.Rows.{Rows}
use Rattle.ipc_encode.specs.Indices.{FindsIndex}
use Rattle.ipc_encode.specs.Limits.{IsWithin}
use Rattle.ipc_dict.proofs.pairs.Covered.{covered}
use Rattle.ipc_stream.specs.Parts.{batch_head}
use Rattle.ipc_stream.proofs.HeldRows.{refused_pairs}
use Rattle.ipc_stream.proofs.pending_batch.check_pairs.Goals as goal
use Rattle.ipc_encode.proofs.Agreeing.{no_indices}

pub returns-in_err-batch_front : goal.returns-in_err-batch_front
returns-in_err-batch_front c =
    let fine = subst (λ (fields : List Field). AllByRecursion (IsFieldWellFormed c.args.limits.now) (entries fields))
    (sym c.as_slice.ensures)
    c.requires.each in
    let found = subst (λ (fields : List Field). Rows c.args.limits.now [] fields (batch_head 0 c.in_ok-parts.parts)
    c.in_ok-parts.parts.body.items [])
    c.as_slice.ensures
    (c.in_ok-parts.ensures.rows [] fine tt (covered (FindsIndex [] no_indices) c.args.limits.now c.as_slice.result.now [] fine
    (λ d v named pair. absurd (omega (arith, pair.1))))) in
    let p = err_from_is_err_and c.from_residual-in_err-batch_front.result c.from_residual-in_err-batch_front.ensures.1 in
    record {
      judged = rw (p.1, p.2) (refused_pairs c.args.limits.now c.args.schema.now c.args.pairs.now _
          (c.in_err-batch_front.ensures.judged c.args.schema.now (record { nodes = found.nodes; buffers = found.buffers })
          (omega (arith, c.len.ensures, c.in_ok-parts.parts.body.ok, c.in_ok-parts.ensures.body))));
    }

pub returns : goal.returns
returns c =
    let fine = subst (λ (fields : List Field). AllByRecursion (IsFieldWellFormed c.args.limits.now) (entries fields))
    (sym c.as_slice.ensures)
    c.requires.each in
    let found = subst (λ (fields : List Field). Rows c.args.limits.now [] fields (batch_head 0 c.in_ok-parts.parts)
    c.in_ok-parts.parts.body.items [])
    c.as_slice.ensures
    (c.in_ok-parts.ensures.rows [] fine tt (covered (FindsIndex [] no_indices) c.args.limits.now c.as_slice.result.now [] fine
    (λ d v named pair. absurd (omega (arith, pair.1))))) in
    record {
      judged = (
        c.in_ok-batch_front.ensures.judged c.args.schema.now (record { nodes = found.nodes; buffers = found.buffers })
            (omega (arith, c.len.ensures, c.in_ok-parts.parts.body.ok, c.in_ok-parts.ensures.body)),
        subst (λ (fields : List Field). IsWithin c.args.limits.now fields []) c.as_slice.ensures c.in_ok-parts.ensures.within,
      );
    }
