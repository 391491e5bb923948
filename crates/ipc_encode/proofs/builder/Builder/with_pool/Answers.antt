use Rattle.std.proofs.Common.{refl, sym, subst, List, [], arith}
use Rattle.std.proofs.lemmas.Result.{err_from_is_err_and}
use Rattle.ipc_model.specs.declared.fault.WriteFault.{WriteFault}
use Rattle.ipc_model.specs.declared.limits.Limits.{Limits}
use Rattle.ipc_column.specs.Shapes.{shape_of}
use Rattle.ipc_encode.specs.declared.tree.Node.{Node}
use Rattle.ipc_encode.specs.Buffers.{row_columns}
use Rattle.ipc_encode.specs.Built.{HoldColumns}
use Rattle.ipc_encode.specs.Limits.{AreRowsRefused}
use Rattle.ipc_encode.proofs.Held.{built_within}
use Rattle.ipc_encode.proofs.builder.Builder.with_pool.Goals as goal

pub returns-in_err-check_len-clause-refused : goal.returns-in_err-check_len-clause-refused
returns-in_err-check_len-clause-refused c =
    let held = subst (λ (ns : List Node). HoldColumns (λ id value. 0) c.args.limits.now (shape_of c.args.fields.now) ns (row_columns []))
    (sym c.deref.ensures.value) (c.in_ok-nodes.ensures (λ id value. 0) c.args.limits.now) in
    let report = c.in_err-check_len.ensures.refused (λ id value. 0) c.args.fields.now [] held in
    let returned = err_from_is_err_and c.from_residual-in_err-check_len.result c.from_residual-in_err-check_len.ensures.1 in
    rw (returned.1, returned.2)
    (subst (λ (fault : WriteFault). AreRowsRefused c.args.limits.now c.args.fields.now [] fault) (sym report.0) report.1)

pub returns-clause-rows : goal.returns-clause-rows
returns-clause-rows c = λ known.
    let limits = c.args.limits.now in
    let fields = c.args.fields.now in
    let fresh = λ (kept : Limits). subst (λ (ns : List Node). HoldColumns known kept (shape_of fields) ns (row_columns []))
    (sym c.deref.ensures.value) (c.in_ok-nodes.ensures known kept) in
    record {
      limits_are = refl;
      works = refl;
      count = refl;
      bounded = record {
        few = c.bounds_of-is_shared.ensures.few;
        less = c.bounds_of-is_shared.ensures.less;
        shared = c.bounds_of-is_shared.ensures.shared known limits (shape_of fields)
            (subst (λ (ns : List Node). HoldColumns known limits (shape_of fields) ns (row_columns [])) (sym c.deref-2.ensures.value)
            (c.in_ok-nodes.ensures known limits));
      };
      columns_are = c.in_ok-nodes.ensures known c.bounds_of-is_shared.result.0;
      within = built_within known limits fields [] c.deref.result.now (omega arith) (fresh limits)
          (c.in_ok-check_len.ensures.within known fields [] (fresh limits));
    }
