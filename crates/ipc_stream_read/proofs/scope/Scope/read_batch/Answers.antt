use Rattle.std.proofs.Common.{subst}
use Rattle.std.specs.Prelude.{IfErr, IfOk}
use Rattle.ipc_column.specs.DictionaryBatches.{dictionaries_in}
use Rattle.ipc_column.specs.Rows.{RefusesParts, Rows}
use Rattle.ipc_stream_read.proofs.Dictionaries.{shown_values}
use Rattle.ipc_stream_read.proofs.Scoped.{answers_checked}
use Rattle.ipc_stream_read.proofs.scope.Scope.read_batch.Goals as goal

pub returns-clause-rows : goal.returns-clause-rows
returns-clause-rows c =
    subst (λ m. IfOk c.check.result
    (λ batch. Rows c.args.self.now.limits m c.args.self.now.schema.fields c.args.head c.args.body.items batch.rows))
    (shown_values c.current.result.now c.args.self.now.dictionaries.current c.current.ensures.current)
    (subst (λ fs. IfOk c.check.result
    (λ batch. Rows c.args.self.now.limits (dictionaries_in c.current.result.now) fs c.args.head c.args.body.items batch.rows))
    c.as_slice.ensures c.check.ensures.rows)

pub returns-clause-refused : goal.returns-clause-refused
returns-clause-refused c =
    subst (λ m. IfErr c.check.result
    (λ fault. RefusesParts c.args.self.now.limits fault m c.args.self.now.schema.fields c.args.head c.args.body.items))
    (shown_values c.current.result.now c.args.self.now.dictionaries.current c.current.ensures.current)
    (subst (λ fs. IfErr c.check.result
    (λ fault. RefusesParts c.args.self.now.limits fault (dictionaries_in c.current.result.now) fs c.args.head c.args.body.items))
    c.as_slice.ensures c.check.ensures.refused)

pub returns-clause-checked : goal.returns-clause-checked
returns-clause-checked c =
    answers_checked c.check.result _ _ c.as_slice.result.now _ c.args.head c.args.body.items
    (shown_values c.current.result.now c.args.self.now.dictionaries.current c.current.ensures.current)
    c.as_slice.ensures c.check.ensures.layouts c.check.ensures.buffers c.check.ensures.bytes c.check.ensures.body
    c.check.ensures.visits c.check.ensures.tests
