use Rattle.std.proofs.Common.{◌∙◌, sym}
use Rattle.std.proofs.lemmas.Result.{err_from_is_err_and}
use Rattle.ipc_stream.specs.Dictionaries.{SendsBatch}
use Rattle.ipc_stream.specs.PendingBatches.{with_rows}
use Rattle.ipc_stream.proofs.SentBytes.{all_sent, not_all_sent}
use Rattle.ipc_stream.proofs.open_stream.OpenStream.send_columns.Goals as goal

pub returns-in_err-send_messages-clause-sends : goal.returns-in_err-send_messages-clause-sends
returns-in_err-send_messages-clause-sends g c = rw (← c.self.view_is) (
    let IsWhole = SendsBatch c.self.inside.limits c.self.inside.schema c.self.inside.kept
    (with_rows c.args.pairs.now c.args.batch.now.rows) in
    let p = err_from_is_err_and c.from_residual-in_err-send_messages.result c.from_residual-in_err-send_messages.ensures.1 in
    rw (p.1, p.2) (not_all_sent IsWhole (g.W.Sink.written c.args.sink.now) (g.W.Sink.written c.send_messages.new.sink)
    (g.W.Sink.failures c.args.sink.now) (g.W.Sink.failures c.send_messages.new.sink) _ c.in_err-send_messages.field-0.0
    c.in_ok-messages.ensures.messages c.in_err-send_messages.ensures.sends))

pub returns-clause-sends : goal.returns-clause-sends
returns-clause-sends g c = rw (← c.self.view_is) (
    let IsWhole = SendsBatch c.self.inside.limits c.self.inside.schema c.self.inside.kept
    (with_rows c.args.pairs.now c.args.batch.now.rows) in
    all_sent IsWhole _ _ _ _ _ c.in_ok-messages.ensures.messages c.in_ok-send_messages.ensures.sends)

pub returns-clause-counted : goal.returns-clause-counted
returns-clause-counted g c =
    let ids = c.self.invariant.ids ∙ sym c.in_ok-messages.ensures.ids in
    c.commit.ensures.counted c.self.inside.schema.fields ids c.in_ok-messages.ensures.addressed c.self.invariant.counted

pub invariant_of-self-2 : goal.invariant_of-self-2
invariant_of-self-2 g c =
    let ids = c.self.invariant.ids ∙ sym c.in_ok-messages.ensures.ids in
    record {
      well_formed = c.self.invariant.well_formed;
      columns_are = c.self.invariant.columns_are;
      ids = c.commit.ensures.ids ∙ c.self.invariant.ids;
      counted = c.commit.ensures.counted c.self.inside.schema.fields ids c.in_ok-messages.ensures.addressed c.self.invariant.counted;
    }
