use Rattle.std.proofs.Common.{◌≡◌, ◌∙◌, sym, ap, subst, List}
use Rattle.std.proofs.lemmas.Result.{err_from_is_err_and}
use Rattle.ipc_model.specs.declared.schema.Field.{Field}
use Rattle.ipc_dict.specs.declared.entry.TallyEntry.{TallyEntry}
use Rattle.ipc_dict.specs.SchemaIds.{ids_of}
use Rattle.ipc_dict.specs.Sending.{AreAddressed}
use Rattle.ipc_stream.specs.Dictionaries.{SendsBatch}
use Rattle.ipc_stream.specs.OpenStreams.{OpenStreamState}
use Rattle.ipc_stream.proofs.SentBytes.{all_sent, not_all_sent}
use Rattle.ipc_stream.proofs.open_stream.OpenStream.send_rows.Goals as goal

pub returns-in_err-send_messages-clause-sends : goal.returns-in_err-send_messages-clause-sends
returns-in_err-send_messages-clause-sends g c = rw (← c.self.view_is) (λ b h.
    let IsWhole = SendsBatch c.self.inside.limits c.self.inside.schema c.self.inside.kept b in
    let p = err_from_is_err_and c.from_residual-in_err-send_messages.result c.from_residual-in_err-send_messages.ensures.1 in
    rw (p.1, p.2) (not_all_sent IsWhole (g.W.Sink.written c.args.sink.now) (g.W.Sink.written c.send_messages.new.sink)
    (g.W.Sink.failures c.args.sink.now) (g.W.Sink.failures c.send_messages.new.sink) _ c.in_err-send_messages.field-0.0
    (c.in_ok-messages.ensures.messages c.self.inside.schema b c.self.invariant h) c.in_err-send_messages.ensures.sends))

pub returns-clause-sends : goal.returns-clause-sends
returns-clause-sends g c = rw (← c.self.view_is) (λ b h.
    let IsWhole = SendsBatch c.self.inside.limits c.self.inside.schema c.self.inside.kept b in
    all_sent IsWhole _ _ _ _ _ (c.in_ok-messages.ensures.messages c.self.inside.schema b c.self.invariant h)
    c.in_ok-send_messages.ensures.sends)

-- index types of the same fields can address the same values
addressed_in : (fields others : List Field) (es : List TallyEntry) → fields ≡ others → AreAddressed fields es → AreAddressed others es
addressed_in fields others es same h = subst (λ (fs : List Field). AreAddressed fs es) same h

pub returns-clause-counted : goal.returns-clause-counted
returns-clause-counted g c =
    let fields = c.requires.1 ∙ sym (ap (λ (o : OpenStreamState). o.schema.fields) c.self.view_is) in
    let ids = c.self.invariant.ids ∙ sym (c.in_ok-messages.ensures.ids ∙ ap ids_of fields) in
    c.commit.ensures.counted c.self.inside.schema.fields ids (addressed_in _ _ _ fields c.in_ok-messages.ensures.addressed)
    c.self.invariant.counted

pub invariant_of-self : goal.invariant_of-self
invariant_of-self g c =
    let fields = c.requires.1 ∙ sym (ap (λ (o : OpenStreamState). o.schema.fields) c.self.view_is) in
    let ids = c.self.invariant.ids ∙ sym (c.in_ok-messages.ensures.ids ∙ ap ids_of fields) in
    record {
      well_formed = c.self.invariant.well_formed;
      columns_are = c.self.invariant.columns_are;
      ids = c.commit.ensures.ids ∙ c.self.invariant.ids;
      counted = c.commit.ensures.counted c.self.inside.schema.fields ids (addressed_in _ _ _ fields c.in_ok-messages.ensures.addressed)
          c.self.invariant.counted;
    }
