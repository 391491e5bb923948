use Rattle.std.proofs.Common.{◌∙◌, ap, subst, Err, None, Ok, Some}
use Rattle.std.specs.Prelude.{IfSome}
use Rattle.std.proofs.lemmas.Result.{err_from_is_err_and}
use Rattle.ipc_stream_read.specs.declared.event.Event.TheVariants as report
use Rattle.ipc_stream_read.specs.Decoding.{HasColumns}
use Rattle.ipc_stream_read.specs.Held.{as_fault}
use Rattle.ipc_stream_read.proofs.Nexts.{next_columns, no_second, pulls_at}
use Rattle.ipc_stream_read.proofs.Readers.{ready_stopped, seen_answers, seen_held, wants_some}
use Rattle.ipc_stream_read.proofs.reader.StreamReader.next_within.Goals as goal
use Rattle.ipc_stream_read.proofs.reader.StreamReader.next_within.Goals.{in-Some-Batch, in-Some-End, in-None-2}

pub invariant_of-self-inside : goal.invariant_of-self-inside
invariant_of-self-inside g c =
    let r = ready_stopped (g.R.Source.remaining c.self.inside.source) (g.R.Source.remaining c.pull_within.new.source)
    (g.R.Source.failures c.self.inside.source) (g.R.Source.failures c.pull_within.new.source) c.self.inside.taken c.pull_within.new.taken
    c.self.inside.decoder c.pull_within.new.decoder c.self.inside.open c.pull_within.result c.pull_within.ensures.pulled.0
    c.pull_within.ensures.failures in
    (r.is_open, (r.between, (r.works, (r.counted, (r.taken_counted, tt)))))

pub returns-in_err-pull_within-clause-next : goal.returns-in_err-pull_within-clause-next
returns-in_err-pull_within-clause-next g c =
    let next = seen_answers c.args.most_held (g.R.Source.remaining c.self.inside.source)
    (g.R.Source.remaining c.pull_within.new.source) (g.R.Source.failures c.self.inside.source)
    (g.R.Source.failures c.pull_within.new.source) (g.R.Source.bound c.self.inside.source) (g.R.Source.bound c.pull_within.new.source)
    c.self.inside.taken c.pull_within.new.taken c.self.inside.decoder c.pull_within.new.decoder c.self.inside.open
    (wants_some _ _ _ c.wants.ensures c.if-wants-eq0.false) c.pull_within.ensures.limits c.args.self.now c.self.view_is
    c.pull_within.result in
    let p = err_from_is_err_and c.from_residual.result c.from_residual.ensures.1 in
    rw (p.1, p.2) (next (Err c.in_err-pull_within.field-0.0) c.in_err-pull_within.was c.pull_within.ensures.pulled)

pub returns-in_err-pull_within-clause-held : goal.returns-in_err-pull_within-clause-held
returns-in_err-pull_within-clause-held g c = λ limits start h.
    let held = seen_held c.args.most_held (g.R.Source.remaining c.self.inside.source)
    (g.R.Source.remaining c.pull_within.new.source) (g.R.Source.failures c.self.inside.source)
    (g.R.Source.failures c.pull_within.new.source) (g.R.Source.bound c.self.inside.source) (g.R.Source.bound c.pull_within.new.source)
    c.self.inside.taken c.pull_within.new.taken c.self.inside.decoder c.pull_within.new.decoder c.self.inside.open
    limits start c.args.self.now c.self.view_is c.pull_within.ensures.limits c.pull_within.result in
    let p = err_from_is_err_and c.from_residual.result c.from_residual.ensures.1 in
    rw (p.1, p.2) (held (Err c.in_err-pull_within.field-0.0) c.in_err-pull_within.was c.pull_within.ensures.pulled h)

pub unreachable-requires : goal.unreachable-requires
unreachable-requires g c =
    let p = pulls_at _ _ _ _ _ _ _ (Ok (Some report.Schema))
    (ap as_fault (c.in_ok-pull_within.was ∙ ap Ok (c.in-Some-Schema.is ∙ ap Some c.in-Some-Schema.field-0-is)))
    c.pull_within.ensures.pulled.0 in
    no_second _ _ _ c.self.inside.open p.gives

pub returns-clause-next : goal.returns-clause-next
returns-clause-next g c =
    let next = seen_answers c.args.most_held (g.R.Source.remaining c.self.inside.source)
    (g.R.Source.remaining c.pull_within.new.source) (g.R.Source.failures c.self.inside.source)
    (g.R.Source.failures c.pull_within.new.source) (g.R.Source.bound c.self.inside.source) (g.R.Source.bound c.pull_within.new.source)
    c.self.inside.taken c.pull_within.new.taken c.self.inside.decoder c.pull_within.new.decoder c.self.inside.open
    (wants_some _ _ _ c.wants.ensures c.if-wants-eq0.false) c.pull_within.ensures.limits c.args.self.now c.self.view_is
    c.pull_within.result in
    elim c.match-branch-2.branch [
      | in-Some-Batch w ↦
          rw w.result-is (next (Ok (Some (report.Batch w.in-Some-Batch.batch w.in-Some-Batch.pairs)))
          (c.in_ok-pull_within.was ∙ ap Ok (w.in-Some-Batch.is ∙ ap Some w.in-Some-Batch.field-0-is)) c.pull_within.ensures.pulled)
      | in-Some-End w ↦
          rw w.result-is (next (Ok (Some report.End))
          (c.in_ok-pull_within.was ∙ ap Ok (w.in-Some-End.is ∙ ap Some w.in-Some-End.field-0-is)) c.pull_within.ensures.pulled)
      | in-None-2 w ↦
          rw w.result-is (next (Ok None) (c.in_ok-pull_within.was ∙ ap Ok w.in-None-2.is) c.pull_within.ensures.pulled)
    ]

pub returns-clause-held : goal.returns-clause-held
returns-clause-held g c = λ limits start h.
    let held = seen_held c.args.most_held (g.R.Source.remaining c.self.inside.source)
    (g.R.Source.remaining c.pull_within.new.source) (g.R.Source.failures c.self.inside.source)
    (g.R.Source.failures c.pull_within.new.source) (g.R.Source.bound c.self.inside.source) (g.R.Source.bound c.pull_within.new.source)
    c.self.inside.taken c.pull_within.new.taken c.self.inside.decoder c.pull_within.new.decoder c.self.inside.open
    limits start c.args.self.now c.self.view_is c.pull_within.ensures.limits c.pull_within.result in
    elim c.match-branch-2.branch [
      | in-Some-Batch w ↦
          rw w.result-is (held (Ok (Some (report.Batch w.in-Some-Batch.batch w.in-Some-Batch.pairs)))
          (c.in_ok-pull_within.was ∙ ap Ok (w.in-Some-Batch.is ∙ ap Some w.in-Some-Batch.field-0-is)) c.pull_within.ensures.pulled h)
      | in-Some-End w ↦
          rw w.result-is (held (Ok (Some report.End))
          (c.in_ok-pull_within.was ∙ ap Ok (w.in-Some-End.is ∙ ap Some w.in-Some-End.field-0-is)) c.pull_within.ensures.pulled h)
      | in-None-2 w ↦
          rw w.result-is (held (Ok None) (c.in_ok-pull_within.was ∙ ap Ok w.in-None-2.is) c.pull_within.ensures.pulled h)
    ]

pub returns-clause-columns : goal.returns-clause-columns
returns-clause-columns g c = elim c.match-branch-2.branch [
  | in-Some-Batch w ↦
      let is = w.in-Some-Batch.is ∙ ap Some w.in-Some-Batch.field-0-is in
      let p = pulls_at _ _ _ _ _ _ _ (Ok (Some (report.Batch w.in-Some-Batch.batch w.in-Some-Batch.pairs)))
      (ap as_fault (c.in_ok-pull_within.was ∙ ap Ok is)) c.pull_within.ensures.pulled.0 in
      rw (w.result-is, ← c.self.view_is) (next_columns c.self.inside.decoder c.pull_within.new.decoder p.x w.in-Some-Batch.batch
      w.in-Some-Batch.pairs c.self.inside.open p.gives
      (subst (λ f. IfSome f (HasColumns c.pull_within.new.decoder.state)) is c.in_ok-pull_within.ensures.columns))
  | in-Some-End w ↦ rw w.result-is tt
  | in-None-2 w ↦ rw w.result-is tt
]
