use Rattle.std.proofs.Common.{subst, ℤ, w64, to_z, of_z}
use Rattle.std.proofs.lemmas.Int.{to_z-of_z}
use Rattle.ipc_stream_session.specs.Writes.{GivesDictionary}
use Rattle.ipc_stream_session.proofs.write_session.WriteSession.give_dictionary.Goals as goal

pub returns : goal.returns
returns c = record {
  after = c.try_give_dictionary-answer.new.self;
  answer = c.try_give_dictionary-answer.result;
  called = subst (λ (rows : ℤ). GivesDictionary c.args.id rows c.args.nodes.now c.args.buffers.now c.args.body.now c.args.self.now
      c.try_give_dictionary-answer.new.self c.try_give_dictionary-answer.result)
      (to_z-of_z w64 c.args.rows c.ranges.rows)
      (subst (λ (id : ℤ). GivesDictionary id (to_z w64 (of_z w64 c.args.rows)) c.args.nodes.now c.args.buffers.now c.args.body.now
      c.args.self.now c.try_give_dictionary-answer.new.self c.try_give_dictionary-answer.result)
      (to_z-of_z w64 c.args.id c.ranges.id) c.try_give_dictionary-answer.ensures);
  report = c.report.ensures;
}
