use Rattle.std.proofs.Common.{subst, ℤ, w64}
use Rattle.std.proofs.lemmas.Int.{to_z-of_z}
use Rattle.ipc_model.specs.declared.value.Value.TheVariants.{Int}
use Rattle.ipc_stream_session.specs.Writes.{Adds}
use Rattle.ipc_stream_session.proofs.write_session.WriteSession.add_int.Goals as goal

pub returns : goal.returns
returns c = record {
  after = c.try_add-answer.new.self;
  answer = c.try_add-answer.result;
  called = subst (λ (value : ℤ). Adds (Int value) c.args.self.now c.try_add-answer.new.self c.try_add-answer.result)
      (to_z-of_z w64 c.args.value c.ranges.value) c.try_add-answer.ensures;
  report = c.report.ensures;
}
