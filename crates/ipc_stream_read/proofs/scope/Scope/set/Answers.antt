use Rattle.std.proofs.Common.{◌≡◌, subst, w64}
use Rattle.std.specs.Prelude.{OnOk}
use Rattle.std.proofs.lemmas.Int.{to_z-of_z}
use Rattle.ipc_dict_read.specs.InForce.{put}
use Rattle.ipc_stream_read.specs.StreamStates.{GivesValues}
use Rattle.ipc_stream_read.specs.Scopes.{in_scope}
use Rattle.ipc_stream_read.proofs.Scoped.{sets_values}
use Rattle.ipc_stream_read.proofs.scope.Scope.set.Goals as goal

pub returns-clause-sets : goal.returns-clause-sets
returns-clause-sets c =
    let same = to_z-of_z w64 c.args.id c.ranges.id in
    sets_values c.args.self.now.limits c.args.self.now.schema c.args.self.now.dictionaries c.apply.new.self c.args.id c.args.head
    c.args.body.items c.in_ok-values.values c.apply.result
    (subst (λ k. GivesValues c.args.self.now.limits (in_scope c.args.self.now) k c.args.head c.args.body.items c.in_ok-values.values) same
    c.in_ok-values.ensures.values)
    (subst (λ k. OnOk c.apply.result (c.apply.new.self ≡ record {
      columns = c.args.self.now.dictionaries.columns;
      current = put c.args.self.now.dictionaries.current k c.in_ok-values.values;
    })) same c.apply.ensures.after)
    c.apply.ensures.err c.apply.ensures.memory
