use Rattle.std.proofs.Common.{rules, ◌∙◌, ap, [], ◌∷◌, ◌++◌, length-append, arith}
use Rattle.ipc_model.specs.declared.limits.Limits.{Limits}
use Rattle.ipc_encode.specs.Numbers.{known_indices}
use Rattle.ipc_encode.proofs.Held.{shared_within, still_stored, stored_held}
use Rattle.ipc_encode.proofs.builder.Builder.push.Goals as goal

pub returns-in-Ok-clause-pushed : goal.returns-in-Ok-clause-pushed
returns-in-Ok-clause-pushed g c = λ limits fields rows before.
    let known = known_indices (g.I.IndexOf.index c.args.indices.now) in
    let builder = c.append.new.self in
    let next = rows ++ c.args.row.now ∷ [] in
    let held = c.in-Ok.ensures.appended limits fields rows (stored_held known limits fields rows c.args.self.now before) in
    let size = length-append rows (c.args.row.now ∷ []) in
    let same = ap (λ (l : Limits). l.slots) before.limits_are in
    record {
      limits_are = held.limits_are;
      works = held.works;
      count = held.count;
      bounded = held.bounded;
      columns_are = held.columns_are;
      within = shared_within known limits builder.bounds fields next builder.nodes.items
          (omega (arith, size, before.count, c.if-self-2.false, same)) held.bounded.few held.bounded.less
          (held.bounded.shared (c.append.ensures.shared ∙ (search rules))) held.columns_are;
    }

pub returns-in-Err-clause-pushed : goal.returns-in-Err-clause-pushed
returns-in-Err-clause-pushed g c = λ limits fields rows before.
    c.push_exactly-in-Err.ensures.pushed limits fields rows (still_stored _ limits fields rows _ before.within
    (c.in-Err.ensures.kept limits fields rows (stored_held _ limits fields rows c.args.self.now before) (search rules)))

pub returns-in-Err-clause-refused : goal.returns-in-Err-clause-refused
returns-in-Err-clause-refused g c = λ limits fields rows before.
    c.push_exactly-in-Err.ensures.refused limits fields rows (still_stored _ limits fields rows _ before.within
    (c.in-Err.ensures.kept limits fields rows (stored_held _ limits fields rows c.args.self.now before) (search rules)))

pub returns-in-Err-clause-kept : goal.returns-in-Err-clause-kept
returns-in-Err-clause-kept g c = λ limits fields rows before.
    c.push_exactly-in-Err.ensures.kept limits fields rows (still_stored _ limits fields rows _ before.within
    (c.in-Err.ensures.kept limits fields rows (stored_held _ limits fields rows c.args.self.now before) (search rules)))
