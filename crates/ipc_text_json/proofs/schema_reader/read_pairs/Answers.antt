use Rattle.std.proofs.Common.{◌≡◌, ◌∙◌, [], ap, sym, rules, arith}
use Rattle.std.proofs.lemmas.List.{append-nil, drop_all}
use Rattle.serde_json.specs.Data.{array}
use Rattle.serde_json.specs.View.{items_view}
use Rattle.ipc_text_json.specs.SchemaJson.{pairs_json}
use Rattle.ipc_text_temporal.specs.declared.fault.TextFault.TheVariants.{OutOfMemory}
use Rattle.ipc_text_json.proofs.JsonItems.{views_from, same_items}
use Rattle.ipc_text_json.proofs.PairSteps.{pairs_more, pairs_all, pair_next, pairs_read}
use Rattle.ipc_text_json.proofs.schema_reader.read_pairs.Goals as goal

pub loop-pair-preserved : goal.loop-pair-preserved
loop-pair-preserved c =
    let i = c.loop-pair.invariant in
    let p = views_from c.in_ok-pair-items.pair-items.now c.loop-pair.pair-index c.pair-item.result (omega arith) c.pair-item.is in
    let one = c.in_ok-read_pair.ensures.all in
    let e = c.in_ok-push.ensures.items in
    record {
      read = pairs_more p (items_view c.in_ok-pair-items.pair-items.now) c.loop-pair.pairs.items c.push.new.self.items _
          c.in_ok-read_pair.ensures.read e i.read;
      all = λ pairs h. let a = i.all pairs h in
          pairs_all p c.loop-pair.pairs.items c.push.new.self.items _ one e pairs a.0 a.1 a.2;
    }

pub returns-in_err-read_pair-clause-all : goal.returns-in_err-read_pair-clause-all
returns-in_err-read_pair-clause-all c pairs e =
    let p = views_from c.in_ok-pair-items.pair-items.now c.loop-pair.pair-index c.pair-item.result (omega arith) c.pair-item.is in
    let a = c.loop-pair.invariant.all pairs (same_items (sym c.in_ok-pair-items.ensures ∙ e)) in
    let n = pair_next p a.0 a.2 in
    let f : c.in_err-read_pair.field-0.0 ≡ OutOfMemory = c.in_err-read_pair.ensures.all n.0 n.3 in
    search (rules, f)

pub returns-clause-read : goal.returns-clause-read
returns-clause-read c =
    let none = drop_all c.loop-pair.pair-index c.in_ok-pair-items.pair-items.now (omega arith) in
    c.in_ok-pair-items.ensures ∙ ap array (c.loop-pair.invariant.read [] (ap items_view none))
    ∙ ap pairs_json (append-nil c.loop-pair.pairs.items)

pub returns-clause-all : goal.returns-clause-all
returns-clause-all c pairs e =
    let none = drop_all c.loop-pair.pair-index c.in_ok-pair-items.pair-items.now (omega arith) in
    let a = c.loop-pair.invariant.all pairs (same_items (sym c.in_ok-pair-items.ensures ∙ e)) in
    pairs_read c.loop-pair.pairs.items pairs a.0 _ (ap items_view none) a.1 a.2
