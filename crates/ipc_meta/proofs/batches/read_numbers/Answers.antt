use Rattle.std.proofs.Common.{◌≡◌, ◌∙◌, sym, ap, arith}
use Rattle.std.proofs.lemmas.List.{append-nil}
use Rattle.std.specs.Prelude.{Ok}
use Rattle.ipc_meta.specs.FlatFaults.{map_fault}
use Rattle.ipc_meta.proofs.Numbers.{pairs_next, pairs_done, numbers_are, structs_width}
use Rattle.ipc_meta.proofs.batches.read_numbers.Goals as goal

pub number_pair-requires : goal.number_pair-requires
number_pair-requires c =
    c.at.ensures.len ∙ structs_width 16 _ _ _ (ap map_fault (sym c.structs.ensures) ∙ (sym c.in_ok-structs.ensures ∙ ap Ok c.in-Some.is))

pub loop-i-preserved : goal.loop-i-preserved
loop-i-preserved c = record {
  range = c.loop-i.invariant.range;
  read =
      let wide : c.in-Some.structs.width ≡ 16 =
      structs_width 16 _ _ _ (ap map_fault (sym c.structs.ensures) ∙ (sym c.in_ok-structs.ensures ∙ ap Ok c.in-Some.is)) in
      rw (c.in_ok-push.ensures.items, c.number_pair.ensures)
      (pairs_next c.in-Some.structs.bytes c.at.result.now c.in-Some.structs.at c.loop-i.i c.in-Some.structs.len c.in-Some.structs.width
      c.loop-i.numbers.items (omega arith) wide c.at.ensures.bytes
      ∙ c.loop-i.invariant.read);
}

pub returns : goal.returns
returns c =
    let all = sym c.loop-i.invariant.read ∙ (pairs_done c.in-Some.structs.bytes c.in-Some.structs.at c.loop-i.i c.in-Some.structs.len
    c.loop-i.numbers.items (omega arith) ∙ append-nil c.loop-i.numbers.items) in
    rw c.from_vec.ensures (numbers_are _ _ _ (ap map_fault (sym c.structs.ensures) ∙ (sym c.in_ok-structs.ensures ∙ ap Ok c.in-Some.is))
    ∙ ap Ok all)
