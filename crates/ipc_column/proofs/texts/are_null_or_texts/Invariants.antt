use Rattle.std.proofs.Common.{◌≡◌, ◌+◌, ◌-◌, true}
use Rattle.ipc_column.specs.checks.Checks.{all_slots, text_good}
use Rattle.ipc_column.proofs.texts.are_null_or_texts.Given as goal

abbrev pub invariant-loop-slot : goal.invariant-loop-slot
invariant-loop-slot l = record {
  visited : l.tests ≡ l.fn.tests + (l.slot - l.from);
  good : all_slots (text_good l.validity l.offsets l.values) l.from (l.slot - l.from) ≡ true;
}
