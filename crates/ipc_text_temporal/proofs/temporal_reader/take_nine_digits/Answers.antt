use Rattle.std.proofs.Common.{◌/◌, ◌%◌, ◌++◌, arith}
use Rattle.ipc_text_temporal.specs.Temporals.{three_digits}
use Rattle.ipc_text_temporal.proofs.Taken.{taken, both}
use Rattle.ipc_text_temporal.proofs.temporal_reader.take_nine_digits.Goals as goal

pub returns-clause-all : goal.returns-clause-all
returns-clause-all c n rest lt e =
    let last = three_digits (n % 1_000) ++ rest in
    let a = taken (c.in_ok-millions.ensures.all (n / 1_000_000) (three_digits (n / 1_000 % 1_000) ++ last) (omega arith) e) in
    let b = taken (c.in_ok-thousands.ensures.all (n / 1_000 % 1_000) last (omega arith) a.1) in
    let d = taken (c.in_ok-ones.ensures.all (n % 1_000) rest (omega arith) b.1) in
    let p = a.0 in let q = b.0 in let r = d.0 in
    both (omega arith) d.1
