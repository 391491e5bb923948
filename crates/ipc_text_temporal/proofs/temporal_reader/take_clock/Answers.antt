use Rattle.std.proofs.Common.{◌/◌, ◌%◌, ◌∷◌, ◌++◌, arith}
use Rattle.ipc_text_temporal.specs.Calendar.{two_digits}
use Rattle.ipc_text_temporal.proofs.Taken.{taken, left, both}
use Rattle.ipc_text_temporal.proofs.temporal_reader.take_clock.Goals as goal

pub returns-clause-all : goal.returns-clause-all
returns-clause-all c n rest lt e =
    let behind_minutes = 58 ∷ two_digits (n % 60) ++ rest in
    let behind_hours = 58 ∷ two_digits (n / 60 % 60) ++ behind_minutes in
    let h = taken (c.in_ok-hours.ensures.all (n / 3600) behind_hours (omega arith) e) in
    let g = left (c.in_ok-after_first_byte.ensures 58 (two_digits (n / 60 % 60) ++ behind_minutes) h.1) in
    let m = taken (c.in_ok-minutes.ensures.all (n / 60 % 60) behind_minutes (omega arith) g) in
    let f = left (c.in_ok-after_first_byte-2.ensures 58 (two_digits (n % 60) ++ rest) m.1) in
    let s = taken (c.in_ok-seconds.ensures.all (n % 60) rest (omega arith) f) in
    let a = h.0 in let b = m.0 in let d = s.0 in
    both (omega (arith, c.from.ensures)) s.1
