use Rattle.std.proofs.Common.{ap, get_or, length, arith, List, ℕ}
use Rattle.std.proofs.lemmas.List.{get_or-map}
use Rattle.ipc_dict.specs.declared.entry.TallyEntry.{TallyEntry}
use Rattle.ipc_dict.proofs.tally.have_new_values.Goals as goal

pub returns-then-len-marks-clause-some : goal.returns-then-len-marks-clause-some
returns-then-len-marks-clause-some c = λ is same.
    let i = c.loop-i.i in
    let e = c.index-entries-i.result in
    let here = get_or-map (λ (x : TallyEntry). length x.values) c.args.entries.now i e 0 c.loop-i-test.true in
    let marked = ap (λ (ns : List ℕ). get_or ns i 0) same in
    let long = ap (λ (x : TallyEntry). length x.values) c.index-entries-i.is in
    c.if-len-marks.true (omega (arith, c.len.ensures, here, marked, long))
