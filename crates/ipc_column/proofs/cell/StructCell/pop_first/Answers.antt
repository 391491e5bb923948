use Rattle.std.proofs.Common.{◌≡◌, ◌+◌, ◌∷◌, rules, arith}
use Rattle.ipc_column.proofs.lending.CellIters.{have_first, have_others}
use Rattle.ipc_column.proofs.cell.StructCell.pop_first.Goals as goal

pub cell_at-cell-requires : goal.cell_at-cell-requires
cell_at-cell-requires c =
    let s = c.self.inside in
    let e : s.parts.now ≡ c.in_ok-part.part.now ∷ c.in_ok-part.others.now = search rules in
    have_first s.body.now s.parts.now c.in_ok-part.others.now c.in_ok-part.part.now s.slot (s.slot + 1) (omega arith) e c.self.invariant

pub invariant_of-self : goal.invariant_of-self
invariant_of-self c =
    let s = c.self.inside in
    let e : s.parts.now ≡ c.in_ok-part.part.now ∷ c.in_ok-part.others.now = search rules in
    have_others s.body.now s.parts.now c.in_ok-part.others.now c.in_ok-part.part.now s.slot (s.slot + 1) e c.self.invariant
