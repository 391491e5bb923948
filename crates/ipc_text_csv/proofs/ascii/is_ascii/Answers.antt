use Rattle.std.proofs.Common.{take, drop, subst}
use Rattle.std.specs.Str.{IsAscii}
use Rattle.std.proofs.lemmas.Bool.{and_parts}
use Rattle.std.proofs.lemmas.List.{take-append-drop}
use Rattle.std.proofs.lemmas.Str.{IsAscii-append}
use Rattle.ipc_text_csv.proofs.ascii.is_ascii.Goals as goal

pub loop-eight-preserved : goal.loop-eight-preserved
loop-eight-preserved c e h =
    let rest = c.loop-eight.rest.now in
    let both = and_parts c.loop-eight.good c.are_ascii-good.result e in
    let parts = c.in-Some.ensures.cases in
    let front = subst IsAscii parts.0 (c.are_ascii-good.ensures both.1) in
    let behind = subst IsAscii parts.1 h in
    c.loop-eight.invariant both.0
    (subst IsAscii (take-append-drop 8 rest) (IsAscii-append (take 8 rest) (drop 8 rest) front behind))
