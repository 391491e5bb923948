use Rattle.std.proofs.Common.{◌∙◌, ◌++◌, [], refl, ap, sym, subst, length, arith}
use Rattle.std.proofs.lemmas.List.{append-nil}
use Rattle.ipc_build.specs.Trees.{view}
use Rattle.ipc_build.specs.Layout.{buffer}
use Rattle.ipc_build.specs.Encodes.{Encodes, Aligned}
use Rattle.ipc_build.specs.Ascends.{fields}
use Rattle.ipc_build.proofs.Within.{buffer_fits}
use Rattle.ipc_build.proofs.Buffers.{buffer_lies, length_buffer}
use Rattle.ipc_build.proofs.RoomSteps.{over_limit, within_limit, writable}
use Rattle.ipc_build.proofs.Faults.{not_an_error, other_fault}
use Rattle.ipc_build.proofs.builder.build.Goals as goal

pub returns-then-is_none-clause-too_large : goal.returns-then-is_none-clause-too_large
returns-then-is_none-clause-too_large c =
    let o = over_limit _ _ _ c.room.result c.room.ensures c.if-is_none.ensures in
    (λ _. o, λ _. refl)

pub write_buffer-requires-clause-writable : goal.write_buffer-requires-clause-writable
write_buffer-requires-clause-writable c =
    let o = within_limit _ _ _ c.room.result c.room.ensures c.if-is_none.ensures in
    writable (view c.args.tree.now) (fields 0) o.1 c.requires.ascends

pub write_buffer-requires-clause-small : goal.write_buffer-requires-clause-small
write_buffer-requires-clause-small c =
    let o = within_limit _ _ _ c.room.result c.room.ensures c.if-is_none.ensures in
    let f = buffer_fits (view c.args.tree.now) (writable (view c.args.tree.now) (fields 0) o.1 c.requires.ascends) in
    omega (arith, o.0, f, c.requires.limit)

pub returns-in-Ok-clause-lies : goal.returns-in-Ok-clause-lies
returns-in-Ok-clause-lies c rest =
    let o = within_limit _ _ _ c.room.result c.room.ensures c.if-is_none.ensures in
    let p = writable (view c.args.tree.now) (fields 0) o.1 c.requires.ascends in
    let f = buffer_fits (view c.args.tree.now) p in
    let e = c.in-Ok.ensures ∙ ap (λ l. l ++ buffer (view c.args.tree.now)) c.new-out.ensures.items in
    subst (λ l. Encodes (l ++ rest) (view c.args.tree.now)) (sym e)
    (buffer_lies (view c.args.tree.now) rest p (omega (arith, o.0, f, c.requires.limit))).0

pub returns-in-Ok-clause-aligned : goal.returns-in-Ok-clause-aligned
returns-in-Ok-clause-aligned c =
    let o = within_limit _ _ _ c.room.result c.room.ensures c.if-is_none.ensures in
    let p = writable (view c.args.tree.now) (fields 0) o.1 c.requires.ascends in
    let f = buffer_fits (view c.args.tree.now) p in
    let e = c.in-Ok.ensures ∙ (ap (λ l. l ++ buffer (view c.args.tree.now)) c.new-out.ensures.items
    ∙ sym (append-nil (buffer (view c.args.tree.now)))) in
    subst (λ l. Aligned l (view c.args.tree.now)) (sym e)
    (buffer_lies (view c.args.tree.now) [] p (omega (arith, o.0, f, c.requires.limit))).1

pub returns-in-Ok-clause-size : goal.returns-in-Ok-clause-size
returns-in-Ok-clause-size c =
    let o = within_limit _ _ _ c.room.result c.room.ensures c.if-is_none.ensures in
    let p = writable (view c.args.tree.now) (fields 0) o.1 c.requires.ascends in
    ap length (c.in-Ok.ensures ∙ ap (λ l. l ++ buffer (view c.args.tree.now)) c.new-out.ensures.items)
    ∙ length_buffer (view c.args.tree.now) p

pub returns-in-Ok-clause-room : goal.returns-in-Ok-clause-room
returns-in-Ok-clause-room c =
    let o = within_limit _ _ _ c.room.result c.room.ensures c.if-is_none.ensures in
    let p = writable (view c.args.tree.now) (fields 0) o.1 c.requires.ascends in
    let f = buffer_fits (view c.args.tree.now) p in
    let e = ap length (c.in-Ok.ensures ∙ ap (λ l. l ++ buffer (view c.args.tree.now)) c.new-out.ensures.items) in
    let l = length_buffer (view c.args.tree.now) p in
    omega (arith, e, l, f)

pub returns-in-Ok-clause-too_large : goal.returns-in-Ok-clause-too_large
returns-in-Ok-clause-too_large c =
    let o = within_limit _ _ _ c.room.result c.room.ensures c.if-is_none.ensures in
    (λ e. absurd (not_an_error e), λ h. absurd (omega (arith, o.0, h)))

pub returns-in-Err-clause-too_large : goal.returns-in-Err-clause-too_large
returns-in-Err-clause-too_large c =
    let o = within_limit _ _ _ c.room.result c.room.ensures c.if-is_none.ensures in
    (λ e. absurd (other_fault refl refl e), λ h. absurd (omega (arith, o.0, h)))
