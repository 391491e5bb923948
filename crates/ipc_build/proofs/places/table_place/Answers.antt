use Rattle.std.proofs.Common.{◌≡◌, ◌+◌, ◌*◌, ap, ◌∙◌, sym}
use Rattle.ipc_build.specs.Layout.{entry_count, prefix_place}
use Rattle.ipc_build.specs.Trees.{view, fields_view}
use Rattle.ipc_build.proofs.Nodes.{view_is}
use Rattle.ipc_build.proofs.places.table_place.Goals as goal

pub returns : goal.returns
returns c =
    let e : c.entry_count.result ≡ entry_count 0 (view c.args.tree.now) =
    c.entry_count.ensures.value ∙ (ap (λ xs. entry_count 0 (fields_view xs)) c.as_slice.ensures
    ∙ ap (entry_count 0) (sym (view_is c.args.tree.now))) in
    c.prefix_place.ensures ∙ ap (λ n. prefix_place (c.args.p + 4 + 2 * n)) e
