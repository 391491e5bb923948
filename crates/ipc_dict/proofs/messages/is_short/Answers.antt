use Rattle.std.proofs.Common.{◌≡◌, ◌∙◌, sym, ap, subst, Some, List, get_or, arith, rules, w64, to_z, of_z}
use Rattle.std.proofs.lemmas.Bool.{leb-true, leb-false}
use Rattle.std.proofs.lemmas.Option.{same_Some}
use Rattle.ipc_model.specs.declared.schema.Field.{Field}
use Rattle.ipc_model.specs.Layouts.{own_buffers}
use Rattle.ipc_meta.specs.Rooms.{dictionary_room}
use Rattle.ipc_dict_read.specs.ValuesColumns.{IsOneColumn, columns_for}
use Rattle.ipc_dict.specs.Within.{dictionary_room_of}
use Rattle.ipc_dict.proofs.ShortMessages.{first_room}
use Rattle.ipc_dict.proofs.messages.is_short.Goals as goal

-- the room that is compared is that of the dictionary's message
room : (c : goal.After-dictionary_room) (fields : List Field) → columns_for c.args.columns.now.columns c.args.entry.now.id ≡ Some fields
    → c.dictionary_room.result ≡ dictionary_room_of fields
room c fields named =
    let id = c.args.entry.now.id in
    let f = c.in-Some-first.column.now in
    let back : to_z w64 (of_z w64 id) ≡ id = search rules in
    let found = same_Some _ _ (c.in-Some.ensures ∙ ap (columns_for c.args.columns.now.columns) back ∙ named) in
    let is = c.in-Some-first.ensures.item.1 ∙ ap (λ (cs : List Field). get_or cs 0 f) (c.as_slice.ensures ∙ found) in
    let own = c.own_buffers.ensures ∙ ap own_buffers c.layout_of-layout.ensures in
    let one = subst IsOneColumn (same_Some _ _ (sym c.requires.1.0 ∙ named)) c.requires.1.1 in
    c.dictionary_room.ensures ∙ ap (dictionary_room 1) own ∙ sym (first_room fields f one is)

pub returns-clause-short : goal.returns-clause-short
returns-clause-short c = λ fields named yes. omega (arith, room c fields named, leb-true _ _ yes)

pub returns-clause-long : goal.returns-clause-long
returns-clause-long c = λ fields named no. omega (arith, room c fields named, leb-false _ _ no)
