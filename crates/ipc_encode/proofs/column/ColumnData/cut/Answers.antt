use Rattle.std.proofs.Common.{◌≡◌, ◌∙◌, refl, sym, ap, ℕ, ◌*◌, ◌++◌, length}
use Rattle.ipc_model.specs.Layouts.{number_bytes}
use Rattle.ipc_encode.specs.Bitmaps.{bitmap}
use Rattle.ipc_encode.specs.Cells.{flags, slots}
use Rattle.ipc_encode.specs.Pieces.{Fixed, Number, True}
use Rattle.ipc_encode.proofs.Bits.{flags_append, flags_length}
use Rattle.ipc_encode.proofs.FirstSlots.{contents_cut, list_ends_cut, slots_cut}
use Rattle.ipc_encode.proofs.ReadbackParts.{fixed_wide, numbers_wide}
use Rattle.ipc_encode.proofs.Reading.{parts_length}
use Rattle.ipc_encode.proofs.Sizes.{items_data}
use Rattle.ipc_encode.proofs.Steps.{all_fixed_length}
use Rattle.ipc_encode.proofs.column.ColumnData.cut.Goals as goal

pub returns-in-Bits-clause-holds : goal.returns-in-Bits-clause-holds
returns-in-Bits-clause-holds c = λ known vs ws size h.
    let packed : c.in-Bits.bits.items ≡ bitmap (flags True (vs ++ ws)) = rw c.in-Bits.is at h in
    c.cut_bits.ensures.cut (flags True vs) (flags True ws) (flags_length True vs ∙ size) (packed ∙ ap bitmap (flags_append True vs ws))

pub returns-in-Numbers-clause-holds : goal.returns-in-Numbers-clause-holds
returns-in-Numbers-clause-holds c = λ known vs ws size h.
    let bits = c.in-Numbers.bits in
    let same : c.in-Numbers.values.items ≡ slots (Number bits) (vs ++ ws) = rw c.in-Numbers.is at h in
    let count : c.bytes.result * c.args.slots ≡ number_bytes bits * length vs = rw (c.bytes.ensures, size) refl in
    c.truncate.ensures.items
    ∙ slots_cut (Number bits) (number_bytes bits) vs ws c.in-Numbers.values.items _ (numbers_wide bits vs) same count

pub returns-in-FixedBytes-clause-holds : goal.returns-in-FixedBytes-clause-holds
returns-in-FixedBytes-clause-holds c = λ known vs ws size h.
    let width = c.in-FixedBytes.width in
    let same : c.in-FixedBytes.values.items ≡ slots (Fixed width) (vs ++ ws) = rw c.in-FixedBytes.is at h in
    c.truncate-in-FixedBytes.ensures.items
    ∙ slots_cut (Fixed width) width vs ws c.in-FixedBytes.values.items _ (fixed_wide width vs) same (ap (λ (n : ℕ). width * n) (sym size))

pub returns-in-VariableBytes-clause-holds : goal.returns-in-VariableBytes-clause-holds
returns-in-VariableBytes-clause-holds c = λ known vs ws size h.
    contents_cut vs ws c.in-VariableBytes.offsets.items c.in-VariableBytes.values.items c.cut_offsets-end.new.offsets.items
    c.truncate-in-VariableBytes.new.self.items c.args.slots c.cut_offsets-end.result size (rw c.in-VariableBytes.is at h)
    c.cut_offsets-end.ensures.offsets c.cut_offsets-end.ensures.last c.truncate-in-VariableBytes.ensures.items

pub returns-in-Lists-clause-holds : goal.returns-in-Lists-clause-holds
returns-in-Lists-clause-holds c = λ known vs ws size h.
    list_ends_cut vs ws c.in-Lists.offsets.items c.cut_offsets.new.offsets.items c.in-Lists.items c.args.slots c.cut_offsets.result size
    (rw c.in-Lists.is at h) c.cut_offsets.ensures.offsets c.cut_offsets.ensures.last

pub returns-in-Lists-clause-below : goal.returns-in-Lists-clause-below
returns-in-Lists-clause-below c = λ known vs ws j size h.
    let ends = list_ends_cut vs ws c.in-Lists.offsets.items c.cut_offsets.new.offsets.items c.in-Lists.items c.args.slots
    c.cut_offsets.result size (rw c.in-Lists.is at h) c.cut_offsets.ensures.offsets c.cut_offsets.ensures.last in
    rw c.in-Lists.is (ends.items_are ∙ sym (items_data vs))

pub returns-in-FixedLists-clause-below : goal.returns-in-FixedLists-clause-below
returns-in-FixedLists-clause-below c = λ known vs ws j size h.
    rw c.in-FixedLists.is
    (ap (λ (n : ℕ). c.in-FixedLists.size * n) (sym size) ∙ sym (all_fixed_length c.in-FixedLists.size vs))

pub returns-in-Structs-clause-below : goal.returns-in-Structs-clause-below
returns-in-Structs-clause-below c = λ known vs ws j size h. rw c.in-Structs.is (sym size ∙ sym (parts_length j vs))
