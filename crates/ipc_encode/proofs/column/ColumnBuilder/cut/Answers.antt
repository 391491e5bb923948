use Rattle.std.proofs.Common.{◌≡◌, ◌∙◌, sym, ap, ◌++◌, List, length, length-append, arith}
use Rattle.ipc_model.specs.declared.layout.Layout.{Layout}
use Rattle.ipc_encode.specs.Buffers.{child_values}
use Rattle.ipc_model.specs.declared.layout.Layout.TheVariants as l
use Rattle.ipc_model.specs.declared.limits.Limits.{Limits}
use Rattle.ipc_model.specs.declared.value.Value.{Value}
use Rattle.ipc_encode.specs.Built.{AreBytesWithin}
use Rattle.ipc_encode.specs.Columns.{data_in}
use Rattle.ipc_encode.proofs.Steps.{data_append}
use Rattle.ipc_encode.proofs.column.ColumnBuilder.cut.Goals as goal

-- the first values have no more bytes than all
fewer_bytes : (limits : Limits) (layout : Layout) (vs ws : List Value) → AreBytesWithin limits layout (data_in layout (vs ++ ws))
    → AreBytesWithin limits layout (data_in layout vs)
fewer_bytes limits (l.FixedBytes width) vs ws h = let all = data_append (l.FixedBytes width) vs ws in omega (arith, all, h)
fewer_bytes limits (l.VariableBytes utf8) vs ws h = let all = data_append (l.VariableBytes utf8) vs ws in omega (arith, all, h)
fewer_bytes limits _ vs ws h = tt

pub returns-clause-column : goal.returns-clause-column
returns-clause-column c = λ known limits layout vs size h.
    let all = length-append vs h.0 in
    let held : length vs ≡ c.min-slots.result = omega (arith, c.min-slots.ensures, h.1.slots_are, all, size) in
    let nulls = c.nulls_before-null_count.ensures.count known limits layout vs h.0 held h.1 in
    record {
      laid = c.cut.ensures.layout ∙ h.1.laid;
      slots_are = sym held;
      nulls_are = nulls;
      few = λ many. h.1.few (omega (arith, many, all));
      short = fewer_bytes limits layout vs h.0 h.1.short;
      validity_are = c.cut_validity.ensures layout vs h.0 held (sym nulls) h.1.validity_are;
      holds = c.cut.ensures.holds known vs h.0 held h.1.holds;
    }

pub returns-clause-below : goal.returns-clause-below
returns-clause-below c = λ known limits layout vs j size h.
    let all = length-append vs h.0 in
    let held : length vs ≡ c.min-slots.result = omega (arith, c.min-slots.ensures, h.1.slots_are, all, size) in
    c.cut.ensures.below known vs h.0 j held h.1.holds ∙ ap (λ (l : Layout). length (child_values l vs j)) h.1.laid
