use Rattle.std.proofs.Common.{◌∙◌, sym, ap}
use Rattle.ipc_model.specs.declared.layout.Layout.{Layout}
use Rattle.ipc_encode.specs.Columns.{data_in}
use Rattle.ipc_encode.proofs.Sizes.{column_short}
use Rattle.ipc_encode.proofs.column.ColumnBuilder.counts.Goals as goal

pub returns : goal.returns
returns c = λ known limits layout values h. record {
  slots_are = h.slots_are;
  nulls_are = h.nulls_are;
  amount_is = c.amount.ensures.is known values h.holds (sym h.slots_are) ∙ ap (λ (l : Layout). data_in l values) h.laid;
  few = h.few;
  short = column_short known limits layout values c.args.self.now h;
}
