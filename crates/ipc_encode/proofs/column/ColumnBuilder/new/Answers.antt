use Rattle.std.proofs.Common.{◌∙◌, refl, sym, arith}
use Rattle.ipc_encode.proofs.Steps.{none_null, validity_none}
use Rattle.ipc_model.specs.declared.layout.Layout.{Layout}
use Rattle.ipc_model.specs.declared.layout.Layout.TheVariants as l
use Rattle.ipc_model.specs.declared.limits.Limits.{Limits}
use Rattle.ipc_encode.specs.Built.{AreBytesWithin}
use Rattle.ipc_encode.proofs.column.ColumnBuilder.new.Goals as goal

no_bytes : (limits : Limits) (layout : Layout) → AreBytesWithin limits layout 0
no_bytes limits (l.FixedBytes width) = omega arith
no_bytes limits (l.VariableBytes utf8) = omega arith
no_bytes limits _ = tt

pub returns : goal.returns
returns c = λ known limits. record {
  laid = c.in_ok-new.ensures.layout;
  slots_are = refl;
  nulls_are = sym (none_null _);
  few = λ many. omega (arith, many);
  short = no_bytes limits c.args.layout;
  validity_are = c.take.ensures ∙ sym (validity_none _);
  holds = c.in_ok-new.ensures.holds known;
}
