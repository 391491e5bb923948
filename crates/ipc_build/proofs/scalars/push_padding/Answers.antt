use Rattle.std.proofs.Common.{◌∙◌}
use Rattle.ipc_build.proofs.Steps.{resized}
use Rattle.ipc_build.proofs.scalars.push_padding.Goals as goal

pub returns : goal.returns
returns c = resized c.len.result _ c.args.n c.args.out.now.items c.resize.new.self.items
    (c.len.ensures ∙ c.args.out.now.ok.0) c.args.out.now.ok.0 c.in_ok-resize.ensures.items
