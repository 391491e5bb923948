use Rattle.std.proofs.Common.{ℕ, List, subst, sym}
use Rattle.std.specs.Fmt.{HasWritten}
use Rattle.ipc_model.proofs.Lines.{stop_line_else}
use Rattle.ipc_model.proofs.display.FaultAtDisplay.fmt.Goals as goal

pub returns-in_default : goal.returns-in_default
returns-in_default g c =
    let line = stop_line_else c.args.self.now.fault c.args.self.now.message c.in_default.not-OutOfMemory in
    record {
      writes = λ plain ok. subst (λ (text : List ℕ). HasWritten g.W.Write.write_str_gives c.args.f.now text c.write.new.self) (sym line)
          (c.write.ensures.writes plain ok);
      styled = tt;
    }
