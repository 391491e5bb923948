use Rattle.ipc_encode.proofs.LentBuffers.{whole_marked}
use Rattle.ipc_encode.proofs.canonical.is_canonical.Goals as goal

pub returns-then-has_written_data : goal.returns-then-has_written_data
returns-then-has_written_data c = λ valid.
    let done = c.if-has_written_data.true in
    let whole = c.has_written_data.ensures.whole done in
    record {
      whole = whole;
      lists = c.has_written_data.ensures.lists done;
      validity = λ other. c.has_written_validity.ensures valid (whole_marked c.args.view.now whole other);
      lent = c.has_written_data.ensures.lent done;
      short = c.has_written_data.ensures.short done;
    }
