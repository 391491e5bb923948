use Rattle.ipc_encode.proofs.FirstSlots.{validity_cut}
use Rattle.ipc_encode.proofs.cut.cut_validity.Goals as goal

pub returns : goal.returns
returns c = λ layout vs ws size nil same.
    validity_cut layout vs ws c.args.validity.now.items c.cut_bits.new.bytes.items c.args.slots c.args.null_count size nil
    c.if-null_count-eq0.false same c.cut_bits.ensures.cut c.cut_bits.ensures.none
