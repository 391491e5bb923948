use Rattle.ipc_text_temporal.proofs.Ascii.{digits_are_utf8}
use Rattle.ipc_text_json.proofs.row.put_bytes.Goals as goal

pub from_utf8_unchecked-requires : goal.from_utf8_unchecked-requires
from_utf8_unchecked-requires c =
    rw (c.as_slice.ensures.value, c.in_ok-push_digits.ensures.ok, c.clear.ensures.items) (digits_are_utf8 c.args.bytes.now)
