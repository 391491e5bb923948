use Rattle.std.proofs.Common.{◌∙◌, ap, List, ℕ, ◌++◌, length, arith}
use Rattle.std.proofs.lemmas.List.{length-append}
use Rattle.ipc_encode.specs.Segments.{bytes_of_segments}
use Rattle.ipc_stream.specs.Messages.{all_bytes}
use Rattle.ipc_stream.proofs.SentBytes.{sent_exactly}
use Rattle.ipc_stream.proofs.sending.send_messages.Goals as goal

pub send_segments-requires : goal.send_segments-requires
send_segments-requires g c =
    let m = c.args.messages.now in
    let body = bytes_of_segments m.segments.items in
    let all = ap (λ (x : List ℕ). length x) (ap bytes_of_segments c.deref.ensures.value ∙ c.in_ok-gathered.ensures) in
    omega (
      arith,
      all,
      c.requires,
      length-append m.front.items body,
      length-append (all_bytes m.dictionaries.items) (m.front.items ++ body),
    )

pub returns-clause-sends : goal.returns-clause-sends
returns-clause-sends g c =
    sent_exactly _ _ _ _ _ _ c.send_segments.result (ap bytes_of_segments c.deref.ensures.value ∙ c.in_ok-gathered.ensures)
    c.send_segments.ensures.ok c.send_segments.ensures.err c.send_segments.ensures.only c.send_segments.ensures.failures
