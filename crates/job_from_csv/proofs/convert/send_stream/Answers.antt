use Rattle.std.proofs.Common.{refl}
use Rattle.job_from_csv.specs.Conversion.{in_header, missing}
use Rattle.job_from_csv.proofs.Ending.{all_converts, end_stops, header_stops, start_stops}
use Rattle.job_from_csv.proofs.Sending.{starts_out}
use Rattle.job_from_csv.proofs.convert.send_stream.Goals as goal

pub returns-in-Err-clause-converts : goal.returns-in-Err-clause-converts
returns-in-Err-clause-converts g c = λ input stands.
    rw (c.stop_at.ensures, c.take_record.ensures.record) (header_stops c.args.dialect g.R.Read.remaining input c.args.schema.now _ _ _
    c.read_header.new.self c.in-Err.why c.requires.flat (c.in-Err.ensures.finds c.args.dialect input c.requires.set_up stands
    c.requires.first))

pub returns-then-not-has_header-clause-converts : goal.returns-then-not-has_header-clause-converts
returns-then-not-has_header-clause-converts g c = λ input stands.
    let none = rw c.if-not-has_header.true at (c.in-Ok.ensures.finds c.args.dialect input c.requires.set_up stands c.requires.first) in
    in_header (missing c.requires.flat none refl) (refl, refl)

pub returns-in-Err-started-clause-converts : goal.returns-in-Err-started-clause-converts
returns-in-Err-started-clause-converts g c = λ input stands.
    let has = rw c.if-not-has_header.false at (c.in-Ok.ensures.finds c.args.dialect input c.requires.set_up stands c.requires.first) in
    start_stops c.args.dialect g.R.Read.remaining input _ _ _ _ _ _ c.read_header.new.self.reader _ _ c.limits.ensures c.requires.some
    has.flat has.stands c.in-Err-started.ensures.refused

pub returns-in-Ok-finish-clause-converts : goal.returns-in-Ok-finish-clause-converts
returns-in-Ok-finish-clause-converts g c = λ input stands.
    let has = rw c.if-not-has_header.false at (c.in-Ok.ensures.finds c.args.dialect input c.requires.set_up stands c.requires.first) in
    let out = starts_out _ _ _ _ c.in-Ok-started.stream c.limits.ensures c.in-Ok-started.ensures.started in
    all_converts c.args.dialect _ _ _ _ _ c.send_records.new.stream (c.in-Ok-send_records.ensures.sends input _ _ (has, out)) _ _ _
    c.in-Ok-finish.ensures.finished

pub returns-in-Err-finish-clause-converts : goal.returns-in-Err-finish-clause-converts
returns-in-Err-finish-clause-converts g c = λ input stands.
    let has = rw c.if-not-has_header.false at (c.in-Ok.ensures.finds c.args.dialect input c.requires.set_up stands c.requires.first) in
    let out = starts_out _ _ _ _ c.in-Ok-started.stream c.limits.ensures c.in-Ok-started.ensures.started in
    end_stops c.args.dialect _ _ _ _ _ c.send_records.new.stream (c.in-Ok-send_records.ensures.sends input _ _ (has, out)) _ _ _
    c.in-Err-finish.ensures.refused

pub returns-in-Err-send_records-clause-converts : goal.returns-in-Err-send_records-clause-converts
returns-in-Err-send_records-clause-converts g c = λ input stands.
    let has = rw c.if-not-has_header.false at (c.in-Ok.ensures.finds c.args.dialect input c.requires.set_up stands c.requires.first) in
    let out = starts_out _ _ _ _ c.in-Ok-started.stream c.limits.ensures c.in-Ok-started.ensures.started in
    rw (c.into_inner.ensures.written, c.into_inner.ensures.failures) (c.in-Err-send_records.ensures.sends input _ _ (has, out))

pub send_records-requires-clause-set_up : goal.send_records-requires-clause-set_up
send_records-requires-clause-set_up g c = c.in-Ok.ensures.set_up c.args.dialect c.requires.set_up
