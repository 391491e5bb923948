-- The front of a text, before the rows of batches.
use Rattle.ipc_model.specs.declared.table.BatchRows.{BatchRows}
use Rattle.std.proofs.Common.{◌≡◌, ◌∙◌, refl, sym, ap, subst, ℕ, List, [], ◌++◌, Option, Some, length, inl}
use Rattle.std.proofs.Common.{Result, Ok, Err, append-nil, length-append, arith}
use Rattle.std.proofs.KnownBytes.{Consumes-nil}
use Rattle.ipc_stream_read.specs.Reader.{Reader, in_force_of}
use Rattle.ipc_stream_read.specs.Stream.{State, Run, batch, done}
use Rattle.std.specs.Io.KnownBytes.{Consumes}
use Rattle.job_print.specs.declared.line_buffer.PrintFault.{PrintFault}
use Rattle.job_print.specs.declared.line_buffer.PrintFault.TheVariants.{Write, OutOfMemory}
use Rattle.job_print.specs.declared.form.PrintOptions.{PrintOptions}
use Rattle.job_print.specs.FirstRows.{AreWanted, within}
use Rattle.job_print.specs.Forms.{batch_heading, line_of}
use Rattle.job_print.specs.Output.{Output, output, PrintsAs, Puts, PutFails}
use Rattle.std.specs.Prelude.{⊤, ◌≢◌, ◌≤◌, map}
use Rattle.job_print.specs.Rows.{batch_lines, last_lines}
use Rattle.job_print.specs.Streams.{PrintsPart}
use Rattle.job_print.proofs.streams.FirstRows.{wanted_none, wanted_within, within_none}
use Rattle.job_print.proofs.Puts.{puts_then, puts_not_then, puts_never, missing_all, missing_at}
use Rattle.job_print.proofs.Lines.{put_at, not_at}

-- these batches were all that was read after the schema, and their text was put in part
pub part_read : (options : PrintOptions) (front : List ℕ) (old new : Reader) (before : Output) (w : Option (List ℕ)) (n : ℕ)
    (e : PrintFault)
    (x : List ℕ) (batches : List BatchRows) (state : State) → Consumes old.remaining new.remaining x
    → Run old.limits (Some (in_force_of old)) x (map batch batches) state → AreWanted options.limit batches
    → (puts : PutFails before w n
    ((front ++ batch_lines (batch_heading options.form) (line_of options.form old.schema.fields) (within options.limit batches)) ++ []) e)
    → length puts.behind
    ≤ length (last_lines front (batch_heading options.form) (line_of options.form old.schema.fields) (within options.limit batches))
    → (e ≢ Write → old.failures ≡ 0 → new.failures ≡ 0) → PrintsPart options front old new before w n e
part_read options front old new before w n e x batches state bytes run wanted puts few works = record {
  read = record {
    x = x;
    batches = batches;
    bytes = bytes;
    rest = [];
    whole = x;
    joined = sym (append-nil x);
    state = state;
    run = run;
    tail = [];
    inside = wanted_within options.limit batches wanted;
    ends = inl refl;
  };
  puts = puts;
  few = omega (
    arith,
    few,
    length-append
        (last_lines front (batch_heading options.form) (line_of options.form old.schema.fields) (within options.limit batches)) [],
  );
  last = inl refl;
  works = works;
}

-- nothing was read, and of the front a beginning was printed
pub part_front : (options : PrintOptions) (front : List ℕ) (r : Reader) (before : Output) (w : Option (List ℕ)) (n : ℕ) (e : PrintFault)
    → before.kept ≡ [] → PutFails before w n front e → PrintsPart options front r r before w n e
part_front options front r before w n e empty q =
    let none = sym (within_none options.limit) in
    let line = line_of options.form r.schema.fields in
    let missing = missing_at before w n _ _ e (length front)
    (sym (append-nil front) ∙ (sym (append-nil (front ++ []))
    ∙ ap (λ (bs : List BatchRows). (front ++ batch_lines (batch_heading options.form) line bs) ++ []) none))
    (missing_all before w n front e empty q) in
    part_read options front r r before w n e [] [] (Some (in_force_of r)) (Consumes-nil r.remaining) done (wanted_none options.limit)
    missing.0 (omega (arith, missing.1, ap (λ (bs : List BatchRows). length (last_lines front (batch_heading options.form) line bs)) none))
    (λ other z. z)

-- nothing was read and printed, since memory ran out
pub part_none : (options : PrintOptions) (front : List ℕ) (r : Reader) (o : Output) → o.kept ≡ []
    → PrintsPart options front r r o o.written o.failures OutOfMemory
part_none options front r o empty = part_front options front r o o.written o.failures OutOfMemory empty (puts_never o front)

-- the front was put, and it was sent, or the sink failed
pub front_sent : (before mid : Output) (w : Option (List ℕ)) (n : ℕ) (k front : List ℕ) → Puts before mid front
    → Puts mid (output w n []) [] → k ≡ [] → Puts before (output w n k) front
front_sent before mid w n k front p q empty =
    subst (λ (z : List ℕ). Puts before (output w n z) front) (sym empty)
    (put_at before (output w n []) _ _ (append-nil front) (puts_then before mid (output w n []) front [] p q))

-- a text was put, and then what is kept was sent or stayed, or the sink failed
pub then_sent : (a b : Output) (w : Option (List ℕ)) (n : ℕ) (k t : List ℕ) (r : Result ⊤ PrintFault) → Puts a b t
    → PrintsAs b w n k [] r → PrintsAs a w n k t r
then_sent a b w n k t (Ok _) p q = put_at a (output w n k) _ _ (append-nil t) (puts_then a b (output w n k) t [] p q)
then_sent a b w n k t (Err e) p q = not_at a w n _ _ e (append-nil t) (puts_not_then a b w n t [] e p q)

-- the front was put, and the sink failed when it was sent
pub front_unsent : (options : PrintOptions) (front : List ℕ) (r : Reader) (before mid : Output) (w : Option (List ℕ)) (n : ℕ)
    → before.kept ≡ [] → Puts before mid front → PutFails mid w n [] Write → PrintsPart options front r r before w n Write
front_unsent options front r before mid w n empty p q =
    part_front options front r before w n Write empty
    (not_at before w n _ _ Write (append-nil front) (puts_not_then before mid w n front [] Write p q))
