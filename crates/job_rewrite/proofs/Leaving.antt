-- What a call that sends a batch leaves of a writer.
use Rattle.std.proofs.Common.{◌≡◌, ◌∙◌, sym, ap, ℕ, List, Result, Ok, Err, false}
use Rattle.std.specs.Prelude.{MatchResult, OnOk}
use Rattle.std.proofs.lemmas.Bool.{false≢true}
use Rattle.ipc_model.specs.declared.fault.WriteFault.{WriteFault}
use Rattle.ipc_model.specs.declared.fault.WriteFault.TheVariants as w
use Rattle.ipc_stream.specs.Writer.{Writer, LeavesWriter}
use Rattle.ipc_stream.specs.Writing.{Sends}

-- what a call that sends a batch leaves of a writer that works is what it sent
pub sent_of : (IsWhole : List ℕ → Type 0) (kept : _) (old new : Writer) (r : Result Unit WriteFault)
    → old.failed ≡ false → LeavesWriter IsWhole kept old new r
    → Sends IsWhole old.written new.written old.failures new.failures r
sent_of IsWhole kept old new (Ok x) works h = h.1
sent_of IsWhole kept old new (Err w.Write) works h = h.1
sent_of IsWhole kept old new (Err w.OutOfMemory) works h = (ap (λ (w : Writer). w.written) h.1, ap (λ (w : Writer). w.failures) h.1)
sent_of IsWhole kept old new (Err w.Failed) works h = absurd (false≢true (sym works ∙ h.0))
sent_of IsWhole kept old new (Err w.BadSchema) works h = (ap (λ (w : Writer). w.written) h.1, ap (λ (w : Writer). w.failures) h.1)
sent_of IsWhole kept old new (Err (w.Row number cause)) works h = (ap (λ (w : Writer). w.written) h.1, ap (λ (w : Writer). w.failures) h.1)
sent_of IsWhole kept old new (Err w.TooLong) works h = (ap (λ (w : Writer). w.written) h.1, ap (λ (w : Writer). w.failures) h.1)
sent_of IsWhole kept old new (Err w.DictionaryFull) works h = (ap (λ (w : Writer). w.written) h.1, ap (λ (w : Writer). w.failures) h.1)
sent_of IsWhole kept old new (Err w.TooManyRows) works h = (ap (λ (w : Writer). w.written) h.1, ap (λ (w : Writer). w.failures) h.1)

-- what a call leaves of a writer where it answers Ok
pub limits_of : (IsWhole : List ℕ → Type 0) (kept : _) (old new : Writer) (r : Result Unit WriteFault) → LeavesWriter IsWhole kept old new r
    → OnOk r (new.limits ≡ old.limits)
limits_of IsWhole kept old new (Ok x) h = h.3
limits_of IsWhole kept old new (Err fault) h = tt

pub schema_of : (IsWhole : List ℕ → Type 0) (kept : _) (old new : Writer) (r : Result Unit WriteFault) → LeavesWriter IsWhole kept old new r
    → OnOk r (new.schema ≡ old.schema)
schema_of IsWhole kept old new (Ok x) h = h.2
schema_of IsWhole kept old new (Err fault) h = tt

pub works_of : (IsWhole : List ℕ → Type 0) (kept : _) (old new : Writer) (r : Result Unit WriteFault) → LeavesWriter IsWhole kept old new r
    → OnOk r (new.failed ≡ false)
works_of IsWhole kept old new (Ok x) h = h.4
works_of IsWhole kept old new (Err fault) h = tt

pub kept_of : (IsWhole : List ℕ → Type 0) (kept : _) (old new : Writer) (r : Result Unit WriteFault) → LeavesWriter IsWhole kept old new r
    → OnOk r (new.kept ≡ kept)
kept_of IsWhole kept old new (Ok x) h = h.5
kept_of IsWhole kept old new (Err fault) h = tt

-- a writer that works doesn't answer that it fails, so what it tells is why the batch is refused
pub judged_of : (A : Type 0) (IsWhole : List ℕ → Type 0) (kept : _) (P : WriteFault → Type 0) (old new : Writer)
    (r : Result Unit WriteFault)
    → old.failed ≡ false → LeavesWriter IsWhole kept old new r → MatchResult r (λ x. A) (λ fault. (fault ≡ w.Failed → ⊥) → P fault)
    → MatchResult r (λ x. A) P
judged_of A IsWhole kept P old new (Ok x) works left h = h
judged_of A IsWhole kept P old new (Err w.Failed) works left h = absurd (false≢true (sym works ∙ left.0))
judged_of A IsWhole kept P old new (Err w.Write) works left h = h (λ e. cc)
judged_of A IsWhole kept P old new (Err w.OutOfMemory) works left h = h (λ e. cc)
judged_of A IsWhole kept P old new (Err w.BadSchema) works left h = h (λ e. cc)
judged_of A IsWhole kept P old new (Err (w.Row number cause)) works left h = h (λ e. cc)
judged_of A IsWhole kept P old new (Err w.TooLong) works left h = h (λ e. cc)
judged_of A IsWhole kept P old new (Err w.DictionaryFull) works left h = h (λ e. cc)
judged_of A IsWhole kept P old new (Err w.TooManyRows) works left h = h (λ e. cc)
