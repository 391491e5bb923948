-- Batches that are read one after another, and the reports of them.
use Rattle.std.proofs.Common.{◌≡◌, ◌∙◌, refl, sym, ap, subst, ℕ, ◌+◌, inl, inr, List, [], ◌∷◌, ◌++◌, length, Option}
use Rattle.std.proofs.Common.{Some, None, Result, Ok, Err, append_assoc, append-nil, arith, length-append}
use Rattle.std.specs.Prelude.{IsSome}
use Rattle.std.specs.Io.KnownBytes.{Consumes}
use Rattle.std.proofs.KnownBytes.{Consumes-trans}
use Rattle.ipc_device.specs.Reports.{AreAppended, Report}
use Rattle.ipc_model.specs.declared.fault.Fault.{Fault}
use Rattle.ipc_model.specs.declared.limits.Limits.{Limits}
use Rattle.ipc_model.specs.declared.table.BatchRows.{BatchRows}
use Rattle.ipc_stream_read.specs.declared.end.End.{End}
use Rattle.ipc_stream_read.specs.declared.end.End.TheVariants.{Closed}
use Rattle.ipc_stream_read.specs.Counts.{count_up}
use Rattle.ipc_stream_read.specs.Decoding.{ReportsLastEvent}
use Rattle.ipc_stream_read.specs.Found.{ReadRows, batch_rows}
use Rattle.ipc_stream_read.specs.Reader.{EndsAfter, NextAnswer, NextCall, OpenFails, Opens, Reader, StreamPhase, in_force_of}
use Rattle.ipc_stream_read.specs.Reader.{Reading, Ended, Refused, end_of}
use Rattle.ipc_stream_read.specs.Reasons.{Reads}
use Rattle.ipc_stream_read.specs.Stream.{batch}
use Rattle.ipc_stream_read.specs.Progress.{AreReports, opened, more, unopened, ReportsAll}
use Rattle.ipc_stream_read.specs.Progress.{ReportsBefore, ReportsSome, ReportsTo, all_rows, report_of}
use Rattle.ipc_stream_read.proofs.Calls.{read_gives}

ended_by : (old new : Reader) (p q : StreamPhase) (x : List ℕ) → NextAnswer old new p x (Ok None) q → IsSome (end_of q)
ended_by old new p (Ended e) x h = refl
ended_by old new Reading Reading x h = absurd h
ended_by old new Reading Refused x h = absurd h
ended_by old new (Ended e) Reading x h = absurd h
ended_by old new (Ended e) Refused x h = absurd h
ended_by old new Refused Reading x h = absurd h
ended_by old new Refused Refused x h = absurd h

-- a reader that has no more batches has an end
pub next_ended : (old new : Reader) (found : Option End) → NextCall old new (Ok None) → found ≡ end_of new.phase → IsSome found
next_ended old new found t is = subst IsSome (sym is) (ended_by old new old.phase new.phase t.x t.gives)

-- batches of a source were read and reported: so many, with so many rows
pub record Progressed (limits : Limits) (before : Option (List ℕ)) (batches rows : ℕ) (now : Reader)
    (reports_old reports_new : Option (List Report)) : Type 0 where
  pub x : List ℕ
  pub done : List BatchRows
  pub reports : List Report
  pub bytes : Consumes before now.remaining x
  pub are : AreReports limits x done reports (Some (in_force_of now))
  pub report : AreAppended reports_old reports_new reports
  pub limits_are : now.limits ≡ limits
  pub taken : now.taken ≡ count_up 0 (length x)
  pub batches_are : batches ≡ count_up 0 (length done)
  pub rows_are : rows ≡ count_up 0 (all_rows done)

told_none : (a : Option (List Report)) → AreAppended a a []
told_none None = tt
told_none (Some l) = sym (append-nil l)

told_then : (a b c : Option (List Report)) (xs ys : List Report) → AreAppended a b xs → AreAppended b c ys → AreAppended a c (xs ++ ys)
told_then None b c xs ys p q = tt
told_then (Some l) None c xs ys p q = absurd p
told_then (Some l) (Some m) None xs ys p q = absurd q
told_then (Some l) (Some m) (Some n) xs ys p q = q ∙ (ap (λ k. k ++ ys) p ∙ append_assoc l xs ys)

all_rows_last : (batches : List BatchRows) (last : BatchRows) → all_rows (batches ++ last ∷ []) ≡ all_rows batches + length last.rows
all_rows_last [] last = omega arith
all_rows_last (b ∷ bs) last = let more = all_rows_last bs last in omega (arith, more)

-- before the first batch
pub progressed_none : {limits : Limits} → (before : Option (List ℕ)) (r : Reader) (a : Option (List Report)) → Opens limits before r
    → Progressed limits before 0 0 r a a
progressed_none before r a o = record {
  x = o.x;
  done = [];
  reports = [];
  bytes = o.bytes;
  are = opened o.run;
  report = told_none a;
  limits_are = o.same_limits;
  taken = o.counted;
  batches_are = omega arith;
  rows_are = omega arith;
}

module _ {limits : Limits} (before : Option (List ℕ)) (batches rows : ℕ) (now : Reader) (a b : Option (List Report))
    (p : Progressed limits before batches rows now a b) where
  -- where none came after them, all were reported
  pub progressed_to : (answer : Result End Fault) → ReportsTo limits before now.remaining a b answer
  progressed_to answer = (
    record {
      x = p.x;
      rest = [];
      batches = p.done;
      reports = p.reports;
      state = Some (in_force_of now);
      bytes = subst (Consumes before now.remaining) (sym (append-nil p.x)) p.bytes;
      are = p.are;
      report = p.report;
    },
    inl refl,
  )

  pub progressed_all : ReportsAll limits before now.remaining a b
  progressed_all = (Closed, progressed_to (Ok Closed))

  module _ (new : Reader) (reading : now.phase ≡ Reading) where
    last_given : (found : ReadRows) (t : NextCall now new (Ok (Some found)))
        → ReportsLastEvent limits (Some (in_force_of now)) t.x (batch (batch_rows found)) (Some (in_force_of new))
    last_given found t = subst (λ l. ReportsLastEvent l (Some (in_force_of now)) t.x (batch (batch_rows found)) (Some (in_force_of new)))
        p.limits_are
        (read_gives now new (Ok (Some found)) t reading).last

    -- one batch more was read and reported
    pub progressed_more : (found : ReadRows) (m n : ℕ) (c : Option (List Report)) → NextCall now new (Ok (Some found)) → m
        ≡ count_up batches 1
        → n ≡ count_up rows (length found.0.rows) → AreAppended b c (record { bytes = new.taken; batches = m; rows = n } ∷ [])
        → Progressed limits before m n new a c
    progressed_more found m n c t one all appends =
        let y = p.x ++ t.x in
        let done_now = p.done ++ batch_rows found ∷ [] in
        let taken : new.taken ≡ count_up 0 (length y) = omega (arith, p.taken, t.counted, length-append p.x t.x) in
        let some : m ≡ count_up 0 (length done_now) = omega (arith, p.batches_are, one, length-append p.done (batch_rows found ∷ [])) in
        let few : n ≡ count_up 0 (all_rows done_now) = omega (arith, p.rows_are, all, all_rows_last p.done (batch_rows found)) in
        let report : Report = record { bytes = new.taken; batches = m; rows = n } in
        let is : report ≡ report_of y done_now = λ i. record { bytes = taken i; batches = some i; rows = few i } in
        record {
          x = y;
          done = done_now;
          reports = p.reports ++ report_of y done_now ∷ [];
          bytes = Consumes-trans before now.remaining new.remaining p.x t.x p.bytes t.bytes;
          are = more p.are (last_given found t);
          report = told_then a b c p.reports (report_of y done_now ∷ []) p.report (subst (λ r. AreAppended b c (r ∷ [])) is appends);
          limits_are = t.same_limits ∙ p.limits_are;
          taken = taken;
          batches_are = some;
          rows_are = few;
        }

    -- one was read and not reported
    pub progressed_less : (found : ReadRows) → NextCall now new (Ok (Some found)) → ReportsSome limits before new.remaining a b
    progressed_less found t = (
      record {
        x = p.x;
        rest = t.x;
        batches = p.done;
        reports = p.reports;
        state = Some (in_force_of now);
        bytes = Consumes-trans before now.remaining new.remaining p.x t.x p.bytes t.bytes;
        are = p.are;
        report = p.report;
      },
      inr (batch_rows found, (Some (in_force_of new), last_given found t)),
    )

    -- reading ended after them
    ended_all : (x : List ℕ) (answer : Result End Fault) → Consumes now.remaining new.remaining x → EndsAfter now new x answer
        → ReportsTo limits before new.remaining a b answer
    ended_all x answer bytes h = (
      record {
        x = p.x;
        rest = x;
        batches = p.done;
        reports = p.reports;
        state = Some (in_force_of now);
        bytes = Consumes-trans before now.remaining new.remaining p.x x p.bytes bytes;
        are = p.are;
        report = p.report;
      },
      inr (subst (λ l. Reads l (Some (in_force_of now)) x new.remaining [] answer) p.limits_are
          (record { state = Some (in_force_of new); whole = h.whole; rest = h.rest; joined = h.joined; run = h.run; ends = h.ends })),
    )

    pub progressed_end : NextCall now new (Ok None) → ReportsAll limits before new.remaining a b
    progressed_end t =
        let h = read_gives now new (Ok None) t reading in
        (h.0, ended_all t.x (Ok h.0) t.bytes h.2)

    pub progressed_break : (f : Fault) → NextCall now new (Err f) → ReportsTo limits before new.remaining a b (Err f)
    progressed_break f t = ended_all t.x (Err f) t.bytes (read_gives now new (Err f) t reading)

-- all reports are at least all but the last
pub some_of_to : {limits : Limits} → (old new : Option (List ℕ)) (a b : Option (List Report)) (answer : Result End Fault)
    → ReportsTo limits old new a b answer → ReportsSome limits old new a b
some_of_to old new a b answer r = (r.0, inl (answer, r.1))

pub some_of_all : {limits : Limits} → (old new : Option (List ℕ)) (a b : Option (List Report)) → ReportsAll limits old new a b
    → ReportsSome limits old new a b
some_of_all old new a b r = some_of_to old new a b (Ok r.0) r.1

pub some_of_before : {limits : Limits} → (old new : Option (List ℕ)) (a b : Option (List Report)) (f : Fault)
    → ReportsBefore limits old new a b f → ReportsSome limits old new a b
some_of_before old new a b f (inl r) = some_of_to old new a b (Err f) r
some_of_before old new a b f (inr r) = some_of_all old new a b r

-- where no batch was read, none is reported
pub opened_all : {limits : Limits} → (before : Option (List ℕ)) (r : Reader) (a : Option (List Report)) → Opens limits before r
    → ReportsAll limits before r.remaining a a
opened_all before r a o = progressed_all before 0 0 r a a (progressed_none before r a o)

pub opened_some : {limits : Limits} → (before : Option (List ℕ)) (r : Reader) (a : Option (List Report)) → Opens limits before r
    → ReportsSome limits before r.remaining a a
opened_some before r a o = some_of_all before r.remaining a a (opened_all before r a o)

pub unopened_to : {limits : Limits} → (old new : Option (List ℕ)) (f : Fault) (a : Option (List Report)) → OpenFails limits old new f
    → ReportsTo limits old new a a (Err f)
unopened_to old new f a o = (
  record {
    x = [];
    rest = o.x;
    batches = [];
    reports = [];
    state = None;
    bytes = o.bytes;
    are = unopened;
    report = told_none a;
  },
  inr o.reads,
)
