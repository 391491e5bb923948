use Rattle.std.proofs.Common.{◌∙◌, refl, sym}
use Rattle.csv.specs.Records.{fields_of}
use Rattle.ipc_text_csv.specs.StrictReaders.{action_of, setting, state_of}
use Rattle.ipc_text_csv.proofs.StrictSteps.{follows_byte, follows_cut, follows_none, follows_outside, follows_record, follows_start}
use Rattle.ipc_text_csv.proofs.strict_reader.StrictReader.read_record.Goals as goal

pub loop-init : goal.loop-init
loop-init g c = record {
  delimiter = refl;
  whole = c.clear.ensures.partial;
  follows = rw (c.clear.ensures.fields, c.clear-2.ensures.items) (follows_start _ _ _);
}

pub returns-then-is_open-clause-reads : goal.returns-then-is_open-clause-reads
returns-then-is_open-clause-reads g c =
    let end = rw c.in_default.is at c.in_ok-byte.ensures.next in
    rw (c.fault_at.ensures, c.len.ensures) (follows_cut _ c.args.number _ _ (state_of c.loop.self.place) _ (fields_of c.loop.fields) _ _ _ _
    (sym c.is_open.ensures ∙ c.if-is_open.true) end c.loop.invariant.follows)

pub returns-in_default-clause-reads : goal.returns-in_default-clause-reads
returns-in_default-clause-reads g c =
    let end = rw c.in_default.is at c.in_ok-byte.ensures.next in
    follows_none _ c.args.number _ _ (state_of c.loop.self.place) _ (fields_of c.loop.fields) _ _ _ _
    (sym c.is_open.ensures ∙ c.if-is_open.false) end c.loop.invariant.follows

pub returns-in_default-step-clause-reads : goal.returns-in_default-step-clause-reads
returns-in_default-step-clause-reads g c =
    let came = rw c.in-Some.is at c.in_ok-byte.ensures.next in
    let outside = rw c.loop.invariant.delimiter at c.in_default-step.ensures in
    rw (c.fault_at-in_default-step.ensures, c.len-in_default-step.ensures) (follows_outside _ c.args.number _ _
    (state_of c.loop.self.place) _ (fields_of c.loop.fields) _ _ _ _ c.in-Some.byte outside came c.loop.invariant.follows)

pub returns-then-branch-clause-reads : goal.returns-then-branch-clause-reads
returns-then-branch-clause-reads g c =
    let came = rw c.in-Some.is at c.in_ok-byte.ensures.next in
    let does = rw c.loop.invariant.delimiter at c.in-Some-step.ensures in
    let e = c.in_ok-apply.ensures in
    rw e.fields (follows_record (setting c.args.self.now.delimiter) c.args.number _ _ (state_of c.loop.self.place)
    (state_of c.in-Some-step.place) (fields_of c.loop.fields) c.loop.self.field.items _ _ c.in-Some.byte
    (action_of c.in-Some-step.action) came does.0 does.1 (sym e.ends ∙ c.if-branch.true) c.loop.invariant.follows)

pub loop-preserved : goal.loop-preserved
loop-preserved g c =
    let came = rw c.in-Some.is at c.in_ok-byte.ensures.next in
    let does = rw c.loop.invariant.delimiter at c.in-Some-step.ensures in
    let e = c.in_ok-apply.ensures in
    record {
      delimiter = c.loop.invariant.delimiter;
      whole = e.whole;
      follows = rw (e.fields, e.field) (follows_byte (setting c.args.self.now.delimiter) _ _ (state_of c.loop.self.place)
          (state_of c.in-Some-step.place) (fields_of c.loop.fields) c.loop.self.field.items _ _ c.in-Some.byte
          (action_of c.in-Some-step.action) came does.0 does.1 (sym e.ends ∙ c.if-branch.false) c.loop.invariant.follows);
    }
