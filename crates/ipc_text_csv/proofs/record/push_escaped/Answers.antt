use Rattle.ipc_text_csv.proofs.Quoted.{byte_more, mark_more}
use Rattle.ipc_text_csv.proofs.record.push_escaped.Goals.{then-byte-eq34+in_ok-push, else-byte-eq34}
use Rattle.ipc_text_csv.proofs.record.push_escaped.Goals as goal

pub loop-byte-preserved : goal.loop-byte-preserved
loop-byte-preserved c = let i = c.loop-byte.invariant in let test = c.loop-byte-test.true in elim c.if-byte-eq34.branch [
  | then-byte-eq34+in_ok-push w ↦
      let e = rw w.out-is at c.in_ok-push-2.ensures.items in
      mark_more _ _ _ _ _ c.loop-byte.byte-index test w.if-byte-eq34.true w.in_ok-push.ensures.items e i
  | else-byte-eq34 w ↦
      let e = rw w.out-is at c.in_ok-push-2.ensures.items in byte_more _ _ _ _ c.loop-byte.byte-index test w.if-byte-eq34.false e i
]
