-- How many bytes are written, and how many more may be.
use Rattle.std.proofs.Common.{◌≡◌, sym, ap, subst, ℕ, ◌+◌, ◌≤◌, List, [], ◌++◌, length, take, arith}
use Rattle.std.proofs.Common.{Option, Some, None}
use Rattle.std.proofs.KnownBytes.{Appends-nil, Appends-trans}
use Rattle.std.proofs.Math.Nat.{min-le_right}
use Rattle.std.proofs.lemmas.List.{length-append, length-take}
use Rattle.std.specs.Io.KnownBytes.{Appends}
use Rattle.ipc_model.specs.declared.fault.WriteFault.{WriteFault}
use Rattle.ipc_model.specs.declared.fault.WriteFault.TheVariants as w
use Rattle.ipc_model.specs.declared.limits.Limits.{Limits}
use Rattle.ipc_model.specs.declared.schema.Schema.{Schema}
use Rattle.ipc_stream.specs.Writer.{Finishes, FinishFails, Writer}
use Rattle.job_rewrite.specs.Outputs.{AppendsWithin, StartsOutput, Takes}
use Rattle.job_rewrite.specs.Totals.{IsWithin}

pub takes_none : (room : Option ℕ) → Takes room room 0
takes_none None = tt
takes_none (Some n) = omega arith

-- bytes that are written one after another
pub takes_more : (room left rest : Option ℕ) (x y : List ℕ) → Takes room left (length x) → Takes left rest (length y)
    → Takes room rest (length (x ++ y))
takes_more None None None x y one two = tt
takes_more None None (Some c) x y one two = absurd two
takes_more None (Some b) rest x y one two = absurd one
takes_more (Some a) None rest x y one two = absurd one
takes_more (Some a) (Some b) None x y one two = absurd two
takes_more (Some a) (Some b) (Some c) x y one two = let long = length-append x y in omega (arith, one, two, long)

-- what has no room in what is left has none after what was written
pub room_less : (room left : Option ℕ) (count more : ℕ) → Takes room left count → (IsWithin left more → ⊥)
    → IsWithin room (count + more) → ⊥
room_less None None count more takes above within = above tt
room_less None (Some b) count more takes above within = absurd takes
room_less (Some a) None count more takes above within = absurd takes
room_less (Some a) (Some b) count more takes above within = above (omega (arith, takes, within))

-- nor after the schema and its batches, with the end mark
pub room_whole : (most room : Option ℕ) (x y : List ℕ) (more : ℕ) → Takes most room (length x + 8)
    → (IsWithin room (length y + more) → ⊥) → IsWithin most (length (x ++ y) + more + 8) → ⊥
room_whole None None x y more takes above within = above tt
room_whole None (Some b) x y more takes above within = absurd takes
room_whole (Some a) None x y more takes above within = absurd takes
room_whole (Some a) (Some b) x y more takes above within =
    let long = length-append x y in above (omega (arith, takes, within, long))

-- nothing was written
pub within_same : (room : Option ℕ) (old : Option (List ℕ)) → AppendsWithin room old old
within_same None old = tt
within_same (Some n) old = ([], Appends-nil old, omega arith)

-- bytes that were taken from what may be written
pub within_takes : (room left : Option ℕ) (old new : Option (List ℕ)) (x : List ℕ) → Appends old new x → Takes room left (length x)
    → AppendsWithin room old new
within_takes None left old new x bytes takes = tt
within_takes (Some a) None old new x bytes takes = absurd takes
within_takes (Some a) (Some b) old new x bytes takes = (x, bytes, omega (arith, takes))

-- and then more, within what is left
pub within_then : (room left : Option ℕ) (old now new : Option (List ℕ)) (x : List ℕ) → Appends old now x → Takes room left (length x)
    → AppendsWithin left now new → AppendsWithin room old new
within_then None left old now new x bytes takes more = tt
within_then (Some a) None old now new x bytes takes more = absurd takes
within_then (Some a) (Some b) old now new x bytes takes more =
    let long = length-append x more.0 in
    (x ++ more.0, Appends-trans old now new x more.0 bytes more.1, omega (arith, takes, more.2, long))

-- the message of the schema, what followed it, and at most the end mark
pub within_mark : (most room : Option ℕ) (old start now new : Option (List ℕ)) (x y : List ℕ) → Appends old start x
    → Takes most room (length x + 8) → AppendsWithin room start now → Appends now new y → length y ≤ 8 → AppendsWithin most old new
within_mark None room old start now new x y first takes next last short = tt
within_mark (Some a) None old start now new x y first takes next last short = absurd takes
within_mark (Some a) (Some b) old start now new x y first takes next last short =
    let rest = next.0 ++ y in
    let inner = length-append next.0 y in
    let outer = length-append x rest in (
      x ++ rest,
      Appends-trans old start new x rest first (Appends-trans start now new next.0 y next.1 last),
      omega (arith, takes, next.2, short, inner, outer),
    )

-- a beginning is no longer than the whole
take_short : (n : ℕ) (x : List ℕ) → length (take n x) ≤ length x
take_short n x = subst (λ k. k ≤ length x) (sym (length-take n x)) (min-le_right n (length x))

module _ (most room : Option ℕ) (limits : Limits) (s : Schema) (old : Option (List ℕ)) (f0 : ℕ) (before after : Writer)
    (started : StartsOutput most limits s old f0 before room) (within : AppendsWithin room before.written after.written) where
  -- the end mark was sent, or not
  mark_within : (new : Option (List ℕ)) (y : List ℕ) → Appends after.written new y → length y ≤ 8 → AppendsWithin most old new
  mark_within new y = within_mark most room old before.written after.written new started.0.sent.x y started.0.sent.bytes started.1 within

  pub within_left : (new : Option (List ℕ)) → new ≡ after.written → AppendsWithin most old new
  within_left new same = subst (AppendsWithin most old) (sym same) (mark_within after.written [] (Appends-nil after.written) (omega arith))

  pub within_finished : (new held : Option (List ℕ)) (f1 : ℕ) → Finishes after new held f1 → AppendsWithin most old new
  within_finished new held f1 h =
      let long = ap (λ (l : List ℕ). length l) h.sent.whole in mark_within new h.sent.x h.sent.bytes (omega (arith, long))

  pub within_unfinished : (new : Option (List ℕ)) (f1 : ℕ) (fault : WriteFault) → FinishFails after new f1 fault
      → AppendsWithin most old new
  within_unfinished new f1 w.Write h =
      let cut = h.1 in
      let long = ap (λ (l : List ℕ). length l) cut.whole in
      let short = take_short cut.count cut.x in
      mark_within new (take cut.count cut.x) cut.bytes (omega (arith, long, short))
  within_unfinished new f1 w.Failed h = within_left new h.1
  within_unfinished new f1 fault h = absurd h
