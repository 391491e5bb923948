-- Bytes that are moved from the front of a list.
use Rattle.std.proofs.Common.{◌≡◌, refl, sym, ap, subst, ◌∙◌, ℕ, ◌+◌, ◌≤◌, List, ◌++◌, length, take, drop}
use Rattle.std.specs.Prelude.{min}
use Rattle.std.proofs.Math.Nat.{min-le_left}
use Rattle.std.proofs.lemmas.List.{take-append-drop, drop-drop, length-take-le}
use Rattle.ipc_stream_session.specs.Tables.{MovesBytes}

-- the bytes from a place on are moved up to a later place
pub moved : (items report part : List ℕ) (at count : ℕ) → part ≡ take count (drop at items)
    → count ≡ min (length (drop at items)) (length report)
    → MovesBytes (drop at items) (drop (at + count) items) report (part ++ drop count report) count
moved items report part at count is size =
    let few : count ≤ length (drop at items) = subst (λ n. n ≤ length (drop at items)) (sym size)
    (min-le_left (length (drop at items)) (length report)) in
    record {
      moved = part;
      size = ap length is ∙ length-take-le count (drop at items) few;
      counted = size;
      from_the_front = sym (ap (λ xs. part ++ xs) (sym (drop-drop count at items))
          ∙ (ap (λ xs. xs ++ drop count (drop at items)) is ∙ take-append-drop count (drop at items)));
      copied = refl;
    }
