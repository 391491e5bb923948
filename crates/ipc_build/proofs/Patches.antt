-- A loop that puts numbers into places kept for them, and what they point to behind all that stands.
use Rattle.std.proofs.Common.{◌≡◌, ℕ, ◌+◌, ◌-◌, ◌*◌, ◌≤◌, ◌<◌, List, ◌++◌, length, take, drop, get_or, refl, ap, sym, ◌∙◌, append_assoc}
use Rattle.std.proofs.Common.{arith, slice_range}
use Rattle.std.proofs.lemmas.List.{length-append, length-drop, length-take-le, take-append-drop, take_at, drop-append-le, drop-drop}
use Rattle.std.proofs.lemmas.Slice.{drop-append-drop}
use Rattle.std.proofs.Math.Seq.{drop-length}
use Rattle.ipc_build.specs.declared.tree.Slot.{Slot}
use Rattle.ipc_build.specs.declared.tree.FlatTree.{FlatTree}
use Rattle.ipc_build.specs.Trees.{node, view, fields_view, tables_view}
use Rattle.ipc_build.specs.Trees as k
use Rattle.ipc_build.specs.Layout.{little, inline_value, inline_bytes, target_end, targets_end, target_bytes, targets, own_bytes}
use Rattle.ipc_build.specs.Layout.{inline_end, table_place}
use Rattle.ipc_build.specs.Ascends.{fields, elements, Writable}
use Rattle.ipc_scalar.proofs.Places.{length_low_bytes}
use Rattle.ipc_build.proofs.Lengths.{target_length, length_targets}
use Rattle.ipc_build.proofs.Steps.{ends_step, inline_more, inline_done, targets_more, targets_done, table_ends_more, tables_more}
use Rattle.ipc_build.proofs.Steps.{tables_done}
use Rattle.ipc_build.proofs.Pieces.{field_below, table_each, offsets_more, offsets_done}

module _ (len : ℕ) (out old new : List ℕ) (size : len ≡ length out) (same : old ≡ out) (as_long : length new ≡ length old) where
  -- the bytes of a vector, lent and written, are what was written
  pub lent : take len (new ++ drop (length new) out) ≡ new
  lent = take_at new (drop (length new) out) len (omega (arith, size, as_long, ap length same))

  -- they are as before, but for the w bytes from here on
  pub number_put : (w here : ℕ) (value : List ℕ) → here + w ≤ length out → take here new ≡ take here old
      → slice_range new here (here + w) ≡ value → drop (here + w) new ≡ drop (here + w) old
      → take len (new ++ drop (length new) out) ≡ (take here out ++ value) ++ drop (here + w) out
  number_put w here value inside before within after =
      let wide : here + w - here ≡ w = omega arith in
      let rest : drop (here + w) out ≡ drop w (drop here new) = ap (drop (here + w)) (sym same) ∙ sym after ∙ sym (drop-drop w here new) in
      rw (lent, rest, ← within, wide, ← same, ← before, append_assoc, take-append-drop w (drop here new), take-append-drop here new) refl

-- w bytes of out are new from here on, and a tail stands behind it
record Patched (w here first : ℕ) (out value tail new : List ℕ) : Type 0 where
  len : length new ≡ length out + length tail
  front : take (here + w) new ≡ take here out ++ value
  behind : drop first new ≡ drop first out ++ tail

-- it is so where w bytes were put in the place of others, and a tail behind all
patched : (w here first : ℕ) (out value tail put new : List ℕ) → length value ≡ w → here + w ≤ first → first ≤ length out
    → put ≡ (take here out ++ value) ++ drop (here + w) out → new ≡ put ++ tail → Patched w here first out value tail new
patched w here first out value tail put new size low high e f = record {
  len = rw is (len (take here out) (drop (here + w) out) before (length-drop (here + w) out));
  front = rw (is, append_assoc (take here out ++ value) (drop (here + w) out) tail)
      (take_at (take here out ++ value) (drop (here + w) out ++ tail) (here + w) seam);
  behind = rw (
    is,
    drop-append-le first ((take here out ++ value) ++ drop (here + w) out) tail whole,
    drop-append-drop (here + w) out (take here out ++ value) first low seam,
  ) refl;
}
  where
    is : new ≡ ((take here out ++ value) ++ drop (here + w) out) ++ tail
    is = f ∙ ap (λ (l : List ℕ). l ++ tail) e

    before : length (take here out) ≡ here
    before = length-take-le here out (omega arith)

    seam : length (take here out ++ value) ≡ here + w
    seam = let l = length-append (take here out) value in omega (arith, l, before, size)

    whole : first ≤ length ((take here out ++ value) ++ drop (here + w) out)
    whole =
        let l = length-append (take here out ++ value) (drop (here + w) out) in
        let m = length-drop (here + w) out in
        omega (arith, l, m, seam)

    len : (a d : List ℕ) → length a ≡ here → length d ≡ length out - (here + w)
        → length (((a ++ value) ++ d) ++ tail) ≡ length out + length tail
    len a d g h =
        let l = length-append ((a ++ value) ++ d) tail in
        let m = length-append (a ++ value) d in
        let n = length-append a value in
        omega (arith, l, m, n, g, h, size, low, high)

-- the two halves, whole
halves : (first here : ℕ) (out a b c : List ℕ) → here ≡ first → take here out ≡ a ++ b → drop first out ≡ c → out ≡ a ++ (b ++ c)
halves first here out a b c e f g =
    sym (take-append-drop first out) ∙ (ap (λ (l : List ℕ). l ++ drop first out) (ap (λ (n : ℕ). take n out) (sym e) ∙ f)
    ∙ (ap (λ (l : List ℕ). (a ++ b) ++ l) g ∙ append_assoc a b c))

-- the first i fields of a table are in their places, which begin at `at` and end where old ends, and what they point to is written
pub record FieldsPut (xs : List (ℕ × Slot)) (i here at : ℕ) (old out : List ℕ) : Type 0 where
  pub place : here + 8 * (length xs - i) ≡ length old
  pub behind : length old ≤ length out
  pub ends : targets_end (fields_view (drop i xs)) (length out) ≡ targets_end (fields_view xs) (length old)
  pub inline : take here out ++ inline_bytes 8 (fields_view (drop i xs)) here (length out)
      ≡ take at old ++ inline_bytes 8 (fields_view xs) at (length old)
  pub pointed : drop (length old) out ++ targets (fields_view (drop i xs)) (length out) ≡ targets (fields_view xs) (length old)

-- none of a table's fields is in its place when the loop begins
pub fields_start : (xs : List (ℕ × Slot)) (at : ℕ) (old : List ℕ) → length old ≡ at + 8 * length xs → FieldsPut xs 0 at at old old
fields_start xs at old e = record {
  place = omega (arith, e);
  behind = omega arith;
  ends = refl;
  inline = refl;
  pointed = ap (λ (l : List ℕ). l ++ targets (fields_view xs) (length old)) (drop-length old);
}

module _ (xs : List (ℕ × Slot)) (i : ℕ) (x : ℕ × Slot) (e : x ≡ get_or xs i x) (h : i < length xs) where
  -- one more is, when its number was put into its place and what it points to behind all that stands
  pub field_put : (here at p v : ℕ) (old out put new : List ℕ) → Writable (fields 0) (fields_view xs) → p ≡ length out
      → v ≡ inline_value (node x.1).0 (node x.1).1 here p → put ≡ (take here out ++ little 8 v) ++ drop (here + 8) out
      → new ≡ put ++ target_bytes (node x.1).0 (node x.1).1 (targets (node x.1).1) p → FieldsPut xs i here at old out
      → FieldsPut xs (i + 1) (here + 8) at old new
  field_put here at p v old out put new writable pe ve g f inv = record {
    place = omega (arith, inv.place, h);
    behind = omega (arith, one.len, inv.behind);
    ends = ends_step xs i x e h (length out) (length new) _ next inv.ends;
    inline = inline_more xs i x e h (take here out) (take (here + 8) new) _ here (length out) (length new) v next
        (ve ∙ ap (inline_value (node x.1).0 (node x.1).1 here) pe) one.front inv.inline;
    pointed = targets_more xs i x e h (drop (length old) out) (drop (length old) new) _ (length out)
        (length new) next one.behind inv.pointed;
  }
    where
      tail : List ℕ
      tail = target_bytes (node x.1).0 (node x.1).1 (targets (node x.1).1) (length out)

      one : Patched 8 here (length old) out (little 8 v) tail new
      one = patched 8 here (length old) out (little 8 v) tail put new (length_low_bytes 0 8 v) (omega (arith, inv.place, h)) inv.behind g
          (f ∙ ap (λ (n : ℕ). put ++ target_bytes (node x.1).0 (node x.1).1 (targets (node x.1).1) n) pe)

      next : length new ≡ target_end (node x.1).0 (node x.1).1 (targets_end (node x.1).1) (length out)
      next = one.len ∙ target_length (node x.1).0 (node x.1).1 (field_below xs i x e h writable)
          (λ s q w. length_targets (node x.1).1 s q w) (length out)

-- when all are, the bytes are those of the layout
pub fields_put : (xs : List (ℕ × Slot)) (i here at : ℕ) (old out : List ℕ) → length xs ≤ i → FieldsPut xs i here at old out
    → out ≡ take at old ++ (inline_bytes 8 (fields_view xs) at (length old) ++ targets (fields_view xs) (length old))
fields_put xs i here at old out h inv =
    halves (length old) here out (take at old) (inline_bytes 8 (fields_view xs) at (length old)) (targets (fields_view xs) (length old))
    (omega (arith, inv.place, h))
    (inline_done xs i here (length out) (take here out) _ h inv.inline)
    (targets_done xs i (length out) (drop (length old) out) _ h inv.pointed)

-- the same of the tables of a vector and their offsets
pub record TablesPut (xs : List FlatTree) (i here at : ℕ) (old out : List ℕ) : Type 0 where
  pub place : here + 4 * (length xs - i) ≡ length old
  pub behind : length old ≤ length out
  pub ends : targets_end (tables_view (drop i xs)) (length out) ≡ targets_end (tables_view xs) (length old)
  pub inline : take here out ++ inline_bytes 4 (tables_view (drop i xs)) here (length out)
      ≡ take at old ++ inline_bytes 4 (tables_view xs) at (length old)
  pub pointed : drop (length old) out ++ targets (tables_view (drop i xs)) (length out) ≡ targets (tables_view xs) (length old)

-- none of a vector's offsets is in its place when the loop begins
pub tables_start : (xs : List FlatTree) (at : ℕ) (old : List ℕ) → length old ≡ at + 4 * length xs → TablesPut xs 0 at at old old
tables_start xs at old e = record {
  place = omega (arith, e);
  behind = omega arith;
  ends = refl;
  inline = refl;
  pointed = ap (λ (l : List ℕ). l ++ targets (tables_view xs) (length old)) (drop-length old);
}

module _ (xs : List FlatTree) (i : ℕ) (x : FlatTree) (e : x ≡ get_or xs i x) (h : i < length xs) where
  -- one more is, when its offset was put into its place and its table behind all that stands
  pub table_put : (here at p v : ℕ) (old out put new : List ℕ) → Writable elements (tables_view xs) → p ≡ length out
      → v ≡ table_place (view x) p - here → put ≡ (take here out ++ little 4 v) ++ drop (here + 4) out
      → new ≡ put ++ (own_bytes (view x) p ++ targets (view x) (inline_end (view x) p)) → TablesPut xs i here at old out
      → TablesPut xs (i + 1) (here + 4) at old new
  table_put here at p v old out put new writable pe ve g f inv = record {
    place = omega (arith, inv.place, h);
    behind = omega (arith, one.len, inv.behind);
    ends = table_ends_more xs i x e h (length out) (length new) _ next inv.ends;
    inline = offsets_more xs i x e h (take here out) (take (here + 4) new) _ here (length out) (length new) v next
        (ve ∙ ap (λ (n : ℕ). table_place (view x) n - here) pe) one.front inv.inline;
    pointed = tables_more xs i x e h (drop (length old) out) (drop (length old) new) _ (length out)
        (length new) next one.behind inv.pointed;
  }
    where
      tail : List ℕ
      tail = own_bytes (view x) (length out) ++ targets (view x) (inline_end (view x) (length out))

      one : Patched 4 here (length old) out (little 4 v) tail new
      one = patched 4 here (length old) out (little 4 v) tail put new (length_low_bytes 0 4 v) (omega (arith, inv.place, h)) inv.behind g
          (f ∙ ap (λ (n : ℕ). put ++ (own_bytes (view x) n ++ targets (view x) (inline_end (view x) n))) pe)

      next : length new ≡ targets_end (view x) (inline_end (view x) (length out))
      next = one.len ∙ target_length k.table (view x) (table_each xs i x e h writable) (λ s q w. length_targets (view x) s q w) (length out)

-- when all are, the bytes are those of the layout
pub tables_put : (xs : List FlatTree) (i here at : ℕ) (old out : List ℕ) → length xs ≤ i → TablesPut xs i here at old out
    → out ≡ take at old ++ (inline_bytes 4 (tables_view xs) at (length old) ++ targets (tables_view xs) (length old))
tables_put xs i here at old out h inv =
    halves (length old) here out (take at old) (inline_bytes 4 (tables_view xs) at (length old)) (targets (tables_view xs) (length old))
    (omega (arith, inv.place, h))
    (offsets_done xs i here (length out) (take here out) _ h inv.inline)
    (tables_done xs i (length out) (drop (length old) out) _ h inv.pointed)
