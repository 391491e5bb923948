-- A loop that writes has written one field more.
use Rattle.std.proofs.Common.{◌≡◌, ℕ, ◌+◌, ◌-◌, ◌≤◌, ◌<◌, List, ◌++◌, length, take, drop, get_or, ap, sym, ◌∙◌, append_assoc, arith}
use Rattle.std.proofs.lemmas.List.{append-nil, take_all}
use Rattle.std.proofs.Math.ListN.{drop_of_length-le}
use Rattle.ipc_build.specs.declared.tree.Slot.{Slot}
use Rattle.ipc_build.specs.declared.tree.FlatTree.{FlatTree}
use Rattle.ipc_build.specs.Trees.{node, view, fields_view, tables_view}
use Rattle.ipc_build.specs.Layout.{little, padding, inline_bytes, inline_value, targets_end, target_end, target_bytes, targets, inline_end}
use Rattle.ipc_build.specs.Layout.{own_bytes}
use Rattle.ipc_build.proofs.Views.{front}

module _ (xs : List (ℕ × Slot)) (i : ℕ) (x : ℕ × Slot) (e : x ≡ get_or xs i x) (h : i < length xs) where
  -- where what slot i points to ends at q, what the slots behind it point to begins there and ends where it all did
  pub ends_step : (p q n : ℕ) → q ≡ target_end (node x.1).0 (node x.1).1 (targets_end (node x.1).1) p
      → targets_end (fields_view (drop i xs)) p ≡ n → targets_end (fields_view (drop (i + 1) xs)) q ≡ n
  unfolding targets_end
  ends_step p q n f g = ap (targets_end (fields_view (drop (i + 1) xs))) f
      ∙ (sym (ap (λ (ys : List (ℕ × Slot)). targets_end (fields_view ys) p) (front xs i x e h)) ∙ g)

  -- a loop over a table's fields has written one more, when it wrote its number or its offset in 8 bytes
  pub inline_more : (out now base : List ℕ) (a p q y : ℕ) → q ≡ target_end (node x.1).0 (node x.1).1 (targets_end (node x.1).1) p
      → y ≡ inline_value (node x.1).0 (node x.1).1 a p → now ≡ out ++ little 8 y
      → out ++ inline_bytes 8 (fields_view (drop i xs)) a p ≡ base → now ++ inline_bytes 8 (fields_view (drop (i + 1) xs)) (a + 8) q ≡ base
  unfolding inline_bytes
  inline_more out now base a p q y f g w inv =
      let rest = fields_view (drop (i + 1) xs) in
      let step : inline_bytes 8 (fields_view (drop i xs)) a p
      ≡ little 8 (inline_value (node x.1).0 (node x.1).1 a p)
      ++ inline_bytes 8 rest (a + 8) (target_end (node x.1).0 (node x.1).1 (targets_end (node x.1).1) p) =
      ap (λ (ys : List (ℕ × Slot)). inline_bytes 8 (fields_view ys) a p) (front xs i x e h) in
      ap (λ (l : List ℕ). l ++ inline_bytes 8 rest (a + 8) q) w
      ∙ (append_assoc out (little 8 y) (inline_bytes 8 rest (a + 8) q)
      ∙ (ap (λ (n : ℕ). out ++ (little 8 n ++ inline_bytes 8 rest (a + 8) q)) g
      ∙ (ap (λ (n : ℕ). out ++ (little 8 (inline_value (node x.1).0 (node x.1).1 a p) ++ inline_bytes 8 rest (a + 8) n)) f
      ∙ (ap (λ (l : List ℕ). out ++ l) (sym step) ∙ inv))))

-- when no slot is left, all fields are written
pub inline_done : (xs : List (ℕ × Slot)) (i a p : ℕ) (out base : List ℕ) → length xs ≤ i
    → out ++ inline_bytes 8 (fields_view (drop i xs)) a p ≡ base → out ≡ base
unfolding inline_bytes
inline_done xs i a p out base h inv = sym (append-nil out)
    ∙ (ap (λ (ys : List (ℕ × Slot)). out ++ inline_bytes 8 (fields_view ys) a p) (sym (drop_of_length-le xs h)) ∙ inv)

-- bytes that were made n longer have n zeros behind them
pub resized : (len m n : ℕ) (old new : List ℕ) → len ≡ length old → m ≡ length old → new ≡ take (len + n) old ++ padding (len + n - m)
    → new ≡ old ++ padding n
resized len m n old new e g f =
    f ∙ (ap (λ (l : List ℕ). l ++ padding (len + n - m)) (take_all (len + n) old (omega (arith, e)))
    ∙ ap (λ (k : ℕ). old ++ padding k) (omega (arith, e, g)))

module _ (xs : List (ℕ × Slot)) (i : ℕ) (x : ℕ × Slot) (e : x ≡ get_or xs i x) (h : i < length xs) where
  -- a loop over a table's fields has written what one more points to, when that stands behind the rest
  pub targets_more : (out now base : List ℕ) (p q : ℕ) → q ≡ target_end (node x.1).0 (node x.1).1 (targets_end (node x.1).1) p
      → now ≡ out ++ target_bytes (node x.1).0 (node x.1).1 (targets (node x.1).1) p → out ++ targets (fields_view (drop i xs)) p ≡ base
      → now ++ targets (fields_view (drop (i + 1) xs)) q ≡ base
  unfolding targets
  targets_more out now base p q f w inv =
      let rest = fields_view (drop (i + 1) xs) in
      let own = target_bytes (node x.1).0 (node x.1).1 (targets (node x.1).1) p in
      let step : targets (fields_view (drop i xs)) p
      ≡ own ++ targets rest (target_end (node x.1).0 (node x.1).1 (targets_end (node x.1).1) p) =
      ap (λ (ys : List (ℕ × Slot)). targets (fields_view ys) p) (front xs i x e h) in
      ap (λ (l : List ℕ). l ++ targets rest q) w
      ∙ (append_assoc out own (targets rest q)
      ∙ (ap (λ (n : ℕ). out ++ (own ++ targets rest n)) f ∙ (ap (λ (l : List ℕ). out ++ l) (sym step) ∙ inv)))

-- when no slot is left, all that the fields point to is written
pub targets_done : (xs : List (ℕ × Slot)) (i p : ℕ) (out base : List ℕ) → length xs ≤ i → out ++ targets (fields_view (drop i xs)) p ≡ base
    → out ≡ base
unfolding targets
targets_done xs i p out base h inv = sym (append-nil out)
    ∙ (ap (λ (ys : List (ℕ × Slot)). out ++ targets (fields_view ys) p) (sym (drop_of_length-le xs h)) ∙ inv)

-- where a piece was written, and the others are still to come
pub more : (out now piece rest all base : List ℕ) → now ≡ out ++ piece → all ≡ piece ++ rest → out ++ all ≡ base → now ++ rest ≡ base
more out now piece rest all base e f g =
    ap (λ (l : List ℕ). l ++ rest) e ∙ (append_assoc out piece rest ∙ (ap (λ (l : List ℕ). out ++ l) (sym f) ∙ g))

module _ (xs : List FlatTree) (i : ℕ) (x : FlatTree) (e : x ≡ get_or xs i x) (h : i < length xs) where
  -- where table i of a vector ends at q with all below it, the tables behind it begin there and end where they all did
  pub table_ends_more : (p q n : ℕ) → q ≡ targets_end (view x) (inline_end (view x) p) → targets_end (tables_view (drop i xs)) p ≡ n
      → targets_end (tables_view (drop (i + 1) xs)) q ≡ n
  unfolding targets_end
  table_ends_more p q n f g = ap (targets_end (tables_view (drop (i + 1) xs))) f
      ∙ (sym (ap (λ (ys : List FlatTree). targets_end (tables_view ys) p) (front xs i x e h)) ∙ g)

  -- a loop over a vector's tables has written one more, when it wrote its vtable, the table and all below it
  pub tables_more : (out now base : List ℕ) (p q : ℕ) → q ≡ targets_end (view x) (inline_end (view x) p)
      → now ≡ out ++ (own_bytes (view x) p ++ targets (view x) (inline_end (view x) p)) → out ++ targets (tables_view (drop i xs)) p ≡ base
      → now ++ targets (tables_view (drop (i + 1) xs)) q ≡ base
  unfolding targets
  tables_more out now base p q f w inv =
      let rest = tables_view (drop (i + 1) xs) in
      let own = own_bytes (view x) p ++ targets (view x) (inline_end (view x) p) in
      let step : targets (tables_view (drop i xs)) p ≡ own ++ targets rest (targets_end (view x) (inline_end (view x) p)) =
      ap (λ (ys : List FlatTree). targets (tables_view ys) p) (front xs i x e h) in
      more out now own (targets rest q) (targets (tables_view (drop i xs)) p) base w
      (step ∙ ap (λ (n : ℕ). own ++ targets rest n) (sym f)) inv

-- when no table is left, all tables are written
pub tables_done : (xs : List FlatTree) (i p : ℕ) (out base : List ℕ) → length xs ≤ i → out ++ targets (tables_view (drop i xs)) p ≡ base
    → out ≡ base
unfolding targets
tables_done xs i p out base h inv = sym (append-nil out)
    ∙ (ap (λ (ys : List FlatTree). out ++ targets (tables_view ys) p) (sym (drop_of_length-le xs h)) ∙ inv)
