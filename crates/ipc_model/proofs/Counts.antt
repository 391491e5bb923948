-- A schema has as many fields as entries, and so no more among one field's children.
use Rattle.std.proofs.Common.{◌≡◌, refl, ℕ, zero, suc, ◌+◌, ◌^◌, ◌<◌, ◌≤◌, List, [], ◌∷◌, length, map, get_or, ap, subst, length-append}
use Rattle.std.proofs.Common.{◌∙◌, arith}
use Rattle.std.proofs.lemmas.List.Sums.{sum-map, sum_by-cons}
use Rattle.std.specs.List.{sum_by}
use Rattle.ipc_model.specs.RowFaults.{field_count, count_step}
use Rattle.ipc_model.specs.Entries.{Listing, preorder, preorder_step, all_at, entries}
use Rattle.ipc_model.specs.RowFaults.{HasShortPaths}
use Rattle.ipc_model.specs.declared.schema.Field.{Field, roll-Field, out-Field, fold_out-Field, ind-Field, fold-roll-Field, map-Field}
use Rattle.ipc_model.specs.declared.schema.Field.TheOpen.{Field-F}
use Rattle.ipc_model.specs.declared.schema.Schema.{Schema}

count_out : (f : Field) → field_count f ≡ sum_by field_count (out-Field f).children + 1
count_out f = fold_out-Field ℕ count_step f ∙ ap (λ n. n + 1) (sum-map field_count (out-Field f).children)

-- a field among others counts no more than all together
pub count_at : (fs : List Field) (i : ℕ) (f : Field) → i < length fs → f ≡ get_or fs i f → field_count f ≤ sum_by field_count fs
count_at [] i f lt is = absurd (omega arith)
count_at (g ∷ gs) zero f lt is = omega (arith, ap field_count is, sum_by-cons field_count g gs)
count_at (g ∷ gs) (suc i) f lt is = omega (arith, count_at gs i f (omega arith) is, sum_by-cons field_count g gs)

-- and there are no more fields than are counted
pub length_counts : (fs : List Field) → length fs ≤ sum_by field_count fs
length_counts [] = omega arith
length_counts (f ∷ fs) = omega (arith, count_out f, length_counts fs, sum_by-cons field_count f fs)

abbrev IsCounted : Field → Type 0
IsCounted f = (d : ℕ) → length (preorder f d) ≡ field_count f

abbrev Shown : Type 0
Shown = (f : Field) × IsCounted f

abbrev fields_of : List Shown → List Field
fields_of cs = map (λ c. c.0) cs

all_counted : (cs : List Shown) (d : ℕ) → length (all_at d (map preorder (fields_of cs))) ≡ sum_by field_count (fields_of cs)
all_counted [] d = refl
all_counted (c ∷ cs) d = omega (
  arith,
  length-append (preorder c.0 d) (all_at d (map preorder (fields_of cs))),
  c.1 d,
  all_counted cs d,
  sum_by-cons field_count c.0 (fields_of cs),
)

counted_layer : (y : Field-F Shown) → IsCounted (roll-Field (map-Field Shown Field (λ c. c.0) y))
counted_layer y = λ d.
    let z : Field-F Field = map-Field Shown Field (λ c. c.0) y in
    let g : preorder (roll-Field z) d ≡ preorder_step (map-Field Field Listing preorder z) d =
    ap (λ (l : Listing). l d) (fold-roll-Field Listing preorder_step z) in
    omega (arith, ap length g, fold-roll-Field ℕ count_step z, sum-map field_count z.children, all_counted y.children (d + 1))

counted : (f : Field) → IsCounted f
counted = ind-Field IsCounted (λ x y is. subst (λ z. IsCounted (roll-Field z)) is (counted_layer y))

columns : (fs : List Field) → length (entries fs) ≡ sum_by field_count fs
columns [] = refl
columns (f ∷ fs) = omega (
  arith,
  length-append (preorder f 1) (all_at 1 (map preorder fs)),
  counted f 1,
  columns fs,
  sum_by-cons field_count f fs,
)

-- the fields of a schema are counted as its entries are
pub few_counted : (s : Schema) → HasShortPaths s → sum_by field_count s.fields ≤ 2 ^ 32
few_counted s short = omega (arith, columns s.fields, short.few)
