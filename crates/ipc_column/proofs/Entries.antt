-- Fields need as many nodes as they are, descendants counted.
use Rattle.std.proofs.Common.{◌≡◌, refl, ap, ℕ, ◌+◌, List, [], ◌∷◌, map, length, subst, arith, length-append}
use Rattle.ipc_model.specs.Entries.{Entry, Listing, preorder, preorder_step, all_at, entries}
use Rattle.ipc_model.specs.declared.schema.Field.{Field, roll-Field, ind-Field, fold-roll-Field, map-Field}
use Rattle.ipc_model.specs.declared.schema.Field.TheOpen.{Field-F}
use Rattle.ipc_model.specs.declared.layout.Layout.{Layout}
use Rattle.ipc_column.specs.Shapes.{Shape, shape_of, shape_step, child_shape, node_count}

abbrev IsCounted : Field → Type 0
IsCounted f = (d : ℕ) → 1 + node_count (child_shape f) ≡ length (preorder f d)

abbrev Counted : Type 0
Counted = (f : Field) × IsCounted f

abbrev fields_of : List Counted → List Field
fields_of cs = map (λ c. c.0) cs

all_counted : (cs : List Counted) (d : ℕ) → node_count (shape_of (fields_of cs)) ≡ length (all_at d (map preorder (fields_of cs)))
unfolding node_count
all_counted [] d = omega arith
all_counted (c ∷ cs) d =
    omega (arith, c.1 d, all_counted cs d, length-append (preorder c.0 d) (all_at d (map preorder (fields_of cs))))

counted_step : (y : Field-F Counted) → IsCounted (roll-Field (map-Field Counted Field (λ c. c.0) y))
counted_step y = λ d.
    let z : Field-F Field = map-Field Counted Field (λ c. c.0) y in
    let list : preorder (roll-Field z) d ≡ preorder_step (map-Field Field Listing preorder z) d =
    subst (λ (l : Listing). preorder (roll-Field z) d ≡ l d) (fold-roll-Field Listing preorder_step z) refl in
    let shape : child_shape (roll-Field z) ≡ shape_of z.children =
    ap (λ (s : Layout × Shape). s.1) (fold-roll-Field (Layout × Shape) shape_step z) in
    omega (arith, ap node_count shape, ap (λ (l : List Entry). length l) list, all_counted y.children (d + 1))

counted : (f : Field) → IsCounted f
counted = ind-Field IsCounted (λ x y is. subst (λ z. IsCounted (roll-Field z)) is (counted_step y))

-- fields need a node for each field, those below them counted
pub nodes_are_entries : (fs : List Field) → node_count (shape_of fs) ≡ length (entries fs)
unfolding node_count
nodes_are_entries [] = omega arith
nodes_are_entries (f ∷ fs) = omega (arith, counted f 1, nodes_are_entries fs, length-append (preorder f 1) (all_at 1 (map preorder fs)))
