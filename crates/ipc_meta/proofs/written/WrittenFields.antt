-- Fields that were written are those that are read.
use Rattle.std.proofs.Common.{◌≡◌, sym, ap, subst, ℕ, ◌+◌, Bool, List, [], ◌∷◌, ◌++◌, map, arith}
use Rattle.std.specs.Prelude.{Option, None, Some, Result, Ok}
use Rattle.std.specs.List.{AllByRecursion}
use Rattle.ipc_flat.specs.declared.fault.FlatFault.{FlatFault}
use Rattle.ipc_flat.specs.Views.{TableView, table_from, field}
use Rattle.ipc_flat.specs.Faulty.{◌>>=◌}
use Rattle.ipc_model.specs.Entries.{Entry, Listing, preorder, preorder_step, all_at}
use Rattle.ipc_model.specs.WellFormed.{HasGoodType, IsFieldWellFormed}
use Rattle.ipc_model.specs.declared.schema.DataType.{DataType}
use Rattle.ipc_model.specs.declared.schema.Dictionary.{Dictionary}
use Rattle.ipc_model.specs.declared.schema.Field.{Field, roll-Field, ind-Field, fold-roll-Field, map-Field}
use Rattle.ipc_model.specs.declared.schema.Field.TheOpen.{Field-F}
use Rattle.ipc_build.specs.Trees.{Tree}
use Rattle.ipc_build.specs.Encodes.{HasField, EncodesTable}
use Rattle.ipc_meta.specs.FlatFaults.{map_fault}
use Rattle.ipc_meta.specs.Tables.{text_at, flag_at}
use Rattle.ipc_meta.specs.Types.{TypeAt}
use Rattle.ipc_meta.specs.Fields.{VectorAt, PairAt, IsEncodedAs, FieldAt}
use Rattle.ipc_meta.specs.Written.{flag, with_text, with_byte, with_table, with_tables, with_pairs, with_dictionary, type_tree, field_tree}
use Rattle.ipc_model.specs.TypeCodes.{type_code}
use Rattle.ipc_meta.specs.Written as written
use Rattle.ipc_meta.proofs.Sound.{field_roll}
use Rattle.ipc_meta.proofs.StatedTypes.{type_stated}
use Rattle.ipc_meta.proofs.written.Standing.{tab, Holds, field_absent}
use Rattle.ipc_meta.proofs.written.WrittenParts.{States, text_there, flag_there, vector_lies, pairs_there, neither, no_pairs, pairs_absent}
use Rattle.ipc_meta.proofs.written.WrittenTypes.{type_there, dictionary_there}
use Rattle.ipc_model.specs.declared.limits.Limits.{Limits}

-- a field whose type and that of each below it are of a good width is stated where its table is written
abbrev pub IsWritten : Limits → Field → Type 0
IsWritten limits f = (d : ℕ) → AllByRecursion (IsFieldWellFormed limits) (preorder f d) → (b : List ℕ) → States field_tree FieldAt b f

abbrev Shown : Limits → Type 0
Shown limits = (f : Field) × IsWritten limits f

abbrev fields_of : (limits : Limits) → List (Shown limits) → List Field
fields_of limits cs = map (λ c. c.0) cs

fine_parts : (limits : Limits) (xs ys : List Entry) → AllByRecursion (IsFieldWellFormed limits) (xs ++ ys)
    → AllByRecursion (IsFieldWellFormed limits) xs × AllByRecursion (IsFieldWellFormed limits) ys
fine_parts limits [] ys h = (tt, h)
fine_parts limits (x ∷ xs) ys h = let p = fine_parts limits xs ys h.1 in ((h.0, p.0), p.1)

children_written : (limits : Limits) (cs : List (Shown limits)) (d : ℕ)
    → AllByRecursion (IsFieldWellFormed limits) (all_at d (map preorder (fields_of limits cs))) → (b : List ℕ)
    → AllByRecursion (States field_tree FieldAt b) (fields_of limits cs)
children_written limits [] d fine b = tt
children_written limits (c ∷ cs) d fine b =
    let p = fine_parts limits (preorder c.0 d) (all_at d (map preorder (fields_of limits cs))) fine in
    (c.1 d p.0 b, children_written limits cs d p.1 b)

-- a Field table by its parts
abbrev tree_with : List ℕ → Bool → DataType → Option Dictionary → List Field → List (List ℕ × List ℕ) → Tree
tree_with name nullable κ o cs ps =
    with_text 0 name (with_byte 1 (flag nullable)
    (with_byte 2 (type_code κ) (with_table 3 (type_tree κ) (with_dictionary o (with_tables 5 (map field_tree cs) (with_pairs 6 ps))))))

abbrev PartsAt : List ℕ → Bool → DataType → Option Dictionary → List Field → List (List ℕ × List ℕ) → TableView → Type 0
PartsAt name nullable κ o cs ps t =
    (text_at t 0 ≡ Ok name) × (flag_at t 1 ≡ Ok nullable) × TypeAt κ t × IsEncodedAs o t
    × VectorAt PairAt ps t 6 × VectorAt FieldAt cs t 5

parts_there : (b : List ℕ) (t : ℕ) (name : List ℕ) (nullable : Bool) (κ : DataType) (o : Option Dictionary) (cs : List Field)
    (ps : List (List ℕ × List ℕ)) → HasGoodType κ
    → AllByRecursion (States field_tree FieldAt b) cs → Holds b t (tree_with name nullable κ o cs ps)
    → PartsAt name nullable κ o cs ps (tab b t)
unfolding EncodesTable HasField
parts_there b t name nullable κ (Some d) cs ps good each h =
    let text = h.lies.0 in
    let null = h.lies.1.0 in
    let code = h.lies.1.1.0 in
    let type = h.lies.1.1.1.0 in
    let encoding = h.lies.1.1.1.1.0 in
    let children = h.lies.1.1.1.1.1.0 in (
      text_there b t 0 text.0 name text.1.0 text.3.text,
      flag_there b t 1 null.0 nullable null.1.0 null.3,
      type_stated (tab b t) κ
          (type_there b t code.0 type.0 type.3.0 κ code.1.0 code.3 type.1.0 type.3.1 good (record { stands = type.3.2; lies = type.3.3 })),
      dictionary_there b t encoding.0 encoding.3.0 d encoding.1.0 encoding.3.1 (record { stands = encoding.3.2; lies = encoding.3.3 }),
      pairs_there b t 6 ps h.lies.1.1.1.1.1.1 (λ e. h.stands.absent 6 4
          (neither (λ z. omega (arith, z)) (neither (λ z. omega (arith, z))
          (neither (λ z. omega (arith, z)) (neither (λ z. omega (arith, z))
          (neither (λ z. omega (arith, z)) (neither (λ z. omega (arith, z)) (pairs_absent 6 6 ps e)))))))),
      vector_lies field_tree FieldAt b t 5 children.0 children.3.0 cs children.1.0 children.3.1 children.3.3 each,
    )
parts_there b t name nullable κ None cs ps good each h =
    let text = h.lies.0 in
    let null = h.lies.1.0 in
    let code = h.lies.1.1.0 in
    let type = h.lies.1.1.1.0 in
    let children = h.lies.1.1.1.1.0 in (
      text_there b t 0 text.0 name text.1.0 text.3.text,
      flag_there b t 1 null.0 nullable null.1.0 null.3,
      type_stated (tab b t) κ
          (type_there b t code.0 type.0 type.3.0 κ code.1.0 code.3 type.1.0 type.3.1 good (record { stands = type.3.2; lies = type.3.3 })),
      field_absent b t 4 table_from
          (h.stands.absent 4 4 (neither (λ e. omega (arith, e))
          (neither (λ e. omega (arith, e)) (neither (λ e. omega (arith, e))
          (neither (λ e. omega (arith, e)) (neither (λ e. omega (arith, e)) (no_pairs 4 6 ps (λ e. omega (arith, e))))))))),
      pairs_there b t 6 ps h.lies.1.1.1.1.1 (λ e. h.stands.absent 6 4
          (neither (λ z. omega (arith, z)) (neither (λ z. omega (arith, z))
          (neither (λ z. omega (arith, z)) (neither (λ z. omega (arith, z)) (neither (λ z. omega (arith, z)) (pairs_absent 6 6 ps e))))))),
      vector_lies field_tree FieldAt b t 5 children.0 children.3.0 cs children.1.0 children.3.1 children.3.3 each,
    )

roll_written : (limits : Limits) (y : Field-F (Shown limits)) → IsWritten limits (roll-Field (map-Field (Shown limits) Field (λ c. c.0) y))
roll_written limits y = λ d fine b t h.
    let z : Field-F Field = map-Field (Shown limits) Field (λ c. c.0) y in
    let listed : AllByRecursion (IsFieldWellFormed limits) (preorder_step (map-Field Field Listing preorder z) d) =
    subst (λ (l : Listing). AllByRecursion (IsFieldWellFormed limits) (l d)) (fold-roll-Field Listing preorder_step z) fine in
    let held : Holds b t (tree_with z.name z.nullable z.kind z.dictionary z.children z.metadata) =
    subst (λ (f : Tree). Holds b t f) (fold-roll-Field Tree written.field_step z) h in
    let each = children_written limits y.children (d + 1) listed.1 b in
    subst (λ (F : TableView → Type 0). F (tab b t)) (sym (field_roll z))
    (parts_there b t z.name z.nullable z.kind z.dictionary z.children z.metadata listed.0.good_type each held)

field_written : (limits : Limits) (f : Field) → IsWritten limits f
field_written limits = ind-Field (IsWritten limits) (λ x y is. subst (λ z. IsWritten limits (roll-Field z)) is (roll_written limits y))

-- the columns of a schema
pub fields_written : (limits : Limits) (fs : List Field) → AllByRecursion (IsFieldWellFormed limits) (all_at 1 (map preorder fs))
    → (b : List ℕ)
    → AllByRecursion (States field_tree FieldAt b) fs
fields_written limits [] fine b = tt
fields_written limits (f ∷ fs) fine b =
    let p = fine_parts limits (preorder f 1) (all_at 1 (map preorder fs)) fine in
    (field_written limits f 1 p.0 b, fields_written limits fs p.1 b)
