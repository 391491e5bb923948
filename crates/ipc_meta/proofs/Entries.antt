-- Each entry of a schema that was read is a Field table of the metadata.
use Rattle.std.proofs.Common.{◌≡◌, ◌∙◌, sym, subst, ℕ, suc, ◌+◌, ◌-◌, ◌*◌, ◌<◌, List, [], ◌∷◌, ◌++◌, map, length, arith}
use Rattle.std.specs.Prelude.{Ok}
use Rattle.std.specs.List.{AllByRecursion}
use Rattle.std.proofs.lemmas.List.{length-map}
use Rattle.ipc_flat.specs.Views.{TableView, Elements, table_from}
use Rattle.ipc_model.specs.Entries.{Entry, Listing, entry_of, preorder, preorder_step, all_at}
use Rattle.ipc_model.specs.declared.schema.Field.{Field, roll-Field, ind-Field, fold-roll-Field, map-Field}
use Rattle.ipc_model.specs.declared.schema.Field.TheOpen.{Field-F}
use Rattle.ipc_meta.specs.Tables.{vector_at}
use Rattle.ipc_meta.specs.Types.{TypeAt}
use Rattle.ipc_meta.specs.Fields.{TablesAt, VectorAt, FieldAt, IsEncodedAs}
use Rattle.ipc_meta.specs.Reached.{column, schema, HasTable, IsDeep, at_top, one_deeper, of_child, of_column}
use Rattle.ipc_meta.proofs.Sound.{field_roll}

-- a Field table of the metadata has what the entry says
pub record StatesEntry (b : List ℕ) (s : TableView) (e : Entry) : Type 0 where
  pub table : TableView
  pub has : HasTable b column table
  pub deep : IsDeep s e.depth table
  pub kind : TypeAt e.kind table
  pub dictionary : IsEncodedAs e.dictionary table
  pub elements : Elements
  pub vector : vector_at table 5 ≡ Ok elements
  pub many : elements.len ≡ e.children

both_told : (P : Entry → Type 0) (xs ys : List Entry) → AllByRecursion P xs → AllByRecursion P ys → AllByRecursion P (xs ++ ys)
both_told P [] ys h k = k
both_told P (x ∷ xs) ys h k = (h.0, both_told P xs ys h.1 k)

-- a vector of n tables states n things
pub tables_are : {X : Type 0} (At : X → TableView → Type 0) (s : List ℕ) (xs : List X) (p n : ℕ) → TablesAt At s p n xs → n ≡ length xs
tables_are At s [] p n h = h
tables_are At s (x ∷ xs) p n h =
    let rest = tables_are At s xs (p + 4) (n - 1) h.4 in
    let l = h.1 in
    omega arith

module _ (b : List ℕ) (s : TableView) where
  abbrev StatesEntries : Field → Type 0
  StatesEntries f = (t : TableView) (d : ℕ) → HasTable b column t → IsDeep s d t → FieldAt f t
      → AllByRecursion (StatesEntry b s) (preorder f d)

  abbrev Shown : Type 0
  Shown = (f : Field) × StatesEntries f

  abbrev fields_of : List Shown → List Field
  fields_of cs = map (λ c. c.0) cs

  each_told : (z : List ℕ) (cs : List Shown) (d p n : ℕ) → TablesAt FieldAt z p n (fields_of cs)
      → ((i : ℕ) (u : TableView) → i < n → table_from z (p + i * 4) ≡ Ok u → HasTable b column u × IsDeep s d u)
      → AllByRecursion (StatesEntry b s) (all_at d (map preorder (fields_of cs)))
  each_told z [] d p n h reach = tt
  each_told z (c ∷ cs) d p n h reach =
      let first : p + 0 * 4 ≡ p = omega arith in
      both_told (StatesEntry b s) (preorder c.0 d) (all_at d (map preorder (fields_of cs)))
      (let there = reach 0 h.0 h.1 (rw first h.2) in c.1 h.0 d there.0 there.1 h.3)
      (each_told z cs d (p + 4) (n - 1) h.4 (λ i u l at. let next : p + suc i * 4
      ≡ p + 4 + i * 4 = omega arith in reach (suc i) u (omega arith) (rw next at)))

  roll_told : (y : Field-F Shown) → StatesEntries (roll-Field (map-Field Shown Field (λ c. c.0) y))
  roll_told y t d has deep h =
      let z : Field-F Field = map-Field Shown Field (λ c. c.0) y in
      let here = subst (λ (F : TableView → Type 0). F t) (field_roll z) h in
      let rolled = fold-roll-Field Listing preorder_step z in
      let entry : StatesEntry b s (entry_of (map-Field Field Listing preorder z) d) = record {
        table = t;
        has = has;
        deep = deep;
        kind = here.2;
        dictionary = here.3;
        elements = here.5.0;
        vector = here.5.1;
        many = tables_are FieldAt here.5.0.bytes (fields_of y.children) here.5.0.at here.5.0.len here.5.2
            ∙ sym (length-map (fields_of y.children) preorder);
      } in
      let below = each_told here.5.0.bytes y.children (d + 1) here.5.0.at here.5.0.len here.5.2
      (λ i u l at. (of_child has (here.5.0, i, here.5.1, l, at), one_deeper deep (here.5.0, i, here.5.1, l, at))) in
      subst (λ (l : Listing). AllByRecursion (StatesEntry b s) (l d)) (sym rolled) (entry, below)

  -- where a field was read of a Field table, that table and those below it say what its entries do
  pub field_told : (f : Field) → StatesEntries f
  field_told = ind-Field StatesEntries (λ x y is. subst (λ z. StatesEntries (roll-Field z)) is (roll_told y))

  columns_told : (z : List ℕ) (fs : List Field) (d p n : ℕ) → TablesAt FieldAt z p n fs
      → ((i : ℕ) (u : TableView) → i < n → table_from z (p + i * 4) ≡ Ok u → HasTable b column u × IsDeep s d u)
      → AllByRecursion (StatesEntry b s) (all_at d (map preorder fs))
  columns_told z [] d p n h reach = tt
  columns_told z (f ∷ fs) d p n h reach =
      let first : p + 0 * 4 ≡ p = omega arith in
      both_told (StatesEntry b s) (preorder f d) (all_at d (map preorder fs))
      (let there = reach 0 h.0 h.1 (rw first h.2) in field_told f h.0 d there.0 there.1 h.3)
      (columns_told z fs d (p + 4) (n - 1) h.4
      (λ i u l at. let next : p + suc i * 4 ≡ p + 4 + i * 4 = omega arith in reach (suc i) u (omega arith) (rw next at)))

  -- each entry of a schema that was read is said by a Field table of the metadata
  pub entries_told : (fs : List Field) → HasTable b schema s → VectorAt FieldAt fs s 1
      → AllByRecursion (StatesEntry b s) (all_at 1 (map preorder fs))
  entries_told fs has h = columns_told h.0.bytes fs 1 h.0.at h.0.len h.2
      (λ i u l at. (of_column has (h.0, i, h.1, l, at), at_top (h.0, i, h.1, l, at)))
