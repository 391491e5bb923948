-- The values in columns of indices are those of dictionaries in the rows.
use Rattle.std.proofs.Common.{◌≡◌, refl, sym, subst, ℕ, suc, ◌+◌, Bool, true, true≢false, List, [], ◌∷◌, ◌++◌, map, length}
use Rattle.std.proofs.Common.{Option, Some, None, arith}
use Rattle.std.specs.Prelude.{ℤ, not, ⊤}
use Rattle.std.specs.List.{AllByRecursion, Contains}
use Rattle.std.proofs.lemmas.List.{length-map}
use Rattle.std.proofs.lemmas.List.Elements.{Contains-append_left, Contains-append_right}
use Rattle.ipc_model.specs.WellFormed.{IsFieldWellFormed, HasFittingChildren}
use Rattle.ipc_model.specs.Entries.{Listing, preorder, preorder_step, all_at, entries}
use Rattle.ipc_model.specs.declared.limits.Limits.{Limits}
use Rattle.ipc_model.specs.declared.schema.DataType.{DataType}
use Rattle.ipc_model.specs.declared.schema.DataType.TheVariants as t
use Rattle.ipc_model.specs.declared.schema.DateUnit.TheVariants.{Day, Millisecond}
use Rattle.ipc_model.specs.declared.schema.Dictionary.{Dictionary}
use Rattle.ipc_model.specs.declared.schema.IntBits.{IntBits}
use Rattle.ipc_model.specs.declared.schema.Field.{Field, roll-Field, ind-Field, fold-roll-Field, map-Field}
use Rattle.ipc_model.specs.declared.schema.Field.TheOpen.{Field-F}
use Rattle.ipc_model.specs.declared.value.Value.{Value, out-Value}
use Rattle.ipc_model.specs.declared.value.Value.TheOpen.{Value-F}
use Rattle.ipc_model.specs.declared.layout.Layout.{Layout}
use Rattle.ipc_model.specs.declared.layout.Layout.TheVariants as l
use Rattle.ipc_model.specs.Layouts.{layout, type_layout}
use Rattle.ipc_column.specs.Shapes as shape
use Rattle.ipc_column.specs.Shapes.{Shape, bare, field, shapes, field_shape, field_layout, child_shape}
use Rattle.ipc_encode.specs.Cells.{is_null, cell, struct_member, all_items, all_fixed_items, all_parts}
use Rattle.ipc_encode.specs.Buffers.{child_values, row_columns}
use Rattle.ipc_encode.specs.Indices.{InColumn, InColumns, InRows}
use Rattle.ipc_encode.proofs.Steps.{below_none}
use Rattle.ipc_encode.proofs.HeldValues.{all_left, all_right}
use Rattle.std.specs.List.{flat_map}
use Rattle.ipc_dict.specs.Pairs.{Pairs, Walk, items_pairs, inner_pairs, own_pair, value_pairs, pairs_step, pairs, row_pairs, rows_pairs}
use Rattle.ipc_dict.specs.SchemaIds.{own, field_step, of_field, of_fields}
use Rattle.ipc_dict.proofs.pairs.CoveredColumns.{EachWithin, cells_within, parts_within, spread, flat, flat_values, flat_rows}
use Rattle.ipc_dict.proofs.pairs.CoveredColumns.{parts_are, cells_are}
use Rattle.ipc_dict.proofs.pairs.CoveredColumns.{list_pairs, fixed_pairs}

module _ (Asked : IntBits → Bool → ℤ → Value → Type 0) where
  -- it is asked of each value that stands beside the id of one of the dictionaries
  abbrev Asks : List Dictionary → Pairs → Type 0
  Asks ds ps = (d : Dictionary) (value : Value) → Contains ds d → Contains ps (d.id, value) → Asked d.index.bits d.index.signed d.id value

  -- the same of the column of each field
  abbrev AllAsk : List Field → (ℕ → List Value) → Type 0
  AllAsk [] given = ⊤
  AllAsk (f ∷ fs) given = Asks (of_field f) (items_pairs (pairs f) (given 0)) × AllAsk fs (λ j. given (suc j))

  -- ---- columns without values

  none_in : (lay : Layout) → InColumn Asked lay []
  none_in (l.Indices bits signed id) = tt
  none_in l.Null = tt
  none_in l.Bits = tt
  none_in (l.Numbers bits signed) = tt
  none_in (l.FixedBytes width) = tt
  none_in (l.VariableBytes utf8) = tt
  none_in l.Lists = tt
  none_in (l.FixedLists size) = tt
  none_in l.Structs = tt

  none_below : (s : Shape) → InColumns Asked s (λ j. [])
  none_below bare = tt
  none_below (field lay children rest) = (
    none_in lay,
    (
      subst (λ (given : ℕ → List Value). InColumns Asked children given) (λ d j. sym (below_none lay j) d) (none_below children),
      none_below rest,
    ),
  )

  none_ask : (fs : List Field) → AllAsk fs (λ j. [])
  none_ask [] = tt
  none_ask (f ∷ fs) = (λ d value named pair. absurd (omega (arith, pair.1)), none_ask fs)

  -- ---- a column of indices

  -- a value other than null stands beside the id
  own_there : (id : ℤ) (value : Value) (w : Value-F Value) → not (is_null w) ≡ true → Contains (own_pair id value w) (id, value)
  own_there id value Value-F.Null there = absurd (true≢false (sym there))
  own_there id value (Value-F.Bool truth) there = (0, omega arith, refl)
  own_there id value (Value-F.Int z) there = (0, omega arith, refl)
  own_there id value (Value-F.UInt n) there = (0, omega arith, refl)
  own_there id value (Value-F.Bytes bytes) there = (0, omega arith, refl)
  own_there id value (Value-F.Text text) there = (0, omega arith, refl)
  own_there id value (Value-F.List values) there = (0, omega arith, refl)
  own_there id value (Value-F.Struct values) there = (0, omega arith, refl)

  -- what is asked of the pairs of a dictionary is asked of the values in its column
  indices_asked : (d : Dictionary) (ds : List Dictionary) → Contains ds d → (vs : List Value)
      → Asks ds (items_pairs (λ value. own_pair d.id value (out-Value value)) vs) → InColumn Asked (layout t.Null (Some d)) vs
  indices_asked d ds named [] asks = tt
  indices_asked d ds named (value ∷ vs) asks =
      let here : Pairs = own_pair d.id value (out-Value value) in
      let more : Pairs = items_pairs (λ x. own_pair d.id x (out-Value x)) vs in (
        λ there. asks d value named (Contains-append_left here more (d.id, value) (own_there d.id value (out-Value value) there)),
        indices_asked d ds named vs (λ e x known pair. asks e x known (Contains-append_right here more (e.id, x) pair)),
      )

  -- ---- the columns of children

  -- what is asked of the pairs of several things is asked of those of each column that is cut from them
  columns_ask : {X : Type 0} (source : X → Pairs) (at : ℕ → X → Value) (fs : List Field) (xs : List X)
      → ((x : X) → EachWithin fs (λ j. at j x) (source x)) → Asks (flat_map (λ c. c) (map of_field fs)) (flat source xs)
      → AllAsk fs (λ j. map (at j) xs)
  columns_ask source at [] xs inside asks = tt
  columns_ask source at (f ∷ fs) xs inside asks =
      let more : List Dictionary = flat_map (λ c. c) (map of_field fs) in (
        λ d value named pair. asks d value (Contains-append_left (of_field f) more d named)
            (spread source (pairs f) (at 0) (λ x. (inside x).0) xs (d.id, value) pair),
        columns_ask source (λ j. at (suc j)) fs xs (λ x. (inside x).1)
            (λ d value named pair. asks d value (Contains-append_right (of_field f) more d named) pair),
      )

  -- a type's own column is no column of indices
  kind_plain : (kind : DataType) (vs : List Value) → InColumn Asked (type_layout kind) vs
  kind_plain t.Null vs = tt
  kind_plain t.Bool vs = tt
  kind_plain (t.Int bits signed) vs = tt
  kind_plain t.Binary vs = tt
  kind_plain t.Utf8 vs = tt
  kind_plain (t.FixedSizeBinary width) vs = tt
  kind_plain (t.Date Day) vs = tt
  kind_plain (t.Date Millisecond) vs = tt
  kind_plain (t.Time unit) vs = tt
  kind_plain (t.Timestamp unit timezone) vs = tt
  kind_plain (t.Duration unit) vs = tt
  kind_plain t.List vs = tt
  kind_plain (t.FixedSizeList size) vs = tt
  kind_plain t.Struct vs = tt

  -- the pairs of a list's items are those of the lists
  lists_ask : (fs : List Field) (vs : List Value) → length fs ≡ 1
      → Asks (flat_map (λ c. c) (map of_field fs)) (items_pairs (λ x. inner_pairs t.List (map pairs fs) (out-Value x)) vs)
      → AllAsk fs (λ j. all_items vs)
  lists_ask [] vs one asks = tt
  lists_ask (f ∷ []) vs one asks = (
    λ d value named pair. asks d value (Contains-append_left (of_field f) [] d named)
        (subst (λ (ps : Pairs). Contains ps (d.id, value)) (list_pairs (pairs f) vs) pair),
    tt,
  )
  lists_ask (f ∷ g ∷ fs) vs one asks = absurd (omega arith)

  -- so are those of lists of a fixed size
  fixed_ask : (size : ℕ) (fs : List Field) (vs : List Value) → length fs ≡ 1
      → Asks (flat_map (λ c. c) (map of_field fs)) (items_pairs (λ x. inner_pairs (t.FixedSizeList size) (map pairs fs) (out-Value x)) vs)
      → AllAsk fs (λ j. all_fixed_items size vs)
  fixed_ask size [] vs one asks = tt
  fixed_ask size (f ∷ []) vs one asks = (
    λ d value named pair. asks d value (Contains-append_left (of_field f) [] d named)
        (fixed_pairs f size vs (d.id, value) pair),
    tt,
  )
  fixed_ask size (f ∷ g ∷ fs) vs one asks = absurd (omega arith)

  -- those of a struct's parts are among those of the structs
  structs_ask : (fs : List Field) (vs : List Value)
      → Asks (flat_map (λ c. c) (map of_field fs)) (items_pairs (λ x. inner_pairs t.Struct (map pairs fs) (out-Value x)) vs)
      → AllAsk fs (λ j. all_parts j vs)
  structs_ask fs vs asks =
      let source : Walk = λ x. inner_pairs t.Struct (map pairs fs) (out-Value x) in
      let flatly = subst (λ (ps : Pairs). Asks (flat_map (λ c. c) (map of_field fs)) ps) (sym (flat_values source vs)) asks in
      subst (λ (given : ℕ → List Value). AllAsk fs given) (λ d j. parts_are j vs d)
      (columns_ask source struct_member fs vs (λ x. parts_within fs (out-Value x)) flatly)

  -- what is asked of the pairs of a column without a dictionary is asked of those of the columns below it
  kind_below : (kind : DataType) (fs : List Field) (vs : List Value) → HasFittingChildren kind (length fs)
      → Asks (flat_map (λ c. c) (map of_field fs)) (items_pairs (λ x. inner_pairs kind (map pairs fs) (out-Value x)) vs)
      → AllAsk fs (child_values (type_layout kind) vs)
  kind_below t.List fs vs c asks = lists_ask fs vs c asks
  kind_below (t.FixedSizeList size) fs vs c asks = fixed_ask size fs vs c asks
  kind_below t.Struct fs vs c asks = structs_ask fs vs asks
  kind_below t.Null fs vs c asks = none_ask fs
  kind_below t.Bool fs vs c asks = none_ask fs
  kind_below (t.Int bits signed) fs vs c asks = none_ask fs
  kind_below t.Binary fs vs c asks = none_ask fs
  kind_below t.Utf8 fs vs c asks = none_ask fs
  kind_below (t.FixedSizeBinary width) fs vs c asks = none_ask fs
  kind_below (t.Date Day) fs vs c asks = none_ask fs
  kind_below (t.Date Millisecond) fs vs c asks = none_ask fs
  kind_below (t.Time unit) fs vs c asks = none_ask fs
  kind_below (t.Timestamp unit timezone) fs vs c asks = none_ask fs
  kind_below (t.Duration unit) fs vs c asks = none_ask fs

  -- ---- fields

  module _ (limits : Limits) where
    -- what is asked of a field's pairs is asked of the values in its column and in those below it
    abbrev IsCovered : Field → Type 0
    IsCovered f = (depth : ℕ) → AllByRecursion (IsFieldWellFormed limits) (preorder f depth)
        → (vs : List Value) → Asks (of_field f) (items_pairs (pairs f) vs)
        → InColumn Asked (field_layout f) vs × InColumns Asked (child_shape f) (child_values (field_layout f) vs)

    all_covered : (fs : List Field) → AllByRecursion IsCovered fs → (depth : ℕ)
        → AllByRecursion (IsFieldWellFormed limits) (all_at depth (map preorder fs)) → (given : ℕ → List Value)
        → AllAsk fs given → InColumns Asked (shapes (map field_shape fs)) given
    all_covered [] each depth fine given asks = tt
    all_covered (f ∷ fs) each depth fine given asks =
        let more = all_at depth (map preorder fs) in
        let here = each.0 depth (all_left (IsFieldWellFormed limits) (preorder f depth) more fine) (given 0) asks.0 in
        let others = all_right (IsFieldWellFormed limits) (preorder f depth) more fine in
        (here.0, (here.1, all_covered fs each.1 depth others (λ j. given (suc j)) asks.1))

    covered_in : (kind : DataType) (d : Option Dictionary) (fs : List Field) → AllByRecursion IsCovered fs → (depth : ℕ)
        → AllByRecursion (IsFieldWellFormed limits) (all_at depth (map preorder fs)) → HasFittingChildren kind (length fs)
        → (vs : List Value) → Asks (own d ++ flat_map (λ c. c) (map of_field fs))
        (items_pairs (λ x. value_pairs d kind (map pairs fs) x) vs)
        → InColumn Asked (layout kind d) vs × InColumns Asked (shapes (map field_shape fs)) (child_values (layout kind d) vs)
    covered_in kind None fs each depth fine fitting vs asks = (
      kind_plain kind vs,
      all_covered fs each depth fine (child_values (type_layout kind) vs) (kind_below kind fs vs fitting asks),
    )
    covered_in kind (Some d) fs each depth fine fitting vs asks = (
      indices_asked d (d ∷ flat_map (λ c. c) (map of_field fs)) (0, omega arith, refl) vs asks,
      none_below (shapes (map field_shape fs)),
    )

    abbrev Shown : Type 0
    Shown = (f : Field) × IsCovered f

    each_shown : (cs : List Shown) → AllByRecursion IsCovered (map (λ c. c.0) cs)
    each_shown [] = tt
    each_shown (c ∷ cs) = (c.1, each_shown cs)

    layer_covered : (y : Field-F Shown) → IsCovered (roll-Field (map-Field Shown Field (λ c. c.0) y))
    layer_covered y = λ depth fine vs asks.
        let z : Field-F Field = map-Field Shown Field (λ c. c.0) y in
        let formed : field_shape (roll-Field z) ≡ (layout z.kind z.dictionary, shapes (map field_shape z.children)) =
        fold-roll-Field (Layout × Shape) shape.shape_step z in
        let listed : AllByRecursion (IsFieldWellFormed limits) (preorder_step (map-Field Field Listing preorder z) depth) =
        subst (λ (l : Listing). AllByRecursion (IsFieldWellFormed limits) (l depth)) (fold-roll-Field Listing preorder_step z) fine in
        let fitting : HasFittingChildren z.kind (length z.children) =
        subst (λ (n : ℕ). HasFittingChildren z.kind n) (length-map z.children preorder) listed.0.fitting_children in
        let named : of_field (roll-Field z) ≡ own z.dictionary ++ flat_map (λ c. c) (map of_field z.children) =
        fold-roll-Field (List Dictionary) field_step z in
        let given : Asks (own z.dictionary ++ flat_map (λ c. c) (map of_field z.children)) (items_pairs (pairs (roll-Field z)) vs) =
        subst (λ (ds : List Dictionary). Asks ds (items_pairs (pairs (roll-Field z)) vs)) named asks in
        let walked = subst (λ (walk : Walk). Asks (own z.dictionary ++ flat_map (λ c. c) (map of_field z.children)) (items_pairs walk vs))
        (fold-roll-Field Walk pairs_step z) given in
        subst (λ (s : Layout × Shape). InColumn Asked s.0 vs × InColumns Asked s.1 (child_values s.0 vs)) (sym formed)
        (covered_in z.kind z.dictionary z.children (each_shown y.children) (depth + 1) listed.1 fitting vs walked)

    field_covered : (f : Field) → IsCovered f
    field_covered = ind-Field IsCovered (λ x y is. subst (λ z. IsCovered (roll-Field z)) is (layer_covered y))

    each_covered : (fs : List Field) → AllByRecursion IsCovered fs
    each_covered [] = tt
    each_covered (f ∷ fs) = (field_covered f, each_covered fs)

  -- what is asked of each value of a dictionary in rows is asked of each value in their columns of indices
  pub covered : (limits : Limits) (fields : List Field) (rows : List (List Value))
      → AllByRecursion (IsFieldWellFormed limits) (entries fields)
      → ((d : Dictionary) (value : Value) → Contains (of_fields fields) d → Contains (rows_pairs fields rows) (d.id, value)
      → Asked d.index.bits d.index.signed d.id value)
      → InRows Asked fields rows
  covered limits fields rows fine asks =
      let flatly = subst (λ (ps : Pairs). Asks (of_fields fields) ps) (sym (flat_rows fields rows)) asks in
      let each = columns_ask (row_pairs fields) cell fields rows (cells_within fields) flatly in
      all_covered limits fields (each_covered limits fields) 1 fine (row_columns rows)
      (subst (λ (given : ℕ → List Value). AllAsk fields given) (λ d j. cells_are j rows d) each)
