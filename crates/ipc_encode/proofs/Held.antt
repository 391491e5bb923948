-- Rows that columns hold, within the limits.
use Rattle.std.proofs.Common.{refl, ◌≡◌, ◌∙◌, sym, ap, subst, ℕ, suc, ◌+◌, ◌<◌, ◌≤◌, List, [], ◌∷◌, ◌++◌, length, take, arith, inl}
use Rattle.std.proofs.Common.{inr, append_assoc, false, Result, Ok, Err, IfErr}
use Rattle.ipc_model.specs.declared.fault.WriteFault.TheVariants as fault
use Rattle.ipc_model.specs.declared.layout.Layout.{Layout}
use Rattle.ipc_model.specs.declared.limits.Limits.{Limits}
use Rattle.ipc_model.specs.declared.schema.Field.{Field}
use Rattle.ipc_model.specs.declared.value.Value.{Value}
use Rattle.ipc_column.specs.Shapes.{Shape, bare, field, node_count, shape_of}
use Rattle.ipc_encode.specs.Buffers.{child_values, row_columns, rows_body, column_buffers, padded_bytes}
use Rattle.ipc_encode.specs.Built.{HoldColumns, HoldsRows, StoresRows, AreColumnsWithin, ArePushesRefused, AreCountsOf, IsPushRefused}
use Rattle.ipc_encode.specs.Built.{AreShares}
use Rattle.ipc_encode.specs.Cells.{cell}
use Rattle.ipc_encode.specs.ColumnSizes.{as_rows}
use Rattle.ipc_encode.specs.Faults.{write_fault}
use Rattle.ipc_encode.specs.Limits.{IsTooMany, AreColumnsTooLong, IsWithin, AreRowsRefused}
use Rattle.ipc_encode.specs.Numbers.{Numbering}
use Rattle.ipc_encode.specs.Writing.{AllStored, AreStored}
use Rattle.ipc_encode.specs.declared.builder.Builder.{Builder}
use Rattle.ipc_encode.specs.declared.column.ColumnCounts.{ColumnCounts}
use Rattle.ipc_encode.specs.declared.fault.PushFault.{PushFault}
use Rattle.ipc_encode.specs.declared.fault.PushFault.TheVariants as push
use Rattle.ipc_encode.specs.declared.tree.Node.{Node, out-Node}
use Rattle.ipc_encode.proofs.Growing.{held_few, held_short, all_refused, first_refused, own_refused, parts_length}
use Rattle.ipc_encode.proofs.Growing.{few_leaf, short_leaf}
use Rattle.ipc_encode.proofs.Shares.{columns_share, columns_wider}
use Rattle.ipc_encode.proofs.Sizes.{data_some, held_stored, items_some}
use Rattle.ipc_encode.proofs.Steps.{cells_append, cells_length}

-- ---- the columns of the rows that a builder holds

-- the columns of one row more
pub columns_push : (rows : List (List Value)) (row : List Value)
    → ◌≡◌ {A = ℕ → List Value} (λ j. row_columns rows j ++ cell j row ∷ []) (row_columns (rows ++ row ∷ []))
columns_push rows row = λ d j. sym (cells_append j rows (row ∷ [])) d

-- the columns of a builder that stores rows hold them
pub stored_held : (known : Numbering) (limits : Limits) (fields : List Field) (rows : List (List Value)) (builder : Builder)
    → StoresRows known limits fields rows builder → HoldsRows known limits fields rows builder
stored_held known limits fields rows builder h =
    record { limits_are = h.limits_are; works = h.works; count = h.count; bounded = h.bounded; columns_are = h.columns_are }

-- a builder that holds rows within the limits stores them
pub still_stored : (known : Numbering) (limits : Limits) (fields : List Field) (rows : List (List Value)) (builder : Builder)
    → IsWithin limits fields rows → HoldsRows known limits fields rows builder → StoresRows known limits fields rows builder
still_stored known limits fields rows builder within h = record {
  limits_are = h.limits_are;
  works = h.works;
  count = h.count;
  bounded = h.bounded;
  columns_are = h.columns_are;
  within = within;
}

-- the texts of all columns are UTF-8
pub all_stored : (known : Numbering) (limits : Limits) (shape : Shape) (nodes : List Node) (given : ℕ → List Value)
    → HoldColumns known limits shape nodes given
    → AllStored shape given
all_stored known limits bare nodes given h = tt
all_stored known limits (field l c rest) [] given h = absurd h
all_stored known limits (field l c rest) (m ∷ ms) given h =
    let own = subst (λ (lay : Layout). AreStored lay (given 0)) h.0.0.laid
    (held_stored known (given 0) (out-Node m).column.data h.0.0.holds) in
    (own, (all_stored known limits c _ (child_values l (given 0)) h.0.1, all_stored known limits rest ms (λ j. given (suc j)) h.1))

-- rows that are few enough, and whose columns are within the limits, are within them
pub rows_within : (limits : Limits) (fields : List Field) (rows : List (List Value)) → length rows ≤ limits.slots
    → AreColumnsWithin limits (shape_of fields) (row_columns rows) → IsWithin limits fields rows
rows_within limits fields rows few h = record { few = not_many; short = not_long }
  where
    not_many : IsTooMany limits fields rows → ⊥
    not_many (inl many) = omega (arith, few, many)
    not_many (inr (inl long)) = h.few long
    not_many (inr (inr items)) = h.short (items_some (shape_of fields) (row_columns rows) items)

    not_long : AreColumnsTooLong limits fields rows → ⊥
    not_long (inl long) = h.short (data_some (shape_of fields) (row_columns rows) long)
    not_long (inr more) = let body = h.body in omega (arith, body, more)

-- columns that are built, whose body isn't too long
pub built_within : (known : Numbering) (limits : Limits) (fields : List Field) (rows : List (List Value)) (nodes : List Node)
    → length rows ≤ limits.slots
    → HoldColumns known limits (shape_of fields) nodes (row_columns rows) → (AreColumnsTooLong limits fields rows → ⊥)
    → IsWithin limits fields rows
built_within known limits fields rows nodes few h short = record { few = not_many; short = short }
  where
    not_many : IsTooMany limits fields rows → ⊥
    not_many (inl many) = omega (arith, few, many)
    not_many (inr (inl long)) = held_few known limits (shape_of fields) nodes (row_columns rows) h long
    not_many (inr (inr items)) = held_short known limits (shape_of fields) nodes (row_columns rows) h
        (items_some (shape_of fields) (row_columns rows) items)

-- columns that keep to shares of a body
pub shared_within : (known : Numbering) (limits bounds : Limits) (fields : List Field) (rows : List (List Value)) (nodes : List Node)
    → length rows ≤ limits.slots → bounds.slots ≤ limits.slots → bounds.body ≤ limits.body
    → AreShares limits (node_count (shape_of fields)) bounds → HoldColumns known bounds (shape_of fields) nodes (row_columns rows)
    → IsWithin limits fields rows
shared_within known limits bounds fields rows nodes few narrow less shares h =
    let wide = columns_wider known bounds limits narrow less (shape_of fields) nodes (row_columns rows) h in
    built_within known limits fields rows nodes few wide not_long
  where
    not_long : AreColumnsTooLong limits fields rows → ⊥
    not_long (inl long) = held_short known bounds (shape_of fields) nodes (row_columns rows) h
        (data_some (shape_of fields) (row_columns rows) long)
    not_long (inr more) =
        let share = columns_share known bounds (shape_of fields) nodes (row_columns rows) h in omega (arith, share, shares, more)

-- the columns of a builder that shares nothing any more
pub unshared : (known : Numbering) (limits : Limits) (fields : List Field) (rows : List (List Value)) (old new : Builder)
    → new ≡ record old { bounds = old.limits; is_shared = false } → StoresRows known limits fields rows old
    → HoldsRows known limits fields rows new
unshared known limits fields rows old new e h =
    subst (λ (b : Builder). HoldsRows known limits fields rows b) (sym e) (record {
      limits_are = h.limits_are;
      works = h.works;
      count = h.count;
      bounded = record {
        few = omega (arith, ap (λ (l : Limits). l.slots) h.limits_are);
        less = omega (arith, ap (λ (l : Limits). l.body) h.limits_are);
        shared = λ never. absurd cc;
      };
      columns_are = subst (λ (l : Limits). HoldColumns known l (shape_of fields) old.nodes.items (row_columns rows)) (sym h.limits_are)
          (columns_wider known old.bounds limits h.bounded.few h.bounded.less (shape_of fields) old.nodes.items (row_columns rows)
          h.columns_are);
    })

-- columns that are built leave so much of a body
pub not_too_long : (known : Numbering) (limits : Limits) (fields : List Field) (rows : List (List Value)) (nodes : List Node) (left : ℕ)
    → HoldColumns known limits (shape_of fields) nodes (row_columns rows) → length (rows_body fields rows) + left ≡ limits.body
    → AreColumnsTooLong limits fields rows → ⊥
not_too_long known limits fields rows nodes left h e (inl long) = held_short known limits (shape_of fields) nodes
    (row_columns rows) h (data_some (shape_of fields) (row_columns rows) long)
not_too_long known limits fields rows nodes left h e (inr more) = omega (arith, e, more)

-- why columns don't take rows is why the rows are refused
pub rows_refused : (limits : Limits) (fields : List Field) (rows : List (List Value)) (e : PushFault)
    → ArePushesRefused limits (shape_of fields) (row_columns rows) e → AreRowsRefused limits fields rows (write_fault e)
rows_refused limits fields rows push.TooMany h = inr h
rows_refused limits fields rows push.DictionaryFull h = absurd h
rows_refused limits fields rows push.Failed h = absurd h
rows_refused limits fields rows _ h = h

-- only memory is wanting for rows that are within the limits
pub only_memory : (limits : Limits) (fields : List Field) (rows : List (List Value)) (e : PushFault) → IsWithin limits fields rows
    → AreRowsRefused limits fields rows (write_fault e) → e ≡ push.OutOfMemory
only_memory limits fields rows push.TooLong within h = absurd (within.short h)
only_memory limits fields rows push.TooMany within h = absurd (within.few h)
only_memory limits fields rows push.OutOfMemory within h = refl
only_memory limits fields rows _ within h = absurd h

-- ---- the numbers of one column, whose values are rows of one value each

-- values are the column of their rows
own_column : (values : List Value) → row_columns (as_rows values) 0 ≡ values
own_column [] = refl
own_column (v ∷ vs) = ap (λ (ws : List Value). v ∷ ws) (own_column vs)

-- and behind other rows they stand behind those
pub more_column : (rows : List (List Value)) (values : List Value) → row_columns (rows ++ as_rows values) 0 ≡ row_columns rows 0 ++ values
more_column rows values = cells_append 0 rows (as_rows values) ∙ ap (λ (ws : List Value). row_columns rows 0 ++ ws) (own_column values)

module _ (limits : Limits) (fields : List Field) (rows : List (List Value)) (l : Layout) where
  -- a column that was counted, whose buffers are within a body
  pub counts_within : (counts : ColumnCounts) (len : ℕ) → shape_of fields ≡ field l bare bare
      → AreCountsOf limits l (row_columns rows 0) counts
      → len ≡ length (padded_bytes (column_buffers l (row_columns rows 0))) → len ≤ limits.body → IsWithin limits fields rows
  counts_within counts len shape h size fits =
      let count = cells_length 0 rows in
      let whole = parts_length l bare bare (row_columns rows) in
      rows_within limits fields rows (omega (arith, count, h.few))
      (subst (λ (s : Shape). AreColumnsWithin limits s (row_columns rows)) (sym shape) (record {
        few = few_leaf limits.slots l (row_columns rows 0) h.few;
        short = short_leaf l (row_columns rows 0) h.short;
        body = omega (arith, whole, size, fits);
      }))

  -- one whose buffers aren't
  pub counts_past : (len : ℕ) → shape_of fields ≡ field l bare bare → len ≡ length (padded_bytes (column_buffers l (row_columns rows 0)))
      → limits.body < len → AreColumnsTooLong limits fields rows
  counts_past len shape size more =
      let whole = parts_length l bare bare (row_columns rows) in
      rows_refused limits fields rows push.TooLong
      (subst (λ (s : Shape). ArePushesRefused limits s (row_columns rows) push.TooLong) (sym shape)
      (inr (omega (arith, whole, size, more))))

  -- why a column doesn't take one of the values is why the rows with all of them are refused
  pub value_refused : (values : List Value) (i : ℕ) (v : Value) (e : PushFault) → shape_of fields ≡ field l bare bare
      → take (i + 1) values ≡ take i values ++ v ∷ []
      → IsPushRefused limits l ((row_columns rows 0 ++ take i values) ++ v ∷ []) e
      → AreRowsRefused limits fields (rows ++ as_rows values) (write_fault e)
  value_refused values i v e shape next h =
      let Refused = λ (ws : List Value). ArePushesRefused limits (field l bare bare) (λ j. ws) e in
      let first : (row_columns rows 0 ++ take i values) ++ v ∷ [] ≡ row_columns rows 0 ++ take (i + 1) values =
      append_assoc (row_columns rows 0) (take i values) (v ∷ []) ∙ ap (λ (ws : List Value). row_columns rows 0 ++ ws) (sym next) in
      let here = subst Refused first (own_refused limits l bare bare (λ j. (row_columns rows 0 ++ take i values) ++ v ∷ []) e h) in
      let all = subst Refused (sym (more_column rows values)) (all_refused limits l bare (row_columns rows 0) values (i + 1) e here) in
      rows_refused limits fields (rows ++ as_rows values) e
      (subst (λ (s : Shape). ArePushesRefused limits s (row_columns (rows ++ as_rows values)) e) (sym shape)
      (first_refused limits l bare bare (row_columns (rows ++ as_rows values)) e all))

-- a refusal that isn't one for memory isn't one as a fault of a writer
pub not_memory : (e : PushFault) → (e ≡ push.OutOfMemory → ⊥) → write_fault e ≡ fault.OutOfMemory → ⊥
not_memory push.OutOfMemory other e = other refl
not_memory _ other e = cc

-- a body that is too long refuses the rows
pub body_refused : {T : Type 0} (limits : Limits) (fields : List Field) (rows : List (List Value)) (r : Result T PushFault)
    → IfErr r (λ e. (e ≡ push.TooLong) × AreColumnsTooLong limits fields rows)
    → IfErr r (λ e. AreRowsRefused limits fields rows (write_fault e) × (write_fault e ≡ fault.OutOfMemory → ⊥))
body_refused limits fields rows (Ok x) h = tt
body_refused limits fields rows (Err e) h =
    subst (λ (x : PushFault). AreRowsRefused limits fields rows (write_fault x) × (write_fault x ≡ fault.OutOfMemory → ⊥))
    (sym h.0) (h.1, λ same. cc)
