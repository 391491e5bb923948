-- Columns whose values of dictionaries stand as the numbers of their indices.
use Rattle.std.proofs.Common.{◌≡◌, ◌∙◌, refl, sym, ap, subst, ℕ, zero, suc, ◌+◌, ◌<◌, ◌≤◌, Bool, true, false, cond, Option, Some, None}
use Rattle.std.proofs.Common.{List, [], ◌∷◌, ◌++◌, length, map, take, get_or, append_assoc, length-append, arith, inl, inr}
use Rattle.std.specs.Prelude.{ℤ, not, ◌==◌}
use Rattle.std.specs.List.{AllByRecursion}
use Rattle.std.proofs.lemmas.Bool.{cases_lt}
use Rattle.ipc_model.specs.declared.limits.Limits.{Limits}
use Rattle.ipc_model.specs.declared.schema.Field.{Field}
use Rattle.ipc_model.specs.declared.schema.IntBits.{IntBits}
use Rattle.ipc_model.specs.declared.value.Value.{Value, out-Value}
use Rattle.ipc_model.specs.declared.value.Value.TheOpen.{Value-F}
use Rattle.ipc_model.specs.declared.value.Value.TheVariants as v
use Rattle.ipc_model.specs.declared.layout.Layout.{Layout}
use Rattle.ipc_model.specs.declared.layout.Layout.TheVariants as l
use Rattle.ipc_model.specs.Layouts.{has_validity, number_bytes}
use Rattle.ipc_column.proofs.Opened.{null_out, unsigned_out}
use Rattle.ipc_column.specs.Shapes.{Shape, bare, field, shape_of}
use Rattle.ipc_encode.specs.declared.column.ColumnBuilder.{ColumnBuilder}
use Rattle.ipc_encode.specs.declared.tree.Node.{Node}
use Rattle.ipc_encode.specs.Pieces.{Valid, Number}
use Rattle.ipc_encode.specs.Pieces as p
use Rattle.ipc_encode.specs.Bitmaps.{bitmap}
use Rattle.ipc_encode.specs.Cells.{is_null, is_set, flags, nulls, slots, slot_bytes}
use Rattle.ipc_encode.specs.Buffers.{child_values, column_buffers, padded_bytes, buffers_of, buffers_with, written_values, rows_body}
use Rattle.ipc_encode.specs.Buffers.{body_with, data_buffers}
use Rattle.ipc_encode.specs.Buffers.{piece_bytes, row_columns}
use Rattle.ipc_encode.specs.Columns.{validity_bytes, validity_in, data_in, values_length}
use Rattle.ipc_encode.specs.declared.column.ColumnData.{ColumnData}
use Rattle.ipc_encode.specs.declared.column.ColumnData.TheVariants as kind
use Rattle.ipc_encode.specs.Numbers.{Numbering, number_or, new_indices, index_unless_null, index_of, indices_of, as_number, numbers_of}
use Rattle.ipc_encode.specs.Numbers.{new_index}
use Rattle.ipc_encode.specs.Indices.{InColumn, InColumns}
use Rattle.ipc_encode.specs.Limits.{IsWithin}
use Rattle.ipc_encode.specs.Built.{HoldColumns, HoldsValues, IsColumn, data_layout}
use Rattle.ipc_encode.proofs.Growing.{joined_append, IsAt, first}
use Rattle.ipc_encode.proofs.Steps.{slots_push}
use Rattle.ipc_encode.proofs.Sizes.{column_size, column_length}

-- ---- the number of one value

-- the number of a value is null exactly where the value is
flag_number : (f : Value → ℕ) (value : Value) → is_set Valid (as_number (index_of f value)) ≡ is_set Valid value
flag_number f value = by (out-Value value)
  where
    some : is_set Valid (v.UInt (f value)) ≡ true
    some = rw (unsigned_out (f value)) refl

    by : (w : Value-F Value) → is_set Valid (as_number (index_unless_null (f value) w)) ≡ not (is_null w)
    by Value-F.Null = rw null_out refl
    by _ = some

-- ---- the numbers of values

pub numbers_length : (f : Value → ℕ) (vs : List Value) → length (numbers_of f vs) ≡ length vs
numbers_length f [] = refl
numbers_length f (value ∷ vs) = ap (λ (n : ℕ). suc n) (numbers_length f vs)

pub number_at : (f : Value → ℕ) (vs : List Value) (i : ℕ) → i < length vs
    → get_or (numbers_of f vs) i v.Null ≡ as_number (index_of f (get_or vs i v.Null))
number_at f [] i k = absurd (omega arith)
number_at f (value ∷ vs) zero k = refl
number_at f (value ∷ vs) (suc i) k = number_at f vs i (omega arith)

flags_same : (f : Value → ℕ) (vs : List Value) → flags Valid (numbers_of f vs) ≡ flags Valid vs
flags_same f [] = refl
flags_same f (value ∷ vs) = let here = flag_number f value in let rest = flags_same f vs in λ q. here q ∷ rest q

nulls_same : (f : Value → ℕ) (vs : List Value) → nulls (numbers_of f vs) ≡ nulls vs
nulls_same f [] = refl
nulls_same f (value ∷ vs) =
    ap (λ (b : Bool). cond {A = ℕ} b 0 1 + nulls (numbers_of f vs)) (flag_number f value)
    ∙ ap (λ (n : ℕ). cond {A = ℕ} (is_set Valid value) 0 1 + n) (nulls_same f vs)

data_same : (bits : IntBits) (signed : Bool) (id : ℤ) (f : Value → ℕ) (vs : List Value)
    → data_in (l.Indices bits signed id) (numbers_of f vs) ≡ data_in (l.Indices bits signed id) vs
data_same bits signed id f [] = refl
data_same bits signed id f (value ∷ vs) = ap (λ (n : ℕ). number_bytes bits + n) (data_same bits signed id f vs)

-- the validity bitmap is that of the values
pub validity_same : (f : Value → ℕ) (vs : List Value) → validity_bytes (numbers_of f vs) ≡ validity_bytes vs
validity_same f vs =
    ap (λ (n : ℕ). piece_bytes (cond (n == 0) p.Absent (p.Flags Valid)) (numbers_of f vs)) (nulls_same f vs) ∙ by (nulls vs == 0)
  where
    by : (b : Bool) → piece_bytes (cond b p.Absent (p.Flags Valid)) (numbers_of f vs) ≡ piece_bytes (cond b p.Absent (p.Flags Valid)) vs
    by true = refl
    by false = ap bitmap (flags_same f vs)

-- ---- lengths

-- the buffers of a column are as long as those of its values
stored_size : (known : Numbering) (lay : Layout) (vs : List Value)
    → length (padded_bytes (column_buffers lay (written_values known lay vs))) ≡ length (padded_bytes (column_buffers lay vs))
stored_size known (l.Indices bits signed id) vs =
    let lay = l.Indices bits signed id in
    let ns = numbers_of (known id) vs in
    column_size lay ns
    ∙ (ap (λ (n : ℕ). column_length lay n (nulls ns) (values_length lay n (data_in lay ns))) (numbers_length (known id) vs)
    ∙ (ap (λ (n : ℕ). column_length lay (length vs) n (values_length lay (length vs) (data_in lay ns))) (nulls_same (known id) vs)
    ∙ (ap (λ (n : ℕ). column_length lay (length vs) (nulls vs) (values_length lay (length vs) n)) (data_same bits signed id (known id) vs)
    ∙ sym (column_size lay vs))))
stored_size known _ vs = refl

three : (a b c : List (List ℕ)) → length (padded_bytes (a ++ (b ++ c))) ≡ length (padded_bytes a)
    + (length (padded_bytes b) + length (padded_bytes c))
three a b c =
    ap (λ (bs : List ℕ). length bs) (joined_append a (b ++ c))
    ∙ (length-append (padded_bytes a) (padded_bytes (b ++ c))
    ∙ ap (λ (n : ℕ). length (padded_bytes a) + n) (ap (λ (bs : List ℕ). length bs) (joined_append b c)
    ∙ length-append (padded_bytes b) (padded_bytes c)))

-- and so are those of all columns
pub buffers_size : (known : Numbering) (s : Shape) (given : ℕ → List Value)
    → length (padded_bytes (buffers_with known s given)) ≡ length (padded_bytes (buffers_of s given))
buffers_size known bare given = refl
buffers_size known (field lay children rest) given =
    let own = stored_size known lay (given 0) in
    let inner = buffers_size known children (child_values lay (given 0)) in
    let others = buffers_size known rest (λ j. given (suc j)) in
    let some = three (column_buffers lay (written_values known lay (given 0))) (buffers_with known children (child_values lay (given 0)))
    (buffers_with known rest (λ j. given (suc j))) in
    let all = three (column_buffers lay (given 0)) (buffers_of children (child_values lay (given 0)))
    (buffers_of rest (λ j. given (suc j))) in
    omega (arith, own, inner, others, some, all)

-- a body within the limits
pub body_within : (limits : Limits) (known : Numbering) (fields : List Field) (rows : List (List Value)) (body : List ℕ)
    → body ≡ body_with known fields rows → IsWithin limits fields rows → length body ≤ limits.body
body_within limits known fields rows body e h =
    let size : length body ≡ length (rows_body fields rows) =
    ap (λ (bs : List ℕ). length bs) e ∙ buffers_size known (shape_of fields) (row_columns rows) in
    elim (cases_lt limits.body (length body)) as (λ _. length body ≤ limits.body)
    [ inl x ↦ absurd (h.short (inr (omega (arith, x, size)))) | inr g ↦ omega (arith, g) ]

-- ---- other numbers

-- the changed index of a value is the one that it is told otherwise
pub changed_is : (number : ℤ → ℕ → Option ℕ) (known : Numbering) (id : ℤ) (value : Value)
    → new_index (number id) (index_of (known id) value) ≡ index_of (new_indices number known id) value
changed_is number known id value = by (known id value) (out-Value value)
  where
    by : (i : ℕ) (w : Value-F Value) → new_index (number id) (index_unless_null i w) ≡ index_unless_null (number_or (number id i) i) w
    by i Value-F.Null = refl
    by i _ = refl

-- and so are those of values
pub changed_are : (number : ℤ → ℕ → Option ℕ) (known : Numbering) (id : ℤ) (vs : List Value)
    → map as_number (map (new_index (number id)) (indices_of (known id) vs)) ≡ numbers_of (new_indices number known id) vs
changed_are number known id [] = refl
changed_are number known id (value ∷ vs) =
    let here = changed_is number known id value in
    let rest = changed_are number known id vs in
    λ q. as_number (here q) ∷ rest q

-- numbers that agree on a value give it one index
one_agrees : (known others : Numbering) (id : ℤ) (value : Value) (w : Value-F Value) → out-Value value ≡ w
    → (is_set Valid value ≡ true → known id value ≡ others id value) → index_unless_null (known id value) w
    ≡ index_unless_null (others id value) w
one_agrees known others id value Value-F.Null e same = refl
one_agrees known others id value _ e same = ap (λ (i : ℕ). Some i) (same (rw e refl))

module _ (known others : Numbering) where
  abbrev Same : IntBits → Bool → ℤ → Value → Type 0
  Same bits signed id value = known id value ≡ others id value

  values_agree : (id : ℤ) (vs : List Value) → AllByRecursion (λ value. is_set Valid value ≡ true → known id value ≡ others id value) vs
      → indices_of (known id) vs ≡ indices_of (others id) vs
  values_agree id [] h = refl
  values_agree id (value ∷ vs) h =
      let here = one_agrees known others id value (out-Value value) refl h.0 in
      let rest = values_agree id vs h.1 in
      λ q. here q ∷ rest q

  held_agrees : (vs : List Value) (held : ColumnData) → InColumn Same (data_layout held) vs → HoldsValues known vs held
      → HoldsValues others vs held
  held_agrees vs (kind.Indices held) same h = h ∙ values_agree held.id vs same
  held_agrees vs _ same h = h

  column_agrees : (limits : Limits) (lay : Layout) (vs : List Value) (column : ColumnBuilder) → InColumn Same lay vs
      → IsColumn known limits lay vs column → IsColumn others limits lay vs column
  column_agrees limits lay vs column same h = record {
    laid = h.laid;
    slots_are = h.slots_are;
    nulls_are = h.nulls_are;
    few = h.few;
    short = h.short;
    validity_are = h.validity_are;
    holds = held_agrees vs column.data (subst (λ (l : Layout). InColumn Same l vs) (sym h.laid) same) h.holds;
  }

  -- columns are the same under numbers that agree on their values
  pub columns_agree : (limits : Limits) (s : Shape) (nodes : List Node) (given : ℕ → List Value) → InColumns Same s given
      → HoldColumns known limits s nodes given → HoldColumns others limits s nodes given
  columns_agree limits bare [] given same h = tt
  columns_agree limits bare (m ∷ ms) given same h = absurd h
  columns_agree limits (field lay c rest) [] given same h = absurd h
  columns_agree limits (field lay c rest) (m ∷ ms) given same h = (
    (column_agrees limits lay (given 0) _ same.0 h.0.0, columns_agree limits c _ (child_values lay (given 0)) same.1.0 h.0.1),
    columns_agree limits rest ms (λ j. given (suc j)) same.1.1 h.1,
  )

-- ---- one field more

-- the buffers of one field more
pub buffers_with_next : (known : Numbering) (i : ℕ) (shape : Shape) (given : ℕ → List Value) (lay : Layout) (c : Shape)
    → IsAt i shape lay c
    → buffers_with known (first (suc i) shape) given
    ≡ buffers_with known (first i shape) given ++ buffers_with known (field lay c bare) (λ j. given i)
buffers_with_next known i bare given lay c h = absurd h
buffers_with_next known zero (field k d rest) given lay c h = rw (h.0, h.1) refl
buffers_with_next known (suc i) (field k d rest) given lay c h =
    let own = column_buffers k (written_values known k (given 0)) in
    let inner = buffers_with known d (child_values k (given 0)) in
    let later = buffers_with known (first i rest) (λ j. given (suc j)) in
    let one = buffers_with known (field lay c bare) (λ j. given (suc i)) in
    ap (λ (bs : List (List ℕ)). own ++ (inner ++ bs)) (buffers_with_next known i rest (λ j. given (suc j)) lay c h)
    ∙ (ap (λ (bs : List (List ℕ)). own ++ bs) (sym (append_assoc inner later one)) ∙ sym (append_assoc own (inner ++ later) one))

-- ---- one index more

-- the number of one index more
numbers_more : (f : Option ℕ → Option ℕ) (xs : List (Option ℕ)) (i : ℕ) → i < length xs
    → map as_number (map f (take (suc i) xs)) ≡ map as_number (map f (take i xs)) ++ as_number (f (get_or xs i None)) ∷ []
numbers_more f [] i k = absurd (omega arith)
numbers_more f (x ∷ xs) zero k = refl
numbers_more f (x ∷ xs) (suc i) k =
    ap (λ (vs : List Value). as_number (f x) ∷ vs) (numbers_more f xs i (omega arith))

-- where the numbers of the first indices stand, and then that of the next, those of one more stand
pub slots_more : (f : Option ℕ → Option ℕ) (bits : IntBits) (xs : List (Option ℕ)) (i : ℕ) (value : Value) (old so_far new : List ℕ)
    → i < length xs → value ≡ as_number (f (get_or xs i None))
    → so_far ≡ old ++ slots (Number bits) (map as_number (map f (take i xs))) → new ≡ so_far ++ slot_bytes (Number bits) value
    → new ≡ old ++ slots (Number bits) (map as_number (map f (take (suc i) xs)))
slots_more f bits xs i value old so_far new k e s n =
    let before = map as_number (map f (take i xs)) in
    n ∙ (ap (λ (bs : List ℕ). bs ++ slot_bytes (Number bits) value) s
    ∙ (append_assoc old (slots (Number bits) before) (slot_bytes (Number bits) value)
    ∙ (ap (λ (bs : List ℕ). old ++ bs) (sym (slots_push (Number bits) before value))
    ∙ (ap (λ (v : Value). old ++ slots (Number bits) (before ++ v ∷ [])) e
    ∙ ap (λ (vs : List Value). old ++ slots (Number bits) vs) (sym (numbers_more f xs i k))))))

-- the buffer of a column of indices has the numbers of its indices
pub index_data : (number : ℤ → ℕ → Option ℕ) (known : Numbering) (bits : IntBits) (signed : Bool) (id : ℤ) (vs : List Value)
    (held : List (Option ℕ)) → held ≡ indices_of (known id) vs
    → slots (Number bits) (map as_number (map (new_index (number id)) held)) ∷ []
    ≡ data_buffers (l.Indices bits signed id) (written_values (new_indices number known) (l.Indices bits signed id) vs)
index_data number known bits signed id vs held h =
    ap (λ (xs : List (Option ℕ)). slots (Number bits) (map as_number (map (new_index (number id)) xs)) ∷ []) h
    ∙ ap (λ (ws : List Value). slots (Number bits) ws ∷ []) (changed_are number known id vs)

-- a column without a validity bitmap has no buffers
pub no_buffers : (known : Numbering) (lay : Layout) (vs : List Value) → has_validity lay ≡ false
    → [] ≡ column_buffers lay (written_values known lay vs)
no_buffers known l.Null vs none = refl
no_buffers known _ vs none = absurd cc

-- the buffers of any other column are the bitmap and those of its data
pub with_bitmap : (known : Numbering) (lay : Layout) (vs : List Value) (valid : List ℕ) → has_validity lay ≡ true
    → valid ≡ validity_in lay vs
    → valid ∷ data_buffers lay (written_values known lay vs) ≡ column_buffers lay (written_values known lay vs)
with_bitmap known l.Null vs valid some v = absurd cc
with_bitmap known (l.Indices bits signed id) vs valid some v =
    ap (λ (bs : List ℕ). bs ∷ slots (Number bits) (numbers_of (known id) vs) ∷ []) (v ∙ sym (validity_same (known id) vs))
with_bitmap known lay vs valid some v = ap (λ (bs : List ℕ). bs ∷ data_buffers lay vs) v
