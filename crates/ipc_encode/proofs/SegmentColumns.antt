-- Columns that are added one after another to a list of segments.
use Rattle.std.proofs.Common.{◌≡◌, ◌∙◌, refl, sym, ap, ℕ, zero, suc, ◌+◌, ◌<◌, ◌≤◌, List, [], ◌∷◌, ◌++◌, length, take, get_or}
use Rattle.std.proofs.Common.{append_assoc, arith, Some, slice_get, length-append, ℤ, pos, subst, inl, inr}
use Rattle.std.proofs.Common.{true}
use Rattle.std.proofs.lemmas.Bool.{cases_lt, false≢true}
use Rattle.std.proofs.lemmas.List.{append-nil, take_more}
use Rattle.std.proofs.lemmas.Option.{get_or_from_slice_get}
use Rattle.ipc_model.specs.Layouts.{layout}
use Rattle.ipc_model.specs.declared.layout.Layout.{Layout}
use Rattle.ipc_model.specs.declared.layout.Layout.TheVariants as l
use Rattle.ipc_model.specs.declared.limits.Limits.{Limits}
use Rattle.ipc_model.specs.declared.schema.Field.{Field, out-Field}
use Rattle.ipc_model.specs.declared.schema.Field.TheFolds.{fold_out-Field}
use Rattle.ipc_model.specs.declared.value.Value.{Value}
use Rattle.ipc_column.specs.Nested.{Nested}
use Rattle.ipc_column.specs.Shapes.{Shape, bare, field, child_shape, field_layout, field_shape, shape_step, shape_of}
use Rattle.ipc_encode.specs.Buffers.{padded_bytes, ranges_from, child_values, buffers_with, column_buffers, data_buffers}
use Rattle.ipc_encode.specs.Buffers.{row_columns, row_nodes, row_buffers_with, nodes_of, written_values}
use Rattle.ipc_encode.specs.Built.{ArePushesRefused, IsColumn}
use Rattle.ipc_encode.specs.Buffers.{column_nulls}
use Rattle.ipc_encode.specs.Columns.{validity_bytes}
use Rattle.ipc_encode.specs.Faults.{write_fault}
use Rattle.ipc_encode.specs.Buffers.{SomeColumn}
use Rattle.ipc_encode.specs.Limits.{HasLongData, HasLongItems, HasLongNode, HasExcessData, AreRowsRefused, IsWithin}
use Rattle.ipc_encode.specs.Numbers.{Numbering}
use Rattle.ipc_encode.specs.Segments.{AddsBuffers, IsBodyRefused, bytes_of_segments, segment_bytes, AddsColumns, AreRefusedAfter}
use Rattle.ipc_encode.specs.Segments.{ArePartsOf, AreSegmented, IsEmpty}
use Rattle.ipc_encode.specs.WholeColumns.{AreFullColumns, IsFullColumn, is_taken_whole}
use Rattle.ipc_encode.specs.Writing.{AllStored, AreStored}
use Rattle.ipc_encode.specs.declared.fault.PushFault.{PushFault}
use Rattle.ipc_encode.specs.declared.fault.PushFault.TheVariants as push
use Rattle.ipc_encode.specs.declared.column.ColumnBuilder.{ColumnBuilder}
use Rattle.ipc_encode.specs.declared.segments.Segment.{Segment}
use Rattle.ipc_encode.specs.declared.segments.Draft.{Draft}
use Rattle.ipc_encode.specs.declared.segments.SegmentedParts.{SegmentedParts}
use Rattle.ipc_model.specs.declared.fault.WriteFault.{WriteFault}
use Rattle.ipc_model.specs.declared.fault.WriteFault.TheVariants as write
use Rattle.ipc_encode.proofs.Growing.{joined_append, ranges_append, parts_length, IsAt, bytes_next, few_next, first, first_within}
use Rattle.ipc_encode.proofs.Growing.{long_node_at, nodes_next, short_next, some_at, few_leaf, short_leaf}
use Rattle.ipc_encode.proofs.Held.{rows_within}
use Rattle.ipc_encode.proofs.Sizes.{column_short, held_stored}
use Rattle.ipc_encode.proofs.Indexed.{buffers_size, buffers_with_next}

-- ---- buffers that are added one after another to a list of segments

-- the bytes of some segments and then of others
pub joined_both : (xs ys : List Segment) → bytes_of_segments (xs ++ ys) ≡ bytes_of_segments xs ++ bytes_of_segments ys
joined_both [] ys = refl
joined_both (x ∷ xs) ys = ap (λ (bs : List ℕ). segment_bytes x ++ bs) (joined_both xs ys)
    ∙ sym (append_assoc (segment_bytes x) (bytes_of_segments xs) (bytes_of_segments ys))

-- the bytes of one segment more
pub joined_push : (xs new : List Segment) (x : Segment) → new ≡ xs ++ x ∷ [] → bytes_of_segments new ≡ bytes_of_segments xs
    ++ segment_bytes x
joined_push xs new x e = ap bytes_of_segments e ∙ (joined_both xs (x ∷ [])
    ∙ ap (λ (bs : List ℕ). bytes_of_segments xs ++ bs) (append-nil (segment_bytes x)))

-- the bytes of the first segments and the next one
pub joined_next : (segments : List Segment) (i : ℕ) (s : Segment) → i < length segments → s ≡ get_or segments i s
    → bytes_of_segments (take (i + 1) segments) ≡ bytes_of_segments (take i segments) ++ segment_bytes s
joined_next segments i s inside is =
    joined_push (take i segments) (take (i + 1) segments) s
    (take_more segments i s inside ∙ ap (λ (x : Segment). take i segments ++ x ∷ []) (sym is))

-- no buffer more
pub adds_none : (d : Draft) → AddsBuffers d d []
adds_none d = record {
  buffers = sym (append-nil d.buffers.items);
  body = sym (append-nil (bytes_of_segments d.segments.items));
  len = omega arith;
}

-- the bytes of some buffers and then of others
pub padded_both : (xs ys : List (List ℕ)) → length (padded_bytes (xs ++ ys)) ≡ length (padded_bytes xs) + length (padded_bytes ys)
padded_both xs ys = ap (λ (bs : List ℕ). length bs) (joined_append xs ys) ∙ length-append (padded_bytes xs) (padded_bytes ys)

-- some buffers and then others
pub adds_both : (d e f : Draft) (xs ys : List (List ℕ)) → AddsBuffers d e xs → AddsBuffers e f ys → AddsBuffers d f (xs ++ ys)
adds_both d e f xs ys a b =
    let size = padded_both xs ys in
    let first = a.len in
    let second = b.len in
    record {
      buffers = b.buffers ∙ (ap (λ (n : ℕ). e.buffers.items ++ ranges_from n ys) a.len
          ∙ (ap (λ (rs : List (ℤ × ℤ)). rs ++ ranges_from (d.len + length (padded_bytes xs)) ys) a.buffers
          ∙ (append_assoc d.buffers.items (ranges_from d.len xs) (ranges_from (d.len + length (padded_bytes xs)) ys)
          ∙ ap (λ (rs : List (ℤ × ℤ)). d.buffers.items ++ rs) (sym (ranges_append xs ys d.len)))));
      body = b.body ∙ (ap (λ (bs : List ℕ). bs ++ padded_bytes ys) a.body
          ∙ (append_assoc (bytes_of_segments d.segments.items) (padded_bytes xs) (padded_bytes ys)
          ∙ ap (λ (bs : List ℕ). bytes_of_segments d.segments.items ++ bs) (sym (joined_append xs ys))));
      len = omega (arith, size, first, second);
    }

-- buffers may be written in another way
pub adds_as : (d e : Draft) (xs ys : List (List ℕ)) → xs ≡ ys → AddsBuffers d e xs → AddsBuffers d e ys
adds_as d e xs ys same a = subst (λ (bs : List (List ℕ)). AddsBuffers d e bs) same a

-- ---- refusals

-- what is refused of a body is refused of a longer one
pub refused_longer : (limits : Limits) (m n : ℕ) (e : PushFault) → m ≤ n → IsBodyRefused limits m e → IsBodyRefused limits n e
refused_longer limits m n push.TooLong le h = omega (arith, le, h)
refused_longer limits m n _ le h = h

-- the first of several buffers is refused
pub refused_first : (limits : Limits) (len : ℕ) (xs ys : List (List ℕ)) (e : PushFault)
    → IsBodyRefused limits (len + length (padded_bytes xs)) e
    → IsBodyRefused limits (len + length (padded_bytes (xs ++ ys))) e
refused_first limits len xs ys e h =
    let size = padded_both xs ys in
    refused_longer limits (len + length (padded_bytes xs)) (len + length (padded_bytes (xs ++ ys))) e (omega (arith, size)) h

-- a later one of them is refused
pub refused_later : (limits : Limits) (d mid : Draft) (xs ys : List (List ℕ)) (e : PushFault) → AddsBuffers d mid xs
    → IsBodyRefused limits (mid.len + length (padded_bytes ys)) e → IsBodyRefused limits (d.len + length (padded_bytes (xs ++ ys))) e
refused_later limits d mid xs ys e a h =
    let size = padded_both xs ys in
    let first = a.len in
    refused_longer limits (mid.len + length (padded_bytes ys)) (d.len + length (padded_bytes (xs ++ ys))) e (omega (arith, size, first)) h

-- ---- columns that are added one after another to a list of segments

-- ---- a column without children

pub leaf_added : (limits : Limits) (known : Numbering) (lay : Layout) (vs : List Value) (bs : List (List ℕ)) (count none : ℕ)
    (d e : Draft)
    → length vs ≡ count → column_nulls lay vs ≡ none → column_buffers lay (written_values known lay vs) ≡ bs
    → e.nodes.items ≡ d.nodes.items ++ (pos count, pos none) ∷ [] → AddsBuffers d e bs → count ≤ limits.slots
    → (HasExcessData lay vs → ⊥) → AreStored lay vs → e.len ≤ limits.body
    → AddsColumns limits known (field lay bare bare) (λ j. vs) d e
leaf_added limits known lay vs bs count none d e size nil same nodes adds few short texts within = record {
  nodes = nodes ∙ (ap (λ (n : ℕ). d.nodes.items ++ (pos n, pos none) ∷ []) (sym size)
      ∙ ap (λ (n : ℕ). d.nodes.items ++ (pos (length vs), pos n) ∷ []) (sym nil));
  buffers = adds_as d e _ _ (sym (append-nil (column_buffers lay (written_values known lay vs)) ∙ same)) adds;
  few = few_leaf limits.slots lay vs (λ many. omega (arith, few, size, many));
  short = short_leaf lay vs short;
  stores = (texts, (tt, tt));
  body = within;
}

-- its bitmap is the first buffer, where it has one
bitmap_first : (lay : Layout) (vs : List Value) → (lay ≡ l.Null → ⊥) → column_buffers lay vs ≡ validity_bytes vs ∷ data_buffers lay vs
bitmap_first l.Null vs h = absurd (h refl)
bitmap_first _ vs h = refl

-- its values are written as they are, unless they are indices
written_plain : (known : Numbering) (lay : Layout) (vs : List Value) → is_taken_whole lay ≡ true → written_values known lay vs ≡ vs
written_plain known (l.Indices bits signed id) vs h = absurd (false≢true h)
written_plain known _ vs h = refl

pub bitmap_and_data : (known : Numbering) (lay : Layout) (vs : List Value) → is_taken_whole lay ≡ true → (lay ≡ l.Null → ⊥)
    → column_buffers lay (written_values known lay vs) ≡ validity_bytes vs ∷ data_buffers lay vs
bitmap_and_data known lay vs whole some = ap (column_buffers lay) (written_plain known lay vs whole) ∙ bitmap_first lay vs some

-- its buffers are refused
pub leaf_refused : (limits : Limits) (len : ℕ) (lay : Layout) (vs : List Value) (bs : List (List ℕ)) (fault : PushFault)
    → column_buffers lay vs ≡ bs → IsBodyRefused limits (len + length (padded_bytes bs)) fault
    → AreRefusedAfter limits len (field lay bare bare) (λ j. vs) fault
leaf_refused limits len lay vs bs push.TooLong same h =
    let whole = parts_length lay bare bare (λ j. vs) in
    let size = ap (λ (xs : List (List ℕ)). length (padded_bytes xs)) same in
    inr (omega (arith, whole, size, h))
leaf_refused limits len lay vs bs push.TooMany same h = absurd h
leaf_refused limits len lay vs bs _ same h = h

-- its bitmap, in the draft after its node
pub begun : (d mid e : Draft) (bs : List ℕ) (vs : List Value) → bs ≡ validity_bytes vs → AddsBuffers d mid []
    → AddsBuffers mid e (bs ∷ []) → AddsBuffers d e (validity_bytes vs ∷ [])
begun d mid e bs vs same none one =
    adds_as d e (bs ∷ []) (validity_bytes vs ∷ []) (ap (λ (b : List ℕ). b ∷ []) same) (adds_both d mid e [] (bs ∷ []) none one)

-- its bitmap is refused
pub bitmap_refused : (limits : Limits) (d mid : Draft) (lay : Layout) (vs : List Value) (bs : List ℕ) (fault : PushFault)
    → (lay ≡ l.Null → ⊥) → bs ≡ validity_bytes vs → AddsBuffers d mid []
    → IsBodyRefused limits (mid.len + length (padded_bytes (bs ∷ []))) fault
    → AreRefusedAfter limits d.len (field lay bare bare) (λ j. vs) fault
bitmap_refused limits d mid lay vs bs fault some same none h =
    leaf_refused limits d.len lay vs (bs ∷ data_buffers lay vs) fault
    (bitmap_first lay vs some ∙ ap (λ (b : List ℕ). b ∷ data_buffers lay vs) (sym same))
    (refused_first limits d.len (bs ∷ []) (data_buffers lay vs) fault (refused_later limits d mid [] (bs ∷ []) fault none h))

-- its other buffers are refused
pub data_refused : (limits : Limits) (d mid : Draft) (lay : Layout) (vs : List Value) (fault : PushFault)
    → (lay ≡ l.Null → ⊥) → AddsBuffers d mid (validity_bytes vs ∷ [])
    → IsBodyRefused limits (mid.len + length (padded_bytes (data_buffers lay vs))) fault
    → AreRefusedAfter limits d.len (field lay bare bare) (λ j. vs) fault
data_refused limits d mid lay vs fault some adds h =
    leaf_refused limits d.len lay vs (validity_bytes vs ∷ data_buffers lay vs) fault (bitmap_first lay vs some)
    (refused_later limits d mid (validity_bytes vs ∷ []) (data_buffers lay vs) fault adds h)

-- ---- a column and those of its children

-- a column, and then its children
pub with_children : (limits : Limits) (known : Numbering) (lay : Layout) (c : Shape) (vs : List Value) (d mid e : Draft)
    → AddsColumns limits known (field lay bare bare) (λ j. vs) d mid → AddsColumns limits known c (child_values lay vs) mid e
    → AddsColumns limits known (field lay c bare) (λ j. vs) d e
with_children limits known lay c vs d mid e own inner =
    let node : ℤ × ℤ = (pos (length vs), pos (column_nulls lay vs)) in
    let nodes = nodes_of c (child_values lay vs) in
    let buffers = column_buffers lay (written_values known lay vs) in
    let more = buffers_with known c (child_values lay vs) in
    record {
      nodes = inner.nodes ∙ (ap (λ (ns : List (ℤ × ℤ)). ns ++ nodes) own.nodes
          ∙ (append_assoc d.nodes.items (node ∷ []) nodes
          ∙ ap (λ (ns : List (ℤ × ℤ)). d.nodes.items ++ node ∷ ns) (sym (append-nil nodes))));
      buffers = adds_as d e ((buffers ++ []) ++ more) (buffers ++ (more ++ []))
          (λ i. (append-nil buffers) i ++ (sym (append-nil more)) i)
          (adds_both d mid e (buffers ++ []) more own.buffers inner.buffers);
      few = λ h. long_either own.few inner.few h;
      short = λ h. past_either own.short inner.short h;
      stores = (own.stores.0, (inner.stores, tt));
      body = inner.body;
    }
  where
    long_either : (HasLongNode limits.slots (field lay bare bare) (λ j. vs) → ⊥) → (HasLongNode limits.slots c (child_values lay vs) → ⊥)
        → HasLongNode limits.slots (field lay c bare) (λ j. vs) → ⊥
    long_either first second (inl long) = first (inl long)
    long_either first second (inr (inl child)) = second child
    long_either first second (inr (inr none)) = none

    past_either : (SomeColumn HasExcessData (field lay bare bare) (λ j. vs) → ⊥) → (SomeColumn HasExcessData c (child_values lay vs) → ⊥)
        → SomeColumn HasExcessData (field lay c bare) (λ j. vs) → ⊥
    past_either first second (inl long) = first (inl long)
    past_either first second (inr (inl child)) = second child
    past_either first second (inr (inr none)) = none

-- the column is refused
pub own_refused_after : (limits : Limits) (len : ℕ) (lay : Layout) (c : Shape) (vs : List Value) (fault : PushFault)
    → AreRefusedAfter limits len (field lay bare bare) (λ j. vs) fault → AreRefusedAfter limits len (field lay c bare) (λ j. vs) fault
own_refused_after limits len lay c vs push.TooLong (inl (inl own)) = inl (inl own)
own_refused_after limits len lay c vs push.TooLong (inl (inr (inl none))) = absurd none
own_refused_after limits len lay c vs push.TooLong (inl (inr (inr none))) = absurd none
own_refused_after limits len lay c vs push.TooLong (inr more) =
    let own = parts_length lay bare bare (λ j. vs) in
    let all = parts_length lay c bare (λ j. vs) in
    inr (omega (arith, own, all, more))
own_refused_after limits len lay c vs push.TooMany (inl (inl own)) = inl (inl own)
own_refused_after limits len lay c vs push.TooMany (inl (inr (inl none))) = absurd none
own_refused_after limits len lay c vs push.TooMany (inl (inr (inr none))) = absurd none
own_refused_after limits len lay c vs push.TooMany (inr (inl own)) = inr (inl own)
own_refused_after limits len lay c vs push.TooMany (inr (inr (inl none))) = absurd none
own_refused_after limits len lay c vs push.TooMany (inr (inr (inr none))) = absurd none
own_refused_after limits len lay c vs _ h = h

-- its children are refused
pub children_refused : (limits : Limits) (known : Numbering) (lay : Layout) (c : Shape) (vs : List Value) (d mid : Draft)
    (fault : PushFault)
    → AddsColumns limits known (field lay bare bare) (λ j. vs) d mid → AreRefusedAfter limits mid.len c (child_values lay vs) fault
    → AreRefusedAfter limits d.len (field lay c bare) (λ j. vs) fault
children_refused limits known lay c vs d mid push.TooLong own (inl long) = inl (inr (inl long))
children_refused limits known lay c vs d mid push.TooLong own (inr more) =
    let len = own.buffers.len in
    let size = buffers_size known (field lay bare bare) (λ j. vs) in
    let first = parts_length lay bare bare (λ j. vs) in
    let all = parts_length lay c bare (λ j. vs) in
    inr (omega (arith, len, size, first, all, more))
children_refused limits known lay c vs d mid push.TooMany own (inl slots) = inl (inr (inl slots))
children_refused limits known lay c vs d mid push.TooMany own (inr items) = inr (inr (inl items))
children_refused limits known lay c vs d mid _ own h = h

-- ---- a column that was built

pub built_added : (limits kept : Limits) (known other : Numbering) (lay : Layout) (vs : List Value) (column : ColumnBuilder) (d e : Draft)
    → kept.slots ≤ limits.slots → IsColumn known kept lay vs column
    → e.nodes.items ≡ d.nodes.items ++ (pos (length vs), pos (column_nulls lay vs)) ∷ []
    → AddsBuffers d e (column_buffers lay (written_values other lay vs)) → e.len ≤ limits.body
    → AddsColumns limits other (field lay bare bare) (λ j. vs) d e
built_added limits kept known other lay vs column d e most h nodes adds within =
    leaf_added limits other lay vs (column_buffers lay (written_values other lay vs)) (length vs) (column_nulls lay vs) d e refl refl refl
    nodes adds few (λ long. column_short known kept lay vs column h long)
    (subst (λ (x : Layout). AreStored x vs) h.laid (held_stored known vs column.data h.holds)) within
  where
    few : length vs ≤ limits.slots
    few = elim (cases_lt kept.slots (length vs)) as (λ _. length vs ≤ limits.slots)
        [ inl many ↦ absurd (h.few many) | inr fits ↦ omega (arith, fits, most) ]

-- its buffers are refused
pub built_refused : (limits : Limits) (other : Numbering) (len : ℕ) (lay : Layout) (vs : List Value) (fault : PushFault)
    → IsBodyRefused limits (len + length (padded_bytes (column_buffers lay (written_values other lay vs)))) fault
    → AreRefusedAfter limits len (field lay bare bare) (λ j. vs) fault
built_refused limits other len lay vs push.TooLong h =
    let size = buffers_size other (field lay bare bare) (λ j. vs) in
    let own = ap (λ (bs : List (List ℕ)). length (padded_bytes bs)) (append-nil (column_buffers lay (written_values other lay vs))) in
    inr (omega (arith, size, own, h))
built_refused limits other len lay vs push.TooMany h = absurd h
built_refused limits other len lay vs _ h = h

-- why columns do not take values is why they are not added to a body
pub pushes_refused : (limits : Limits) (len : ℕ) (shape : Shape) (given : ℕ → List Value) (fault : PushFault)
    → ArePushesRefused limits shape given fault → AreRefusedAfter limits len shape given fault
pushes_refused limits len shape given push.TooLong (inl long) = inl long
pushes_refused limits len shape given push.TooLong (inr body) = inr (omega (arith, body))
pushes_refused limits len shape given _ h = h

-- ---- one field more

stored_next : (i : ℕ) (shape : Shape) (given : ℕ → List Value) (lay : Layout) (c : Shape) → IsAt i shape lay c
    → AllStored (first i shape) given → AllStored (field lay c bare) (λ j. given i) → AllStored (first (suc i) shape) given
stored_next i bare given lay c at so one = absurd at
stored_next zero (field k d rest) given lay c at so one = rw (at.0, at.1) one
stored_next (suc i) (field k d rest) given lay c at so one =
    (so.0, (so.1.0, stored_next i rest (λ j. given (suc j)) lay c at so.1.1 one))

pub columns_none : (limits : Limits) (known : Numbering) (given : ℕ → List Value) (d : Draft) → d.len ≤ limits.body
    → AddsColumns limits known bare given d d
columns_none limits known given d within = record {
  nodes = sym (append-nil d.nodes.items);
  buffers = adds_none d;
  few = λ h. h;
  short = λ h. h;
  stores = tt;
  body = within;
}

pub columns_next : (limits : Limits) (known : Numbering) (i : ℕ) (shape : Shape) (given : ℕ → List Value) (lay : Layout) (c : Shape)
    (d mid e : Draft)
    → IsAt i shape lay c → AddsColumns limits known (first i shape) given d mid
    → AddsColumns limits known (field lay c bare) (λ j. given i) mid e → AddsColumns limits known (first (suc i) shape) given d e
columns_next limits known i shape given lay c d mid e at so one =
    let own = nodes_of (field lay c bare) (λ j. given i) in
    record {
      nodes = one.nodes ∙ (ap (λ (ns : List (ℤ × ℤ)). ns ++ own) so.nodes
          ∙ (append_assoc d.nodes.items (nodes_of (first i shape) given) own
          ∙ ap (λ (ns : List (ℤ × ℤ)). d.nodes.items ++ ns) (sym (nodes_next i shape given lay c at))));
      buffers = adds_as d e _ _ (sym (buffers_with_next known i shape given lay c at)) (adds_both d mid e _ _ so.buffers one.buffers);
      few = few_next limits.slots i shape given lay c at so.few one.few;
      short = short_next i shape given lay c at so.short one.short;
      stores = stored_next i shape given lay c at so.stores one.stores;
      body = one.body;
    }

-- the next field is refused
pub columns_refused : (limits : Limits) (known : Numbering) (i : ℕ) (shape : Shape) (given : ℕ → List Value) (lay : Layout) (c : Shape)
    (d mid : Draft) (fault : PushFault)
    → IsAt i shape lay c → AddsColumns limits known (first i shape) given d mid
    → AreRefusedAfter limits mid.len (field lay c bare) (λ j. given i) fault → AreRefusedAfter limits d.len shape given fault
columns_refused limits known i shape given lay c d mid push.TooLong at so (inl long) = inl
    (some_at HasLongData i shape given lay c at long)
columns_refused limits known i shape given lay c d mid push.TooLong at so (inr more) =
    let len = so.buffers.len in
    let same = buffers_size known (first i shape) given in
    let next = bytes_next i shape given lay c at in
    let within = first_within (suc i) shape given in
    inr (omega (arith, len, same, next, within, more))
columns_refused limits known i shape given lay c d mid push.TooMany at so (inl slots) = inl
    (long_node_at limits.slots i shape given lay c at slots)
columns_refused limits known i shape given lay c d mid push.TooMany at so (inr items) = inr
    (some_at HasLongItems i shape given lay c at items)
columns_refused limits known i shape given lay c d mid _ at so h = h

-- ---- all fields

-- field i has its layout and its children
pub shape_at : (fields : List Field) (i : ℕ) (f : Field) → slice_get fields i ≡ Some f
    → IsAt i (shape_of fields) (field_layout f) (child_shape f)
shape_at [] i f e = absurd (cc (e))
shape_at (g ∷ gs) zero f e =
    let same : g ≡ f = get_or_from_slice_get (g ∷ gs) zero f g e in
    (ap (λ (x : Field). field_layout x) same, ap (λ (x : Field). child_shape x) same)
shape_at (g ∷ gs) (suc i) f e = shape_at gs i f e

-- field i has them by its place
pub shape_in : (fields : List Field) (i : ℕ) (f : Field) → i < length fields → f ≡ get_or fields i f
    → IsAt i (shape_of fields) (field_layout f) (child_shape f)
shape_in [] i f k e = absurd (omega (arith, k))
shape_in (g ∷ gs) zero f k e = (ap (λ (x : Field). field_layout x) (sym e), ap (λ (x : Field). child_shape x) (sym e))
shape_in (g ∷ gs) (suc i) f k e = shape_in gs i f (omega (arith, k)) e

-- the first of all fields are all
pub all_fields : (fields : List Field) (i : ℕ) → i ≡ length fields → first i (shape_of fields) ≡ shape_of fields
all_fields [] zero e = refl
all_fields [] (suc i) e = refl
all_fields (g ∷ gs) zero e = absurd (omega (arith, e))
all_fields (g ∷ gs) (suc i) e =
    ap (λ (s : Shape). field (field_layout g) (child_shape g) s) (all_fields gs i (omega (arith, e)))

-- fields whose columns are whole are as many as these
pub whole_fields : (fields : List Field) (views : List Nested) (given : ℕ → List Value) → AreFullColumns (shape_of fields) views given
    → length fields ≡ length views
whole_fields [] [] given h = refl
whole_fields [] (v ∷ vs) given h = absurd h
whole_fields (f ∷ fs) [] given h = absurd h
whole_fields (f ∷ fs) (v ∷ vs) given h = let more = whole_fields fs vs (λ j. given (suc j)) h.1 in omega (arith, more)

-- columns are whole where each of them is, and there is one for each field
pub whole_all : (fields : List Field) (views : List Nested) (given : ℕ → List Value) → length fields ≡ length views
    → ((i : ℕ) → i < length fields → (f : Field) (v : Nested) → slice_get fields i ≡ Some f → slice_get views i ≡ Some v
    → IsFullColumn (field_layout f) (child_shape f) v (given i))
    → AreFullColumns (shape_of fields) views given
whole_all [] [] given size each = tt
whole_all [] (v ∷ vs) given size each = absurd (omega arith)
whole_all (f ∷ fs) [] given size each = absurd (omega arith)
whole_all (f ∷ fs) (v ∷ vs) given size each = (
  each 0 (omega arith) f v refl refl,
  whole_all fs vs (λ j. given (suc j)) (omega arith) (λ i m g w at is. each (suc i) (omega arith) g w at is),
)

-- the layout of a field, and the shape of its children
pub field_parts : (f : Field) → field_shape f ≡ (layout (out-Field f).kind (out-Field f).dictionary, shape_of (out-Field f).children)
field_parts f = fold_out-Field (Layout × Shape) shape_step f

-- rows whose columns are added to an empty body are within the limits
pub columns_within : (limits : Limits) (known : Numbering) (fields : List Field) (rows : List (List Value)) (d e : Draft)
    → d.len ≡ 0 → length rows ≤ limits.slots → AddsColumns limits known (shape_of fields) (row_columns rows) d e
    → IsWithin limits fields rows
columns_within limits known fields rows d e none few h =
    let len = h.buffers.len in
    let size = buffers_size known (shape_of fields) (row_columns rows) in
    let within = h.body in
    rows_within limits fields rows few
    (record { few = h.few; short = h.short; body = omega (arith, none, len, size, within) })

-- why their columns are refused is why the rows are
pub rows_refused_after : (limits : Limits) (fields : List Field) (rows : List (List Value)) (len : ℕ) (fault : PushFault) → len ≡ 0
    → AreRefusedAfter limits len (shape_of fields) (row_columns rows) fault → AreRowsRefused limits fields rows (write_fault fault)
rows_refused_after limits fields rows len push.TooLong none (inl long) = inl long
rows_refused_after limits fields rows len push.TooLong none (inr more) = inr (omega (arith, none, more))
rows_refused_after limits fields rows len push.TooMany none h = inr h
rows_refused_after limits fields rows len push.OutOfMemory none h = h
rows_refused_after limits fields rows len _ none h = absurd h

-- only memory refuses rows that are within the limits
pub only_memory : (limits : Limits) (fields : List Field) (rows : List (List Value)) (fault : WriteFault) → IsWithin limits fields rows
    → AreRowsRefused limits fields rows fault → fault ≡ write.OutOfMemory
only_memory limits fields rows write.TooLong within h = absurd (within.short h)
only_memory limits fields rows write.TooManyRows within h = absurd (within.few h)
only_memory limits fields rows write.OutOfMemory within h = refl
only_memory limits fields rows _ within h = absurd h

-- the parts of a draft to which the columns of rows were added
pub segmented : (limits : Limits) (known : Numbering) (fields : List Field) (rows : List (List Value)) (d e : Draft)
    (parts : SegmentedParts) → IsEmpty d → AddsColumns limits known (shape_of fields) (row_columns rows) d e → ArePartsOf e parts
    → AreSegmented known fields rows parts
segmented limits known fields rows d e parts none adds are =
    let bs = row_buffers_with known fields rows in
    let size = adds.buffers.len in
    let zero_len = none.len in
    let whole = are.len in
    record {
      nodes = are.nodes ∙ (adds.nodes ∙ ap (λ (ns : List (ℤ × ℤ)). ns ++ row_nodes fields rows) none.nodes);
      buffers = are.buffers ∙ (adds.buffers.buffers ∙ (λ i. none.buffers i ++ ranges_from (none.len i) bs));
      body = are.body ∙ (adds.buffers.body ∙ ap (λ (xs : List ℕ). xs ++ padded_bytes bs) none.body);
      len = omega (arith, size, zero_len, whole);
    }
