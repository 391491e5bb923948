-- The messages of a schema's dictionaries.
use Rattle.std.proofs.Common.{◌≡◌, ◌∙◌, sym, ap, ℕ, zero, suc, ◌<◌, ◌≤◌, List, [], ◌∷◌, ◌++◌, length, get_or, Some, inl, inr, arith}
use Rattle.ipc_model.specs.declared.limits.Limits.{Limits}
use Rattle.ipc_model.specs.declared.schema.DataType.{DataType}
use Rattle.ipc_model.specs.declared.schema.Field.{Field, out-Field, out-roll-Field}
use Rattle.ipc_model.specs.declared.schema.Field.TheOpen.{Field-F}
use Rattle.ipc_model.specs.declared.layout.Layout.{Layout}
use Rattle.ipc_model.specs.Layouts.{type_layout, layout, own_buffers}
use Rattle.ipc_meta.specs.Rooms.{dictionary_room}
use Rattle.ipc_column.specs.Shapes.{Shape, node_count, buffer_count}
use Rattle.ipc_dict_read.specs.ValuesColumns.{columns_for, dictionary_columns, values_column, IsOneColumn}
use Rattle.ipc_dict.specs.declared.entry.TallyEntry.{TallyEntry}
use Rattle.ipc_dict.specs.Within.{AllShort, IsSomeLong, dictionary_room_of}
use Rattle.ipc_dict.proofs.pairs.PairsFit.{column_parts, column_shape}

-- one entry more, whose message is short
pub short_push : (limits : Limits) (fields : List Field) (es : List TallyEntry) (e : TallyEntry) (columns : List Field)
    → AllShort limits fields es → columns_for (dictionary_columns fields) e.id ≡ Some columns → dictionary_room_of columns ≤ limits.metadata
    → AllShort limits fields (es ++ e ∷ [])
short_push limits fields [] e columns h named short = ((columns, (named, short)), tt)
short_push limits fields (x ∷ es) e columns h named short = (h.0, short_push limits fields es e columns h.1 named short)

-- an entry whose message is long
pub long_at : (limits : Limits) (fields : List Field) (es : List TallyEntry) (i : ℕ) (e : TallyEntry) (columns : List Field)
    → i < length es → e ≡ get_or es i e → columns_for (dictionary_columns fields) e.id ≡ Some columns
    → limits.metadata < dictionary_room_of columns → IsSomeLong limits fields es
long_at limits fields [] i e columns inside is named long = absurd (omega (arith, inside))
long_at limits fields (x ∷ es) zero e columns inside is named long =
    inl (columns, (ap (λ (y : TallyEntry). columns_for (dictionary_columns fields) y.id) (sym is) ∙ named, long))
long_at limits fields (x ∷ es) (suc i) e columns inside is named long =
    inr (long_at limits fields es i e columns (omega (arith, inside)) is named long)

-- the message of one column has one node and the buffers of the column's layout
column_room : (name : List ℕ) (kind : DataType)
    → dictionary_room_of (values_column name kind ∷ []) ≡ dictionary_room 1 (own_buffers (type_layout kind))
unfolding node_count buffer_count
column_room name kind =
    ap (λ (s : Shape). dictionary_room (node_count s) (buffer_count s)) (column_shape name kind)
    ∙ ap (dictionary_room 1) (omega arith)

column_layout : (name : List ℕ) (kind : DataType)
    → layout (out-Field (values_column name kind)).kind (out-Field (values_column name kind)).dictionary ≡ type_layout kind
column_layout name kind = ap (λ (f : Field-F Field). layout f.kind f.dictionary) (out-roll-Field (column_parts name kind))

-- so that it is told by the first field of the columns
pub first_room : (columns : List Field) (f : Field) → IsOneColumn columns → f ≡ get_or columns 0 f
    → dictionary_room_of columns ≡ dictionary_room 1 (own_buffers (layout (out-Field f).kind (out-Field f).dictionary))
first_room columns f (name, kind, one) is =
    let same : f ≡ values_column name kind = is ∙ ap (λ (cs : List Field). get_or cs 0 f) one in
    ap dictionary_room_of one ∙ column_room name kind
    ∙ ap (λ (l : Layout). dictionary_room 1 (own_buffers l))
    (sym (ap (λ (g : Field). layout (out-Field g).kind (out-Field g).dictionary) same ∙ column_layout name kind))
