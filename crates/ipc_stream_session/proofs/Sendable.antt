-- Which values may move to another thread, one layer at a time: the prover's search through all layers ends at a limit.
use mathlib.Core.List.{[], ◌∷◌}
use denote.Builtin.{i64, u8}
use denote.Hole.{as_row}
use denote.Param.Send.{IsSend, IsSync, sendable, view_send, view_sync}
use denote.Param.SendFields.{as_row_send, as_row_sync, declared_send, declared_sync, variants_send}
use denote.RattleType.{RattleType}
use denote.Struct.Field.{row_field}
use denote.Struct.Tuple.{Tuple}
use Rattle.std.proofs.Crossing.{Arc-send, Arc-sync, Vec-send, Vec-sync, frees}
use Rattle.std.proofs.MapsCrossing.{BTreeMap-send}
use Rattle.std.proofs.alloc.Global.TheSendSync as heap
use Rattle.std.specs.contracts.option.Option as Option
use Rattle.indexmap.proofs.set.IndexSet.TheSendSync as set
use Rattle.ipc_column.proofs.dictionary.DictionaryValues.TheSendSync as values
use Rattle.ipc_column.proofs.ranges.BufferRange.TheSendSync as range
use Rattle.ipc_column.proofs.ranges.ColumnRanges.TheLaws.TheKnot.{send-ColumnRanges, sync-ColumnRanges}
use Rattle.ipc_column.specs.contracts.batch.Batch as Batch
use Rattle.ipc_column.specs.contracts.batch.Batch.TheInside as BatchInside
use Rattle.ipc_column.specs.contracts.batch.Shared as Shared
use Rattle.ipc_column.specs.contracts.ranges.ColumnRanges as Ranges
use Rattle.ipc_device.proofs.memory.Memory.TheSendSync as memory
use Rattle.ipc_device.specs.contracts.memory.Memory as Memory
use Rattle.ipc_device.specs.contracts.memory.MemorySink.TheImpl.{ghosts as sinking}
use Rattle.ipc_device.specs.declared.sink.Sink.{Ghosts}
use Rattle.ipc_dict.proofs.seed.Seed.TheSendSync as seed
use Rattle.ipc_dict.specs.contracts.distinct.DistinctValues as Distinct
use Rattle.ipc_dict.specs.contracts.distinct.DistinctValues.TheInside as DistinctInside
use Rattle.ipc_dict.specs.contracts.kept.Kept as Kept
use Rattle.ipc_dict.specs.contracts.kept.Kept.TheInside as KeptInside
use Rattle.ipc_dict.specs.contracts.kept.KeptEntry as Entry
use Rattle.ipc_dict_read.specs.contracts.dictionaries.Dictionaries as Dictionaries
use Rattle.ipc_dict_read.specs.contracts.dictionaries.Dictionaries.TheInside as DictionariesInside
use Rattle.ipc_encode.specs.contracts.pool.BufferPool as Pool
use Rattle.ipc_frame.proofs.frames.Frames.TheSendSync as frames
use Rattle.ipc_items.proofs.items.Items.TheSendSync as items
use Rattle.ipc_items.proofs.text.Text.TheSendSync as text
use Rattle.ipc_items.specs.contracts.items.Items as Items
use Rattle.ipc_items.specs.contracts.text.Text as Text
use Rattle.ipc_model.proofs.Layout.TheSendSync as layout
use Rattle.ipc_model.proofs.fault.Fault.TheSendSync as reason
use Rattle.ipc_model.proofs.fault.FaultAt.TheSendSync as fault
use Rattle.ipc_model.proofs.fault.WriteFault.TheSendSync as refused
use Rattle.ipc_model.proofs.limits.Limits.TheSendSync as limits
use Rattle.ipc_model.proofs.schema.DataType.TheSendSync as kind
use Rattle.ipc_model.proofs.schema.Dictionary.TheSendSync as dictionary
use Rattle.ipc_model.proofs.schema.Field.TheLaws.TheKnot.{send-Field}
use Rattle.ipc_model.proofs.value.Value.TheLaws.TheKnot.{send-Value}
use Rattle.ipc_model.specs.contracts.fault.FaultAt as FaultAt
use Rattle.ipc_model.specs.contracts.schema.Dictionary as Dictionary
use Rattle.ipc_model.specs.contracts.schema.Field as Field
use Rattle.ipc_model.specs.contracts.schema.Schema as Schema
use Rattle.ipc_model.specs.contracts.value.Value as Value
use Rattle.ipc_stream.specs.contracts.open_stream.OpenStream as Stream
use Rattle.ipc_stream.specs.contracts.open_stream.OpenStream.TheInside as StreamInside
use Rattle.ipc_stream.specs.contracts.writer.StreamWriter as Writer
use Rattle.ipc_stream.specs.contracts.writer.StreamWriter.TheInside as WriterInside
use Rattle.ipc_stream_read.proofs.end.End.TheSendSync as end
use Rattle.ipc_stream_read.specs.contracts.decoder.Decoder as Decoder
use Rattle.ipc_stream_read.specs.contracts.decoder.Decoder.TheInside as DecoderInside
use Rattle.ipc_stream_read.specs.contracts.end.End as End
use Rattle.ipc_stream_read.specs.contracts.scope.Scope as Scope
use Rattle.ipc_stream_read.specs.contracts.stream_state.StreamState as State
use Rattle.ipc_stream_session.proofs.cells.Nesting.TheSendSync as nesting
use Rattle.ipc_stream_session.specs.contracts.batch.ReadBatch as ReadBatch
use Rattle.ipc_stream_session.specs.contracts.cells.OpenNesting as Nesting
use Rattle.ipc_stream_session.specs.contracts.open_table.OpenTable as Table
use Rattle.ipc_stream_session.specs.contracts.open_table.OpenTable.TheInside as TableInside
use Rattle.ipc_stream_session.specs.contracts.ready.Ready as Ready
use Rattle.ipc_stream_session.specs.contracts.ready.Ready.TheInside as ReadyInside
use Rattle.ipc_stream_session.specs.contracts.session.ReadSession as ReadSession
use Rattle.ipc_stream_session.specs.contracts.stage.Stage as Stage
use Rattle.ipc_stream_session.specs.contracts.write_error.WriteError as WriteError
use Rattle.ipc_stream_session.specs.contracts.write_session.WriteSession as WriteSession

-- values that may be absent
optional : (T : RattleType) → IsSend T → IsSend (as_row (Option.the_field T))
optional T send = as_row_send (Option.the_field T) (search (send, sendable))

ruleset moves = (Vec-send, Vec-sync, Arc-send, Arc-sync, BTreeMap-send, sendable)

-- ---- schemas
pairs_send : IsSend (Items.the_field (Tuple (Text.the_row ∷ Text.the_row ∷ []))).row
pairs_send = items.the_send (Tuple (Text.the_row ∷ Text.the_row ∷ [])) (search (text.the_send, sendable))

dictionary_send : IsSend (Option.the_field Dictionary.the_row).row
dictionary_send = search (dictionary.the_send, sendable)

field_send : IsSend Field.the_row
field_send = as_row_send Field.the_field
    (send-Field text.the_send (search sendable) kind.the_field_send dictionary_send items.the_send pairs_send)

fields_send : IsSend (Items.the_row Field.the_row)
fields_send = items.the_send Field.the_row field_send

schema_send : IsSend Schema.the_row
schema_send = declared_send Schema.the_type (fields_send, (pairs_send, tt))

-- ---- batches
ranges_send : IsSend Ranges.the_row
ranges_send = as_row_send Ranges.the_field (send-ColumnRanges layout.the_field_send (search sendable)
    range.the_field_send Vec-send values.the_send (search sendable))

ranges_sync : IsSync Ranges.the_row
ranges_sync = as_row_sync Ranges.the_field (sync-ColumnRanges layout.the_field_sync (search sendable)
    range.the_field_sync Vec-sync values.the_sync (search sendable))

shared_send : IsSend Shared.the_row
shared_send = declared_send Shared.the_type (search (ranges_send, moves))

shared_sync : IsSync Shared.the_row
shared_sync = declared_sync Shared.the_type (search (ranges_sync, moves))

batch_send : IsSend Batch.the_row
batch_send = view_send _ _ _ _ _ (declared_send BatchInside.the_type (Arc-send Shared.the_row shared_send shared_sync, tt))

batch_sync : IsSync Batch.the_row
batch_sync = view_sync _ _ _ _ _ (declared_sync BatchInside.the_type (Arc-sync Shared.the_row shared_send shared_sync, tt))

-- ---- decoders
columns_send : IsSend (Tuple (i64 ∷ Items.the_row Field.the_row ∷ []))
columns_send = search (fields_send, sendable)

dictionaries_send : IsSend Dictionaries.the_row
dictionaries_send = view_send _ _ _ _ _
    (declared_send DictionariesInside.the_type (search (columns_send, batch_send, batch_sync, moves)))

scope_send : IsSend Scope.the_row
scope_send = declared_send Scope.the_type (limits.the_send, (schema_send, (dictionaries_send, tt)))

state_send : IsSend State.the_row
state_send = declared_send State.the_type
    (optional Scope.the_row scope_send, (optional End.the_row end.the_send, (search sendable, tt)))

decoder_send : IsSend Decoder.the_row
decoder_send = view_send _ _ _ _ _
    (declared_send DecoderInside.the_type (frames.the_send, (state_send, (heap.the_send, tt))))

-- ---- values, and the dictionaries that were sent
bytes_send : IsSend (Items.the_field u8).row
bytes_send = search (items.the_send, sendable)

value_send : IsSend Value.the_row
value_send = as_row_send Value.the_field (send-Value (search sendable) (search sendable) (search sendable)
    bytes_send text.the_send items.the_send)

row_send : IsSend (Items.the_row Value.the_row)
row_send = items.the_send Value.the_row value_send

distinct_send : IsSend Distinct.the_row
distinct_send = view_send _ _ _ _ _ (declared_send DistinctInside.the_type
    (search (set.the_send, value_send, seed.the_send, heap.the_send, frees, sendable), tt))

entry_send : IsSend Entry.the_row
entry_send = declared_send Entry.the_type
    (search sendable, (optional Distinct.the_row distinct_send, (search sendable, tt)))

kept_send : IsSend Kept.the_row
kept_send = view_send _ _ _ _ _ (declared_send KeptInside.the_type (Vec-send Entry.the_row entry_send, tt))

-- ---- writers
pool_send : IsSend Pool.the_row
pool_send = declared_send Pool.the_type (search (Vec-send, sendable), tt)

stream_send : IsSend Stream.the_row
stream_send = view_send _ _ _ _ _ (declared_send StreamInside.the_type
    (limits.the_send, (schema_send, (dictionaries_send, (kept_send, (pool_send, (seed.the_send, (heap.the_send, tt))))))))

writer_send : (W : RattleType) (g : Ghosts W.Denot) → IsSend W → IsSend (Writer.the_row W g)
writer_send W g sink = view_send _ _ _ _ _
    (declared_send (WriterInside.the_type W g) (as_row_send (row_field W) sink, (stream_send, (search sendable, tt))))

-- ---- sessions
batch_with_pairs_send : IsSend ReadBatch.the_row
batch_with_pairs_send = declared_send ReadBatch.the_type (batch_send, (pairs_send, (heap.the_send, tt)))

pub reader_send : IsSend ReadSession.the_row
reader_send = declared_send ReadSession.the_type (
  decoder_send,
  (
    optional ReadBatch.the_row batch_with_pairs_send,
    (optional FaultAt.the_row fault.the_send, (heap.the_send, tt)),
  ),
)

ready_send : IsSend Ready.the_row
ready_send = view_send _ _ _ _ _
    (declared_send ReadyInside.the_type (search (Vec-send, sendable), (search sendable, tt)))

table_send : IsSend Table.the_row
table_send = view_send _ _ _ _ _
    (declared_send TableInside.the_type (writer_send Memory.the_row sinking memory.the_send, (scope_send, tt)))

stage_send : IsSend Stage.the_row
stage_send = variants_send Stage.enum (tt, ((table_send, tt), ((ready_send, tt), tt)))

nesting_send : IsSend Nesting.the_row
nesting_send = declared_send Nesting.the_type (nesting.the_send, (row_send, tt))

error_send : IsSend WriteError.the_row
error_send = variants_send WriteError.enum (tt, (tt, (tt, ((reason.the_send, tt), ((refused.the_send, tt), tt)))))

pub session_send : IsSend WriteSession.the_row
session_send = declared_send WriteSession.the_type (
  limits.the_send,
  (
    stage_send,
    (
      ready_send,
      (
        row_send,
        (
          items.the_send Nesting.the_row nesting_send,
          (
            items.the_send (Items.the_row Value.the_row) row_send,
            (
              pairs_send,
              (optional WriteError.the_row error_send, (heap.the_send, tt)),
            ),
          ),
        ),
      ),
    ),
  ),
)
