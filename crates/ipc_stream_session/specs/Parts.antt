-- The head of a batch, from numbers of a program in another language (Message.fbs, RecordBatch).
use Rattle.std.specs.Prelude.{◌≡◌, ℤ, List}
use Rattle.ipc_meta.specs.declared.head.BatchHead.{BatchHead}
use Rattle.ipc_stream.specs.Canonical.{flat}

-- a head states this number of rows, and its nodes and buffers are these numbers, two by two
pub record IsHead (rows : ℤ) (nodes buffers : List ℤ) (h : BatchHead) : Type 0 where
  pub length_is : h.length ≡ rows
  pub nodes_are : flat h.nodes ≡ nodes
  pub buffers_are : flat h.buffers ≡ buffers
