-- The values of the reader's types, and the results of its accessors (FlatBuffers binary format,
-- "Tables").
use Rattle.std.specs.Prelude.{ℕ, ◌≡◌, ◌+◌, ◌≤◌, length, List, Option, None, Some, Result, Ok, Err}
use Rattle.ipc_scalar.specs.Bytes.{num}
use Rattle.ipc_flat.specs.declared.fault.FlatFault.{FlatFault}
use Rattle.ipc_flat.specs.Faulty.{◌>>=◌, where_some}
use Rattle.ipc_flat.specs.Flat.{vtable_of, field_place, table_position, elements_of}

-- a table: the bytes, and the table's place in them
pub record TableView : Type 0 where
  pub bytes : List ℕ
  pub at : ℕ

-- a vector of offsets: the bytes, the place of the first offset, and how many there are
pub record Elements : Type 0 where
  pub bytes : List ℕ
  pub at : ℕ
  pub len : ℕ

-- a vector of structs: the bytes, the place of the first struct, how many there are, and the width
-- of each in bytes
pub record Structs : Type 0 where
  pub bytes : List ℕ
  pub at : ℕ
  pub len : ℕ
  pub width : ℕ

-- FlatBuffers binary format, "Tables": the table at t, if it has a vtable
unfoldable pub table_at : List ℕ → ℕ → Result TableView FlatFault
table_at b t = vtable_of b t >>= λ v. Ok (record { bytes = b; at = t })

-- "Format Components": the table to which the offset at p points; the root table's offset is at 0
unfoldable pub table_from : List ℕ → ℕ → Result TableView FlatFault
table_from b p = table_position b p >>= λ t. Ok (record { bytes = b; at = t })

-- the value read at a field's place, or the default x if the field is absent
abbrev pub or_default : {X : Type 0} → (ℕ → X) → X → Option ℕ → X
or_default read x None = x
or_default read x (Some p) = read p

-- "Tables": the number of w bytes in field k, which `read` reads at the field's place, or the
-- default x if the field is absent
unfoldable pub scalar : {X : Type 0} → TableView → ℕ → ℕ → (List ℕ → ℕ → X) → X → Result X FlatFault
scalar t k w read x = field_place t.bytes t.at k w >>= λ o. Ok (or_default (read t.bytes) x o)

-- "Tables": f applied to the place of field k, which holds a four-byte offset; an absent field
-- stays absent
unfoldable pub field : {X : Type 0} → TableView → ℕ → (List ℕ → ℕ → Result X FlatFault)
    → Result (Option X) FlatFault
field t k f = field_place t.bytes t.at k 4 >>= where_some (f t.bytes)

-- "Strings and Vectors": the vector of elements, each of `width` bytes, to which the offset at p
-- points
unfoldable pub elements_from : ℕ → List ℕ → ℕ → Result Elements FlatFault
elements_from width b p =
    elements_of b p width >>= λ e. Ok (record { bytes = b; at = e.0; len = e.1 })

-- "Structs": the vector of structs, each of `width` bytes, to which the offset at p points
unfoldable pub structs_from : ℕ → List ℕ → ℕ → Result Structs FlatFault
structs_from width b p = elements_of b p width
    >>= λ e. Ok (record { bytes = b; at = e.0; len = e.1; width = width })

-- what a call returned, its value mapped by `view`, is this answer
abbrev pub IsAnswer : {X Y : Type 0} → (X → Y) → Result X FlatFault → Result Y FlatFault → Type 0
IsAnswer view (Ok x) answer = answer ≡ Ok (view x)
IsAnswer view (Err e) answer = answer ≡ Err e

-- there is a table at t with its vtable of `size` bytes at v; the table's first 4 bytes and the
-- whole vtable are inside the bytes
pub record IsTableAt (b : List ℕ) (t v size : ℕ) : Type 0 where
  pub vtable_is : vtable_of b t ≡ Ok v
  pub stated : size ≡ num b v 2
  pub table_inside : t + 4 ≤ length b
  pub vtable_inside : v + size ≤ length b
