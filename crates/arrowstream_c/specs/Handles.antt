-- What the pointers that C holds own.
use Rattle.std.specs.Prelude.{◌≡◌, ℕ, Option, Some, None}
use Rattle.std.specs.Ptr.{Ptr}
use Rattle.std.specs.Box.Ownership.{box_owns}
use Rattle.std.specs.declared.alloc.Global.{Global}
use Rattle.std.specs.contracts.impls.GlobalAllocator.TheImpl.{ghosts}
use Rattle.ipc_stream_session.specs.contracts.batch.ReadBatch as batch
use Rattle.ipc_stream_session.specs.contracts.session.ReadSession as session
use Rattle.ipc_stream_session.specs.contracts.write_session.WriteSession as writing
use base.Fml.{Fml, fex, feq}
use denote.RattleType.{RattleType}
use denote.RawPtr.{null_ptr}

-- this value of type R in a block of its own, and the right to free the block
abbrev pub is_held_at : (R : RattleType) → Ptr → R.Denot → Fml
is_held_at R p x = fex Global (λ g. box_owns (ghosts.dealloc_token g) R p x)

-- this value in a block of its own, or the pointer is null and there is no value
abbrev pub held_or_null : (R : RattleType) → Ptr → Option R.Denot → Fml
held_or_null R p None = feq Ptr p null_ptr
held_or_null R p (Some x) = is_held_at R p x

-- this reader, or null
abbrev pub reader_or_null : Ptr → Option session.the_row.Denot → Fml
reader_or_null p x = held_or_null session.the_row p x

-- this batch, or null
abbrev pub batch_or_null : Ptr → Option batch.the_row.Denot → Fml
batch_or_null p x = held_or_null batch.the_row p x

-- this writer, or null
abbrev pub writer_or_null : Ptr → Option writing.the_row.Denot → Fml
writer_or_null p x = held_or_null writing.the_row p x

-- the status of a call that the state does not allow, and of one at null
abbrev pub misuse : ℕ
misuse = 65

-- the call is refused, and what it would fill does not change
abbrev pub RefusesMisuse : {T : Type 0} → T → T → ℕ → Type 0
RefusesMisuse old new status = (status ≡ misuse) × (new ≡ old)

-- what a call does with the value at a handle, or what it answers at null
abbrev pub OfHandle : {T : Type 0} → (T → T → Type 0) → Type 0 → Option T → Option T → Type 0
OfHandle Call AtNull None None = AtNull
OfHandle Call AtNull None (Some is) = ⊥
OfHandle Call AtNull (Some was) None = ⊥
OfHandle Call AtNull (Some was) (Some is) = Call was is

-- what a call does with the values at two handles, or what it answers if one of them is null
abbrev pub OfHandles : {T U : Type 0} → (T → U → T → U → Type 0) → Type 0 → Option T → Option U
    → Option T → Option U → Type 0
OfHandles Call AtNull None other is left = AtNull × (is ≡ None) × (left ≡ other)
OfHandles Call AtNull (Some was) None is left = AtNull × (is ≡ Some was) × (left ≡ None)
OfHandles Call AtNull (Some was) (Some other) (Some is) (Some left) = Call was other is left
OfHandles Call AtNull (Some was) (Some other) (Some is) None = ⊥
OfHandles Call AtNull (Some was) (Some other) None left = ⊥
