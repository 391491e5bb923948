-- The numbers that dictionary values have (Arrow Columnar Format, "Dictionary-encoded Layout").
use Rattle.std.specs.Prelude.{ℕ, ℤ, Option, Some, None, List, map}
use Rattle.ipc_model.specs.declared.value.Value.{Value, out-Value}
use Rattle.ipc_model.specs.declared.value.Value.TheOpen.{Value-F}
use Rattle.ipc_model.specs.declared.value.Value.TheVariants as v

-- an index for each value of each dictionary, by the dictionary's id
abbrev pub Numbering : Type 0
Numbering = ℤ → Value → ℕ

-- the first number, if there is one; otherwise the other
abbrev pub number_or : Option ℕ → ℕ → ℕ
number_or (Some number) other = number
number_or None other = other

-- the index of each value, or 0 if it has none
abbrev pub known_indices : (ℤ → Value → Option ℕ) → Numbering
known_indices index id value = number_or (index id value) 0

-- each index replaced by its new number, if it has one
abbrev pub new_indices : (ℤ → ℕ → Option ℕ) → Numbering → Numbering
new_indices number indices id value = number_or (number id (indices id value)) (indices id value)

-- i, as the index of a value other than null; null has none
abbrev pub index_unless_null : ℕ → Value-F Value → Option ℕ
index_unless_null i Value-F.Null = None
index_unless_null i _ = Some i

-- the index of a value; null has none
abbrev pub index_of : (Value → ℕ) → Value → Option ℕ
index_of indices value = index_unless_null (indices value) (out-Value value)

-- the index of each value
abbrev pub indices_of : (Value → ℕ) → List Value → List (Option ℕ)
indices_of indices values = map (index_of indices) values

-- an index as the number that its slot holds, or null if there is none
abbrev pub as_number : Option ℕ → Value
as_number (Some i) = v.UInt i
as_number None = v.Null

-- the indices of values, as the numbers that their slots hold
abbrev pub numbers_of : (Value → ℕ) → List Value → List Value
numbers_of indices values = map as_number (indices_of indices values)

-- one index replaced by its new number, if it has one
abbrev pub new_index : (ℕ → Option ℕ) → Option ℕ → Option ℕ
new_index number (Some i) = Some (number_or (number i) i)
new_index number None = None
