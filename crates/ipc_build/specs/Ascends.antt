-- What a caller owes for a tree, and what the types of a tree ensure (FlatBuffers binary format,
-- "Tables").
use Rattle.std.specs.Prelude.{ℕ, ℤ, ◌+◌, ◌*◌, ◌≤◌, ◌<◌, ◌≡◌, true, List, [], ◌∷◌, ⊤}
use Rattle.std.specs.Int.{w64, byte_len}
use Rattle.std.specs.Int.RustNames.{FitsSigned}
use Rattle.std.specs.Str.{is_utf8}
use Rattle.ipc_build.specs.Trees.{Content, Tree, none, field}
use Rattle.ipc_build.specs.Trees as k

-- what a list of fields is: the fields of a table, from this number on, or the elements of a vector
-- of tables
pub data Role : Type 0 where
  fields : ℕ → Role
  elements : Role

-- what `says` states of the tree below a field, given the role of that tree; nothing for a field
-- without one
abbrev pub Below : Content → (Role → Type 0) → Type 0
Below k.table says = says (fields 0)
Below k.tables says = says elements
Below _ says = ⊤

-- in each table the fields' numbers ascend, are at least the first one that is allowed, and are
-- below 16; each element of a vector of tables is a table
unfoldable pub Ascends : Role → Tree → Type 0
Ascends s none = ⊤
Ascends (fields n) (field m content inner rest) =
    (n ≤ m) × (m < 16) × Below content (λ s. Ascends s inner) × Ascends (fields (m + 1)) rest
Ascends elements (field m content inner rest) =
    (content ≡ k.table) × Ascends (fields 0) inner × Ascends elements rest

-- each number of these structs fits 64 bits, signed
abbrev pub PairsFit : List (ℤ × ℤ) → Type 0
PairsFit [] = ⊤
PairsFit (x ∷ xs) = FitsSigned w64 x.0 × FitsSigned w64 x.1 × PairsFit xs

-- a scalar fits its width, which divides 8; a string is UTF-8; the numbers of structs fit 64 bits
abbrev pub IsInRange : Content → Type 0
IsInRange (k.byte x) = x < 256
IsInRange (k.signed w z) = FitsSigned w z × ((j : ℕ) × (j * byte_len w ≡ 8))
IsInRange (k.string s) = is_utf8 s ≡ true
IsInRange (k.pairs xs) = PairsFit xs
IsInRange _ = ⊤

-- each scalar, string and struct in a tree is in range (`IsInRange`, at every level)
unfoldable pub InRange : Tree → Type 0
InRange none = ⊤
InRange (field m content inner rest) = IsInRange content × InRange inner × InRange rest

-- `Ascends` and `InRange` in one definition: all that the layout needs of a tree
unfoldable pub Writable : Role → Tree → Type 0
Writable s none = ⊤
Writable (fields n) (field m content inner rest) =
    (n ≤ m) × (m < 16) × IsInRange content × Below content (λ s. Writable s inner)
    × Writable (fields (m + 1)) rest
Writable elements (field m content inner rest) =
    (content ≡ k.table) × Writable (fields 0) inner × Writable elements rest
