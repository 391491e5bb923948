-- The one layout that this crate picks for a tree, front to back: a table's vtable, the table, then
-- what its fields point to. A field takes 8 bytes of its table at a multiple of 8. The contract of
-- `build` cites its length, as `size`, and not its bytes, which only private contracts cite.
use Rattle.std.specs.Prelude.{ℤ, ℕ, ◌+◌, ◌-◌, ◌*◌, ◌/◌, List, [], ◌∷◌, ◌++◌, length, replicate}
use Rattle.std.specs.Int.{w64, bytes_low_first, cast_unsigned}
use Rattle.ipc_build.specs.Trees.{Content, Tree, none, field}
use Rattle.ipc_build.specs.Trees as k

-- the w bytes of a number, the lowest first
abbrev pub little : ℕ → ℕ → List ℕ
little w x = bytes_low_first 0 w x

-- n zero bytes
abbrev pub padding : ℕ → List ℕ
padding n = replicate n 0

-- the first place from p on with 4 bytes that end at a multiple of 8
abbrev pub prefix_place : ℕ → ℕ
prefix_place p = (p + 3) / 8 * 8 + 4

-- how many fields a table has, or how many elements a vector of tables has
unfoldable pub members : Tree → ℕ
members none = 0
members (field n content inner rest) = 1 + members rest

-- how many entries a vtable has: one more than the last field's number, or n if there is no field
unfoldable pub entry_count : ℕ → Tree → ℕ
entry_count n none = n
entry_count n (field m content inner rest) = entry_count (m + 1) rest

-- the place of the table whose vtable is at p
abbrev pub table_place : Tree → ℕ → ℕ
table_place f p = prefix_place (p + 4 + 2 * entry_count 0 f)

-- the end of the inline part of the table whose vtable is at p; what its fields point to begins
-- there
abbrev pub inline_end : Tree → ℕ → ℕ
inline_end f p = table_place f p + 4 + 8 * members f

-- the end of a string that begins at p: its length, its bytes, a zero byte, and zeros up to a
-- multiple of 4
abbrev pub string_end : List ℕ → ℕ → ℕ
string_end s p = (p + length s + 8) / 4 * 4

-- the end of what a field points to, if that begins at p; g gives the end of the tree below the
-- field
abbrev pub target_end : Content → Tree → (ℕ → ℕ) → ℕ → ℕ
target_end (k.byte x) f g p = p
target_end (k.signed w z) f g p = p
target_end (k.string s) f g p = string_end s p
target_end (k.pairs xs) f g p = prefix_place p + 4 + 16 * length xs
target_end k.table f g p = g (inline_end f p)
target_end k.tables f g p = g (p + 4 + 4 * members f)

-- the end of all that the fields point to, if that begins at p
unfoldable pub targets_end : Tree → ℕ → ℕ
targets_end none p = p
targets_end (field n content inner rest) p =
    targets_end rest (target_end content inner (targets_end inner) p)

-- the number in a field at h: a scalar as the number of its bytes, or the offset from h to what the
-- field points to. That is laid out from p on
abbrev pub inline_value : Content → Tree → ℕ → ℕ → ℕ
inline_value (k.byte x) f h p = x
inline_value (k.signed w z) f h p = cast_unsigned w z
inline_value (k.string s) f h p = p - h
inline_value (k.pairs xs) f h p = prefix_place p - h
inline_value k.table f h p = table_place f p - h
inline_value k.tables f h p = p - h

-- the numbers of all fields (`inline_value`), the first at h, each in w bytes; what they point to
-- is laid out from p on
unfoldable pub inline_bytes : ℕ → Tree → ℕ → ℕ → List ℕ
inline_bytes w none h p = []
inline_bytes w (field n content inner rest) h p =
    little w (inline_value content inner h p)
    ++ inline_bytes w rest (h + w) (target_end content inner (targets_end inner) p)

-- a vtable's entries from number n on; the next field is d bytes after the start of its table
unfoldable pub vtable_entries : ℕ → ℕ → Tree → List ℕ
vtable_entries n d none = []
vtable_entries n d (field m content inner rest) =
    padding (2 * (m - n)) ++ (little 2 d ++ vtable_entries (m + 1) (d + 8) rest)

-- a vtable at p: its size, its table's size, the entries and padding; then the first 4 bytes of its
-- table, the distance between the two
unfoldable pub head_bytes : Tree → ℕ → List ℕ
head_bytes f p =
    little 2 (4 + 2 * entry_count 0 f) ++ (little 2 (4 + 8 * members f)
    ++ (vtable_entries 0 4 f ++ (padding (table_place f p - (p + 4 + 2 * entry_count 0 f))
    ++ little 4 (table_place f p - p))))

-- a vtable at p, and its table
unfoldable pub own_bytes : Tree → ℕ → List ℕ
own_bytes f p = head_bytes f p ++ inline_bytes 8 f (table_place f p + 4) (inline_end f p)

-- "Structs": structs of two signed 64-bit numbers, one after another
unfoldable pub struct_bytes : List (ℤ × ℤ) → List ℕ
struct_bytes [] = []
struct_bytes (x ∷ xs) = little 8 (cast_unsigned w64 x.0)
    ++ (little 8 (cast_unsigned w64 x.1) ++ struct_bytes xs)

-- the bytes that a field points to, from p on; g gives the bytes of the tree below the field
abbrev pub target_bytes : Content → Tree → (ℕ → List ℕ) → ℕ → List ℕ
target_bytes (k.byte x) f g p = []
target_bytes (k.signed w z) f g p = []
target_bytes (k.string s) f g p =
    little 4 (length s) ++ (s ++ (padding 1 ++ padding (string_end s p - (p + 5 + length s))))
target_bytes (k.pairs xs) f g p =
    padding (prefix_place p - p) ++ (little 4 (length xs) ++ struct_bytes xs)
target_bytes k.table f g p = own_bytes f p ++ g (inline_end f p)
target_bytes k.tables f g p = little 4 (members f)
    ++ (inline_bytes 4 f (p + 4) (p + 4 + 4 * members f) ++ g (p + 4 + 4 * members f))

-- the bytes that all fields point to, from p on
unfoldable pub targets : Tree → ℕ → List ℕ
targets none p = []
targets (field n content inner rest) p =
    target_bytes content inner (targets inner) p
    ++ targets rest (target_end content inner (targets_end inner) p)

-- a tree as the only element of a vector of tables: the root offset is laid out like such an
-- element
abbrev pub as_vector : Tree → Tree
as_vector f = field 0 k.table f none

-- the bytes of a tree: the root offset, and the root table with all below it
abbrev pub buffer : Tree → List ℕ
buffer f = inline_bytes 4 (as_vector f) 0 4 ++ targets (as_vector f) 4

-- a bound on the depth of the program's nested calls for a tree
unfoldable pub weight : Tree → ℕ
weight none = 0
weight (field n content inner rest) = 3 + weight inner + weight rest
