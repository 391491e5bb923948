-- When bytes b encode a tree, by the definitions that read b (FlatBuffers binary format, "Tables",
-- "Strings and Vectors", "Structs"). P holds for the width and the place of every number there:
-- scalars, offsets, counts, a vtable's entries.
use Rattle.std.specs.Prelude.{ℤ, ℕ, ◌+◌, ◌*◌, ◌<◌, ◌≤◌, ◌≡◌, ◌⊎◌, List, [], ◌∷◌, length, Some, None}
use Rattle.std.specs.Prelude.{Ok, ⊤}
use Rattle.std.specs.Int.{byte_len, cast_signed}
use Rattle.ipc_scalar.specs.Bytes.{num, byte, int64}
use Rattle.ipc_flat.specs.Flat.{vtable_of, field_place, points, table_position}
use Rattle.ipc_flat.specs.Flat.{elements_of, text_of}
use Rattle.ipc_build.specs.Trees.{Content, Tree, none, field}
use Rattle.ipc_build.specs.Trees as k
use Rattle.ipc_build.specs.Layout.{members}

-- one of the fields has this number
unfoldable pub HasField : ℕ → Tree → Type 0
HasField n none = ⊥
HasField n (field m content inner rest) = (n ≡ m) ⊎ HasField n rest

-- what contains fields: the table at this place, or the rest of a vector of tables, whose next
-- offset is at this place
pub data Holder : Type 0 where
  in_table : ℕ → Holder
  in_vector : ℕ → Holder

-- where the next field is: in the same table, or at the vector's next offset
abbrev pub next_in : Holder → Holder
next_in (in_table t) = in_table t
next_in (in_vector q) = in_vector (q + 4)

-- FlatBuffers binary format, "Format Components": the width of a scalar, or of an offset
abbrev pub inline_width : Content → ℕ
inline_width (k.byte x) = 1
inline_width (k.signed w z) = byte_len w
inline_width _ = 4

-- "Tables": the end of the inline part of the table at t, whose size is the second number of its
-- vtable at v
abbrev pub inline_end_of : List ℕ → ℕ → ℕ → ℕ
inline_end_of b v t = t + num b (v + 2) 2

module _ (P : ℕ → ℕ → Type 0) (b : List ℕ) where
  -- "Tables", "Strings and Vectors": field n, of w bytes, is at p and ends within the table's
  -- inline part; or the next offset of a vector is at p
  abbrev pub IsPlacedAt : Holder → ℕ → ℕ → ℕ → Type 0
  IsPlacedAt (in_table t) n w p = (field_place b t n w ≡ Ok (Some p))
      × ((v : ℕ) × (vtable_of b t ≡ Ok v) × (p + w ≤ inline_end_of b v t))
  IsPlacedAt (in_vector q) n w p = p ≡ q

  -- "Structs": structs of two signed 64-bit numbers, one after another from q on
  unfoldable pub EncodesPairs : ℕ → List (ℤ × ℤ) → Type 0
  EncodesPairs q [] = ⊤
  EncodesPairs q (x ∷ xs) = (int64 b q ≡ x.0) × (int64 b (q + 8) ≡ x.1) × (P 8 q × P 8 (q + 8))
      × EncodesPairs (q + 16) xs

  -- "Tables": there is a table at t, its inline part ends inside the bytes, and every field whose
  -- number is not among these fields is absent
  pub record IsTablePlaced (t : ℕ) (f : Tree) : Type 0 where
    pub vtable : ℕ
    pub vtable_is : vtable_of b t ≡ Ok vtable
    pub holds : P 4 t
    pub inside : inline_end_of b vtable t ≤ length b
    pub entries : (i : ℕ) → 2 * i < num b vtable 2 → P 2 (vtable + 2 * i)
    pub absent : (n w : ℕ) → (HasField n f → ⊥) → field_place b t n w ≡ Ok None

  -- "Strings and Vectors": the offset at p points to this string, and a zero byte follows its bytes
  pub record EncodesText (p : ℕ) (s : List ℕ) : Type 0 where
    pub start : ℕ
    pub points_there : points b p ≡ Ok start
    pub holds : P 4 start
    pub text : text_of b p ≡ Ok s
    pub closed : (start + 4 + length s < length b) × (byte b (start + 4 + length s) ≡ 0)

  -- the scalar at p is this number, or the offset at p points to this content; `below` states that
  -- a holder contains the tree below
  abbrev pub EncodesTarget : Content → Tree → (Holder → Type 0) → ℕ → Type 0
  EncodesTarget (k.byte x) f below p = num b p 1 ≡ x
  EncodesTarget (k.signed w z) f below p = cast_signed w (num b p (byte_len w)) ≡ z
  EncodesTarget (k.string s) f below p = EncodesText p s
  EncodesTarget (k.pairs xs) f below p =
      (q : ℕ) × (elements_of b p 16 ≡ Ok (q + 4, length xs)) × P 4 q × EncodesPairs (q + 4) xs
  EncodesTarget k.table f below p =
      (t : ℕ) × (table_position b p ≡ Ok t) × IsTablePlaced t f × below (in_table t)
  EncodesTarget k.tables f below p =
      (q : ℕ) × (elements_of b p 4 ≡ Ok (q + 4, members f)) × P 4 q × below (in_vector (q + 4))

  -- each field is in this holder and has its content, subtrees included
  unfoldable pub EncodesTable : Holder → Tree → Type 0
  EncodesTable at none = ⊤
  EncodesTable at (field n content inner rest) =
      ((p : ℕ) × IsPlacedAt at n (inline_width content) p × P (inline_width content) p
      × EncodesTarget content inner (λ there. EncodesTable there inner) p)
      × EncodesTable (next_in at) rest

-- FlatBuffers binary format, "Format Components": the root table, to which the offset in the first
-- four bytes points, is this tree
abbrev pub Encodes : List ℕ → Tree → Type 0
Encodes b f = EncodesTable (λ w p. ⊤) b (in_vector 0) (field 0 k.table f none)

-- `Encodes`, and each number is at a multiple of its width
abbrev pub Aligned : List ℕ → Tree → Type 0
Aligned b f = EncodesTable (λ w p. (q : ℕ) × (p ≡ q * w)) b (in_vector 0) (field 0 k.table f none)
