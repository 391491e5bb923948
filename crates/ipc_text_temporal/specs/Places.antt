-- Texts at a place of a list of bytes.
use Rattle.std.specs.Prelude.{◌≡◌, ℕ, ◌+◌, List, ◌++◌, length, take, drop, Option, Some, None}

-- the bytes after a text was written over them at a place; those before and after it are unchanged
abbrev pub with_text : List ℕ → ℕ → List ℕ → List ℕ
with_text bytes at text = take at bytes ++ text ++ drop (at + length text) bytes

-- a text, if there is one, is written at a place, and the result is the place where it ends;
-- otherwise the bytes are unchanged, and there is no result
abbrev pub WritesText : Option (List ℕ) → ℕ → List ℕ → List ℕ → Option ℕ → Type 0
WritesText None at old new end = (new ≡ old) × (end ≡ None)
WritesText (Some text) at old new end =
    (new ≡ with_text old at text) × (end ≡ Some (at + length text))
