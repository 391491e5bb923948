-- Texts beside the text of null.
use Rattle.std.specs.Prelude.{⊤, ◌≢◌, [], ◌∷◌, ℕ, List}

-- a text does not begin as this text of null does; if that is empty, the text is not
abbrev pub BeginsApart : List ℕ → List ℕ → Type 0
BeginsApart [] [] = ⊥
BeginsApart [] (b ∷ bs) = ⊤
BeginsApart (n ∷ ns) [] = ⊤
BeginsApart (n ∷ ns) (b ∷ bs) = n ≢ b
