-- Words for the elements of a list, one after another.
use Rattle.std.proofs.Common.{◌≡◌, ◌∙◌, refl, sym, ap, append_assoc, append-nil, ℕ, ◌+◌, ◌<◌, ◌≤◌, List, [], ◌∷◌, ◌++◌}
use Rattle.std.proofs.Common.{add-one, drop, drop-cons, get_or, length}
use Rattle.std.proofs.lemmas.List.{drop_all}

-- words that were appended after others
pub appended : (old mid new words rest : List ℕ) → mid ≡ old ++ words → new ≡ mid ++ rest → new ≡ old ++ (words ++ rest)
appended old mid new words rest m n = n ∙ ap (λ s. s ++ rest) m ∙ append_assoc old words rest

module _ {X : Type 0} (words : X → List ℕ) (all : List X → List ℕ) where
  -- the words for one more element were appended
  pub joined_more : ((x : X) (xs : List X) → all (x ∷ xs) ≡ words x ++ all xs) → (xs : List X) (i : ℕ) (x : X) → i < length xs
      → (old new whole : List ℕ) → new ≡ old ++ words (get_or xs i x) → old ++ all (drop i xs) ≡ whole
      → new ++ all (drop (i + 1) xs) ≡ whole
  joined_more law xs i x h old new whole more before =
      let split : drop i xs ≡ get_or xs i x ∷ drop (i + 1) xs = rw (drop-cons xs i x h) (rw add-one refl) in
      ap (λ s. s ++ all (drop (i + 1) xs)) more ∙ append_assoc old (words (get_or xs i x)) (all (drop (i + 1) xs))
      ∙ ap (λ s. old ++ s) (sym (law (get_or xs i x) (drop (i + 1) xs))) ∙ ap (λ s. old ++ all s) (sym split) ∙ before

  -- the words for all elements were appended
  pub joined_done : all [] ≡ [] → (xs : List X) (i : ℕ) → length xs ≤ i → (out whole : List ℕ) → out ++ all (drop i xs) ≡ whole
      → out ≡ whole
  joined_done law xs i h out whole before =
      sym (append-nil out) ∙ ap (λ s. out ++ s) (sym law) ∙ ap (λ s. out ++ all s) (sym (drop_all i xs h)) ∙ before
