-- One pair of metadata more.
use Rattle.std.proofs.Common.{◌≡◌, ◌∙◌, ℕ, List, [], ◌∷◌, ◌++◌, map, refl, sym, ap, append_assoc}
use Rattle.std.proofs.lemmas.List.{append-nil}
use Rattle.serde_json.specs.Data.{Data, Items, item, no_items}
use Rattle.serde_json.specs.View.{items_of}
use Rattle.ipc_text_json.specs.SchemaJson.{pair_json}

abbrev pub Pairs : Type 0
Pairs = List (List ℕ × List ℕ)

module _ {here next : Items} {d : Data} (p : here ≡ item d next) where
  -- with one pair more what is read is the whole
  pub pairs_more : (whole : Items) (front more : Pairs) (pair : List ℕ × List ℕ) → d ≡ pair_json pair → more ≡ front ++ pair ∷ []
      → ((rest : Pairs) → here ≡ items_of (map pair_json rest) → whole ≡ items_of (map pair_json (front ++ rest)))
      → (rest : Pairs) → next ≡ items_of (map pair_json rest) → whole ≡ items_of (map pair_json (more ++ rest))
  pairs_more whole front more pair is e inv rest h =
      inv (pair ∷ rest) (p ∙ ap (λ x. item x next) is ∙ ap (item (pair_json pair)) h)
      ∙ ap (λ l. items_of (map pair_json l)) (sym (ap (λ l. l ++ rest) e ∙ append_assoc front (pair ∷ []) rest))

  -- the next pair, and the rest
  pub pair_next : (rest : Pairs) → here ≡ items_of (map pair_json rest)
      → (pair : List ℕ × List ℕ) × (others : Pairs) × (rest ≡ pair ∷ others) × (d ≡ pair_json pair) ×
      (next ≡ items_of (map pair_json others))
  pair_next [] h = absurd (let q = sym p ∙ h in cc)
  pair_next (pair ∷ others) h = let q = sym p ∙ h in (pair, others, refl, cc, cc)

  -- any pairs that there are begin with these
  pub pairs_all : (front more : Pairs) (pair : List ℕ × List ℕ) → ((w : List ℕ × List ℕ) → d ≡ pair_json w → pair ≡ w)
      → more ≡ front ++ pair ∷ [] → (pairs : Pairs) (rest : Pairs) → pairs ≡ front ++ rest → here ≡ items_of (map pair_json rest)
      → (others : Pairs) × (pairs ≡ more ++ others) × (next ≡ items_of (map pair_json others))
  pairs_all front more pair one e pairs rest is h =
      let n = pair_next rest h in
      let same : rest ≡ pair ∷ n.1 = n.2 ∙ ap (λ x. x ∷ n.1) (sym (one n.0 n.3)) in
      (n.1, is ∙ ap (λ l. front ++ l) same ∙ sym (ap (λ l. l ++ n.1) e ∙ append_assoc front (pair ∷ []) n.1), n.4)

nothing : (rest : Pairs) → no_items ≡ items_of (map pair_json rest) → rest ≡ []
nothing [] h = refl
nothing (x ∷ xs) h = absurd cc

-- where nothing is left, these are all
pub pairs_read : (front pairs rest : Pairs) (here : Items) → here ≡ no_items → pairs ≡ front ++ rest → here ≡ items_of (map pair_json rest)
    → front ≡ pairs
pairs_read front pairs rest here none is h =
    sym (is ∙ ap (λ l. front ++ l) (nothing rest (sym none ∙ h)) ∙ append-nil front)
