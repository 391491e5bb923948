-- Entries whose ids are the same stand side by side.
use Rattle.std.proofs.Common.{◌≡◌, ℕ, ℤ, Option, List, [], ◌∷◌, refl, ap}
use Rattle.ipc_dict.specs.declared.entry.TallyEntry.{TallyEntry}
use Rattle.ipc_dict.specs.declared.kept.KeptEntry.{KeptEntry}
use Rattle.ipc_dict.specs.Planning.{after_all}
use Rattle.ipc_dict.specs.SchemaIds.{kept_ids, tally_ids, nothing_sent}

-- the ids are equal, index by index
abbrev pub SameIds : List KeptEntry → List TallyEntry → Type 0
SameIds [] [] = Unit {0}
SameIds (s ∷ ss) (n ∷ ns) = (s.id ≡ n.id) × SameIds ss ns
SameIds _ _ = ⊥

pub same_ids : (ks : List KeptEntry) (es : List TallyEntry) → kept_ids ks ≡ tally_ids es → SameIds ks es
same_ids [] [] h = tt
same_ids [] (e ∷ es) h = absurd cc
same_ids (k ∷ ks) [] h = absurd cc
same_ids (k ∷ ks) (e ∷ es) h = let head : k.id ≡ e.id = cc in let rest : kept_ids ks ≡ tally_ids es = cc in (head, same_ids ks es rest)

-- where nothing was sent, the ids are those that were asked for
pub ids_unsent : (ids : List ℤ) → kept_ids (nothing_sent ids) ≡ ids
ids_unsent [] = refl
ids_unsent (id ∷ ids) = ap (λ l. id ∷ l) (ids_unsent ids)

-- what is sent changes no id
pub ids_after_all : (ks : List KeptEntry) (es : List TallyEntry) (os : List (Option (List ℕ))) → kept_ids (after_all ks es os) ≡ kept_ids ks
ids_after_all [] es os = refl
ids_after_all (k ∷ ks) [] os = refl
ids_after_all (k ∷ ks) (e ∷ es) [] = refl
ids_after_all (k ∷ ks) (e ∷ es) (o ∷ os) = ap (λ l. k.id ∷ l) (ids_after_all ks es os)
