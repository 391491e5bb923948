-- Fields that are the same, path by path, and the first that are not.
use Rattle.std.proofs.Common.{◌≡◌, ◌∙◌, refl, sym, ap, ℕ, ◌+◌, ◌<◌, ◌≤◌, List, [], ◌∷◌, ⊎_elim, inl, inr, Option, Some, None, arith}
use Rattle.std.specs.Prelude.{◌≢◌, length, slice_get}
use Rattle.std.proofs.Math.Nat.{eq-or-lt_of_le}
use Rattle.std.proofs.lemmas.Bool.{cases_lt}
use Rattle.std.proofs.lemmas.Option.{slice_get_past}
use Rattle.ipc_model.specs.declared.schema.Field.{Field, out-Field}
use Rattle.job_expect.specs.Differences.{HaveSameFields, IsBefore, IsFirstDifference, children_if_any, compared, compared_at}
use Rattle.job_expect.specs.Differences.{compared_if_any}

-- the columns before this one are the same, with all below them
abbrev pub SameBefore : ℕ → List Field → List Field → Type 0
SameBefore count expected found = (number : ℕ) (below : List ℕ) → number < count
    → compared_at expected (number ∷ below) ≡ compared_at found (number ∷ below)

-- the fields at a path through a column are those below it
through : (fields : List Field) (number : ℕ) (field : Option Field) → slice_get fields number ≡ field → (next : ℕ) (below : List ℕ)
    → compared_at fields (number ∷ next ∷ below) ≡ compared_at (children_if_any field) (next ∷ below)
through fields number field at next below = ap (λ f. compared_at (children_if_any f) (next ∷ below)) at

-- where neither list has a column, nothing differs
neither : (expected found : List Field) (number : ℕ) → length expected ≤ number → length found ≤ number → (below : List ℕ)
    → compared_at expected (number ∷ below) ≡ compared_at found (number ∷ below)
neither expected found number past behind [] =
    ap compared_if_any (slice_get_past expected number past) ∙ sym (ap compared_if_any (slice_get_past found number behind))
neither expected found number past behind (next ∷ below) =
    through expected number None (slice_get_past expected number past) next below
    ∙ sym (through found number None (slice_get_past found number behind) next below)

-- where all columns are the same, all fields are
pub all_same : (expected found : List Field) (count : ℕ) → SameBefore count expected found → length expected ≤ count
    → length found ≤ length expected → HaveSameFields expected found
all_same expected found count before past fewer [] = refl
all_same expected found count before past fewer (number ∷ below) =
    ⊎_elim (λ less. before number below less)
    (λ more. neither expected found number (omega (arith, past, more)) (omega (arith, past, fewer, more)) below) (cases_lt number count)

nothing_first : (path : List ℕ) → IsBefore path [] → ⊥
nothing_first [] h = h
nothing_first (number ∷ below) h = h

module _ (expected found : List Field) (count : ℕ) (before : SameBefore count expected found) where
  -- a column that is another, or that only one of the two has, is the first difference
  pub other_column : compared_if_any (slice_get expected count) ≢ compared_if_any (slice_get found count)
      → IsFirstDifference expected found (count ∷ [])
  other_column differs = record { differs = differs; first = first }
    where
      first : (path : List ℕ) → IsBefore path (count ∷ []) → compared_at expected path ≡ compared_at found path
      first [] h = refl
      first (number ∷ below) (inl less) = before number below less
      first (number ∷ below) (inr (is, none)) = absurd (nothing_first below none)

  module _ (field other : Field) (at : slice_get expected count ≡ Some field) (there : slice_get found count ≡ Some other)
      (same : compared (out-Field field) ≡ compared (out-Field other)) where
    column_same : compared_if_any (slice_get expected count) ≡ compared_if_any (slice_get found count)
    column_same = ap compared_if_any at ∙ (ap Some same ∙ sym (ap compared_if_any there))

    -- the fields at a path through the column differ where those below it do
    below_same : (next : ℕ) (below : List ℕ)
        → compared_at (out-Field field).children (next ∷ below) ≡ compared_at (out-Field other).children (next ∷ below)
        → compared_at expected (count ∷ next ∷ below) ≡ compared_at found (count ∷ next ∷ below)
    below_same next below is =
        through expected count (Some field) at next below ∙ (is ∙ sym (through found count (Some other) there next below))

    -- one more column is the same
    pub one_more : HaveSameFields (out-Field field).children (out-Field other).children → SameBefore (count + 1) expected found
    one_more all number below less = ⊎_elim (λ is. here number below is) (λ lower. before number below lower)
        (eq-or-lt_of_le (omega (arith, less)))
      where
        here : (number : ℕ) (below : List ℕ) → number ≡ count → compared_at expected (number ∷ below) ≡ compared_at found (number ∷ below)
        here number [] is = rw is column_same
        here number (next ∷ below) is = rw is (below_same next below (all (next ∷ below)))

    -- the first difference below the column is the first of all
    pub inside : (path : List ℕ) → IsFirstDifference (out-Field field).children (out-Field other).children path
        → IsFirstDifference expected found (count ∷ path)
    inside [] d = absurd (d.differs refl)
    inside (next ∷ below) d = record {
      differs = λ is. d.differs (sym (through expected count (Some field) at next below)
          ∙ (is ∙ through found count (Some other) there next below));
      first = first;
    }
      where
        first : (path : List ℕ) → IsBefore path (count ∷ next ∷ below) → compared_at expected path ≡ compared_at found path
        first [] h = refl
        first (number ∷ more) (inl less) = before number more less
        first (number ∷ []) (inr (is, h)) = rw is column_same
        first (number ∷ step ∷ more) (inr (is, h)) = rw is (below_same step more (d.first (step ∷ more) h))
