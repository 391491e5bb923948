-- Batches up to a limit of rows.
use Rattle.std.proofs.Common.{◌≡◌, ◌∙◌, refl, sym, ap, subst, ℕ, zero, suc, ◌+◌, ◌-◌, ◌<◌, ◌≤◌, List, [], ◌∷◌, ◌++◌, length, take, drop}
use Rattle.std.proofs.Common.{Option, Some, None, arith, take-append-drop, length-append}
use Rattle.std.specs.Prelude.{min}
use Rattle.std.proofs.lemmas.List.{take_all, take_min, take-append-le, get_or-take, length-take}
use Rattle.std.proofs.Math.Seq.{take-append_seam}
use Rattle.ipc_model.specs.declared.schema.Field.{Field}
use Rattle.ipc_model.specs.declared.table.BatchRows.{BatchRows}
use Rattle.ipc_model.specs.declared.value.Value.{Value}
use Rattle.ipc_text_temporal.specs.declared.fault.TextFault.{TextFault}
use Rattle.job_print.specs.declared.form.Form.{Form}
use Rattle.job_print.specs.FirstRows.{batch_prefix, first_rows, within, WantsMoreRows, HasReached, AreWanted, IsWithinRowLimit, wanted_rows}
use Rattle.job_print.specs.Forms.{HaveLines, LacksRecord, RefusesFirstRow, row_count}

-- the rows of batches and of others are those of both
pub row_count_then : (batches others : List BatchRows) → row_count (batches ++ others) ≡ row_count batches + row_count others
row_count_then [] others = omega arith
row_count_then (b ∷ bs) others = let more = row_count_then bs others in omega (arith, more)

pub row_count_last : (batches : List BatchRows) (last : BatchRows) → row_count (batches ++ last ∷ []) ≡ row_count batches + length last.rows
row_count_last batches last = let both = row_count_then batches (last ∷ []) in omega (arith, both)

-- a batch with all of its rows
shortened_all : (n : ℕ) (b : BatchRows) → length b.rows ≤ n → batch_prefix n b ≡ b
shortened_all n b all = ap (λ (rows : List (List Value)). record b { rows = rows }) (take_all n b.rows all)

-- batches with fewer rows than n
first_all : (n : ℕ) (batches : List BatchRows) → row_count batches < n → first_rows n batches ≡ batches
first_all n [] few = refl
first_all zero (b ∷ bs) few = absurd (omega (arith, few))
first_all (suc n) (b ∷ bs) few =
    ap (λ (first : BatchRows). first ∷ first_rows (suc n - length b.rows) bs) (shortened_all (suc n) b (omega (arith, few)))
    ∙ ap (λ (rest : List BatchRows). b ∷ rest) (first_all (suc n - length b.rows) bs (omega (arith, few)))

-- batches with fewer rows than n, another one and more of them
first_split : (n : ℕ) (batches : List BatchRows) (last : BatchRows) (others : List BatchRows) → row_count batches < n
    → first_rows n (batches ++ last ∷ others)
    ≡ batches ++ batch_prefix (n - row_count batches) last ∷ first_rows (n - row_count batches - length last.rows) others
first_split zero batches last others few = absurd (omega (arith, few))
first_split (suc n) [] last others few =
    ap (λ (k : ℕ). batch_prefix k last ∷ first_rows (k - length last.rows) others) (sub_zero (suc n))
  where
    sub_zero : (k : ℕ) → k ≡ k - 0
    sub_zero k = omega arith
first_split (suc n) (b ∷ bs) last others few =
    let left : suc n - length b.rows - row_count bs ≡ suc n - (length b.rows + row_count bs) = omega arith in
    ap (λ (first : BatchRows). first ∷ first_rows (suc n - length b.rows) (bs ++ last ∷ others))
    (shortened_all (suc n) b (omega (arith, few)))
    ∙ (ap (λ (rest : List BatchRows). b ∷ rest) (first_split (suc n - length b.rows) bs last others (omega (arith, few)))
    ∙ ap (λ (k : ℕ). b ∷ (bs ++ batch_prefix k last ∷ first_rows (k - length last.rows) others)) left)

-- batches with at least n rows, whatever follows them
first_prefix : (n : ℕ) (batches others : List BatchRows) → n ≤ row_count batches → first_rows n (batches ++ others) ≡ first_rows n batches
first_prefix zero [] [] all = refl
first_prefix zero [] (o ∷ os) all = refl
first_prefix zero (b ∷ bs) others all = refl
first_prefix (suc n) [] others all = absurd (omega (arith, all))
first_prefix (suc n) (b ∷ bs) others all =
    ap (λ (rest : List BatchRows). batch_prefix (suc n) b ∷ rest) (first_prefix (suc n - length b.rows) bs others (omega (arith, all)))

-- without batches there is no row
pub within_none : (limit : Option ℕ) → within limit [] ≡ []
within_none None = refl
within_none (Some n) = refl

-- below the limit all rows of batches are printed
pub within_all : (limit : Option ℕ) (batches : List BatchRows) → WantsMoreRows limit (row_count batches) → within limit batches ≡ batches
within_all None batches below = refl
within_all (Some n) batches below = first_all n batches below

-- of the next batch those that are wanted
pub within_more : (limit : Option ℕ) (batches : List BatchRows) (last : BatchRows) (count : ℕ) → WantsMoreRows limit (row_count batches)
    → count ≡ wanted_rows limit (row_count batches) (length last.rows)
    → within limit (batches ++ last ∷ []) ≡ batches ++ batch_prefix count last ∷ []
within_more None batches last count below is =
    ap (λ (b : BatchRows). batches ++ b ∷ []) (sym (shortened_all count last (omega (arith, is))))
within_more (Some n) batches last count below is =
    first_split n batches last [] below
    ∙ ap (λ (rows : List (List Value)). batches ++ record last { rows = rows } ∷ [])
    (sym (take_min (n - row_count batches) last.rows) ∙ ap (λ (k : ℕ). take k last.rows) (sym is))

-- a table's batches, of which the last ones were not read
pub within_prefix : (limit : Option ℕ) (batches others : List BatchRows) → HasReached limit (row_count batches)
    → within limit (batches ++ others) ≡ within limit batches
within_prefix None batches others reached = absurd reached
within_prefix (Some n) batches others reached = first_prefix n batches others reached

pub reached_more : (limit : Option ℕ) (batches others : List BatchRows) → HasReached limit (row_count batches)
    → HasReached limit (row_count (batches ++ others))
reached_more None batches others reached = absurd reached
reached_more (Some n) batches others reached = let both = row_count_then batches others in omega (arith, both, reached)

pub not_both : (limit : Option ℕ) (rows : ℕ) → WantsMoreRows limit rows → HasReached limit rows → ⊥
not_both None rows below reached = reached
not_both (Some n) rows below reached = absurd (omega (arith, below, reached))

pub below_less : (limit : Option ℕ) (few rows : ℕ) → few ≤ rows → WantsMoreRows limit rows → WantsMoreRows limit few
below_less None few rows less below = tt
below_less (Some n) few rows less below = omega (arith, less, below)

-- a list with one element more, without it
front_of : (xs ys : List BatchRows) (x y : BatchRows) → xs ++ x ∷ [] ≡ ys ++ y ∷ [] → xs ≡ ys
front_of xs ys x y is =
    let size : length xs ≡ length ys = omega (arith, ap length is, length-append xs (x ∷ []), length-append ys (y ∷ [])) in
    sym (take-append_seam xs (x ∷ [])) ∙ (ap (take (length xs)) is
    ∙ (ap (λ (n : ℕ). take n (ys ++ y ∷ [])) size ∙ take-append_seam ys (y ∷ [])))

-- below the limit the next batch is wanted
pub wanted_more : (limit : Option ℕ) (batches : List BatchRows) (last : BatchRows) → WantsMoreRows limit (row_count batches)
    → AreWanted limit (batches ++ last ∷ [])
wanted_more limit batches last below = λ earlier other is.
    subst (λ (bs : List BatchRows). WantsMoreRows limit (row_count bs)) (front_of batches earlier last other is) below

pub wanted_none : (limit : Option ℕ) → AreWanted limit []
wanted_none limit = λ earlier last is. absurd (omega (arith, ap length is, length-append earlier (last ∷ [])))

-- where nothing was taken after batches that are wanted, nothing was taken after the limit
pub wanted_within : (limit : Option ℕ) (batches : List BatchRows) → AreWanted limit batches → IsWithinRowLimit limit batches [] []
wanted_within limit batches wanted = record { wanted = wanted; ended = λ reached. (refl, refl) }

-- nor where the rows are below it
pub below_within : (limit : Option ℕ) (batches : List BatchRows) (rest tail : List ℕ) → WantsMoreRows limit (row_count batches)
    → IsWithinRowLimit limit batches rest tail
below_within limit batches rest tail below = record {
  wanted = λ earlier last is.
      let more : row_count earlier ≤ row_count batches = omega (arith, ap row_count is, row_count_last earlier last) in
      below_less limit (row_count earlier) (row_count batches) more below;
  ended = λ reached. absurd (not_both limit (row_count batches) below reached);
}

-- the first of the first rows
pub take_fewer : {X : Type 0} → (c k : ℕ) (rows : List X) → c ≤ length (take k rows) → take c (take k rows) ≡ take c rows
take_fewer c k rows few = sym (take-append-le c (take k rows) (drop k rows) few) ∙ ap (take c) (take-append-drop k rows)

-- a row that is refused among the first ones is so among all
pub refuses_all : (form : Form) (fields : List Field) (rows : List (List Value)) (k c : ℕ) (fault : TextFault)
    → RefusesFirstRow form fields (take k rows) c fault → RefusesFirstRow form fields rows c fault
refuses_all form fields rows k c fault r =
    let size = length-take k rows in
    record {
      inside = omega (arith, r.inside, size);
      before = subst (HaveLines form fields) (take_fewer c k rows (omega (arith, r.inside))) r.before;
      lacks = subst (λ (row : List Value). LacksRecord form fields row fault) (get_or-take k rows c [] (omega (arith, r.inside, size)))
          r.lacks;
    }

-- and where it is among the first ones, it is refused there
refuses_first : (form : Form) (fields : List Field) (rows : List (List Value)) (k c : ℕ) (fault : TextFault) → c < k
    → RefusesFirstRow form fields rows c fault → RefusesFirstRow form fields (take k rows) c fault
refuses_first form fields rows k c fault less r =
    let size = length-take k rows in
    let inside : c < length (take k rows) = omega (arith, r.inside, size, less) in
    record {
      inside = inside;
      before = subst (HaveLines form fields) (sym (take_fewer c k rows (omega (arith, inside)))) r.before;
      lacks = subst (λ (row : List Value). LacksRecord form fields row fault) (sym (get_or-take k rows c [] less)) r.lacks;
    }

-- how many rows before a row that is refused are below the limit
pub below_refused : (limit : Option ℕ) (before count rows c : ℕ) → WantsMoreRows limit before → count ≡ wanted_rows limit before rows → c
    < count → WantsMoreRows limit (before + c)
below_refused None before count rows c below is less = tt
below_refused (Some n) before count rows c below is less = omega (arith, below, is, less)

-- a row that is refused below the limit is one of the batch's rows that are wanted
pub refused_inside : (limit : Option ℕ) (before c : ℕ) (rows : List (List Value)) → WantsMoreRows limit (before + c) → c < length rows
    → c ≤ length (take (wanted_rows limit before (length rows)) rows)
refused_inside None before c rows below inside = omega (arith, inside, length-take (length rows) rows)
refused_inside (Some n) before c rows below inside =
    omega (arith, below, inside, length-take (min (n - before) (length rows)) rows)

-- a row below the limit, of a batch among others, is one of those that are printed
pub refused_within : (form : Form) (fields : List Field) (limit : Option ℕ) (batches : List BatchRows) (last : BatchRows)
    (others : List BatchRows) (c : ℕ) (fault : TextFault) → WantsMoreRows limit (row_count batches + c)
    → RefusesFirstRow form fields last.rows c fault
    → (b : BatchRows) × (rest : List BatchRows) × (within limit (batches ++ last ∷ others) ≡ batches ++ b ∷ rest)
    × RefusesFirstRow form fields b.rows c fault
refused_within form fields None batches last others c fault below r = (last, others, refl, r)
refused_within form fields (Some n) batches last others c fault below r = (
  batch_prefix (n - row_count batches) last,
  first_rows (n - row_count batches - length last.rows) others,
  first_split n batches last others (omega (arith, below)),
  refuses_first form fields last.rows (n - row_count batches) c fault (omega (arith, below)) r,
)
