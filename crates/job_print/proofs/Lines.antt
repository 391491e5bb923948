-- Rows that are put, one by one.
use Rattle.std.proofs.Common.{◌≡◌, subst, ℕ, ◌+◌, ◌<◌, List, [], length, take, drop, Option}
use Rattle.std.specs.Prelude.{slice_index_or}
use Rattle.ipc_model.specs.declared.value.Value.{Value}
use Rattle.job_print.specs.declared.line_buffer.PrintFault.{PrintFault}
use Rattle.job_print.specs.Output.{Output, Puts, PutFails}
use Rattle.job_print.specs.Rows.{lines}
use Rattle.job_print.proofs.Puts.{puts_then, puts_not_then, puts_not_front}
use Rattle.job_print.proofs.texts.Texts.{lines_more, lines_rest}

-- where a text was put, an equal text was
pub put_at : (a b : Output) (t u : List ℕ) → t ≡ u → Puts a b t → Puts a b u
put_at a b t u is p = subst (Puts a b) is p

-- where a text was not put, an equal text was not
pub not_at : (a : Output) (w : Option (List ℕ)) (n : ℕ) (t u : List ℕ) (e : PrintFault) → t ≡ u → PutFails a w n t e → PutFails a w n u e
not_at a w n t u e is p = subst (λ (x : List ℕ). PutFails a w n x e) is p

module _ (line_of : List Value → List ℕ) (rows : List (List Value)) where
  -- one row more
  pub rows_next : (a b d : Output) (i : ℕ) → i < length rows → Puts a b (lines line_of (take i rows))
      → Puts b d (line_of (slice_index_or rows i [])) → Puts a d (lines line_of (take (i + 1) rows))
  rows_next a b d i inside p q = put_at a d _ _ (lines_more line_of rows i inside)
      (puts_then a b d (lines line_of (take i rows)) (line_of (slice_index_or rows i [])) p q)

  -- where one of the rows was not put, the rows were not
  pub rows_cut : (a b : Output) (w : Option (List ℕ)) (n i : ℕ) (e : PrintFault) → i < length rows
      → Puts a b (lines line_of (take i rows)) → PutFails b w n (line_of (slice_index_or rows i [])) e
      → PutFails a w n (lines line_of rows) e
  rows_cut a b w n i e inside p q =
      puts_not_front a w n (lines line_of (take (i + 1) rows)) (lines line_of (drop (i + 1) rows)) (lines line_of rows) e
      (lines_rest line_of rows (i + 1)) (not_at a w n _ _ e (lines_more line_of rows i inside)
      (puts_not_then a b w n (lines line_of (take i rows)) (line_of (slice_index_or rows i [])) e p q))
