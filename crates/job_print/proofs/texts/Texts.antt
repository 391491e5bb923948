-- The lines of rows, row by row.
use Rattle.ipc_model.specs.declared.table.BatchRows.{BatchRows}
use Rattle.std.proofs.Common.{◌≡◌, ◌∙◌, refl, sym, ap, ℕ, ◌+◌, ◌<◌, ◌≤◌, List, [], ◌∷◌, ◌++◌, length, take, drop}
use Rattle.std.proofs.Common.{append_assoc, append-nil, take-append-drop, arith}
use Rattle.std.specs.Prelude.{slice_index_or}
use Rattle.std.proofs.lemmas.List.{take_more}
use Rattle.ipc_model.specs.declared.value.Value.{Value}
use Rattle.job_print.specs.Rows.{lines, batch_lines, last_lines}

module _ (line_of : List Value → List ℕ) where
  lines_append : (rows more : List (List Value)) → lines line_of (rows ++ more) ≡ lines line_of rows ++ lines line_of more
  lines_append [] more = refl
  lines_append (row ∷ rows) more = ap (λ (x : List ℕ). line_of row ++ x) (lines_append rows more)
      ∙ sym (append_assoc (line_of row) (lines line_of rows) (lines line_of more))

  -- the lines of the first i rows and that of the next one are those of the first i + 1
  pub lines_more : (rows : List (List Value)) (i : ℕ) → i < length rows
      → lines line_of (take i rows) ++ line_of (slice_index_or rows i []) ≡ lines line_of (take (i + 1) rows)
  lines_more rows i inside =
      ap (λ (x : List ℕ). lines line_of (take i rows) ++ x) (sym (append-nil (line_of (slice_index_or rows i []))))
      ∙ (sym (lines_append (take i rows) (slice_index_or rows i [] ∷ [])) ∙ ap (lines line_of) (sym (take_more rows i [] inside)))

  -- the lines of rows are those of the first i and those of the others
  pub lines_rest : (rows : List (List Value)) (i : ℕ) → lines line_of rows ≡ lines line_of (take i rows) ++ lines line_of (drop i rows)
  lines_rest rows i = ap (lines line_of) (sym (take-append-drop i rows)) ∙ lines_append (take i rows) (drop i rows)

  -- a text and the lines of rows are it with the lines of the first i, and those of the others
  pub head_rest : (head : List ℕ) (rows : List (List Value)) (i : ℕ)
      → head ++ lines line_of rows ≡ (head ++ lines line_of (take i rows)) ++ lines line_of (drop i rows)
  head_rest head rows i = ap (λ (x : List ℕ). head ++ x) (lines_rest rows i)
      ∙ sym (append_assoc head (lines line_of (take i rows)) (lines line_of (drop i rows)))

  -- the text of batches and that of one more is that of all of them
  pub batch_lines_more : (head_of : List (List ℕ × List ℕ) → List ℕ) (batches : List BatchRows) (rows : BatchRows)
      → batch_lines head_of line_of batches ++ (head_of rows.pairs ++ lines line_of rows.rows)
      ≡ batch_lines head_of line_of (batches ++ rows ∷ [])
  batch_lines_more head_of [] rows = sym (append-nil (head_of rows.pairs ++ lines line_of rows.rows))
  batch_lines_more head_of (b ∷ bs) rows =
      append_assoc (head_of b.pairs ++ lines line_of b.rows) (batch_lines head_of line_of bs)
      (head_of rows.pairs ++ lines line_of rows.rows)
      ∙ ap (λ (x : List ℕ). (head_of b.pairs ++ lines line_of b.rows) ++ x) (batch_lines_more head_of bs rows)

  -- the text of batches and of the first rows of one more begins the text with all its rows
  pub batches_rest : (head_of : List (List ℕ × List ℕ) → List ℕ) (front : List ℕ) (batches : List BatchRows) (rows : BatchRows) (i : ℕ)
      → front ++ batch_lines head_of line_of (batches ++ rows ∷ [])
      ≡ ((front ++ batch_lines head_of line_of batches) ++ (head_of rows.pairs ++ lines line_of (take i rows.rows)))
      ++ lines line_of (drop i rows.rows)
  batches_rest head_of front batches rows i =
      let texts = batch_lines head_of line_of batches in
      let head = head_of rows.pairs in
      ap (λ (x : List ℕ). front ++ x) (sym (batch_lines_more head_of batches rows))
      ∙ (sym (append_assoc front texts (head ++ lines line_of rows.rows))
      ∙ (ap (λ (x : List ℕ). (front ++ texts) ++ x) (head_rest head rows.rows i)
      ∙ sym (append_assoc (front ++ texts) (head ++ lines line_of (take i rows.rows)) (lines line_of (drop i rows.rows)))))

  -- the last of batches and one more is that one
  pub last_lines_more : (head_of : List (List ℕ × List ℕ) → List ℕ) (front : List ℕ) (batches : List BatchRows) (rows : BatchRows)
      → last_lines front head_of line_of (batches ++ rows ∷ []) ≡ head_of rows.pairs ++ lines line_of rows.rows
  last_lines_more head_of front [] rows = refl
  last_lines_more head_of front (b ∷ bs) rows = last_lines_more head_of (head_of b.pairs ++ lines line_of b.rows) bs rows

  -- the text of the last of batches is no shorter with a front, which is that of none
  pub last_lines_front : (head_of : List (List ℕ × List ℕ) → List ℕ) (front : List ℕ) (batches : List BatchRows)
      → length (last_lines [] head_of line_of batches) ≤ length (last_lines front head_of line_of batches)
  last_lines_front head_of front [] = omega arith
  last_lines_front head_of front (b ∷ bs) = omega arith
