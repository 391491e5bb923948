use Rattle.std.proofs.Common.{◌≡◌, ◌∙◌, sym, ap, subst, ℕ, zero, suc, List, [], ◌∷◌, ◌++◌, length}
use Rattle.std.specs.List.{AllByRecursion}
use Rattle.ipc_model.specs.declared.value.Value.{Value}
use Rattle.ipc_column.specs.declared.batch.Shared.{Shared}
use Rattle.ipc_column.specs.Contents.{Contents}
use Rattle.ipc_column.specs.declared.ranges.ColumnRanges.{ColumnRanges}
use Rattle.ipc_column.specs.Views.{part_columns}
use Rattle.ipc_column.specs.Values.{row, rows_of}
use Rattle.ipc_column.proofs.Cells.{row_length}
use Rattle.ipc_column.proofs.batch.Batch.columns.Goals as goal

-- what holds of each and of one more
all_more : (P : List Value → Type 0) (xs : List (List Value)) (x : List Value) → AllByRecursion P xs → P x → AllByRecursion P (xs ++ x ∷ [])
all_more P [] x all one = (one, tt)
all_more P (y ∷ ys) x all one = (all.0, all_more P ys x all.1 one)

-- rows are as wide as there are parts
wide : (body : List ℕ) (ps : List ColumnRanges) (n : ℕ) → AllByRecursion (λ r. length r ≡ length ps) (rows_of (part_columns body ps) n)
wide body ps zero = tt
wide body ps (suc n) = all_more (λ r. length r ≡ length ps) (rows_of (part_columns body ps) n) (row (part_columns body ps) n)
    (wide body ps n)
    (row_length body ps n)

pub returns-clause-rows : goal.returns-clause-rows
returns-clause-rows c =
    let parts : length c.self.inside.shared.value.parts.items ≡ c.len.result =
    ap (λ (s : Shared). length s.parts.items) (sym c.deref.ensures) ∙ (sym c.deref.result.now.parts.ok.0 ∙ sym c.len.ensures) in
    subst (λ (n : ℕ). AllByRecursion (λ r. length r ≡ n) c.args.self.now.rows) parts
    (subst (λ (v : Contents). AllByRecursion (λ r. length r ≡ length c.self.inside.shared.value.parts.items) v.rows) c.self.view_is
    (wide c.self.inside.shared.value.body.value.items c.self.inside.shared.value.parts.items c.self.inside.shared.value.count))
