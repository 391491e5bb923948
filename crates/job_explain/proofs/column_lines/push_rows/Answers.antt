use Rattle.std.proofs.Common.{◌∙◌, ◌++◌, ℕ, ℤ, List, ap, codes, w64}
use Rattle.std.proofs.lemmas.Int.{to_z-of_z}
use Rattle.std.specs.Fmt.{decimal, signed_decimal}
use Rattle.job_explain.proofs.Joined.{appended}
use Rattle.job_explain.proofs.column_lines.push_rows.Goals as goal

pub returns : goal.returns
returns c = record {
  ok =
      let old = c.args.out.now.items in
      let words : ℤ → List ℕ = λ rows. codes "batch of length " ++ signed_decimal rows ++ codes "; --max-rows is "
      ++ decimal c.args.limit in
      appended old _ _ (words c.args.length) (codes "\n")
      (c.in_ok-push_lengths.ensures.ok ∙ ap (λ rows. old ++ words rows) (to_z-of_z w64 c.args.length c.ranges.length))
      c.in_ok-extend_from_slice.ensures.items;
}
