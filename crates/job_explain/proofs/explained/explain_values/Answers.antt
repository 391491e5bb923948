use Rattle.std.proofs.Common.{◌≡◌, ◌∙◌, [], Some, ap, map, subst, sym, w64}
use Rattle.std.proofs.lemmas.Int.{to_z-of_z}
use Rattle.std.specs.Prelude.{IfOk, MatchOption}
use Rattle.ipc_column.specs.DictionaryBatches.{dictionaries_in, dictionary_values}
use Rattle.ipc_dict_read.specs.ValuesColumns.{columns_for, dictionary_columns}
use Rattle.job_explain.specs.Explained.{ExplainsBatch, dictionary_words, unknown_line}
use Rattle.job_explain.proofs.explained.explain_values.Goals as goal

pub returns : goal.returns
returns c = record {
  line =
      let limits = c.args.scope.now.limits in
      let fault = c.args.fault.now in
      let head = c.args.head.now in
      let body = c.args.body.now in
      let fields = c.in-Some.fields.now in
      let found : columns_for (dictionary_columns c.args.scope.now.schema.fields) c.args.id ≡ Some fields =
      ap (columns_for (dictionary_columns c.args.scope.now.schema.fields)) (sym (to_z-of_z w64 c.args.id c.ranges.id))
      ∙ c.in-Some.ensures.some in
      let none : dictionaries_in c.new-none.result ≡ [] =
      ap (λ es. map (λ e. (e.0, dictionary_values e.1.value)) es) c.new-none.ensures.empty in
      subst (λ o. IfOk c.explain_batch.result (λ line. MatchOption o (line.items ≡ unknown_line c.args.id)
      (λ columns. ExplainsBatch limits fault [] columns head body (dictionary_words c.args.id) line.items))) (sym found)
      (subst (λ front. IfOk c.explain_batch.result (λ line. ExplainsBatch limits fault [] fields head body front line.items))
      (c.in_ok-front.ensures.words ∙ ap dictionary_words (to_z-of_z w64 c.args.id c.ranges.id))
      (subst (λ m. IfOk c.explain_batch.result (λ line. ExplainsBatch limits fault m fields head body c.in_ok-front.front.items line.items))
      none c.explain_batch.ensures.line));
}
