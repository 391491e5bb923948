use Rattle.std.proofs.Common.{◌≡◌, ◌++◌, codes, rules}
use Rattle.std.specs.Fmt.{signed_decimal}
use Rattle.ipc_model.specs.declared.schema.DataType.TheVariants as t
use Rattle.job_explain.specs.ColumnLines.{title_words, type_words}
use Rattle.job_explain.proofs.Joined.{appended}
use Rattle.job_explain.proofs.writes.push_dictionary.Goals as goal

pub returns : goal.returns
returns c = record {
  ok =
      let old = c.args.out.now.items in
      let d = c.args.dictionary in
      let title = title_words c.args.number c.args.field.now in
      let word = codes ": dictionary " in
      let id = signed_decimal d.id in
      let with = codes " with indices" in
      let kind = type_words (t.Int d.index.bits d.index.signed) in
      let first = c.push_title.new.out.items in
      let second = c.extend_from_slice.new.self.items in
      let third = c.push_signed.new.out.items in
      let fourth = c.extend_from_slice-2.new.self.items in
      let fifth = c.push_type.new.out.items in
      let new = c.extend_from_slice-3.new.self.items in
      let two = appended old first second title word c.in_ok-push_title.ensures.ok c.in_ok-extend_from_slice.ensures.items in
      let more : third ≡ second ++ id = search rules in
      let three = appended old second third (title ++ word) id two more in
      let four = appended old third fourth (title ++ word ++ id) with three c.in_ok-extend_from_slice-2.ensures.items in
      let five = appended old fourth fifth (title ++ word ++ id ++ with) kind four c.in_ok-push_type.ensures.ok in
      appended old fifth new (title ++ word ++ id ++ with ++ kind) (codes "\n") five c.in_ok-extend_from_slice-3.ensures.items;
}
