use Rattle.std.proofs.Common.{◌++◌, codes}
use Rattle.job_explain.specs.ColumnLines.{title_words}
use Rattle.job_explain.proofs.Joined.{appended}
use Rattle.job_explain.proofs.writes.push_growth.Goals as goal

pub returns : goal.returns
returns c = record {
  ok =
      let old = c.args.out.now.items in
      let title = title_words c.args.number c.args.field.now in
      let colon = codes ": " in
      let words = c.args.words.now in
      let first = c.push_title.new.out.items in
      let second = c.extend_from_slice.new.self.items in
      let third = c.extend_from_slice-2.new.self.items in
      let new = c.extend_from_slice-3.new.self.items in
      let two = appended old first second title colon c.in_ok-push_title.ensures.ok c.in_ok-extend_from_slice.ensures.items in
      let three = appended old second third (title ++ colon) words two c.in_ok-extend_from_slice-2.ensures.items in
      appended old third new (title ++ colon ++ words) (codes "\n") three c.in_ok-extend_from_slice-3.ensures.items;
}
