use Rattle.std.proofs.Common.{◌≡◌, ◌++◌, codes, rules}
use Rattle.std.specs.Fmt.{decimal}
use Rattle.job_explain.proofs.Joined.{appended}
use Rattle.job_explain.proofs.records.push_place.Goals as goal

pub returns : goal.returns
returns c = record {
  ok =
      let old = c.args.out.now.items in
      let words = codes " (not UTF-8 at byte " in
      let number = decimal c.args.place in
      let first = c.extend_from_slice.new.self.items in
      let second = c.push_number.new.out.items in
      let new = c.extend_from_slice-2.new.self.items in
      let more : second ≡ first ++ number = search rules in
      let two = appended old first second words number c.in_ok-extend_from_slice.ensures.items more in
      appended old second new (words ++ number) (codes ")") two c.in_ok-extend_from_slice-2.ensures.items;
}
