use Rattle.std.proofs.Common.{◌≡◌, ◌++◌, codes, rules}
use Rattle.job_explain.specs.ColumnLines.{buffers_words, lengths_words, nodes_words, slots_words, title_words}
use Rattle.job_explain.proofs.Joined.{appended}
use Rattle.job_explain.proofs.column_lines.push_column.Goals as goal

pub returns : goal.returns
returns c = record {
  ok =
      let old = c.args.out.now.items in
      let column = c.args.column.now in
      let title = title_words column.number column.field.now in
      let lengths = lengths_words c.args.length c.args.size in
      let nodes = nodes_words column.nodes.now in
      let buffers = buffers_words column.buffers.now in
      let first = c.push_title.new.out.items in
      let second = c.push_lengths.new.out.items in
      let third = c.push_pairs.new.out.items in
      let fourth = c.push_pairs-2.new.out.items in
      let slots = slots_words c.args.limits.now.slots column.nodes.now in
      let fifth = c.push_slots.new.out.items in
      let new = c.extend_from_slice.new.self.items in
      let more : second ≡ first ++ lengths = search rules in
      let two = appended old first second title lengths c.in_ok-push_title.ensures.ok more in
      let three = appended old second third (title ++ lengths) nodes two c.in_ok-push_pairs.ensures.ok in
      let four = appended old third fourth (title ++ lengths ++ nodes) buffers three c.in_ok-push_pairs-2.ensures.ok in
      let five = appended old fourth fifth (title ++ lengths ++ nodes ++ buffers) slots four c.in_ok-push_slots.ensures.ok in
      appended old fifth new (title ++ lengths ++ nodes ++ buffers ++ slots) (codes "\n") five c.in_ok-extend_from_slice.ensures.items;
}
