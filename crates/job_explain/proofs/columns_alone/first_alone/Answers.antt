use Rattle.std.proofs.Common.{◌≡◌, ◌∙◌, ap, sym, subst, arith, refl, rules, ℕ, ◌+◌, List, length, IfSome}
use Rattle.std.specs.Prelude.{ℤ}
use Rattle.std.proofs.lemmas.Option.{slice_get_read}
use Rattle.ipc_column.specs.DictionaryBatches.{dictionaries_in}
use Rattle.ipc_column.specs.Shapes.{buffer_count, node_count, shape_of}
use Rattle.job_explain.specs.ColumnsAlone.{IsRefusedAs, PassesAlone, column, column_head, sublist}
use Rattle.job_explain.proofs.ColumnCounts.{buffers_before_most, buffers_few, buffers_none, buffers_step, column_few, head_of_column}
use Rattle.job_explain.proofs.ColumnCounts.{next_too, nodes_few, nodes_most, nodes_none, nodes_step}
use Rattle.job_explain.proofs.columns_alone.first_alone.Goals as goal

pub count-all-requires-clause-nodes : goal.count-all-requires-clause-nodes
count-all-requires-clause-nodes c = omega (arith, nodes_few c.args.limits.now c.args.fields.now c.requires.few)

pub count-all-requires-clause-buffers : goal.count-all-requires-clause-buffers
count-all-requires-clause-buffers c = omega (arith, buffers_few c.args.limits.now c.args.fields.now c.requires.few)

pub loop-number-init : goal.loop-number-init
loop-number-init c = record {
  node = nodes_none c.args.fields.now;
  buffer = buffers_none c.args.fields.now;
  spare = tt;
  passed = λ j less. absurd (omega (arith, less));
}

pub count-after-requires-clause-nodes : goal.count-after-requires-clause-nodes
count-after-requires-clause-nodes c =
    let fs = c.args.fields.now in
    let i = c.loop-number.number in
    omega (arith, c.loop-number.invariant.node, nodes_step fs i, nodes_most fs (i + 1), nodes_few c.args.limits.now fs c.requires.few)

pub count-after-requires-clause-buffers : goal.count-after-requires-clause-buffers
count-after-requires-clause-buffers c =
    let fs = c.args.fields.now in
    let i = c.loop-number.number in
    omega (
      arith,
      c.loop-number.invariant.buffer,
      buffers_step fs i,
      buffers_before_most fs (i + 1),
      buffers_few c.args.limits.now fs
          c.requires.few,
    )

pub part_of-nodes-requires-clause-inside : goal.part_of-nodes-requires-clause-inside
part_of-nodes-requires-clause-inside c =
    let fs = c.args.fields.now in
    let i = c.loop-number.number in
    let same : length c.as_slice.result.now ≡ length c.args.head.now.nodes = ap (λ (xs : List (ℤ × ℤ)). length xs) c.as_slice.ensures in
    omega (arith, same, c.loop-number.invariant.node, nodes_step fs i, nodes_most fs (i + 1))

pub part_of-buffers-requires-clause-inside : goal.part_of-buffers-requires-clause-inside
part_of-buffers-requires-clause-inside c =
    let fs = c.args.fields.now in
    let i = c.loop-number.number in
    let same : length c.as_slice-in-loop-number.result.now ≡ length c.args.head.now.buffers =
    ap (λ (xs : List (ℤ × ℤ)). length xs) c.as_slice-in-loop-number.ensures in
    omega (arith, same, c.loop-number.invariant.buffer, buffers_step fs i, buffers_before_most fs (i + 1))

pub is_refused-requires-clause-few : goal.is_refused-requires-clause-few
is_refused-requires-clause-few c = column_few c.args.fields.now c.loop-number.number c.args.limits.now.fields c.requires.few

pub returns-then-refused : goal.returns-then-refused
returns-then-refused c = record {
  finds =
      let alone : column_head c.args.fields.now c.args.head.now c.loop-number.number ≡ record {
        length = c.args.head.now.length;
        nodes = c.part_of-nodes.result.now;
        buffers = c.part_of-buffers.result.now;
      } =
      head_of_column c.args.fields.now c.args.head.now c.loop-number.number c.loop-number.place.node c.loop-number.place.buffer
      c.count-after.result.node c.count-after.result.buffer c.part_of-nodes.result.now c.part_of-buffers.result.now
      c.loop-number.invariant.node c.loop-number.invariant.buffer c.count-after.ensures.nodes c.count-after.ensures.buffers
      (c.part_of-nodes.ensures ∙ ap (λ (xs : List (ℤ × ℤ)). sublist xs c.loop-number.place.node c.count-after.result.node)
      c.as_slice.ensures)
      (c.part_of-buffers.ensures
      ∙ ap (λ (xs : List (ℤ × ℤ)). sublist xs c.loop-number.place.buffer c.count-after.result.buffer) c.as_slice-in-loop-number.ensures) in
      let whole : c.in_ok-part.part ≡ record {
        length = c.args.head.now.length;
        nodes = c.part_of-nodes.result.now;
        buffers = c.part_of-buffers.result.now;
      } =
      search rules in
      let m = dictionaries_in c.args.dictionaries.now in
      let one = column c.args.fields.now c.loop-number.number in (
        record {
          counts = record { nodes = omega arith; buffers = omega arith };
          refused = subst (λ head. IsRefusedAs c.args.limits.now c.args.fault.now m one head c.args.body.now)
              (whole ∙ sym alone)
              (subst (λ body. IsRefusedAs c.args.limits.now c.args.fault.now m one c.in_ok-part.part body) c.in_ok-copy.ensures.copy
              (c.in_ok-refused.ensures.same c.if-refused.true));
          first = c.loop-number.invariant.passed;
        },
        slice_get_read c.args.fields.now (length c.args.fields.now) c.loop-number.number c.index-fields-number.result refl (omega arith)
            c.index-fields-number.is,
        alone,
      );
}

pub loop-number-preserved : goal.loop-number-preserved
loop-number-preserved c =
    let alone : column_head c.args.fields.now c.args.head.now c.loop-number.number ≡ record {
      length = c.args.head.now.length;
      nodes = c.part_of-nodes.result.now;
      buffers = c.part_of-buffers.result.now;
    } =
    head_of_column c.args.fields.now c.args.head.now c.loop-number.number c.loop-number.place.node c.loop-number.place.buffer
    c.count-after.result.node c.count-after.result.buffer c.part_of-nodes.result.now c.part_of-buffers.result.now
    c.loop-number.invariant.node c.loop-number.invariant.buffer c.count-after.ensures.nodes c.count-after.ensures.buffers
    (c.part_of-nodes.ensures ∙ ap (λ (xs : List (ℤ × ℤ)). sublist xs c.loop-number.place.node c.count-after.result.node)
    c.as_slice.ensures)
    (c.part_of-buffers.ensures
    ∙ ap (λ (xs : List (ℤ × ℤ)). sublist xs c.loop-number.place.buffer c.count-after.result.buffer) c.as_slice-in-loop-number.ensures) in
    let whole : c.in_ok-part.part ≡ record {
      length = c.args.head.now.length;
      nodes = c.part_of-nodes.result.now;
      buffers = c.part_of-buffers.result.now;
    } =
    search rules in
    let fs = c.args.fields.now in
    let i = c.loop-number.number in
    let m = dictionaries_in c.args.dictionaries.now in
    record {
      node = c.count-after.ensures.nodes ∙ ap (λ n. n + node_count (shape_of (column fs i))) c.loop-number.invariant.node
          ∙ sym (nodes_step fs i);
      buffer = c.count-after.ensures.buffers ∙ ap (λ n. n + buffer_count (shape_of (column fs i))) c.loop-number.invariant.buffer
          ∙ sym (buffers_step fs i);
      spare = subst (λ (body : List ℕ). IfSome c.in_ok-refused.back (λ b. b.items ≡ body)) c.in_ok-copy.ensures.copy
          c.in_ok-refused.ensures.body;
      passed = next_too _ i c.loop-number.invariant.passed
          (subst (λ head. PassesAlone c.args.limits.now c.args.fault.now m (column fs i) head c.args.body.now)
          (whole ∙ sym alone)
          (subst (λ body. PassesAlone c.args.limits.now c.args.fault.now m (column fs i) c.in_ok-part.part body) c.in_ok-copy.ensures.copy
          (c.in_ok-refused.ensures.other c.if-refused.false)));
    }

pub returns : goal.returns
returns c = record {
  finds =
      λ counts j less. c.loop-number.invariant.passed j (omega (arith, less));
}
