use Rattle.std.proofs.Common.{◌≡◌, sym, ◌∙◌, ap, arith, subst, w64, to_z, of_z, map}
use Rattle.std.proofs.lemmas.Int.{to_z-of_z}
use Rattle.std.proofs.lemmas.Map.Made.{keys_of-map_values}
use Rattle.std.specs.List.Sorted.{IsStrictlySortedBy}
use Rattle.std.specs.Ordering.{int_cmp}
use Rattle.ipc_column.specs.DictionaryBatches.{IsDictionary}
use Rattle.ipc_dict_read.specs.DictionariesState.{DictionariesState}
use Rattle.ipc_dict_read.specs.InForce.{put, in_force, total, body_len_of}
use Rattle.ipc_dict_read.proofs.Puts.{plain-put, total-put, body-le-total, values-put}
use Rattle.ipc_dict_read.proofs.dictionaries.Dictionaries.apply.Goals as goal

pub overflow_sub-self-inside : goal.overflow_sub-self-inside
overflow_sub-self-inside c =
    omega (
      arith,
      c.body_at-before.ensures,
      body-le-total (in_force c.self.inside.current) (to_z w64 (of_z w64 c.args.id)),
      c.self.invariant.bytes,
    )

-- what is in force after the insertion
after : (c : goal.After-self-1) → in_force c.insert.new.self ≡ put (in_force c.self.inside.current) c.args.id c.args.values
after c =
    let m = in_force c.self.inside.current in
    ap (map (λ e. (e.0, e.1.value))) c.in_ok-insert.ensures.entries
    ∙ plain-put c.self.inside.current.entries _ c.in_ok-shared.shared
    ∙ ap (λ k. put m k c.in_ok-shared.shared.value) (to_z-of_z w64 c.args.id c.ranges.id)
    ∙ ap (put m c.args.id) c.in_ok-shared.ensures.ok

pub invariant_of-self-2 : goal.invariant_of-self-2
invariant_of-self-2 c =
    let m = in_force c.self.inside.current in
    let sorted =
    subst (IsStrictlySortedBy int_cmp)
    (sym (keys_of-map_values (λ r. r.value) c.self.inside.current.entries)) c.in_ok-insert.ensures.was_ordered in
    record {
      bytes = omega (
        arith,
        c.body_at-before.ensures,
        c.in-Some.ensures,
        body-le-total m c.args.id,
        ap total (after c),
        total-put m c.args.id c.args.values sorted,
        c.self.invariant.bytes,
        ap (body_len_of m) (to_z-of_z w64 c.args.id c.ranges.id),
      );
      values = rw c.in_ok-insert.ensures.entries
          (values-put c.self.inside.current.entries _ c.in_ok-shared.shared c.self.invariant.values
          (subst IsDictionary (sym c.in_ok-shared.ensures.ok) c.requires));
    }

pub returns-clause-after : goal.returns-clause-after
returns-clause-after c =
    (λ i. record { columns = c.self.inside.columns.items; current = after c i })
    ∙ ap (λ (d : DictionariesState). record d { current = put d.current c.args.id c.args.values }) c.self.view_is
