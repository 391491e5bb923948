use Rattle.std.proofs.Common.{◌≡◌, ◌∙◌, ◌++◌, ◌∷◌, ◌+◌, [], map, length, length-append, append_assoc, take, drop, ◌-◌, sym, ap, arith}
use Rattle.std.proofs.Common.{rules, flat_map}
use Rattle.serde_json.specs.View.{view}
use Rattle.ipc_model.specs.declared.schema.Field.{out-Field}
use Rattle.ipc_text_json.specs.SchemaJson.{own_json, field_json}
use Rattle.ipc_text_temporal.specs.declared.fault.TextFault.TheVariants.{OutOfMemory}
use Rattle.ipc_text_json.proofs.JsonItems.{front_view}
use Rattle.ipc_text_json.proofs.Trees.{field_unrolled, split_field, same_field, next_child, joined_more}
use Rattle.ipc_text_json.proofs.schema_reader.+tree.Goals as goal

pub read_field-returns-clause-read : goal.read_field-returns-clause-read
read_field-returns-clause-read t c =
    let v = front_view c.args.entries.now c.entry-item.result (omega arith) c.entry-item.is in
    let o = c.in_ok-own.ensures.read c.in_ok-children.children.items c.in_ok-children.ensures.count in
    let w = field_unrolled c.with_children.result ∙ ap (λ x. own_json x ∷ flat_map field_json x.children)
    c.with_children.ensures in
    v ∙ ap (λ d. d ∷ map view (take (length c.args.entries.now - 1) (drop 1 c.args.entries.now))) o
    ∙ ap (λ l. own_json (record (out-Field c.in_ok-own.own.field) { children = c.in_ok-children.children.items }) ∷ l)
    c.in_ok-children.ensures.read
    ∙ sym (ap (λ l. l ++ map view c.in_ok-children.rest.now) w)

pub read_field-returns-in_err-children-clause-all : goal.read_field-returns-in_err-children-clause-all
read_field-returns-in_err-children-clause-all t c f place rest e h q =
    let v = front_view c.args.entries.now c.entry-item.result (omega arith) c.entry-item.is in
    let s = split_field f place _ _ rest (sym v ∙ q) h in
    let o = c.in_ok-own.ensures.all (out-Field f) s.2.0 s.2.1 s.0 in
    let z : c.in_err-children.field-0.0 ≡ OutOfMemory =
    c.in_err-children.ensures.all (out-Field f).children (place + 1) rest (omega arith) (sym o.0) s.3 s.1 in
    search (rules, z)

pub read_field-returns-clause-all : goal.read_field-returns-clause-all
read_field-returns-clause-all t c f place rest e h q =
    let v = front_view c.args.entries.now c.entry-item.result (omega arith) c.entry-item.is in
    let s = split_field f place _ _ rest (sym v ∙ q) h in
    let o = c.in_ok-own.ensures.all (out-Field f) s.2.0 s.2.1 s.0 in
    let z = c.in_ok-children.ensures.all (out-Field f).children (place + 1) rest (omega arith) (sym o.0) s.3 s.1 in (
      same_field c.with_children.result f
          (c.with_children.ensures ∙ ap (λ l. record (out-Field c.in_ok-own.own.field) { children = l }) z.0 ∙ o.1),
      z.1,
    )

pub read_children-returns-in_err-field-clause-all : goal.read_children-returns-in_err-field-clause-all
read_children-returns-in_err-field-clause-all t c fs place rest e len h q =
    let a = c.loop-number.invariant.all fs place rest e len h q in
    let size = a.2 in
    let n = next_child a.0 place _ rest (omega arith) a.3 a.4 in
    let z : c.in_err-field.field-0.0 ≡ OutOfMemory =
    c.in_err-field.ensures.all n.0 place (flat_map field_json n.1 ++ rest) e n.3 n.5 in
    search (rules, z)

pub read_children-loop-number-preserved : goal.read_children-loop-number-preserved
read_children-loop-number-preserved t c =
    let i = c.loop-number.invariant in
    let p = c.in_ok-push.ensures.items in
    let before = c.loop-number.children.items in
    let count = i.count in
    record {
      count = omega (arith, ap length p, length-append before (c.in_ok-field.field ∷ []));
      read = i.read ∙ ap (λ l. flat_map field_json before ++ l) c.in_ok-field.ensures.read
          ∙ sym (append_assoc (flat_map field_json before) (field_json c.in_ok-field.field) (map view c.in_ok-field.behind.now))
          ∙ ap (λ l. l ++ map view c.in_ok-field.behind.now)
          (sym (ap (λ l. flat_map field_json l) p ∙ joined_more before c.in_ok-field.field));
      all = λ fs place rest e len h q.
          let a = i.all fs place rest e len h q in
          let size = a.2 in
          let n = next_child a.0 place _ rest (omega arith) a.3 a.4 in
          let z = c.in_ok-field.ensures.all n.0 place (flat_map field_json n.1 ++ rest) e n.3 n.5 in
          let same = n.2 in
          let more : a.0 ≡ c.in_ok-field.field ∷ n.1 = n.2 ∙ ap (λ g. g ∷ n.1) (sym z.0) in (
            n.1,
            a.1 ∙ ap (λ l. before ++ l) more ∙ sym (ap (λ l. l ++ n.1) p ∙ append_assoc before (c.in_ok-field.field ∷ []) n.1),
            omega (arith, ap length more),
            n.4,
            z.1,
          );
    }
