use Rattle.std.proofs.Common.{◌≡◌, ◌∙◌, ◌<◌, ◌∷◌, ◌++◌, ◌==◌, [], false, map, length, append_assoc, sym, ap, arith, rules, flat_map}
use Rattle.std.proofs.lemmas.Bool.Decides.{Decides-eqb, nat_tests}
use Rattle.std.proofs.lemmas.List.{append-nil, length-map}
use Rattle.serde_json.specs.View.{view}
use Rattle.ipc_text_json.specs.SchemaJson.{field_json}
use Rattle.ipc_text_temporal.specs.declared.fault.TextFault.TheVariants.{OutOfMemory}
use Rattle.ipc_text_json.proofs.Trees.{next_child, joined_more, more_left, none_more, shrinks}
use Rattle.ipc_text_json.proofs.schema_reader.read_columns.Goals as goal

pub returns-then-is_empty-clause-all : goal.returns-then-is_empty-clause-all
returns-then-is_empty-clause-all c fs r q =
    let a = c.loop-number.invariant.all fs r q in
    let z = (Decides-eqb (length c.loop-number.rest.now) 0).0 (sym c.is_empty.ensures ∙ c.if-is_empty.true) in
    let m = none_more a.0 (map view c.loop-number.rest.now) a.3 (omega (arith, length-map c.loop-number.rest.now view)) in
    sym (a.1 ∙ ap (λ l. c.loop-number.columns.items ++ l) m ∙ append-nil c.loop-number.columns.items)

pub returns-in_err-field-clause-all : goal.returns-in_err-field-clause-all
returns-in_err-field-clause-all c fs r q =
    let a = c.loop-number.invariant.all fs r q in
    let some : (length c.loop-number.rest.now == 0) ≡ false = sym c.is_empty.ensures ∙ c.if-is_empty.false in
    let here : 0 < length c.loop-number.rest.now = grind (arith, nat_tests) in
    let n = next_child a.0 1 _ [] (more_left a.0 (map view c.loop-number.rest.now) a.3
    (omega (arith, length-map c.loop-number.rest.now view))) a.2 a.3 in
    let z : c.in_err-field.field-0.0 ≡ OutOfMemory =
    c.in_err-field.ensures.all n.0 1 (flat_map field_json n.1 ++ []) (omega arith) n.3 n.5 in
    search (rules, z)

pub returns-clause-all : goal.returns-clause-all
returns-clause-all c fs r q =
    let a = c.loop-number.invariant.all fs r q in
    let s = c.loop-number.invariant.size in
    let m = none_more a.0 (map view c.loop-number.rest.now) a.3 (omega (arith, length-map c.loop-number.rest.now view)) in
    sym (a.1 ∙ ap (λ l. c.loop-number.columns.items ++ l) m ∙ append-nil c.loop-number.columns.items)

pub loop-number-preserved : goal.loop-number-preserved
loop-number-preserved c =
    let i = c.loop-number.invariant in
    let p = c.in_ok-push.ensures.items in
    let before = c.loop-number.columns.items in
    let size = i.size in
    let less = shrinks c.in_ok-field.field (map view c.loop-number.rest.now) (map view c.in_ok-field.behind.now)
    c.in_ok-field.ensures.read in
    let some : (length c.loop-number.rest.now == 0) ≡ false = sym c.is_empty.ensures ∙ c.if-is_empty.false in
    let here : 0 < length c.loop-number.rest.now = grind (arith, nat_tests) in
    record {
      size = omega (arith, length-map c.loop-number.rest.now view, length-map c.in_ok-field.behind.now view);
      read = i.read ∙ ap (λ l. flat_map field_json before ++ l) c.in_ok-field.ensures.read
          ∙ sym (append_assoc (flat_map field_json before) (field_json c.in_ok-field.field) (map view c.in_ok-field.behind.now))
          ∙ ap (λ l. l ++ map view c.in_ok-field.behind.now)
          (sym (ap (λ l. flat_map field_json l) p ∙ joined_more before c.in_ok-field.field));
      all = λ fs r q.
          let a = i.all fs r q in
          let n = next_child a.0 1 _ [] (more_left a.0 (map view c.loop-number.rest.now) a.3
          (omega (arith, length-map c.loop-number.rest.now view))) a.2 a.3 in
          let z = c.in_ok-field.ensures.all n.0 1 (flat_map field_json n.1 ++ []) (omega arith) n.3 n.5 in
          let more : a.0 ≡ c.in_ok-field.field ∷ n.1 = n.2 ∙ ap (λ g. g ∷ n.1) (sym z.0) in (
            n.1,
            a.1 ∙ ap (λ l. before ++ l) more ∙ sym (ap (λ l. l ++ n.1) p ∙ append_assoc before (c.in_ok-field.field ∷ []) n.1),
            n.4,
            z.1,
          );
    }
