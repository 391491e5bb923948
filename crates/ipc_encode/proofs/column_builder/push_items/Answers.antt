use Rattle.std.proofs.Common.{◌∙◌, sym, ap, List, [], ◌∷◌, ◌++◌, length, arith}
use Rattle.std.proofs.lemmas.Result.{err_from_is_err_and}
use Rattle.ipc_model.specs.declared.layout.Layout.TheVariants as l
use Rattle.ipc_model.specs.declared.value.Value.{Value}
use Rattle.ipc_encode.specs.Pieces.{Items}
use Rattle.ipc_encode.proofs.Steps.{amount_more, items_extents, offsets_more}
use Rattle.ipc_encode.proofs.column_builder.push_items.Goals as goal

pub returns-in_err-check_amount-clause-refused : goal.returns-in_err-check_amount-clause-refused
returns-in_err-check_amount-clause-refused c = λ vs h.
    let more = amount_more l.Lists vs c.args.value.now _ _ h.items_are (ap (λ (vs : List Value). length vs) c.items.ensures) in
    let p = err_from_is_err_and c.from_residual.result c.from_residual.ensures.1 in
    rw (p.1, p.2) (c.in_err-check_amount.ensures.refused (vs ++ c.args.value.now ∷ []) (sym more))

pub returns-clause-pushed : goal.returns-clause-pushed
returns-clause-pushed c = λ vs h.
    let v = c.args.value.now in
    let more = amount_more l.Lists vs v _ _ h.items_are (ap (λ (vs : List Value). length vs) c.items.ensures) in
    record {
      offsets_are = offsets_more Items vs v _ c.args.offsets.now.items c.push_offset.new.offsets.items (more ∙ items_extents (vs ++ v ∷ []))
          h.offsets_are c.in_ok-push_offset.ensures;
      items_are = more;
      short = omega (arith, c.in_ok-check_amount.ensures.within);
    }
