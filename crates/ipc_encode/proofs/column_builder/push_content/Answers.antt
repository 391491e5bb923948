use Rattle.std.proofs.Common.{◌∙◌, sym, ap, ℕ, List, [], ◌∷◌, ◌++◌, length, arith, length-append}
use Rattle.std.proofs.lemmas.Result.{err_from_is_err_and}
use Rattle.std.specs.List.{AllByRecursion}
use Rattle.ipc_model.specs.declared.layout.Layout.TheVariants as l
use Rattle.ipc_encode.specs.Cells.{HasUtf8, slots}
use Rattle.ipc_model.specs.declared.value.Value.{Value}
use Rattle.ipc_encode.specs.Pieces.{Bytes, Content}
use Rattle.ipc_encode.proofs.Sizes.{content_data}
use Rattle.ipc_encode.proofs.Steps.{amount_more, bytes_extents, offsets_more, slots_push}
use Rattle.ipc_encode.proofs.column_builder.push_content.Goals as goal

texts_more : (vs : List Value) (v : Value) → AllByRecursion HasUtf8 vs → HasUtf8 v → AllByRecursion HasUtf8 (vs ++ v ∷ [])
texts_more [] v h text = (text, tt)
texts_more (w ∷ vs) v h text = (h.0, texts_more vs v h.1 text)

pub returns-in_err-check_amount-clause-refused : goal.returns-in_err-check_amount-clause-refused
returns-in_err-check_amount-clause-refused c = λ vs h.
    let size = ap (λ (bs : List ℕ). length bs) h.bytes_are ∙ content_data c.args.utf8 vs in
    let added = ap (λ (bs : List ℕ). length bs) c.content-bytes.ensures.bytes in
    let more = amount_more (l.VariableBytes c.args.utf8) vs c.args.value.now _ _ size added in
    let p = err_from_is_err_and c.from_residual.result c.from_residual.ensures.1 in
    rw (p.1, p.2) (c.in_err-check_amount.ensures.refused (vs ++ c.args.value.now ∷ [])
    (omega (arith, more, c.len.ensures, c.args.values.now.ok)))

pub returns-clause-bytes : goal.returns-clause-bytes
returns-clause-bytes c = λ vs h.
    let size = ap (λ (bs : List ℕ). length bs) h.bytes_are ∙ content_data c.args.utf8 vs in
    let added = ap (λ (bs : List ℕ). length bs) c.content-bytes.ensures.bytes in
    let more = amount_more (l.VariableBytes c.args.utf8) vs c.args.value.now _ _ size added in
    omega (arith, more, c.len.ensures, c.args.values.now.ok, c.in_ok-check_amount.ensures.bytes)

pub returns-clause-pushed : goal.returns-clause-pushed
returns-clause-pushed c = λ vs h.
    let v = c.args.value.now in
    let size = ap (λ (bs : List ℕ). length bs) h.bytes_are ∙ content_data c.args.utf8 vs in
    let added = ap (λ (bs : List ℕ). length bs) c.content-bytes.ensures.bytes in
    let more = amount_more (l.VariableBytes c.args.utf8) vs v _ _ size added in
    record {
      offsets_are = offsets_more Bytes vs v _ c.args.offsets.now.items c.push_offset.new.offsets.items
          (omega (arith, more, c.len.ensures, c.args.values.now.ok) ∙ bytes_extents c.args.utf8 (vs ++ v ∷ []))
          h.offsets_are c.in_ok-push_offset.ensures;
      bytes_are = c.in_ok-extend_from_slice.ensures.items ∙ (ap (λ (bs : List ℕ). bs ++ c.content-bytes.result.now) h.bytes_are
          ∙ (ap (λ (bs : List ℕ). slots Content vs ++ bs) c.content-bytes.ensures.bytes ∙ sym (slots_push Content vs v)));
      texts = texts_more vs v h.texts c.content-bytes.ensures.text;
      short = omega (
        arith,
        ap (λ (bs : List ℕ). length bs) c.in_ok-extend_from_slice.ensures.items,
        length-append c.args.values.now.items c.content-bytes.result.now,
        c.len.ensures,
        c.args.values.now.ok,
        c.in_ok-check_amount.ensures.within,
      );
    }
