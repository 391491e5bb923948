use Rattle.std.proofs.Common.{◌≡◌, ◌∙◌, sym, ap, subst, ◌+◌, ◌++◌, ◌∷◌, [], List, ℤ, take, arith}
use Rattle.std.proofs.lemmas.List.{take_all, take_more}
use Rattle.std.proofs.lemmas.Result.{err_from_is_err_and}
use Rattle.ipc_model.specs.declared.value.Value.{Value}
use Rattle.ipc_stream.specs.declared.message.Message.{Message}
use Rattle.ipc_stream.specs.Messages.{SetDictionaries}
use Rattle.ipc_stream.specs.OpenStreams.{CanBeSent}
use Rattle.ipc_stream.proofs.BatchSent.{all_item, set_push}
use Rattle.ipc_stream.proofs.batch_messages.dictionary_messages.Goals as goal

pub returns-in_err-add_dictionary-clause-only : goal.returns-in_err-add_dictionary-clause-only
returns-in_err-add_dictionary-clause-only c = λ s is all.
    let p = err_from_is_err_and c.from_residual-in_err-add_dictionary.result c.from_residual-in_err-add_dictionary.ensures.1 in
    rw (p.1, p.2) (c.in_err-add_dictionary.ensures.only s is
    (all_item (CanBeSent c.args.limits.now s) c.args.sends.now c.loop-send.send-index c.send-item.result c.loop-send-test.true
    c.send-item.is all))

pub loop-send-preserved : goal.loop-send-preserved
loop-send-preserved c = λ s is all.
    let limits = c.args.limits.now in
    let sends = c.args.sends.now in
    let i = c.loop-send.send-index in
    let send = c.send-item.result in
    let can = all_item (CanBeSent limits s) sends i send c.loop-send-test.true c.send-item.is all in
    let added = c.in_ok-add_dictionary.ensures.set s is can in
    let next : take i sends ++ send ∷ [] ≡ take (i + 1) sends =
    ap (λ (x : ℤ × List (List Value)). take i sends ++ x ∷ []) c.send-item.is ∙ sym (take_more sends i send c.loop-send-test.true) in
    subst (λ (ms : List Message). SetDictionaries limits s (take (i + 1) sends) ms) (sym added.1.0)
    (subst (λ (xs : List (ℤ × List (List Value))). SetDictionaries limits s xs (c.loop-send.messages.items ++ added.0 ∷ [])) next
    (set_push limits s (take i sends) c.loop-send.messages.items send added.0 (c.loop-send.invariant s is all) added.1.1))

pub returns-clause-set : goal.returns-clause-set
returns-clause-set c = λ s is all.
    let whole = take_all c.loop-send.send-index c.args.sends.now (omega (arith, c.loop-send-test.false)) in
    subst (λ (xs : List (ℤ × List (List Value))). SetDictionaries c.args.limits.now s xs c.loop-send.messages.items) whole
    (c.loop-send.invariant s is all)
