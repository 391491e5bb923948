use Rattle.std.proofs.Common.{rules, ◌≡◌, length, take, refl}
use Rattle.job_print.proofs.texts.Truths.{truth_written}
use Rattle.job_print.proofs.bool_words.put_bool_word.Goals as goal

pub returns-clause-text : goal.returns-clause-text
returns-clause-text c =
    let five : length (take 5 c.to_le_bytes.result) ≡ 5 = rw c.to_le_bytes.ensures refl in
    truth_written c.args.truth c.args.text.now c.put_word.new.text (take 5 c.to_le_bytes.result) c.args.at c.from.result c.put_word.result
    (search rules) five c.put_word.ensures.end c.put_word.ensures.text (rw c.to_le_bytes.ensures c.word_of.ensures) c.from.ensures
