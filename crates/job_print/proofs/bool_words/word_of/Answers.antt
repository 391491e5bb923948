use Rattle.job_print.proofs.texts.Truths.{table_word}
use Rattle.job_print.proofs.bool_words.word_of.Goals as goal

pub returns : goal.returns
returns c = rw (c.word_at.ensures, c.from.ensures) (table_word c.args.truth)
