use Rattle.std.proofs.Common.{drop, sym}
use Rattle.outcomes.specs.Words.{word_text, text_of}
use Rattle.outcomes.proofs.Fronts.{cut_first, both_written, words_are, rest_is}
use Rattle.outcomes.proofs.words.+write_words.Goals as goal

pub returns-in-Ok : goal.returns-in-Ok
returns-in-Ok g t c =
    let w = c.first-item.result in
    words_are _ _ c.args.words.now w _ c.in-len1-up.len_at_least (sym c.first-item.is) (both_written _ _ _ (word_text w) (text_of (drop 1 c.args.words.now)) _ c.in-Ok.ensures.all (rw (rest_is c.args.words.now) at c.write_words.ensures))

pub returns-in-Err : goal.returns-in-Err
returns-in-Err g t c =
    let w = c.first-item.result in
    words_are _ _ c.args.words.now w _ c.in-len1-up.len_at_least (sym c.first-item.is) (cut_first _ _ (word_text w) (text_of (drop 1 c.args.words.now)) _ c.in-Err.ensures)
