use Rattle.trace_picture.proofs.WordLaws.{more_words, one_word, three_words}
use Rattle.trace_picture.proofs.asking.asked_of.Goals as goal

pub returns-in-len1 : goal.returns-in-len1
returns-in-len1 c = one_word c.args.words.now c.in-len1.len_at_least c.in-len1.len_below

pub returns-in-len3 : goal.returns-in-len3
returns-in-len3 c = three_words c.args.words.now c.in-len3.len_at_least c.in-len3.len_below

pub returns-in-len5-up : goal.returns-in-len5-up
returns-in-len5-up c = more_words c.args.words.now c.in-len5-up.len_at_least
