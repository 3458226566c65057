use Rattle.program_text.proofs.WordLaws.{words_at, rest_at, none_at}
use Rattle.program_text.proofs.words.next_word.Goals as goal

pub returns-then-end-eq0-clause-none : goal.returns-then-end-eq0-clause-none
returns-then-end-eq0-clause-none c =
    none_at c.args.bytes.now c.skip_spaces-trimmed.result.now c.place_of-end.result c.skip_spaces-trimmed.ensures c.place_of-end.ensures.place c.if-end-eq0.true

pub returns-clause-words : goal.returns-clause-words
returns-clause-words c =
    words_at c.args.bytes.now c.skip_spaces-trimmed.result.now c.place_of-end.result c.skip_spaces-trimmed.ensures c.place_of-end.ensures.place c.if-end-eq0.false

pub returns-clause-rest : goal.returns-clause-rest
returns-clause-rest c =
    rest_at c.args.bytes.now c.skip_spaces-trimmed.result.now c.place_of-end.result c.skip_spaces-trimmed.ensures c.place_of-end.ensures.place
