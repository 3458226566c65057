use Rattle.std.proofs.Common.{rules, sym}
use Rattle.program_text.proofs.line.read_text.Goals as goal

pub returns-in_default-2 : goal.returns-in_default-2
returns-in_default-2 c = rw (c.in-Some.ensures.words, sym c.in-Some.ensures.rest, sym c.skip_spaces.ensures) (search rules)

pub returns : goal.returns
returns c = rw (c.in-Some.ensures.words, sym c.in-Some.ensures.rest, sym c.skip_spaces.ensures) (search rules)
