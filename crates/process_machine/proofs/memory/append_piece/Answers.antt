use Rattle.std.proofs.Common.{sym}
use Rattle.process_machine.proofs.MemoryLaws.{page_part, zeros_part}
use Rattle.process_machine.proofs.memory.append_piece.Goals as goal

pub returns-in-None : goal.returns-in-None
returns-in-None c =
    rw (zeros_part c.args.pages.now c.args.number c.args.offset c.args.count c.requires.inside (sym c.in-None.ensures.value)) c.append.ensures.ok

pub returns-in-Some : goal.returns-in-Some
returns-in-Some c =
    rw (page_part c.args.pages.now c.args.number c.args.offset c.args.count c.in-Some.page.now c.requires.inside c.in-Some.ensures.whole (sym c.in-Some.ensures.value), sym c.as_slice.ensures) c.append-in-Some.ensures.ok
