use Rattle.std.proofs.Common.{not, ap, ap₂, ◌∙◌}
use Rattle.unix_calls.specs.After.{is_death_part}
use Rattle.one_kernel.proofs.ApplyLaws.{death_among, none_is}
use Rattle.one_kernel.proofs.applying.enter_death.Goals as goal

pub returns-then-is_none : goal.returns-then-is_none
returns-then-is_none c =
    death_among c.args.entry.now c.args.ps.now c.args.at c.at_mut.result.now c.die.result c.die.new.p c.requires.ascending c.at_mut.ensures.value
    (ap₂ is_death_part c.in-Death.is (none_is c.args.entry.now.reply (c.is_none.ensures ∙ ap not c.if-is_none.true)))
    c.die.ensures
