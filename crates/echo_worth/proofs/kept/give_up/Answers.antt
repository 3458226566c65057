use Rattle.echo_worth.specs.BehindLaws.{given_more}
use Rattle.echo_worth.proofs.kept.give_up.Goals as goal

pub loop-place-preserved : goal.loop-place-preserved
loop-place-preserved c to = given_more c.args.slots.now.entries c.args.at.now c.loop-place.place to _ _ _ (c.in_ok-give_up_slot.ensures to) (c.loop-place.invariant to)
