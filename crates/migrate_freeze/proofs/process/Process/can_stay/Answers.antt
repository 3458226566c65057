use Rattle.std.proofs.Common.{sym, ap, ◌∙◌}
use Rattle.migrate_freeze.specs.Staying.{can_stay}
use Rattle.migrate_freeze.proofs.StayLaws.{stays_few, stays_low, stays_once, stays_placed}
use Rattle.migrate_freeze.proofs.process.Process.can_stay.Goals as goal

pub returns-clause-differ : goal.returns-clause-differ
returns-clause-differ c =
    λ h. stays_once c.args.self.now.streams (ap can_stay (sym c.as_slice.ensures) ∙ sym c.can_stay.ensures ∙ h)

pub returns-clause-few : goal.returns-clause-few
returns-clause-few c =
    λ h. stays_few c.args.self.now.streams (ap can_stay (sym c.as_slice.ensures) ∙ sym c.can_stay.ensures ∙ h)

pub returns-clause-placed : goal.returns-clause-placed
returns-clause-placed c =
    λ h. stays_placed c.args.self.now.streams (ap can_stay (sym c.as_slice.ensures) ∙ sym c.can_stay.ensures ∙ h)

pub returns-clause-grants : goal.returns-clause-grants
returns-clause-grants c =
    λ h. stays_low c.args.self.now.streams (ap can_stay (sym c.as_slice.ensures) ∙ sym c.can_stay.ensures ∙ h)
