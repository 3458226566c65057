use Rattle.std.proofs.Common.{rules, tests, ◌≤◌, sym, subst}
use Rattle.write_delay.specs.Delays.{FallsFrom}
use Rattle.write_delay.proofs.DelayLaws.{followed, first_of_none}
use Rattle.write_delay.proofs.delays.Delays.is_followed_by.Goals as goal

pub returns-then-self : goal.returns-then-self
returns-then-self c = λ is.
    let under : c.in-Some.newest.now ≤ c.args.step = search (rules, tests, is) in
    subst (FallsFrom c.args.step) c.self.view_is (followed c.self.inside.blocks.entries _ c.args.step (sym c.in-Some.ensures) under (c.self.invariant.1 c.if-self.true))

pub returns-in-None : goal.returns-in-None
returns-in-None c = λ is.
    subst (FallsFrom c.args.step) c.self.view_is (first_of_none c.self.inside.blocks.entries c.args.step (sym c.in-None.ensures))
