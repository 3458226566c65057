use Rattle.std.proofs.Common.{◌∙◌, sym, subst, []}
use Rattle.host_lending.specs.Lending.{AllLentWell}
use Rattle.host_lending.specs.Tables.{busy_hosts, replies_to}
use Rattle.host_lending.proofs.RunLaws.{run_answers, run_well, none_left}
use Rattle.host_lending.proofs.lending.run.Goals as goal

pub returns-clause-answers : goal.returns-clause-answers
returns-clause-answers c =
    none_left c.loop-event.answers.items (replies_to (busy_hosts c.args.hosts) c.args.events.now) c.loop-event.lending c.args.events.now c.loop-event.event-index c.loop-event-test.false c.loop-event.invariant
    ∙ run_answers c.args.hosts c.args.events.now c.requires.within

pub returns-clause-lent_well : goal.returns-clause-lent_well
returns-clause-lent_well c =
    let told = none_left c.loop-event.answers.items (replies_to (busy_hosts c.args.hosts) c.args.events.now) c.loop-event.lending c.args.events.now c.loop-event.event-index c.loop-event-test.false c.loop-event.invariant in
    subst (AllLentWell c.args.hosts [] c.args.events.now) (sym told) (run_well c.args.hosts c.args.events.now c.requires.within)
