use Rattle.std.proofs.Common.{◌≡◌, ◌++◌, drop}
use Rattle.host_lending.specs.Tables.{busy_hosts, replies_to}
use Rattle.host_lending.proofs.lending.run.Given as goal

-- the answers so far, and then those to the events that are left, are all
abbrev pub invariant-loop-event : goal.invariant-loop-event
invariant-loop-event l = l.answers.items ++ replies_to l.lending (drop l.event-index l.events) ≡ replies_to (busy_hosts l.hosts) l.events
