use Rattle.std.proofs.Common.{◌≡◌, drop}
use Rattle.std.specs.List.{list_any}
use Rattle.unix_calls.specs.State.{leads_to_master}
use Rattle.unix_world.proofs.lookups.any_leads.Given as goal

abbrev pub invariant-loop-place : goal.invariant-loop-place
invariant-loop-place l = list_any (leads_to_master l.streams l.device) (drop l.place-index l.descriptors) ≡ list_any (leads_to_master l.streams l.device) l.descriptors
