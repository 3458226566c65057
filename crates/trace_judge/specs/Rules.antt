-- The rules that are judged, in their order.
use Rattle.std.specs.Prelude.{codes, ℕ, IsTrue, if◌then◌else◌, List, Option, Some, None}
use Rattle.unix_calls.specs.declared.description.Description.{Description}
use Rattle.unix_calls.specs.declared.event.Rec.{Rec}
use Rattle.call_journal.specs.Formed.{formed}
use Rattle.call_journal.specs.EntryPlaces.{entries_stand_at_their_kernels}
use Rattle.call_journal.specs.CachedCalls.{cached_calls_use_held_blocks}
use Rattle.call_journal.specs.Operations.{operations_go_out_uncached}
use Rattle.call_journal.specs.Fetches.{fetches_are_of_absent_blocks}
use Rattle.call_journal.specs.Drops.{blocks_are_dropped_for_a_cause}
use Rattle.call_journal.specs.WriteBacks.{blocks_are_written_back_for_a_cause}
use Rattle.call_journal.specs.Sharing.{caching_stops_only_for_sharing}
use Rattle.call_journal.specs.Moves.{processes_run_where_they_are}
use Rattle.call_journal.specs.PrefixBroadcasts.{prefixes_are_broadcast_until_learned}
use Rattle.call_journal.specs.Rules.{KeepsRules}
use Rattle.call_journal.specs.Worth.{Worth}
use Rattle.trace_worth.specs.Worths.{is_worth}
use Rattle.trace_judge.specs.declared.rule.Rule.{Rule}
use Rattle.trace_judge.specs.declared.rule.Rule.TheVariants as rule

-- the first of the nine rules that a trace breaks
abbrev pub broken_rule : Description → List Rec → Option Rule
broken_rule c trace =
    if entries_stand_at_their_kernels c trace
    then if cached_calls_use_held_blocks c trace
    then if operations_go_out_uncached c trace
    then if fetches_are_of_absent_blocks c trace
    then if blocks_are_dropped_for_a_cause c trace
    then if caching_stops_only_for_sharing c trace
    then if prefixes_are_broadcast_until_learned c trace
    then if processes_run_where_they_are c trace
    then if blocks_are_written_back_for_a_cause c trace then None else Some rule.WriteBacks
    else Some rule.Moves
    else Some rule.Broadcasts
    else Some rule.Sharing
    else Some rule.Drops
    else Some rule.Fetches
    else Some rule.Operations
    else Some rule.CachedCalls
    else Some rule.Entries

-- what a trace breaks that keeps these
abbrev pub unless_worth : Description → List Rec → Option Rule
unless_worth c trace = if is_worth c trace then None else Some rule.Worth

-- what is broken of two, the first first
abbrev pub first_of : Option Rule → Option Rule → Option Rule
first_of (Some rule) next = Some rule
first_of None next = next

-- the first that a trace breaks whose records are written as they should be
abbrev pub broken_when_formed : Description → List Rec → Option Rule
broken_when_formed c trace = first_of (broken_rule c trace) (unless_worth c trace)

-- the first rule that a trace breaks
abbrev pub first_broken : Description → List Rec → Option Rule
first_broken c trace = if formed c trace then broken_when_formed c trace else Some rule.Formed

-- a trace keeps all of them
pub record KeepsJudged (c : Description) (trace : List Rec) : Type 0 where
  pub formed : IsTrue (formed c trace)
  pub rules : KeepsRules c trace
  pub worth : Worth c trace

-- the name by which a rule is printed
abbrev pub name_of : Rule → List ℕ
name_of rule.Formed = codes "formed"
name_of rule.Entries = codes "P1"
name_of rule.CachedCalls = codes "P2"
name_of rule.Operations = codes "P3"
name_of rule.Fetches = codes "P4"
name_of rule.Drops = codes "P5"
name_of rule.Sharing = codes "P6"
name_of rule.Broadcasts = codes "P7"
name_of rule.Moves = codes "P8"
name_of rule.WriteBacks = codes "P9"
name_of rule.Worth = codes "worth"
