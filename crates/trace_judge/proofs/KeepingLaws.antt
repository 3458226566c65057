-- A trace that breaks none of the rules keeps them all.
use Rattle.std.proofs.Common.{◌≡◌, Bool, true, false, List, Option, Some, None, refl}
use Rattle.std.specs.Prelude.{if◌then◌else◌}
use Rattle.unix_calls.specs.declared.description.Description.{Description}
use Rattle.unix_calls.specs.declared.event.Rec.{Rec}
use Rattle.call_journal.specs.Formed.{formed}
use Rattle.call_journal.specs.EntryPlaces.{entries_stand_at_their_kernels}
use Rattle.call_journal.specs.CachedCalls.{cached_calls_use_held_blocks}
use Rattle.call_journal.specs.Operations.{operations_go_out_uncached}
use Rattle.call_journal.specs.Fetches.{fetches_are_of_absent_blocks}
use Rattle.call_journal.specs.Drops.{blocks_are_dropped_for_a_cause}
use Rattle.call_journal.specs.WriteBacks.{blocks_are_written_back_for_a_cause}
use Rattle.call_journal.specs.Sharing.{caching_stops_only_for_sharing}
use Rattle.call_journal.specs.Moves.{processes_run_where_they_are}
use Rattle.call_journal.specs.PrefixBroadcasts.{prefixes_are_broadcast_until_learned}
use Rattle.call_journal.specs.Rules.{KeepsRules}
use Rattle.trace_worth.specs.Worths.{is_worth}
use Rattle.trace_worth.specs.WorthLaws.{worth_told}
use Rattle.trace_judge.specs.declared.rule.Rule.{Rule}
use Rattle.trace_judge.specs.Rules.{KeepsJudged, broken_rule, broken_when_formed, first_broken, first_of}

-- nothing broken here, and nothing behind it
both : (kept : Bool) (rule : Rule) (rest : Option Rule) → (if kept then rest else Some rule) ≡ None → (kept ≡ true) × (rest ≡ None)
both true rule rest e = (refl, e)
both false rule rest e = absurd (cc (e))

rules_kept : (c : Description) (trace : List Rec) → broken_rule c trace ≡ None → KeepsRules c trace
rules_kept c trace none =
    (let first = both (entries_stand_at_their_kernels c trace) _ _ none in
    let second = both (cached_calls_use_held_blocks c trace) _ _ first.1 in
    let third = both (operations_go_out_uncached c trace) _ _ second.1 in
    let fourth = both (fetches_are_of_absent_blocks c trace) _ _ third.1 in
    let fifth = both (blocks_are_dropped_for_a_cause c trace) _ _ fourth.1 in
    let sixth = both (caching_stops_only_for_sharing c trace) _ _ fifth.1 in
    let seventh = both (prefixes_are_broadcast_until_learned c trace) _ _ sixth.1 in
    let eighth = both (processes_run_where_they_are c trace) _ _ seventh.1 in
    let ninth = both (blocks_are_written_back_for_a_cause c trace) _ _ eighth.1 in
    record { entries = first.0; cached_calls = second.0; operations = third.0; fetches = fourth.0; drops = fifth.0; sharing = sixth.0; broadcasts = seventh.0; moves = eighth.0; write_backs = ninth.0 })

-- neither of two is broken
neither : (first next : Option Rule) → first_of first next ≡ None → (first ≡ None) × (next ≡ None)
neither None next e = (refl, e)
neither (Some rule) next e = absurd (cc (e))

-- a trace whose records are written as they should be, and that breaks nothing else, keeps all
pub formed_keeps : (c : Description) (trace : List Rec) → formed c trace ≡ true → broken_when_formed c trace ≡ None → KeepsJudged c trace
formed_keeps c trace formed none =
    (let parts = neither (broken_rule c trace) _ none in
    let worth = both (is_worth c trace) _ None parts.1 in
    record { formed = formed; rules = rules_kept c trace parts.0; worth = (worth_told c trace).0 worth.0 })

pub none_broken : (c : Description) (trace : List Rec) → first_broken c trace ≡ None → KeepsJudged c trace
none_broken c trace none =
    (let form = both (formed c trace) _ _ none in
    formed_keeps c trace form.0 form.1)
