use Rattle.std.proofs.Common.{◌∙◌, List, ap}
use Rattle.sharing_rules.specs.declared.entry_facts.EntryFacts.{EntryFacts}
use Rattle.call_journal.specs.Past.{no_past}
use Rattle.trace_judge.specs.Cuts.{cuts_in}
use Rattle.trace_judge.proofs.CutLaws.{cuts_told}
use Rattle.rule_tests.proofs.shared_files.keeps_told.Goals as goal

pub caching_stops_only_for_sharing-requires-clause-cut : goal.caching_stops_only_for_sharing-requires-clause-cut
caching_stops_only_for_sharing-requires-clause-cut c =
    let d = c.args.c.now in
    let trace = c.args.trace.now in
    let facts_are = c.as_slice.ensures.value ∙ c.requires.facts in
    c.as_slice-3.ensures.value ∙ (c.in_ok-cuts.ensures ∙ (ap (λ (facts : List EntryFacts). cuts_in facts) facts_are ∙ cuts_told d (no_past d) trace))
