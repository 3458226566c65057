-- What the watches tell together, before the first record of a trace and behind its last one.
use Rattle.std.proofs.Common.{◌≡◌, ℕ, List, [], ◌++◌, Some, sym, subst}
use Rattle.unix_calls.specs.declared.description.Description.{Description}
use Rattle.unix_calls.specs.declared.event.Rec.{Rec}
use Rattle.unix_calls.specs.declared.state.Process.{Process}
use Rattle.unix_world.specs.declared.World.{World}
use Rattle.unix_world.specs.Worlds.{unix_of}
use Rattle.call_journal.specs.Past.{Past}
use Rattle.trace_walk.specs.declared.End.{End}
use Rattle.trace_walk.specs.declared.Walked.{Walked}
use Rattle.trace_walk.specs.declared.Walked.TheVariants as walked
use Rattle.trace_walk.specs.Pairs.{Two}
use Rattle.trace_walk.specs.Walks.{Begins, WalksTo}
use Rattle.trace_tables.specs.TellLaws.{callers_told, ties_told}
use Rattle.trace_forms.specs.declared.MadeStreams.{MadeStreams}
use Rattle.trace_forms.specs.Openings.{openings_from, openings_of}
use Rattle.trace_forms.specs.OpeningLaws.{openings_begin, openings_end}
use Rattle.write_rules.specs.declared.Marking.{Marking}
use Rattle.write_rules.specs.Marked as marked
use Rattle.write_rules.specs.MarkingLaws.{marking_begins, marks_told}
use Rattle.sharing_rules.specs.declared.Following.{Following}
use Rattle.sharing_rules.specs.Followed as followed
use Rattle.sharing_rules.specs.FollowLaws.{facts_begin, facts_end}
use Rattle.trace_bursts.specs.declared.Counts.{Counts}
use Rattle.trace_bursts.specs.Counted as counted
use Rattle.trace_bursts.specs.CountingLaws.{counts_begins}
use Rattle.trace_views.specs.declared.views.Views.{Views}
use Rattle.trace_views.specs.declared.viewing.Viewed.TheVariants as viewed
use Rattle.trace_views.specs.Views.{Shows, ViewsTo, views_of}

-- what all of them tell
abbrev pub AllTell : Description → List Rec → Following → MadeStreams → Marking → Counts → World → List Process → Past → List Rec → Type 0
AllTell c trace following made marking counts world ps past rest =
    Two (followed.Follows c trace rest world ps past following)
    (Two (made.made.items ++ openings_from c (Some (unix_of c world ps)) rest ≡ openings_of c trace)
    (Two (marked.Going c trace rest world ps past marking) (counted.CountsBefore c trace rest world ps past counts)))

pub all_begin : (c : Description) (trace : List Rec) (following : Following) (made : MadeStreams) (marking : Marking) (counts : Counts) → followed.IsFresh c following → made.made.items ≡ [] → marked.IsFresh marking → counted.IsFresh counts → Begins c trace (AllTell c trace following made marking counts)
all_begin c trace following made marking counts no_facts none no_marks no_counts = λ world ps boots ascends. record {
  first = facts_begin c trace following no_facts world ps boots ascends;
  second = record {
    first = openings_begin c trace made none world ps boots ascends;
    second = record { first = marking_begins c trace marking no_marks world ps boots ascends; second = counts_begins c trace counts no_counts world ps boots ascends };
  };
}

pub all_end : (c : Description) (most : ℕ) (trace : List Rec) (following : Following) (made : MadeStreams) (marking : Marking) (counts : Counts) (to : Walked) (end : End) (views : Views) → to ≡ walked.Legal end → WalksTo c most trace (AllTell c trace following made marking counts) to → views ≡ views_of following made marking counts → ViewsTo c most trace (viewed.Legal end views)
all_end c most trace following made marking counts to end views is all views_are =
    let legal = subst (WalksTo c most trace (AllTell c trace following made marking counts)) is all in
    let ends = legal.1 in
    let first = ends.tells.first in
    let more = ends.tells.second in (
      legal.0,
      ends.leads_to,
      subst (Shows c trace end.processes) (sym views_are) (record {
        records = record {
          openings = openings_end c trace made (Some (unix_of c end.world end.processes)) more.first;
          ties = ties_told c trace end.world end.processes ends.past following.telling first.telling;
          callers = callers_told c trace end.world end.processes ends.past following.telling first.telling;
          marks = marks_told c trace end.world end.processes ends.past marking more.second.first;
          facts = facts_end c trace end.world end.processes ends.past following first;
        };
        counts = record { ascends = ends.leads_to.ascends; world = end.world; past = ends.past; tells = more.second.second };
      }),
    )
