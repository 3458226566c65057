-- What one walk along a trace tells of its records.
use Rattle.std.specs.Prelude.{◌≡◌, ℕ, List}
use Rattle.unix_calls.specs.declared.description.Description.{Description}
use Rattle.unix_calls.specs.declared.event.Rec.{Rec}
use Rattle.unix_calls.specs.declared.state.Process.{Process}
use Rattle.one_kernel.specs.Verdicts.{verdict_of}
use Rattle.one_kernel.specs.declared.Verdict.TheVariants as verdict
use Rattle.call_journal.specs.Journal.{journal_of}
use Rattle.trace_walk.specs.Walks.{LeadsTo}
use Rattle.trace_forms.specs.declared.MadeStreams.{MadeStreams}
use Rattle.trace_forms.specs.Openings.{openings_of}
use Rattle.trace_tables.specs.Callers.{callers_of}
use Rattle.trace_tables.specs.Ties.{ties_of}
use Rattle.write_rules.specs.declared.Marking.{Marking}
use Rattle.write_rules.specs.Marks.{marks_of}
use Rattle.sharing_rules.specs.declared.Following.{Following}
use Rattle.sharing_rules.specs.Facts.{facts_of}
use Rattle.trace_bursts.specs.declared.Counts.{Counts}
use Rattle.trace_bursts.specs.Counted.{CountsAll}
use Rattle.trace_views.specs.declared.views.Views.{Views}
use Rattle.trace_views.specs.declared.viewing.Viewed.{Viewed}
use Rattle.trace_views.specs.declared.viewing.Viewed.TheVariants as viewed

-- what the watches of all records told
abbrev pub views_of : Following → MadeStreams → Marking → Counts → Views
views_of following made marking counts =
    record { openings = made.made; ties = following.telling.ties; callers = following.telling.callers; marks = marking.marks; facts = following.facts; counts = counts }

-- of each record of a trace what the rules look at is told
pub record TellsRecords (c : Description) (trace : List Rec) (views : Views) : Type 0 where
  pub openings : views.openings.items ≡ openings_of c trace
  pub ties : views.ties.items ≡ ties_of c trace
  pub callers : views.callers.items ≡ callers_of c trace
  pub marks : views.marks.items ≡ marks_of c trace
  pub facts : views.facts.items ≡ facts_of c trace

-- and of its bursts, where it leads to these processes
pub record Shows (c : Description) (trace : List Rec) (ps : List Process) (views : Views) : Type 0 where
  pub records : TellsRecords c trace views
  pub counts : CountsAll c trace ps views.counts

-- the verdict on the journal of a trace; where it is legal, where it leads and what is told
abbrev pub ViewsTo : Description → ℕ → List Rec → Viewed → Type 0
ViewsTo c most trace (viewed.Legal end views) =
    (verdict_of c most (journal_of trace) ≡ verdict.Legal) × LeadsTo c trace end × Shows c trace end.processes views
ViewsTo c most trace (viewed.NotLegal n) = verdict_of c most (journal_of trace) ≡ verdict.NotLegal n
ViewsTo c most trace (viewed.Steps n) = verdict_of c most (journal_of trace) ≡ verdict.Steps n
