-- What the top call promises for each status.
use Rattle.std.specs.Prelude.{codes, IsTrue, ◌≡◌, ◌≢◌, ℕ, ◌+◌, ◌<◌, ◌≤◌, Bool, true, false, ◌⊎◌, List, [], ◌∷◌, ◌++◌, Option, Some, None, Result, Ok, Err, length}
use Rattle.std.specs.List.{list_any}
use Rattle.std.specs.Io.KnownBytes.{Consumes, IsAtEnd}
use Rattle.sprite_ids.specs.declared.running.Finish.{Finish}
use Rattle.sprite_ids.specs.declared.running.Finish.TheVariants as finish
use Rattle.sprite_bytes.specs.Counts.{Rose}
use Rattle.call_journal.specs.declared.closed.Closed.{Closed}
use Rattle.sprite_top.specs.declared.top.Answer.{Answer}
use Rattle.sprite_top.specs.declared.top.Status.{Status}
use Rattle.sprite_top.specs.declared.top.Status.TheVariants as status
use Rattle.unix_calls.specs.declared.description.Description.{Description}
use Rattle.sprite_words.specs.declared.Command.{Command}
use Rattle.sprite_words.specs.declared.Command.TheVariants as command
use Rattle.sprite_words.specs.Words.{IsSpelled}
use Rattle.cluster_file.specs.declared.Refusal.{Refusal}
use Rattle.cluster_file.specs.Clusters.{Describes, Refuses}
use Rattle.report_print.specs.Refused.{refusal_line}
use Rattle.report_print.specs.Stats.{stats_of}
use Rattle.report_print.specs.Summaries.{summary_of}
use Rattle.workload_maker.specs.Workloads.{workload_text}
use Rattle.lend_text.specs.Bodies.{answer_text}
use Rattle.restart_text.specs.FileTexts.{file_text}
use Rattle.frames_text.specs.declared.FramesAnswer.{FramesAnswer}
use Rattle.frames_text.specs.declared.FramesAnswer.TheVariants.{Lines, Refused}
use Rattle.frames_text.specs.Texts.{HoldsPackets, IsTextRefusal}
use Rattle.history_check.specs.declared.judgement.Judgement.{Judgement}
use Rattle.history_check.specs.Judged.{ComesTo}
use Rattle.trace_audit.specs.declared.audited_text.AuditedText.{AuditedText}
use Rattle.trace_audit.specs.Texts.{TextComesTo}
use Rattle.sprite_top.specs.Judged.{AuditCauses, TextCauses, audited_status, judgement_status}
use Rattle.call_journal.specs.Journal.{journal_of}
use Rattle.unix_calls.specs.After.{legal, state_of}
use Rattle.call_journal.specs.Once.{Once}
use Rattle.call_journal.specs.PrefixBroadcasts.{prefixes_are_broadcast_until_learned}
use Rattle.reached_prefixes.specs.Known.{prefixes_are_learned_once}
use Rattle.reached_domains.specs.Domains.{LearnsDomains}
use Rattle.call_journal.specs.Unreachable.{is_unreachable_entry, unreachable_for_cause}
use Rattle.trace_judge.specs.Rules.{KeepsJudged, name_of}
use Rattle.run_judge.specs.declared.JudgedRun.{JudgedRun}
use Rattle.run_judge.specs.declared.JudgedRun.TheVariants as judged
use Rattle.run_judge.specs.declared.Refutation.TheVariants as refuted
use Rattle.run_judge.specs.Ends.{EndsAs}
use Rattle.run_judge.specs.Judged.{JudgesTo}
use Rattle.kernel_rpc.specs.Sound.{Wired}
use Rattle.cluster_kernels.specs.declared.State.{State}
use Rattle.sprite_cluster.specs.Finishing.{IsSpent, IsStill, finish_of, stands_so}
use Rattle.sprite_cluster.specs.Logs.{Holds, TellsFaults}
use Rattle.sprite_cluster.specs.Reached.{Reached}
use Rattle.sprite_cluster.specs.Wires.{TellsWire}
use Rattle.sprite_cluster.specs.declared.Cluster.{Cluster}
use Rattle.sprite_top.specs.Judged.{numbered_line}
use Rattle.unix_calls.specs.State.{Unix}
use Rattle.unix_calls.specs.declared.Entry.{Entry}
use Rattle.unix_calls.specs.declared.Event.TheVariants.{Enter}
use Rattle.unix_calls.specs.declared.Rec.{Rec}
use Rattle.trace_text.specs.Traces.{trace_of}
use Rattle.unix_calls.specs.Output.{output_of, last_line}
use Rattle.history_text.specs.Histories.{history_of}
use Rattle.sprite_top.specs.declared.top.Printing.{Printing}
use Rattle.sprite_top.specs.declared.top.Printing.TheVariants as printing

-- what a command prints of the cluster that it runs of a cluster file; none where it runs none
abbrev pub printing_of : Command → Option Printing
printing_of command.Run = Some printing.Output
printing_of (command.RunSeed seed) = Some printing.Output
printing_of command.RunStats = Some printing.Stats
printing_of command.History = Some printing.History
printing_of (command.Load count) = None
printing_of command.Check = None
printing_of command.Audit = None
printing_of command.Trace = Some printing.Trace
printing_of command.Frames = None
printing_of command.File = None
printing_of command.Lend = None

-- the words spell a command that runs the cluster of a cluster file and prints that of it
pub record AsksFor (print : Printing) (words : List (List ℕ)) : Type 0 where
  pub command : Command
  pub is_spelled : IsSpelled command words
  pub prints : printing_of command ≡ Some print

-- the words spell a command
abbrev pub IsCommand : List (List ℕ) → Type 0
IsCommand words = (some : Command) × IsSpelled some words

-- what is printed of a run: the output of its journal, or that with the counts of its trace, or its history or its trace, and why it stopped
-- where a process lives
abbrev pub printed : Printing → Description → List Rec → Finish → List ℕ
printed printing.Output c trace end = output_of c (journal_of trace) end
printed printing.Stats c trace end = output_of c (journal_of trace) end ++ stats_of trace
printed (printing.Summary count) c trace end = summary_of count c (journal_of trace) end
printed printing.History c trace end = history_of (journal_of trace) ++ last_line end
printed printing.Trace c trace end = trace_of trace ++ last_line end

-- the lines that are written where nothing was run
abbrev pub usage_line : List ℕ
usage_line = codes "usage: sprite run | run --seed N | run --stats | history | load N | check | audit | trace | frames | file | lend\n"

abbrev pub too_long_line : List ℕ
too_long_line = codes "refused: 1\n"

abbrev pub fault_line : List ℕ
fault_line = codes "read fault\n"

-- a run of the cluster that came to that end: its journal is a history that one Unix kernel gives for the description, each finished
-- call stands in it once, a server is called unreachable only after eight lost packets of that call, its trace keeps the rules that are judged, in
-- the state that it leads to the processes stand as the end says, the budget is spent where it says so, and what is due is what is printed of
-- the run
pub record IsRunOf (print : Printing) (c : Description) (end : Finish) (closed : Option Closed) (due : List ℕ) : Type 0 where
  pub run : Closed
  pub kept : closed ≡ Some run
  pub same : run.description ≡ c
  pub ends : run.finish ≡ end
  pub legal : IsTrue (legal c (journal_of run.trace))
  pub once : Once run.trace
  pub for_cause : unreachable_for_cause c run.trace ≡ true
  pub rules : KeepsJudged c run.trace
  pub state : Unix
  pub leads : state_of c (journal_of run.trace) ≡ Some state
  pub finished : EndsAs c state end
  pub spent : IsSpent c run.trace end
  pub output : due ≡ printed print c run.trace end

-- the line about a run that isn't what was promised of it
abbrev pub refuted_line : JudgedRun → List ℕ
refuted_line (judged.Judged output tally) = []
refuted_line (judged.Refuted (refuted.Legal number)) = numbered_line (codes "refuted legal ") number
refuted_line (judged.Refuted refuted.Once) = codes "refuted once\n"
refuted_line (judged.Refuted refuted.End) = codes "refuted end\n"
refuted_line (judged.Refuted refuted.Stall) = codes "refuted stall\n"
refuted_line (judged.Refuted (refuted.Rule rule)) = codes "refuted " ++ name_of rule ++ codes "\n"
refuted_line (judged.Steps number) = numbered_line (codes "refuted steps ") number

-- a run comes to something else than what was promised of it
abbrev pub IsBroken : JudgedRun → Type 0
IsBroken (judged.Judged output tally) = ⊥
IsBroken other = Unit {0}

-- a run of the cluster isn't what was promised of it, by the judge, and its line is due; its budget is spent where it says so
pub record IsRefutedRun (c : Description) (closed : Option Closed) (due : List ℕ) : Type 0 where
  pub run : Closed
  pub kept : closed ≡ Some run
  pub same : run.description ≡ c
  pub verdict : JudgedRun
  pub spent : IsSpent c run.trace run.finish
  pub judges : JudgesTo c 40000000000 run.trace run.finish verdict
  pub broken : IsBroken verdict
  pub line_is : due ≡ refuted_line verdict

-- whether memory was wanting
abbrev pub is_out_of_memory : Finish → Bool
is_out_of_memory finish.OutOfMemory = true
is_out_of_memory _ = false

-- of a run that was made: between any two kernels its trace tells of no more faults than by how many the link's count of these rose
abbrev pub TellsFaultsOf : {L : Type 0} → (L → ℕ → ℕ → ℕ) → L → L → Option Closed → Type 0
TellsFaultsOf faults before after None = Unit {0}
TellsFaultsOf faults before after (Some run) = TellsFaults faults before after run.trace

-- of a run that was made: before each entry that calls a server unreachable, the link's count of faults between the entry's kernel and
-- another rose in this call, by eight at least
abbrev pub RoseForCause : {L : Type 0} → (L → ℕ → ℕ → ℕ) → L → L → Option Closed → Type 0
RoseForCause faults before after None = Unit {0}
RoseForCause faults before after (Some run) =
    (first rest : List Rec) (kernel : ℕ) (entry : Entry) → run.trace ≡ first ++ record { kernel = kernel; event = Enter entry } ∷ rest → is_unreachable_entry entry ≡ true → (to : ℕ) × (faults before kernel to + 8 ≤ faults after kernel to)

-- of a run that was made: over a link whose counts of faults don't rise, no reply of its journal calls a server unreachable
abbrev pub AllWereReached : {L : Type 0} → (L → ℕ → ℕ → ℕ) → L → L → Option Closed → Type 0
AllWereReached faults before after None = Unit {0}
AllWereReached faults before after (Some run) =
    ((a b : ℕ) → faults after a b ≡ faults before a b) → list_any is_unreachable_entry (journal_of run.trace) ≡ false

-- of a run that was made: what its trace tells of the packets that went over the link
abbrev pub TellsWireOf : {L : Type 0} → (L → ℕ → ℕ → ℕ) → (L → ℕ → ℕ → ℕ) → L → L → Option Closed → Type 0
TellsWireOf faults asked before after None = Unit {0}
TellsWireOf faults asked before after (Some run) = TellsWire faults asked before after run.trace

-- what came of running a described cluster, over a link that goes from there to here: by changes of its kernels, from the boot on, it
-- reaches a cluster whose trace that is and which has that link. The run ended as that cluster stands, and doesn't go on: all
-- processes have ended, or else its budget is spent, exactly where its units reach it, or else nothing can happen there
pub record IsRun {L : Type 0} (faults asked : L → ℕ → ℕ → ℕ) (before after : L) (run : Closed) : Type 0 where
  pub wire : Wired L
  pub state : State
  pub linked : after ≡ wire.link
  pub reached : Reached faults asked run.description before (record { wire = wire; state = state; trace = run.trace })
  pub stands : run.finish ≡ finish_of run.description run.trace wire.machine state
  pub over : run.finish ≢ finish.Running
  pub spent : IsSpent run.description run.trace run.finish
  pub still : run.finish ≡ finish.Stalled → IsStill (length run.description.kernels) wire.machine state

-- of a run that was made: each kernel asks for the server of a prefix only until it learned that prefix, it learns each once, and what is
-- learned are domains of the description, each with its server
pub record KeepsPrefixes (run : Closed) : Type 0 where
  pub asked : prefixes_are_broadcast_until_learned run.description run.trace ≡ true
  pub once : prefixes_are_learned_once run.description run.trace ≡ true
  pub domains : LearnsDomains run.description run.trace

abbrev pub KeepsPrefixesOf : Option Closed → Type 0
KeepsPrefixesOf None = Unit {0}
KeepsPrefixesOf (Some run) = KeepsPrefixes run

-- of a run that was made: it is one of its cluster
abbrev pub IsRunOver : {L : Type 0} → (L → ℕ → ℕ → ℕ) → (L → ℕ → ℕ → ℕ) → L → L → Option Closed → Type 0
IsRunOver faults asked before after None = Unit {0}
IsRunOver faults asked before after (Some run) = IsRun faults asked before after run

-- of a run that was made: it calls a server unreachable only after eight lost packets between the two kernels, of an asking for that call
abbrev pub IsForCauseOf : Option Closed → Type 0
IsForCauseOf None = Unit {0}
IsForCauseOf (Some run) = unreachable_for_cause run.description run.trace ≡ true

-- of a run that was made, over a link that goes from there to here: it is one of its cluster, its trace tells of no more faults than
-- the link counted, what it tells of packets is what went over the link, and it calls servers unreachable only for cause
pub record RunsOver {L : Type 0} (faults asked : L → ℕ → ℕ → ℕ) (before after : L) (closed : Option Closed) : Type 0 where
  pub run : IsRunOver faults asked before after closed
  pub counted : TellsFaultsOf faults before after closed
  pub wire : TellsWireOf faults asked before after closed
  pub caused : IsForCauseOf closed

-- a cluster after a run of it: it is what it was, over the same link, and the run is over
pub record IsSameRun {L : Type 0} (faults asked : L → ℕ → ℕ → ℕ) (old new : Cluster L) : Type 0 where
  pub described : new.description ≡ old.description
  pub begun_so : new.begun ≡ old.begun
  pub holds : Holds faults asked new.description new.closed new.begun.value new.wire new.state new.trace
  pub over : stands_so new.closed new.description new.trace new.wire.machine new.state ≢ finish.Running

-- nothing was run, and that line is due
pub record IsLine (closed : Option Closed) (due line : List ℕ) : Type 0 where
  pub no_run : closed ≡ None
  pub output : due ≡ line

-- the bytes are a cluster file, and were run so
pub record IsFileRun (print : Printing) (bytes : List ℕ) (end : Finish) (closed : Option Closed) (due : List ℕ) : Type 0 where
  pub cluster : Description
  pub describes : Describes bytes cluster
  pub run_of : IsRunOf print cluster end closed due

-- the words are those of a run, the source was read to its end, and its bytes were run and printed so
pub record IsFileEnded (end : Finish) (words : List (List ℕ)) (left left_after : Option (List ℕ)) (closed : Option Closed) (due : List ℕ) : Type 0 where
  pub print : Printing
  pub asks : AsksFor print words
  pub came : List ℕ
  pub read : Consumes left left_after came
  pub at_end : IsAtEnd left_after
  pub short : length came ≤ 1048576
  pub run_of : IsFileRun print came end closed due

-- the words are those of a load, nothing was read, and its workload was run and summed up so
pub record IsLoadEnded (end : Finish) (words : List (List ℕ)) (left left_after : Option (List ℕ)) (closed : Option Closed) (due : List ℕ) : Type 0 where
  pub count : ℕ
  pub asks : IsSpelled (command.Load count) words
  pub nothing_read : left_after ≡ left
  pub run_of : IsFileRun (printing.Summary count) (workload_text count) end closed due

-- a cluster of a file, or a workload, was run and printed so
abbrev pub IsEnded : Finish → List (List ℕ) → Option (List ℕ) → Option (List ℕ) → Option Closed → List ℕ → Type 0
IsEnded end words left left_after closed due = IsFileEnded end words left left_after closed due ⊎ IsLoadEnded end words left left_after closed due

-- the bytes are a cluster file, and its run isn't what was promised of it
pub record IsFileRefuted (bytes : List ℕ) (closed : Option Closed) (due : List ℕ) : Type 0 where
  pub cluster : Description
  pub describes : Describes bytes cluster
  pub run_of : IsRefutedRun cluster closed due

-- the words are those of a run, the source was read to its end, and the run of its bytes isn't what was promised of it
pub record IsReadRefuted (words : List (List ℕ)) (left left_after : Option (List ℕ)) (closed : Option Closed) (due : List ℕ) : Type 0 where
  pub print : Printing
  pub asks : AsksFor print words
  pub came : List ℕ
  pub read : Consumes left left_after came
  pub at_end : IsAtEnd left_after
  pub short : length came ≤ 1048576
  pub run_of : IsFileRefuted came closed due

-- the words are those of a load, nothing was read, and the run of its workload isn't what was promised of it
pub record IsLoadRefuted (words : List (List ℕ)) (left left_after : Option (List ℕ)) (closed : Option Closed) (due : List ℕ) : Type 0 where
  pub count : ℕ
  pub asks : IsSpelled (command.Load count) words
  pub nothing_read : left_after ≡ left
  pub run_of : IsFileRefuted (workload_text count) closed due

-- the run of a cluster of a file, or of a workload, isn't what was promised of it
abbrev pub IsRefuted : List (List ℕ) → Option (List ℕ) → Option (List ℕ) → Option Closed → List ℕ → Type 0
IsRefuted words left left_after closed due = IsReadRefuted words left left_after closed due ⊎ IsLoadRefuted words left left_after closed due

-- what a text comes to of that status, with what is due for it
abbrev pub Judging : Type 1
Judging = Status → List ℕ → Option Closed → List ℕ → Type 0

-- the words are that command, the source was read to its end, and what came is a text that comes to something of that status
pub record IsJudgedText (command : Command) (judging : Judging) (state : Status) (words : List (List ℕ)) (left left_after : Option (List ℕ)) (closed : Option Closed) (due : List ℕ) : Type 0 where
  pub words_are : IsSpelled command words
  pub came : List ℕ
  pub read : Consumes left left_after came
  pub at_end : IsAtEnd left_after
  pub short : length came ≤ 67108864
  pub text : judging state came closed due

-- a history was checked, or a trace audited
abbrev pub IsChecked : Status → List (List ℕ) → Option (List ℕ) → Option (List ℕ) → Option Closed → List ℕ → Type 0
IsChecked state words left left_after closed due =
    IsJudgedText command.Check TextCauses state words left left_after closed due ⊎ IsJudgedText command.Audit AuditCauses state words left left_after closed due

-- the words are `check` or `audit`
abbrev pub AsksForJudging : List (List ℕ) → Type 0
AsksForJudging words = IsSpelled command.Check words ⊎ IsSpelled command.Audit words

-- the bytes have a refusal, and its line is due
pub record IsRefusal (bytes due : List ℕ) : Type 0 where
  pub refusal : Refusal
  pub refuses : Refuses bytes refusal
  pub line_is : due ≡ refusal_line refusal

-- bytes that are read to their end and have a refusal, or too many bytes
abbrev pub AreRefused : Option (List ℕ) → List ℕ → List ℕ → Type 0
AreRefused left_after came due =
    (IsAtEnd left_after × (length came ≤ 1048576) × IsRefusal came due) ⊎ ((1048576 < length came) × (due ≡ too_long_line))

-- the words are those of a run, and what was read is refused
pub record IsRunRefused (words : List (List ℕ)) (left left_after : Option (List ℕ)) (closed : Option Closed) (due : List ℕ) : Type 0 where
  pub print : Printing
  pub asks : AsksFor print words
  pub came : List ℕ
  pub read : Consumes left left_after came
  pub cause : AreRefused left_after came due
  pub no_run : closed ≡ None

-- the words are `check` or `audit`, and more came than may be judged
pub record IsTextTooLong (words : List (List ℕ)) (left left_after : Option (List ℕ)) (closed : Option Closed) (due : List ℕ) : Type 0 where
  pub words_are : AsksForJudging words
  pub came : List ℕ
  pub read : Consumes left left_after came
  pub long : 67108864 < length came
  pub line : IsLine closed due too_long_line

-- what answers a text: the bytes that are due, or the number of its first line that isn't of its form
abbrev pub Reading : Type 0
Reading = List ℕ → Result (List ℕ) ℕ

-- the words are that command, the source was read to its end, and what is due answers the lines that came
pub record IsRead (command : Command) (reads : Reading) (words : List (List ℕ)) (left left_after : Option (List ℕ)) (closed : Option Closed) (due : List ℕ) : Type 0 where
  pub words_are : IsSpelled command words
  pub came : List ℕ
  pub read : Consumes left left_after came
  pub at_end : IsAtEnd left_after
  pub short : length came ≤ 1048576
  pub answers : reads came ≡ Ok due
  pub no_run : closed ≡ None

-- a line isn't of its form, and what is due says which
pub record IsBadLine (reads : Reading) (text due : List ℕ) : Type 0 where
  pub number : ℕ
  pub bad : reads text ≡ Err number
  pub line_is : due ≡ numbered_line (codes "refused: 15 line ") number

-- bytes that are read to their end and have a line that isn't of its form, or too many bytes
abbrev pub AreNoLines : Reading → Option (List ℕ) → List ℕ → List ℕ → Type 0
AreNoLines reads left_after came due =
    (IsAtEnd left_after × (length came ≤ 1048576) × IsBadLine reads came due) ⊎ ((1048576 < length came) × (due ≡ too_long_line))

-- the words are that command, and what was read isn't of its form
pub record IsMisread (command : Command) (reads : Reading) (words : List (List ℕ)) (left left_after : Option (List ℕ)) (closed : Option Closed) (due : List ℕ) : Type 0 where
  pub words_are : IsSpelled command words
  pub came : List ℕ
  pub read : Consumes left left_after came
  pub cause : AreNoLines reads left_after came due
  pub no_run : closed ≡ None

-- what a text of packets and the lines that tell of them have to do with each other
abbrev pub Telling : Type 1
Telling = List ℕ → List ℕ → Type 0

-- the words are `frames`, the source was read to its end, and what is due tells what came of the packets that came
pub record IsFramed (told : Telling) (words : List (List ℕ)) (left left_after : Option (List ℕ)) (closed : Option Closed) (due : List ℕ) : Type 0 where
  pub words_are : IsSpelled command.Frames words
  pub came : List ℕ
  pub read : Consumes left left_after came
  pub at_end : IsAtEnd left_after
  pub short : length came ≤ 67108864
  pub tells : told came due
  pub no_run : closed ≡ None

-- events were answered, steps of a file were played, or packets were sent
abbrev pub IsAnswered : Telling → List (List ℕ) → Option (List ℕ) → Option (List ℕ) → Option Closed → List ℕ → Type 0
IsAnswered told words left left_after closed due =
    IsRead command.Lend answer_text words left left_after closed due ⊎ (IsRead command.File file_text words left left_after closed due ⊎ IsFramed told words left left_after closed due)

-- bytes that are read to their end and are refused as a text of packets, or too many bytes
abbrev pub AreNoPackets : Option (List ℕ) → List ℕ → List ℕ → Type 0
AreNoPackets left_after came due =
    (IsAtEnd left_after × (length came ≤ 67108864) × IsTextRefusal came due) ⊎ ((67108864 < length came) × (due ≡ too_long_line))

-- the words are `frames`, and what was read is no text of packets
pub record IsFramesRefused (words : List (List ℕ)) (left left_after : Option (List ℕ)) (closed : Option Closed) (due : List ℕ) : Type 0 where
  pub words_are : IsSpelled command.Frames words
  pub came : List ℕ
  pub read : Consumes left left_after came
  pub cause : AreNoPackets left_after came due
  pub no_run : closed ≡ None

-- what was read is refused: as a cluster file, as a text that is to be judged, since it is too long, as a text of events, as one of steps of
-- a file, or as one of packets
abbrev pub IsRefused : List (List ℕ) → Option (List ℕ) → Option (List ℕ) → Option Closed → List ℕ → Type 0
IsRefused words left left_after closed due =
    IsRunRefused words left left_after closed due ⊎ (IsChecked status.Refused words left left_after closed due ⊎ (IsTextTooLong words left left_after closed due ⊎ (IsMisread command.Lend answer_text words left left_after closed due ⊎ (IsMisread command.File file_text words left left_after closed due ⊎ IsFramesRefused words left left_after closed due))))

-- the words are no command, and nothing was read
pub record IsUsage (words : List (List ℕ)) (left left_after : Option (List ℕ)) (faults faults_after : ℕ) (closed : Option Closed) (due : List ℕ) : Type 0 where
  pub no_command : IsCommand words → ⊥
  pub nothing_read : left_after ≡ left
  pub no_fault : faults_after ≡ faults
  pub line : IsLine closed due usage_line

-- the words are a command, and the source's count of faults rose
pub record IsReadFault (words : List (List ℕ)) (faults faults_after : ℕ) (closed : Option Closed) (due : List ℕ) : Type 0 where
  pub words_are : IsCommand words
  pub rose : Rose faults faults_after
  pub line : IsLine closed due fault_line

-- why a status comes, before anything is written
abbrev pub Causes : Telling → Status → List (List ℕ) → Option (List ℕ) → Option (List ℕ) → ℕ → ℕ → Option Closed → List ℕ → Type 0
Causes told status.Ended words left left_after faults faults_after closed due = IsEnded finish.AllEnded words left left_after closed due
Causes told status.Budget words left left_after faults faults_after closed due = IsEnded finish.Budget words left left_after closed due
Causes told status.Stalled words left left_after faults faults_after closed due = IsEnded finish.Stalled words left left_after closed due
Causes told status.Refuted words left left_after faults faults_after closed due = IsRefuted words left left_after closed due
Causes told status.Holds words left left_after faults faults_after closed due = IsChecked status.Holds words left left_after closed due
Causes told status.Fails words left left_after faults faults_after closed due = IsChecked status.Fails words left left_after closed due
Causes told status.Steps words left left_after faults faults_after closed due = IsChecked status.Steps words left left_after closed due
Causes told status.Answered words left left_after faults faults_after closed due = IsAnswered told words left left_after closed due
Causes told status.Refused words left left_after faults faults_after closed due = IsRefused words left left_after closed due
Causes told status.Usage words left left_after faults faults_after closed due = IsUsage words left left_after faults faults_after closed due
Causes told status.ReadFault words left left_after faults faults_after closed due = IsReadFault words faults faults_after closed due
Causes told status.NoMemory words left left_after faults faults_after closed due = ⊥
Causes told status.WriteFault words left left_after faults faults_after closed due = ⊥

-- what is due for the bytes of a whole file
abbrev pub FileCauses : Printing → Status → List ℕ → Option Closed → List ℕ → Type 0
FileCauses print status.Ended bytes closed due = IsFileRun print bytes finish.AllEnded closed due
FileCauses print status.Budget bytes closed due = IsFileRun print bytes finish.Budget closed due
FileCauses print status.Stalled bytes closed due = IsFileRun print bytes finish.Stalled closed due
FileCauses print status.Refuted bytes closed due = IsFileRefuted bytes closed due
FileCauses print status.Refused bytes closed due = (closed ≡ None) × IsRefusal bytes due
FileCauses print _ bytes closed due = ⊥

-- what is due for a described cluster
abbrev pub ClusterCauses : Printing → Status → Description → Option Closed → List ℕ → Type 0
ClusterCauses print status.Ended c closed due = IsRunOf print c finish.AllEnded closed due
ClusterCauses print status.Budget c closed due = IsRunOf print c finish.Budget closed due
ClusterCauses print status.Stalled c closed due = IsRunOf print c finish.Stalled closed due
ClusterCauses print status.Refuted c closed due = IsRefutedRun c closed due
ClusterCauses print _ c closed due = ⊥

-- what is due for a workload of that many processes
abbrev pub LoadCauses : ℕ → Status → Option Closed → List ℕ → Type 0
LoadCauses count status.Ended closed due = IsFileRun (printing.Summary count) (workload_text count) finish.AllEnded closed due
LoadCauses count status.Budget closed due = IsFileRun (printing.Summary count) (workload_text count) finish.Budget closed due
LoadCauses count status.Stalled closed due = IsFileRun (printing.Summary count) (workload_text count) finish.Stalled closed due
LoadCauses count status.Refuted closed due = IsFileRefuted (workload_text count) closed due
LoadCauses count other closed due = ⊥

-- what is due for a text of lines
abbrev pub LinesCauses : Reading → Status → List ℕ → Option Closed → List ℕ → Type 0
LinesCauses reads status.Answered text closed due = (reads text ≡ Ok due) × (closed ≡ None)
LinesCauses reads status.Refused text closed due = IsBadLine reads text due × (closed ≡ None)
LinesCauses reads other text closed due = ⊥

-- what is due for a text of packets
abbrev pub PacketsCauses : Telling → Status → List ℕ → Option Closed → List ℕ → Type 0
PacketsCauses told status.Answered text closed due = told text due × (closed ≡ None)
PacketsCauses told status.Refused text closed due = IsTextRefusal text due × (closed ≡ None)
PacketsCauses told other text closed due = ⊥

-- what was told of a text of packets, as an answer
abbrev pub told_answer : FramesAnswer → Answer
told_answer (Lines lines) = record { status = status.Answered; due = lines; closed = None }
told_answer (Refused line) = record { status = status.Refused; due = line; closed = None }

-- the status of a run that came to its end so
abbrev pub status_of : Finish → Status
status_of finish.AllEnded = status.Ended
status_of finish.Budget = status.Budget
status_of finish.Stalled = status.Stalled
status_of _ = status.Refuted

-- what a run of a described cluster, the check of a history or of a trace, an answer to events, to steps of a file or to packets, a refused file, and words that are no command may come to
abbrev pub IsOfRun : Status → Type 0
IsOfRun status.Ended = Unit {0}
IsOfRun status.Budget = Unit {0}
IsOfRun status.Stalled = Unit {0}
IsOfRun status.Refuted = Unit {0}
IsOfRun status.NoMemory = Unit {0}
IsOfRun other = ⊥

abbrev pub IsOfCheck : Status → Type 0
IsOfCheck status.Holds = Unit {0}
IsOfCheck status.Fails = Unit {0}
IsOfCheck status.Steps = Unit {0}
IsOfCheck status.NoMemory = Unit {0}
IsOfCheck other = ⊥

abbrev pub IsOfAnswer : Status → Type 0
IsOfAnswer status.Answered = Unit {0}
IsOfAnswer status.NoMemory = Unit {0}
IsOfAnswer other = ⊥

abbrev pub IsOfRefusal : Status → Type 0
IsOfRefusal status.Refused = Unit {0}
IsOfRefusal status.WriteFault = Unit {0}
IsOfRefusal status.NoMemory = Unit {0}
IsOfRefusal other = ⊥

abbrev pub IsOfUsage : Status → Type 0
IsOfUsage status.Usage = Unit {0}
IsOfUsage status.WriteFault = Unit {0}
IsOfUsage status.NoMemory = Unit {0}
IsOfUsage other = ⊥

-- a count of faults neither rose nor stands at u64::MAX
abbrev pub NoFault : ℕ → ℕ → Type 0
NoFault count count_after = Rose count count_after → ⊥

-- what right words over right bytes come to, where neither the source nor the sink counts a fault: not to a refusal, nor to an error
-- but want of memory; and what bytes that are refused, and words that are no command, come to
pub record Completes (state : Status) (words : List (List ℕ)) (left : Option (List ℕ)) (faults faults_after sunk sunk_after : ℕ) : Type 0 where
  pub runs : (print : Printing) (bytes : List ℕ) (c : Description) → AsksFor print words → left ≡ Some bytes → Describes bytes c → NoFault faults faults_after → NoFault sunk sunk_after → IsOfRun state
  pub loads : (count : ℕ) → IsSpelled (command.Load count) words → NoFault faults faults_after → NoFault sunk sunk_after → IsOfRun state
  pub checks : (bytes : List ℕ) → IsSpelled command.Check words → left ≡ Some bytes → length bytes ≤ 67108864 → ((j : Judgement) → ComesTo bytes j → judgement_status j ≢ status.Refused) → NoFault faults faults_after → NoFault sunk sunk_after → IsOfCheck state
  pub audits : (bytes : List ℕ) → IsSpelled command.Audit words → left ≡ Some bytes → length bytes ≤ 67108864 → ((a : AuditedText) → TextComesTo bytes a → audited_status a ≢ status.Refused) → NoFault faults faults_after → NoFault sunk sunk_after → IsOfCheck state
  pub answers : (bytes lines : List ℕ) → IsSpelled command.Lend words → left ≡ Some bytes → length bytes ≤ 1048576 → answer_text bytes ≡ Ok lines → NoFault faults faults_after → NoFault sunk sunk_after → IsOfAnswer state
  pub plays : (bytes lines : List ℕ) → IsSpelled command.File words → left ≡ Some bytes → length bytes ≤ 1048576 → file_text bytes ≡ Ok lines → NoFault faults faults_after → NoFault sunk sunk_after → IsOfAnswer state
  pub tells : (bytes : List ℕ) → IsSpelled command.Frames words → left ≡ Some bytes → length bytes ≤ 67108864 → HoldsPackets bytes → NoFault faults faults_after → NoFault sunk sunk_after → IsOfAnswer state
  pub refuses : (print : Printing) (bytes : List ℕ) (refusal : Refusal) → AsksFor print words → left ≡ Some bytes → Refuses bytes refusal → NoFault faults faults_after → IsOfRefusal state
  pub refuses_words : (IsCommand words → ⊥) → IsOfUsage state

-- the exit status of the program
abbrev pub status_number : Status → ℕ
status_number status.Ended = 0
status_number status.Holds = 0
status_number status.Answered = 0
status_number status.Refused = 1
status_number status.Usage = 2
status_number status.ReadFault = 3
status_number status.Budget = 4
status_number status.Stalled = 5
status_number status.NoMemory = 6
status_number status.WriteFault = 7
status_number status.Fails = 8
status_number status.Steps = 9
status_number status.Refuted = 10
