-- The words of the command line, and what is due for a whole file.
use Rattle.std.proofs.Common.{codes, ◌≡◌, ◌∙◌, ℕ, ◌≤◌, Bool, true, false, List, length, Option, Result, Ok, Err, IfOk, sym, inl, inr, None, Some, refl, ap, subst}
use Rattle.std.specs.Io.KnownBytes.{Consumes, IsAtEnd}
use Rattle.sprite_ids.specs.declared.no_memory.NoMemory.{NoMemory}
use Rattle.sprite_bytes.specs.Counts.{IsFault, Rose}
use Rattle.sprite_bytes.specs.Ends.{IsByCount}
use Rattle.sprite_bytes.specs.declared.read_end.ReadEnd.TheVariants as read_end
use Rattle.sprite_top.specs.declared.top.Answer.{Answer}
use Rattle.sprite_top.specs.declared.top.Status.{Status}
use Rattle.sprite_top.specs.declared.top.Status.TheVariants as status
use Rattle.sprite_top.specs.declared.top.Printing.{Printing}
use Rattle.sprite_top.specs.declared.top.Printing.TheVariants.{Summary}
use Rattle.workload_maker.specs.Workloads.{workload_text}
use Rattle.call_journal.specs.declared.closed.Closed.{Closed}
use Rattle.unix_calls.specs.declared.description.Description.{Description}
use Rattle.cluster_file.specs.declared.Refusal.{Refusal}
use Rattle.cluster_file.specs.Clusters.{Describes, Refuses}
use Rattle.report_print.specs.Refused.{refusal_line}
use Rattle.report_print.specs.declared.Tally.{Tally}
use Rattle.one_kernel.specs.declared.verdict.Verdict.TheVariants as verdict
use Rattle.history_check.specs.declared.judgement.Judgement.{Judgement}
use Rattle.history_check.specs.declared.judgement.Judgement.TheVariants as judgement
use Rattle.trace_audit.specs.declared.outcome.Audit.TheVariants as audit
use Rattle.trace_audit.specs.declared.audited_text.AuditedText.{AuditedText}
use Rattle.trace_audit.specs.declared.audited_text.AuditedText.TheVariants as text_audit
use Rattle.sprite_top.specs.Judged.{AuditCauses, TextCauses, audited_status, judgement_status, numbered_line}
use Rattle.sprite_words.specs.declared.Command.TheVariants as command
use Rattle.lend_text.specs.Bodies.{answer_text}
use Rattle.restart_text.specs.FileTexts.{file_text}
use Rattle.sprite_words.specs.Words.{IsSpelled}
use Rattle.frames_text.specs.declared.FramesAnswer.{FramesAnswer}
use Rattle.frames_text.specs.declared.FramesAnswer.TheVariants.{Lines, Refused}
use Rattle.frames_text.specs.Texts.{Answers, AreTold}
use Rattle.sprite_top.specs.Top.{Telling, PacketsCauses, told_answer, AsksFor, IsChecked, IsCommand, RunsOver, LoadCauses, LinesCauses, Reading, fault_line, printed, status_of, Causes, FileCauses, ClusterCauses}
use Rattle.sprite_ids.specs.declared.running.Finish.{Finish}
use Rattle.sprite_ids.specs.declared.running.Finish.TheVariants as finish
use Rattle.run_judge.specs.Judged.{IsJudged}
use Rattle.sprite_cluster.specs.Finishing.{IsSpent}

-- what is due for a whole file is due for words that ask for it, whose source was read to its end
of_file : (told : Telling) (print : Printing) (state : Status) (words : List (List ℕ)) (left left_after : Option (List ℕ)) (faults faults_after : ℕ) (came : List ℕ) (closed : Option Closed) (due : List ℕ) → AsksFor print words → Consumes left left_after came → IsAtEnd left_after → length came ≤ 1048576 → FileCauses print state came closed due → Causes told state words left left_after faults faults_after closed due
of_file told print status.Ended words left left_after faults faults_after came closed due are read end short why =
    inl (record { print = print; asks = are; came = came; read = read; at_end = end; short = short; run_of = why })
of_file told print status.Refused words left left_after faults faults_after came closed due are read end short why =
    inl (record { print = print; asks = are; came = came; read = read; cause = inl (end, short, why.1); no_run = why.0 })
of_file told print status.Stalled words left left_after faults faults_after came closed due are read end short why =
    inl (record { print = print; asks = are; came = came; read = read; at_end = end; short = short; run_of = why })
of_file told print status.Refuted words left left_after faults faults_after came closed due are read end short why =
    inl (record { print = print; asks = are; came = came; read = read; at_end = end; short = short; run_of = why })
of_file told print status.Budget words left left_after faults faults_after came closed due are read end short why =
    inl (record { print = print; asks = are; came = came; read = read; at_end = end; short = short; run_of = why })
of_file told print status.Usage words left left_after faults faults_after came closed due are read end short why = absurd why
of_file told print status.ReadFault words left left_after faults faults_after came closed due are read end short why = absurd why
of_file told print status.NoMemory words left left_after faults faults_after came closed due are read end short why = absurd why
of_file told print status.Holds words left left_after faults faults_after came closed due are read end short why = absurd why
of_file told print status.Answered words left left_after faults faults_after came closed due are read end short why = absurd why
of_file told print status.Fails words left left_after faults faults_after came closed due are read end short why = absurd why
of_file told print status.Steps words left left_after faults faults_after came closed due are read end short why = absurd why
of_file told print status.WriteFault words left left_after faults faults_after came closed due are read end short why = absurd why

pub from_file : (told : Telling) (print : Printing) (words : List (List ℕ)) (left left_after : Option (List ℕ)) (faults faults_after : ℕ) (came : List ℕ) (r : Result Answer NoMemory) → AsksFor print words → Consumes left left_after came → IsAtEnd left_after → length came ≤ 1048576 → IfOk r (λ a. FileCauses print a.status came a.closed a.due) → IfOk r (λ a. Causes told a.status words left left_after faults faults_after a.closed a.due)
from_file told print words left left_after faults faults_after came (Ok a) are read end short why = of_file told print a.status words left left_after faults faults_after came a.closed a.due are read end short why
from_file told print words left left_after faults faults_after came (Err e) are read end short why = why

-- what is due for a described cluster is due for a whole file
of_cluster : (print : Printing) (state : Status) (bytes : List ℕ) (c : Description) (closed : Option Closed) (due : List ℕ) → Describes bytes c → ClusterCauses print state c closed due → FileCauses print state bytes closed due
of_cluster print status.Ended bytes c closed due describes why = record { cluster = c; describes = describes; run_of = why }
of_cluster print status.Budget bytes c closed due describes why = record { cluster = c; describes = describes; run_of = why }
of_cluster print status.Stalled bytes c closed due describes why = record { cluster = c; describes = describes; run_of = why }
of_cluster print status.Refuted bytes c closed due describes why = record { cluster = c; describes = describes; run_of = why }
of_cluster print status.Refused bytes c closed due describes why = absurd why
of_cluster print status.Usage bytes c closed due describes why = absurd why
of_cluster print status.ReadFault bytes c closed due describes why = absurd why
of_cluster print status.NoMemory bytes c closed due describes why = absurd why
of_cluster print status.Holds bytes c closed due describes why = absurd why
of_cluster print status.Answered bytes c closed due describes why = absurd why
of_cluster print status.Fails bytes c closed due describes why = absurd why
of_cluster print status.Steps bytes c closed due describes why = absurd why
of_cluster print status.WriteFault bytes c closed due describes why = absurd why

pub from_cluster : (print : Printing) (bytes : List ℕ) (c : Description) (r : Result Answer NoMemory) → Describes bytes c → IfOk r (λ a. ClusterCauses print a.status c a.closed a.due) → IfOk r (λ a. FileCauses print a.status bytes a.closed a.due)
from_cluster print bytes c (Ok a) describes why = of_cluster print a.status bytes c a.closed a.due describes why
from_cluster print bytes c (Err e) describes why = why

-- what is due for a described cluster is due for the workload that it is
of_workload : (count : ℕ) (state : Status) (c : Description) (closed : Option Closed) (due : List ℕ) → Describes (workload_text count) c → ClusterCauses (Summary count) state c closed due → LoadCauses count state closed due
of_workload count status.Ended c closed due describes why = record { cluster = c; describes = describes; run_of = why }
of_workload count status.Budget c closed due describes why = record { cluster = c; describes = describes; run_of = why }
of_workload count status.Stalled c closed due describes why = record { cluster = c; describes = describes; run_of = why }
of_workload count status.Refuted c closed due describes why = record { cluster = c; describes = describes; run_of = why }
of_workload count status.Refused c closed due describes why = absurd why
of_workload count status.Usage c closed due describes why = absurd why
of_workload count status.ReadFault c closed due describes why = absurd why
of_workload count status.NoMemory c closed due describes why = absurd why
of_workload count status.Holds c closed due describes why = absurd why
of_workload count status.Answered c closed due describes why = absurd why
of_workload count status.Fails c closed due describes why = absurd why
of_workload count status.Steps c closed due describes why = absurd why
of_workload count status.WriteFault c closed due describes why = absurd why

pub from_workload : (count : ℕ) (c : Description) (r : Result Answer NoMemory) → Describes (workload_text count) c → IfOk r (λ a. ClusterCauses (Summary count) a.status c a.closed a.due) → IfOk r (λ a. LoadCauses count a.status a.closed a.due)
from_workload count c (Ok a) describes why = of_workload count a.status c a.closed a.due describes why
from_workload count c (Err e) describes why = why

-- and for words that ask for it, where nothing was read
of_load : (told : Telling) (count : ℕ) (state : Status) (words : List (List ℕ)) (left left_after : Option (List ℕ)) (faults faults_after : ℕ) (closed : Option Closed) (due : List ℕ) → IsSpelled (command.Load count) words → left_after ≡ left → LoadCauses count state closed due → Causes told state words left left_after faults faults_after closed due
of_load told count status.Ended words left left_after faults faults_after closed due are same why = inr (record { count = count; asks = are; nothing_read = same; run_of = why })
of_load told count status.Budget words left left_after faults faults_after closed due are same why = inr (record { count = count; asks = are; nothing_read = same; run_of = why })
of_load told count status.Stalled words left left_after faults faults_after closed due are same why = inr (record { count = count; asks = are; nothing_read = same; run_of = why })
of_load told count status.Refuted words left left_after faults faults_after closed due are same why = inr (record { count = count; asks = are; nothing_read = same; run_of = why })
of_load told count status.Refused words left left_after faults faults_after closed due are same why = absurd why
of_load told count status.Usage words left left_after faults faults_after closed due are same why = absurd why
of_load told count status.ReadFault words left left_after faults faults_after closed due are same why = absurd why
of_load told count status.NoMemory words left left_after faults faults_after closed due are same why = absurd why
of_load told count status.Holds words left left_after faults faults_after closed due are same why = absurd why
of_load told count status.Answered words left left_after faults faults_after closed due are same why = absurd why
of_load told count status.Fails words left left_after faults faults_after closed due are same why = absurd why
of_load told count status.Steps words left left_after faults faults_after closed due are same why = absurd why
of_load told count status.WriteFault words left left_after faults faults_after closed due are same why = absurd why

pub from_load : (told : Telling) (count : ℕ) (words : List (List ℕ)) (left left_after : Option (List ℕ)) (faults faults_after : ℕ) (r : Result Answer NoMemory) → IsSpelled (command.Load count) words → left_after ≡ left → IfOk r (λ a. LoadCauses count a.status a.closed a.due) → IfOk r (λ a. Causes told a.status words left left_after faults faults_after a.closed a.due)
from_load told count words left left_after faults faults_after (Ok a) are same why = of_load told count a.status words left left_after faults faults_after a.closed a.due are same why
from_load told count words left left_after faults faults_after (Err e) are same why = why

-- the line of a refusal is due for a file that has it
pub from_refusal : (print : Printing) (bytes : List ℕ) (refusal : Refusal) (r : Result Answer NoMemory) → Refuses bytes refusal → IfOk r (λ a. a ≡ record { status = status.Refused; due = refusal_line refusal; closed = None }) → IfOk r (λ a. FileCauses print a.status bytes a.closed a.due)
from_refusal print bytes refusal (Ok a) refuses made =
    subst (λ (b : Answer). FileCauses print b.status bytes b.closed b.due) (sym made) (refl, record { refusal = refusal; refuses = refuses; line_is = refl })
from_refusal print bytes refusal (Err e) refuses made = made

-- a text's status is one of four
is_of_text : Status → Bool
is_of_text status.Holds = true
is_of_text status.Fails = true
is_of_text status.Steps = true
is_of_text status.Refused = true
is_of_text other = false

of_judgement : (j : Judgement) → is_of_text (judgement_status j) ≡ true
unfolding is_of_text
of_judgement judgement.NoHistory = refl
of_judgement (judgement.Refused r) = refl
of_judgement (judgement.BadLine n) = refl
of_judgement (judgement.Judged verdict.Legal) = refl
of_judgement (judgement.Judged (verdict.NotLegal n)) = refl
of_judgement (judgement.Judged (verdict.Steps n)) = refl

-- nor is that of a trace any other
of_audited : (a : AuditedText) → is_of_text (audited_status a) ≡ true
unfolding is_of_text
of_audited text_audit.NoTrace = refl
of_audited (text_audit.Refused r) = refl
of_audited (text_audit.BadLine n) = refl
of_audited (text_audit.Audited audit.Holds) = refl
of_audited (text_audit.Audited (audit.Fails promise)) = refl
of_audited (text_audit.Audited (audit.Steps n)) = refl

-- what is due for a text is due for words that ask for it to be judged
of_text : (told : Telling) (state : Status) (words : List (List ℕ)) (left left_after : Option (List ℕ)) (faults faults_after : ℕ) (closed : Option Closed) (due : List ℕ) → is_of_text state ≡ true → IsChecked state words left left_after closed due → Causes told state words left left_after faults faults_after closed due
unfolding is_of_text
of_text told status.Holds words left left_after faults faults_after closed due one why = why
of_text told status.Fails words left left_after faults faults_after closed due one why = why
of_text told status.Steps words left left_after faults faults_after closed due one why = why
of_text told status.Refused words left left_after faults faults_after closed due one why = inr (inl why)
of_text told status.Ended words left left_after faults faults_after closed due one why = absurd (cc (one))
of_text told status.Budget words left left_after faults faults_after closed due one why = absurd (cc (one))
of_text told status.Stalled words left left_after faults faults_after closed due one why = absurd (cc (one))
of_text told status.Refuted words left left_after faults faults_after closed due one why = absurd (cc (one))
of_text told status.Usage words left left_after faults faults_after closed due one why = absurd (cc (one))
of_text told status.ReadFault words left left_after faults faults_after closed due one why = absurd (cc (one))
of_text told status.NoMemory words left left_after faults faults_after closed due one why = absurd (cc (one))
of_text told status.Answered words left left_after faults faults_after closed due one why = absurd (cc (one))
of_text told status.WriteFault words left left_after faults faults_after closed due one why = absurd (cc (one))

of_history : (told : Telling) (state : Status) (words : List (List ℕ)) (left left_after : Option (List ℕ)) (faults faults_after : ℕ) (came : List ℕ) (closed : Option Closed) (due : List ℕ) → IsSpelled command.Check words → Consumes left left_after came → IsAtEnd left_after → length came ≤ 67108864 → TextCauses state came closed due → Causes told state words left left_after faults faults_after closed due
of_history told state words left left_after faults faults_after came closed due are read end short why =
    of_text told state words left left_after faults faults_after closed due (ap is_of_text why.state_is ∙ of_judgement why.judgement) (inl (record { words_are = are; came = came; read = read; at_end = end; short = short; text = why }))

of_trace : (told : Telling) (state : Status) (words : List (List ℕ)) (left left_after : Option (List ℕ)) (faults faults_after : ℕ) (came : List ℕ) (closed : Option Closed) (due : List ℕ) → IsSpelled command.Audit words → Consumes left left_after came → IsAtEnd left_after → length came ≤ 67108864 → AuditCauses state came closed due → Causes told state words left left_after faults faults_after closed due
of_trace told state words left left_after faults faults_after came closed due are read end short why =
    of_text told state words left left_after faults faults_after closed due (ap is_of_text why.state_is ∙ of_audited why.audited) (inr (record { words_are = are; came = came; read = read; at_end = end; short = short; text = why }))

pub from_text : (told : Telling) (words : List (List ℕ)) (left left_after : Option (List ℕ)) (faults faults_after : ℕ) (came : List ℕ) (r : Result Answer NoMemory) → IsSpelled command.Check words → Consumes left left_after came → IsAtEnd left_after → length came ≤ 67108864 → IfOk r (λ a. TextCauses a.status came a.closed a.due) → IfOk r (λ a. Causes told a.status words left left_after faults faults_after a.closed a.due)
from_text told words left left_after faults faults_after came (Ok a) are read end short why = of_history told a.status words left left_after faults faults_after came a.closed a.due are read end short why
from_text told words left left_after faults faults_after came (Err e) are read end short why = why

pub from_audit : (told : Telling) (words : List (List ℕ)) (left left_after : Option (List ℕ)) (faults faults_after : ℕ) (came : List ℕ) (r : Result Answer NoMemory) → IsSpelled command.Audit words → Consumes left left_after came → IsAtEnd left_after → length came ≤ 67108864 → IfOk r (λ a. AuditCauses a.status came a.closed a.due) → IfOk r (λ a. Causes told a.status words left left_after faults faults_after a.closed a.due)
from_audit told words left left_after faults faults_after came (Ok a) are read end short why = of_trace told a.status words left left_after faults faults_after came a.closed a.due are read end short why
from_audit told words left left_after faults faults_after came (Err e) are read end short why = why

-- a run that is what was promised of it has the causes of its end
accepted_at : (print : Printing) (c : Description) (run : Closed) (output due : List ℕ) (tally : Tally) (end : Finish) → run.description ≡ c → run.finish ≡ end → IsSpent c run.trace end → IsJudged c 40000000000 run.trace end output tally → due ≡ printed print c run.trace end → ClusterCauses print (status_of end) c (Some run) due
accepted_at print c run output due tally finish.AllEnded same ends spent j is =
    record { run = run; kept = refl; same = same; ends = ends; legal = j.is_legal.is_legal; once = j.once; for_cause = j.for_cause; rules = j.rules; state = j.state; leads = j.is_legal.leads; finished = j.ends; spent = spent; output = is }
accepted_at print c run output due tally finish.Budget same ends spent j is =
    record { run = run; kept = refl; same = same; ends = ends; legal = j.is_legal.is_legal; once = j.once; for_cause = j.for_cause; rules = j.rules; state = j.state; leads = j.is_legal.leads; finished = j.ends; spent = spent; output = is }
accepted_at print c run output due tally finish.Stalled same ends spent j is =
    record { run = run; kept = refl; same = same; ends = ends; legal = j.is_legal.is_legal; once = j.once; for_cause = j.for_cause; rules = j.rules; state = j.state; leads = j.is_legal.leads; finished = j.ends; spent = spent; output = is }
accepted_at print c run output due tally finish.OutOfMemory same ends spent j is = absurd j.ends
accepted_at print c run output due tally finish.Running same ends spent j is = absurd j.ends

pub accepted : (print : Printing) (run : Closed) (output due : List ℕ) (tally : Tally) → IsSpent run.description run.trace run.finish → IsJudged run.description 40000000000 run.trace run.finish output tally → due ≡ printed print run.description run.trace run.finish → ClusterCauses print (status_of run.finish) run.description (Some run) due
accepted print run output due tally spent j is = accepted_at print run.description run output due tally run.finish refl refl spent j is

-- what is due for a text of events is due for the words `lend`, whose source was read to its end
of_events : (told : Telling) (state : Status) (words : List (List ℕ)) (left left_after : Option (List ℕ)) (faults faults_after : ℕ) (came : List ℕ) (closed : Option Closed) (due : List ℕ) → IsSpelled command.Lend words → Consumes left left_after came → IsAtEnd left_after → length came ≤ 1048576 → LinesCauses answer_text state came closed due → Causes told state words left left_after faults faults_after closed due
of_events told status.Answered words left left_after faults faults_after came closed due are read end short why =
    inl (record { words_are = are; came = came; read = read; at_end = end; short = short; answers = why.0; no_run = why.1 })
of_events told status.Refused words left left_after faults faults_after came closed due are read end short why =
    inr (inr (inr (inl (record { words_are = are; came = came; read = read; cause = inl (end, short, why.0); no_run = why.1 }))))
of_events told status.Ended words left left_after faults faults_after came closed due are read end short why = absurd why
of_events told status.Budget words left left_after faults faults_after came closed due are read end short why = absurd why
of_events told status.Stalled words left left_after faults faults_after came closed due are read end short why = absurd why
of_events told status.Refuted words left left_after faults faults_after came closed due are read end short why = absurd why
of_events told status.Usage words left left_after faults faults_after came closed due are read end short why = absurd why
of_events told status.ReadFault words left left_after faults faults_after came closed due are read end short why = absurd why
of_events told status.NoMemory words left left_after faults faults_after came closed due are read end short why = absurd why
of_events told status.Holds words left left_after faults faults_after came closed due are read end short why = absurd why
of_events told status.Fails words left left_after faults faults_after came closed due are read end short why = absurd why
of_events told status.Steps words left left_after faults faults_after came closed due are read end short why = absurd why
of_events told status.WriteFault words left left_after faults faults_after came closed due are read end short why = absurd why

pub from_events : (told : Telling) (words : List (List ℕ)) (left left_after : Option (List ℕ)) (faults faults_after : ℕ) (came : List ℕ) (r : Result Answer NoMemory) → IsSpelled command.Lend words → Consumes left left_after came → IsAtEnd left_after → length came ≤ 1048576 → IfOk r (λ a. LinesCauses answer_text a.status came a.closed a.due) → IfOk r (λ a. Causes told a.status words left left_after faults faults_after a.closed a.due)
from_events told words left left_after faults faults_after came (Ok a) are read end short why = of_events told a.status words left left_after faults faults_after came a.closed a.due are read end short why
from_events told words left left_after faults faults_after came (Err e) are read end short why = why

-- what is due for a text of steps of a file is due for the words `file`, whose source was read to its end
of_steps : (told : Telling) (state : Status) (words : List (List ℕ)) (left left_after : Option (List ℕ)) (faults faults_after : ℕ) (came : List ℕ) (closed : Option Closed) (due : List ℕ) → IsSpelled command.File words → Consumes left left_after came → IsAtEnd left_after → length came ≤ 1048576 → LinesCauses file_text state came closed due → Causes told state words left left_after faults faults_after closed due
of_steps told status.Answered words left left_after faults faults_after came closed due are read end short why =
    inr (inl (record { words_are = are; came = came; read = read; at_end = end; short = short; answers = why.0; no_run = why.1 }))
of_steps told status.Refused words left left_after faults faults_after came closed due are read end short why =
    inr (inr (inr (inr (inl (record { words_are = are; came = came; read = read; cause = inl (end, short, why.0); no_run = why.1 })))))
of_steps told status.Ended words left left_after faults faults_after came closed due are read end short why = absurd why
of_steps told status.Budget words left left_after faults faults_after came closed due are read end short why = absurd why
of_steps told status.Stalled words left left_after faults faults_after came closed due are read end short why = absurd why
of_steps told status.Refuted words left left_after faults faults_after came closed due are read end short why = absurd why
of_steps told status.Usage words left left_after faults faults_after came closed due are read end short why = absurd why
of_steps told status.ReadFault words left left_after faults faults_after came closed due are read end short why = absurd why
of_steps told status.NoMemory words left left_after faults faults_after came closed due are read end short why = absurd why
of_steps told status.Holds words left left_after faults faults_after came closed due are read end short why = absurd why
of_steps told status.Fails words left left_after faults faults_after came closed due are read end short why = absurd why
of_steps told status.Steps words left left_after faults faults_after came closed due are read end short why = absurd why
of_steps told status.WriteFault words left left_after faults faults_after came closed due are read end short why = absurd why

pub from_steps : (told : Telling) (words : List (List ℕ)) (left left_after : Option (List ℕ)) (faults faults_after : ℕ) (came : List ℕ) (r : Result Answer NoMemory) → IsSpelled command.File words → Consumes left left_after came → IsAtEnd left_after → length came ≤ 1048576 → IfOk r (λ a. LinesCauses file_text a.status came a.closed a.due) → IfOk r (λ a. Causes told a.status words left left_after faults faults_after a.closed a.due)
from_steps told words left left_after faults faults_after came (Ok a) are read end short why = of_steps told a.status words left left_after faults faults_after came a.closed a.due are read end short why
from_steps told words left left_after faults faults_after came (Err e) are read end short why = why

-- an answer to the lines of a text, and the line that refuses one
pub from_answered : (reads : Reading) (text due : List ℕ) (a : Answer) → reads text ≡ Ok due → a ≡ record { status = status.Answered; due = due; closed = None } → LinesCauses reads a.status text a.closed a.due
from_answered reads text due a is made = subst (λ (b : Answer). LinesCauses reads b.status text b.closed b.due) (sym made) (is, refl)

pub from_bad_line : (reads : Reading) (text : List ℕ) (number : ℕ) (r : Result Answer NoMemory) → reads text ≡ Err number → IfOk r (λ a. a ≡ record { status = status.Refused; due = numbered_line (codes "refused: 15 line ") number; closed = None }) → IfOk r (λ a. LinesCauses reads a.status text a.closed a.due)
from_bad_line reads text number (Ok a) is made = subst (λ (b : Answer). LinesCauses reads b.status text b.closed b.due) (sym made) (record { number = number; bad = is; line_is = refl }, refl)
from_bad_line reads text number (Err e) is made = made

-- what is due for a text of packets is due for the words `frames`, whose source was read to its end
of_packets : (told : Telling) (state : Status) (words : List (List ℕ)) (left left_after : Option (List ℕ)) (faults faults_after : ℕ) (came : List ℕ) (closed : Option Closed) (due : List ℕ) → IsSpelled command.Frames words → Consumes left left_after came → IsAtEnd left_after → length came ≤ 67108864 → PacketsCauses told state came closed due → Causes told state words left left_after faults faults_after closed due
of_packets told status.Answered words left left_after faults faults_after came closed due are read end short why =
    inr (inr (record { words_are = are; came = came; read = read; at_end = end; short = short; tells = why.0; no_run = why.1 }))
of_packets told status.Refused words left left_after faults faults_after came closed due are read end short why =
    inr (inr (inr (inr (inr (record { words_are = are; came = came; read = read; cause = inl (end, short, why.0); no_run = why.1 })))))
of_packets told status.Ended words left left_after faults faults_after came closed due are read end short why = absurd why
of_packets told status.Budget words left left_after faults faults_after came closed due are read end short why = absurd why
of_packets told status.Stalled words left left_after faults faults_after came closed due are read end short why = absurd why
of_packets told status.Refuted words left left_after faults faults_after came closed due are read end short why = absurd why
of_packets told status.Usage words left left_after faults faults_after came closed due are read end short why = absurd why
of_packets told status.ReadFault words left left_after faults faults_after came closed due are read end short why = absurd why
of_packets told status.NoMemory words left left_after faults faults_after came closed due are read end short why = absurd why
of_packets told status.Holds words left left_after faults faults_after came closed due are read end short why = absurd why
of_packets told status.Fails words left left_after faults faults_after came closed due are read end short why = absurd why
of_packets told status.Steps words left left_after faults faults_after came closed due are read end short why = absurd why
of_packets told status.WriteFault words left left_after faults faults_after came closed due are read end short why = absurd why

pub from_packets : (told : Telling) (words : List (List ℕ)) (left left_after : Option (List ℕ)) (faults faults_after : ℕ) (came : List ℕ) (r : Result Answer NoMemory) → IsSpelled command.Frames words → Consumes left left_after came → IsAtEnd left_after → length came ≤ 67108864 → IfOk r (λ a. PacketsCauses told a.status came a.closed a.due) → IfOk r (λ a. Causes told a.status words left left_after faults faults_after a.closed a.due)
from_packets told words left left_after faults faults_after came (Ok a) are read end short why = of_packets told a.status words left left_after faults faults_after came a.closed a.due are read end short why
from_packets told words left left_after faults faults_after came (Err e) are read end short why = why

-- what was told of a text is due for it
told_by : {L : Type 0} (faults asked : L → ℕ → ℕ → ℕ) (before after : L) (text : List ℕ) (answer : FramesAnswer) → Answers faults asked before after text answer → PacketsCauses (AreTold faults asked before after) (told_answer answer).status text (told_answer answer).closed (told_answer answer).due
told_by faults asked before after text (Lines lines) why = (why, refl)
told_by faults asked before after text (Refused line) why = (why, refl)

pub from_told : {L : Type 0} (faults asked : L → ℕ → ℕ → ℕ) (before after : L) (text : List ℕ) (answer : FramesAnswer) (a : Answer) → a ≡ told_answer answer → Answers faults asked before after text answer → PacketsCauses (AreTold faults asked before after) a.status text a.closed a.due
from_told faults asked before after text answer a is why = subst (λ (b : Answer). PacketsCauses (AreTold faults asked before after) b.status text b.closed b.due) (sym is) (told_by faults asked before after text answer why)

-- what a fault of the source leaves due for words that are a command
fault_rose : (old new before now : ℕ) → IsFault old new before now → Rose old new
fault_rose old new before now fault = fault.rose

pub from_fault : (told : Telling) (words : List (List ℕ)) (left left_after : Option (List ℕ)) (faults faults_after before now : ℕ) (r : Result Answer NoMemory) → IsCommand words → IsByCount faults faults_after (read_end.Fault before now) → IfOk r (λ a. a ≡ record { status = status.ReadFault; due = fault_line; closed = None }) → IfOk r (λ a. Causes told a.status words left left_after faults faults_after a.closed a.due)
from_fault told words left left_after faults faults_after before now (Ok a) are fault made =
    subst (λ (b : Answer). Causes told b.status words left left_after faults faults_after b.closed b.due) (sym made) (record { words_are = are; rose = fault_rose faults faults_after before now fault; line = record { no_run = refl; output = refl } })
from_fault told words left left_after faults faults_after before now (Err e) are fault made = made

-- nothing was run, so nothing is told of it
pub none_over : {L : Type 0} (faults asked : L → ℕ → ℕ → ℕ) (before after : L) (r : Result Answer NoMemory) → IfOk r (λ a. a.closed ≡ None) → IfOk r (λ a. RunsOver faults asked before after a.closed)
none_over faults asked before after (Ok a) none = subst (RunsOver faults asked before after) (sym none) (record { run = tt; counted = tt; wire = tt; caused = tt })
none_over faults asked before after (Err e) none = none
