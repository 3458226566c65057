-- Right words over right bytes come to what they ask for.
use Rattle.std.proofs.Common.{arith, ◌≡◌, ◌≢◌, ◌∙◌, ℕ, ◌+◌, ◌<◌, ◌≤◌, Bool, true, false, inl, inr, List, [], ◌∷◌, ◌++◌, length, nat_eq, refl, Option, Some, None, Result, Ok, Err, IfOk, sym, ap, subst}
use Rattle.std.specs.Prelude.{nat_lt, if◌then◌else◌}
use Rattle.std.specs.List.{list_any}
use Rattle.std.specs.Io.KnownBytes.{Consumes, IsAtEnd}
use Rattle.std.proofs.lemmas.List.{append-nil, length-append}
use Rattle.std.proofs.lemmas.Bool.{eq-eqb, lt-ltb}
use Rattle.call_journal.specs.declared.closed.Closed.{Closed}
use Rattle.unix_calls.specs.declared.description.Description.{Description}
use Rattle.cluster_file.specs.declared.Refusal.{Refusal}
use Rattle.cluster_file.specs.Refusals.{refusal}
use Rattle.cluster_file.specs.Clusters.{Describes, Refuses, described_in, document_of}
use Rattle.lend_text.specs.Bodies.{answer_text}
use Rattle.restart_text.specs.FileTexts.{file_text}
use Rattle.history_check.specs.declared.judgement.Judgement.{Judgement}
use Rattle.history_check.specs.Judged.{ComesTo}
use Rattle.sprite_words.specs.declared.Command.{Command}
use Rattle.sprite_words.specs.declared.Command.TheVariants as command
use Rattle.sprite_words.specs.Words.{IsSpelled}
use Rattle.sprite_words.proofs.OneLaws.{form_of, one_form}
use Rattle.sprite_bytes.specs.Counts.{Rose}
use Rattle.sprite_ids.specs.declared.running.Finish.{Finish}
use Rattle.sprite_ids.specs.declared.running.Finish.TheVariants as finish
use Rattle.sprite_ids.specs.declared.no_memory.NoMemory.{NoMemory}
use Rattle.sprite_top.specs.declared.top.Answer.{Answer}
use Rattle.sprite_top.specs.declared.top.Printing.{Printing}
use Rattle.sprite_top.specs.declared.top.Status.{Status}
use Rattle.sprite_top.specs.declared.top.Status.TheVariants as status
use Rattle.trace_audit.specs.declared.audited_text.AuditedText.{AuditedText}
use Rattle.trace_audit.specs.Texts.{TextComesTo}
use Rattle.sprite_top.specs.Judged.{audited_status, judgement_status}
use Rattle.frames_text.specs.Texts.{HoldsPackets, IsTextRefusal}
use Rattle.frames_text.proofs.TextLaws.{held_not_refused}
use Rattle.sprite_top.specs.Top.{Reading, Telling, AreNoPackets, IsAnswered, IsChecked, IsMisread, AreNoLines, AreRefused, AsksFor, AsksForJudging, Causes, Completes, IsCommand, IsEnded, IsOfAnswer, IsOfCheck, IsOfRefusal, IsOfRun, IsOfUsage, IsRefused, IsRefuted, NoFault, printing_of}

-- what came of a source that was read to its end is what it held
came_whole : (left left_after : Option (List ℕ)) (bytes came : List ℕ) → left ≡ Some bytes → Consumes left left_after came → IsAtEnd left_after → came ≡ bytes
came_whole None left_after bytes came is read end = absurd (cc)
came_whole (Some xs) None bytes came is read end = absurd read
came_whole (Some xs) (Some ys) bytes came is read end =
    (let all : xs ≡ came ++ [] = subst (λ (zs : List ℕ). xs ≡ came ++ zs) end read in
    let same : xs ≡ bytes = cc in
    sym (append-nil came) ∙ (sym all ∙ same))

-- and what came of it is no longer
came_short : (left left_after : Option (List ℕ)) (bytes came : List ℕ) → left ≡ Some bytes → Consumes left left_after came → length came ≤ length bytes
came_short None left_after bytes came is read = absurd (cc)
came_short (Some xs) None bytes came is read = absurd read
came_short (Some xs) (Some ys) bytes came is read =
    (let same : xs ≡ bytes = cc in
    let sum : length bytes ≡ length came + length ys = ap length (sym same ∙ read) ∙ length-append came ys in
    omega arith)

-- bytes that describe a cluster have no refusal, and aren't too many
not_both : (bytes : List ℕ) (c : Description) (r : Refusal) → Describes bytes c → Refuses bytes r → ⊥
not_both bytes c r describes refuses = absurd (cc)

not_long : (bytes : List ℕ) (c : Description) → Describes bytes c → 1048576 < length bytes → ⊥
not_long bytes c describes long = by_test (nat_lt 1048576 (length bytes)) (lt-ltb 1048576 (length bytes) long) describes
  where
    by_test : (test : Bool) → test ≡ true → (if test then Err (refusal 1 []) else described_in (document_of bytes)) ≡ Ok c → ⊥
    by_test true is made = absurd (cc)
    by_test false is made = absurd (cc)

-- commands are told apart by the forms of their words
apart : (a b : Command) (words : List (List ℕ)) → nat_eq (form_of a) (form_of b) ≡ false → IsSpelled a words → IsSpelled b words → ⊥
apart a b words differ is that =
    (let same : nat_eq (form_of a) (form_of a) ≡ false = subst (λ (form : ℕ). nat_eq (form_of a) form ≡ false) (sym (one_form a b words is that)) differ in
    let both : true ≡ false = sym (eq-eqb (form_of a) (form_of a) refl) ∙ same in
    absurd (cc (both)))

-- whether a command of that form runs the cluster of a file
runs : ℕ → Bool
runs form = list_any (nat_eq form) (form_of command.Run ∷ form_of (command.RunSeed 0) ∷ form_of command.RunStats ∷ form_of command.History ∷ form_of command.Trace ∷ [])

runs_if : (one : Command) (print : Printing) → printing_of one ≡ Some print → runs (form_of one) ≡ true
unfolding runs
runs_if command.Run print prints = refl
runs_if (command.RunSeed seed) print prints = refl
runs_if command.RunStats print prints = refl
runs_if command.History print prints = refl
runs_if (command.Load count) print prints = absurd (cc (prints))
runs_if command.Check print prints = absurd (cc (prints))
runs_if command.Audit print prints = absurd (cc (prints))
runs_if command.Trace print prints = refl
runs_if command.Frames print prints = absurd (cc (prints))
runs_if command.File print prints = absurd (cc (prints))
runs_if command.Lend print prints = absurd (cc (prints))

no_run : (print : Printing) (one : Command) (words : List (List ℕ)) → runs (form_of one) ≡ false → AsksFor print words → IsSpelled one words → ⊥
no_run print one words none asks are =
    (let form : form_of asks.command ≡ form_of one = one_form asks.command one words asks.is_spelled are in
    let both : true ≡ false = sym (runs_if asks.command print asks.prints) ∙ (ap runs form ∙ none) in
    absurd (cc (both)))

load_runs_none : (count : ℕ) → runs (form_of (command.Load count)) ≡ false
unfolding runs
load_runs_none count = refl

check_runs_none : runs (form_of command.Check) ≡ false
unfolding runs
check_runs_none = refl

audit_runs_none : runs (form_of command.Audit) ≡ false
unfolding runs
audit_runs_none = refl

frames_runs_none : runs (form_of command.Frames) ≡ false
unfolding runs
frames_runs_none = refl

file_runs_none : runs (form_of command.File) ≡ false
unfolding runs
file_runs_none = refl

lend_runs_none : runs (form_of command.Lend) ≡ false
unfolding runs
lend_runs_none = refl

-- an answer isn't that of another command
run_no_answer : (told : Telling) (print : Printing) (words : List (List ℕ)) (left left_after : Option (List ℕ)) (closed : Option Closed) (due : List ℕ) → AsksFor print words → IsAnswered told words left left_after closed due → ⊥
run_no_answer told print words left left_after closed due asks (inl lent) = no_run print command.Lend words lend_runs_none asks lent.words_are
run_no_answer told print words left left_after closed due asks (inr (inl played)) = no_run print command.File words file_runs_none asks played.words_are
run_no_answer told print words left left_after closed due asks (inr (inr framed)) = no_run print command.Frames words frames_runs_none asks framed.words_are

load_no_answer : (told : Telling) (count : ℕ) (words : List (List ℕ)) (left left_after : Option (List ℕ)) (closed : Option Closed) (due : List ℕ) → IsSpelled (command.Load count) words → IsAnswered told words left left_after closed due → ⊥
load_no_answer told count words left left_after closed due load (inl lent) = apart (command.Load count) command.Lend words refl load lent.words_are
load_no_answer told count words left left_after closed due load (inr (inl played)) = apart (command.Load count) command.File words refl load played.words_are
load_no_answer told count words left left_after closed due load (inr (inr framed)) = apart (command.Load count) command.Frames words refl load framed.words_are

-- nor that of a command that answers nothing
no_answer : (told : Telling) (one : Command) (words : List (List ℕ)) (left left_after : Option (List ℕ)) (closed : Option Closed) (due : List ℕ) → nat_eq (form_of one) (form_of command.Lend) ≡ false → nat_eq (form_of one) (form_of command.File) ≡ false → nat_eq (form_of one) (form_of command.Frames) ≡ false → IsSpelled one words → IsAnswered told words left left_after closed due → ⊥
no_answer told one words left left_after closed due lend file frames are (inl lent) = apart one command.Lend words lend are lent.words_are
no_answer told one words left left_after closed due lend file frames are (inr (inl played)) = apart one command.File words file are played.words_are
no_answer told one words left left_after closed due lend file frames are (inr (inr framed)) = apart one command.Frames words frames are framed.words_are

-- words that ask for a text to be judged ask for nothing else
judging_asks : (state : Status) (words : List (List ℕ)) (left left_after : Option (List ℕ)) (closed : Option Closed) (due : List ℕ) → IsChecked state words left left_after closed due → AsksForJudging words
judging_asks state words left left_after closed due (inl checked) = inl checked.words_are
judging_asks state words left left_after closed due (inr audited) = inr audited.words_are

no_judging : (one : Command) (words : List (List ℕ)) → nat_eq (form_of command.Check) (form_of one) ≡ false → nat_eq (form_of command.Audit) (form_of one) ≡ false → IsSpelled one words → AsksForJudging words → ⊥
no_judging one words check audit are (inl checked) = apart command.Check one words check checked are
no_judging one words check audit are (inr audited) = apart command.Audit one words audit audited are

no_run_judging : (print : Printing) (words : List (List ℕ)) → AsksFor print words → AsksForJudging words → ⊥
no_run_judging print words asks (inl checked) = no_run print command.Check words check_runs_none asks checked
no_run_judging print words asks (inr audited) = no_run print command.Audit words audit_runs_none asks audited

judging_is_command : (words : List (List ℕ)) → AsksForJudging words → IsCommand words
judging_is_command words (inl checked) = (command.Check, checked)
judging_is_command words (inr audited) = (command.Audit, audited)

answered_twice : (reads : Reading) (bytes lines : List ℕ) (number : ℕ) → reads bytes ≡ Ok lines → reads bytes ≡ Err number → ⊥
answered_twice reads bytes lines number answers bad = absurd (cc)

-- what is refused isn't what asks for a run of a cluster that is described
run_not_refused : (print : Printing) (words : List (List ℕ)) (left left_after : Option (List ℕ)) (closed : Option Closed) (due bytes : List ℕ) (c : Description) → AsksFor print words → left ≡ Some bytes → Describes bytes c → IsRefused words left left_after closed due → ⊥
run_not_refused print words left left_after closed due bytes c asks is describes (inl run) = by_cause run.cause
  where
    by_cause : AreRefused left_after run.came due → ⊥
    by_cause (inl whole) = not_both bytes c whole.2.refusal describes (subst (λ (bs : List ℕ). Refuses bs whole.2.refusal) (came_whole left left_after bytes run.came is run.read whole.0) whole.2.refuses)
    by_cause (inr long) = (let short = came_short left left_after bytes run.came is run.read in let more = long.0 in not_long bytes c describes (omega arith))
run_not_refused print words left left_after closed due bytes c asks is describes (inr (inl checked)) = no_run_judging print words asks (judging_asks status.Refused words left left_after closed due checked)
run_not_refused print words left left_after closed due bytes c asks is describes (inr (inr (inl long))) = no_run_judging print words asks long.words_are
run_not_refused print words left left_after closed due bytes c asks is describes (inr (inr (inr (inl lent)))) = no_run print command.Lend words lend_runs_none asks lent.words_are
run_not_refused print words left left_after closed due bytes c asks is describes (inr (inr (inr (inr (inl played))))) = no_run print command.File words file_runs_none asks played.words_are
run_not_refused print words left left_after closed due bytes c asks is describes (inr (inr (inr (inr (inr framed))))) = no_run print command.Frames words frames_runs_none asks framed.words_are

-- what a run of a cluster file comes to
runs_so : (told : Telling) (state : Status) (words : List (List ℕ)) (left left_after : Option (List ℕ)) (faults faults_after : ℕ) (closed : Option Closed) (due : List ℕ) → Causes told state words left left_after faults faults_after closed due → (print : Printing) (bytes : List ℕ) (c : Description) → AsksFor print words → left ≡ Some bytes → Describes bytes c → NoFault faults faults_after → IsOfRun state
runs_so told status.Ended words left left_after faults faults_after closed due why print bytes c asks is describes calm = tt
runs_so told status.Budget words left left_after faults faults_after closed due why print bytes c asks is describes calm = tt
runs_so told status.Stalled words left left_after faults faults_after closed due why print bytes c asks is describes calm = tt
runs_so told status.Refuted words left left_after faults faults_after closed due why print bytes c asks is describes calm = tt
runs_so told status.Holds words left left_after faults faults_after closed due why print bytes c asks is describes calm = absurd (no_run_judging print words asks (judging_asks status.Holds words left left_after closed due why))
runs_so told status.Fails words left left_after faults faults_after closed due why print bytes c asks is describes calm = absurd (no_run_judging print words asks (judging_asks status.Fails words left left_after closed due why))
runs_so told status.Steps words left left_after faults faults_after closed due why print bytes c asks is describes calm = absurd (no_run_judging print words asks (judging_asks status.Steps words left left_after closed due why))
runs_so told status.Answered words left left_after faults faults_after closed due why print bytes c asks is describes calm = absurd (run_no_answer told print words left left_after closed due asks why)
runs_so told status.Refused words left left_after faults faults_after closed due why print bytes c asks is describes calm = absurd (run_not_refused print words left left_after closed due bytes c asks is describes why)
runs_so told status.Usage words left left_after faults faults_after closed due why print bytes c asks is describes calm = absurd (why.no_command (asks.command, asks.is_spelled))
runs_so told status.ReadFault words left left_after faults faults_after closed due why print bytes c asks is describes calm = absurd (calm why.rose)
runs_so told status.NoMemory words left left_after faults faults_after closed due why print bytes c asks is describes calm = absurd why
runs_so told status.WriteFault words left left_after faults faults_after closed due why print bytes c asks is describes calm = absurd why

-- what a load comes to
load_not_refused : (count : ℕ) (words : List (List ℕ)) (left left_after : Option (List ℕ)) (closed : Option Closed) (due : List ℕ) → IsSpelled (command.Load count) words → IsRefused words left left_after closed due → ⊥
load_not_refused count words left left_after closed due load (inl run) = no_run run.print (command.Load count) words (load_runs_none count) run.asks load
load_not_refused count words left left_after closed due load (inr (inl checked)) = no_judging (command.Load count) words refl refl load (judging_asks status.Refused words left left_after closed due checked)
load_not_refused count words left left_after closed due load (inr (inr (inl long))) = no_judging (command.Load count) words refl refl load long.words_are
load_not_refused count words left left_after closed due load (inr (inr (inr (inl lent)))) = apart (command.Load count) command.Lend words refl load lent.words_are
load_not_refused count words left left_after closed due load (inr (inr (inr (inr (inl played))))) = apart (command.Load count) command.File words refl load played.words_are
load_not_refused count words left left_after closed due load (inr (inr (inr (inr (inr framed))))) = apart (command.Load count) command.Frames words refl load framed.words_are

loads_so : (told : Telling) (state : Status) (words : List (List ℕ)) (left left_after : Option (List ℕ)) (faults faults_after : ℕ) (closed : Option Closed) (due : List ℕ) → Causes told state words left left_after faults faults_after closed due → (count : ℕ) → IsSpelled (command.Load count) words → NoFault faults faults_after → IsOfRun state
loads_so told status.Ended words left left_after faults faults_after closed due why count load calm = tt
loads_so told status.Budget words left left_after faults faults_after closed due why count load calm = tt
loads_so told status.Stalled words left left_after faults faults_after closed due why count load calm = tt
loads_so told status.Refuted words left left_after faults faults_after closed due why count load calm = tt
loads_so told status.Holds words left left_after faults faults_after closed due why count load calm = absurd (no_judging (command.Load count) words refl refl load (judging_asks status.Holds words left left_after closed due why))
loads_so told status.Fails words left left_after faults faults_after closed due why count load calm = absurd (no_judging (command.Load count) words refl refl load (judging_asks status.Fails words left left_after closed due why))
loads_so told status.Steps words left left_after faults faults_after closed due why count load calm = absurd (no_judging (command.Load count) words refl refl load (judging_asks status.Steps words left left_after closed due why))
loads_so told status.Answered words left left_after faults faults_after closed due why count load calm = absurd (load_no_answer told count words left left_after closed due load why)
loads_so told status.Refused words left left_after faults faults_after closed due why count load calm = absurd (load_not_refused count words left left_after closed due load why)
loads_so told status.Usage words left left_after faults faults_after closed due why count load calm = absurd (why.no_command (command.Load count, load))
loads_so told status.ReadFault words left left_after faults faults_after closed due why count load calm = absurd (calm why.rose)
loads_so told status.NoMemory words left left_after faults faults_after closed due why count load calm = absurd why
loads_so told status.WriteFault words left left_after faults faults_after closed due why count load calm = absurd why

-- a run that was made isn't that of a command that runs nothing
ended_not : (end : Finish) (one : Command) (words : List (List ℕ)) (left left_after : Option (List ℕ)) (closed : Option Closed) (due : List ℕ) → runs (form_of one) ≡ false → nat_eq (form_of (command.Load 0)) (form_of one) ≡ false → IsSpelled one words → IsEnded end words left left_after closed due → ⊥
ended_not end one words left left_after closed due none differ are (inl file) = no_run file.print one words none file.asks are
ended_not end one words left left_after closed due none differ are (inr load) = apart (command.Load load.count) one words differ load.asks are

refuted_not : (one : Command) (words : List (List ℕ)) (left left_after : Option (List ℕ)) (closed : Option Closed) (due : List ℕ) → runs (form_of one) ≡ false → nat_eq (form_of (command.Load 0)) (form_of one) ≡ false → IsSpelled one words → IsRefuted words left left_after closed due → ⊥
refuted_not one words left left_after closed due none differ are (inl file) = no_run file.print one words none file.asks are
refuted_not one words left left_after closed due none differ are (inr load) = apart (command.Load load.count) one words differ load.asks are

-- what the check of a history comes to that isn't refused, and the audit of a trace
check_not_refused : (words : List (List ℕ)) (left left_after : Option (List ℕ)) (closed : Option Closed) (due bytes : List ℕ) → IsSpelled command.Check words → left ≡ Some bytes → length bytes ≤ 67108864 → ((j : Judgement) → ComesTo bytes j → judgement_status j ≢ status.Refused) → IsRefused words left left_after closed due → ⊥
check_not_refused words left left_after closed due bytes check is short formed (inl run) = no_run run.print command.Check words check_runs_none run.asks check
check_not_refused words left left_after closed due bytes check is short formed (inr (inl (inl checked))) =
    formed checked.text.judgement (subst (λ (bs : List ℕ). ComesTo bs checked.text.judgement) (came_whole left left_after bytes checked.came is checked.read checked.at_end) checked.text.comes_to) (sym checked.text.state_is)
check_not_refused words left left_after closed due bytes check is short formed (inr (inl (inr audited))) = apart command.Check command.Audit words refl check audited.words_are
check_not_refused words left left_after closed due bytes check is short formed (inr (inr (inl long))) = (let some = came_short left left_after bytes long.came is long.read in let more = long.long in absurd (omega arith))
check_not_refused words left left_after closed due bytes check is short formed (inr (inr (inr (inl lent)))) = apart command.Check command.Lend words refl check lent.words_are
check_not_refused words left left_after closed due bytes check is short formed (inr (inr (inr (inr (inl played))))) = apart command.Check command.File words refl check played.words_are
check_not_refused words left left_after closed due bytes check is short formed (inr (inr (inr (inr (inr framed))))) = apart command.Check command.Frames words refl check framed.words_are

audit_not_refused : (words : List (List ℕ)) (left left_after : Option (List ℕ)) (closed : Option Closed) (due bytes : List ℕ) → IsSpelled command.Audit words → left ≡ Some bytes → length bytes ≤ 67108864 → ((a : AuditedText) → TextComesTo bytes a → audited_status a ≢ status.Refused) → IsRefused words left left_after closed due → ⊥
audit_not_refused words left left_after closed due bytes audit is short formed (inl run) = no_run run.print command.Audit words audit_runs_none run.asks audit
audit_not_refused words left left_after closed due bytes audit is short formed (inr (inl (inl checked))) = apart command.Check command.Audit words refl checked.words_are audit
audit_not_refused words left left_after closed due bytes audit is short formed (inr (inl (inr audited))) =
    formed audited.text.audited (subst (λ (bs : List ℕ). TextComesTo bs audited.text.audited) (came_whole left left_after bytes audited.came is audited.read audited.at_end) audited.text.comes_to) (sym audited.text.state_is)
audit_not_refused words left left_after closed due bytes audit is short formed (inr (inr (inl long))) = (let some = came_short left left_after bytes long.came is long.read in let more = long.long in absurd (omega arith))
audit_not_refused words left left_after closed due bytes audit is short formed (inr (inr (inr (inl lent)))) = apart command.Audit command.Lend words refl audit lent.words_are
audit_not_refused words left left_after closed due bytes audit is short formed (inr (inr (inr (inr (inl played))))) = apart command.Audit command.File words refl audit played.words_are
audit_not_refused words left left_after closed due bytes audit is short formed (inr (inr (inr (inr (inr framed))))) = apart command.Audit command.Frames words refl audit framed.words_are

-- what a command that judges a text comes to, where it isn't refused
judges_so : (told : Telling) (state : Status) (one : Command) (words : List (List ℕ)) (left left_after : Option (List ℕ)) (faults faults_after : ℕ) (closed : Option Closed) (due : List ℕ) → Causes told state words left left_after faults faults_after closed due → runs (form_of one) ≡ false → nat_eq (form_of (command.Load 0)) (form_of one) ≡ false → (IsAnswered told words left left_after closed due → ⊥) → IsSpelled one words → (IsRefused words left left_after closed due → ⊥) → NoFault faults faults_after → IsOfCheck state
judges_so told status.Ended one words left left_after faults faults_after closed due why none load other are sound calm = absurd (ended_not finish.AllEnded one words left left_after closed due none load are why)
judges_so told status.Budget one words left left_after faults faults_after closed due why none load other are sound calm = absurd (ended_not finish.Budget one words left left_after closed due none load are why)
judges_so told status.Stalled one words left left_after faults faults_after closed due why none load other are sound calm = absurd (ended_not finish.Stalled one words left left_after closed due none load are why)
judges_so told status.Refuted one words left left_after faults faults_after closed due why none load other are sound calm = absurd (refuted_not one words left left_after closed due none load are why)
judges_so told status.Holds one words left left_after faults faults_after closed due why none load other are sound calm = tt
judges_so told status.Fails one words left left_after faults faults_after closed due why none load other are sound calm = tt
judges_so told status.Steps one words left left_after faults faults_after closed due why none load other are sound calm = tt
judges_so told status.Answered one words left left_after faults faults_after closed due why none load other are sound calm = absurd (other why)
judges_so told status.Refused one words left left_after faults faults_after closed due why none load other are sound calm = absurd (sound why)
judges_so told status.Usage one words left left_after faults faults_after closed due why none load other are sound calm = absurd (why.no_command (one, are))
judges_so told status.ReadFault one words left left_after faults faults_after closed due why none load other are sound calm = absurd (calm why.rose)
judges_so told status.NoMemory one words left left_after faults faults_after closed due why none load other are sound calm = absurd why
judges_so told status.WriteFault one words left left_after faults faults_after closed due why none load other are sound calm = absurd why

-- a text whose lines are of their form isn't refused for one that isn't
read_not_refused : (one : Command) (reads : Reading) (words : List (List ℕ)) (left left_after : Option (List ℕ)) (closed : Option Closed) (due bytes lines : List ℕ) → left ≡ Some bytes → length bytes ≤ 1048576 → reads bytes ≡ Ok lines → IsMisread one reads words left left_after closed due → ⊥
read_not_refused one reads words left left_after closed due bytes lines is short answers misread = by_cause misread.cause
  where
    by_cause : AreNoLines reads left_after misread.came due → ⊥
    by_cause (inl whole) = answered_twice reads bytes lines whole.2.number answers (subst (λ (bs : List ℕ). reads bs ≡ Err whole.2.number) (came_whole left left_after bytes misread.came is misread.read whole.0) whole.2.bad)
    by_cause (inr long) = (let some = came_short left left_after bytes misread.came is misread.read in let more = long.0 in absurd (omega arith))

-- an answer to a text of events isn't refused, nor one to steps of a file
lend_not_refused : (words : List (List ℕ)) (left left_after : Option (List ℕ)) (closed : Option Closed) (due bytes lines : List ℕ) → IsSpelled command.Lend words → left ≡ Some bytes → length bytes ≤ 1048576 → answer_text bytes ≡ Ok lines → IsRefused words left left_after closed due → ⊥
lend_not_refused words left left_after closed due bytes lines lend is short answers (inl run) = no_run run.print command.Lend words lend_runs_none run.asks lend
lend_not_refused words left left_after closed due bytes lines lend is short answers (inr (inl checked)) = no_judging command.Lend words refl refl lend (judging_asks status.Refused words left left_after closed due checked)
lend_not_refused words left left_after closed due bytes lines lend is short answers (inr (inr (inl long))) = no_judging command.Lend words refl refl lend long.words_are
lend_not_refused words left left_after closed due bytes lines lend is short answers (inr (inr (inr (inl lent)))) = read_not_refused command.Lend answer_text words left left_after closed due bytes lines is short answers lent
lend_not_refused words left left_after closed due bytes lines lend is short answers (inr (inr (inr (inr (inl played))))) = apart command.Lend command.File words refl lend played.words_are
lend_not_refused words left left_after closed due bytes lines lend is short answers (inr (inr (inr (inr (inr framed))))) = apart command.Lend command.Frames words refl lend framed.words_are

file_not_refused : (words : List (List ℕ)) (left left_after : Option (List ℕ)) (closed : Option Closed) (due bytes lines : List ℕ) → IsSpelled command.File words → left ≡ Some bytes → length bytes ≤ 1048576 → file_text bytes ≡ Ok lines → IsRefused words left left_after closed due → ⊥
file_not_refused words left left_after closed due bytes lines file is short answers (inl run) = no_run run.print command.File words file_runs_none run.asks file
file_not_refused words left left_after closed due bytes lines file is short answers (inr (inl checked)) = no_judging command.File words refl refl file (judging_asks status.Refused words left left_after closed due checked)
file_not_refused words left left_after closed due bytes lines file is short answers (inr (inr (inl long))) = no_judging command.File words refl refl file long.words_are
file_not_refused words left left_after closed due bytes lines file is short answers (inr (inr (inr (inl lent)))) = apart command.Lend command.File words refl lent.words_are file
file_not_refused words left left_after closed due bytes lines file is short answers (inr (inr (inr (inr (inl played))))) = read_not_refused command.File file_text words left left_after closed due bytes lines is short answers played
file_not_refused words left left_after closed due bytes lines file is short answers (inr (inr (inr (inr (inr framed))))) = apart command.File command.Frames words refl file framed.words_are

-- what is told of a text of packets
frames_not_refused : (words : List (List ℕ)) (left left_after : Option (List ℕ)) (closed : Option Closed) (due bytes : List ℕ) → IsSpelled command.Frames words → left ≡ Some bytes → length bytes ≤ 67108864 → HoldsPackets bytes → IsRefused words left left_after closed due → ⊥
frames_not_refused words left left_after closed due bytes frames is short holds (inl run) = no_run run.print command.Frames words frames_runs_none run.asks frames
frames_not_refused words left left_after closed due bytes frames is short holds (inr (inl checked)) = no_judging command.Frames words refl refl frames (judging_asks status.Refused words left left_after closed due checked)
frames_not_refused words left left_after closed due bytes frames is short holds (inr (inr (inl long))) = no_judging command.Frames words refl refl frames long.words_are
frames_not_refused words left left_after closed due bytes frames is short holds (inr (inr (inr (inl lent)))) = apart command.Lend command.Frames words refl lent.words_are frames
frames_not_refused words left left_after closed due bytes frames is short holds (inr (inr (inr (inr (inl played))))) = apart command.File command.Frames words refl played.words_are frames
frames_not_refused words left left_after closed due bytes frames is short holds (inr (inr (inr (inr (inr framed))))) = by_cause framed.cause
  where
    by_cause : AreNoPackets left_after framed.came due → ⊥
    by_cause (inl whole) = held_not_refused bytes due holds (subst (λ (bs : List ℕ). IsTextRefusal bs due) (came_whole left left_after bytes framed.came is framed.read whole.0) whole.2)
    by_cause (inr long) = (let some = came_short left left_after bytes framed.came is framed.read in let more = long.0 in absurd (omega arith))

-- what a command that runs nothing and judges nothing comes to, where it isn't refused
answers_so : (told : Telling) (state : Status) (one : Command) (words : List (List ℕ)) (left left_after : Option (List ℕ)) (faults faults_after : ℕ) (closed : Option Closed) (due : List ℕ) → Causes told state words left left_after faults faults_after closed due → runs (form_of one) ≡ false → nat_eq (form_of (command.Load 0)) (form_of one) ≡ false → nat_eq (form_of command.Check) (form_of one) ≡ false → nat_eq (form_of command.Audit) (form_of one) ≡ false → IsSpelled one words → (IsRefused words left left_after closed due → ⊥) → NoFault faults faults_after → IsOfAnswer state
answers_so told status.Ended one words left left_after faults faults_after closed due why none load check audit are sound calm = absurd (ended_not finish.AllEnded one words left left_after closed due none load are why)
answers_so told status.Budget one words left left_after faults faults_after closed due why none load check audit are sound calm = absurd (ended_not finish.Budget one words left left_after closed due none load are why)
answers_so told status.Stalled one words left left_after faults faults_after closed due why none load check audit are sound calm = absurd (ended_not finish.Stalled one words left left_after closed due none load are why)
answers_so told status.Refuted one words left left_after faults faults_after closed due why none load check audit are sound calm = absurd (refuted_not one words left left_after closed due none load are why)
answers_so told status.Holds one words left left_after faults faults_after closed due why none load check audit are sound calm = absurd (no_judging one words check audit are (judging_asks status.Holds words left left_after closed due why))
answers_so told status.Fails one words left left_after faults faults_after closed due why none load check audit are sound calm = absurd (no_judging one words check audit are (judging_asks status.Fails words left left_after closed due why))
answers_so told status.Steps one words left left_after faults faults_after closed due why none load check audit are sound calm = absurd (no_judging one words check audit are (judging_asks status.Steps words left left_after closed due why))
answers_so told status.Answered one words left left_after faults faults_after closed due why none load check audit are sound calm = tt
answers_so told status.Refused one words left left_after faults faults_after closed due why none load check audit are sound calm = absurd (sound why)
answers_so told status.Usage one words left left_after faults faults_after closed due why none load check audit are sound calm = absurd (why.no_command (one, are))
answers_so told status.ReadFault one words left left_after faults faults_after closed due why none load check audit are sound calm = absurd (calm why.rose)
answers_so told status.NoMemory one words left left_after faults faults_after closed due why none load check audit are sound calm = absurd why
answers_so told status.WriteFault one words left left_after faults faults_after closed due why none load check audit are sound calm = absurd why

-- what a cluster file that has a refusal comes to
refused_not_ended : (end : Finish) (print : Printing) (words : List (List ℕ)) (left left_after : Option (List ℕ)) (closed : Option Closed) (due bytes : List ℕ) (r : Refusal) → AsksFor print words → left ≡ Some bytes → Refuses bytes r → IsEnded end words left left_after closed due → ⊥
refused_not_ended end print words left left_after closed due bytes r asks is refuses (inl file) =
    not_both bytes file.run_of.cluster r (subst (λ (bs : List ℕ). Describes bs file.run_of.cluster) (came_whole left left_after bytes file.came is file.read file.at_end) file.run_of.describes) refuses
refused_not_ended end print words left left_after closed due bytes r asks is refuses (inr load) = no_run print (command.Load load.count) words (load_runs_none load.count) asks load.asks

refused_not_refuted : (print : Printing) (words : List (List ℕ)) (left left_after : Option (List ℕ)) (closed : Option Closed) (due bytes : List ℕ) (r : Refusal) → AsksFor print words → left ≡ Some bytes → Refuses bytes r → IsRefuted words left left_after closed due → ⊥
refused_not_refuted print words left left_after closed due bytes r asks is refuses (inl file) =
    not_both bytes file.run_of.cluster r (subst (λ (bs : List ℕ). Describes bs file.run_of.cluster) (came_whole left left_after bytes file.came is file.read file.at_end) file.run_of.describes) refuses
refused_not_refuted print words left left_after closed due bytes r asks is refuses (inr load) = no_run print (command.Load load.count) words (load_runs_none load.count) asks load.asks

refuses_so : (told : Telling) (state : Status) (words : List (List ℕ)) (left left_after : Option (List ℕ)) (faults faults_after : ℕ) (closed : Option Closed) (due : List ℕ) → Causes told state words left left_after faults faults_after closed due → (print : Printing) (bytes : List ℕ) (r : Refusal) → AsksFor print words → left ≡ Some bytes → Refuses bytes r → NoFault faults faults_after → IsOfRefusal state
refuses_so told status.Ended words left left_after faults faults_after closed due why print bytes r asks is refuses calm = absurd (refused_not_ended finish.AllEnded print words left left_after closed due bytes r asks is refuses why)
refuses_so told status.Budget words left left_after faults faults_after closed due why print bytes r asks is refuses calm = absurd (refused_not_ended finish.Budget print words left left_after closed due bytes r asks is refuses why)
refuses_so told status.Stalled words left left_after faults faults_after closed due why print bytes r asks is refuses calm = absurd (refused_not_ended finish.Stalled print words left left_after closed due bytes r asks is refuses why)
refuses_so told status.Refuted words left left_after faults faults_after closed due why print bytes r asks is refuses calm = absurd (refused_not_refuted print words left left_after closed due bytes r asks is refuses why)
refuses_so told status.Holds words left left_after faults faults_after closed due why print bytes r asks is refuses calm = absurd (no_run_judging print words asks (judging_asks status.Holds words left left_after closed due why))
refuses_so told status.Fails words left left_after faults faults_after closed due why print bytes r asks is refuses calm = absurd (no_run_judging print words asks (judging_asks status.Fails words left left_after closed due why))
refuses_so told status.Steps words left left_after faults faults_after closed due why print bytes r asks is refuses calm = absurd (no_run_judging print words asks (judging_asks status.Steps words left left_after closed due why))
refuses_so told status.Answered words left left_after faults faults_after closed due why print bytes r asks is refuses calm = absurd (run_no_answer told print words left left_after closed due asks why)
refuses_so told status.Refused words left left_after faults faults_after closed due why print bytes r asks is refuses calm = tt
refuses_so told status.Usage words left left_after faults faults_after closed due why print bytes r asks is refuses calm = absurd (why.no_command (asks.command, asks.is_spelled))
refuses_so told status.ReadFault words left left_after faults faults_after closed due why print bytes r asks is refuses calm = absurd (calm why.rose)
refuses_so told status.NoMemory words left left_after faults faults_after closed due why print bytes r asks is refuses calm = absurd why
refuses_so told status.WriteFault words left left_after faults faults_after closed due why print bytes r asks is refuses calm = absurd why

-- what words come to that are no command
ended_asks : (end : Finish) (words : List (List ℕ)) (left left_after : Option (List ℕ)) (closed : Option Closed) (due : List ℕ) → IsEnded end words left left_after closed due → IsCommand words
ended_asks end words left left_after closed due (inl file) = (file.asks.command, file.asks.is_spelled)
ended_asks end words left left_after closed due (inr load) = (command.Load load.count, load.asks)

refuted_asks : (words : List (List ℕ)) (left left_after : Option (List ℕ)) (closed : Option Closed) (due : List ℕ) → IsRefuted words left left_after closed due → IsCommand words
refuted_asks words left left_after closed due (inl file) = (file.asks.command, file.asks.is_spelled)
refuted_asks words left left_after closed due (inr load) = (command.Load load.count, load.asks)

answer_asks : (told : Telling) (words : List (List ℕ)) (left left_after : Option (List ℕ)) (closed : Option Closed) (due : List ℕ) → IsAnswered told words left left_after closed due → IsCommand words
answer_asks told words left left_after closed due (inl lent) = (command.Lend, lent.words_are)
answer_asks told words left left_after closed due (inr (inl played)) = (command.File, played.words_are)
answer_asks told words left left_after closed due (inr (inr framed)) = (command.Frames, framed.words_are)

refused_asks : (words : List (List ℕ)) (left left_after : Option (List ℕ)) (closed : Option Closed) (due : List ℕ) → IsRefused words left left_after closed due → IsCommand words
refused_asks words left left_after closed due (inl run) = (run.asks.command, run.asks.is_spelled)
refused_asks words left left_after closed due (inr (inl checked)) = judging_is_command words (judging_asks status.Refused words left left_after closed due checked)
refused_asks words left left_after closed due (inr (inr (inl long))) = judging_is_command words long.words_are
refused_asks words left left_after closed due (inr (inr (inr (inl lent)))) = (command.Lend, lent.words_are)
refused_asks words left left_after closed due (inr (inr (inr (inr (inl played))))) = (command.File, played.words_are)
refused_asks words left left_after closed due (inr (inr (inr (inr (inr framed))))) = (command.Frames, framed.words_are)

usage_so : (told : Telling) (state : Status) (words : List (List ℕ)) (left left_after : Option (List ℕ)) (faults faults_after : ℕ) (closed : Option Closed) (due : List ℕ) → Causes told state words left left_after faults faults_after closed due → (IsCommand words → ⊥) → IsOfUsage state
usage_so told status.Ended words left left_after faults faults_after closed due why none = absurd (none (ended_asks finish.AllEnded words left left_after closed due why))
usage_so told status.Budget words left left_after faults faults_after closed due why none = absurd (none (ended_asks finish.Budget words left left_after closed due why))
usage_so told status.Stalled words left left_after faults faults_after closed due why none = absurd (none (ended_asks finish.Stalled words left left_after closed due why))
usage_so told status.Refuted words left left_after faults faults_after closed due why none = absurd (none (refuted_asks words left left_after closed due why))
usage_so told status.Holds words left left_after faults faults_after closed due why none = absurd (none (judging_is_command words (judging_asks status.Holds words left left_after closed due why)))
usage_so told status.Fails words left left_after faults faults_after closed due why none = absurd (none (judging_is_command words (judging_asks status.Fails words left left_after closed due why)))
usage_so told status.Steps words left left_after faults faults_after closed due why none = absurd (none (judging_is_command words (judging_asks status.Steps words left left_after closed due why)))
usage_so told status.Answered words left left_after faults faults_after closed due why none = absurd (none (answer_asks told words left left_after closed due why))
usage_so told status.Refused words left left_after faults faults_after closed due why none = absurd (none (refused_asks words left left_after closed due why))
usage_so told status.Usage words left left_after faults faults_after closed due why none = tt
usage_so told status.ReadFault words left left_after faults faults_after closed due why none = absurd (none why.words_are)
usage_so told status.NoMemory words left left_after faults faults_after closed due why none = absurd why
usage_so told status.WriteFault words left left_after faults faults_after closed due why none = absurd why

-- what has a cause, or broke off as the sink failed, or for want of memory, completes what was asked
caused_completes : (told : Telling) (sunk sunk_after : ℕ) (state : Status) (words : List (List ℕ)) (left left_after : Option (List ℕ)) (faults faults_after : ℕ) (closed : Option Closed) (due : List ℕ) → Causes told state words left left_after faults faults_after closed due → Completes state words left faults faults_after sunk sunk_after
caused_completes told sunk sunk_after state words left left_after faults faults_after closed due why = record {
  runs = λ print bytes c asks is describes calm sound. runs_so told state words left left_after faults faults_after closed due why print bytes c asks is describes calm;
  loads = λ count load calm sound. loads_so told state words left left_after faults faults_after closed due why count load calm;
  checks = λ bytes check is short formed calm sound. judges_so told state command.Check words left left_after faults faults_after closed due why check_runs_none refl (no_answer told command.Check words left left_after closed due refl refl refl check) check (check_not_refused words left left_after closed due bytes check is short formed) calm;
  audits = λ bytes audit is short formed calm sound. judges_so told state command.Audit words left left_after faults faults_after closed due why audit_runs_none refl (no_answer told command.Audit words left left_after closed due refl refl refl audit) audit (audit_not_refused words left left_after closed due bytes audit is short formed) calm;
  answers = λ bytes lines lend is short answers calm sound. answers_so told state command.Lend words left left_after faults faults_after closed due why lend_runs_none refl refl refl lend (lend_not_refused words left left_after closed due bytes lines lend is short answers) calm;
  plays = λ bytes lines file is short answers calm sound. answers_so told state command.File words left left_after faults faults_after closed due why file_runs_none refl refl refl file (file_not_refused words left left_after closed due bytes lines file is short answers) calm;
  tells = λ bytes frames is short holds calm sound. answers_so told state command.Frames words left left_after faults faults_after closed due why frames_runs_none refl refl refl frames (frames_not_refused words left left_after closed due bytes frames is short holds) calm;
  refuses = λ print bytes r asks is refuses calm. refuses_so told state words left left_after faults faults_after closed due why print bytes r asks is refuses calm;
  refuses_words = λ none. usage_so told state words left left_after faults faults_after closed due why none;
}

pub broken_completes : (words : List (List ℕ)) (left : Option (List ℕ)) (faults faults_after sunk sunk_after : ℕ) → Rose sunk sunk_after → Completes status.WriteFault words left faults faults_after sunk sunk_after
broken_completes words left faults faults_after sunk sunk_after rose = record {
  runs = λ print bytes c asks is describes calm sound. absurd (sound rose);
  loads = λ count load calm sound. absurd (sound rose);
  checks = λ bytes check is short formed calm sound. absurd (sound rose);
  audits = λ bytes audit is short formed calm sound. absurd (sound rose);
  answers = λ bytes lines lend is short answers calm sound. absurd (sound rose);
  plays = λ bytes lines file is short answers calm sound. absurd (sound rose);
  tells = λ bytes frames is short holds calm sound. absurd (sound rose);
  refuses = λ print bytes r asks is refuses calm. tt;
  refuses_words = λ none. tt;
}

pub wanting_completes : (words : List (List ℕ)) (left : Option (List ℕ)) (faults faults_after sunk sunk_after : ℕ) → Completes status.NoMemory words left faults faults_after sunk sunk_after
wanting_completes words left faults faults_after sunk sunk_after = record {
  runs = λ print bytes c asks is describes calm sound. tt;
  loads = λ count load calm sound. tt;
  checks = λ bytes check is short formed calm sound. tt;
  audits = λ bytes audit is short formed calm sound. tt;
  answers = λ bytes lines lend is short answers calm sound. tt;
  plays = λ bytes lines file is short answers calm sound. tt;
  tells = λ bytes frames is short holds calm sound. tt;
  refuses = λ print bytes r asks is refuses calm. tt;
  refuses_words = λ none. tt;
}

-- so does an answer
pub answer_completes : (told : Telling) (sunk sunk_after : ℕ) (words : List (List ℕ)) (left left_after : Option (List ℕ)) (faults faults_after : ℕ) (r : Result Answer NoMemory) (a : Answer) → r ≡ Ok a → IfOk r (λ (b : Answer). Causes told b.status words left left_after faults faults_after b.closed b.due) → Completes a.status words left faults faults_after sunk sunk_after
answer_completes told sunk sunk_after words left left_after faults faults_after r a is why =
    caused_completes told sunk sunk_after a.status words left left_after faults faults_after a.closed a.due (subst (λ (x : Result Answer NoMemory). IfOk x (λ (b : Answer). Causes told b.status words left left_after faults faults_after b.closed b.due)) is why)
