-- Each step of a client's kernel keeps the order in which operations fill blocks, beside the facts of locks and queues.
use Rattle.std.proofs.Common.{◌≡◌, ℕ, Bool, true, false, ◌&&◌, cond, List, [], ◌∷◌, Option, Some, None, option_map, refl, ap, ◌∙◌}
use Rattle.std.proofs.lemmas.Bool.{and_parts}
use Rattle.std.specs.List.{AllByRecursion, list_all}
use Rattle.sprite_ids.specs.declared.TxNo.{TxNo}
use Rattle.kernel_steps.specs.declared.Input.{Input}
use Rattle.process_machine.specs.Machine.{Machine}
use Rattle.unix_calls.specs.declared.Description.{Description}
use Rattle.client_file_tables.specs.declared.client_files.ClientFiles.{ClientFiles}
use Rattle.client_file_tables.specs.Rows.{first_of}
use Rattle.client_file_tables.specs.Steps as tables
use Rattle.client_homes.specs.declared.client.ClientProcs.{ClientProcs}
use Rattle.client_homes.specs.declared.process.Proc.{Proc}
use Rattle.client_homes.specs.Procs as procs_of
use Rattle.client_homes.specs.Procs.{proc_at}
use Rattle.client_procs.specs.Boot.{boots}
use Rattle.client_procs.specs.Readers.{with_image}
use Rattle.client_procs.specs.Steps as stepping
use Rattle.client_procs.specs.Steps.{client_step}
use Rattle.client_procs.specs.Turning as turning
use Rattle.client_facts.specs.FileFacts.{is_waiting_for_turn}
use Rattle.client_walks.specs.Hands.{brought}
use Rattle.client_walks.specs.PlacesOnce.{InHand, PlacesAreOnce}
use Rattle.client_walks.proofs.SideBearing.{BearsSide}
use Rattle.client_rounds.specs.OneThing.{OneThingEach}
use Rattle.client_rounds.proofs.EnoughLaws.{may_goes_on}
use Rattle.client_rounds.proofs.OneLaws.{one_thing_is_enough, steps_are_enough}
use Rattle.file_walks.proofs.CallWalks as call_walks
use Rattle.file_walks.proofs.Muted as muted
use Rattle.file_facts.proofs.KernelFacts.{quiet_ready}
use Rattle.lock_facts.specs.TurnFacts.{KeepsTurnFacts, needs_some, others_wait}
use Rattle.lock_facts.proofs.AnswerFacts as lock_answers
use Rattle.lock_facts.proofs.Boards as locked
use Rattle.lock_facts.proofs.Desks as queued
use Rattle.lock_facts.proofs.KernelFacts as lock_kernel
use Rattle.lock_facts.proofs.KernelWalk.{BearsSteps, step_comes}
use Rattle.lock_facts.proofs.RankAnswers as rank_answers
use Rattle.lock_facts.proofs.RankRuns as rank_runs
use Rattle.lock_facts.proofs.RankRuns.{Holds, mute}
use Rattle.lock_facts.proofs.Ranks as ranks
use Rattle.lock_facts.proofs.Ranks.{InOrder, needs_in, waits_in}
use Rattle.lock_facts.proofs.RestFacts as lock_rest
use Rattle.lock_facts.proofs.RunFacts as lock_runs
use Rattle.lock_facts.proofs.WaitAnswers as wait_answers
use Rattle.lock_facts.proofs.WaitKernel as wait_kernel
use Rattle.lock_facts.proofs.WaitRest as wait_rest
use Rattle.lock_facts.proofs.WaitRuns as wait_runs

on_if : (b : Bool) (s t : ClientFiles) → Holds s → Holds t → Holds (cond b s t)
on_if true s t p q = p
on_if false s t p q = q

side : (came : Input) → BearsSide came Holds
side came = record {
  tells = λ s event e p. p;
  enters = λ s entry cause p. p;
  sends = λ s sending p. p;
  answers = λ s tx body e p. p;
  gives = λ s pid reply p. p;
  closes = λ s pid about p. ranks.rank_push s.pending s.fillers _ p;
  moves = λ s pid work e p. ranks.rank_push s.pending s.fillers _ p;
  has_cwd = λ s pid path p. on_if _ _ _ p p;
  drops_cwd = λ s pid p. p;
  forks = λ s parent child p. p;
  takes_report = λ s rest p. p;
  takes_reply = λ s rest p. p;
  issues = λ s about call device e p. call_walks.issues (λ (pid : ℕ). Holds) Holds rank_answers.call_runs about call device s p;
  called_back = λ s tx request p. muted.called_back Holds mute tx request s p;
  due_goes = λ s file block p. rank_answers.due_goes file block s p;
  arrives = λ s pid cwd list items p. muted.arrives Holds mute (λ t given q. q) pid cwd list items s p;
}

-- two facts go beside each other
pub both_sides : (came : Input) (P Q : ClientFiles → Type 0) → BearsSide came P → BearsSide came Q → BearsSide came (λ s. P s × Q s)
both_sides came P Q f g = record {
  tells = λ s event e p. (f.tells s event e p.0, g.tells s event e p.1);
  enters = λ s entry cause p. (f.enters s entry cause p.0, g.enters s entry cause p.1);
  sends = λ s sending p. (f.sends s sending p.0, g.sends s sending p.1);
  answers = λ s tx body e p. (f.answers s tx body e p.0, g.answers s tx body e p.1);
  gives = λ s pid reply p. (f.gives s pid reply p.0, g.gives s pid reply p.1);
  closes = λ s pid about p. (f.closes s pid about p.0, g.closes s pid about p.1);
  moves = λ s pid work e p. (f.moves s pid work e p.0, g.moves s pid work e p.1);
  has_cwd = λ s pid path p. (f.has_cwd s pid path p.0, g.has_cwd s pid path p.1);
  drops_cwd = λ s pid p. (f.drops_cwd s pid p.0, g.drops_cwd s pid p.1);
  forks = λ s parent child p. (f.forks s parent child p.0, g.forks s parent child p.1);
  takes_report = λ s rest p. (f.takes_report s rest p.0, g.takes_report s rest p.1);
  takes_reply = λ s rest p. (f.takes_reply s rest p.0, g.takes_reply s rest p.1);
  issues = λ s about call device e p. (f.issues s about call device e p.0, g.issues s about call device e p.1);
  called_back = λ s tx request p. (f.called_back s tx request p.0, g.called_back s tx request p.1);
  due_goes = λ s file block p. (f.due_goes s file block p.0, g.due_goes s file block p.1);
  arrives = λ s pid cwd list items p. (f.arrives s pid cwd list items p.0, g.arrives s pid cwd list items p.1);
}

abbrev Locked : ClientFiles → Type 0
Locked s = locked.Holds s × queued.Holds s

abbrev pub All : ClientFiles → Type 0
All s = Locked s × Holds s

pub bears : BearsSteps All
bears = record {
  side = λ came. both_sides came Locked Holds (both_sides came locked.Holds queued.Holds (lock_kernel.side came) (wait_kernel.side came)) (side came);
  answered = λ s tx source body once p. ((lock_answers.answered s tx source body once p.0.0, wait_answers.answered s tx source body once p.0.1), rank_answers.answered s tx source body once p.0.0 p.0.1 p.1);
  given_up = λ s tx once p. ((lock_answers.given_up s tx once p.0.0, wait_answers.given_up s tx once p.0.1), rank_answers.given_up s tx once p.0.0 p.0.1 p.1);
  goes_on = λ s once p. ((lock_runs.going_on_keeps s once p.0.0, wait_runs.going_on_keeps s once p.0.1), rank_runs.going_on_keeps s once p.0.0 p.0.1 p.1);
}

-- Between two steps

waits_all : (s : ClientFiles) (rest : List ℕ) → list_all (is_waiting_for_turn s) rest ≡ true → AllByRecursion (λ (p : ℕ). waits_in s.pending p ≡ true) rest
waits_all s [] e = tt
waits_all s (p ∷ rest) e = let parts = and_parts (is_waiting_for_turn s p) (list_all (is_waiting_for_turn s) rest) e in (parts.0, waits_all s rest parts.1)

pub order_of : (s : ClientFiles) (fillers : List ℕ) → list_all (needs_some s) fillers ≡ true → others_wait fillers s ≡ true → InOrder (needs_in s.pending) (waits_in s.pending) fillers
order_of s [] needs others = tt
order_of s (first ∷ rest) needs others = ((and_parts (needs_some s first) (list_all (needs_some s) rest) needs).0, waits_all s rest others)

all_waits : (s : ClientFiles) (rest : List ℕ) → AllByRecursion (λ (p : ℕ). waits_in s.pending p ≡ true) rest → list_all (is_waiting_for_turn s) rest ≡ true
all_waits s [] h = refl
all_waits s (p ∷ rest) h = ap (λ (b : Bool). b && list_all (is_waiting_for_turn s) rest) h.0 ∙ all_waits s rest h.1

all_needs : (s : ClientFiles) (rest : List ℕ) → AllByRecursion (λ (p : ℕ). waits_in s.pending p ≡ true) rest → list_all (needs_some s) rest ≡ true
all_needs s [] h = refl
all_needs s (p ∷ rest) h = ap (λ (b : Bool). b && list_all (needs_some s) rest) (ranks.needs_turn (first_of p s.pending) h.0) ∙ all_needs s rest h.1

needs_of : (s : ClientFiles) (fillers : List ℕ) → InOrder (needs_in s.pending) (waits_in s.pending) fillers → list_all (needs_some s) fillers ≡ true
needs_of s [] h = refl
needs_of s (first ∷ rest) h = ap (λ (b : Bool). b && list_all (needs_some s) rest) h.0 ∙ all_needs s rest h.1

others_of : (s : ClientFiles) (fillers : List ℕ) → InOrder (needs_in s.pending) (waits_in s.pending) fillers → others_wait fillers s ≡ true
others_of s [] h = refl
others_of s (first ∷ rest) h = all_waits s rest h.1

-- A step

pub step_keeps_turn_facts : (s : ClientProcs) (input : Input) (next : TxNo) (step : ℕ) → InHand (brought input s) s → PlacesAreOnce s → OneThingEach s → KeepsTurnFacts s.files → KeepsTurnFacts (client_step s input next step).0.files
step_keeps_turn_facts s input next step hand places one facts =
    let gone : ClientProcs = turning.goes_on (stepping.takes input (stepping.begins_step next step s)) in
    let goes = may_goes_on s (one_thing_is_enough s one) in
    let at_first : All (tables.begins next step s.files) =
    ((lock_rest.begun next step s.files goes.queues facts.locks, wait_rest.begun next step s.files facts.waits), (order_of s.files s.files.fillers facts.needs facts.others, goes.may.turns)) in
    let so : All gone.files = step_comes All bears s input next step hand places one at_first in
    record {
      locks = lock_rest.ended gone.files so.0.0;
      waits = wait_rest.ended gone.files (quiet_ready gone (steps_are_enough s input next step hand places one)) so.0.1;
      needs = needs_of (tables.said gone.files) gone.files.fillers so.1.0;
      others = others_of (tables.said gone.files) gone.files.fillers so.1.0;
    }

-- Beginning, and images

pub begins_with_turn_facts : (c : Description) (kernel : ℕ) → KeepsTurnFacts (boots c kernel).files
begins_with_turn_facts c kernel = record { locks = lock_rest.begins_with_lock_facts c kernel; waits = wait_rest.begins_with_wait_facts c kernel; needs = refl; others = refl }

image_by : (o : Option Proc) (s : ClientProcs) (pid : ℕ) (image : Machine) → KeepsTurnFacts s.files → KeepsTurnFacts (procs_of.with_proc pid (option_map {T = Proc} (λ proc. record proc { image = image }) o) s).files
image_by None s pid image facts = facts
image_by (Some proc) s pid image facts = facts

pub image_keeps_turn_facts : (s : ClientProcs) (pid : ℕ) (image : Machine) → KeepsTurnFacts s.files → KeepsTurnFacts (with_image pid image s).files
image_keeps_turn_facts s pid image facts = image_by (proc_at pid s) s pid image facts
