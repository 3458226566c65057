-- Each step of a client's kernel keeps the facts of queues.
use Rattle.std.proofs.Common.{ℕ, Bool, true, false, cond}
use Rattle.sprite_ids.specs.declared.TxNo.{TxNo}
use Rattle.kernel_steps.specs.declared.Input.{Input}
use Rattle.client_file_tables.specs.declared.client_files.ClientFiles.{ClientFiles}
use Rattle.client_file_tables.specs.declared.pending.Pending.TheVariants as operations
use Rattle.client_file_tables.specs.Closes as file_closes
use Rattle.client_homes.specs.declared.client.ClientProcs.{ClientProcs}
use Rattle.client_procs.specs.Steps as stepping
use Rattle.client_procs.specs.Steps.{client_step}
use Rattle.client_procs.specs.Turning as turning
use Rattle.client_walks.specs.Hands.{brought}
use Rattle.client_walks.specs.PlacesOnce.{InHand, PlacesAreOnce}
use Rattle.client_walks.proofs.SideBearing.{BearsSide}
use Rattle.client_rounds.specs.OneThing.{OneThingEach}
use Rattle.client_rounds.proofs.OneLaws.{steps_are_enough}
use Rattle.file_walks.proofs.CallWalks as call_walks
use Rattle.file_walks.proofs.Muted as muted
use Rattle.file_facts.proofs.KernelFacts.{quiet_ready}
use Rattle.lock_facts.specs.WaitFacts.{KeepsWaitFacts}
use Rattle.lock_facts.proofs.Desks.{Holds, Sound}
use Rattle.lock_facts.proofs.KernelWalk.{BearsSteps, step_comes}
use Rattle.lock_facts.proofs.WaitAnswers.{answered, arrives, call_runs, due_goes, forks, given_up}
use Rattle.lock_facts.proofs.WaitRest.{begun, ended}
use Rattle.lock_facts.proofs.WaitRuns.{going_on_keeps, mute, started}

on_if : (b : Bool) (s t : ClientFiles) → Holds s → Holds t → Holds (cond b s t)
on_if true s t p q = p
on_if false s t p q = q

pub side : (came : Input) → BearsSide came Holds
side came = record {
  tells = λ s event e p. p;
  enters = λ s entry cause p. p;
  sends = λ s sending p. p;
  answers = λ s tx body e p. p;
  gives = λ s pid reply p. p;
  closes = λ s pid about p. started s pid (operations.Close (file_closes.ends_by about (file_closes.fds_of pid s))) tt p;
  moves = λ s pid work e p. started s pid (operations.Move work) tt p;
  has_cwd = λ s pid path p. on_if _ _ _ p p;
  drops_cwd = λ s pid p. p;
  forks = λ s parent child p. forks s parent child p;
  takes_report = λ s rest p. p;
  takes_reply = λ s rest p. p;
  issues = λ s about call device e p. call_walks.issues (λ (pid : ℕ). Holds) Holds call_runs about call device s p;
  called_back = λ s tx request p. muted.called_back Holds (mute Sound) tx request s p;
  due_goes = λ s file block p. due_goes file block s p;
  arrives = λ s pid cwd list items p. arrives pid cwd list items s p;
}

bears : BearsSteps Holds
bears = record { side = side; answered = answered; given_up = given_up; goes_on = going_on_keeps }

pub step_keeps_wait_facts : (s : ClientProcs) (input : Input) (next : TxNo) (step : ℕ) → InHand (brought input s) s → PlacesAreOnce s → OneThingEach s → KeepsWaitFacts s.files → KeepsWaitFacts (client_step s input next step).0.files
step_keeps_wait_facts s input next step hand places one facts =
    let gone : ClientProcs = turning.goes_on (stepping.takes input (stepping.begins_step next step s)) in
    ended gone.files (quiet_ready gone (steps_are_enough s input next step hand places one)) (step_comes Holds bears s input next step hand places one (begun next step s.files facts))
