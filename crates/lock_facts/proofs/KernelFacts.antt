-- Each step of a client's kernel keeps the facts of locks and turns.
use Rattle.std.proofs.Common.{ℕ, Bool, true, false, cond, refl, ap}
use Rattle.sprite_ids.specs.declared.TxNo.{TxNo}
use Rattle.kernel_steps.specs.declared.Input.{Input}
use Rattle.client_file_tables.specs.declared.client_files.ClientFiles.{ClientFiles}
use Rattle.client_file_tables.specs.declared.pending.Pending.TheVariants as operations
use Rattle.client_file_tables.specs.Closes as file_closes
use Rattle.client_homes.specs.declared.client.ClientProcs.{ClientProcs}
use Rattle.client_procs.specs.Steps as stepping
use Rattle.client_procs.specs.Steps.{client_step}
use Rattle.client_procs.specs.Turning as turning
use Rattle.client_facts.specs.FileFacts.{move_holds}
use Rattle.client_walks.specs.Hands.{brought}
use Rattle.client_walks.specs.PlacesOnce.{InHand, PlacesAreOnce}
use Rattle.client_walks.proofs.SideBearing.{BearsSide}
use Rattle.client_rounds.specs.OneThing.{OneThingEach}
use Rattle.client_rounds.proofs.EnoughLaws.{may_goes_on}
use Rattle.client_rounds.proofs.OneLaws.{one_thing_is_enough}
use Rattle.file_walks.proofs.CallWalks as call_walks
use Rattle.file_walks.proofs.Muted as muted
use Rattle.lock_facts.specs.LockFacts.{KeepsLockFacts}
use Rattle.lock_facts.proofs.AnswerFacts.{answered, arrives, call_runs, due_goes, given_up}
use Rattle.lock_facts.proofs.Boards.{Holds, Sound}
use Rattle.lock_facts.proofs.KernelWalk.{BearsSteps, step_comes}
use Rattle.lock_facts.proofs.RestFacts.{begun, ended}
use Rattle.lock_facts.proofs.RunFacts.{going_on_keeps, kept_free, mute}

on_if : (b : Bool) (s t : ClientFiles) → Holds s → Holds t → Holds (cond b s t)
on_if true s t p q = p
on_if false s t p q = q

pub side : (came : Input) → BearsSide came Holds
side came = record {
  tells = λ s event e p. p;
  enters = λ s entry cause p. p;
  sends = λ s sending p. p;
  answers = λ s tx body e p. p;
  gives = λ s pid reply p. p;
  closes = λ s pid about p. kept_free s pid (operations.Close (file_closes.ends_by about (file_closes.fds_of pid s))) (refl, refl) p;
  moves = λ s pid work e p. kept_free s pid (operations.Move work) (ap (λ state. move_holds state work.stream) e, refl) p;
  has_cwd = λ s pid path p. on_if _ _ _ p p;
  drops_cwd = λ s pid p. p;
  forks = λ s parent child p. p;
  takes_report = λ s rest p. p;
  takes_reply = λ s rest p. p;
  issues = λ s about call device e p. call_walks.issues (λ (pid : ℕ). Holds) Holds call_runs about call device s p;
  called_back = λ s tx request p. muted.called_back Holds (mute Sound) tx request s p;
  due_goes = λ s file block p. due_goes file block s p;
  arrives = λ s pid cwd list items p. arrives pid cwd list items s p;
}

bears : BearsSteps Holds
bears = record { side = side; answered = answered; given_up = given_up; goes_on = going_on_keeps }

pub step_keeps_lock_facts : (s : ClientProcs) (input : Input) (next : TxNo) (step : ℕ) → InHand (brought input s) s → PlacesAreOnce s → OneThingEach s → KeepsLockFacts s.files → KeepsLockFacts (client_step s input next step).0.files
step_keeps_lock_facts s input next step hand places one facts =
    ended (turning.goes_on (stepping.takes input (stepping.begins_step next step s))).files
    (step_comes Holds bears s input next step hand places one (begun next step s.files (may_goes_on s (one_thing_is_enough s one)).queues facts))
