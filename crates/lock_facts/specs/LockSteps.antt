-- Steps of the whole kernel keep the facts of locks and turns.
use Rattle.std.specs.Prelude.{ℕ}
use Rattle.sprite_ids.specs.declared.TxNo.{TxNo}
use Rattle.kernel_steps.specs.declared.Input.{Input}
use Rattle.client_homes.specs.declared.client.ClientProcs.{ClientProcs}
use Rattle.client_procs.specs.Steps.{client_step}
use Rattle.client_walks.specs.Hands.{brought}
use Rattle.client_walks.specs.PlacesOnce.{InHand, PlacesAreOnce}
use Rattle.client_rounds.specs.OneThing.{OneThingEach}
use Rattle.lock_facts.specs.LockFacts.{KeepsLockFacts}
use Rattle.lock_facts.specs.WaitFacts.{KeepsWaitFacts}

-- each step of the whole kernel keeps them, whatever comes
abbrev pub StepKeepsLockFacts : Type 0
StepKeepsLockFacts = (s : ClientProcs) (input : Input) (next : TxNo) (step : ℕ) → InHand (brought input s) s → PlacesAreOnce s → OneThingEach s → KeepsLockFacts s.files → KeepsLockFacts (client_step s input next step).0.files

-- and those of who waits for a lock
abbrev pub StepKeepsWaitFacts : Type 0
StepKeepsWaitFacts = (s : ClientProcs) (input : Input) (next : TxNo) (step : ℕ) → InHand (brought input s) s → PlacesAreOnce s → OneThingEach s → KeepsWaitFacts s.files → KeepsWaitFacts (client_step s input next step).0.files
