-- Steps of the whole kernel keep the facts of the remote calls of its files' side.
use Rattle.std.specs.Prelude.{ℕ}
use Rattle.sprite_ids.specs.declared.TxNo.{TxNo}
use Rattle.kernel_steps.specs.declared.Input.{Input}
use Rattle.client_homes.specs.declared.client.ClientProcs.{ClientProcs}
use Rattle.client_procs.specs.Steps.{client_step}
use Rattle.client_walks.specs.Hands.{brought}
use Rattle.client_walks.specs.PlacesOnce.{InHand, PlacesAreOnce}
use Rattle.client_rounds.specs.OneThing.{OneThingEach}
use Rattle.file_walks.specs.Fits.{FitsItsCall}
use Rattle.file_facts.specs.CallFacts.{KeepsCallFacts}

-- each step of the whole kernel keeps them, where what comes fits the operation for which it comes
abbrev pub StepKeepsCallFacts : Type 0
StepKeepsCallFacts = (s : ClientProcs) (input : Input) (next : TxNo) (step : ℕ) → InHand (brought input s) s → PlacesAreOnce s → OneThingEach s → FitsItsCall input s.files → KeepsCallFacts next s.files
    → KeepsCallFacts (client_step s input next step).1.next (client_step s input next step).0.files
