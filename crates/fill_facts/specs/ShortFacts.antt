-- No operation of a client's files' side moves more bytes than a program's call may, where no call does that comes.
use Rattle.std.specs.Prelude.{ℕ}
use Rattle.sprite_ids.specs.declared.TxNo.{TxNo}
use Rattle.kernel_steps.specs.declared.Input.{Input}
use Rattle.kernel_steps.specs.declared.Input.TheVariants as inputs
use Rattle.process_machine.specs.Limits.{IsWithinLimits}
use Rattle.process_machine.specs.Machine.{Machine}
use Rattle.unix_calls.specs.declared.Description.{Description}
use Rattle.client_homes.specs.declared.client.ClientProcs.{ClientProcs}
use Rattle.client_procs.specs.Boot.{boots}
use Rattle.client_procs.specs.Readers.{with_image}
use Rattle.client_procs.specs.Steps.{client_step}
use Rattle.fill_facts.specs.FillFacts.{AreShort}

-- a call that comes is within its limits
abbrev pub ComesWithinLimits : Input → Type 0
ComesWithinLimits (inputs.Issued pid number call) = IsWithinLimits call
ComesWithinLimits input = Unit {0}

-- each step of the kernel keeps it
abbrev pub StepKeepsShort : Type 0
StepKeepsShort = (s : ClientProcs) (input : Input) (next : TxNo) (step : ℕ) → ComesWithinLimits input → AreShort s.files → AreShort (client_step s input next step).0.files

-- so it is when the cluster begins
abbrev pub BeginsShort : Type 0
BeginsShort = (c : Description) (kernel : ℕ) → AreShort (boots c kernel).files

-- and what a process does between two calls keeps it
abbrev pub ImageKeepsShort : Type 0
ImageKeepsShort = (s : ClientProcs) (pid : ℕ) (image : Machine) → AreShort s.files → AreShort (with_image pid image s).files
