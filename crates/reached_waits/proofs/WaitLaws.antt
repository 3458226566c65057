-- Each operation on files of a client of a reached cluster waits for something.
use Rattle.std.proofs.Common.{◌≡◌, ℕ, Option, Some, None, option_map, refl}
use Rattle.kernel_steps.specs.Outs.{started}
use Rattle.process_machine.specs.Machine.{Machine}
use Rattle.unix_calls.specs.declared.Description.{Description}
use Rattle.client_homes.specs.declared.ClientProcs.{ClientProcs}
use Rattle.client_homes.specs.declared.process.Proc.{Proc}
use Rattle.client_homes.specs.Procs.{proc_at, with_proc}
use Rattle.sprite_cluster.proofs.KernelLaws.{Keeps}
use Rattle.client_procs.specs.Boot.{boots}
use Rattle.client_walks.specs.PlacesOnce.{PlacesAreOnce}
use Rattle.client_walks.proofs.BornLaws.{begins_with_places, image_keeps_places}
use Rattle.client_walks.proofs.OnceLaws.{step_keeps_places}
use Rattle.client_rounds.specs.OneThing.{OneThingEach}
use Rattle.client_rounds.proofs.EnoughLaws.{may_goes_on}
use Rattle.client_rounds.proofs.OneLaws.{begins_with_one_thing, images_keep_one_thing, one_thing_is_enough, steps_keep_one_thing}
use Rattle.holder_facts.specs.QueueFacts.{KeepsQueueFacts}
use Rattle.holder_facts.specs.SyncFacts.{KeepsSyncFacts}
use Rattle.holder_facts.proofs.LineKernel.{begins_with_queue_facts, image_keeps_queue_facts, step_keeps_queue_facts}
use Rattle.holder_facts.proofs.SyncKernel.{step_keeps_sync_facts}
use Rattle.holder_facts.proofs.SyncRest.{begins_with_sync_facts, image_keeps_sync_facts}
use Rattle.reached_clients.specs.Clients.{OfClient}
use Rattle.reached_clients.proofs.ClientLaws.{IsNewFor, SuchFor, clients_keep, clients_last, clients_weaken, comes_new, own_new}
use Rattle.reached_waits.specs.Waits.{OperationsStayWaiting, WaitsForSomething}

-- nothing is to be told, and an image tells nothing
abbrev IsSaid : ClientProcs → Type 0
IsSaid s = s.files.out ≡ started (record { 0 = 0 })

image_said : (o : Option Proc) (s : ClientProcs) (pid : ℕ) (image : Machine) → IsSaid s → IsSaid (with_proc pid (option_map {T = Proc} (λ proc. record proc { image = image }) o) s)
image_said None s pid image said = said
image_said (Some proc) s pid image said = said

record IsWaiting (s : ClientProcs) : Type 0 where
  places : PlacesAreOnce s
  one : OneThingEach s
  syncs : KeepsSyncFacts s.files
  queues : KeepsQueueFacts s.files
  said : IsSaid s

abbrev Waiting : ℕ → ClientProcs → Type 0
Waiting kernel s = IsWaiting s

waiting_kept : Keeps (OfClient Waiting) (SuchFor IsNewFor)
waiting_kept =
    clients_keep Waiting IsNewFor own_new
    (λ kernel pid image s p. record {
      places = image_keeps_places s pid image p.places;
      one = images_keep_one_thing s pid image p.one;
      syncs = image_keeps_sync_facts s pid image p.syncs;
      queues = image_keeps_queue_facts s pid image p.queues;
      said = image_said (proc_at pid s) s pid image p.said;
    })
    (λ kernel s input next step new p. record {
      places = step_keeps_places s input next step new p.places;
      one = steps_keep_one_thing s input next step new p.places p.one;
      syncs = step_keeps_sync_facts s input next step new p.places p.one p.syncs;
      queues = step_keeps_queue_facts s input next step new p.places p.one p.queues;
      said = refl;
    })

begins_waiting : (c : Description) (kernel : ℕ) → Waiting kernel (boots c kernel)
begins_waiting c kernel = record { places = begins_with_places c kernel; one = begins_with_one_thing c kernel; syncs = begins_with_sync_facts c kernel; queues = begins_with_queue_facts c kernel; said = refl }

waits_so : (kernel : ℕ) (client : ClientProcs) → Waiting kernel client → WaitsForSomething client.files
waits_so kernel client p = record {
  one_each = (may_goes_on client (one_thing_is_enough client p.one)).may.one_each;
  syncs = p.syncs.wait;
  wants = p.queues.turns.waits.wants;
  held = p.queues.turns.locks.held;
  queued = p.queues.turns.waits.queued;
  queued_wait = p.queues.waiting;
  queued_once = (may_goes_on client (one_thing_is_enough client p.one)).queues;
  kept_out = p.queues.turns.locks.kept_out;
  turns = p.queues.turns.locks.turns;
  turns_once = (may_goes_on client (one_thing_is_enough client p.one)).may.turns;
  rest = record { ready = p.syncs.rests; results = p.one.told; said = p.said };
}

pub operations_stay : {L : Type 0} (faults asked : L → ℕ → ℕ → ℕ) → OperationsStayWaiting faults asked
operations_stay faults asked c begun now reached =
    clients_weaken Waiting (λ kernel client. WaitsForSomething client.files) waits_so now.state.kernels 1 (clients_last faults asked c begun Waiting IsNewFor waiting_kept comes_new (begins_waiting c) now reached)
