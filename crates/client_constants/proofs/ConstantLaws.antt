-- What a client's kernel is told when the cluster begins, and never changes.
use Rattle.std.proofs.Common.{◌≡◌, ℕ, Option, Some, None, option_map, refl, ◌∙◌}
use Rattle.sprite_ids.specs.declared.TxNo.{TxNo}
use Rattle.process_machine.specs.Machine.{Machine}
use Rattle.kernel_steps.specs.declared.Input.{Input}
use Rattle.unix_calls.specs.declared.Description.{Description}
use Rattle.client_homes.specs.declared.client.ClientProcs.{ClientProcs}
use Rattle.client_homes.specs.declared.process.Proc.{Proc}
use Rattle.client_homes.specs.Procs.{proc_at, with_proc}
use Rattle.client_procs.specs.Boot.{boots, swap_server}
use Rattle.client_procs.specs.Readers.{with_image}
use Rattle.client_procs.specs.Steps.{client_step}
use Rattle.client_facts.proofs.BootLaws.{homes_begin_with_facts}
use Rattle.client_walks.specs.Hands.{Held, Nothing, brought}
use Rattle.client_walks.proofs.Deeds.{Always, nothing}
use Rattle.client_walks.proofs.SpotLaws.{by_spots}
use Rattle.client_walks.proofs.Spots.{KeepsSpots, Spots, spots_of}
use Rattle.client_walks.proofs.WalkLaws.{step_keeps}
use Rattle.client_constants.specs.Constants.{KnowsItsCluster}

record Knows (c : Description) (kernel : ℕ) (v : Spots) (hand : Held) : Type 0 where
  number : v.kernel ≡ kernel
  kernels : v.kernels ≡ c.kernels
  programs : v.programs ≡ c.programs
  swap : v.swap_server ≡ swap_server c.kernels kernel
  home : v.home.home ≡ kernel

-- what becomes of processes is no matter
same : (c : Description) (kernel : ℕ) (v w : Spots) (hand held : Held) → w.kernel ≡ v.kernel → w.kernels ≡ v.kernels → w.programs ≡ v.programs → w.swap_server ≡ v.swap_server → w.home.home ≡ v.home.home → Knows c kernel v hand → Knows c kernel w held
same c kernel v w hand held number kernels programs swap home k = record { number = number ∙ k.number; kernels = kernels ∙ k.kernels; programs = programs ∙ k.programs; swap = swap ∙ k.swap; home = home ∙ k.home }

knows : (c : Description) (kernel : ℕ) → KeepsSpots (Knows c kernel)
knows c kernel = record {
  sets = λ v hand pid old new e k. same c kernel v _ hand hand refl refl refl refl refl k;
  knows = λ v hand table home many k. same c kernel v _ hand hand refl refl refl refl home k;
  bears = λ v parent native room k. same c kernel v _ Nothing _ refl refl refl refl refl k;
  brings = λ v pid gone stays k. same c kernel v v _ _ refl refl refl refl refl k;
  refuses = λ v pid k. same c kernel v v _ _ refl refl refl refl refl k;
  puts = λ v pid proc k. same c kernel v _ _ Nothing refl refl refl refl refl k;
  takes = λ v pid proc e k. same c kernel v _ Nothing _ refl refl refl refl refl k;
  leaves = λ v pid found e k. same c kernel v _ Nothing _ refl refl refl refl refl k;
  stays = λ v pid row k. same c kernel v _ _ Nothing refl refl refl refl refl k;
  lets_go = λ v pid k. same c kernel v v _ _ refl refl refl refl refl k;
}

pub begins_knowing : (c : Description) (kernel : ℕ) → KnowsItsCluster c kernel (boots c kernel)
begins_knowing c kernel = record { number = refl; kernels = refl; programs = refl; swap = refl; home = (homes_begin_with_facts c kernel).own }

pub step_keeps_knowing : (c : Description) (kernel : ℕ) (s : ClientProcs) (input : Input) (next : TxNo) (step : ℕ) → KnowsItsCluster c kernel s → KnowsItsCluster c kernel (client_step s input next step).0
step_keeps_knowing c kernel s input next step k =
    let held : Knows c kernel (spots_of s) (brought input s) = record { number = k.number; kernels = k.kernels; programs = k.programs; swap = k.swap; home = k.home } in
    let after : Knows c kernel (spots_of (client_step s input next step).0) Nothing = step_keeps (λ s h. Knows c kernel (spots_of s) h.process) (by_spots Always (Knows c kernel) (knows c kernel)) nothing s input next step held in
    record { number = after.number; kernels = after.kernels; programs = after.programs; swap = after.swap; home = after.home }

image_keeps : (o : Option Proc) (c : Description) (kernel pid : ℕ) (f : Proc → Proc) (s : ClientProcs) → KnowsItsCluster c kernel s → KnowsItsCluster c kernel (with_proc pid (option_map f o) s)
image_keeps None c kernel pid f s k = k
image_keeps (Some proc) c kernel pid f s k = record { number = k.number; kernels = k.kernels; programs = k.programs; swap = k.swap; home = k.home }

pub image_keeps_knowing : (c : Description) (kernel pid : ℕ) (image : Machine) (s : ClientProcs) → KnowsItsCluster c kernel s → KnowsItsCluster c kernel (with_image pid image s)
image_keeps_knowing c kernel pid image s k = image_keeps (proc_at pid s) c kernel pid (λ proc. record proc { image = image }) s k
