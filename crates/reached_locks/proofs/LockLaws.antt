-- Who has the lock of a stream at a client of a reached cluster has an operation that has it.
use Rattle.std.proofs.Common.{◌≡◌, ℕ, true, Some, refl, sym, ap, ◌∙◌}
use Rattle.kernel_steps.specs.declared.Input.{Input}
use Rattle.kernel_steps.specs.declared.Input.TheVariants as inputs
use Rattle.unix_calls.specs.declared.Description.{Description}
use Rattle.client_homes.specs.declared.ClientProcs.{ClientProcs}
use Rattle.client_procs.specs.CanTake.{can_take}
use Rattle.cluster_kernels.specs.declared.KernelState.{KernelState}
use Rattle.cluster_kernels.specs.declared.KernelState.TheVariants as kernels
use Rattle.cluster_kernels.specs.declared.State.{State}
use Rattle.cluster_kernels.specs.States.{can_take_at, can_take_by, kernel_at}
use Rattle.cluster_choices.specs.declared.Choice.{Choice}
use Rattle.cluster_choices.specs.declared.Choice.TheVariants as choices
use Rattle.sprite_cluster.specs.Reached.{At, Chose, Began, Goes, Took, Lost}
use Rattle.sprite_cluster.proofs.KernelLaws.{ChangeBrings, IsOwn, Keeps, booted, changed}
use Rattle.sprite_cluster.proofs.ReachedLaws.{Lasts, lasts_on}
use Rattle.client_walks.specs.Hands.{brought}
use Rattle.client_walks.specs.PlacesOnce.{InHand, PlacesAreOnce}
use Rattle.client_walks.proofs.BornLaws.{begins_with_places, image_keeps_places}
use Rattle.client_walks.proofs.OnceLaws.{step_keeps_places}
use Rattle.client_rounds.specs.OneThing.{OneThingEach}
use Rattle.client_rounds.proofs.OneLaws.{begins_with_one_thing, images_keep_one_thing, steps_keep_one_thing}
use Rattle.move_facts.specs.MoveFacts.{KeepsMoveFacts}
use Rattle.move_facts.proofs.MoveKernel.{begins_with_move_facts, image_keeps_move_facts, step_keeps_move_facts}
use Rattle.reached_clients.specs.Clients.{OfClient, OfClients}
use Rattle.reached_clients.proofs.ClientLaws.{SuchFor, clients_begin, clients_keep, clients_weaken}
use Rattle.reached_clients.proofs.TakenLaws.{comes_taken, taken_is_new}
use Rattle.reached_locks.specs.Locks.{LocksAreForOperations, LocksStayHeld}
use Rattle.reached_locks.proofs.HeldLaws.{unmoved_held}

record IsHeld (s : ClientProcs) : Type 0 where
  places : PlacesAreOnce s
  one : OneThingEach s
  moves : KeepsMoveFacts s

abbrev Holds : ℕ → ClientProcs → Type 0
Holds kernel s = IsHeld s

-- what a client can take
abbrev Taken : Input → ClientProcs → Type 0
Taken input s = can_take input s ≡ true

own_taken : (input : Input) (s : ClientProcs) → IsOwn input → Taken input s
own_taken (inputs.Request tx source body) s own = absurd own
own_taken (inputs.Replied tx source body) s own = absurd own
own_taken input s own = refl

locks_kept : Keeps (OfClient Holds) (SuchFor Taken)
locks_kept =
    clients_keep Holds Taken own_taken (λ kernel pid image s p. record { places = image_keeps_places s pid image p.places; one = images_keep_one_thing s pid image p.one; moves = image_keeps_move_facts s pid image p.moves })
    (λ kernel s input next step can p.
    let new : InHand (brought input s) s = taken_is_new s input can in
    record { places = step_keeps_places s input next step new p.places; one = steps_keep_one_thing s input next step new p.places p.one; moves = step_keeps_move_facts s input next step can new p.places p.one p.moves })

comes_at : (kernel : ℕ) (input : Input) (s : State) → can_take_at kernel input s ≡ true → (state : KernelState) → kernel_at kernel s ≡ Some state → SuchFor Taken input state
comes_at kernel input s can (kernels.Client client) e = sym (ap (can_take_by input) e) ∙ can
comes_at kernel input s can (kernels.Server server) e = tt

module _ {L : Type 0} (faults asked : L → ℕ → ℕ → ℕ) (c : Description) (begun : L) where
  choice_brings : (kernel : ℕ) (choice : Choice) (old now : At L) → Goes faults asked c (Chose kernel choice) old now → ChangeBrings (OfClient Holds) (SuchFor Taken) locks_kept faults asked c (Chose kernel choice) old
  choice_brings kernel (choices.Deliver number) old now goes = λ low copy input there brings. comes_at kernel input old.state (comes_taken faults asked c kernel number old now copy input goes there brings)
  choice_brings kernel (choices.Expire tx) old now goes = λ low. tt
  choice_brings kernel (choices.WriteBack file block) old now goes = λ low. tt

  held_last : Lasts faults asked c begun (λ (at : At L). OfClients Holds 1 at.state.kernels)
  held_last = record {
    begins = λ first b. booted (OfClient Holds) c (clients_begin Holds c (λ kernel. record { places = begins_with_places c kernel; one = begins_with_one_thing c kernel; moves = begins_with_move_facts c kernel })) c.kernels first.state.kernels 1 b.boots.kernels_are;
    chose = λ kernel choice old now reached goes h. changed (OfClient Holds) (SuchFor Taken) locks_kept faults asked c (Chose kernel choice) old now (choice_brings kernel choice old now goes) goes h;
    began = λ kernel old now reached goes h. changed (OfClient Holds) (SuchFor Taken) locks_kept faults asked c (Began kernel) old now tt goes h;
    took = λ kernel b old now reached goes h. changed (OfClient Holds) (SuchFor Taken) locks_kept faults asked c (Took kernel b) old now tt goes h;
    lost = λ kernel b old now reached goes h. changed (OfClient Holds) (SuchFor Taken) locks_kept faults asked c (Lost kernel b) old now tt goes h;
  }

pub locks_stay : {L : Type 0} (faults asked : L → ℕ → ℕ → ℕ) → LocksStayHeld faults asked
locks_stay {L} faults asked c begun now reached =
    clients_weaken Holds (λ kernel client. LocksAreForOperations client) (λ kernel client p. record { none_else = p.moves.holders.none_else; moves = p.moves.moves; unmoved = unmoved_held client p.places p.moves.moves }) now.state.kernels 1
    (lasts_on faults asked c begun (λ (at : At L). OfClients Holds 1 at.state.kernels) now (held_last faults asked c begun) reached)
