-- Clients of reached clusters keep the facts of the remote calls of their operations on files.
use Rattle.std.proofs.Common.{arith, ◌≡◌, ℕ, ◌+◌, ◌≤◌, true, length, Option, Some, None, refl, sym, ap, ◌∙◌, subst}
use Rattle.sprite_ids.specs.declared.TxNo.{TxNo}
use Rattle.kernel_rpc.specs.declared.call.Call.{Call}
use Rattle.kernel_rpc.specs.Machine.{Machine, call_of, idle, is_last}
use Rattle.kernel_steps.specs.declared.Input.{Input}
use Rattle.kernel_steps.specs.declared.Input.TheVariants as inputs
use Rattle.process_machine.specs.Machine as processes
use Rattle.unix_calls.specs.declared.Description.{Description}
use Rattle.client_procs.specs.Readers.{with_image}
use Rattle.client_homes.specs.declared.ClientProcs.{ClientProcs}
use Rattle.client_procs.specs.Steps.{client_step}
use Rattle.client_walks.specs.Hands.{brought}
use Rattle.client_walks.specs.PlacesOnce.{InHand, PlacesAreOnce}
use Rattle.client_walks.proofs.BornLaws.{begins_with_places, image_keeps_places}
use Rattle.client_walks.proofs.OnceLaws.{step_keeps_places}
use Rattle.client_rounds.specs.OneThing.{OneThingEach}
use Rattle.client_rounds.proofs.OneLaws.{begins_with_one_thing, images_keep_one_thing, steps_keep_one_thing}
use Rattle.cluster_wire.specs.Firing.{is_last_in}
use Rattle.cluster_wire.specs.Goings.{next_of}
use Rattle.cluster_kernels.specs.declared.KernelState.{KernelState}
use Rattle.cluster_kernels.specs.declared.KernelState.TheVariants as kernels
use Rattle.cluster_kernels.specs.States.{can_take_by, client_in}
use Rattle.cluster_choices.specs.declared.Choice.{Choice}
use Rattle.cluster_choices.specs.declared.Choice.TheVariants as choices
use Rattle.file_walks.specs.Fits.{FitsItsCall}
use Rattle.file_facts.specs.CallFacts.{KeepsCallFacts}
use Rattle.file_facts.proofs.KernelFacts.{step_keeps_call_facts}
use Rattle.file_facts.proofs.RestFacts.{begins_with_call_facts, growing_keeps_call_facts, image_keeps_call_facts}
use Rattle.operation_calls.proofs.AskLaws.{calls_are_numbered}
use Rattle.reached_clients.specs.Clients.{OfClient}
use Rattle.reached_clients.proofs.TakenLaws.{comes_taken, taken_is_new}
use Rattle.reached_operations.specs.Answered.{CallFactsStay}
use Rattle.reached_operations.proofs.CallLaws.{Went}
use Rattle.reached_operations.proofs.FitLaws.{what_comes_fits, what_is_given_up_fits}
use Rattle.reached_operations.proofs.OwnLaws.{clients_begin, replies_come}
use Rattle.reached_operations.proofs.TurnLaws as turns
use Rattle.reached_operations.proofs.TurnLaws.{Bears, Ended, IsHere, Stands, WentOut}
use Rattle.reached_operations.proofs.WireLaws.{good_idle}
use Rattle.sprite_cluster.specs.Reached.{At, Began, Begins, Chose, Goes, Lost, Reached, Took}
use Rattle.sprite_cluster.proofs.KernelLaws.{all_weaken, booted}
use Rattle.sprite_cluster.proofs.ReachedLaws.{Lasts, lasts_on}

-- places are once, one thing at most is on its way to each process, and the facts of the remote calls are kept
pub record KeptAt (machine : Machine) (s : ClientProcs) : Type 0 where
  pub places : PlacesAreOnce s
  pub one : OneThingEach s
  pub facts : KeepsCallFacts (next_of machine) s.files

abbrev pub Kept : Ended → Machine → ℕ → ClientProcs → Type 0
Kept hand machine kernel s = KeptAt machine s

-- what comes is new, and fits the operation for which it comes
abbrev pub Comes : Input → ClientProcs → Type 0
Comes input s = InHand (brought input s) s × FitsItsCall input s.files

pub kept_grows : (old new : Machine) (s : ClientProcs) → Went old new → KeptAt old s → KeptAt new s
kept_grows old new s w h = record { places = h.places; one = h.one; facts = growing_keeps_call_facts s.files (next_of old) (next_of new) (let more : old.begun ≤ new.begun = w.more in omega (arith, more)) h.facts }

pub kept_steps : (kernel : ℕ) (old new : Machine) (s : ClientProcs) (input : Input) (next : TxNo) (step : ℕ) → next.0 ≡ old.begun + 1 → Comes input s → WentOut kernel old new (client_step s input next step).1.sends → KeptAt old s → KeptAt new (client_step s input next step).0
kept_steps kernel old new s input next step number comes w h =
    let before : KeepsCallFacts next s.files = growing_keeps_call_facts s.files (next_of old) next (omega (arith, number)) h.facts in
    let after : KeepsCallFacts (client_step s input next step).1.next (client_step s input next step).0.files = step_keeps_call_facts s input next step comes.0 h.places h.one comes.1 before in
    let numbered : (client_step s input next step).1.next.0 ≡ next.0 + length (client_step s input next step).1.sends = calls_are_numbered s input next step in
    let begun : new.begun ≡ old.begun + length (client_step s input next step).1.sends = w.begun in
    record {
      places = step_keeps_places s input next step comes.0 h.places;
      one = steps_keep_one_thing s input next step comes.0 h.places h.one;
      facts = growing_keeps_call_facts (client_step s input next step).0.files (client_step s input next step).1.next (next_of new) (omega (arith, numbered, begun, number)) after;
    }

pub here_comes : (input : Input) (s : ClientProcs) → IsHere input → Comes input s
here_comes (inputs.Issued pid number call) s here = (tt, tt)
here_comes (inputs.Due file block) s here = (tt, tt)
here_comes (inputs.PageNeeded pid page) s here = (tt, tt)
here_comes (inputs.Request tx source body) s here = absurd here
here_comes (inputs.Replied tx source body) s here = absurd here
here_comes (inputs.GaveUp tx) s here = absurd here

pub kept_images : (machine : Machine) (pid : ℕ) (image : processes.Machine) (s : ClientProcs) → KeptAt machine s → KeptAt machine (with_image pid image s)
kept_images machine pid image s h = record { places = image_keeps_places s pid image h.places; one = images_keep_one_thing s pid image h.one; facts = image_keeps_call_facts s pid image (next_of machine) h.facts }

pub kept_bears : Bears Kept Comes
kept_bears = record {
  grows = λ hand old new kernel s w h. kept_grows old new s w.went h;
  ends = λ owner tx call old new kernel s w stays found from h. kept_grows old new s w h;
  others = λ owner tx machine kernel s apart h. h;
  steps = kept_steps;
  images = λ machine kernel pid image s h. kept_images machine pid image s h;
  here = here_comes;
}

-- ---- each reached cluster

pub last_found : (o : Option Call) → true ≡ is_last_in o → (call : Call) × (o ≡ Some call) × (is_last call ≡ true)
last_found (Some call) e = (call, refl, sym e)
last_found None e = absurd (cc)

module _ {L : Type 0} (faults asked : L → ℕ → ℕ → ℕ) (c : Description) (begun : L) where
  abbrev pub Keeps : At L → Type 0
  Keeps at = turns.At_stands c Kept Comes kept_bears faults asked at

  -- what a choice brings comes so
  pub brings_so : (kernel : ℕ) (choice : Choice) (old now : At L) → Reached faults asked c begun old → Goes faults asked c (Chose kernel choice) old now → turns.ChangeBrings c Kept Comes kept_bears faults asked (Chose kernel choice) old
  brings_so kernel (choices.Deliver number) old now reached goes =
      λ low copy input there brings client e.
      (taken_is_new client input (sym (ap (can_take_by input) e) ∙ comes_taken faults asked c kernel number old now copy input goes there brings), what_comes_fits faults asked c begun old kernel client copy input low reached (ap client_in e) brings)
  brings_so kernel (choices.Expire tx) old now reached goes =
      λ low before later between fires client e.
      let got = last_found (call_of old.wire.machine tx) fires.last in
      (tt, what_is_given_up_fits faults asked c begun old kernel client tx got.0 low reached (ap client_in e) got.1 got.2)
  brings_so kernel (choices.WriteBack file block) old now reached goes = λ low. tt

  kept_first : (first : At L) → Begins faults asked c begun first → Keeps first
  kept_first first b = subst (λ (machine : Machine). Stands c Kept Comes kept_bears machine first.state) (sym b.idles) (record {
    good = good_idle;
    clients = booted (OfClient (Kept None idle)) c (clients_begin c (Kept None idle) (λ kernel. record { places = begins_with_places c kernel; one = begins_with_one_thing c kernel; facts = begins_with_call_facts c kernel (next_of idle) })) c.kernels first.state.kernels 1 b.boots.kernels_are;
  })

  kept_last : Lasts faults asked c begun Keeps
  kept_last = record {
    begins = kept_first;
    chose = λ kernel choice old now reached goes h. turns.changed c Kept Comes kept_bears faults asked (Chose kernel choice) old now (replies_come faults asked c begun old reached) (brings_so kernel choice old now reached goes) goes h;
    began = λ kernel old now reached goes h. turns.changed c Kept Comes kept_bears faults asked (Began kernel) old now (replies_come faults asked c begun old reached) tt goes h;
    took = λ kernel b old now reached goes h. turns.changed c Kept Comes kept_bears faults asked (Took kernel b) old now (replies_come faults asked c begun old reached) tt goes h;
    lost = λ kernel b old now reached goes h. turns.changed c Kept Comes kept_bears faults asked (Lost kernel b) old now (replies_come faults asked c begun old reached) tt goes h;
  }

  pub all_kept : (now : At L) → Reached faults asked c begun now → Keeps now
  all_kept now reached = lasts_on faults asked c begun Keeps now kept_last reached

kept_facts : (machine : Machine) (kernel : ℕ) (state : KernelState) → OfClient (Kept None machine) kernel state → OfClient (λ (kernel : ℕ) (client : ClientProcs). KeepsCallFacts (next_of machine) client.files) kernel state
kept_facts machine kernel (kernels.Client client) h = h.facts
kept_facts machine kernel (kernels.Server server) h = tt

pub call_facts_stay : {L : Type 0} (faults asked : L → ℕ → ℕ → ℕ) → CallFactsStay faults asked
call_facts_stay faults asked c begun now reached =
    all_weaken (OfClient (Kept None now.wire.machine)) (OfClient (λ (kernel : ℕ) (client : ClientProcs). KeepsCallFacts (next_of now.wire.machine) client.files)) (kept_facts now.wire.machine) now.state.kernels 1
    (all_kept faults asked c begun now reached).clients
