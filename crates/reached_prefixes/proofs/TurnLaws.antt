-- What a turn of a kernel tells of prefixes, and what each kernel knows after it.
use Rattle.std.proofs.Common.{arith, ◌≡◌, ℕ, ◌-◌, ◌≤◌, Bool, true, false, List, [], ◌∷◌, ◌++◌, Option, Some, None, slice_get, slice_set, refl, sym, ap, ◌∙◌, subst}
use Rattle.sprite_ids.specs.declared.CopyNo.{CopyNo}
use Rattle.sprite_ids.specs.declared.TxNo.{TxNo}
use Rattle.sprite_ids.proofs.ListLaws.{get_set_other, get_set_same, get_within}
use Rattle.process_machine.specs.Machine.{Machine}
use Rattle.kernel_rpc.specs.declared.Expired.{Expired}
use Rattle.kernel_rpc.specs.declared.Expired.TheVariants as expired
use Rattle.kernel_rpc.specs.declared.PacketCopy.{PacketCopy}
use Rattle.kernel_rpc.specs.Sound.{Wired}
use Rattle.kernel_steps.specs.declared.Input.{Input}
use Rattle.kernel_steps.specs.declared.Input.TheVariants as inputs
use Rattle.unix_calls.specs.declared.Description.{Description}
use Rattle.unix_calls.specs.declared.Event.{Event}
use Rattle.unix_calls.specs.declared.Event.TheVariants as events
use Rattle.prefix_table.specs.declared.prefixes.Domain.{Domain}
use Rattle.cluster_wire.specs.Arriving.{copy_to}
use Rattle.cluster_wire.specs.Firing.{may_fire}
use Rattle.cluster_wire.specs.Noted.{without_faults}
use Rattle.cluster_wire.specs.declared.Arrived.{Arrived}
use Rattle.cluster_wire.specs.declared.Arrived.TheVariants as arrived
use Rattle.cluster_wire.specs.declared.Said.{Said}
use Rattle.cluster_kernels.specs.declared.KernelState.{KernelState}
use Rattle.cluster_kernels.specs.declared.KernelState.TheVariants as kernels
use Rattle.cluster_kernels.specs.declared.State.{State}
use Rattle.cluster_kernels.specs.Kernels.{image_put, kernel_step}
use Rattle.cluster_kernels.specs.States.{as_client, client_in, image_put_at, kernel_at, noted_step, put_image, stepped, stepped_by}
use Rattle.cluster_steps.specs.Steps.{TakesSo}
use Rattle.cluster_choices.specs.declared.Choice.{Choice}
use Rattle.cluster_choices.specs.declared.Choice.TheVariants as choices
use Rattle.cluster_choices.specs.Acts.{Comes, Expires, FiredAs, Given, Happens, delivery}
use Rattle.cluster_bursts.specs.declared.Burst.{Burst}
use Rattle.cluster_bursts.specs.declared.BurstOutcome.{BurstOutcome}
use Rattle.cluster_bursts.specs.declared.BurstOutcome.TheVariants as outcome
use Rattle.cluster_bursts.specs.declared.Job.{Job}
use Rattle.cluster_bursts.specs.Bursts.{EndsAs, GoesOn, begun_by, came_to, recorded, taken_back}
use Rattle.sprite_cluster.specs.Steps.{begun_turn}
use Rattle.client_walks.proofs.Bearing.{is_other}
use Rattle.prefix_laws.specs.Prefixes.{LearnsSo}
use Rattle.prefix_laws.proofs.LearnLaws.{clients_learn, images_leave, servers_learn}
use Rattle.prefix_laws.proofs.TellsLaws.{learns_joined, learns_nothing, learns_other}
use Rattle.reached_prefixes.specs.Known.{known_at, known_in}
use Rattle.reached_prefixes.proofs.FaultLaws.{learns_faulted, learns_faulted_all, learns_with, learns_without}

-- what a kernel knows, and a looked-up one
abbrev known_of : KernelState → List Domain
known_of state = known_in (as_client state)

abbrev known_if : Option KernelState → List Domain
known_if o = known_in (client_in o)

-- a step of a kernel

one_step : (found : KernelState) (input : Input) (next : TxNo) (step : ℕ) → LearnsSo (known_of found) (known_of (kernel_step found input next step).0) (kernel_step found input next step).1.events
one_step (kernels.Client client) input next step = clients_learn client input next step
one_step (kernels.Server server) input next step = servers_learn server input next

one_image : (found : KernelState) (pid : ℕ) (image : Machine) → known_of (image_put pid image found) ≡ known_of found
one_image (kernels.Client client) pid image = images_leave client pid image
one_image (kernels.Server server) pid image = refl

-- a kernel is put in the place of another state of it

put_own : (kernel : ℕ) (found new : KernelState) (s : State) → kernel_at kernel s ≡ Some found → known_if (slice_get (slice_set s.kernels (kernel - 1) new) (kernel - 1)) ≡ known_of new
put_own kernel found new s e = ap known_if (get_set_same s.kernels (kernel - 1) new (get_within s.kernels (kernel - 1) found e))

put_other : (kernel other : ℕ) (new : KernelState) (s : State) → 1 ≤ kernel → 1 ≤ other → (other ≡ kernel → ⊥) → known_if (slice_get (slice_set s.kernels (kernel - 1) new) (other - 1)) ≡ known_at other s
put_other kernel other new s low low' apart = ap known_if (get_set_other s.kernels (kernel - 1) (other - 1) new (λ e. apart (let same = e in omega arith)))

learns_cast : (before before' after after' : List Domain) (told : List Event) → before' ≡ before → after' ≡ after → LearnsSo before after told → LearnsSo before' after' told
learns_cast before before' after after' told e f h = subst (λ (ds : List Domain). LearnsSo ds after' told) (sym e) (subst (λ (ds : List Domain). LearnsSo before ds told) (sym f) h)

stepped_own : (o : Option KernelState) (kernel : ℕ) (input : Input) (next : TxNo) (s : State) → kernel_at kernel s ≡ o → LearnsSo (known_at kernel s) (known_at kernel (stepped_by kernel o input next s).0) (stepped_by kernel o input next s).1.events
stepped_own None kernel input next s e = learns_nothing (known_at kernel s)
stepped_own (Some found) kernel input next s e =
    let made = kernel_step found input next _ in
    learns_cast (known_of found) (known_at kernel s) (known_of made.0) _ made.1.events (ap known_if e) (put_own kernel found made.0 s e) (one_step found input next _)

stepped_other : (o : Option KernelState) (kernel other : ℕ) (input : Input) (next : TxNo) (s : State) → 1 ≤ kernel → 1 ≤ other → (other ≡ kernel → ⊥) → known_at other (stepped_by kernel o input next s).0 ≡ known_at other s
stepped_other None kernel other input next s low low' apart = refl
stepped_other (Some found) kernel other input next s low low' apart = put_other kernel other _ s low low' apart

image_own : (o : Option KernelState) (kernel pid : ℕ) (image : Machine) (s : State) → kernel_at kernel s ≡ o → known_at kernel (image_put_at kernel pid image o s) ≡ known_at kernel s
image_own None kernel pid image s e = refl
image_own (Some found) kernel pid image s e = put_own kernel found (image_put pid image found) s e ∙ (one_image found pid image ∙ sym (ap known_if e))

image_other : (o : Option KernelState) (kernel other pid : ℕ) (image : Machine) (s : State) → 1 ≤ kernel → 1 ≤ other → (other ≡ kernel → ⊥) → known_at other (image_put_at kernel pid image o s) ≡ known_at other s
image_other None kernel other pid image s low low' apart = refl
image_other (Some found) kernel other pid image s low low' apart = put_other kernel other _ s low low' apart

image_told : (o : Option KernelState) (kernel pid : ℕ) (image : Machine) (s : State) → (image_put_at kernel pid image o s).told ≡ s.told
image_told None kernel pid image s = refl
image_told (Some found) kernel pid image s = refl

-- within a turn of a kernel, since it began: what the kernel knows grew by what it told, and what the others know stayed
pub record Turned (kernel : ℕ) (first s : State) : Type 0 where
  pub own : LearnsSo (known_at kernel first) (known_at kernel s) s.told
  pub others : (other : ℕ) → 1 ≤ other → (other ≡ kernel → ⊥) → known_at other s ≡ known_at other first

module _ (kernel : ℕ) (low : 1 ≤ kernel) (first : State) where
  abbrev T : State → Type 0
  T s = Turned kernel first s

  noted : (event : Event) (s : State) → is_other event ≡ true → T s → T (noted_step kernel event s)
  noted event s h t = record {
    own = learns_joined (known_at kernel first) (known_at kernel s) (known_at kernel s) s.told (event ∷ []) t.own (learns_other (known_at kernel s) event h);
    others = t.others;
  }

  imaged : (pid : ℕ) (image : Machine) (s : State) → T s → T (put_image kernel pid image s)
  imaged pid image s t = record {
    own = subst (λ (told : List Event). LearnsSo (known_at kernel first) (known_at kernel (put_image kernel pid image s)) told) (sym (image_told (kernel_at kernel s) kernel pid image s))
        (subst (λ (ds : List Domain). LearnsSo (known_at kernel first) ds s.told) (sym (image_own (kernel_at kernel s) kernel pid image s refl)) t.own);
    others = λ other low' apart. image_other (kernel_at kernel s) kernel other pid image s low low' apart ∙ t.others other low' apart;
  }

  module _ {L : Type 0} (faults asked : L → ℕ → ℕ → ℕ) (c : Description) where
    took_so : (input : Input) (said : Said) (old new : Wired L) (s t : State) → TakesSo faults asked c kernel input said old new s t → T s → T t
    took_so input said old new s t so turned =
        let made = stepped kernel input said.next s in
        let there : known_at kernel t ≡ known_at kernel made.0 = ap (known_at kernel) so.state in
        let grown = learns_joined (known_at kernel first) (known_at kernel s) (known_at kernel made.0) (without_faults s.told) made.1.events (learns_without (known_at kernel first) (known_at kernel s) s.told turned.own) (stepped_own (kernel_at kernel s) kernel input said.next s refl) in
        record {
          own = learns_with (known_at kernel first) (known_at kernel t) t.told
              (subst (λ (told : List Event). LearnsSo (known_at kernel first) (known_at kernel t) told) (sym so.all) (subst (λ (ds : List Domain). LearnsSo (known_at kernel first) ds (without_faults s.told ++ made.1.events)) (sym there) grown));
          others = λ other low' apart. ap (known_at other) so.state ∙ (stepped_other (kernel_at kernel s) kernel other input said.next s low low' apart ∙ turned.others other low' apart);
        }

    given : (what : Arrived) (tx : TxNo) (old new : Wired L) (s t : State) → Given faults asked c kernel tx what old new s t → T s → T t
    given (arrived.Message input) tx old new s t g turned = took_so input g.said old g.between s t g.takes turned
    given (arrived.Again from to fate) tx old new s t g turned =
        subst T (sym g.1) (record { own = learns_faulted fate (known_at kernel first) (known_at kernel s) s.told from to turned.own; others = turned.others })
    given arrived.Old tx old new s t g turned = subst T (sym g.1) turned

    came : (o : Option PacketCopy) (number : CopyNo) (old new : Wired L) (s t : State) → Comes faults asked c kernel number o old new s t → T s → T t
    came None number old new s t g turned = subst T (sym g.1) turned
    came (Some copy) number old new s t g turned = given g.came copy.tx g.between new (noted_step kernel (delivery copy) s) t g.given (noted (delivery copy) s refl turned)

    fired : (what : Expired) (tx : TxNo) (old new : Wired L) (s t : State) → FiredAs faults asked c kernel tx what old new s t → T s → T t
    fired (expired.Resent fates) tx old new s t g turned =
        let here = noted (events.Expire tx false) s refl turned in
        subst T (sym g.1) (record { own = learns_faulted_all fates (known_at kernel first) (known_at kernel s) (noted_step kernel (events.Expire tx false) s).told kernel here.own; others = here.others })
    fired (expired.GivenUp before now) tx old new s t g turned = took_so (inputs.GaveUp tx) g.said old new _ t g.takes (noted (events.Expire tx true) s refl turned)

    expires : (b : Bool) (tx : TxNo) (old new : Wired L) (s t : State) → Expires faults asked c kernel tx b old new s t → T s → T t
    expires false tx old new s t g turned = subst T (sym g.1) turned
    expires true tx old new s t g turned = fired g.what tx g.between new s t g.then_so turned

    happened : (choice : Choice) (old new : Wired L) (s t : State) → Happens faults asked c kernel choice old new s t → T s → T t
    happened (choices.Deliver number) old new s t g turned = came (copy_to kernel old.machine number) number old new s t g turned
    happened (choices.Expire tx) old new s t g turned = expires (may_fire kernel old.machine tx) tx old new s t g turned
    happened (choices.WriteBack file block) old new s t g turned = took_so (inputs.Due file block) g.said old new s t g.takes turned

    went_on : (o : Option Input) (what : BurstOutcome) (old new : Wired L) (s t : State) → GoesOn faults asked c kernel o what old new s t → T s → T t
    went_on (Some input) (outcome.Took said) old new s t g turned = took_so input said old new s t g turned
    went_on (Some input) outcome.Done old new s t g turned = absurd g
    went_on (Some input) outcome.Stale old new s t g turned = absurd g
    went_on None outcome.Done old new s t g turned = subst T (sym g.1) turned
    went_on None (outcome.Took said) old new s t g turned = absurd g
    went_on None outcome.Stale old new s t g turned = absurd g

    -- a burst that counted
    counted : (what : BurstOutcome) (b : Burst) (old new : Wired L) (s t : State) → GoesOn faults asked c kernel (came_to kernel b b.end (recorded kernel b s)) what old new (put_image kernel b.pid b.to (recorded kernel b s)) t → T s → T t
    counted what b old new s t g turned =
        let there : State = recorded kernel b s in
        let back : T (taken_back kernel b.pid s) = record { own = turned.own; others = turned.others } in
        went_on (came_to kernel b b.end there) what old new (put_image kernel b.pid b.to there) t g (imaged b.pid b.to there (noted (events.Burst b.pid b.count) (taken_back kernel b.pid s) refl back))

    ended : (what : BurstOutcome) (b : Burst) (old new : Wired L) (s t : State) → EndsAs faults asked c kernel b what old new s t → T s → T t
    ended outcome.Stale b old new s t g turned = subst T (sym g.2) (record { own = turned.own; others = turned.others })
    ended outcome.Done b old new s t g turned = counted outcome.Done b old new s t g.1 turned
    ended (outcome.Took said) b old new s t g turned = counted (outcome.Took said) b old new s t g.1 turned

    pub choice_turns : (choice : Choice) (old new : Wired L) (t : State) → Happens faults asked c kernel choice old new (begun_turn first) t → Turned kernel first t
    choice_turns choice old new t g = happened choice old new (begun_turn first) t g (record { own = learns_nothing (known_at kernel first); others = λ other low' apart. refl })

    pub burst_turns : (what : BurstOutcome) (b : Burst) (old new : Wired L) (t : State) → EndsAs faults asked c kernel b what old new (begun_turn first) t → Turned kernel first t
    burst_turns what b old new t g = ended what b old new (begun_turn first) t g (record { own = learns_nothing (known_at kernel first); others = λ other low' apart. refl })

-- a burst that begins changes nothing that kernels know
pub begun_same : (o : Option Job) (kernel other : ℕ) (s : State) → known_at other (begun_by kernel o s) ≡ known_at other s
begun_same None kernel other s = refl
begun_same (Some job) kernel other s = refl

-- nor does one that is lost
pub lost_same : (what : BurstOutcome) {L : Type 0} (faults asked : L → ℕ → ℕ → ℕ) (c : Description) (kernel other : ℕ) (b : Burst) (old new : Wired L) (s t : State) → what ≡ outcome.Stale → EndsAs faults asked c kernel b what old new s t → known_at other t ≡ known_at other s
lost_same outcome.Stale faults asked c kernel other b old new s t is g = ap (known_at other) g.2
lost_same outcome.Done faults asked c kernel other b old new s t is g = absurd (cc)
lost_same (outcome.Took said) faults asked c kernel other b old new s t is g = absurd (cc)
