-- What the trace of a reached cluster tells of what was learned.
use Rattle.std.proofs.Common.{◌≡◌, ℕ, ◌≤◌, ◌==◌, Bool, true, false, cond, List, [], ◌∷◌, Option, Some, None, refl, subst}
use Rattle.std.proofs.lemmas.Bool.{eq-eqb}
use Rattle.std.specs.List.{AllByRecursion}
use Rattle.sprite_ids.proofs.ListLaws.{each_of_append}
use Rattle.unix_calls.specs.declared.Description.{Description}
use Rattle.unix_calls.specs.declared.Event.{Event}
use Rattle.unix_calls.specs.declared.Event.TheVariants as events
use Rattle.unix_calls.specs.declared.Rec.{Rec}
use Rattle.prefix_table.specs.declared.prefixes.Domain.{Domain}
use Rattle.client_homes.specs.declared.ClientProcs.{ClientProcs}
use Rattle.cluster_kernels.specs.States.{client_at}
use Rattle.prefix_laws.specs.Prefixes.{domain_in, learned_in}
use Rattle.reached_laws.specs.Records.{IsByKernel}
use Rattle.reached_laws.proofs.RecordLaws.{records_by_kernels}
use Rattle.reached_prefixes.specs.Known.{known_in, learned_by, told_by}
use Rattle.reached_prefixes.proofs.KnownLaws.{kernels_know}
use Rattle.sprite_cluster.specs.Reached.{At, Reached}
use Rattle.reached_domains.specs.Domains.{LearnedAreDomains, LearnsDomains, is_domain, learns_domain}
use Rattle.reached_domains.proofs.RowLaws.{AreDomains, rows_are_domains}

-- ---- of each kernel by itself

-- the one domain that an event tells was learned
event_tells : (c : Description) (event : Event) → AreDomains c (domain_in event) → learns_domain c event ≡ true
event_tells c (events.Learned prefix server) are = are.0
event_tells c event are = refl

-- each kernel's, of the records behind the first
rest_are : (here : Bool) (c : Description) (event : Event) (told : List Event) → AreDomains c (learned_in (cond here (event ∷ told) told)) → AreDomains c (learned_in told)
rest_are true c event told are = (each_of_append (λ (domain : Domain). is_domain c domain ≡ true) (domain_in event) (learned_in told) are).1
rest_are false c event told are = are

first_tells : (here : Bool) (c : Description) (event : Event) (told : List Event) → here ≡ true → AreDomains c (learned_in (cond here (event ∷ told) told)) → learns_domain c event ≡ true
first_tells true c event told own are = event_tells c event (each_of_append (λ (domain : Domain). is_domain c domain ≡ true) (domain_in event) (learned_in told) are).0
first_tells false c event told own are = absurd (cc)

-- where what each kernel learned are domains, each record tells so
all_tell : (c : Description) (trace : List Rec) → AllByRecursion IsByKernel trace → ((kernel : ℕ) → 1 ≤ kernel → AreDomains c (learned_by kernel trace)) → LearnsDomains c trace
all_tell c [] by are = tt
all_tell c (rec ∷ rest) by are = (
  first_tells (rec.kernel == rec.kernel) c rec.event (told_by rec.kernel rest) (eq-eqb rec.kernel rec.kernel refl) (are rec.kernel by.0.0),
  all_tell c rest by.1 (λ kernel low. rest_are (rec.kernel == kernel) c rec.event (told_by kernel rest) (are kernel low)),
)

-- ---- of a reached cluster

module _ {L : Type 0} (faults asked : L → ℕ → ℕ → ℕ) (c : Description) (begun : L) (now : At L) (reached : Reached faults asked c begun now) where
  known_are : (o : Option ClientProcs) (kernel : ℕ) → 1 ≤ kernel → client_at kernel now.state ≡ o → AreDomains c (known_in o)
  known_are None kernel low e = tt
  known_are (Some client) kernel low e = rows_are_domains faults asked c begun now kernel client low reached e

  learned_are : (kernel : ℕ) → 1 ≤ kernel → AreDomains c (learned_by kernel now.trace)
  learned_are kernel low = subst (AreDomains c) (kernels_know faults asked c begun now kernel low reached).grown (known_are (client_at kernel now.state) kernel low refl)

pub learned_domains : {L : Type 0} (faults asked : L → ℕ → ℕ → ℕ) → LearnedAreDomains faults asked
learned_domains {L} faults asked c begun now reached = all_tell c now.trace (records_by_kernels faults asked c begun now reached) (learned_are faults asked c begun now reached)
