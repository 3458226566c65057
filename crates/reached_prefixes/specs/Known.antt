-- What the kernels of a reached cluster know of prefixes, and what its trace tells of that.
use Rattle.std.specs.Prelude.{◌≡◌, ℕ, ◌≤◌, ◌==◌, Bool, true, not, if◌then◌else◌, List, [], ◌∷◌, Option, Some, None}
use Rattle.unix_calls.specs.declared.Description.{Description}
use Rattle.unix_calls.specs.declared.Event.{Event}
use Rattle.unix_calls.specs.declared.Event.TheVariants as events
use Rattle.unix_calls.specs.declared.Rec.{Rec}
use Rattle.call_journal.specs.Past.{Past, each_record}
use Rattle.call_journal.specs.PrefixBroadcasts.{has_learned, prefixes_are_broadcast_until_learned}
use Rattle.prefix_table.specs.declared.prefixes.Domain.{Domain}
use Rattle.prefix_table.specs.Prefixes.{knows}
use Rattle.client_homes.specs.declared.client.ClientProcs.{ClientProcs}
use Rattle.cluster_kernels.specs.declared.State.{State}
use Rattle.cluster_kernels.specs.States.{client_at}
use Rattle.prefix_laws.specs.Prefixes.{LearnsSo, learned_in}
use Rattle.sprite_cluster.specs.Reached.{At, Reached}

-- what a kernel told, of all records of a trace
abbrev pub told_by : ℕ → List Rec → List Event
told_by kernel [] = []
told_by kernel (rec ∷ rest) = if rec.kernel == kernel then rec.event ∷ told_by kernel rest else told_by kernel rest

-- the domains that the kernel told were learned, in their order
abbrev pub learned_by : ℕ → List Rec → List Domain
learned_by kernel trace = learned_in (told_by kernel trace)

-- what a looked-up client knows; a server knows nothing of prefixes, nor does a kernel that isn't there
abbrev pub known_in : Option ClientProcs → List Domain
known_in None = []
known_in (Some client) = client.files.prefixes

-- and the kernel of that number
abbrev pub known_at : ℕ → State → List Domain
known_at kernel s = known_in (client_at kernel s)

-- what each kernel of a reached cluster knows is exactly what it told was learned; and each kernel asked for a prefix, and learned one,
-- only where it didn't know that prefix
abbrev pub KernelsKnowWhatTheyLearned : {L : Type 0} → (L → ℕ → ℕ → ℕ) → (L → ℕ → ℕ → ℕ) → Type 0
KernelsKnowWhatTheyLearned {L} faults asked =
    (c : Description) (begun : L) (now : At L) (kernel : ℕ) → 1 ≤ kernel → Reached faults asked c begun now → LearnsSo [] (known_at kernel now.state) (told_by kernel now.trace)

-- the rows of each client's prefix table are the domains of its Learned records, in their order
abbrev pub RowsAreLearned : {L : Type 0} → (L → ℕ → ℕ → ℕ) → (L → ℕ → ℕ → ℕ) → Type 0
RowsAreLearned {L} faults asked =
    (c : Description) (begun : L) (now : At L) (kernel : ℕ) (client : ClientProcs) → 1 ≤ kernel → Reached faults asked c begun now → client_at kernel now.state ≡ Some client → client.files.prefixes ≡ learned_by kernel now.trace

-- so a client knows a prefix exactly where the trace tells that it learned it
abbrev pub KnownAreTold : {L : Type 0} → (L → ℕ → ℕ → ℕ) → (L → ℕ → ℕ → ℕ) → Type 0
KnownAreTold {L} faults asked =
    (c : Description) (begun : L) (now : At L) (kernel : ℕ) (client : ClientProcs) (prefix : List (List ℕ)) → 1 ≤ kernel → Reached faults asked c begun now → client_at kernel now.state ≡ Some client → knows client.files.prefixes prefix ≡ has_learned kernel prefix now.trace

-- a prefix is learned only where the kernel hasn't learned it
abbrev pub is_learned_first : Past → ℕ → Event → Bool
is_learned_first past kernel (events.Learned prefix server) = not (has_learned kernel prefix past.records)
is_learned_first past kernel event = true

-- so is each of a trace
abbrev pub prefixes_are_learned_once : Description → List Rec → Bool
prefixes_are_learned_once c trace = each_record c (λ past rec rest. is_learned_first past rec.kernel rec.event) trace

-- in the trace of a reached cluster a prefix is asked for only until it is learned, and learned once by each kernel
abbrev pub BroadcastUntilLearned : {L : Type 0} → (L → ℕ → ℕ → ℕ) → (L → ℕ → ℕ → ℕ) → Type 0
BroadcastUntilLearned {L} faults asked = (c : Description) (begun : L) (now : At L) → Reached faults asked c begun now → prefixes_are_broadcast_until_learned c now.trace ≡ true

abbrev pub LearnedOnce : {L : Type 0} → (L → ℕ → ℕ → ℕ) → (L → ℕ → ℕ → ℕ) → Type 0
LearnedOnce {L} faults asked = (c : Description) (begun : L) (now : At L) → Reached faults asked c begun now → prefixes_are_learned_once c now.trace ≡ true
