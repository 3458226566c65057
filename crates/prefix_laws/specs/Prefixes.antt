-- What kernels tell of prefixes: which servers they learn, and for which they ask.
use Rattle.std.specs.Prelude.{◌≡◌, ℕ, Bool, true, not, if◌then◌else◌, List, [], ◌∷◌, ◌++◌, Option, Some, None}
use Rattle.std.specs.List.{list_any}
use Rattle.sprite_ids.specs.declared.TxNo.{TxNo}
use Rattle.kernel_steps.specs.declared.Input.{Input}
use Rattle.kernel_steps.specs.declared.Input.TheVariants as inputs
use Rattle.kernel_steps.specs.Rows.{is_under}
use Rattle.prefix_table.specs.declared.prefixes.Domain.{Domain}
use Rattle.prefix_table.specs.Prefixes.{domain, knows}
use Rattle.unix_calls.specs.declared.Event.{Event}
use Rattle.unix_calls.specs.declared.Event.TheVariants as events
use Rattle.unix_calls.specs.declared.SendKind.TheVariants.{Broadcast}
use Rattle.client_file_tables.specs.declared.ClientFiles.{ClientFiles}
use Rattle.client_file_tables.specs.declared.NameState.{NameState}
use Rattle.client_file_tables.specs.declared.NameState.TheVariants.{Broadcasting}
use Rattle.client_file_tables.specs.declared.Pending.{Pending}
use Rattle.client_file_tables.specs.declared.Pending.TheVariants.{Name}
use Rattle.client_file_tables.specs.Rows.{first_call, first_of, same_call}
use Rattle.client_names.specs.Answers.{takes_end}
use Rattle.client_file_tables.specs.Steps.{owns}

-- the domain of which an event tells that it was learned, where it tells that
abbrev pub domain_in : Event → List Domain
domain_in (events.Learned prefix server) = domain prefix server ∷ []
domain_in event = []

-- the domains of which some events tell so, in their order
abbrev pub learned_in : List Event → List Domain
learned_in [] = []
learned_in (event ∷ rest) = domain_in event ++ learned_in rest

-- whether what an event tells of a prefix is of one that isn't known: servers are asked for such a one, and such a one is learned
abbrev pub is_of_unknown : List Domain → Event → Bool
is_of_unknown known (events.Learned prefix server) = not (knows known prefix)
is_of_unknown known (events.Send tx to about (Broadcast prefix)) = not (knows known prefix)
is_of_unknown known event = true

-- each of some events is so where it stands: behind what the events before it tell was learned, and what was known before them
abbrev pub AreOfUnknown : List Domain → List Event → Type 0
AreOfUnknown known [] = Unit {0}
AreOfUnknown known (event ∷ rest) = (is_of_unknown known event ≡ true) × AreOfUnknown (known ++ domain_in event) rest

-- what is known before some events, and after them: behind what was known stands what they tell was learned, and nothing else; and no
-- prefix is asked for or learned that was known then
pub record LearnsSo (before after : List Domain) (told : List Event) : Type 0 where
  pub grown : after ≡ before ++ learned_in told
  pub unknown : AreOfUnknown before told

-- what an answer from that server teaches a name call that waits so: the answer to a broadcast the prefix, where that isn't known
abbrev pub learned_by_call : NameState → ℕ → List Domain → List Domain
learned_by_call (Broadcasting tx prefix) server known = if knows known prefix then [] else domain prefix server ∷ []
learned_by_call state server known = []

-- and a looked-up operation
abbrev pub learned_by_operation : Option Pending → ℕ → List Domain → List Domain
learned_by_operation (Some (Name call)) server known = learned_by_call call.state server known
learned_by_operation operation server known = []

-- and that of a looked-up process, where it takes the answer to that call
abbrev pub learned_by_process : Option ℕ → TxNo → ℕ → List (ℕ × Pending) → List Domain → List Domain
learned_by_process None tx server operations known = []
learned_by_process (Some pid) tx server operations known = if takes_end tx (first_of pid operations) then learned_by_operation (first_of pid operations) server known else []

-- what the answer to a remote call teaches, which isn't a write-back: the operation for which it went learns
abbrev pub learned_from_answer : TxNo → ℕ → ClientFiles → List Domain
learned_from_answer tx server s = if list_any (is_under same_call tx) s.write_backs then [] else learned_by_process (first_call tx s.txs) tx server s.pending s.prefixes

-- what a client learns from what comes: from an answer to a remote call of its files' side, and from nothing else
abbrev pub learned_from : Input → ClientFiles → List Domain
learned_from (inputs.Replied tx source body) s = if owns tx s then learned_from_answer tx source s else []
learned_from input s = []
