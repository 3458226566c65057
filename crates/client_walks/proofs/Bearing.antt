-- What a fact of a client's files' side must bear, of its servers, its operations and its prefixes and of what its step has said so far, where
-- that input came: that things are told, that requests go out and are answered, that operations wait and are taken out, and that a name call
-- waits for what goes out for it; and, where an answer to a broadcast comes, that a prefix is learned.
use Rattle.std.proofs.Common.{◌≡◌, ℕ, Bool, true, false, List, [], ◌∷◌, ◌++◌, map, Some, refl}
use Rattle.sprite_ids.specs.declared.Tries.TheVariants.{Eight}
use Rattle.sprite_ids.specs.declared.TxNo.{TxNo}
use Rattle.packet_bodies.specs.declared.ReplyBody.{ReplyBody}
use Rattle.packet_bodies.specs.declared.ReplyBody.TheVariants.{Redirect}
use Rattle.packet_bodies.specs.declared.Request.TheVariants.{Prefix}
use Rattle.home_table.specs.Home.{Table}
use Rattle.kernel_steps.specs.declared.Input.{Input}
use Rattle.kernel_steps.specs.declared.Input.TheVariants.{Replied}
use Rattle.kernel_steps.specs.declared.Sending.{Sending}
use Rattle.kernel_steps.specs.Outs.{number_after, send_event}
use Rattle.unix_calls.specs.declared.Entry.{Entry}
use Rattle.unix_calls.specs.declared.Event.{Event}
use Rattle.unix_calls.specs.declared.Event.TheVariants as events
use Rattle.unix_calls.specs.declared.KernelLine.{KernelLine}
use Rattle.unix_calls.specs.declared.SendKind.{SendKind}
use Rattle.unix_calls.specs.declared.SendKind.TheVariants.{Broadcast, Other}
use Rattle.call_journal.specs.Unreachable.{is_unreachable_entry}
use Rattle.prefix_table.specs.declared.prefixes.Domain.{Domain}
use Rattle.prefix_table.specs.Prefixes.{knows, learned}
use Rattle.client_file_tables.specs.declared.client_files.ClientFiles.{ClientFiles}
use Rattle.client_file_tables.specs.declared.names.NameWork.{NameWork}
use Rattle.client_file_tables.specs.declared.pending.Pending.{Pending}
use Rattle.client_file_tables.specs.declared.pending.Pending.TheVariants as operations
use Rattle.client_file_tables.specs.declared.states.NameState.{NameState}
use Rattle.client_file_tables.specs.declared.states.NameState.TheVariants as states
use Rattle.client_file_tables.specs.Rows.{first_of, less_of}
use Rattle.client_file_tables.specs.Says.{about_of}
use Rattle.client_homes.specs.declared.client.ClientProcs.{ClientProcs}
use Rattle.client_homes.specs.declared.client.Leaving.{Leaving}
use Rattle.client_homes.specs.declared.client.Parked.{Parked}
use Rattle.client_names.specs.Requests.{echo_to, request_to}
use Rattle.client_walks.specs.Answers.{is_redirect}
use Rattle.client_walks.proofs.ReplyLaws.{Caused}

-- what such a fact sees: the servers of the cluster, the operations that wait, the prefixes that are known, the next number, and the requests,
-- the events and the answers of the step
pub record Seen : Type 0 where
  pub servers : List ℕ
  pub rows : List (ℕ × Pending)
  pub known : List Domain
  pub next : TxNo
  pub sends : List Sending
  pub told : List Event
  pub answers : List (TxNo × ReplyBody)

abbrev pub seen_of : ClientFiles → Seen
seen_of s = record { servers = s.servers; rows = s.pending; known = s.prefixes; next = s.out.next; sends = s.out.sends; told = s.out.events; answers = s.out.answers }

-- whether an event tells nothing of prefixes; whether it is neither an entry nor a request either; and whether a request asks for no prefix
abbrev pub is_other : Event → Bool
is_other (events.Learned prefix server) = false
is_other (events.Send tx to about (Broadcast prefix)) = false
is_other event = true

abbrev pub is_quiet : Event → Bool
is_quiet (events.Learned prefix server) = false
is_quiet (events.Send tx to about kind) = false
is_quiet (events.Enter entry) = false
is_quiet event = true

abbrev pub asks_none : SendKind → Bool
asks_none (Broadcast prefix) = false
asks_none kind = true

pub quiet_other : (event : Event) → is_quiet event ≡ true → is_other event ≡ true
quiet_other (events.Learned prefix server) h = absurd (cc)
quiet_other (events.Send tx to about kind) h = absurd (cc)
quiet_other event h = refl

-- whether an operation is no name call's
abbrev pub is_plain : Pending → Bool
is_plain (operations.Name call) = false
is_plain operation = true

-- the operation of a name call that waits so
abbrev pub waiting_so : NameWork → NameState → Pending
waiting_so work state = operations.Name (record { work = work; state = state })

-- what a broadcast asks of these servers
abbrev pub broadcast_to : List ℕ → ℕ → NameWork → List (List ℕ) → Sending
broadcast_to servers pid work prefix = record { to = servers; tries = Eight; about = Some (about_of pid work.number); body = Prefix prefix }

-- why servers are asked for a prefix, where that input came: it is the root, or a server's answer leads there
pub data MayAsk (came : Input) (prefix : List (List ℕ)) : Type 0 where
  Root : prefix ≡ [] → MayAsk came prefix
  Led : (tx : TxNo) (source : ℕ) → came ≡ Replied tx source (Redirect prefix) → MayAsk came prefix

-- and where an answer leads into another domain, its server may be asked for
abbrev pub Leads : Input → ReplyBody → Type 0
Leads came body = (path : List (List ℕ)) → body ≡ Redirect path → MayAsk came path

-- one more of each
abbrev pub told_more : Seen → Event → Seen
told_more seen event = record seen { told = seen.told ++ event ∷ [] }

abbrev pub sent_more : Seen → Sending → SendKind → Seen
sent_more seen sending kind = record seen {
  next = number_after seen.next;
  sends = seen.sends ++ sending ∷ [];
  told = seen.told ++ map (send_event seen.next sending.about kind) sending.to;
}

abbrev pub answered_more : Seen → TxNo → ReplyBody → Seen
answered_more seen tx body = record seen { answers = seen.answers ++ (tx, body) ∷ [] }

abbrev pub kept_more : Seen → ℕ → Pending → Seen
kept_more seen pid operation = record seen { rows = seen.rows ++ (pid, operation) ∷ [] }

-- a name call waits so for what went out for it
abbrev pub waits_more : Seen → Sending → SendKind → ℕ → NameWork → NameState → Seen
waits_more seen sending kind pid work state = kept_more (sent_more seen sending kind) pid (waiting_so work state)

-- and what else of its kernel a fact may see: what is known of the processes of this home, and who leaves
pub record HomeSide : Type 0 where
  pub kernel : ℕ
  pub kernels : List KernelLine
  pub home : Table
  pub waits : List (ℕ × Parked)
  pub leaving : List (ℕ × Leaving)

abbrev pub home_side : ClientProcs → HomeSide
home_side s = record { kernel = s.kernel; kernels = s.kernels; home = s.home; waits = s.waits; leaving = s.leaving }

pub record BearsTelling (came : Input) (Q : Seen → Type 0) : Type 0 where
  pub tells : (seen : Seen) (event : Event) → is_quiet event ≡ true → Q seen → Q (told_more seen event)
  pub enters : (seen : Seen) (entry : Entry) → Caused came (is_unreachable_entry entry) → Q seen → Q (told_more seen (events.Enter entry))
  pub says : (seen : Seen) (sending : Sending) (kind : SendKind) → asks_none kind ≡ true → Q seen → Q (sent_more seen sending kind)
  pub answers : (seen : Seen) (tx : TxNo) (body : ReplyBody) → is_redirect body ≡ false → Q seen → Q (answered_more seen tx body)
  pub keeps : (seen : Seen) (pid : ℕ) (operation : Pending) → is_plain operation ≡ true → Q seen → Q (kept_more seen pid operation)
  pub left : (seen : Seen) (pid : ℕ) → Q seen → Q (record seen { rows = less_of pid seen.rows })
  pub puts_back : (seen : Seen) (pid : ℕ) (operation : Pending) → first_of pid seen.rows ≡ Some operation → Q seen → Q (record seen { rows = less_of pid seen.rows ++ (pid, operation) ∷ [] })
  pub broadcasts : (seen : Seen) (pid : ℕ) (work : NameWork) (prefix : List (List ℕ)) → MayAsk came prefix → knows seen.known prefix ≡ false → Q seen
      → Q (waits_more seen (broadcast_to seen.servers pid work prefix) (Broadcast prefix) pid work (states.Broadcasting seen.next prefix))
  pub echoes : (seen : Seen) (pid : ℕ) (work : NameWork) (server : ℕ) → Q seen → Q (waits_more seen (echo_to server pid work) Other pid work (states.Echoing seen.next server))
  pub asks : (seen : Seen) (pid : ℕ) (work : NameWork) (server : ℕ) → Q seen → Q (waits_more seen (request_to server pid work) Other pid work (states.Asking seen.next))

pub record Bears (came : Input) (Q : Seen → Type 0) : Type 0 where
  pub telling : BearsTelling came Q
  pub learns : (seen : Seen) (prefix : List (List ℕ)) (server : ℕ) → knows seen.known prefix ≡ false → Q seen → Q (record (told_more seen (events.Learned prefix server)) { known = learned seen.known prefix server })
