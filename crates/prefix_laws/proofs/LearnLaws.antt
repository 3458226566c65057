-- What each step of a kernel tells of prefixes.
use Rattle.std.proofs.Common.{◌≡◌, ℕ, Bool, true, false, cond, List, [], ◌∷◌, ◌++◌, Option, Some, None, option_map, refl, sym, ap, ◌∙◌, append-nil}
use Rattle.std.specs.List.{AllByRecursion, list_any}
use Rattle.sprite_ids.specs.declared.TxNo.{TxNo}
use Rattle.process_machine.specs.Machine.{Machine}
use Rattle.packet_bodies.specs.declared.ReplyBody.{ReplyBody}
use Rattle.kernel_steps.specs.declared.Input.{Input}
use Rattle.kernel_steps.specs.declared.Input.TheVariants as inputs
use Rattle.kernel_steps.specs.Rows.{is_under}
use Rattle.unix_calls.specs.declared.Description.{Description}
use Rattle.unix_calls.specs.declared.Event.{Event}
use Rattle.unix_calls.specs.declared.Event.TheVariants as events
use Rattle.unix_calls.specs.declared.SendKind.TheVariants as sendings
use Rattle.prefix_table.specs.declared.prefixes.Domain.{Domain}
use Rattle.prefix_table.specs.Prefixes.{domain, knows, learned}
use Rattle.server_kernel.specs.declared.Server.{Server}
use Rattle.server_kernel.specs.Steps as server_steps
use Rattle.client_file_tables.specs.declared.client_files.ClientFiles.{ClientFiles}
use Rattle.client_file_tables.specs.declared.names.NameWork.{NameWork}
use Rattle.client_file_tables.specs.declared.pending.Pending.{Pending}
use Rattle.client_file_tables.specs.declared.pending.Pending.TheVariants as operations
use Rattle.client_file_tables.specs.declared.states.NameState.{NameState}
use Rattle.client_file_tables.specs.declared.states.NameState.TheVariants as name_states
use Rattle.client_file_tables.specs.Rows.{first_call, first_of, less_call, less_of, same_call}
use Rattle.client_names.specs.Answers.{takes_end}
use Rattle.client_file_tables.specs.Says as says
use Rattle.client_file_tables.specs.Steps.{owns}
use Rattle.client_names.specs.Lookups as lookups
use Rattle.client_names.specs.Requests.{request_to}
use Rattle.client_streams.specs.Closing.{closed_at_server}
use Rattle.client_files.specs.Answered as answering
use Rattle.client_files.specs.Asked as asked
use Rattle.client_homes.specs.declared.client.ClientProcs.{ClientProcs}
use Rattle.client_homes.specs.declared.process.Proc.{Proc}
use Rattle.client_homes.specs.Procs.{proc_at, with_proc}
use Rattle.client_homes.specs.Says.{with_files}
use Rattle.client_procs.specs.Answered.{hears_own}
use Rattle.client_procs.specs.Boot.{boots}
use Rattle.client_procs.specs.Readers.{with_image}
use Rattle.client_procs.specs.Steps.{begins_step, client_step, takes}
use Rattle.client_procs.specs.Turning.{goes_on}
use Rattle.server_walks.specs.Served.{is_served}
use Rattle.server_walks.proofs.TellingLaws.{servers_tell}
use Rattle.prefix_laws.specs.Prefixes.{LearnsSo, learned_by_call, learned_by_operation, learned_by_process, learned_from, learned_from_answer, learned_in}
use Rattle.client_walks.proofs.Bearing.{Leads, Led, Seen, is_other, seen_of}
use Rattle.client_walks.proofs.DataBearing as data_side
use Rattle.client_walks.proofs.NameBearing as files_side
use Rattle.client_walks.proofs.StepBearing.{goes, heard, rounds, whole_step}
use Rattle.prefix_laws.proofs.Bearing.{HasLearned, Learns, learned_so, learning}
use Rattle.prefix_laws.proofs.TellsLaws.{learned_append, learns_joined, learns_nothing, learns_other}

-- ---- what is known grows by what is told

pub clients_learn : (s : ClientProcs) (input : Input) (next : TxNo) (step : ℕ) → LearnsSo s.files.prefixes (client_step s input next step).0.files.prefixes (client_step s input next step).1.events
clients_learn s input next step =
    let before : List Domain = s.files.prefixes in
    whole_step input (Learns before) (learning input before) (begins_step next step s) (learns_nothing before)

pub clients_begin : (c : Description) (kernel : ℕ) → (boots c kernel).files.prefixes ≡ []
clients_begin c kernel = refl

image_leaves : (o : Option Proc) (s : ClientProcs) (pid : ℕ) (f : Proc → Proc) → (with_proc pid (option_map f o) s).files.prefixes ≡ s.files.prefixes
image_leaves None s pid f = refl
image_leaves (Some proc) s pid f = refl

pub images_leave : (s : ClientProcs) (pid : ℕ) (image : Machine) → (with_image pid image s).files.prefixes ≡ s.files.prefixes
images_leave s pid image = image_leaves (proc_at pid s) s pid (λ proc. record proc { image = image })

-- what a server tells is nothing of prefixes
served_other : (event : Event) → is_served event ≡ true → is_other event ≡ true
served_other (events.Learned prefix server) h = absurd (cc)
served_other (events.Send tx to about (sendings.Broadcast prefix)) h = absurd (cc)
served_other event h = refl

none_learned : (told : List Event) → AllByRecursion (λ (event : Event). is_served event ≡ true) told → LearnsSo [] [] told
none_learned [] h = learns_nothing []
none_learned (event ∷ rest) h = learns_joined [] [] [] (event ∷ []) rest (learns_other [] event (served_other event h.0)) (none_learned rest h.1)

pub servers_learn : (s : Server) (input : Input) (next : TxNo) → LearnsSo [] [] (server_steps.server_step s input next).1.events
servers_learn s input next = none_learned (server_steps.server_step s input next).1.events (servers_tell s input next)

-- ---- which steps learn

no_call : TxNo
no_call = record { 0 = 0 }

-- an answer may lead into another domain, whichever remote call it answers
abbrev replied_by : ℕ → ReplyBody → Input
replied_by source body = inputs.Replied no_call source body

leads : (source : ℕ) (body : ReplyBody) → Leads (replied_by source body) body
leads source body path e = Led no_call source (ap (λ (reply : ReplyBody). inputs.Replied no_call source reply) e)

module _ (domains : List Domain) where
  -- so much was learned
  abbrev Told : ClientFiles → List Domain → Type 0
  Told s more = learned_in s.out.events ≡ domains ++ more

  abbrev Q : Seen → Type 0
  Q = HasLearned domains

  no_more : (s : ClientFiles) → Q (seen_of s) → Told s []
  no_more s q = q ∙ sym (append-nil domains)

  learns_by : (b : Bool) (prefix : List (List ℕ)) (server : ℕ) (s : ClientFiles) → Q (seen_of s) → Told (cond b s (says.notes (events.Learned prefix server) (record s { prefixes = learned s.prefixes prefix server }))) (cond b [] (domain prefix server ∷ []))
  learns_by true prefix server s q = no_more s q
  learns_by false prefix server s q = learned_append s.out.events (events.Learned prefix server ∷ []) ∙ ap (λ (ds : List Domain). ds ++ domain prefix server ∷ []) q

  call_learns : (state : NameState) (pid : ℕ) (work : NameWork) (source : ℕ) (body : ReplyBody) (s : ClientFiles) → Q (seen_of s) → Told (asked.answers_name_by state pid work source body s) (learned_by_call state source s.prefixes)
  call_learns (name_states.Broadcasting tx prefix) pid work source body s q =
      let more : List Domain = learned_by_call (name_states.Broadcasting tx prefix) source s.prefixes in
      files_side.looks_up (replied_by source body) (HasLearned (domains ++ more)) (learned_so (replied_by source body) (domains ++ more)) pid work (lookups.learns prefix source s) (learns_by (knows s.prefixes prefix) prefix source s q)
  call_learns (name_states.Echoing tx server) pid work source body s q =
      no_more (asked.answers_name_by (name_states.Echoing tx server) pid work source body s) (data_side.sent (replied_by source body) Q (learned_so (replied_by source body) domains) (request_to server pid work) sendings.Other s refl q)
  call_learns (name_states.Asking tx) pid work source body s q =
      no_more (asked.answers_name_by (name_states.Asking tx) pid work source body s) (files_side.ends_asked (replied_by source body) Q (learned_so (replied_by source body) domains) body pid work s (leads source body) q)

  operation_learns : (o : Option Pending) (pid source : ℕ) (body : ReplyBody) (s : ClientFiles) → Q (seen_of s) → Told (answering.answered_by o pid source body s) (learned_by_operation o source s.prefixes)
  operation_learns (Some (operations.Name call)) pid source body s q = call_learns call.state pid call.work source body s q
  operation_learns (Some (operations.Data call)) pid source body s q = no_more (answering.answered_by (Some (operations.Data call)) pid source body s) (data_side.answered_in (replied_by source body) Q (learned_so (replied_by source body) domains) call.state pid call body s q)
  operation_learns (Some (operations.Sync call)) pid source body s q = no_more s q
  operation_learns (Some (operations.Close work)) pid source body s q = no_more (answering.answered_by (Some (operations.Close work)) pid source body s) (data_side.close_answers (replied_by source body) Q (learned_so (replied_by source body) domains) (closed_at_server work.state) pid work s q)
  operation_learns (Some (operations.Move work)) pid source body s q = no_more (answering.answered_by (Some (operations.Move work)) pid source body s) (files_side.answers_move (replied_by source body) Q (learned_so (replied_by source body) domains) body pid work s q)
  operation_learns None pid source body s q = no_more s q

  -- where the operation takes the answer, it learns, and else nobody
  taken_learns : (b : Bool) (s t : ClientFiles) (more : List Domain) → Told t more → Told s [] → Told (cond b t s) (cond b more [])
  taken_learns true s t more learns stays = learns
  taken_learns false s t more learns stays = stays

  process_learns : (o : Option ℕ) (tx : TxNo) (source : ℕ) (body : ReplyBody) (s : ClientFiles) → Q (seen_of s) → Told (answering.answered_first o tx source body s) (learned_by_process o tx source s.pending s.prefixes)
  process_learns (Some pid) tx source body s q =
      taken_learns (takes_end tx (first_of pid s.pending)) s _ _ (operation_learns (first_of pid s.pending) pid source body (record s { pending = less_of pid s.pending }) q) (no_more s q)
  process_learns None tx source body s q = no_more s q

  answer_by : (b : Bool) (tx : TxNo) (source : ℕ) (body : ReplyBody) (s t : ClientFiles) → Q (seen_of t) → Q (seen_of s) → Told (cond b t (answering.answered_first (first_call tx s.txs) tx source body (record s { txs = less_call tx s.txs }))) (cond b [] (learned_by_process (first_call tx s.txs) tx source s.pending s.prefixes))
  answer_by true tx source body s t back q = no_more t back
  answer_by false tx source body s t back q = process_learns (first_call tx s.txs) tx source body (record s { txs = less_call tx s.txs }) q

  pub answer_learns : (tx : TxNo) (source : ℕ) (body : ReplyBody) (s : ClientFiles) → learned_in s.out.events ≡ domains → learned_in (answering.answered tx source body s).out.events ≡ domains ++ learned_from_answer tx source s
  answer_learns tx source body s q = answer_by (list_any (is_under same_call tx) s.write_backs) tx source body s _ (data_side.written_back (replied_by source body) Q (learned_so (replied_by source body) domains) tx body s q) q

-- no answer to a remote call of the files' side comes by another input
abbrev Apart : Input → Type 0
Apart input = (tx : TxNo) (source : ℕ) (body : ReplyBody) → input ≡ inputs.Replied tx source body → ⊥

goes_apart : (input : Input) → Apart input → (s : ClientProcs) → learned_in s.files.out.events ≡ [] → learned_in (goes_on (takes input s)).files.out.events ≡ []
goes_apart input apart s q = goes input (HasLearned []) (learned_so input []) (λ tx source body t e p. absurd (apart tx source body e)) s q

-- the rounds of a step have no such answer
abbrev given_up : Input
given_up = inputs.GaveUp no_call

due_apart : Apart given_up
due_apart tx source body e = absurd (cc)

rounds_so : (domains : List Domain) (s : ClientProcs) → learned_in s.files.out.events ≡ domains → learned_in (goes_on s).files.out.events ≡ domains
rounds_so domains s q = rounds given_up (HasLearned domains) (learned_so given_up domains) (λ tx source body t e p. absurd (due_apart tx source body e)) s q

heard_so : (tx : TxNo) (body : ReplyBody) (s : ClientProcs) → learned_in s.files.out.events ≡ [] → learned_in (hears_own tx body s).files.out.events ≡ []
heard_so tx body s q = heard given_up (HasLearned []) (learned_so given_up []) (λ tx source body t e p. absurd (due_apart tx source body e)) tx body s q

replied_so : (b : Bool) (tx : TxNo) (source : ℕ) (body : ReplyBody) (s : ClientProcs) → learned_in s.files.out.events ≡ [] → learned_in (goes_on (cond b (with_files (answering.answered tx source body s.files) s) (hears_own tx body s))).files.out.events ≡ cond b (learned_from_answer tx source s.files) []
replied_so true tx source body s q = rounds_so (learned_from_answer tx source s.files) (with_files (answering.answered tx source body s.files) s) (answer_learns [] tx source body s.files q)
replied_so false tx source body s q = rounds_so [] (hears_own tx body s) (heard_so tx body s q)

taken_so : (input : Input) (s : ClientProcs) → learned_in s.files.out.events ≡ [] → learned_in (goes_on (takes input s)).files.out.events ≡ learned_from input s.files
taken_so (inputs.Replied tx source body) s q = replied_so (owns tx s.files) tx source body s q
taken_so (inputs.Issued pid number call) s q = goes_apart (inputs.Issued pid number call) (λ tx source body e. absurd (cc)) s q
taken_so (inputs.Request tx source body) s q = goes_apart (inputs.Request tx source body) (λ other from reply e. absurd (cc)) s q
taken_so (inputs.GaveUp tx) s q = goes_apart (inputs.GaveUp tx) (λ other source body e. absurd (cc)) s q
taken_so (inputs.Due file block) s q = goes_apart (inputs.Due file block) (λ tx source body e. absurd (cc)) s q
taken_so (inputs.PageNeeded pid page) s q = goes_apart (inputs.PageNeeded pid page) (λ tx source body e. absurd (cc)) s q

pub clients_answered : (s : ClientProcs) (input : Input) (next : TxNo) (step : ℕ) → learned_in (client_step s input next step).1.events ≡ learned_from input s.files
clients_answered s input next step = begun_same input s next step (taken_so input (begins_step next step s) refl)
  where
    begun_same : (input : Input) (s : ClientProcs) (next : TxNo) (step : ℕ) → learned_in (client_step s input next step).1.events ≡ learned_from input (begins_step next step s).files → learned_in (client_step s input next step).1.events ≡ learned_from input s.files
    begun_same (inputs.Replied tx source body) s next step h = h
    begun_same input s next step h = h
