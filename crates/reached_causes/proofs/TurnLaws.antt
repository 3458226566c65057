-- What a turn of a kernel says of remote calls, and which servers it calls unreachable.
use Rattle.std.proofs.Common.{arith, ◌≡◌, ℕ, ◌+◌, ◌-◌, ◌≤◌, Bool, true, false, ◌&&◌, not, cond, List, [], ◌∷◌, ◌++◌, length, Option, Some, None, option_map, slice_get, slice_set, refl, sym, ap, ◌∙◌, subst, append_assoc, append-nil}
use Rattle.sprite_ids.specs.declared.BlockNo.{BlockNo}
use Rattle.sprite_ids.specs.declared.CopyNo.{CopyNo}
use Rattle.sprite_ids.specs.declared.FileId.{FileId}
use Rattle.sprite_ids.specs.declared.Errno.{Errno}
use Rattle.sprite_ids.specs.declared.Errno.TheVariants as errnos
use Rattle.sprite_ids.specs.declared.TxNo.{TxNo}
use Rattle.sprite_ids.proofs.ListLaws.{get_set_other, get_set_same, get_within, some_is}
use Rattle.link_plan.specs.declared.Fate.{Fate}
use Rattle.link_plan.specs.declared.Fate.TheVariants.{Once, Lost, Twice, Late}
use Rattle.process_machine.specs.declared.BurstEnd.{BurstEnd}
use Rattle.process_machine.specs.declared.BurstEnd.TheVariants as burst_ends
use Rattle.process_machine.specs.declared.Call.{Call as SystemCall}
use Rattle.process_machine.specs.declared.Call.TheVariants as calls
use Rattle.process_machine.specs.Calls.{call_at}
use Rattle.process_machine.specs.Limits.{IsRefusal, IsWithinLimits}
use Rattle.process_machine.specs.Machine as processes
use Rattle.process_machine.proofs.LimitLaws.{call_within_limits}
use Rattle.kernel_rpc.specs.declared.Arrival.{Arrival}
use Rattle.kernel_rpc.specs.declared.Arrival.TheVariants.{FirstRequest, FirstReply, AskedAgain, Past}
use Rattle.kernel_rpc.specs.declared.Call.{Call}
use Rattle.kernel_rpc.specs.declared.Expired.{Expired}
use Rattle.kernel_rpc.specs.declared.Expired.TheVariants as expired
use Rattle.kernel_rpc.specs.declared.PacketCopy.{PacketCopy}
use Rattle.kernel_rpc.specs.Bodies.{IsMessage, reply_of}
use Rattle.kernel_rpc.specs.Machine.{Machine, arrival, call_of, may_be_silent}
use Rattle.kernel_rpc.specs.Runs.{Act, Deliver, Expire, Silence}
use Rattle.kernel_rpc.specs.Sound.{Wired}
use Rattle.kernel_rpc.specs.Steps.{IsStep, sent_in}
use Rattle.packet_bodies.specs.declared.Body.{Body}
use Rattle.packet_bodies.specs.declared.Body.TheVariants as bodies
use Rattle.packet_bodies.specs.declared.ReplyBody.{ReplyBody}
use Rattle.packet_bodies.specs.declared.ReplyBody.TheVariants.{Redirect}
use Rattle.wire_format.specs.declared.Packet.{Packet}
use Rattle.wire_format.specs.Packets.{reading}
use Rattle.kernel_steps.specs.declared.Input.{Input}
use Rattle.kernel_steps.specs.declared.Input.TheVariants as inputs
use Rattle.unix_calls.specs.declared.Description.{Description}
use Rattle.unix_calls.specs.declared.Entry.{Entry}
use Rattle.unix_calls.specs.declared.Event.{Event}
use Rattle.unix_calls.specs.declared.Event.TheVariants as events
use Rattle.call_journal.specs.Calls.{is_domain, is_unreachable_error}
use Rattle.client_file_tables.specs.declared.Pending.{Pending}
use Rattle.client_homes.specs.declared.ClientProcs.{ClientProcs}
use Rattle.client_homes.specs.declared.Proc.{Proc}
use Rattle.client_homes.specs.Procs.{proc_at, with_proc}
use Rattle.client_procs.specs.Steps.{client_step}
use Rattle.cluster_wire.specs.Arriving.{Brings, SilentIf, asks_prefix, copy_to, given_in, reply_in}
use Rattle.cluster_wire.specs.Arriving as arriving
use Rattle.cluster_wire.specs.Firing.{is_last_in, may_fire}
use Rattle.cluster_wire.specs.Firing as firing
use Rattle.cluster_wire.specs.Noted.{faulted, faulted_all, is_fault, noted_all, noted_one, packet_of, left_after, without_faults}
use Rattle.cluster_wire.specs.declared.Arrived.{Arrived}
use Rattle.cluster_wire.specs.declared.Arrived.TheVariants as arrived
use Rattle.cluster_wire.specs.declared.Said.{Said}
use Rattle.cluster_wire.specs.declared.Sent.{Sent}
use Rattle.cluster_kernels.specs.declared.KernelState.{KernelState}
use Rattle.cluster_kernels.specs.declared.KernelState.TheVariants as kernels
use Rattle.cluster_kernels.specs.declared.State.{State}
use Rattle.cluster_kernels.specs.Kernels.{image_put, kernel_step}
use Rattle.cluster_kernels.specs.States.{as_client, client_at, client_in, count_at, image_put_at, kernel_at, noted_step, put_image, stepped, stepped_by}
use Rattle.cluster_steps.specs.Steps.{TakesSo}
use Rattle.cluster_choices.specs.declared.Choice.{Choice}
use Rattle.cluster_choices.specs.declared.Choice.TheVariants as choices
use Rattle.cluster_choices.specs.Acts.{Comes, Expires, FiredAs, Given, Happens, delivery}
use Rattle.cluster_bursts.specs.declared.Burst.{Burst}
use Rattle.cluster_bursts.specs.declared.BurstOutcome.{BurstOutcome}
use Rattle.cluster_bursts.specs.declared.BurstOutcome.TheVariants as outcome
use Rattle.cluster_bursts.specs.Bursts.{EndsAs, GoesOn, came_to, issued, recorded, taken_back}
use Rattle.client_file_tables.specs.declared.NameState.{NameState}
use Rattle.client_file_tables.specs.declared.NameState.TheVariants as states
use Rattle.client_file_tables.specs.declared.Pending.TheVariants as operations
use Rattle.sprite_cluster.specs.Steps.{begun_turn}
use Rattle.broadcast_laws.proofs.AskLaws.{step_asks}
use Rattle.broadcast_laws.proofs.Asking.{OperationAsks, RowsAsk, StateAsks}
use Rattle.cause_entries.specs.Causes.{brings_refused, given_up_from, is_refused_so, unreachable_in}
use Rattle.cause_entries.specs.Sayings.{SaysSo}
use Rattle.cause_entries.proofs.CauseLaws.{clients_call, is_loud, not_loud, one_more, unreachable_append}
use Rattle.cause_entries.proofs.ServerCauses.{servers_call}
use Rattle.cause_entries.proofs.SaidLaws.{clients_say, quiet_said}
use Rattle.reached_causes.proofs.RunLaws.{out_begun}
use Rattle.reached_causes.proofs.SayingLaws.{says_later, says_with, says_without, unreachable_without}
use Rattle.reached_domains.proofs.TurnLaws.{message_is, not_again}
use Rattle.cluster_wire_laws.proofs.SixLaws.{begun_grows}

-- ---- a kernel

-- what is said of a looked-up client's remote calls; a server has no name calls
abbrev pub SaidIn : Description → List Event → ℕ → Option ClientProcs → Type 0
SaidIn c told next None = Unit {0}
SaidIn c told next (Some client) = SaysSo (is_domain c) told next client.files.pending

-- which entries of a looked-up client call a server unreachable
abbrev pub entries_of : Input → Option ClientProcs → List Entry
entries_of input None = []
entries_of input (Some client) = given_up_from input client.files

-- an input by which no call is given up
pub record IsCalm (c : Description) (input : Input) : Type 0 where
  pub safe : brings_refused input ≡ false
  pub none : (o : Option ClientProcs) → entries_of input o ≡ []
  pub redirected : (tx : TxNo) (source : ℕ) (path : List (List ℕ)) → input ≡ inputs.Replied tx source (Redirect path) → is_domain c path ≡ true

said_later : (o : Option ClientProcs) (c : Description) (told : List Event) (next now : ℕ) → next ≤ now → SaidIn c told next o → SaidIn c told now o
said_later None c told next now less h = tt
said_later (Some client) c told next now less h = says_later (is_domain c) told next now client.files.pending less h

pub said_on : (o : Option ClientProcs) (c : Description) (told : List Event) (next now : ℕ) → next ≤ now → SaidIn c told next o → SaidIn c told now o
said_on o c told next now less h = said_later o c told next now less h

said_without : (o : Option ClientProcs) (c : Description) (before told : List Event) (next : ℕ) → SaidIn c (before ++ told) next o → SaidIn c (before ++ without_faults told) next o
said_without None c before told next h = tt
said_without (Some client) c before told next h = says_without (is_domain c) before told next client.files.pending h

said_with : (o : Option ClientProcs) (c : Description) (before told : List Event) (next : ℕ) → SaidIn c (before ++ without_faults told) next o → SaidIn c (before ++ told) next o
said_with None c before told next h = tt
said_with (Some client) c before told next h = says_with (is_domain c) before told next client.files.pending h

said_one : (o : Option ClientProcs) (c : Description) (before told : List Event) (event : Event) (next : ℕ) → is_loud event ≡ false → SaidIn c (before ++ told) next o → SaidIn c (before ++ (told ++ event ∷ [])) next o
said_one None c before told event next quiet h = tt
said_one (Some client) c before told event next quiet h = quiet_said (is_domain c) before told event (record { 0 = next }) client.files.pending quiet h

image_same : (o : Option Proc) (s : ClientProcs) (pid : ℕ) (f : Proc → Proc) → (with_proc pid (option_map f o) s).files ≡ s.files
image_same None s pid f = refl
image_same (Some proc) s pid f = refl

said_image : (found : KernelState) (c : Description) (told : List Event) (next pid : ℕ) (image : processes.Machine) → SaidIn c told next (as_client found) → SaidIn c told next (as_client (image_put pid image found))
said_image (kernels.Client client) c told next pid image h = subst (λ (rows : List (ℕ × Pending)). SaysSo (is_domain c) told next rows) (sym (ap (λ files. files.pending) (image_same (proc_at pid client) client pid (λ proc. record proc { image = image })))) h
said_image (kernels.Server server) c told next pid image h = tt

-- of its operations anything may be asked
abbrev Any : TxNo → List (List ℕ) → Type 0
Any tx prefix = Unit {0}

state_any : (state : NameState) → StateAsks Any state
state_any (states.Broadcasting tx prefix) = tt
state_any (states.Echoing tx server) = tt
state_any (states.Asking tx) = tt

operation_any : (operation : Pending) → OperationAsks Any operation
operation_any (operations.Name call) = state_any call.state
operation_any (operations.Data call) = tt
operation_any (operations.Sync call) = tt
operation_any (operations.Close work) = tt
operation_any (operations.Move work) = tt

rows_any : (rows : List (ℕ × Pending)) → RowsAsk Any rows
rows_any [] = tt
rows_any (row ∷ rows) = (operation_any row.1, rows_any rows)

-- a step of it
step_said : (found : KernelState) (c : Description) (told : List Event) (input : Input) (next : TxNo) (step now : ℕ) → is_domain c [] ≡ true → brings_refused input ≡ false → ((tx : TxNo) (source : ℕ) (path : List (List ℕ)) → input ≡ inputs.Replied tx source (Redirect path) → is_domain c path ≡ true)
    → next.0 + length (kernel_step found input next step).1.sends ≤ now → SaidIn c told next.0 (as_client found) → SaidIn c (told ++ (kernel_step found input next step).1.events) now (as_client (kernel_step found input next step).0)
step_said (kernels.Client client) c told input next step now root safe redirected more h =
    (let said = clients_say (is_domain c) told client input next step safe root redirected h in
    let numbered = (step_asks Any client input next step (rows_any client.files.pending)).numbered in
    says_later (is_domain c) (told ++ (client_step client input next step).1.events) (client_step client input next step).1.next.0 now (client_step client input next step).0.files.pending (omega (arith, more, numbered)) said)
step_said (kernels.Server server) c told input next step now root safe redirected more h = tt

step_entries : (found : KernelState) (input : Input) (next : TxNo) (step : ℕ) → brings_refused input ≡ false → unreachable_in (kernel_step found input next step).1.events ≡ entries_of input (as_client found)
step_entries (kernels.Client client) input next step safe = clients_call client input next step safe
step_entries (kernels.Server server) input next step safe = servers_call server input next

-- ---- in its place

put_own : (kernel : ℕ) (found new : KernelState) (s : State) → kernel_at kernel s ≡ Some found → client_in (slice_get (slice_set s.kernels (kernel - 1) new) (kernel - 1)) ≡ as_client new
put_own kernel found new s e = ap client_in (get_set_same s.kernels (kernel - 1) new (get_within s.kernels (kernel - 1) found e))

put_other : (kernel other : ℕ) (new : KernelState) (s : State) → 1 ≤ kernel → 1 ≤ other → (other ≡ kernel → ⊥) → client_in (slice_get (slice_set s.kernels (kernel - 1) new) (other - 1)) ≡ client_at other s
put_other kernel other new s low low' apart = ap client_in (get_set_other s.kernels (kernel - 1) (other - 1) new (λ e. apart (let same = e in omega arith)))

stepped_other : (o : Option KernelState) (kernel other : ℕ) (input : Input) (next : TxNo) (s : State) → 1 ≤ kernel → 1 ≤ other → (other ≡ kernel → ⊥) → client_at other (stepped_by kernel o input next s).0 ≡ client_at other s
stepped_other None kernel other input next s low low' apart = refl
stepped_other (Some found) kernel other input next s low low' apart = put_other kernel other _ s low low' apart

image_other : (o : Option KernelState) (kernel other pid : ℕ) (image : processes.Machine) (s : State) → 1 ≤ kernel → 1 ≤ other → (other ≡ kernel → ⊥) → client_at other (image_put_at kernel pid image o s) ≡ client_at other s
image_other None kernel other pid image s low low' apart = refl
image_other (Some found) kernel other pid image s low low' apart = put_other kernel other _ s low low' apart

image_told : (o : Option KernelState) (kernel pid : ℕ) (image : processes.Machine) (s : State) → (image_put_at kernel pid image o s).told ≡ s.told
image_told None kernel pid image s = refl
image_told (Some found) kernel pid image s = refl

stepped_told : (o : Option KernelState) (kernel : ℕ) (input : Input) (next : TxNo) (s : State) → (stepped_by kernel o input next s).0.told ≡ s.told
stepped_told None kernel input next s = refl
stepped_told (Some found) kernel input next s = refl

said_none : (o : Option ClientProcs) (c : Description) (told : List Event) (next : ℕ) → o ≡ None → SaidIn c told next o
said_none None c told next e = tt
said_none (Some client) c told next e = absurd (cc)

stepped_said : (o : Option KernelState) (kernel : ℕ) (c : Description) (told : List Event) (input : Input) (next : TxNo) (now : ℕ) (s : State) → kernel_at kernel s ≡ o → is_domain c [] ≡ true → brings_refused input ≡ false → ((tx : TxNo) (source : ℕ) (path : List (List ℕ)) → input ≡ inputs.Replied tx source (Redirect path) → is_domain c path ≡ true)
    → next.0 + length (stepped_by kernel o input next s).1.sends ≤ now → SaidIn c told next.0 (client_at kernel s) → SaidIn c (told ++ (stepped_by kernel o input next s).1.events) now (client_at kernel (stepped_by kernel o input next s).0)
stepped_said None kernel c told input next now s e root safe redirected more h = said_none (client_at kernel s) c (told ++ []) now (ap client_in e)
stepped_said (Some found) kernel c told input next now s e root safe redirected more h =
    let made = kernel_step found input next (count_at s.steps kernel) in
    subst (SaidIn c (told ++ made.1.events) now) (sym (put_own kernel found made.0 s e)) (step_said found c told input next (count_at s.steps kernel) now root safe redirected more (subst (SaidIn c told next.0) (ap client_in e) h))

stepped_entries : (o : Option KernelState) (kernel : ℕ) (input : Input) (next : TxNo) (s : State) → kernel_at kernel s ≡ o → brings_refused input ≡ false → unreachable_in (stepped_by kernel o input next s).1.events ≡ entries_of input (client_at kernel s)
stepped_entries None kernel input next s e safe = sym (ap (entries_of input) (ap client_in e))
stepped_entries (Some found) kernel input next s e safe = step_entries found input next (count_at s.steps kernel) safe ∙ sym (ap (entries_of input) (ap client_in e))

imaged_said : (o : Option KernelState) (kernel pid : ℕ) (image : processes.Machine) (c : Description) (told : List Event) (next : ℕ) (s : State) → kernel_at kernel s ≡ o → SaidIn c told next (client_at kernel s) → SaidIn c told next (client_at kernel (image_put_at kernel pid image o s))
imaged_said None kernel pid image c told next s e h = h
imaged_said (Some found) kernel pid image c told next s e h =
    subst (SaidIn c told next) (sym (put_own kernel found (image_put pid image found) s e)) (said_image found c told next pid image (subst (SaidIn c told next) (ap client_in e) h))

-- ---- a fault more

left_by : (b : Bool) (event : Event) (rest all : List Event) → rest ≡ all → cond {A = List Event} b (event ∷ rest) rest ≡ cond {A = List Event} b (event ∷ all) all
left_by true event rest all e = ap (λ (es : List Event). event ∷ es) e
left_by false event rest all e = e

fault_left : (told : List Event) (from to : ℕ) (met : Fate) → without_faults (told ++ events.Fault from to met ∷ []) ≡ without_faults told
fault_left [] from to met = refl
fault_left (event ∷ told) from to met = left_by (not (is_fault event)) event (without_faults (told ++ events.Fault from to met ∷ [])) (without_faults told) (fault_left told from to met)

-- ---- what is told first stays first

faulted_first : (fate : Fate) (from to : ℕ) (first : Event) (told : List Event) → faulted from to fate (first ∷ told) ≡ first ∷ faulted from to fate told
faulted_first Once from to first told = refl
faulted_first Lost from to first told = refl
faulted_first Twice from to first told = refl
faulted_first Late from to first told = refl

all_faulted_first : (packets : List (ℕ × Fate)) (kernel : ℕ) (first : Event) (told : List Event) → faulted_all kernel packets (first ∷ told) ≡ first ∷ faulted_all kernel packets told
all_faulted_first [] kernel first told = refl
all_faulted_first (packet ∷ packets) kernel first told = ap (faulted_all kernel packets) (faulted_first packet.1 kernel packet.0 first told) ∙ all_faulted_first packets kernel first (faulted kernel packet.0 packet.1 told)

own_first : (b : Bool) (event first : Event) (told : List Event) → cond {A = List Event} b ((first ∷ told) ++ event ∷ []) (first ∷ told) ≡ first ∷ cond {A = List Event} b (told ++ event ∷ []) told
own_first true event first told = refl
own_first false event first told = refl

one_first : (o : Option Sent) (kernel : ℕ) (event first : Event) (told : List Event) → noted_one kernel event o (first ∷ told) ≡ first ∷ noted_one kernel event o told
one_first None kernel event first told = own_first _ event first told
one_first (Some packet) kernel event first told = faulted_first packet.fate kernel packet.to first (told ++ event ∷ [])

noted_first : (es : List Event) (kernel : ℕ) (sent : List Sent) (first : Event) (told : List Event) → noted_all kernel es sent (first ∷ told) ≡ first ∷ noted_all kernel es sent told
noted_first [] kernel sent first told = refl
noted_first (event ∷ es) kernel sent first told = ap (noted_all kernel es (left_after event sent)) (one_first (packet_of event sent) kernel event first told) ∙ noted_first es kernel (left_after event sent) first (noted_one kernel event (packet_of event sent) told)

one_faulted : (fate : Fate) (from to : ℕ) (told : List Event) → without_faults (faulted from to fate told) ≡ without_faults told
one_faulted Once from to told = refl
one_faulted Lost from to told = fault_left told from to Lost
one_faulted Twice from to told = fault_left told from to Twice
one_faulted Late from to told = fault_left told from to Late

all_faulted : (packets : List (ℕ × Fate)) (kernel : ℕ) (told : List Event) → without_faults (faulted_all kernel packets told) ≡ without_faults told
all_faulted [] kernel told = refl
all_faulted (packet ∷ packets) kernel told = all_faulted packets kernel (faulted kernel packet.0 packet.1 told) ∙ one_faulted packet.1 kernel packet.0 told

replied_is : (tx other : TxNo) (from source : ℕ) (body reply : ReplyBody) → inputs.Replied tx from body ≡ inputs.Replied other source reply → body ≡ reply
replied_is tx other from source body reply e = cc

-- ---- inputs by which no call is given up

none_of : (input : Input) → ((tx : TxNo) → input ≡ inputs.GaveUp tx → ⊥) → (o : Option ClientProcs) → entries_of input o ≡ []
none_of input apart None = refl
none_of (inputs.GaveUp tx) apart (Some client) = absurd (apart tx refl)
none_of (inputs.Issued pid number call) apart (Some client) = refl
none_of (inputs.Request tx source body) apart (Some client) = refl
none_of (inputs.Replied tx source body) apart (Some client) = refl
none_of (inputs.Due file block) apart (Some client) = refl
none_of (inputs.PageNeeded pid page) apart (Some client) = refl

request_calm : (c : Description) (tx : TxNo) (from : ℕ) (body : Body) (input : Input) → arrived.Message input ≡ arriving.request_in tx from body → IsCalm c input
request_calm c tx from (bodies.Request body) input e = subst (IsCalm c) (message_is (inputs.Request tx from body) input (sym e)) (record { safe = refl; none = none_of (inputs.Request tx from body) (λ other f. absurd (cc)); redirected = λ other source path f. absurd (cc) })
request_calm c tx from (bodies.Reply body) input e = absurd (cc)

reply_calm : (c : Description) (tx : TxNo) (from : ℕ) (body : Body) (input : Input) → ((path : List (List ℕ)) → body ≡ bodies.Reply (Redirect path) → is_domain c path ≡ true) → arrived.Message input ≡ reply_in tx from body → IsCalm c input
reply_calm c tx from (bodies.Reply body) input leads e = subst (IsCalm c) (message_is (inputs.Replied tx from body) input (sym e)) (record {
  safe = refl;
  none = none_of (inputs.Replied tx from body) (λ other f. absurd (cc));
  redirected = λ other source path f. leads path (ap bodies.Reply (replied_is tx other from source body (Redirect path) f));
})
reply_calm c tx from (bodies.Request body) input leads e = absurd (cc)

-- where redirects of this machine's replies lead to domains
abbrev pub Leads : Description → Machine → Type 0
Leads c machine = (tx : TxNo) (call : Call) (reply : List ℕ) (packet : Packet) (path : List (List ℕ)) → call_of machine tx ≡ Some call → call.reply ≡ Some reply → reading reply ≡ Some packet → packet.body ≡ bodies.Reply (Redirect path) → is_domain c path ≡ true

reply_leads : (o : Option Call) (c : Description) (machine : Machine) (tx : TxNo) (message : Packet) (path : List (List ℕ)) → call_of machine tx ≡ o → Leads c machine → IsMessage reading (reply_of o) message → message.body ≡ bodies.Reply (Redirect path) → is_domain c path ≡ true
reply_leads None c machine tx message path known leads reads is = absurd reads
reply_leads (Some call) c machine tx message path known leads reads is = by_reply call.reply refl reads
  where
    by_reply : (o : Option (List ℕ)) → call.reply ≡ o → IsMessage reading o message → is_domain c path ≡ true
    by_reply None e reads = absurd reads
    by_reply (Some reply) e reads = leads tx call reply message path known e reads is

comes_calm : (a : Arrival) (c : Description) (machine : Machine) (copy : PacketCopy) (input : Input) → Leads c machine → Brings a machine copy (arrived.Message input) → IsCalm c input
comes_calm FirstRequest c machine copy input leads b = request_calm c copy.tx b.0.from b.0.body input b.2
comes_calm FirstReply c machine copy input leads b = reply_calm c copy.tx b.0.from b.0.body input (λ path is. reply_leads (call_of machine copy.tx) c machine copy.tx b.0 path refl leads b.1 is) b.2
comes_calm AskedAgain c machine copy input leads b = absurd (not_again input _ _ b.0 b.1)
comes_calm Past c machine copy input leads b = absurd (cc)

due_calm : (c : Description) (file : FileId) (block : BlockNo) → IsCalm c (inputs.Due file block)
due_calm c file block = record { safe = refl; none = none_of (inputs.Due file block) (λ tx e. absurd (cc)); redirected = λ tx source path e. absurd (cc) }

-- no machine makes a call that is refused so
refusal_safe : (why : Errno) → IsRefusal why → is_unreachable_error (Some why) ≡ false
refusal_safe errnos.Invalid h = refl
refusal_safe errnos.BadName h = refl
refusal_safe errnos.BadAddress h = refl
refusal_safe errnos.Unreachable h = absurd h
refusal_safe why h = refl

limits_safe : (call : SystemCall) → IsWithinLimits call → is_refused_so call ≡ false
limits_safe (calls.Refused why) h = refusal_safe why h
limits_safe call h = refl

issued_calm : (o : Option ℕ) (c : Description) (pid : ℕ) (call : SystemCall) (input : Input) → is_refused_so call ≡ false → issued pid call o ≡ Some input → IsCalm c input
issued_calm None c pid call input safe e = absurd (cc)
issued_calm (Some number) c pid call input safe e = subst (IsCalm c) (some_is (inputs.Issued pid (number + 1) call) input e) (record { safe = safe; none = none_of (inputs.Issued pid (number + 1) call) (λ tx f. absurd (cc)); redirected = λ tx source path f. absurd (cc) })

burst_calm : (stop : BurstEnd) (c : Description) (kernel : ℕ) (b : Burst) (s : State) (input : Input) → came_to kernel b stop s ≡ Some input → IsCalm c input
burst_calm burst_ends.Call c kernel b s input e = issued_calm _ c b.pid _ input (limits_safe (call_at b.program b.to) (call_within_limits b.program b.to)) e
burst_calm burst_ends.BadStep c kernel b s input e = issued_calm _ c b.pid _ input refl e
burst_calm (burst_ends.PageNeeded page) c kernel b s input e = subst (IsCalm c) (some_is (inputs.PageNeeded b.pid page) input e) (record { safe = refl; none = none_of (inputs.PageNeeded b.pid page) (λ tx f. absurd (cc)); redirected = λ tx source path f. absurd (cc) })
burst_calm burst_ends.Limit c kernel b s input e = absurd (cc)

-- ---- a turn

-- within a turn of a kernel since it began, with what the kernel had told before: what is said of its remote calls; the others stayed; and
-- no server was called unreachable
pub record Turned (c : Description) (kernel : ℕ) (before : List Event) (first : State) (start : ℕ) (machine : Machine) (s : State) : Type 0 where
  pub said : SaidIn c (before ++ s.told) (machine.begun + 1) (client_at kernel s)
  pub others : (other : ℕ) → 1 ≤ other → (other ≡ kernel → ⊥) → client_at other s ≡ client_at other first
  pub more : start ≤ machine.begun

-- which servers a turn calls unreachable: none, or that for which a remote call was given up, whose timer fired first of all
pub data Calls (kernel : ℕ) (machine : Machine) (first : State) (told : List Event) : Type 0 where
  NoServer : unreachable_in told ≡ [] → Calls kernel machine first told
  OneServer : (tx : TxNo) (rest : List Event) → told ≡ events.Expire tx true ∷ rest → may_fire kernel machine tx ≡ true → is_last_in (call_of machine tx) ≡ true → unreachable_in told ≡ entries_of (inputs.GaveUp tx) (client_at kernel first) → Calls kernel machine first told

module _ (c : Description) (root : is_domain c [] ≡ true) (kernel : ℕ) (low : 1 ≤ kernel) (before : List Event) (first : State) (start : ℕ) where
  abbrev T : Machine → State → Type 0
  T machine s = Turned c kernel before first start machine s

  abbrev Calm : State → Type 0
  Calm s = unreachable_in s.told ≡ []

  later : (old new : Machine) (s : State) → old.begun ≤ new.begun → T old s → T new s
  later old new s less t = record {
    said = said_on (client_at kernel s) c (before ++ s.told) (old.begun + 1) (new.begun + 1) (omega arith) t.said;
    others = t.others;
    more = (let m = t.more in omega arith);
  }

  noted : (event : Event) (machine : Machine) (s : State) → is_loud event ≡ false → T machine s → T machine (noted_step kernel event s)
  noted event machine s quiet t = record { said = said_one (client_at kernel s) c before s.told event (machine.begun + 1) quiet t.said; others = t.others; more = t.more }

  noted_calm : (event : Event) (s : State) → is_loud event ≡ false → Calm s → Calm (noted_step kernel event s)
  noted_calm event s quiet q = one_more s.told event [] (not_loud event quiet) q

  -- faults
  faults_said : (told : List Event) (machine : Machine) (s : State) → without_faults told ≡ without_faults s.told → T machine s → T machine (record s { told = told })
  faults_said told machine s same t = record {
    said = said_with (client_at kernel s) c before told (machine.begun + 1) (subst (λ (es : List Event). SaidIn c (before ++ es) (machine.begun + 1) (client_at kernel s)) (sym same) (said_without (client_at kernel s) c before s.told (machine.begun + 1) t.said));
    others = t.others;
    more = t.more;
  }

  faults_calm : (told : List Event) (s : State) → without_faults told ≡ without_faults s.told → Calm s → unreachable_in told ≡ []
  faults_calm told s same q = sym (unreachable_without told) ∙ (ap unreachable_in same ∙ (unreachable_without s.told ∙ q))

  module _ {L : Type 0} (faults asked : L → ℕ → ℕ → ℕ) where
    took_so : (input : Input) (said : Said) (old new : Wired L) (s t : State) → TakesSo faults asked c kernel input said old new s t → brings_refused input ≡ false → ((tx : TxNo) (source : ℕ) (path : List (List ℕ)) → input ≡ inputs.Replied tx source (Redirect path) → is_domain c path ≡ true) → T old.machine s → T new.machine t
    took_so input said old new s t so safe redirected turned =
        let made = stepped kernel input said.next s in
        let many = out_begun faults asked c kernel made.1 old new said so.goes_out in
        let next : said.next.0 ≡ old.machine.begun + 1 = ap (λ (tx : TxNo). tx.0) so.next in
        let quiet : SaidIn c (before ++ without_faults s.told) said.next.0 (client_at kernel s) =
        subst (λ (n : ℕ). SaidIn c (before ++ without_faults s.told) n (client_at kernel s)) (sym next) (said_without (client_at kernel s) c before s.told (old.machine.begun + 1) turned.said) in
        let step : SaidIn c ((before ++ without_faults s.told) ++ made.1.events) (new.machine.begun + 1) (client_at kernel made.0) =
        stepped_said (kernel_at kernel s) kernel c (before ++ without_faults s.told) input said.next (new.machine.begun + 1) s refl root safe redirected (omega (arith, many, next)) quiet in
        let whole : SaidIn c (before ++ without_faults t.told) (new.machine.begun + 1) (client_at kernel made.0) =
        subst (λ (es : List Event). SaidIn c es (new.machine.begun + 1) (client_at kernel made.0)) (append_assoc before (without_faults s.told) made.1.events ∙ ap (λ (es : List Event). before ++ es) (sym so.all)) step in
        let there : client_at kernel t ≡ client_at kernel made.0 = ap (client_at kernel) so.state in
        record {
          said = said_with (client_at kernel t) c before t.told (new.machine.begun + 1) (subst (SaidIn c (before ++ without_faults t.told) (new.machine.begun + 1)) (sym there) whole);
          others = λ other low' apart. ap (client_at other) so.state ∙ (stepped_other (kernel_at kernel s) kernel other input said.next s low low' apart ∙ turned.others other low' apart);
          more = (let m = turned.more in omega (arith, many, m));
        }

    took_entries : (input : Input) (said : Said) (old new : Wired L) (s t : State) → TakesSo faults asked c kernel input said old new s t → brings_refused input ≡ false → Calm s → unreachable_in t.told ≡ entries_of input (client_at kernel s)
    took_entries input said old new s t so safe q =
        let made = stepped kernel input said.next s in
        sym (unreachable_without t.told)
        ∙ (ap unreachable_in so.all
        ∙ (unreachable_append (without_faults s.told) made.1.events
        ∙ (ap (λ (es : List Entry). es ++ unreachable_in made.1.events) (unreachable_without s.told ∙ q)
        ∙ stepped_entries (kernel_at kernel s) kernel input said.next s refl safe)))

    -- the turn stays so, and calls no server unreachable
    abbrev Still : Machine → State → Type 0
    Still machine s = T machine s × Calm s

    took_calm : (input : Input) (said : Said) (old new : Wired L) (s t : State) → TakesSo faults asked c kernel input said old new s t → IsCalm c input → Still old.machine s → Still new.machine t
    took_calm input said old new s t so calm turned = (took_so input said old new s t so calm.safe calm.redirected turned.0, took_entries input said old new s t so calm.safe turned.1 ∙ calm.none (client_at kernel s))

    acted : (act : Act) (old new : Wired L) (s : State) → IsStep faults asked old act new → Still old.machine s → Still new.machine s
    acted act old new s step turned = (later old.machine new.machine s (let more = begun_grows old.machine act in let same = ap (λ (machine : Machine). machine.begun) step.1 in omega arith) turned.0, turned.1)

    still_noted : (event : Event) (machine : Machine) (s : State) → is_loud event ≡ false → Still machine s → Still machine (noted_step kernel event s)
    still_noted event machine s quiet turned = (noted event machine s quiet turned.0, noted_calm event s quiet turned.1)

    still_faulted : (told : List Event) (machine : Machine) (s : State) → without_faults told ≡ without_faults s.told → Still machine s → Still machine (record s { told = told })
    still_faulted told machine s same turned = (faults_said told machine s same turned.0, faults_calm told s same turned.1)

    silenced : (b : Bool) (tx : TxNo) (old new : Wired L) (s : State) → SilentIf faults asked b tx kernel old new → Still old.machine s → Still new.machine s
    silenced true tx old new s step turned = acted (Silence tx kernel) old new s step turned
    silenced false tx old new s same turned = subst (λ (w : Wired L). Still w.machine s) (sym same) turned

    same_so : (old new : Wired L) (s t : State) → new ≡ old → t ≡ s → Still old.machine s → Still new.machine t
    same_so old new s t wire state turned = subst (λ (w : Wired L). Still w.machine t) (sym wire) (subst (Still old.machine) (sym state) turned)

    given : (what : Arrived) (tx : TxNo) (old new : Wired L) (s t : State) → ((input : Input) → what ≡ arrived.Message input → IsCalm c input) → Given faults asked c kernel tx what old new s t → Still old.machine s → Still new.machine t
    given (arrived.Message input) tx old new s t calm g turned = silenced (asks_prefix input && may_be_silent g.between.machine tx kernel) tx g.between new t g.silent (took_calm input g.said old g.between s t g.takes (calm input refl) turned)
    given (arrived.Again from to fate) tx old new s t calm g turned = same_so old new (record s { told = faulted from to fate s.told }) t g.0 g.1 (still_faulted (faulted from to fate s.told) old.machine s (one_faulted fate from to s.told) turned)
    given arrived.Old tx old new s t calm g turned = same_so old new s t g.0 g.1 turned

    came : (o : Option PacketCopy) (number : CopyNo) (old new : Wired L) (s t : State) → Leads c old.machine → Comes faults asked c kernel number o old new s t → Still old.machine s → Still new.machine t
    came None number old new s t leads g turned = same_so old new s t g.0 g.1 turned
    came (Some copy) number old new s t leads g turned =
        given g.came copy.tx g.between new (noted_step kernel (delivery copy) s) t
        (λ input e. comes_calm (arrival old.machine copy) c old.machine copy input leads (subst (λ (what : Arrived). Brings (arrival old.machine copy) old.machine copy what) e g.arrives.brings)) g.given
        (acted (Deliver number (given_in g.came)) old g.between (noted_step kernel (delivery copy) s) g.arrives.step (still_noted (delivery copy) old.machine s refl turned))

    went_on : (o : Option Input) (what : BurstOutcome) (old new : Wired L) (s t : State) → ((input : Input) → o ≡ Some input → IsCalm c input) → GoesOn faults asked c kernel o what old new s t → Still old.machine s → Still new.machine t
    went_on (Some input) (outcome.Took said) old new s t calm g turned = took_calm input said old new s t g (calm input refl) turned
    went_on (Some input) outcome.Done old new s t calm g turned = absurd g
    went_on (Some input) outcome.Stale old new s t calm g turned = absurd g
    went_on None outcome.Done old new s t calm g turned = same_so old new s t g.0 g.1 turned
    went_on None (outcome.Took said) old new s t calm g turned = absurd g
    went_on None outcome.Stale old new s t calm g turned = absurd g

    imaged : (pid : ℕ) (image : processes.Machine) (machine : Machine) (s : State) → Still machine s → Still machine (put_image kernel pid image s)
    imaged pid image machine s turned = (
      record {
        said = subst (λ (told : List Event). SaidIn c (before ++ told) (machine.begun + 1) (client_at kernel (put_image kernel pid image s))) (sym (image_told (kernel_at kernel s) kernel pid image s))
            (imaged_said (kernel_at kernel s) kernel pid image c (before ++ s.told) (machine.begun + 1) s refl turned.0.said);
        others = λ other low' apart. image_other (kernel_at kernel s) kernel other pid image s low low' apart ∙ turned.0.others other low' apart;
        more = turned.0.more;
      },
      ap unreachable_in (image_told (kernel_at kernel s) kernel pid image s) ∙ turned.1,
    )

    counted : (what : BurstOutcome) (b : Burst) (old new : Wired L) (s t : State) → GoesOn faults asked c kernel (came_to kernel b b.end (recorded kernel b s)) what old new (put_image kernel b.pid b.to (recorded kernel b s)) t → Still old.machine s → Still new.machine t
    counted what b old new s t g turned =
        let there : State = recorded kernel b s in
        let back : Still old.machine (taken_back kernel b.pid s) = (record { said = turned.0.said; others = turned.0.others; more = turned.0.more }, turned.1) in
        went_on (came_to kernel b b.end there) what old new (put_image kernel b.pid b.to there) t (λ input e. burst_calm b.end c kernel b there input e) g
        (imaged b.pid b.to old.machine there (still_noted (events.Burst b.pid b.count) old.machine (taken_back kernel b.pid s) refl back))

    ended : (what : BurstOutcome) (b : Burst) (old new : Wired L) (s t : State) → EndsAs faults asked c kernel b what old new s t → Still old.machine s → Still new.machine t
    ended outcome.Stale b old new s t g turned = same_so old new (taken_back kernel b.pid s) t g.1 g.2 (record { said = turned.0.said; others = turned.0.others; more = turned.0.more }, turned.1)
    ended outcome.Done b old new s t g turned = counted outcome.Done b old new s t g.1 turned
    ended (outcome.Took said) b old new s t g turned = counted (outcome.Took said) b old new s t g.1 turned

    -- a call that is given up
    up_told : (tx : TxNo) (said : Said) (old new : Wired L) (s t : State) (told : List Event) → s.told ≡ events.Expire tx true ∷ told → TakesSo faults asked c kernel (inputs.GaveUp tx) said old new s t → (rest : List Event) × (t.told ≡ events.Expire tx true ∷ rest)
    up_told tx said old new s t told first_is so =
        let made = stepped kernel (inputs.GaveUp tx) said.next s in
        let same : made.0.told ≡ events.Expire tx true ∷ told = stepped_told (kernel_at kernel s) kernel (inputs.GaveUp tx) said.next s ∙ first_is in (
          faulted_all kernel said.answered (noted_all kernel made.1.events said.sent told),
          ap (λ (u : State). u.told) so.state
              ∙ (ap (λ (es : List Event). faulted_all kernel said.answered (noted_all kernel made.1.events said.sent es)) same
              ∙ (ap (faulted_all kernel said.answered) (noted_first made.1.events kernel said.sent (events.Expire tx true) told)
              ∙ all_faulted_first said.answered kernel (events.Expire tx true) (noted_all kernel made.1.events said.sent told))),
        )

    no_redirect : (tx : TxNo) (other : TxNo) (source : ℕ) (path : List (List ℕ)) → inputs.GaveUp tx ≡ inputs.Replied other source (Redirect path) → is_domain c path ≡ true
    no_redirect tx other source path e = absurd (cc)

-- a whole turn: what is said behind it, and which servers it calls unreachable
pub record TurnSays (c : Description) (kernel : ℕ) (before : List Event) (first : State) (old new : Machine) (t : State) : Type 0 where
  pub turned : Turned c kernel before first old.begun new t
  pub servers : Calls kernel old first t.told

module _ (c : Description) (root : is_domain c [] ≡ true) (kernel : ℕ) (low : 1 ≤ kernel) (before : List Event) (first : State) {L : Type 0} (faults asked : L → ℕ → ℕ → ℕ) (old : Wired L) (said : SaidIn c before (old.machine.begun + 1) (client_at kernel first)) where
  begins : Turned c kernel before first old.machine.begun old.machine (begun_turn first) × (unreachable_in (begun_turn first).told ≡ [])
  begins = (
    record {
      said = subst (λ (es : List Event). SaidIn c es (old.machine.begun + 1) (client_at kernel first)) (sym (append-nil before)) said;
      others = λ other low' apart. refl;
      more = omega arith;
    },
    refl,
  )

  calm_turn : (new : Wired L) (t : State) → Turned c kernel before first old.machine.begun new.machine t × (unreachable_in t.told ≡ []) → TurnSays c kernel before first old.machine new.machine t
  calm_turn new t turned = record { turned = turned.0; servers = NoServer turned.1 }

  fired : (what : Expired) (tx : TxNo) (between new : Wired L) (t : State) → may_fire kernel old.machine tx ≡ true → firing.gives_up what ≡ is_last_in (call_of old.machine tx) → IsStep faults asked old (Expire tx (sent_in what)) between → FiredAs faults asked c kernel tx what between new (begun_turn first) t → TurnSays c kernel before first old.machine new.machine t
  fired (expired.Resent fates) tx between new t fires last step g =
      let noted : State = noted_step kernel (events.Expire tx false) (begun_turn first) in
      let here = still_noted c root kernel low before first old.machine.begun faults asked (events.Expire tx false) between.machine (begun_turn first) refl (acted c root kernel low before first old.machine.begun faults asked (Expire tx (sent_in (expired.Resent fates))) old between (begun_turn first) step begins) in
      calm_turn new t (same_so c root kernel low before first old.machine.begun faults asked between new (record noted { told = faulted_all kernel fates noted.told }) t g.0 g.1
      (still_faulted c root kernel low before first old.machine.begun faults asked (faulted_all kernel fates noted.told) between.machine noted (all_faulted fates kernel noted.told) here))
  fired (expired.GivenUp was now) tx between new t fires last step g =
      let noted : State = noted_step kernel (events.Expire tx true) (begun_turn first) in
      let here = still_noted c root kernel low before first old.machine.begun faults asked (events.Expire tx true) between.machine (begun_turn first) refl (acted c root kernel low before first old.machine.begun faults asked (Expire tx (sent_in (expired.GivenUp was now))) old between (begun_turn first) step begins) in
      let told = up_told c root kernel low before first old.machine.begun faults asked tx g.said between new noted t [] refl g.takes in
      record {
        turned = took_so c root kernel low before first old.machine.begun faults asked (inputs.GaveUp tx) g.said between new noted t g.takes refl (no_redirect c root kernel low before first old.machine.begun faults asked tx) here.0;
        servers = OneServer tx told.0 told.1 fires (sym last) (took_entries c root kernel low before first old.machine.begun faults asked (inputs.GaveUp tx) g.said between new noted t g.takes refl here.1);
      }

  expires : (b : Bool) (tx : TxNo) (new : Wired L) (t : State) → may_fire kernel old.machine tx ≡ b → Expires faults asked c kernel tx b old new (begun_turn first) t → TurnSays c kernel before first old.machine new.machine t
  expires false tx new t fires g = calm_turn new t (same_so c root kernel low before first old.machine.begun faults asked old new (begun_turn first) t g.0 g.1 begins)
  expires true tx new t fires g = fired g.what tx g.between new t fires g.fires.last g.fires.step g.then_so

  pub choice_says : (choice : Choice) (new : Wired L) (t : State) → Leads c old.machine → Happens faults asked c kernel choice old new (begun_turn first) t → TurnSays c kernel before first old.machine new.machine t
  choice_says (choices.Deliver number) new t leads g = calm_turn new t (came c root kernel low before first old.machine.begun faults asked (copy_to kernel old.machine number) number old new (begun_turn first) t leads g begins)
  choice_says (choices.Expire tx) new t leads g = expires (may_fire kernel old.machine tx) tx new t refl g
  choice_says (choices.WriteBack file block) new t leads g = calm_turn new t (took_calm c root kernel low before first old.machine.begun faults asked (inputs.Due file block) g.said old new (begun_turn first) t g.takes (due_calm c file block) begins)

  pub burst_says : (what : BurstOutcome) (b : Burst) (new : Wired L) (t : State) → EndsAs faults asked c kernel b what old new (begun_turn first) t → TurnSays c kernel before first old.machine new.machine t
  burst_says what b new t g = calm_turn new t (ended c root kernel low before first old.machine.begun faults asked what b old new (begun_turn first) t g begins)
