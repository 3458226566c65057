-- Packets go and come for a cause: few deliveries a sending, a resend only behind a loss, no more faults than packets, and an end of
-- the tries.
use Rattle.std.specs.Prelude.{ℕ, ◌+◌, ◌-◌, ◌*◌, ◌==◌, Bool, true, false, ◌&&◌, not, if◌then◌else◌, List, [], ◌∷◌, nat_le, length, slice_get, count_by, Option, Some, None}
use Rattle.std.specs.List.{list_any, list_all}
use Rattle.unix_calls.specs.declared.description.Description.{Description}
use Rattle.unix_calls.specs.declared.description.KernelLine.{KernelLine}
use Rattle.unix_calls.specs.declared.event.About.{About}
use Rattle.unix_calls.specs.declared.event.SendKind.{SendKind}
use Rattle.unix_calls.specs.declared.event.SendKind.TheVariants as send
use Rattle.unix_calls.specs.declared.event.Event.{Event}
use Rattle.unix_calls.specs.declared.event.Event.TheVariants as event
use Rattle.unix_calls.specs.declared.event.Rec.{Rec}
use Rattle.call_journal.specs.Past.{Past, holds, kernel_of, each_record, some_record, since_last}
use Rattle.call_journal.specs.Matching.{is_about, is_at, has_event, is_pair, is_lost, is_fault, is_send, is_send_to, is_expire, is_resend, is_last_expire, is_other_kind}
use Rattle.call_journal.specs.Calls.{is_name_call, issued_call}

-- a packet of that number between its sender and that receiver is delivered
abbrev pub is_delivered_at : ℕ → ℕ → Rec → Event → Bool
is_delivered_at tx receiver rec (event.Deliver t from reply about) =
    t.0 == tx && (if reply then from == receiver else rec.kernel == receiver)
is_delivered_at tx receiver rec _ = false

abbrev pub deliveries : ℕ → ℕ → List Rec → ℕ
deliveries tx receiver trace = count_by (λ (r : Rec). is_delivered_at tx receiver r r.event) trace

-- how often a packet of that number went out to a receiver: at its send, and at each try that was over
abbrev pub sendings : ℕ → ℕ → List Rec → ℕ
sendings tx receiver trace = count_by (has_event (is_send_to tx receiver)) trace + count_by (has_event (is_expire tx)) trace

-- at most six deliveries for each of these: two copies of a request, and two of the reply to each, the request delivered
abbrev pub are_few : ℕ → ℕ → List Rec → Bool
are_few tx receiver trace = nat_le (deliveries tx receiver trace) (6 * sendings tx receiver trace)

abbrev pub delivers_few : Event → ℕ → List Rec → Bool
delivers_few (event.Deliver tx from reply about) kernel trace = are_few tx.0 (if reply then from else kernel) trace
delivers_few _ kernel trace = true

abbrev pub deliveries_are_few : List Rec → Bool
deliveries_are_few trace = list_all (λ (r : Rec). delivers_few r.event r.kernel trace) trace

-- the records behind the last sending of a number at a kernel: its last resend, else its first send
abbrev pub behind_first_send : ℕ → ℕ → List Rec → List Rec
behind_first_send kernel tx [] = []
behind_first_send kernel tx (rec ∷ rest) = if is_at kernel (is_send tx) rec then rest else behind_first_send kernel tx rest

abbrev pub behind_last_sending : ℕ → ℕ → List Rec → List Rec
behind_last_sending kernel tx records = since_last (is_at kernel (is_resend tx)) (behind_first_send kernel tx records)

-- a send of that number between two kernels
abbrev pub is_send_between : ℕ → ℕ → ℕ → Rec → Event → Bool
is_send_between tx a b rec (event.Send t to about kind) = t.0 == tx && is_pair rec.kernel to a b
is_send_between tx a b rec _ = false

abbrev pub was_sent_between : ℕ → ℕ → ℕ → List Rec → Bool
was_sent_between tx a b records = list_any (λ (r : Rec). is_send_between tx a b r r.event) records

-- a loss between two kernels between which that number was sent
abbrev pub is_loss_of : ℕ → List Rec → Event → Bool
is_loss_of tx records (event.Fault a b met) = is_lost met && was_sent_between tx a b records
is_loss_of tx records _ = false

-- a try is over only where a packet was lost since it went out
abbrev pub has_loss : Past → ℕ → ℕ → Bool
has_loss past kernel tx = list_any (has_event (is_loss_of tx past.records)) (behind_last_sending kernel tx past.records)

-- the packets that may have met a fault between two kernels: sends, resends, and replies to delivered requests
abbrev pub is_packet : ℕ → ℕ → List Rec → Rec → Event → Bool
is_packet a b records rec (event.Send tx to about kind) = is_pair rec.kernel to a b
is_packet a b records rec (event.Expire tx last) = not last && was_sent_between tx.0 a b records
is_packet a b records rec (event.Deliver tx from reply about) = not reply && is_pair rec.kernel from a b
is_packet a b records rec _ = false

abbrev pub packets : ℕ → ℕ → List Rec → ℕ
packets a b records = count_by (λ (r : Rec). is_packet a b records r r.event) records

-- no more faults than packets
abbrev pub are_faults_few : Past → ℕ → ℕ → Bool
are_faults_few past a b = nat_le (count_by (has_event (is_fault a b)) past.records + 1) (packets a b past.records)

-- a send of no stated kind about the call to that server
abbrev pub is_other_send_about : About → ℕ → Event → Bool
is_other_send_about call to (event.Send t s about kind) = is_about call.pid call.number about && s == to && is_other_kind kind
is_other_send_about call to _ = false

-- whether a kernel is a server: one that serves a domain
abbrev pub is_server_line : KernelLine → Bool
is_server_line line = not (length line.serves == 0)

abbrev pub is_server : Description → ℕ → Bool
is_server c kernel = nat_le 1 kernel && holds is_server_line (slice_get c.kernels (kernel - 1))

-- the first send of a name call to that server, from the kernel of its process: an echo; that kernel sent none about the call there
-- before. To a client no echo goes
abbrev pub is_echo_for : Description → Past → ℕ → ℕ → Option About → Bool
is_echo_for c past kernel to None = false
is_echo_for c past kernel to (Some about) =
    is_server c to && holds is_name_call (issued_call about.pid about.number past.records)
    && holds (λ at. at == kernel) (kernel_of past about.pid)
    && not (list_any (is_at kernel (is_other_send_about about to)) past.records)

abbrev pub is_limited_kind : Description → Past → ℕ → ℕ → Option About → SendKind → Bool
is_limited_kind c past kernel to about (send.Broadcast prefix) = true
is_limited_kind c past kernel to about send.Other = is_echo_for c past kernel to about
is_limited_kind c past kernel to about _ = false

abbrev pub is_limited_send : Description → Past → ℕ → ℕ → Event → Bool
is_limited_send c past kernel tx (event.Send t to about kind) = t.0 == tx && is_limited_kind c past kernel to about kind
is_limited_send c past kernel tx _ = false

-- a number whose tries are eight: an echo or a broadcast
abbrev pub is_limited : Description → Past → ℕ → ℕ → Bool
is_limited c past kernel tx =
    some_record c (λ earlier r rest. r.kernel == kernel && is_limited_send c earlier kernel tx r.event) past.records

-- of these the eighth is the last
abbrev pub ends_at_eight : ℕ → Bool → Bool
ends_at_eight count last = nat_le count 8 && (if last then count == 8 else not (count == 8))

abbrev pub expires_well : Description → Past → ℕ → ℕ → Bool → Bool
expires_well c past kernel tx last =
    has_loss past kernel tx
    && (if is_limited c past kernel tx then ends_at_eight (count_by (is_at kernel (is_expire tx)) past.records + 1) last else true)

-- an echo to that server for the sake of the call was given up
abbrev pub is_given_up_echo : Description → Past → ℕ → About → ℕ → Event → List Rec → Bool
is_given_up_echo c earlier kernel call to (event.Send t s about send.Other) rest =
    is_about call.pid call.number about && s == to && is_echo_for c earlier kernel to about
    && list_any (is_at kernel (is_last_expire t.0)) rest
is_given_up_echo c earlier kernel call to _ rest = false

-- then nothing goes there any more for its sake
abbrev pub is_sent_well : Description → Past → ℕ → Option About → Bool
is_sent_well c past to None = true
is_sent_well c past to (Some call) =
    not (some_record c (λ earlier r rest. is_given_up_echo c earlier r.kernel call to r.event rest) past.records)

abbrev pub packets_well : Description → Past → ℕ → Event → Bool
packets_well c past kernel (event.Expire tx last) = expires_well c past kernel tx.0 last
packets_well c past kernel (event.Fault a b met) = are_faults_few past a b
packets_well c past kernel (event.Send tx to about kind) = is_sent_well c past to about
packets_well c past kernel _ = true

-- each is so
abbrev pub expires_are_worth : Description → List Rec → Bool
expires_are_worth c trace = each_record c (λ past rec rest. packets_well c past rec.kernel rec.event) trace
