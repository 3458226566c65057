-- What is kept of packets.
use Rattle.std.specs.Prelude.{◌≡◌, ℕ, ◌+◌, ◌==◌, Bool, true, false, ◌&&◌, ◌||◌, not, if◌then◌else◌, List, Option, Some, None}
use Rattle.std.specs.List.{list_all, list_any}
use Rattle.std.specs.Map.{lookup}
use Rattle.std.specs.Option.{is_some}
use Rattle.unix_calls.specs.declared.event.About.{About}
use Rattle.unix_calls.specs.declared.event.SendKind.{SendKind}
use Rattle.unix_calls.specs.declared.event.SendKind.TheVariants as send
use Rattle.unix_calls.specs.declared.event.Event.{Event}
use Rattle.unix_calls.specs.declared.event.Event.TheVariants as event
use Rattle.unix_calls.specs.declared.event.Rec.{Rec}
use Rattle.call_journal.specs.Past.{Past}
use Rattle.call_journal.specs.Calls.{or_else}
use Rattle.call_journal.specs.Formed.{same_broadcast, is_other_receiver, is_for_a_call, last_issue, is_sending, about_agrees, agrees_on}
use Rattle.call_journal.specs.Matching.{same_about, is_once, is_send, is_at, has_event, is_freeze_of}
use Rattle.trace_forms.specs.declared.places.Receiver.{Receiver}
use Rattle.trace_forms.specs.declared.places.FrozenAt.{FrozenAt}
use Rattle.trace_forms.specs.declared.packets.FirstSend.{FirstSend}
use Rattle.trace_forms.specs.declared.packets.Packets.{Packets}

-- ---- what is kept of a number, and of a process

abbrev pub first_at : List (ℕ × FirstSend) → ℕ → Option FirstSend
first_at sends tx = lookup (λ other. tx == other) sends

abbrev pub same_receiver : Receiver → Receiver → Bool
same_receiver a b = a.tx == b.tx && a.to == b.to

abbrev pub has_receiver : List Receiver → ℕ → ℕ → Bool
has_receiver receivers tx to = list_any (same_receiver (record { tx = tx; to = to })) receivers

abbrev pub delivered_at : List (ℕ × Option About) → ℕ → Option (Option About)
delivered_at deliveries tx = lookup (λ other. tx == other) deliveries

abbrev pub same_frozen : FrozenAt → FrozenAt → Bool
same_frozen a b = a.kernel == b.kernel && a.pid == b.pid

abbrev pub has_frozen : List FrozenAt → ℕ → ℕ → Bool
has_frozen frozen kernel pid = list_any (same_frozen (record { kernel = kernel; pid = pid })) frozen

abbrev pub issue_at : List (ℕ × ℕ) → ℕ → Option ℕ
issue_at issues pid = lookup (λ other. pid == other) issues

-- ---- looking

-- a send goes to a new receiver, by the first one of its number and whether it went there before
abbrev pub is_new_with : Option FirstSend → Bool → ℕ → Option About → SendKind → Bool
is_new_with None there kernel about kind = true
is_new_with (Some f) there kernel about kind = f.kernel == kernel && not there && same_broadcast kind f.kind && same_about about f.about

abbrev pub is_new_receiver : Packets → ℕ → ℕ → ℕ → Option About → SendKind → Bool
is_new_receiver p kernel tx to about kind = is_new_with (first_at p.sends.entries tx) (has_receiver p.receivers.keys tx to) kernel about kind

-- the number of a process's last issue, 0 before the first
abbrev pub number_or : Option ℕ → ℕ
number_or None = 0
number_or (Some n) = n

abbrev pub is_next_in : List (ℕ × ℕ) → About → Bool
is_next_in issues about = about.number == number_or (issue_at issues about.pid) + 1

abbrev pub is_carried_in : Packets → ℕ → About → Bool
is_carried_in p sender about = has_frozen p.frozen.keys sender about.pid || is_next_in p.issues.entries about

abbrev pub is_told_in : Packets → ℕ → Option About → Option About → Bool
is_told_in p sender None sent = true
is_told_in p sender (Some about) (Some sent) = about.pid == sent.pid && about.number == sent.number
is_told_in p sender (Some about) None = is_carried_in p sender about

abbrev pub about_agrees_in : Packets → ℕ → SendKind → Option About → Option About → Bool
about_agrees_in p sender (send.Op file) about sent = same_about about sent
about_agrees_in p sender send.Other about sent = is_told_in p sender about sent
about_agrees_in p sender _ about sent = not (is_some about)

-- a request went out, by the first one of its number and whether it went there
abbrev pub is_sent_with : Packets → Option FirstSend → Bool → ℕ → Option About → Bool
is_sent_with p None there sender about = false
is_sent_with p (Some f) there sender about = f.kernel == sender && there && about_agrees_in p sender f.kind about f.about

abbrev pub is_sent_in : Packets → ℕ → ℕ → ℕ → Option About → Bool
is_sent_in p sender tx to about = is_sent_with p (first_at p.sends.entries tx) (has_receiver p.receivers.keys tx to) sender about

abbrev pub is_alike_with : Option (Option About) → Option About → Bool
is_alike_with None about = true
is_alike_with (Some first) about = same_about about first

abbrev pub is_told_alike : List (ℕ × Option About) → ℕ → Option About → Bool
is_told_alike deliveries tx about = is_alike_with (delivered_at deliveries tx) about

abbrev pub is_from_with : Option FirstSend → ℕ → Bool
is_from_with None kernel = false
is_from_with (Some f) kernel = f.kernel == kernel

abbrev pub is_from_in : List (ℕ × FirstSend) → ℕ → ℕ → Bool
is_from_in sends tx kernel = is_from_with (first_at sends tx) kernel

-- a packet's record is written as it should be
abbrev pub packet_fits : Packets → ℕ → Event → Bool
packet_fits p kernel (event.Send tx to about kind) = is_for_a_call kind about && is_new_receiver p kernel tx.0 to about kind
packet_fits p kernel (event.Deliver tx from reply about) =
    (if reply then is_sent_in p kernel tx.0 from about else is_sent_in p from tx.0 kernel about)
    && is_told_alike p.deliveries.entries tx.0 about
packet_fits p kernel (event.Expire tx last) = is_from_in p.sends.entries tx.0 kernel
packet_fits p kernel (event.Fault a b met) = not (is_once met)
packet_fits p kernel _ = true

-- ---- one record more

-- one is put where there was none
abbrev pub PutsFirst : List (ℕ × FirstSend) → ℕ → FirstSend → List (ℕ × FirstSend) → Type 0
PutsFirst before tx first after =
    (other : ℕ) → first_at after other ≡ (if tx == other then or_else (first_at before other) (Some first) else first_at before other)

abbrev pub PutsDelivery : List (ℕ × Option About) → ℕ → Option About → List (ℕ × Option About) → Type 0
PutsDelivery before tx about after =
    (other : ℕ) → delivered_at after other ≡ (if tx == other then or_else (delivered_at before other) (Some about) else delivered_at before other)

-- what is kept of a number, and whether it went to a receiver, behind an event of a kernel
abbrev pub first_behind : ℕ → Event → ℕ → Option FirstSend → Option FirstSend
first_behind kernel (event.Send tx to about kind) other before =
    if tx.0 == other then or_else before (Some (record { kernel = kernel; about = about; kind = kind })) else before
first_behind kernel _ other before = before

abbrev pub receiver_behind : Event → ℕ → ℕ → Bool → Bool
receiver_behind (event.Send t s about kind) tx to before = if t.0 == tx && s == to then true else before
receiver_behind _ tx to before = before

abbrev pub delivered_behind : Event → ℕ → Option (Option About) → Option (Option About)
delivered_behind (event.Deliver tx from reply about) other before = if tx.0 == other then or_else before (Some about) else before
delivered_behind _ other before = before

-- whether a process was frozen at a kernel, and the number of its last issue
abbrev pub frozen_behind : ℕ → Event → ℕ → ℕ → Bool → Bool
frozen_behind at (event.Freeze p) kernel pid before = if at == kernel && p == pid then true else before
frozen_behind at _ kernel pid before = before

abbrev pub issue_behind : Event → ℕ → Option ℕ → Option ℕ
issue_behind (event.Issue p n call) pid before = if p == pid then Some n else before
issue_behind _ pid before = before

-- a send is kept
pub record KeepsSend (kernel tx to : ℕ) (about : Option About) (kind : SendKind) (old new : Packets) : Type 0 where
  pub sends : PutsFirst old.sends.entries tx (record { kernel = kernel; about = about; kind = kind }) new.sends.entries
  pub receivers : (other at : ℕ) → has_receiver new.receivers.keys other at ≡ (if tx == other && to == at then true else has_receiver old.receivers.keys other at)
  pub deliveries : new.deliveries.entries ≡ old.deliveries.entries
  pub frozen : new.frozen.keys ≡ old.frozen.keys
  pub issues : new.issues.entries ≡ old.issues.entries

-- what is kept behind a record
pub record KeepsPacket (rec : Rec) (old new : Packets) : Type 0 where
  pub sends : (tx : ℕ) → first_at new.sends.entries tx ≡ first_behind rec.kernel rec.event tx (first_at old.sends.entries tx)
  pub receivers : (tx to : ℕ) → has_receiver new.receivers.keys tx to ≡ receiver_behind rec.event tx to (has_receiver old.receivers.keys tx to)
  pub deliveries : (tx : ℕ) → delivered_at new.deliveries.entries tx ≡ delivered_behind rec.event tx (delivered_at old.deliveries.entries tx)
  pub frozen : (kernel pid : ℕ) → has_frozen new.frozen.keys kernel pid ≡ frozen_behind rec.kernel rec.event kernel pid (has_frozen old.frozen.keys kernel pid)
  pub issues : (pid : ℕ) → issue_at new.issues.entries pid ≡ issue_behind rec.event pid (issue_at old.issues.entries pid)

-- ---- what is kept tells of the records

-- a send of these records agrees with the deliveries that another place looks back on
abbrev pub is_found_with : Past → Option FirstSend → Bool → ℕ → Option About → Bool
is_found_with past None there sender about = false
is_found_with past (Some f) there sender about = f.kernel == sender && there && about_agrees past sender f.kind about f.about

pub record TellsSends (p : Packets) (records : List Rec) : Type 0 where
  pub from_told : (kernel tx : ℕ) → is_from_in p.sends.entries tx kernel ≡ list_any (is_at kernel (is_send tx)) records
  pub new_told : (kernel tx to : ℕ) (about : Option About) (kind : SendKind) → is_new_receiver p kernel tx to about kind ≡ list_all (λ (r : Rec). is_other_receiver kernel tx to about kind r.kernel r.event) records
  pub found_told : (past : Past) (sender tx to : ℕ) (about : Option About) → is_found_with past (first_at p.sends.entries tx) (has_receiver p.receivers.keys tx to) sender about ≡ list_any (λ (r : Rec). r.kernel == sender && is_sending past sender tx to about r.event) records
  pub none_told : (tx to : ℕ) → first_at p.sends.entries tx ≡ None → has_receiver p.receivers.keys tx to ≡ false

pub record TellsPackets (p : Packets) (records : List Rec) : Type 0 where
  pub sends : TellsSends p records
  pub delivered_told : (tx : ℕ) (about : Option About) → is_told_alike p.deliveries.entries tx about ≡ list_all (has_event (agrees_on tx about)) records
  pub frozen_told : (kernel pid : ℕ) → has_frozen p.frozen.keys kernel pid ≡ list_any (is_at kernel (is_freeze_of pid)) records
  pub issues_told : (pid : ℕ) → number_or (issue_at p.issues.entries pid) ≡ last_issue pid records
