-- What is known of kills, kept from one record to the next.
use Rattle.std.specs.Prelude.{◌≡◌, ℕ, zero, suc, ◌+◌, ◌==◌, Bool, true, false, ◌&&◌, ◌||◌, not, if◌then◌else◌, List, [], Option, Some, None}
use Rattle.std.specs.List.{list_any}
use Rattle.std.specs.Map.{lookup}
use Rattle.sprite_ids.specs.Pid.{home_of}
use Rattle.unix_calls.specs.declared.description.Description.{Description}
use Rattle.unix_calls.specs.declared.entry.Entry.{Entry}
use Rattle.unix_calls.specs.declared.event.About.{About}
use Rattle.unix_calls.specs.declared.event.Event.{Event}
use Rattle.unix_calls.specs.declared.event.Event.TheVariants as event
use Rattle.unix_calls.specs.declared.event.Rec.{Rec}
use Rattle.call_journal.specs.Past.{Past, each_from, each_record, holds, no_past, past_with, past_from, place_of, some_from, some_record}
use Rattle.call_journal.specs.Matching.{is_at, is_request, is_send_about_to}
use Rattle.call_journal.specs.Calls.{is_kill_of}
use Rattle.call_journal.specs.WorthKills.{is_alive_at, is_first_kill, killed_by, knows_kill}
use Rattle.trace_places.specs.declared.places.Place.{Place}
use Rattle.trace_places.specs.Places.{place_kept}
use Rattle.kill_worth.specs.declared.away.Away.{Away}
use Rattle.kill_worth.specs.declared.away.KillSlot.{KillSlot}
use Rattle.kill_worth.specs.declared.keys.KillAt.{KillAt}
use Rattle.kill_worth.specs.declared.keys.KnownAt.{KnownAt}
use Rattle.kill_worth.specs.declared.keys.RequestAt.{RequestAt}
use Rattle.kill_worth.specs.declared.kills.Kills.{Kills}
use Rattle.kill_worth.specs.declared.known.Knowledge.{Knowledge}
use Rattle.kill_worth.specs.declared.sent.RequestSlot.{RequestSlot}
use Rattle.kill_worth.specs.declared.sent.Sent.{Sent}
use Rattle.kill_worth.specs.Kills.{same_kill, has_killed, first_away, KeepsKills, TellsKills, BeginsKills}
use Rattle.kill_worth.specs.Told.{count_or, kill_sent}

-- the processes of a trace issue no call where a kill of them is known
abbrev pub issues_well : Description → Past → ℕ → Event → Bool
issues_well c past kernel (event.Issue pid number call) = is_alive_at c past pid kernel
issues_well c past kernel _ = true

abbrev pub killed_processes_are_silent : Description → List Rec → Bool
killed_processes_are_silent c trace = each_record c (λ past rec rest. issues_well c past rec.kernel rec.event) trace

-- ---- places of processes among others

abbrev pub is_pid : Option ℕ → ℕ → Bool
is_pid None pid = false
is_pid (Some other) pid = other == pid

abbrev pub among : (ℕ → Option ℕ) → ℕ → ℕ → Bool
among at zero pid = false
among at (suc place) pid = among at place pid || is_pid (at place) pid

-- ---- the processes that were killed while they were away

abbrev pub same_kill_slot : KillSlot → KillSlot → Bool
same_kill_slot a b = same_kill a.at b.at && a.place == b.place

abbrev pub away_kept : List (KillAt × ℕ) → KillAt → Option ℕ
away_kept counts at = lookup (same_kill at) counts

abbrev pub away_count : List (KillAt × ℕ) → KillAt → ℕ
away_count counts at = count_or (away_kept counts at)

abbrev pub away_slot_kept : List (KillSlot × ℕ) → KillSlot → Option ℕ
away_slot_kept slots slot = lookup (same_kill_slot slot) slots

abbrev pub away_slot : List (KillSlot × ℕ) → KillAt → ℕ → Option ℕ
away_slot slots at place = away_slot_kept slots (record { at = at; place = place })

abbrev pub is_away : Away → KillAt → ℕ → Bool
is_away away at pid = among (away_slot away.slots.entries at) (away_count away.counts.entries at) pid

-- one more of a kill: its place and the count; then whether processes are among them
pub record PutsAway (at : KillAt) (pid : ℕ) (old new : Away) : Type 0 where
  pub counts :
      (other : KillAt) → away_kept new.counts.entries other ≡ (if same_kill at other then Some (away_count old.counts.entries at + 1) else away_kept old.counts.entries other)
  pub slots :
      (slot : KillSlot) → away_slot_kept new.slots.entries slot ≡ (if same_kill_slot (record { at = at; place = away_count old.counts.entries at }) slot then Some pid else away_slot_kept old.slots.entries slot)

abbrev pub AddsAway : KillAt → ℕ → Away → Away → Type 0
AddsAway at pid old new =
    (other : KillAt) (p : ℕ) → is_away new other p ≡ (if same_kill at other && pid == p then true else is_away old other p)

-- behind an event
abbrev pub away_put : Option KillAt → ℕ → KillAt → ℕ → Bool → Bool
away_put None pid other p before = before
away_put (Some kill) pid other p before = if same_kill kill other && pid == p then true else before

abbrev pub away_killed : Kills → Entry → Option ℕ → KillAt → ℕ → Bool → Bool
away_killed kills entry None other p before = before
away_killed kills entry (Some pid) other p before = away_put (first_away kills entry pid) pid other p before

abbrev pub away_behind : Kills → Event → KillAt → ℕ → Bool → Bool
away_behind kills (event.Enter entry) other p before = away_killed kills entry (killed_by entry.call entry.reply) other p before
away_behind kills _ other p before = before

abbrev pub AwayOn : Kills → Event → Away → Away → Type 0
AwayOn kills e old new = (other : KillAt) (p : ℕ) → is_away new other p ≡ away_behind kills e other p (is_away old other p)

-- ---- the processes of whose kills requests tell

abbrev pub same_request : RequestAt → RequestAt → Bool
same_request a b = a.kernel == b.kernel && a.tx.0 == b.tx.0

abbrev pub same_request_slot : RequestSlot → RequestSlot → Bool
same_request_slot a b = same_request a.at b.at && a.place == b.place

abbrev pub sent_kept : List (RequestAt × ℕ) → RequestAt → Option ℕ
sent_kept counts at = lookup (same_request at) counts

abbrev pub sent_count : List (RequestAt × ℕ) → RequestAt → ℕ
sent_count counts at = count_or (sent_kept counts at)

abbrev pub sent_slot_kept : List (RequestSlot × ℕ) → RequestSlot → Option ℕ
sent_slot_kept slots slot = lookup (same_request_slot slot) slots

abbrev pub sent_slot : List (RequestSlot × ℕ) → RequestAt → ℕ → Option ℕ
sent_slot slots at place = sent_slot_kept slots (record { at = at; place = place })

abbrev pub is_sent : Sent → RequestAt → ℕ → Bool
is_sent sent at pid = among (sent_slot sent.slots.entries at) (sent_count sent.counts.entries at) pid

pub record PutsSent (at : RequestAt) (pid : ℕ) (old new : Sent) : Type 0 where
  pub counts :
      (other : RequestAt) → sent_kept new.counts.entries other ≡ (if same_request at other then Some (sent_count old.counts.entries at + 1) else sent_kept old.counts.entries other)
  pub slots :
      (slot : RequestSlot) → sent_slot_kept new.slots.entries slot ≡ (if same_request_slot (record { at = at; place = sent_count old.counts.entries at }) slot then Some pid else sent_slot_kept old.slots.entries slot)

abbrev pub AddsSent : RequestAt → ℕ → Sent → Sent → Type 0
AddsSent at pid old new =
    (other : RequestAt) (p : ℕ) → is_sent new other p ≡ (if same_request at other && pid == p then true else is_sent old other p)

-- a request tells of the kills of all that were killed so
abbrev pub sends_one : RequestAt → Option ℕ → RequestAt → ℕ → Bool → Bool
sends_one at None other p before = before
sends_one at (Some pid) other p before = if same_request at other && pid == p then true else before

abbrev pub sends_first : RequestAt → (ℕ → Option ℕ) → ℕ → RequestAt → ℕ → Bool → Bool
sends_first at slot zero other p before = before
sends_first at slot (suc place) other p before = sends_one at (slot place) other p (sends_first at slot place other p before)

abbrev pub sends_each : Away → KillAt → RequestAt → RequestAt → ℕ → Bool → Bool
sends_each away kill at other p before =
    sends_first at (away_slot away.slots.entries kill) (away_count away.counts.entries kill) other p before

abbrev pub SendsEach : Away → KillAt → RequestAt → Sent → Sent → Type 0
SendsEach away kill at old new =
    (other : RequestAt) (p : ℕ) → is_sent new other p ≡ sends_each away kill at other p (is_sent old other p)

-- behind an event of a kernel
abbrev pub sent_about : ℕ → ℕ → RequestAt → Option About → Away → RequestAt → ℕ → Bool → Bool
sent_about kernel to at None away other p before = before
sent_about kernel to at (Some about) away other p before = sends_each away (kill_sent kernel to about) at other p before

abbrev pub sent_behind : ℕ → Event → Away → RequestAt → ℕ → Bool → Bool
sent_behind kernel (event.Send tx to about kind) away other p before =
    sent_about kernel to (record { kernel = to; tx = tx }) about away other p before
sent_behind kernel _ away other p before = before

abbrev pub SentOn : ℕ → Event → Away → Sent → Sent → Type 0
SentOn kernel e away old new =
    (other : RequestAt) (p : ℕ) → is_sent new other p ≡ sent_behind kernel e away other p (is_sent old other p)

-- ---- the requests that were taken

abbrev pub has_taken : List RequestAt → RequestAt → Bool
has_taken taken at = list_any (same_request at) taken

abbrev pub taken_behind : ℕ → Event → RequestAt → Bool → Bool
taken_behind kernel (event.Deliver tx from false about) at before =
    if same_request (record { kernel = kernel; tx = tx }) at then true else before
taken_behind kernel _ at before = before

abbrev pub TakenOn : ℕ → Event → List RequestAt → List RequestAt → Type 0
TakenOn kernel e before after = (at : RequestAt) → has_taken after at ≡ taken_behind kernel e at (has_taken before at)

-- ---- the kills that are known

abbrev pub same_known : KnownAt → KnownAt → Bool
same_known a b = a.kernel == b.kernel && a.pid == b.pid

abbrev pub has_known : List KnownAt → KnownAt → Bool
has_known known at = list_any (same_known at) known

-- a process is at a kernel, and not on its way
abbrev pub is_placed_in : ℕ → Option Place → Bool
is_placed_in kernel None = false
is_placed_in kernel (Some place) = not place.moving && place.kernel == kernel

abbrev pub is_placed : List (ℕ × Place) → ℕ → ℕ → Bool
is_placed places kernel pid = is_placed_in kernel (place_kept places pid)

-- a process hears of its kill at a kernel where it is; then all of whose kills a request tells
abbrev pub meets : List (ℕ × Place) → ℕ → ℕ → KnownAt → Bool → Bool
meets places kernel pid at before =
    if is_placed places kernel pid
    then (if same_known (record { kernel = kernel; pid = pid }) at then true else before)
    else before

abbrev pub MeetsOne : List (ℕ × Place) → ℕ → ℕ → List KnownAt → List KnownAt → Type 0
MeetsOne places kernel pid before after = (at : KnownAt) → has_known after at ≡ meets places kernel pid at (has_known before at)

abbrev pub meets_one : List (ℕ × Place) → ℕ → Option ℕ → KnownAt → Bool → Bool
meets_one places kernel None at before = before
meets_one places kernel (Some pid) at before = meets places kernel pid at before

abbrev pub meets_first : List (ℕ × Place) → ℕ → (ℕ → Option ℕ) → ℕ → KnownAt → Bool → Bool
meets_first places kernel slot zero at before = before
meets_first places kernel slot (suc place) at before =
    meets_one places kernel (slot place) at (meets_first places kernel slot place at before)

abbrev pub meets_each : Sent → List (ℕ × Place) → RequestAt → KnownAt → Bool → Bool
meets_each sent places request at before =
    meets_first places request.kernel (sent_slot sent.slots.entries request) (sent_count sent.counts.entries request) at before

abbrev pub MeetsEach : Sent → List (ℕ × Place) → RequestAt → List KnownAt → List KnownAt → Type 0
MeetsEach sent places request before after =
    (at : KnownAt) → has_known after at ≡ meets_each sent places request at (has_known before at)

-- behind an event of a kernel: a request is taken for the first time, or not
abbrev pub known_taken : Bool → Sent → List (ℕ × Place) → RequestAt → KnownAt → Bool → Bool
known_taken true sent places request at before = before
known_taken false sent places request at before = meets_each sent places request at before

abbrev pub known_behind : ℕ → Event → List RequestAt → Sent → List (ℕ × Place) → KnownAt → Bool → Bool
known_behind kernel (event.Deliver tx from false about) taken sent places at before =
    known_taken (has_taken taken (record { kernel = kernel; tx = tx })) sent places (record { kernel = kernel; tx = tx }) at before
known_behind kernel _ taken sent places at before = before

abbrev pub KnownOn : ℕ → Event → List RequestAt → Sent → List (ℕ × Place) → List KnownAt → List KnownAt → Type 0
KnownOn kernel e taken sent places before after =
    (at : KnownAt) → has_known after at ≡ known_behind kernel e taken sent places at (has_known before at)

-- ---- all that is kept

pub record KeepsKnowledge (kernel : ℕ) (e : Event) (old new : Knowledge) : Type 0 where
  pub kills : KeepsKills kernel e old.kills new.kills
  pub away : AwayOn old.kills e old.away new.away
  pub sent : SentOn kernel e old.away old.sent new.sent
  pub taken : TakenOn kernel e old.taken.keys new.taken.keys
  pub known : KnownOn kernel e old.taken.keys old.sent old.kills.places.entries old.known.keys new.known.keys

-- before the first record
pub record BeginsKnowledge (c : Description) (judge : Knowledge) : Type 0 where
  pub kills : BeginsKills c judge.kills
  pub away : judge.away.counts.entries ≡ []
  pub sent : judge.sent.counts.entries ≡ []
  pub taken : judge.taken.keys ≡ []
  pub known : judge.known.keys ≡ []

-- a process may issue a call at a kernel
abbrev pub may_issue_at : Knowledge → ℕ → ℕ → Bool
may_issue_at judge pid kernel =
    if kernel == home_of pid
    then not (has_killed judge.kills.killed.keys pid)
    else not (has_known judge.known.keys (record { kernel = kernel; pid = pid }))

abbrev pub may_issue : Knowledge → ℕ → Event → Bool
may_issue judge kernel (event.Issue pid number call) = may_issue_at judge pid kernel
may_issue judge kernel _ = true

-- ---- what the records tell

-- a process is killed for the first time, by an entry, where it is at that kernel, away from its home
abbrev pub is_met_away : ℕ → ℕ → Past → Event → Bool
is_met_away pid kernel past (event.Enter entry) =
    is_kill_of pid (event.Enter entry) && is_first_kill past.records pid && holds (λ at. at == kernel) (place_of past pid)
    && not (kernel == home_of pid)
is_met_away pid kernel past _ = false

-- that is the call of a kill
abbrev pub is_call_of : ℕ → KillAt → Event → Bool
is_call_of pid at (event.Enter entry) = at.home == home_of pid && (at.pid == entry.pid && at.number == entry.number)
is_call_of pid at _ = false

abbrev pub has_kill : Description → List Rec → KillAt → ℕ → Bool
has_kill c records at pid =
    some_record c (λ past rec rest. is_met_away pid at.to past rec.event && is_call_of pid at rec.event) records

-- the home of a process sends a packet to a kernel about the call that an entry ends
abbrev pub is_told_by : ℕ → ℕ → Event → Rec → Bool
is_told_by pid kernel (event.Enter entry) rec = is_at (home_of pid) (is_send_about_to entry.pid entry.number kernel) rec
is_told_by pid kernel _ rec = false

-- the number of a packet
abbrev pub number_of : Event → ℕ
number_of (event.Send tx to about kind) = tx.0
number_of _ = 0

abbrev pub has_send : Description → List Rec → RequestAt → ℕ → Bool
has_send c records at pid =
    some_record c
    (λ past rec rest. is_met_away pid at.kernel past rec.event && some_from c (λ later r behind. is_told_by pid at.kernel rec.event r && number_of r.event == at.tx.0) (past_with c rec past) rest)
    records

-- what is kept is what the records tell
pub record TellsKnowledge (c : Description) (judge : Knowledge) (past : Past) : Type 0 where
  pub reached : past_from c (no_past c) past.records ≡ past
  pub kills_told : TellsKills judge.kills past
  pub away_told : (at : KillAt) (pid : ℕ) → is_away judge.away at pid ≡ has_kill c past.records at pid
  pub sent_told : (at : RequestAt) (pid : ℕ) → is_sent judge.sent at pid ≡ has_send c past.records at pid
  pub taken_told : (at : RequestAt) → has_taken judge.taken.keys at ≡ list_any (is_at at.kernel (is_request at.tx.0)) past.records
  pub known_told : (at : KnownAt) → has_known judge.known.keys at ≡ knows_kill c past.records at.pid at.kernel

-- a place of a trace before these records: what stands before it is told, and whether the processes of the rest are silent is whether
-- all are
pub record Hearing (c : Description) (judge : Knowledge) (trace rest : List Rec) : Type 0 where
  pub past : Past
  pub told : TellsKnowledge c judge past
  pub left :
      each_from c (λ past rec rest. issues_well c past rec.kernel rec.event) past rest ≡ killed_processes_are_silent c trace
