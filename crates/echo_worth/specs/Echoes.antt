-- Which packets are echoes, which may come, and what each record adds to what is kept.
use Rattle.std.specs.Prelude.{◌≡◌, ℕ, ◌+◌, Bool, true, false, ◌&&◌, ◌||◌, not, if◌then◌else◌, List, Option, Some, None}
use Rattle.unix_calls.specs.declared.description.Description.{Description}
use Rattle.unix_calls.specs.declared.event.About.{About}
use Rattle.unix_calls.specs.declared.event.SendKind.{SendKind}
use Rattle.unix_calls.specs.declared.event.SendKind.TheVariants as send
use Rattle.unix_calls.specs.declared.event.Event.{Event}
use Rattle.unix_calls.specs.declared.event.Event.TheVariants as event
use Rattle.call_journal.specs.Calls.{or_else, is_name_call}
use Rattle.call_journal.specs.WorthPackets.{is_server, ends_at_eight}
use Rattle.trace_places.specs.Places.{MovesOn, is_kernel_of, place_kept}
use Rattle.trace_tables.specs.declared.CallAt.{CallAt}
use Rattle.trace_tables.specs.Calls.{call_of, same_call}
use Rattle.echo_worth.specs.declared.keys.CallTo.{CallTo}
use Rattle.echo_worth.specs.declared.keys.EchoSlot.{EchoSlot}
use Rattle.echo_worth.specs.declared.keys.OtherAt.{OtherAt}
use Rattle.echo_worth.specs.declared.keys.Sender.{Sender}
use Rattle.echo_worth.specs.declared.kept.Kept.{Kept}
use Rattle.echo_worth.specs.Kept.{same_other, named_kept, is_named, has_other, has_sender, has_to, sender_kept, sender_count, sender_more, slot_kept, has_echo, PutsNamed, CountsSender, limited_with, counts_with, slots_with}

-- the call of a packet, and the kernel to which it goes; with the kernel that sends it
abbrev pub call_to : About → ℕ → CallTo
call_to about to = record { call = call_of about; to = to }

abbrev pub other_at : ℕ → About → ℕ → OtherAt
other_at kernel about to = record { kernel = kernel; call = call_to about to }

-- ---- looking

-- a packet is an echo, and one of eight tries
abbrev pub is_echo_by : Description → Kept → ℕ → ℕ → Option About → Bool
is_echo_by c kept kernel to None = false
is_echo_by c kept kernel to (Some about) =
    is_server c to && is_named (named_kept kept.named.entries (call_of about))
    && is_kernel_of kernel (place_kept kept.places.entries about.pid)
    && not (has_other kept.others.keys (other_at kernel about to))

abbrev pub is_limited_by : Description → Kept → ℕ → ℕ → Option About → SendKind → Bool
is_limited_by c kept kernel to about (send.Broadcast prefix) = true
is_limited_by c kept kernel to about send.Other = is_echo_by c kept kernel to about
is_limited_by c kept kernel to about _ = false

-- a try may end, and a packet may go
abbrev pub ends_well : Kept → Sender → Bool → Bool
ends_well kept at last =
    if has_sender kept.limited.keys at then ends_at_eight (sender_count kept.expires.entries at + 1) last else true

abbrev pub may_be_sent : Kept → ℕ → Option About → Bool
may_be_sent kept to None = true
may_be_sent kept to (Some about) = not (has_to kept.given_up.keys (call_to about to))

abbrev pub may_come : Kept → ℕ → Event → Bool
may_come kept kernel (event.Expire tx last) = ends_well kept (record { kernel = kernel; tx = tx }) last
may_come kept kernel (event.Send tx to about kind) = may_be_sent kept to about
may_come kept kernel _ = true

-- ---- one record more

-- what is kept behind a packet of no stated kind
abbrev pub others_for : ℕ → ℕ → Option About → OtherAt → Bool → Bool
others_for kernel to None one before = before
others_for kernel to (Some about) one before = if same_other (other_at kernel about to) one then true else before

abbrev pub counts_for : Description → Kept → Sender → ℕ → Option About → Sender → Option ℕ
counts_for c old at to about other = counts_with (is_echo_by c old at.kernel to about) at old.counts.entries other

abbrev pub slots_for : Description → Kept → Sender → ℕ → Option About → EchoSlot → Option CallTo
slots_for c old at to None slot = slot_kept old.slots.entries slot
slots_for c old at to (Some about) slot =
    slots_with (is_echo_by c old at.kernel to (Some about)) at (call_to about to) old.counts.entries slot (slot_kept old.slots.entries slot)

-- what a packet leaves
pub record Stays (old new : Kept) : Type 0 where
  pub places : new.places.entries ≡ old.places.entries
  pub named : new.named.entries ≡ old.named.entries
  pub expires : new.expires.entries ≡ old.expires.entries
  pub given_up : new.given_up.keys ≡ old.given_up.keys

pub record SendsOther (c : Description) (at : Sender) (to : ℕ) (about : Option About) (old new : Kept) : Type 0 where
  pub stays : Stays old new
  pub limited : new.limited.keys ≡ old.limited.keys
  pub others : (one : OtherAt) → has_other new.others.keys one ≡ others_for at.kernel to about one (has_other old.others.keys one)
  pub counts : (other : Sender) → sender_kept new.counts.entries other ≡ counts_for c old at to about other
  pub slots : (slot : EchoSlot) → slot_kept new.slots.entries slot ≡ slots_for c old at to about slot

-- behind any packet
abbrev pub limited_for : Description → Kept → Sender → ℕ → Option About → SendKind → Sender → Bool → Bool
limited_for c old at to about kind other before = limited_with (is_limited_by c old at.kernel to about kind) at other before

abbrev pub others_sent : ℕ → ℕ → Option About → SendKind → OtherAt → Bool → Bool
others_sent kernel to about send.Other one before = others_for kernel to about one before
others_sent kernel to about _ one before = before

abbrev pub counts_sent : Description → Kept → Sender → ℕ → Option About → SendKind → Sender → Option ℕ
counts_sent c old at to about send.Other other = counts_for c old at to about other
counts_sent c old at to about _ other = sender_kept old.counts.entries other

abbrev pub slots_sent : Description → Kept → Sender → ℕ → Option About → SendKind → EchoSlot → Option CallTo
slots_sent c old at to about send.Other slot = slots_for c old at to about slot
slots_sent c old at to about _ slot = slot_kept old.slots.entries slot

pub record SendsOn (c : Description) (at : Sender) (to : ℕ) (about : Option About) (kind : SendKind) (old new : Kept) : Type 0 where
  pub stays : Stays old new
  pub limited : (other : Sender) → has_sender new.limited.keys other ≡ limited_for c old at to about kind other (has_sender old.limited.keys other)
  pub others : (one : OtherAt) → has_other new.others.keys one ≡ others_sent at.kernel to about kind one (has_other old.others.keys one)
  pub counts : (other : Sender) → sender_kept new.counts.entries other ≡ counts_sent c old at to about kind other
  pub slots : (slot : EchoSlot) → slot_kept new.slots.entries slot ≡ slots_sent c old at to about kind slot

-- behind the issue of a call
pub record NamesOn (call : CallAt) (is_named_so : Bool) (old new : Kept) : Type 0 where
  pub named : PutsNamed call is_named_so old.named.entries new.named.entries
  pub places : new.places.entries ≡ old.places.entries
  pub others : new.others.keys ≡ old.others.keys
  pub limited : new.limited.keys ≡ old.limited.keys
  pub expires : new.expires.entries ≡ old.expires.entries
  pub counts : new.counts.entries ≡ old.counts.entries
  pub slots : new.slots.entries ≡ old.slots.entries
  pub given_up : new.given_up.keys ≡ old.given_up.keys

-- behind a try that is over, the last one or not
abbrev pub given_after : Bool → Kept → Sender → CallTo → Bool
given_after true old at to = has_to old.given_up.keys to || has_echo old at to
given_after false old at to = has_to old.given_up.keys to

pub record ExpiresOn (at : Sender) (last : Bool) (old new : Kept) : Type 0 where
  pub expires : CountsSender at old.expires.entries new.expires.entries
  pub given_up : (to : CallTo) → has_to new.given_up.keys to ≡ given_after last old at to
  pub places : new.places.entries ≡ old.places.entries
  pub named : new.named.entries ≡ old.named.entries
  pub others : new.others.keys ≡ old.others.keys
  pub limited : new.limited.keys ≡ old.limited.keys
  pub counts : new.counts.entries ≡ old.counts.entries
  pub slots : new.slots.entries ≡ old.slots.entries

-- behind any record, but for where processes are
abbrev pub KeepsOn : Description → ℕ → Event → Kept → Kept → Type 0
KeepsOn c kernel (event.Issue pid number call) old new = NamesOn (record { pid = pid; number = number }) (is_name_call call) old new
KeepsOn c kernel (event.Send tx to about kind) old new = SendsOn c (record { kernel = kernel; tx = tx }) to about kind old new
KeepsOn c kernel (event.Expire tx last) old new = ExpiresOn (record { kernel = kernel; tx = tx }) last old new
KeepsOn c kernel _ old new = new ≡ old

-- behind any record
abbrev pub named_behind : Event → CallAt → Option Bool → Option Bool
named_behind (event.Issue pid number call) at before =
    if same_call (record { pid = pid; number = number }) at then or_else before (Some (is_name_call call)) else before
named_behind _ at before = before

abbrev pub expires_behind : ℕ → Event → List (Sender × ℕ) → Sender → Option ℕ
expires_behind kernel (event.Expire tx last) before other = sender_more (record { kernel = kernel; tx = tx }) before other
expires_behind kernel _ before other = sender_kept before other

abbrev pub limited_behind : Description → Kept → ℕ → Event → Sender → Bool → Bool
limited_behind c old kernel (event.Send tx to about kind) other before =
    limited_for c old (record { kernel = kernel; tx = tx }) to about kind other before
limited_behind c old kernel _ other before = before

abbrev pub others_behind : ℕ → Event → OtherAt → Bool → Bool
others_behind kernel (event.Send tx to about kind) one before = others_sent kernel to about kind one before
others_behind kernel _ one before = before

abbrev pub counts_behind : Description → Kept → ℕ → Event → Sender → Option ℕ
counts_behind c old kernel (event.Send tx to about kind) other = counts_sent c old (record { kernel = kernel; tx = tx }) to about kind other
counts_behind c old kernel _ other = sender_kept old.counts.entries other

abbrev pub slots_behind : Description → Kept → ℕ → Event → EchoSlot → Option CallTo
slots_behind c old kernel (event.Send tx to about kind) slot = slots_sent c old (record { kernel = kernel; tx = tx }) to about kind slot
slots_behind c old kernel _ slot = slot_kept old.slots.entries slot

abbrev pub given_behind : Kept → ℕ → Event → CallTo → Bool
given_behind old kernel (event.Expire tx last) to = given_after last old (record { kernel = kernel; tx = tx }) to
given_behind old kernel _ to = has_to old.given_up.keys to

pub record KeptBehind (c : Description) (kernel : ℕ) (e : Event) (old new : Kept) : Type 0 where
  pub places : new.places.entries ≡ old.places.entries
  pub named : (call : CallAt) → named_kept new.named.entries call ≡ named_behind e call (named_kept old.named.entries call)
  pub others : (one : OtherAt) → has_other new.others.keys one ≡ others_behind kernel e one (has_other old.others.keys one)
  pub limited : (at : Sender) → has_sender new.limited.keys at ≡ limited_behind c old kernel e at (has_sender old.limited.keys at)
  pub expires : (at : Sender) → sender_kept new.expires.entries at ≡ expires_behind kernel e old.expires.entries at
  pub counts : (at : Sender) → sender_kept new.counts.entries at ≡ counts_behind c old kernel e at
  pub slots : (slot : EchoSlot) → slot_kept new.slots.entries slot ≡ slots_behind c old kernel e slot
  pub given_up : (to : CallTo) → has_to new.given_up.keys to ≡ given_behind old kernel e to

pub record GoesOn (c : Description) (kernel : ℕ) (e : Event) (old new : Kept) : Type 0 where
  pub places : MovesOn kernel e old.places.entries new.places.entries
  pub named : (call : CallAt) → named_kept new.named.entries call ≡ named_behind e call (named_kept old.named.entries call)
  pub others : (one : OtherAt) → has_other new.others.keys one ≡ others_behind kernel e one (has_other old.others.keys one)
  pub limited : (at : Sender) → has_sender new.limited.keys at ≡ limited_behind c old kernel e at (has_sender old.limited.keys at)
  pub expires : (at : Sender) → sender_kept new.expires.entries at ≡ expires_behind kernel e old.expires.entries at
  pub counts : (at : Sender) → sender_kept new.counts.entries at ≡ counts_behind c old kernel e at
  pub slots : (slot : EchoSlot) → slot_kept new.slots.entries slot ≡ slots_behind c old kernel e slot
  pub given_up : (to : CallTo) → has_to new.given_up.keys to ≡ given_behind old kernel e to
