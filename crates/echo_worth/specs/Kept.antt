-- What is kept of echoes and broadcasts, and what is kept behind a record.
use Rattle.std.specs.Prelude.{◌≡◌, ℕ, zero, suc, ◌+◌, ◌==◌, Bool, true, false, ◌&&◌, ◌||◌, if◌then◌else◌, List, [], Option, Some, None}
use Rattle.std.specs.List.{list_any}
use Rattle.std.specs.Map.{lookup}
use Rattle.call_journal.specs.Calls.{or_else}
use Rattle.trace_tables.specs.declared.CallAt.{CallAt}
use Rattle.trace_tables.specs.Calls.{same_call}
use Rattle.echo_worth.specs.declared.keys.CallTo.{CallTo}
use Rattle.echo_worth.specs.declared.keys.EchoSlot.{EchoSlot}
use Rattle.echo_worth.specs.declared.keys.OtherAt.{OtherAt}
use Rattle.echo_worth.specs.declared.keys.Sender.{Sender}
use Rattle.echo_worth.specs.declared.kept.Kept.{Kept}

-- the same names
abbrev pub same_sender : Sender → Sender → Bool
same_sender a b = a.kernel == b.kernel && a.tx.0 == b.tx.0

abbrev pub same_to : CallTo → CallTo → Bool
same_to a b = same_call a.call b.call && a.to == b.to

abbrev pub same_other : OtherAt → OtherAt → Bool
same_other a b = a.kernel == b.kernel && same_to a.call b.call

abbrev pub same_slot : EchoSlot → EchoSlot → Bool
same_slot a b = same_sender a.at b.at && a.place == b.place

-- ---- what is kept

abbrev pub named_kept : List (CallAt × Bool) → CallAt → Option Bool
named_kept named call = lookup (same_call call) named

abbrev pub is_named : Option Bool → Bool
is_named None = false
is_named (Some named) = named

abbrev pub has_other : List OtherAt → OtherAt → Bool
has_other others one = list_any (same_other one) others

abbrev pub has_sender : List Sender → Sender → Bool
has_sender limited at = list_any (same_sender at) limited

abbrev pub has_to : List CallTo → CallTo → Bool
has_to given_up to = list_any (same_to to) given_up

-- a count that isn't kept is none
abbrev pub count_or : Option ℕ → ℕ
count_or None = 0
count_or (Some count) = count

abbrev pub sender_kept : List (Sender × ℕ) → Sender → Option ℕ
sender_kept counts at = lookup (same_sender at) counts

abbrev pub sender_count : List (Sender × ℕ) → Sender → ℕ
sender_count counts at = count_or (sender_kept counts at)

abbrev pub slot_kept : List (EchoSlot × CallTo) → EchoSlot → Option CallTo
slot_kept slots slot = lookup (same_slot slot) slots

-- whether an echo is in a slot, and in one of the first
abbrev pub in_slot : Option CallTo → CallTo → Bool
in_slot None to = false
in_slot (Some other) to = same_to other to

abbrev pub slots_have : List (EchoSlot × CallTo) → Sender → ℕ → CallTo → Bool
slots_have slots at zero to = false
slots_have slots at (suc place) to = slots_have slots at place to || in_slot (slot_kept slots (record { at = at; place = place })) to

abbrev pub has_echo : Kept → Sender → CallTo → Bool
has_echo kept at to = slots_have kept.slots.entries at (sender_count kept.counts.entries at) to

-- nothing is kept
pub record NothingKept (kept : Kept) : Type 0 where
  pub named : kept.named.entries ≡ []
  pub others : kept.others.keys ≡ []
  pub limited : kept.limited.keys ≡ []
  pub expires : kept.expires.entries ≡ []
  pub counts : kept.counts.entries ≡ []
  pub given_up : kept.given_up.keys ≡ []

-- ---- small steps

abbrev pub PutsNamed : CallAt → Bool → List (CallAt × Bool) → List (CallAt × Bool) → Type 0
PutsNamed call named before after =
    (other : CallAt) → named_kept after other ≡ (if same_call call other then or_else (named_kept before other) (Some named) else named_kept before other)

abbrev pub sender_more : Sender → List (Sender × ℕ) → Sender → Option ℕ
sender_more at before other = if same_sender at other then Some (sender_count before at + 1) else sender_kept before other

abbrev pub CountsSender : Sender → List (Sender × ℕ) → List (Sender × ℕ) → Type 0
CountsSender at before after = (other : Sender) → sender_kept after other ≡ sender_more at before other

abbrev pub PutsEcho : Sender → CallTo → List (Sender × ℕ) → List (EchoSlot × CallTo) → List (Sender × ℕ) → List (EchoSlot × CallTo) → Type 0
PutsEcho at to counts slots counts_after slots_after =
    CountsSender at counts counts_after
    × ((slot : EchoSlot) → slot_kept slots_after slot ≡ (if same_slot (record { at = at; place = sender_count counts at }) slot then Some to else slot_kept slots slot))

abbrev pub GivesUp : Sender → ℕ → List (EchoSlot × CallTo) → List CallTo → List CallTo → Type 0
GivesUp at count slots before after = (to : CallTo) → has_to after to ≡ (has_to before to || slots_have slots at count to)

abbrev pub GivesUpSlot : EchoSlot → List (EchoSlot × CallTo) → List CallTo → List CallTo → Type 0
GivesUpSlot slot slots before after = (to : CallTo) → has_to after to ≡ (if in_slot (slot_kept slots slot) to then true else has_to before to)

-- a number has eight tries, or not
abbrev pub limited_with : Bool → Sender → Sender → Bool → Bool
limited_with true at other before = if same_sender at other then true else before
limited_with false at other before = before

abbrev pub PutsLimited : Bool → Sender → List Sender → List Sender → Type 0
PutsLimited limited at before after = (other : Sender) → has_sender after other ≡ limited_with limited at other (has_sender before other)

abbrev pub PutsOther : OtherAt → List OtherAt → List OtherAt → Type 0
PutsOther one before after = (other : OtherAt) → has_other after other ≡ (if same_other one other then true else has_other before other)

-- an echo goes with a number, or doesn't
abbrev pub counts_with : Bool → Sender → List (Sender × ℕ) → Sender → Option ℕ
counts_with true at before other = sender_more at before other
counts_with false at before other = sender_kept before other

abbrev pub slots_with : Bool → Sender → CallTo → List (Sender × ℕ) → EchoSlot → Option CallTo → Option CallTo
slots_with true at to counts slot before =
    if same_slot (record { at = at; place = sender_count counts at }) slot then Some to else before
slots_with false at to counts slot before = before

abbrev pub KeepsEcho : Bool → Sender → CallTo → List (Sender × ℕ) → List (EchoSlot × CallTo) → List (Sender × ℕ) → List (EchoSlot × CallTo) → Type 0
KeepsEcho echo at to counts slots counts_after slots_after =
    ((other : Sender) → sender_kept counts_after other ≡ counts_with echo at counts other)
    × ((slot : EchoSlot) → slot_kept slots_after slot ≡ slots_with echo at to counts slot (slot_kept slots slot))
