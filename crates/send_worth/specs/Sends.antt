-- Packets for the sake of calls, and what they are counted against.
use Rattle.std.specs.Prelude.{◌≡◌, ℕ, ◌+◌, ◌==◌, Bool, true, false, ◌||◌, if◌then◌else◌, List, [], ◌∷◌, nat_le, count_by, Option, Some, None}
use Rattle.std.specs.Option.{option_map}
use Rattle.std.specs.Map.{lookup}
use Rattle.unix_calls.specs.declared.description.Description.{Description}
use Rattle.unix_calls.specs.declared.event.About.{About}
use Rattle.unix_calls.specs.declared.event.SendKind.{SendKind}
use Rattle.unix_calls.specs.declared.event.Event.{Event}
use Rattle.unix_calls.specs.declared.event.Event.TheVariants as event
use Rattle.unix_calls.specs.declared.event.Rec.{Rec}
use Rattle.call_journal.specs.Past.{each_record}
use Rattle.call_journal.specs.Matching.{has_event, is_issue}
use Rattle.call_journal.specs.Calls.{or_else}
use Rattle.call_journal.specs.WorthSends.{moves_blocks, is_counted_send, is_for, given_since, sends_well}
use Rattle.trace_tables.specs.declared.CallAt.{CallAt}
use Rattle.trace_tables.specs.Calls.{about_of, call_of, same_call}
use Rattle.send_worth.specs.declared.sends.Issued.{Issued}
use Rattle.send_worth.specs.declared.sends.Sends.{Sends}

-- each packet of a trace for the sake of a call goes behind its issue, and there are few of these so far
abbrev pub sends_are_issued : Description → List Rec → Bool
sends_are_issued c trace = each_record c (λ past rec rest. sends_well past rec.event) trace

-- ---- what is kept

-- a call, and the same call
abbrev pub issued_at : List (CallAt × Issued) → CallAt → Option Issued
issued_at issued at = lookup (same_call at) issued

-- a count that isn't kept is none
abbrev pub count_or : Option ℕ → ℕ
count_or None = 0
count_or (Some count) = count

abbrev pub sent_kept : List (CallAt × ℕ) → CallAt → Option ℕ
sent_kept sent at = lookup (same_call at) sent

abbrev pub sent_count : List (CallAt × ℕ) → CallAt → ℕ
sent_count sent at = count_or (sent_kept sent at)

abbrev pub given_kept : List (ℕ × ℕ) → ℕ → Option ℕ
given_kept given kernel = lookup (λ other. kernel == other) given

abbrev pub given_count : List (ℕ × ℕ) → ℕ → ℕ
given_count given kernel = count_or (given_kept given kernel)

-- ---- looking

-- few packets went so far for the sake of a call that was issued so
abbrev pub is_few : Sends → CallAt → Issued → Bool
is_few judge at issued =
    nat_le (sent_count judge.sent.entries at + 1 + issued.given) (512 + given_count judge.given.entries issued.kernel)

abbrev pub may_send_for : Sends → SendKind → CallAt → Option Issued → Bool
may_send_for judge kind at None = false
may_send_for judge kind at (Some issued) = moves_blocks kind || is_few judge at issued

abbrev pub may_send_about : Sends → SendKind → Option About → Bool
may_send_about judge kind None = true
may_send_about judge kind (Some call) = may_send_for judge kind (call_of call) (issued_at judge.issued.entries (call_of call))

-- a packet may go
abbrev pub may_send : Sends → Event → Bool
may_send judge (event.Send tx to about kind) = may_send_about judge kind about
may_send judge _ = true

-- ---- one record more

-- the first issue of a call is put
abbrev pub PutsIssued : List (CallAt × Issued) → CallAt → Issued → List (CallAt × Issued) → Type 0
PutsIssued before at one after =
    (other : CallAt) → issued_at after other ≡ (if same_call at other then or_else (issued_at before other) (Some one) else issued_at before other)

-- one more came to a kernel
abbrev pub given_more : ℕ → List (ℕ × ℕ) → ℕ → Option ℕ
given_more to before kernel = if to == kernel then Some (given_count before to + 1) else given_kept before kernel

abbrev pub CountsGiven : ℕ → List (ℕ × ℕ) → List (ℕ × ℕ) → Type 0
CountsGiven to before after = (kernel : ℕ) → given_kept after kernel ≡ given_more to before kernel

-- one more went for the sake of a call, if it moves no block
abbrev pub sent_more : CallAt → List (CallAt × ℕ) → CallAt → Option ℕ
sent_more at before other = if same_call at other then Some (sent_count before at + 1) else sent_kept before other

abbrev pub sent_for : SendKind → Option About → List (CallAt × ℕ) → CallAt → Option ℕ
sent_for kind None before other = sent_kept before other
sent_for kind (Some call) before other = if moves_blocks kind then sent_kept before other else sent_more (call_of call) before other

abbrev pub CountsSent : SendKind → Option About → List (CallAt × ℕ) → List (CallAt × ℕ) → Type 0
CountsSent kind about before after = (other : CallAt) → sent_kept after other ≡ sent_for kind about before other

-- what is kept behind an event of a kernel
abbrev pub issued_behind : ℕ → Event → List (ℕ × ℕ) → CallAt → Option Issued → Option Issued
issued_behind kernel (event.Issue pid number call) given at before =
    if same_call (record { pid = pid; number = number }) at
    then or_else before (Some (record { kernel = kernel; given = given_count given kernel }))
    else before
issued_behind kernel _ given at before = before

abbrev pub given_behind : Event → List (ℕ × ℕ) → ℕ → Option ℕ
given_behind (event.Grant file to stamp mode) given kernel = given_more to given kernel
given_behind (event.Callback file to stamp kind) given kernel = given_more to given kernel
given_behind _ given kernel = given_kept given kernel

abbrev pub sent_behind : Event → List (CallAt × ℕ) → CallAt → Option ℕ
sent_behind (event.Send tx to about kind) sent at = sent_for kind about sent at
sent_behind _ sent at = sent_kept sent at

pub record GoesOut (kernel : ℕ) (e : Event) (old new : Sends) : Type 0 where
  pub issued :
      (at : CallAt) → issued_at new.issued.entries at ≡ issued_behind kernel e old.given.entries at (issued_at old.issued.entries at)
  pub given : (k : ℕ) → given_kept new.given.entries k ≡ given_behind e old.given.entries k
  pub sent : (at : CallAt) → sent_kept new.sent.entries at ≡ sent_behind e old.sent.entries at

-- ---- what the records tell

-- the kernel of a call's first issue
abbrev pub issuer : CallAt → List Rec → Option ℕ
issuer at [] = None
issuer at (rec ∷ rest) = if is_issue at.pid at.number rec.event then Some rec.kernel else issuer at rest

-- what came to the kernel before an issue, and since then, is all
abbrev pub Balanced : Option Issued → List (ℕ × ℕ) → ℕ → Type 0
Balanced None given since = since ≡ 0
Balanced (Some issued) given since = issued.given + since ≡ given_count given issued.kernel

-- what is kept is what the records tell
pub record TellsSends (judge : Sends) (records : List Rec) : Type 0 where
  pub issuer_told : (at : CallAt) → option_map (λ (one : Issued). one.kernel) (issued_at judge.issued.entries at) ≡ issuer at records
  pub given_told : (kernel : ℕ) → given_count judge.given.entries kernel ≡ count_by (has_event (is_for kernel)) records
  pub since_told :
      (at : CallAt) → Balanced (issued_at judge.issued.entries at) judge.given.entries (given_since (about_of at) records)
  pub sent_told : (at : CallAt) → sent_count judge.sent.entries at ≡ count_by (has_event (is_counted_send (about_of at))) records
