-- What is kept of echoes and broadcasts is what the records tell.
use Rattle.std.specs.Prelude.{◌≡◌, ℕ, ◌==◌, Bool, false, ◌&&◌, List, count_by}
use Rattle.std.specs.List.{list_any}
use Rattle.std.specs.Option.{option_map}
use Rattle.unix_calls.specs.declared.description.Description.{Description}
use Rattle.unix_calls.specs.declared.event.SendKind.TheVariants as send
use Rattle.unix_calls.specs.declared.event.Event.{Event}
use Rattle.unix_calls.specs.declared.event.Event.TheVariants as event
use Rattle.unix_calls.specs.declared.event.Rec.{Rec}
use Rattle.call_journal.specs.Past.{Past, past_of, some_record}
use Rattle.call_journal.specs.Matching.{is_about, is_at, is_expire}
use Rattle.call_journal.specs.Calls.{is_name_call, issued_call}
use Rattle.call_journal.specs.WorthPackets.{is_other_send_about, is_echo_for, is_limited, is_given_up_echo}
use Rattle.trace_places.specs.Places.{TellsPlaces}
use Rattle.trace_tables.specs.declared.CallAt.{CallAt}
use Rattle.trace_tables.specs.Calls.{about_of}
use Rattle.echo_worth.specs.declared.keys.CallTo.{CallTo}
use Rattle.echo_worth.specs.declared.keys.OtherAt.{OtherAt}
use Rattle.echo_worth.specs.declared.keys.Sender.{Sender}
use Rattle.echo_worth.specs.declared.kept.Kept.{Kept}
use Rattle.echo_worth.specs.Kept.{named_kept, has_other, has_sender, has_to, sender_count, has_echo}

-- an event of a kernel sends an echo to that kernel for the sake of that call; the number with which it goes
abbrev pub is_echo_to : Description → Past → ℕ → CallTo → Event → Bool
is_echo_to c earlier kernel to (event.Send t s about send.Other) =
    is_about to.call.pid to.call.number about && s == to.to && is_echo_for c earlier kernel to.to about
is_echo_to c earlier kernel to _ = false

abbrev pub number_in : Event → ℕ
number_in (event.Send t s about kind) = t.0
number_in _ = 0

-- such an echo went with that number
abbrev pub went : Description → Sender → CallTo → List Rec → Bool
went c at to records =
    some_record c (λ earlier r rest. is_echo_to c earlier r.kernel to r.event && (at.kernel == r.kernel && at.tx.0 == number_in r.event)) records

-- and was given up
abbrev pub was_given_up : Description → CallTo → List Rec → Bool
was_given_up c to records =
    some_record c (λ earlier r rest. is_given_up_echo c earlier r.kernel (about_of to.call) to.to r.event rest) records

pub record TellsKept (c : Description) (kept : Kept) (past : Past) : Type 0 where
  pub all : past ≡ past_of c past.records
  pub places_told : TellsPlaces kept.places.entries past.processes
  pub named_told : (call : CallAt) → named_kept kept.named.entries call ≡ option_map is_name_call (issued_call call.pid call.number past.records)
  pub others_told : (one : OtherAt) → has_other kept.others.keys one ≡ list_any (is_at one.kernel (is_other_send_about (about_of one.call.call) one.call.to)) past.records
  pub limited_told : (at : Sender) → has_sender kept.limited.keys at ≡ is_limited c past at.kernel at.tx.0
  pub expires_told : (at : Sender) → sender_count kept.expires.entries at ≡ count_by (is_at at.kernel (is_expire at.tx.0)) past.records
  pub echoes_told : (at : Sender) (to : CallTo) → has_echo kept at to ≡ went c at to past.records
  pub given_told : (to : CallTo) → has_to kept.given_up.keys to ≡ was_given_up c to past.records
