-- A server's kernel calls no server unreachable: it refuses calls with other errors.
use Rattle.std.proofs.Common.{◌≡◌, true, false, ◌&&◌, List, [], ◌∷◌, ◌++◌, Option, Some, None, refl, ap, ◌∙◌}
use Rattle.std.specs.List.{AllByRecursion}
use Rattle.sprite_ids.specs.declared.Errno.{Errno}
use Rattle.sprite_ids.specs.declared.Errno.TheVariants.{Unreachable}
use Rattle.process_machine.specs.declared.Reply.{Reply}
use Rattle.process_machine.specs.declared.Reply.TheVariants.{Value, Error}
use Rattle.unix_calls.specs.declared.Entry.{Entry}
use Rattle.unix_calls.specs.declared.Event.{Event}
use Rattle.unix_calls.specs.declared.Event.TheVariants as events
use Rattle.unix_calls.specs.declared.Part.{Part}
use Rattle.unix_calls.specs.declared.Part.TheVariants.{Whole}
use Rattle.call_journal.specs.Calls.{error_in, is_unreachable_error, is_whole}
use Rattle.server_kernel.specs.Steps.{server_step}
use Rattle.server_walks.specs.Served.{is_refusal, is_served, is_served_part, is_served_reply}
use Rattle.server_walks.proofs.TellingLaws.{servers_tell}
use Rattle.cause_entries.specs.Causes.{ServersCallNoneUnreachable, is_unreachable_event, unreachable_in}
use Rattle.cause_entries.proofs.CauseLaws.{none_by}

refusal_reaches : (why : Errno) → is_refusal why ≡ true → is_unreachable_error (Some why) ≡ false
refusal_reaches Unreachable h = absurd (cc)
refusal_reaches why h = refl

entry_reaches : (part : Part) (reply : Option Reply) → (is_served_part part && is_served_reply reply) ≡ true → (is_whole part && is_unreachable_error (error_in reply)) ≡ false
entry_reaches Whole None h = refl
entry_reaches Whole (Some (Value first second bytes)) h = refl
entry_reaches Whole (Some (Error why)) h = refusal_reaches why h
entry_reaches part reply h = absurd (cc)

served_reaches : (event : Event) → is_served event ≡ true → is_unreachable_event event ≡ false
served_reaches (events.Enter entry) h = entry_reaches entry.part entry.reply h
served_reaches event h = refl

none_served : (told : List Event) → AllByRecursion (λ (event : Event). is_served event ≡ true) told → unreachable_in told ≡ []
none_served [] h = refl
none_served (event ∷ rest) h = ap (λ (found : List Entry). found ++ unreachable_in rest) (none_by event (served_reaches event h.0)) ∙ none_served rest h.1

pub servers_call : ServersCallNoneUnreachable
servers_call s input next = none_served (server_step s input next).1.events (servers_tell s input next)
