-- Packets go for the sake of calls that are issued, and not too many for one.
use Rattle.std.specs.Prelude.{ℕ, ◌+◌, ◌*◌, ◌==◌, Bool, true, false, ◌&&◌, ◌||◌, not, if◌then◌else◌, List, [], ◌∷◌, nat_le, count_by, Option, Some, None}
use Rattle.std.specs.List.{list_any}
use Rattle.unix_calls.specs.declared.description.Description.{Description}
use Rattle.unix_calls.specs.declared.event.About.{About}
use Rattle.unix_calls.specs.declared.event.SendKind.{SendKind}
use Rattle.unix_calls.specs.declared.event.Event.{Event}
use Rattle.unix_calls.specs.declared.event.Event.TheVariants as event
use Rattle.unix_calls.specs.declared.event.Rec.{Rec}
use Rattle.call_journal.specs.Past.{Past, each_record}
use Rattle.call_journal.specs.Matching.{is_about, is_issue, is_fetch_kind, is_write_back_kind, has_event}

-- a fetch or a write-back moves blocks, any other packet doesn't
abbrev pub moves_blocks : SendKind → Bool
moves_blocks kind = is_fetch_kind kind || is_write_back_kind kind

-- a packet for the sake of the call that moves no block
abbrev pub is_counted_send : About → Event → Bool
is_counted_send call (event.Send t s about kind) = is_about call.pid call.number about && not (moves_blocks kind)
is_counted_send call _ = false

-- a grant or a callback to that kernel
abbrev pub is_for : ℕ → Event → Bool
is_for kernel (event.Grant file to stamp mode) = to == kernel
is_for kernel (event.Callback file to stamp kind) = to == kernel
is_for kernel _ = false

-- how many of these came to the kernel of a call's issue since then
abbrev pub given_since : About → List Rec → ℕ
given_since call [] = 0
given_since call (rec ∷ rest) =
    if is_issue call.pid call.number rec.event then count_by (has_event (is_for rec.kernel)) rest else given_since call rest

-- at most 512 packets for the sake of a call, and one more for each of these
abbrev pub are_sends_few : Past → About → Bool
are_sends_few past call =
    nat_le (count_by (has_event (is_counted_send call)) past.records + 1) (512 + given_since call past.records)

-- a packet for the sake of a call goes behind its issue
abbrev pub is_issued : Past → About → Bool
is_issued past call = list_any (has_event (is_issue call.pid call.number)) past.records

abbrev pub sends_for : Past → SendKind → Option About → Bool
sends_for past kind None = true
sends_for past kind (Some call) = is_issued past call && (moves_blocks kind || are_sends_few past call)

abbrev pub sends_well : Past → Event → Bool
sends_well past (event.Send tx to about kind) = sends_for past kind about
sends_well past _ = true

-- a packet for the sake of no call, that writes back no block
abbrev pub is_free_send : Event → Bool
is_free_send (event.Send t s None kind) = not (is_write_back_kind kind)
is_free_send _ = false

-- what such packets go for
abbrev pub is_occasion : Event → Bool
is_occasion (event.Callback file to stamp kind) = true
is_occasion (event.Freeze pid) = true
is_occasion (event.Thaw pid) = true
is_occasion (event.Enter entry) = true
is_occasion _ = false

-- in the whole trace at most 64 of them for each occasion
abbrev pub are_free_sends_few : List Rec → Bool
are_free_sends_few trace = nat_le (count_by (has_event is_free_send) trace) (64 * count_by (has_event is_occasion) trace)

abbrev pub sends_are_worth : Description → List Rec → Bool
sends_are_worth c trace = each_record c (λ past rec rest. sends_well past rec.event) trace && are_free_sends_few trace
