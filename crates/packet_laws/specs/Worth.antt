-- How records that tell of packets and timers should be, as far as that doesn't look at what a request is for.
use Rattle.std.specs.Prelude.{◌≡◌, ℕ, ◌==◌, Bool, true, ◌&&◌, if◌then◌else◌, List, count_by}
use Rattle.unix_calls.specs.declared.Description.{Description}
use Rattle.unix_calls.specs.declared.Event.{Event}
use Rattle.unix_calls.specs.declared.Event.TheVariants as events
use Rattle.unix_calls.specs.declared.Rec.{Rec}
use Rattle.call_journal.specs.Matching.{is_at, is_expire}
use Rattle.call_journal.specs.Past.{Past, each_record}
use Rattle.call_journal.specs.WorthPackets.{are_faults_few, has_loss}
use Rattle.packet_laws.specs.Deliveries.{was_sent_enough}

-- a timer fires only behind a loss of its call's packets since the call's request was sent last, and for the last time at the eighth; no
-- more packets meet a fault than go out; and at most six packets of a call come for each time that one goes out to their receiver
abbrev pub goes_well : Past → ℕ → Event → Bool
goes_well past kernel (events.Expire tx last) = has_loss past kernel tx.0 && (if last then count_by (is_at kernel (is_expire tx.0)) past.records == 7 else true)
goes_well past kernel (events.Fault a b met) = are_faults_few past a b
goes_well past kernel (events.Deliver tx from reply about) = was_sent_enough past tx.0 (if reply then from else kernel)
goes_well past kernel event = true

-- each record of a trace is so
abbrev pub AllGoWell : List Rec → Type 0
AllGoWell trace = (c : Description) → each_record c (λ past r rest. goes_well past r.kernel r.event) trace ≡ true
