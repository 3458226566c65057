-- The tries of echoes and broadcasts end, and nothing goes where an echo was given up.
use Rattle.std.specs.Prelude.{ℕ, ◌+◌, Bool, true, if◌then◌else◌, List, count_by}
use Rattle.unix_calls.specs.declared.description.Description.{Description}
use Rattle.unix_calls.specs.declared.event.Event.{Event}
use Rattle.unix_calls.specs.declared.event.Event.TheVariants as event
use Rattle.unix_calls.specs.declared.event.Rec.{Rec}
use Rattle.call_journal.specs.Past.{Past, each_record}
use Rattle.call_journal.specs.Matching.{is_at, is_expire}
use Rattle.call_journal.specs.WorthPackets.{is_limited, ends_at_eight, is_sent_well}

abbrev pub ends_well_at : Description → Past → ℕ → ℕ → Bool → Bool
ends_well_at c past kernel tx last =
    if is_limited c past kernel tx then ends_at_eight (count_by (is_at kernel (is_expire tx)) past.records + 1) last else true

abbrev pub echo_well : Description → Past → ℕ → Event → Bool
echo_well c past kernel (event.Expire tx last) = ends_well_at c past kernel tx.0 last
echo_well c past kernel (event.Send tx to about kind) = is_sent_well c past to about
echo_well c past kernel _ = true

abbrev pub tries_end : Description → List Rec → Bool
tries_end c trace = each_record c (λ past rec rest. echo_well c past rec.kernel rec.event) trace
