-- Whether a trace is worth its units, part by part.
use Rattle.std.specs.Prelude.{Bool, List, ◌&&◌}
use Rattle.unix_calls.specs.declared.description.Description.{Description}
use Rattle.unix_calls.specs.declared.event.Rec.{Rec}
use Rattle.call_journal.specs.WorthBursts.{bursts_are_worth}
use Rattle.call_journal.specs.WorthPackets.{deliveries_are_few, expires_are_worth}
use Rattle.call_journal.specs.WorthSends.{sends_are_worth}
use Rattle.call_journal.specs.WorthRecords.{records_are_worth}
use Rattle.call_journal.specs.WorthCaches.{caches_are_worth}
use Rattle.call_journal.specs.WorthKills.{kills_are_heeded}

abbrev pub is_worth : Description → List Rec → Bool
is_worth c trace =
    bursts_are_worth c trace
    && (deliveries_are_few trace
    && (expires_are_worth c trace
    && (sends_are_worth c trace
    && (records_are_worth c trace
    && (caches_are_worth c trace && kills_are_heeded c trace)))))
