-- A trace is worth its units: no record stands for nothing.
use Rattle.std.specs.Prelude.{List, IsTrue}
use Rattle.unix_calls.specs.declared.description.Description.{Description}
use Rattle.unix_calls.specs.declared.event.Rec.{Rec}
use Rattle.call_journal.specs.WorthBursts.{bursts_are_worth}
use Rattle.call_journal.specs.WorthPackets.{deliveries_are_few, expires_are_worth}
use Rattle.call_journal.specs.WorthSends.{sends_are_worth}
use Rattle.call_journal.specs.WorthRecords.{records_are_worth}
use Rattle.call_journal.specs.WorthCaches.{caches_are_worth}
use Rattle.call_journal.specs.WorthKills.{kills_are_heeded}

-- the trace of a run of the described cluster is worth its units
pub record Worth (c : Description) (trace : List Rec) : Type 0 where
  pub bursts : IsTrue (bursts_are_worth c trace)
  pub deliveries : IsTrue (deliveries_are_few trace)
  pub expires : IsTrue (expires_are_worth c trace)
  pub sends : IsTrue (sends_are_worth c trace)
  pub records : IsTrue (records_are_worth c trace)
  pub caches : IsTrue (caches_are_worth c trace)
  pub kills : IsTrue (kills_are_heeded c trace)
