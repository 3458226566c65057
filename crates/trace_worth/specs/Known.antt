-- What may be known of a trace of what makes it worth its units.
use Rattle.std.specs.Prelude.{◌≡◌, true, List}
use Rattle.unix_calls.specs.declared.description.Description.{Description}
use Rattle.unix_calls.specs.declared.event.Rec.{Rec}
use Rattle.call_journal.specs.WorthPackets.{deliveries_are_few}
use Rattle.echo_worth.specs.Known.{KnowsPackets}
use Rattle.record_worth.specs.Parts.{prefixes_are_learned_once}

-- at most six packets come for each that goes out, tries and faults have their packets, and no kernel learns a prefix twice
pub record KnowsWorth (c : Description) (trace : List Rec) : Type 0 where
  pub few : deliveries_are_few trace ≡ true
  pub packets : KnowsPackets c trace
  pub learned : prefixes_are_learned_once c trace ≡ true
