-- What may be known of the packets of a trace.
use Rattle.std.specs.Prelude.{◌≡◌, true, List}
use Rattle.unix_calls.specs.declared.description.Description.{Description}
use Rattle.unix_calls.specs.declared.event.Rec.{Rec}
use Rattle.packet_worth.specs.Faults.{faults_are_few}
use Rattle.packet_worth.specs.Losses.{losses_are_met}

-- a try is over only where a packet was lost since it went out, and no more packets meet a fault than go out
pub record KnowsPackets (c : Description) (trace : List Rec) : Type 0 where
  pub losses : losses_are_met c trace ≡ true
  pub faults : faults_are_few c trace ≡ true
