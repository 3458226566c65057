-- What is known of the trace of each run, by proof, and needn't be asked.
use Rattle.std.specs.Prelude.{◌≡◌, true, List}
use Rattle.unix_calls.specs.declared.description.Description.{Description}
use Rattle.unix_calls.specs.declared.event.Rec.{Rec}
use Rattle.call_journal.specs.PrefixBroadcasts.{prefixes_are_broadcast_until_learned}
use Rattle.trace_worth.specs.Known.{KnowsWorth}

-- prefixes are broadcast only until they are learned, and some of what makes records worth their units
pub record KnowsRun (c : Description) (trace : List Rec) : Type 0 where
  pub broadcasts : prefixes_are_broadcast_until_learned c trace ≡ true
  pub worth : KnowsWorth c trace
