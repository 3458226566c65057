use Rattle.fill_facts.proofs.NoCache.{no_turns_are_in_order}
use Rattle.fill_facts.proofs.no_cache.no_turns_are_in_order.Goals as goal

pub returns : goal.returns
returns c = no_turns_are_in_order
