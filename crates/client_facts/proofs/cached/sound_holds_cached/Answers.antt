use Rattle.client_facts.proofs.CacheLaws.{sound_holds_cached}
use Rattle.client_facts.proofs.cached.sound_holds_cached.Goals as goal

pub returns : goal.returns
returns c = sound_holds_cached
