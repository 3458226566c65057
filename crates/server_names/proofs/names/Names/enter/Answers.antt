use Rattle.std.proofs.Common.{sym, subst}
use Rattle.server_names.specs.Names.{IsSound}
use Rattle.server_names.proofs.SoundLaws.{sound_made}
use Rattle.server_names.proofs.names.Names.enter.Goals as goal

pub invariant_of-self-2 : goal.invariant_of-self-2
invariant_of-self-2 c = subst IsSound (sym c.in_ok-put.ensures.ok) (sound_made c.self.inside.tree c.args.path.now c.args.entry c.in_ok-makeable.ensures c.self.invariant)
