use Rattle.sprite_paths.proofs.PathLaws.{behind_joined}
use Rattle.sprite_paths.proofs.laws.behind_undoes_join.Goals as goal

pub returns : goal.returns
returns c = behind_joined
