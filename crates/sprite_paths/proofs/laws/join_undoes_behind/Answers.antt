use Rattle.sprite_paths.proofs.PathLaws.{joined_behind}
use Rattle.sprite_paths.proofs.laws.join_undoes_behind.Goals as goal

pub returns : goal.returns
returns c = joined_behind
