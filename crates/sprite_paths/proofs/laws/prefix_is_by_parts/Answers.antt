use Rattle.sprite_paths.proofs.PathLaws.{prefix_by_text}
use Rattle.sprite_paths.proofs.laws.prefix_is_by_parts.Goals as goal

pub returns : goal.returns
returns c = prefix_by_text
