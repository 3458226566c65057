use Rattle.sprite_paths.proofs.PathLaws.{one_text}
use Rattle.sprite_paths.proofs.laws.text_tells_path.Goals as goal

pub returns : goal.returns
returns c = one_text
