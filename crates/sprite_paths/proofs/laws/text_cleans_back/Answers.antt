use Rattle.sprite_paths.proofs.PathLaws.{clean_again}
use Rattle.sprite_paths.proofs.laws.text_cleans_back.Goals as goal

pub returns : goal.returns
returns c = clean_again
