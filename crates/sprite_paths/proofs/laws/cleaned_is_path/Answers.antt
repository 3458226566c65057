use Rattle.sprite_paths.proofs.PathLaws.{cleaned_path}
use Rattle.sprite_paths.proofs.laws.cleaned_is_path.Goals as goal

pub returns : goal.returns
returns c = cleaned_path
