use Rattle.server_names.proofs.SoundLaws.{hung_in}
use Rattle.server_names.proofs.laws.entries_hang_in_directories.Goals as goal

pub returns : goal.returns
returns c = hung_in
