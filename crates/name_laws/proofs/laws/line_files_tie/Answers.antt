use Rattle.name_laws.proofs.TieLaws.{line_files_tie}
use Rattle.name_laws.proofs.laws.line_files_tie.Goals as goal

pub returns : goal.returns
returns c = line_files_tie
