use Rattle.file_store.proofs.FileLaws.{others_changed, others_made, others_gone}
use Rattle.file_store.proofs.laws.other_files_stay.Goals as goal

pub returns : goal.returns
returns c = record { changed = others_changed; made = others_made; gone = others_gone }
