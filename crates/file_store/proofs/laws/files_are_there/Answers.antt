use Rattle.file_store.proofs.FileLaws.{changed_there, made_there, gone_there}
use Rattle.file_store.proofs.laws.files_are_there.Goals as goal

pub returns : goal.returns
returns c = record { changed = changed_there; made = made_there; gone = gone_there }
