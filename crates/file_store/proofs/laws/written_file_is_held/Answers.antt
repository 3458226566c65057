use Rattle.file_store.proofs.FileLaws.{given_held}
use Rattle.file_store.proofs.laws.written_file_is_held.Goals as goal

pub returns : goal.returns
returns c = given_held
