use Rattle.prefix_laws.proofs.LearnLaws.{clients_begin}
use Rattle.prefix_laws.proofs.prefixes.clients_begin_with_none.Goals as goal

pub returns : goal.returns
returns c = clients_begin
