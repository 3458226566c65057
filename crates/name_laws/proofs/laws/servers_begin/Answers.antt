use Rattle.name_laws.proofs.BootLaws.{servers_begin}
use Rattle.name_laws.proofs.laws.servers_begin.Goals as goal

pub returns : goal.returns
returns c = servers_begin
