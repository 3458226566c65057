use Rattle.prefix_table.proofs.PrefixLaws.{new_server, old_server}
use Rattle.prefix_table.proofs.laws.other_servers_stay.Goals as goal

pub returns : goal.returns
returns c = λ domains prefix other server. (new_server domains prefix server, λ apart. old_server domains prefix other server apart)
