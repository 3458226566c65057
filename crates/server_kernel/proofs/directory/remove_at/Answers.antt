use Rattle.server_kernel.proofs.DomainLaws.{unchanged_at}
use Rattle.server_kernel.proofs.directory.remove_at.Goals as goal

pub returns-clause-err : goal.returns-clause-err
returns-clause-err c = unchanged_at c.remove_name.result c.args.domains.now c.args.at _ c.remove_name.new.domain c.at_mut.ensures.value c.remove_name.ensures.err
