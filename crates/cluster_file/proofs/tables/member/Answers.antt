use Rattle.toml.proofs.Views.{table_get}
use Rattle.cluster_file.proofs.tables.member.Goals as goal

pub returns : goal.returns
returns c = table_get c.get.result c.args.key.now _ c.get.ensures.value
