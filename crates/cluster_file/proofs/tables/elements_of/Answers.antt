use Rattle.toml.specs.View.{view}
use Rattle.std.proofs.Common.{rules}
use Rattle.cluster_file.proofs.TableLaws.{elements_known}
use Rattle.cluster_file.proofs.tables.elements_of.Goals as goal

pub returns-in-Some : goal.returns-in-Some
returns-in-Some c = elements_known (view c.args.value.now) c.as_slice.result.now (search rules)
