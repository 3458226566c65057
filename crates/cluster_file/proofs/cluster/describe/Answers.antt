use Rattle.std.proofs.Common.{rules}
use Rattle.toml.specs.View.{table_view}
use Rattle.cluster_file.specs.Clusters.{cluster_of}
use Rattle.cluster_file.specs.Rows.{read_rows}
use Rattle.cluster_file.proofs.RefusalLaws.{refused_then}
use Rattle.cluster_file.proofs.cluster.describe.Goals as goal

pub returns-in_err-rows-clause-refused : goal.returns-in_err-rows-clause-refused
returns-in_err-rows-clause-refused c =
    let bad = refused_then cluster_of (read_rows (table_view c.args.document.now)) c.in_err-rows.field-0.0 c.in_err-rows.ensures.refused in
    search (rules, bad)
