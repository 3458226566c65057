use Rattle.toml.specs.View.{table_view}
use Rattle.cluster_file.proofs.ClusterLaws.{judged_as, not_read, refused_for, no_memory, ok_for, err_for}
use Rattle.cluster_file.proofs.cluster.read_description.Goals as goal

pub returns-in-Ok-clause-described : goal.returns-in-Ok-clause-described
returns-in-Ok-clause-described c =
    ok_for c.describe.result c.args.bytes.now _ (judged_as c.args.bytes.now (table_view c.in-Ok.document) c.if-bytes-gt-MOST_BYTES.false c.in-Ok.ensures.ok.0 c.in-Ok.ensures.ok.1) c.describe.ensures.described

pub returns-in-Ok-clause-refused : goal.returns-in-Ok-clause-refused
returns-in-Ok-clause-refused c =
    err_for c.describe.result c.args.bytes.now _ (judged_as c.args.bytes.now (table_view c.in-Ok.document) c.if-bytes-gt-MOST_BYTES.false c.in-Ok.ensures.ok.0 c.in-Ok.ensures.ok.1) c.describe.ensures.refused

pub returns-else-is_memory-clause-refused : goal.returns-else-is_memory-clause-refused
returns-else-is_memory-clause-refused c =
    refused_for c.args.bytes.now 2 c.refused-else-is_memory.result c.refused-else-is_memory.ensures (not_read c.args.bytes.now c.if-bytes-gt-MOST_BYTES.false (c.in-Err.ensures.refused (λ memory. absurd (no_memory c.is_memory.result c.if-is_memory.false (c.is_memory.ensures.1 memory)))))
