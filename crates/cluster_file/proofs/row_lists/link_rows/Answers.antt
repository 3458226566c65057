use Rattle.std.proofs.Common.{Ok, ap, map}
use Rattle.toml.specs.View.{view}
use Rattle.cluster_file.specs.declared.keys.Section.TheVariants.{Link}
use Rattle.cluster_file.specs.Refusals.{read_on}
use Rattle.cluster_file.specs.Tables.{tables_in}
use Rattle.cluster_file.specs.Rows.{where_room, link_row}
use Rattle.cluster_file.proofs.row_lists.link_rows.Goals as goal

pub loop-element-init : goal.loop-element-init
loop-element-init c =
    ap (λ rows. read_on (λ earlier table. where_room Link earlier (link_row earlier table)) (Ok rows) (tables_in (map view c.args.elements.now))) c.new-rows.ensures
