use Rattle.std.proofs.Common.{rules, arith, subst, List, ◌≡◌, map, Some, true, nat_lt, length}
use Rattle.std.proofs.lemmas.Bool.Decides.{nat_tests}
use Rattle.toml.specs.Data.{as_table}
use Rattle.toml.specs.View.{view, table_view}
use Rattle.cluster_file.specs.declared.keys.Section.TheVariants.{Kernel}
use Rattle.cluster_file.specs.declared.rows.KernelRow.{KernelRow}
use Rattle.cluster_file.specs.Refusals.{IsRefusedBy}
use Rattle.cluster_file.specs.Rows.{where_room, kernel_row, rows_in}
use Rattle.cluster_file.proofs.RefusalLaws.{refused_at_table, refused_where_room}
use Rattle.cluster_file.proofs.row_lists.kernel_rows.Goals as goal

pub returns-in_err-row-clause-refused : goal.returns-in_err-row-clause-refused
returns-in_err-row-clause-refused c =
    let t = table_view c.in-Some.table.now in
    let e = c.in_err-row.field-0.0 in
    let bad = subst (λ (rows : List KernelRow). IsRefusedBy (kernel_row rows t) e) c.as_slice.ensures c.in_err-row.ensures.refused in
    let room : nat_lt (length c.loop-element.rows) 16 ≡ true = grind (arith, nat_tests, c.if-len-ge16.false, c.len.ensures) in
    let found : as_table (view c.element-item.result) ≡ Some t = search (rules, c.in-Some.is, c.as_table.ensures) in
    let told = refused_at_table (λ earlier table. where_room Kernel earlier (kernel_row earlier table)) c.loop-element.rows c.args.elements.now c.loop-element.element-index c.element-item.result t (rows_in Kernel kernel_row (map view c.args.elements.now)) e c.loop-element.invariant (omega (arith, c.loop-element-test.true, c.loop-element.auto.element-index-end)) c.element-item.is found (refused_where_room Kernel c.loop-element.rows (kernel_row c.loop-element.rows t) e room bad) in
    search (rules, told)
