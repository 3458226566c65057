use Rattle.std.proofs.Common.{rules, arith, subst, List}
use Rattle.unix_calls.specs.declared.description.KernelLine.{KernelLine}
use Rattle.cluster_file.specs.Refusals.{IsRefusedBy}
use Rattle.cluster_file.specs.Paths.{kernel_line, kernel_lines}
use Rattle.cluster_file.proofs.RefusalLaws.{refused_at_element}
use Rattle.cluster_file.proofs.file_paths.kernel_lines.Goals as goal

pub returns-in_err-line-clause-refused : goal.returns-in_err-line-clause-refused
returns-in_err-line-clause-refused c =
    let bad = subst (λ (lines : List KernelLine). IsRefusedBy (kernel_line lines c.row-item.result) c.in_err-line.field-0.0) c.as_slice.ensures c.in_err-line.ensures.refused in
    let told = refused_at_element kernel_line c.loop-row.lines c.args.rows.now c.loop-row.row-index c.row-item.result (kernel_lines c.args.rows.now) c.in_err-line.field-0.0 c.loop-row.invariant (omega (arith, c.loop-row-test.true, c.loop-row.auto.row-index-end)) c.row-item.is bad in
    search (rules, told)
