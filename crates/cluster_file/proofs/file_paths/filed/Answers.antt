use Rattle.std.proofs.Common.{rules, arith, subst, List}
use Rattle.unix_calls.specs.declared.description.FileLine.{FileLine}
use Rattle.cluster_file.specs.Refusals.{IsRefusedBy}
use Rattle.cluster_file.specs.Paths.{file_line, filed}
use Rattle.cluster_file.proofs.RefusalLaws.{refused_at_element}
use Rattle.cluster_file.proofs.file_paths.filed.Goals as goal

pub returns-in_err-line-clause-refused : goal.returns-in_err-line-clause-refused
returns-in_err-line-clause-refused c =
    let bad = subst (λ (lines : List FileLine). IsRefusedBy (file_line c.args.kernels.now c.args.paths.now lines c.row-item.result) c.in_err-line.field-0.0) c.as_slice.ensures c.in_err-line.ensures.refused in
    let told = refused_at_element (file_line c.args.kernels.now c.args.paths.now) c.loop-row.lines c.args.rows.now c.loop-row.row-index c.row-item.result (filed c.args.kernels.now c.args.paths.now c.args.rows.now) c.in_err-line.field-0.0 c.loop-row.invariant (omega (arith, c.loop-row-test.true, c.loop-row.auto.row-index-end)) c.row-item.is bad in
    search (rules, told)
