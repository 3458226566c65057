use Rattle.std.proofs.Common.{List, [], sym, ap₂, subst, ◌∙◌}
use Rattle.unix_calls.specs.declared.description.ProgramLine.{ProgramLine}
use Rattle.unix_calls.specs.declared.description.StartLine.{StartLine}
use Rattle.unix_calls.specs.Boot.{started}
use Rattle.unix_calls.proofs.NumberLaws.{boot_numbered}
use Rattle.unix_world.specs.Among.{Ascending}
use Rattle.unix_world.proofs.ProcessLaws.{ascends_from}
use Rattle.unix_world.proofs.booting.boot.Goals as goal

pub returns-clause-ascends : goal.returns-clause-ascends
returns-clause-ascends c =
    let d = c.args.c.now in
    let same = c.in_ok-processes.ensures ∙ ap₂ (λ (programs : List ProgramLine) (starts : List StartLine). started programs [] starts) c.as_slice-3.ensures c.as_slice-4.ensures in
    let numbered = boot_numbered d c.requires.starts in
    subst Ascending (sym same) (ascends_from (started d.programs [] d.starts) numbered.ascending)
