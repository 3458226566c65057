use Rattle.std.proofs.Common.{List, ◌+◌, ◌∙◌, ap, drop, length, arith}
use Rattle.unix_calls.specs.declared.state.Process.{Process}
use Rattle.unix_calls.specs.Answers.{program_at}
use Rattle.unix_calls.specs.Boot.{started}
use Rattle.unix_world.proofs.BootLaws.{length_started, started_step}
use Rattle.unix_world.proofs.booting.start_all.Goals as goal

pub loop-line-preserved : goal.loop-line-preserved
loop-line-preserved c =
    let programs = c.args.programs.now in
    let lines = c.args.starts.now in
    let i = c.loop-line.line-index in
    let line = c.line-item.result in
    let ps = c.loop-line.processes in (
      ap (λ (qs : List Process). started programs qs (drop (i + 1) lines)) c.in_ok-start.ensures
          ∙ started_step programs lines i line ps c.loop-line-test.true c.line-item.is
          ∙ c.loop-line.invariant.0,
      omega (arith, ap (λ (qs : List Process). length qs) c.in_ok-start.ensures, length_started line ps (program_at programs line.program), c.loop-line.invariant.1),
    )
